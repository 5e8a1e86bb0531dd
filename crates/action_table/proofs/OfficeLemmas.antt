-- The definitions of an office by their numbers and ids.
use Rattle.std.proofs.Common.{◌≡◌, ℕ, ◌+◌, ◌<◌, Bool, cond, not, nat_lt, true, false, ◌≤◌, inl, inr, get_or, arith, List, [], ◌∷◌, None, Some, All, IfSome, length, map, refl, sym, ap, ◌∙◌, subst}
use Rattle.std.specs.Prelude.{position, slice_get}
use Rattle.std.specs.List.{position_or_len, prefix_len}
use Rattle.std.specs.Str.{bytes_eq}
use Rattle.std.proofs.lemmas.Bool.{cases_lt, lt-ltb}
use Rattle.std.proofs.lemmas.List.{length-map}
use Rattle.std.proofs.lemmas.List.Elements.{All-from_recursion, All-map}
use Rattle.std.proofs.lemmas.List.Quantifiers.{position-Some}
use Rattle.std.proofs.lemmas.List.Sums.{fails_before_first, passes_at_first}
use Rattle.std.proofs.lemmas.Option.{get_or_from_slice_get, slice_get-get_or, slice_get-map, slice_get_within}
use Rattle.std.proofs.lemmas.Slice.Eq.{bytes_eq-Decides}
use Rattle.ordered_json.proofs.KeyLemmas.{bytes_eq-flip}
use Rattle.guard_eval.specs.declared.def.Def.{Def}
use Rattle.machine_json.specs.declared.machine.Machine.{Machine}
use Rattle.office_types.specs.Definitions.{ActorLogic, AreLinked, MachineOutline, machine_named}
use Rattle.action_table.specs.declared.definitions.Actor.{Actor}
use Rattle.action_table.specs.declared.definitions.Actor.TheVariants as actor
use Rattle.action_table.specs.declared.definitions.Defs.{Defs}
use Rattle.action_table.specs.declared.table.Table.{Table}
use Rattle.action_table.specs.declared.table.TableActor.{TableActor}
use Rattle.action_table.specs.declared.table.TableActor.TheVariants as table_actor
use Rattle.action_table.specs.Definitions.{actor_logic, machine_outline, office_definitions}
use Rattle.action_table.specs.DefNames.{HasIds, HaveDistinctIds, ids_of_machines}
use Rattle.action_table.specs.Linking.{AreLinkedTo, IsLinkedMachine, linked_actor, linked_logic, machine_number}
use Rattle.action_table.proofs.ThereLemmas.{map-some, there-each, zip-length}

-- ---- places in a list

prefix-map : {X Y : Type 0} (f : X → Y) (p : Y → Bool) (xs : List X) → prefix_len p (map f xs) ≡ prefix_len (λ x. p (f x)) xs
prefix-map f p [] = refl
prefix-map f p (x ∷ xs) = ap (λ n. cond (p (f x)) (1 + n) 0) (prefix-map f p xs)

pub position-map : {X Y : Type 0} (f : X → Y) (p : Y → Bool) (xs : List X) → position p (map f xs) ≡ position (λ x. p (f x)) xs
position-map f p xs =
    ap (λ n. cond (nat_lt n (length (map f xs))) (Some n) None) (prefix-map f (λ y. not (p y)) xs)
    ∙ ap (λ l. cond (nat_lt (position_or_len (λ x. p (f x)) xs) l) (Some (position_or_len (λ x. p (f x)) xs)) None) (length-map xs f)

-- ---- ids

-- the place of an id is that of the definition with the id
pub id-place : (ids : List (List ℕ × ℕ)) (defs : List Def) (id : List ℕ) → HasIds ids defs
    → position (λ (row : List ℕ × ℕ). bytes_eq id row.0) ids ≡ position (λ (def : Def). bytes_eq id def.name) defs
id-place ids defs id has =
    sym (position-map (λ (row : List ℕ × ℕ). row.0) (bytes_eq id) ids) ∙ ap (position (bytes_eq id)) has.ids_are
    ∙ position-map (λ (def : Def). def.name) (bytes_eq id) defs

-- the only definition with an id is at the place of the id
pub own-place : (defs : List Def) (n : ℕ) (def : Def) (id : List ℕ) → HaveDistinctIds defs → slice_get defs n ≡ Some def → def.name ≡ id
    → position (λ (d : Def). bytes_eq id d.name) defs ≡ Some n
own-place defs n def id distinct at is =
    let has : Def → Bool = λ d. bytes_eq id d.name in
    let first : ℕ = position_or_len has defs in
    let inside : n < length defs = slice_get_within defs n def at in
    let own : has (get_or defs n def) ≡ true = subst (λ (d : Def). has d ≡ true) (sym (get_or_from_slice_get defs n def def at)) ((bytes_eq-Decides id def.name).1 (sym is)) in
    let up_to : first ≤ n = elim (cases_lt n first) as (λ _. first ≤ n) [
      | inl below ↦ let both : true ≡ false = sym own ∙ fails_before_first has defs n def below in absurd (cc)
      | inr other ↦ other
    ] in
    let within : first < length defs = omega (arith, inside, up_to) in
    let same : (get_or defs first def).name ≡ id = sym ((bytes_eq-Decides id (get_or defs first def).name).0 (passes_at_first has defs def within)) in
    let there : first ≡ n = distinct first n (get_or defs first def) def (slice_get-get_or defs first def within) at (same ∙ sym is) in
    ap (λ (b : Bool). cond b (Some first) None) (lt-ltb first (length defs) within) ∙ ap Some there

-- the number of a machine among the definitions of an office
pub named-place : (defs : Defs) (id : List ℕ) → position (λ (def : Def). bytes_eq id def.name) defs.defs ≡ machine_named (office_definitions defs) id
named-place defs id =
    ap (λ (p : Def → Bool). position p defs.defs) (λ i def. bytes_eq-flip id def.name i)
    ∙ sym (position-map machine_outline (λ (machine : MachineOutline). bytes_eq machine.id id) defs.defs)

-- a machine of an office's definitions is what stands at its place
pub outline-at : (defs : Defs) (n : ℕ) (machine : MachineOutline) → slice_get (office_definitions defs).machines n ≡ Some machine
    → (def : Def) × (slice_get defs.defs n ≡ Some def) × (def.name ≡ machine.id)
outline-at defs n machine at =
    let found = map-some machine_outline (slice_get defs.defs n) machine (sym (slice_get-map machine_outline defs.defs n) ∙ at) in
    (found.0, found.1, ap (λ (m : MachineOutline). m.id) found.2)

-- ---- actors

-- an actor of a machine names one of so many
abbrev NamesMachine : ℕ → List ℕ × Actor → Type 0
NamesMachine count row = IfSome (actor_logic row).machine (λ machine. machine < count)

logic-inside : (machines : List Machine) (name : List ℕ) (held : TableActor) (linked : Actor) → linked_logic (ids_of_machines machines) held ≡ Some linked → NamesMachine (length machines) (name, linked)
logic-inside machines name (table_actor.Machine named) linked is =
    let found = map-some actor.Machine (machine_number (ids_of_machines machines) named.name) linked is in
    let inside : found.0 < length (ids_of_machines machines) = (position-Some (λ (row : List ℕ × ℕ). bytes_eq named.name row.0) (ids_of_machines machines) found.0 ([], 0) found.1).0 in
    subst (λ (logic : Actor). NamesMachine (length machines) (name, logic)) found.2
    (subst (λ count. found.0 < count) (length-map machines (λ (machine : Machine). (machine.name, machine.place))) inside)
logic-inside machines name table_actor.Promise linked is =
    let same : actor.Promise ≡ linked = cc in
    subst (λ (logic : Actor). NamesMachine (length machines) (name, logic)) same tt

actor-inside : (machines : List Machine) (row : List ℕ × TableActor) (linked : List ℕ × Actor) → linked_actor (ids_of_machines machines) row ≡ Some linked → NamesMachine (length machines) linked
actor-inside machines row linked is =
    let found = map-some (λ (logic : Actor). (row.0, logic)) (linked_logic (ids_of_machines machines) row.1) linked is in
    subst (NamesMachine (length machines)) found.2 (logic-inside machines row.0 row.1 found.0 found.1)

pub office-linked : (machines : List Machine) (table : Table) (defs : Defs) → AreLinkedTo machines table defs → AreLinked (office_definitions defs)
office-linked machines table defs linked =
    let count : length (map machine_outline defs.defs) ≡ length machines =
    length-map defs.defs machine_outline ∙ zip-length (IsLinkedMachine table) machines defs.defs linked.machines_are in
    let each = there-each (linked_actor (ids_of_machines machines)) (NamesMachine (length machines)) (actor-inside machines) table.actors defs.actors linked.actors_are in
    let Q : ℕ → Type 0 = λ n. All (NamesMachine n) defs.actors in
    All-map (λ (logic : ActorLogic). IfSome logic.machine (λ machine. machine < length (map machine_outline defs.defs))) actor_logic defs.actors
    (subst Q (sym count) (All-from_recursion (NamesMachine (length machines)) defs.actors each))
