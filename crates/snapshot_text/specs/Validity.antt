-- The parts of an office's validity as they are decided one after the other.
use Rattle.std.specs.Prelude.{◌≡◌, ◌≢◌, ℕ, ◌&&◌, List, map, Option, false, All, AllPairs, IfSome, IsTrue}
use Rattle.std.specs.List.{flat_map}
use Rattle.std.specs.List.Sorted.{IsPermutation, IsStrictlyIncreasing}
use Rattle.std.specs.Option.{option_map}
use Rattle.xs_model.specs.declared.value.Value.TheVariants.{Null}
use Rattle.guard_eval.specs.declared.def.Def.{Def}
use Rattle.step_sets.specs.Statechart.{IsStatechart}
use Rattle.office_types.specs.declared.office.ActorRecord.{ActorRecord}
use Rattle.office_types.specs.declared.office.Caller.{Caller}
use Rattle.office_types.specs.declared.office.Letter.{Letter}
use Rattle.office_types.specs.declared.office.OfficeState.{OfficeState}
use Rattle.office_types.specs.declared.office.Status.TheVariants as status
use Rattle.office_types.specs.declared.office.Timer.{Timer}
use Rattle.office_types.specs.Limits.{is_name, is_short}
use Rattle.office_types.specs.Records.{is_active}
use Rattle.office_types.specs.ValidOffice.{AreOfOneId, HasEnded, HasNumbersLeft, HasParent, IsCaller, IsLetter, IsTimer, IsWithinLimits, letters_of, names_of}
use Rattle.action_table.specs.declared.definitions.Defs.{Defs}

-- each machine's tree is a statechart
abbrev pub AreStatecharts : Defs → Type 0
AreStatecharts defs = All (λ (def : Def). IsStatechart def.tree) defs.defs

-- the records stand by rising numbers
abbrev pub RecordsRise : List ActorRecord → Type 0
RecordsRise actors = IsStrictlyIncreasing (map (λ (actor : ActorRecord). actor.number) actors)

-- the owner and the id of a timer that has one
abbrev pub timer_key : Timer → Option (ℕ × List ℕ)
timer_key timer = option_map (λ (id : List ℕ). (timer.owner, id)) timer.id

-- the numbers of children
abbrev pub kid_numbers : List (List ℕ × ℕ) → List ℕ
kid_numbers kids = map (λ (kid : List ℕ × ℕ). kid.1) kids

-- the numbers of all children that actors list
abbrev pub child_numbers : List ActorRecord → List ℕ
child_numbers actors = flat_map (λ (actor : ActorRecord). kid_numbers actor.kids) actors

-- each child that is listed has a record with the actor that lists it as parent
abbrev pub HaveParents : OfficeState → Type 0
HaveParents state =
    All (λ (actor : ActorRecord). All (λ (kid : List ℕ × ℕ). HasParent state actor.number kid.1) actor.kids) state.actors

-- the numbers of all children that are listed, sorted, each once
pub record AreListedOnce (state : OfficeState) (listed : List ℕ) : Type 0 where
  pub permutation : IsPermutation (child_numbers state.actors) listed
  pub rise : IsStrictlyIncreasing listed

-- the output and the error are short, and null unless the actor is done or in error
pub record HasItsValues (actor : ActorRecord) : Type 0 where
  pub output : actor.status ≢ status.Done → actor.output ≡ Null
  pub error : actor.status ≢ status.Error → actor.error ≡ Null
  pub short : IsTrue (is_short actor.output && is_short actor.error)

-- what holds of a record on its own
pub record IsPlainRecord (actor : ActorRecord) : Type 0 where
  pub ended : is_active actor ≡ false → HasEnded actor
  pub system : IfSome actor.system (λ name. IsTrue (is_name name))
  pub values : HasItsValues actor
  pub mailbox : IsStrictlyIncreasing (map (λ (letter : Letter). letter.number) actor.mailbox)

-- what holds of the parts of an office but for its records, each on its own
pub record HasPlainParts (state : OfficeState) : Type 0 where
  pub numbers : HasNumbersLeft state
  pub limits : IsWithinLimits state
  pub letters : All (IsLetter state) (letters_of state.actors)
  pub timers : All (IsTimer state) state.timers
  pub timers_rise : IsStrictlyIncreasing (map (λ (timer : Timer). timer.order) state.timers)
  pub names : state.names ≡ names_of state.actors
  pub callers : All IsCaller state.callers

-- no letter, id of a timer, name or caller stands twice
pub record StandOnce (state : OfficeState) : Type 0 where
  pub letters : AllPairs (λ (a b : Letter). a.number ≢ b.number) (letters_of state.actors)
  pub timer_ids : AllPairs (λ a b. AreOfOneId a b → ⊥) state.timers
  pub names : AllPairs (λ (a b : List ℕ × ℕ). a.0 ≢ b.0) state.names
  pub callers : AllPairs (λ (a b : Caller). a.name ≢ b.name) state.callers
