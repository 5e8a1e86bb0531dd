-- What setting the default of a history node changes, and what it leaves.
use Rattle.std.proofs.Common.{◌≡◌, ◌<◌, ◌+◌, ℕ, zero, suc, Bool, cond, List, [], ◌∷◌, length, get_or, refl, sym, ◌∙◌, ap, subst, inl, inr, length-set, ◌&&◌}
use Rattle.std.specs.Prelude.{Option, Some, None, IfSome, slice_get, slice_set, nat_eq}
use Rattle.std.specs.Option.{option_and_then, option_eq, option_map}
use Rattle.std.specs.List.{position, position_from}
use Rattle.std.specs.Str.{bytes_eq}
use Rattle.std.proofs.lemmas.Iterator.Adapters.{position_from-zero}
use Rattle.std.proofs.lemmas.Option.{slice_get_cases}
use Rattle.node_tree.specs.declared.node.Node.{Node}
use Rattle.node_tree.specs.declared.node.Kind.{Kind}
use Rattle.node_tree.specs.declared.node.Kind.TheVariants.{Atomic, Compound, Parallel, Final, Shallow, Deep}
use Rattle.node_tree.specs.Kinds.{IsHistory, IsHistoryKind, with_default, with_default_at}
use Rattle.node_tree.specs.Nodes.{HasNames, HasNewId, IsBelow, child, further, IsOutline, IsPlaced, IsWithin, NamesNodes, TellsRepeated, child_of, id_at, id_of, parent_of}
use Rattle.node_tree.specs.Tables.{AreChildren, AreEnds, AreIds, NodesByName}

-- two lists of rows that differ in their kinds alone
pub record SameLinks (old new : List Node) : Type 0 where
  pub len : length new ≡ length old
  pub parents : (n : ℕ) → parent_of new n ≡ parent_of old n
  pub ids : (n : ℕ) → id_of new n ≡ id_of old n
  pub by_id : (id : List ℕ) → id_at new id ≡ id_at old id
  pub by_key : (n : ℕ) (key : List ℕ) → child_of new n key ≡ child_of old n key

-- what is seen of each row, where one is replaced by one that looks the same
seen-set : {Y : Type 0} (seen : Option Node → Y) (nodes : List Node) (h n : ℕ) (v d : Node) → seen (Some v) ≡ seen (Some (get_or nodes h d))
    → seen (slice_get (slice_set nodes h v) n) ≡ seen (slice_get nodes n)
seen-set seen [] h n v d same = refl
seen-set seen (x ∷ xs) zero zero v d same = same
seen-set seen (x ∷ xs) zero (suc n) v d same = refl
seen-set seen (x ∷ xs) (suc h) zero v d same = refl
seen-set seen (x ∷ xs) (suc h) (suc n) v d same = seen-set seen xs h n v d same

position_from-set : (p : Node → Bool) (i : ℕ) (nodes : List Node) (h : ℕ) (v d : Node) → p v ≡ p (get_or nodes h d)
    → position_from p i (slice_set nodes h v) ≡ position_from p i nodes
position_from-set p i [] h v d same = refl
position_from-set p i (x ∷ xs) zero v d same = ap (λ b. cond b (Some i) (position_from p (i + 1) xs)) same
position_from-set p i (x ∷ xs) (suc h) v d same = ap (cond (p x) (Some i)) (position_from-set p (i + 1) xs h v d same)

position-set : (p : Node → Bool) (nodes : List Node) (h : ℕ) (v d : Node) → p v ≡ p (get_or nodes h d)
    → position p (slice_set nodes h v) ≡ position p nodes
position-set p nodes h v d same =
    rw (position_from-zero p (slice_set nodes h v), position_from-zero p nodes) (position_from-set p 0 nodes h v d same)

-- a row with another kind has the links that it had
pub same_links : (nodes : List Node) (h : ℕ) (node : Node) (kind : Kind) → node ≡ get_or nodes h node
    → SameLinks nodes (slice_set nodes h (record node { kind = kind }))
same_links nodes h node kind is =
    let v : Node = record node { kind = kind } in
    record {
      len = length-set nodes h v;
      parents = λ n. seen-set (λ o. option_and_then (λ (x : Node). x.parent) o) nodes h n v node (ap (λ (x : Node). x.parent) is);
      ids = λ n. seen-set (λ o. option_map (λ (x : Node). x.id) o) nodes h n v node (ap (λ (x : Node). Some x.id) is);
      by_id = λ id. position-set (λ x. bytes_eq x.id id) nodes h v node (ap (λ (x : Node). bytes_eq x.id id) is);
      by_key = λ n key. position-set (λ x. option_eq nat_eq x.parent (Some n) && bytes_eq x.key key) nodes h v node
          (ap (λ (x : Node). option_eq nat_eq x.parent (Some n) && bytes_eq x.key key) is);
    }

module _ (a b : List Node) (same : (n : ℕ) → parent_of b n ≡ parent_of a n) where
  pub below-along : (low high : ℕ) → IsBelow a low high → IsBelow b low high
  below-along low high (child _ _ is) = child low high (same low ∙ is)
  below-along low high (further _ parent _ is rest) = further low parent high (same low ∙ is) (below-along parent high rest)

  within-along : (low high : ℕ) → IsWithin a low high → IsWithin b low high
  within-along low high (inl equal) = inl equal
  within-along low high (inr below) = inr (below-along low high below)

  placed-along : (n : ℕ) → IsPlaced a n → IsPlaced b n
  placed-along zero none = same 0 ∙ none
  placed-along (suc before) (parent, is, within) = (parent, same (suc before) ∙ is, within-along before parent within)

inside-along : (a b : List Node) (o : Option ℕ) → length b ≡ length a → IfSome o (λ d. d < length a) → IfSome o (λ d. d < length b)
inside-along a b None len inside = tt
inside-along a b (Some d) len inside = rw len inside

names-along : (a b : List Node) → SameLinks a b → (n : ℕ) (kind : Kind) → NamesNodes a n kind → NamesNodes b n kind
names-along a b same n Atomic names = tt
names-along a b same n (Compound initial) is = same.parents initial ∙ is
names-along a b same n Parallel names = tt
names-along a b same n Final names = tt
names-along a b same n (Shallow default) inside = inside-along a b default same.len inside
names-along a b same n (Deep default) inside = inside-along a b default same.len inside

-- a fact of a row, where one is replaced by one of which it is true
if_some-set : (P : Node → Type 0) (nodes : List Node) (h n : ℕ) (v : Node) → IfSome (slice_get nodes n) P → (n ≡ h → P v)
    → IfSome (slice_get (slice_set nodes h v) n) P
if_some-set P [] h n v was here = was
if_some-set P (x ∷ xs) zero zero v was here = here refl
if_some-set P (x ∷ xs) zero (suc n) v was here = was
if_some-set P (x ∷ xs) (suc h) zero v was here = was
if_some-set P (x ∷ xs) (suc h) (suc n) v was here = if_some-set P xs h n v was (λ e. here (ap suc e))

if_some-map : (o : Option Node) (P Q : Node → Type 0) → ((x : Node) → P x → Q x) → IfSome o P → IfSome o Q
if_some-map None P Q f holds = tt
if_some-map (Some x) P Q f holds = f x holds

names-default : (nodes : List Node) (h d : ℕ) (kind : Kind) → IsHistoryKind kind → d < length nodes → NamesNodes nodes h (with_default kind d)
names-default nodes h d Atomic history inside = absurd history
names-default nodes h d (Compound initial) history inside = absurd history
names-default nodes h d Parallel history inside = absurd history
names-default nodes h d Final history inside = absurd history
names-default nodes h d (Shallow default) history inside = inside
names-default nodes h d (Deep default) history inside = inside

-- a history node is one of the rows
pub history_inside : (nodes : List Node) (h : ℕ) → IsHistory nodes h → h < length nodes
history_inside nodes h history = elim (slice_get_cases nodes h).1 [ inl found ↦ found.1 | inr past ↦ absurd (rw past.1 at history) ]

history_kind : (nodes : List Node) (h : ℕ) (node : Node) → slice_get nodes h ≡ Some node → IsHistory nodes h → IsHistoryKind node.kind
history_kind nodes h node is history = rw is at history

module _ (nodes : List Node) (h d : ℕ) (node : Node) (kind : Kind) (is : node ≡ get_or nodes h node) (read : slice_get nodes h ≡ Some node) (now : kind ≡ with_default node.kind d) where
  abbrev new : List Node
  new = slice_set nodes h (record node { kind = kind })

  -- the rows afterwards, as a clause says it
  pub default_set : new ≡ with_default_at nodes h d
  default_set = rw (read, now) refl

  default_names : IsHistory nodes h → d < length nodes → (n : ℕ) → HasNames nodes n → HasNames new n
  default_names history inside n names =
      let same = same_links nodes h node kind is in
      let P : Node → Type 0 = λ x. NamesNodes new n x.kind in
      if_some-set P nodes h n (record node { kind = kind })
      (if_some-map (slice_get nodes n) (λ x. NamesNodes nodes n x.kind) P (λ x. names-along nodes new same n x.kind) names)
      (λ _. subst (λ k. NamesNodes new n k) (sym now) (names-default new n d node.kind (history_kind nodes h node read history) (rw same.len inside)))

  pub default_outline : IsHistory nodes h → d < length nodes → IsOutline nodes → IsOutline new
  default_outline history inside outline =
      let same = same_links nodes h node kind is in
      record {
        some = rw same.len outline.some;
        few = rw same.len outline.few;
        rows = λ n within.
            let row = outline.rows n (rw same.len at within) in
            record { placed = placed-along nodes new same.parents n row.placed; names = default_names history inside n row.names };
      }

-- the tables of the rows stay theirs
pub ends-along : (a b : List Node) (ends : List ℕ) → SameLinks a b → AreEnds a ends → AreEnds b ends
ends-along a b ends same are low high low_inside high_inside =
    let was = are low high (rw same.len at low_inside) (rw same.len at high_inside) in (
      (λ below. was.0 (below-along b a (λ n. sym (same.parents n)) low high below)),
      (λ between. below-along a b same.parents low high (was.1 between)),
    )

pub ids-along : (a b : List Node) (ids : NodesByName) → SameLinks a b → AreIds a ids → AreIds b ids
ids-along a b ids same are id = are id ∙ sym (same.by_id id)

pub children-along : (a b : List Node) (children : List NodesByName) → SameLinks a b → AreChildren a children → AreChildren b children
children-along a b children same are = record {
  len = are.len ∙ sym same.len;
  keys = λ n d key inside. are.keys n d key (rw same.len at inside) ∙ sym (same.by_key n key);
}

new_id-along : (a b : List Node) → ((n : ℕ) → id_of b n ≡ id_of a n) → (n : ℕ) → HasNewId a n → HasNewId b n
new_id-along a b ids n new earlier less same = new earlier less (sym (ids earlier) ∙ same ∙ ids n)

pub repeated-along : (a b : List Node) (repeated : Option ℕ) → SameLinks a b → TellsRepeated a repeated → TellsRepeated b repeated
repeated-along a b None same new = λ n inside. new_id-along a b same.ids n (new n (rw same.len at inside))
repeated-along a b (Some n) same first = record {
  inside = rw same.len first.inside;
  broken = λ new. first.broken (new_id-along b a (λ k. sym (same.ids k)) n new);
  before = λ earlier less. new_id-along a b same.ids earlier (first.before earlier less);
}
