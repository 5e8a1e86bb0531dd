-- Keys between dots, and the longest id of a text.
use Rattle.std.proofs.Common.{◌≡◌, ◌<◌, ◌≤◌, ◌+◌, ◌-◌, ℕ, zero, suc, Bool, true, false, List, [], ◌∷◌, length, take, drop, cond, ◌++◌, ◌&&◌, arith, refl, ◌∙◌, ap, length-append, inl, inr}
use Rattle.std.specs.Prelude.{Option, Some, None, nat_eq, is_some}
use Rattle.std.specs.List.{position, position_or_len}
use Rattle.std.proofs.lemmas.List.Splits.{slice_split_first, slice_split_none}
use Rattle.std.proofs.lemmas.List.{take_all, take_at, take-append-drop, length-drop, length-take-le}
use Rattle.std.proofs.Math.Seq.{drop-append_seam}
use Rattle.std.proofs.lemmas.List.Quantifiers.{position-Some}
use Rattle.std.proofs.lemmas.List.Sums.{position_or_len_is}
use Rattle.std.proofs.Math.Nat.{eq-or-lt_of_le}
use Rattle.std.specs.Option.{option_eq}
use Rattle.std.specs.Str.{bytes_eq}
use Rattle.node_tree.specs.declared.node.Node.{Node}
use Rattle.node_tree.specs.declared.node.TheConstants.{DOT}
use Rattle.node_tree.proofs.PlaceLemmas.{position_inside, position_none}
use Rattle.node_tree.specs.Laws.{BeginsWithId, BeginsWithLongestId}
use Rattle.node_tree.specs.Targets.{target_keys, keys_after_dot, down, largest, ends_key, id_front, from_id}
use Rattle.node_tree.specs.Nodes.{child_of, id_at}

-- the rest of a slice, as a range without an end gives it
pub take-rest : {X : Type 0} (k : ℕ) (xs : List X) → take (length xs - k) (drop k xs) ≡ drop k xs
take-rest k xs = take_all (length xs - k) (drop k xs) (rw length-drop (omega arith))

-- the first key ends at the first dot
pub first_key : (text : List ℕ) (dot : ℕ) → position (λ b. nat_eq b DOT) text ≡ Some dot → target_keys text ≡ take dot text ∷ target_keys (drop (dot + 1) text)
first_key text dot h =
    let p : ℕ → Bool = λ b. nat_eq b DOT in
    let at = position-Some p text dot 0 h in
    let place : position_or_len p text ≡ dot = position_or_len_is p text dot 0 (omega arith) at.2 (λ _. at.1) in
    rw (slice_split_first p text 0 (rw place at.0), place) refl

-- a text with no dot is one key
pub only_key : (text : List ℕ) → position (λ b. nat_eq b DOT) text ≡ None → target_keys text ≡ text ∷ []
only_key text h =
    let p : ℕ → Bool = λ b. nat_eq b DOT in
    slice_split_none p text (λ k d inside. position_none p text h k d inside)

pub down-none : (nodes : List Node) (keys : List (List ℕ)) → down nodes None keys ≡ None
down-none nodes [] = refl
down-none nodes (key ∷ keys) = down-none nodes keys

-- a step down by the first of some keys
pub down-step : (nodes : List Node) (n : ℕ) (text key rest : List ℕ) (next : Option ℕ) → target_keys text ≡ key ∷ target_keys rest → next ≡ child_of nodes n key → down nodes (Some n) (target_keys text) ≡ down nodes next (target_keys rest)
down-step nodes n text key rest next split is = rw (split, is) refl

pub down-last : (nodes : List Node) (n : ℕ) (text : List ℕ) → target_keys text ≡ text ∷ [] → down nodes (Some n) (target_keys text) ≡ child_of nodes n text
down-last nodes n text only = rw only refl

-- a child is one of the nodes
pub child_of_inside : (nodes : List Node) (n c : ℕ) (key : List ℕ) → child_of nodes n key ≡ Some c → c < length nodes
child_of_inside nodes n c key is = position_inside (λ node. option_eq nat_eq node.parent (Some n) && bytes_eq node.key key) nodes c is

-- the largest number that passes is one above which none does
pub largest_is : (passes : ℕ → Bool) (top n : ℕ) → n ≤ top → passes n ≡ true → ((k : ℕ) → n < k → k ≤ top → passes k ≡ false) → largest passes top ≡ Some n
largest_is passes zero n upto passing above =
    let same : n ≡ 0 = omega arith in
    let at_0 : passes 0 ≡ true = rw same at passing in
    rw (at_0, same) refl
largest_is passes (suc top) n upto passing above = elim (eq-or-lt_of_le upto) [
  | inl same ↦ let at_top : passes (suc top) ≡ true = rw same at passing in rw (at_top, same) refl
  | inr less ↦ rw (above (suc top) less (omega arith)) (largest_is passes top n (omega arith) passing (λ k after within. above k after (omega arith)))
]

pub largest_none : (passes : ℕ → Bool) (top : ℕ) → ((k : ℕ) → k ≤ top → passes k ≡ false) → largest passes top ≡ None
largest_none passes zero none = rw (none 0 (omega arith)) refl
largest_none passes (suc top) none = rw (none (suc top) (omega arith)) (largest_none passes top (λ k upto. none k (omega arith)))

-- a text that goes down from the longest front that is an id
pub from_id-found : (nodes : List Node) (text : List ℕ) (len n : ℕ) → len ≤ length text → id_front nodes text len ≡ Some n → ((k : ℕ) → len + 1 ≤ k → k ≤ length text → is_some (id_front nodes text k) ≡ false)
    → from_id nodes text ≡ down nodes (Some n) (keys_after_dot (drop len text))
from_id-found nodes text len n upto found above =
    let front : ℕ → Bool = λ k. is_some (id_front nodes text k) in
    let at : largest front (length text) ≡ Some len = largest_is front (length text) len upto (ap is_some found) (λ k after within. above k (omega arith) within) in
    rw (at, found) refl

pub from_id-none : (nodes : List Node) (text : List ℕ) → ((k : ℕ) → k ≤ length text → is_some (id_front nodes text k) ≡ false) → from_id nodes text ≡ None
from_id-none nodes text none = rw (largest_none (λ k. is_some (id_front nodes text k)) (length text) none) refl

chosen : (b : Bool) (o : Option ℕ) (m : ℕ) → cond b o None ≡ Some m → (b ≡ true) × (o ≡ Some m)
chosen true o m h = (refl, h)
chosen false o m h = cc

none_unless : (o : Option ℕ) → ((m : ℕ) → o ≡ Some m → ⊥) → is_some o ≡ false
none_unless None h = refl
none_unless (Some m) h = absurd (h m refl)

-- the fronts that are ids are the ids that a text begins with
front_begins : (nodes : List Node) (text : List ℕ) (k m : ℕ) → id_front nodes text k ≡ Some m
    → BeginsWithId nodes (take k text) (drop k text) m
front_begins nodes text k m is =
    let parts = chosen (ends_key (drop k text)) (id_at nodes (take k text)) m is in
    record { ends = parts.0; found = parts.1 }

front_of : (nodes : List Node) (id rest : List ℕ) (n : ℕ) → ends_key rest ≡ true → id_at nodes id ≡ Some n
    → id_front nodes (id ++ rest) (length id) ≡ Some n
front_of nodes id rest n ends found = rw (drop-append_seam id rest, take_at id rest (length id) refl, ends) found

pub longest_id_leads : (nodes : List Node) (id rest : List ℕ) (n : ℕ) → BeginsWithLongestId nodes id rest n
    → from_id nodes (id ++ rest) ≡ down nodes (Some n) (keys_after_dot rest)
longest_id_leads nodes id rest n h =
    let text : List ℕ = id ++ rest in
    let front : id_front nodes text (length id) ≡ Some n = front_of nodes id rest n h.begins.ends h.begins.found in
    let upto : length id ≤ length text = omega (arith, length-append id rest) in
    from_id-found nodes text (length id) n upto front
    (λ k after within. none_unless (id_front nodes text k) (λ m is.
    let bound = h.longest (take k text) (drop k text) m (take-append-drop k text) (front_begins nodes text k m is) in
    let len = length-take-le k text within in
    absurd (omega arith)))
    ∙ ap (λ r. down nodes (Some n) (keys_after_dot r)) (drop-append_seam id rest)

pub no_id_leads_nowhere : (nodes : List Node) (text : List ℕ)
    → ((id rest : List ℕ) (n : ℕ) → id ++ rest ≡ text → BeginsWithId nodes id rest n → ⊥) → from_id nodes text ≡ None
no_id_leads_nowhere nodes text h =
    from_id-none nodes text (λ k within. none_unless (id_front nodes text k) (λ m is.
    h (take k text) (drop k text) m (take-append-drop k text) (front_begins nodes text k m is)))
