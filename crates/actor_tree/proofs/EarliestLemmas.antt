-- The head with the earliest letter of a list.
use Rattle.std.proofs.Common.{◌≡◌, ℕ, ◌≤◌, Bool, true, false, cond, List, [], ◌∷◌, filter, fold, nat_eq, nat_lt, Option, Some, None, IfSome, refl, sym, ap, ◌∙◌, inl, inr, arith}
use Rattle.std.specs.List.{cons_option}
use Rattle.std.specs.List.Sorted.{IsStrictlySortedBy}
use Rattle.std.specs.Option.{option_map}
use Rattle.std.proofs.lemmas.Bool.{eq-eqb, eqb-true}
use borrow.Author.Tests.{ltb-true, ltb-false}
use Rattle.office_types.specs.Ready.{Head, earlier, first_of}
use Rattle.office_books.specs.KeyIndex.{IsIn}
use Rattle.office_books.specs.NumberedItems.{NumbersRise, numbered_item}
use Rattle.office_books.proofs.KeyIndexLemmas.{other_number}
use Rattle.actor_tree.specs.declared.tournament.Entrant.{Entrant}
use Rattle.actor_tree.specs.Heads.{heads_among}
use Rattle.actor_tree.specs.Tournament.{IsNotAfter}
use Rattle.actor_tree.proofs.NumberedLemmas.{above_all}

-- the head of an entrant
abbrev pub head_of_entrant : Entrant → Head
head_of_entrant entrant = record { actor = entrant.actor; letter = entrant.letter }

-- the earliest of these, which no other has the letter of
record IsEarliest (head : Head) (heads : List Head) : Type 0 where
  pub among : IsIn head heads
  pub least : (other : Head) → IsIn other heads → head.letter ≤ other.letter
  pub own : (other : Head) → IsIn other heads → other.letter ≡ head.letter → other ≡ head

fold_earliest : (heads : List Head) (first head : Head) → IsEarliest head (first ∷ heads) → fold earlier first heads ≡ head
fold_earliest [] first head is = elim is.among [ inl same ↦ same | inr none ↦ absurd none ]
fold_earliest (next ∷ heads) first head is = fold_earliest heads (earlier first next) head (cases (nat_lt next.letter first.letter) refl)
  where
    cases : (b : Bool) → nat_lt next.letter first.letter ≡ b → IsEarliest head (cond b next first ∷ heads)
    cases true e =
        let below = ltb-true next.letter first.letter e in
        record {
          among = elim is.among [ inl same ↦ absurd (let low = is.least next (inr (inl refl)) in let alike : first.letter ≡ head.letter = ap (λ (h : Head). h.letter) same in omega arith) | inr among ↦ among ];
          least = λ other among. is.least other (inr among);
          own = λ other among. is.own other (inr among);
        }
    cases false e =
        let above = ltb-false next.letter first.letter e in
        record {
          among = elim is.among [
            | inl same ↦ inl same
            | inr later ↦ elim later [
              | inl same ↦ inl (is.own first (inl refl) (let low = is.least first (inl refl) in let alike : next.letter ≡ head.letter = ap (λ (h : Head). h.letter) same in omega arith))
              | inr among ↦ inr among
            ]
          ];
          least = λ other among. elim among [ inl same ↦ is.least other (inl same) | inr later ↦ is.least other (inr (inr later)) ];
          own = λ other among. elim among [ inl same ↦ is.own other (inl same) | inr later ↦ is.own other (inr (inr later)) ];
        }

-- one that is among these, and not after any of them, is the first
pub first_is : (heads : List Head) (first : Option Entrant) → IfSome first (λ entrant. IsIn (head_of_entrant entrant) heads) → ((other : Head) → IsIn other heads → IsNotAfter first other.letter)
    → ((head other : Head) → IsIn head heads → IsIn other heads → other.letter ≡ head.letter → other ≡ head) → option_map (λ (entrant : Entrant). entrant.actor) first ≡ first_of heads
first_is [] None among least own = refl
first_is [] (Some entrant) among least own = absurd among
first_is (head ∷ heads) None among least own = absurd (least head (inl refl))
first_is (head ∷ heads) (Some entrant) among least own =
    ap (λ (h : Head). Some h.actor) (sym (fold_earliest heads head (head_of_entrant entrant) (record { among = among; least = least; own = λ other there. own (head_of_entrant entrant) other among there })))

-- ---- heads of actors by their numbers

abbrev Letters : Type 0
Letters = List (ℕ × Option ℕ)

abbrev head_with_number : ℕ × Option ℕ → Option Head
head_with_number pair = option_map (λ (letter : ℕ). record { actor = pair.0; letter = letter }) pair.1

skip : (head : Head) (first : Option Head) (heads : List Head) → IsIn head heads → IsIn head (cons_option first heads)
skip head None heads among = among
skip head (Some first) heads among = inr among

pub is_head : (actor letter : ℕ) (items : Letters) → numbered_item actor items ≡ Some (Some letter) → IsIn (record { actor = actor; letter = letter }) (heads_among items)
is_head actor letter [] = λ there. absurd (cc)
is_head actor letter (first ∷ items) = cases (is_head actor letter items) (nat_eq first.0 actor) refl
  where
    cases : (numbered_item actor items ≡ Some (Some letter) → IsIn (record { actor = actor; letter = letter }) (heads_among items)) → (b : Bool) → nat_eq first.0 actor ≡ b
        → cond b (Some first.1) (numbered_item actor items) ≡ Some (Some letter) → IsIn (record { actor = actor; letter = letter }) (cons_option (head_with_number first) (heads_among items))
    cases rest true here there =
        let same : first.0 ≡ actor = eqb-true first.0 actor here in
        let its : first.1 ≡ Some letter = cc in
        rw (its, same) (inl refl)
    cases rest false here there = skip (record { actor = actor; letter = letter }) (head_with_number first) (heads_among items) (rest there)

pub head_is : (head : Head) (items : Letters) → NumbersRise items → IsIn head (heads_among items) → numbered_item head.actor items ≡ Some (Some head.letter)
unfolding IsStrictlySortedBy
head_is head [] rise among = absurd among
head_is head (first ∷ items) rise among = cases first.1 refl (later (head_is head items rise.1)) among
  where
    later : (IsIn head (heads_among items) → numbered_item head.actor items ≡ Some (Some head.letter)) → IsIn head (heads_among items)
        → cond (nat_eq first.0 head.actor) (Some first.1) (numbered_item head.actor items) ≡ Some (Some head.letter)
    later rest among =
        let there = rest among in
        let low = above_all first.0 head.actor (Some head.letter) items rise.0 there in
        rw (other_number first.0 head.actor (λ same. omega arith)) there

    cases : (letter : Option ℕ) → first.1 ≡ letter → (IsIn head (heads_among items) → cond (nat_eq first.0 head.actor) (Some first.1) (numbered_item head.actor items) ≡ Some (Some head.letter)) → IsIn head (cons_option (option_map (λ (letter : ℕ). record { actor = first.0; letter = letter }) letter) (heads_among items))
        → cond (nat_eq first.0 head.actor) (Some first.1) (numbered_item head.actor items) ≡ Some (Some head.letter)
    cases None is later among = later among
    cases (Some letter) is later among = elim among [
      | inl same ↦
          let here : nat_eq first.0 head.actor ≡ true = eq-eqb first.0 head.actor (ap (λ (h : Head). h.actor) same) in
          let its : letter ≡ head.letter = ap (λ (h : Head). h.letter) same in
          rw (here, is, its) refl
      | inr among ↦ later among
    ]

-- ---- those that a test keeps

module _ (keeps : Head → Bool) where
  pub is_kept : (head : Head) (heads : List Head) → IsIn head heads → keeps head ≡ true → IsIn head (filter keeps heads)
  is_kept head [] among kept = absurd among
  is_kept head (first ∷ heads) among kept = elim among [
    | inl same ↦ let here : keeps first ≡ true = ap keeps same ∙ kept in rw here (inl same)
    | inr later ↦ cases (keeps first) (is_kept head heads later kept)
  ]
    where
      cases : (b : Bool) → IsIn head (filter keeps heads) → IsIn head (cond b (first ∷ filter keeps heads) (filter keeps heads))
      cases true rest = inr rest
      cases false rest = rest

  pub kept_is : (head : Head) (heads : List Head) → IsIn head (filter keeps heads) → IsIn head heads × (keeps head ≡ true)
  kept_is head [] among = absurd among
  kept_is head (first ∷ heads) among = cases (kept_is head heads) (keeps first) refl among
    where
      cases : (IsIn head (filter keeps heads) → IsIn head heads × (keeps head ≡ true)) → (b : Bool) → keeps first ≡ b → IsIn head (cond b (first ∷ filter keeps heads) (filter keeps heads)) → IsIn head (first ∷ heads) × (keeps head ≡ true)
      cases kept true here among = elim among [ inl same ↦ (inl same, ap keeps (sym same) ∙ here) | inr later ↦ let rest = kept later in (inr rest.0, rest.1) ]
      cases kept false here among = let rest = kept among in (inr rest.0, rest.1)
