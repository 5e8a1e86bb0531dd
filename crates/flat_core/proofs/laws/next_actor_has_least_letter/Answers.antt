use Rattle.std.proofs.Common.{◌≡◌, ℕ, zero, suc, ◌+◌, ◌-◌, ◌<◌, ◌≤◌, true, cond, List, [], ◌∷◌, Option, None, Some, refl, sym, ◌∙◌, ltb, arith}
use Rattle.std.proofs.lemmas.Bool.Decides.{nat_tests}
use Rattle.std.specs.Prelude.{slice_get, option_map, option_and_then}
use Rattle.flat_core.specs.declared.office.Claim.{Claim}
use Rattle.flat_core.specs.Office.{Actor, Office, head_of, earlier_claim, least_head, first_ready}
use Rattle.flat_core.specs.Laws.{IsLeastHead}
use Rattle.flat_core.specs.Plan.{head_at}
use Rattle.flat_core.proofs.QueueLemmas.{by_test, none_some}
use Rattle.flat_core.proofs.laws.next_actor_has_least_letter.Goals as goal

-- the head letter of the actor at a place
abbrev head_in : List Actor → ℕ → Option ℕ
head_in actors place = option_and_then head_of (slice_get actors place)

-- the claim of the least head among actors that are numbered from `first` on
abbrev IsLeast : ℕ → List Actor → Option Claim → Type 0
IsLeast first actors None = (place : ℕ) → head_in actors place ≡ None
IsLeast first actors (Some claim) =
    (place : ℕ) × (claim.actor ≡ first + place) × (head_in actors place ≡ Some claim.letter) × ((other letter : ℕ) → head_in actors other ≡ Some letter → claim.letter ≤ letter)

same : {a b : ℕ} → Some a ≡ Some b → a ≡ b
same e = cc

-- of the first actor's head and the least of the others the lesser one is the least
least_of : (first : ℕ) (actor : Actor) (actors : List Actor) (head : Option ℕ) (least : Option Claim) → head_of actor ≡ head → IsLeast (first + 1) actors least →
    IsLeast first (actor ∷ actors) (earlier_claim (option_map (λ letter. let claim : Claim = record { actor = first; letter = letter } in claim) head) least)
least_of first actor actors None None at others = λ place. by_place place
  where
    by_place : (place : ℕ) → head_in (actor ∷ actors) place ≡ None
    by_place zero = at
    by_place (suc place) = others place
least_of first actor actors (Some head) None at others = (0, omega arith, at, by_place)
  where
    by_place : (place letter : ℕ) → head_in (actor ∷ actors) place ≡ Some letter → head ≤ letter
    by_place zero letter there = let equal : head ≡ letter = same (sym at ∙ there) in omega arith
    by_place (suc place) letter there = absurd (none_some (sym (others place) ∙ there))
least_of first actor actors None (Some claim) at others = (suc others.0, omega (arith, others.1), others.2, by_place)
  where
    by_place : (place letter : ℕ) → head_in (actor ∷ actors) place ≡ Some letter → claim.letter ≤ letter
    by_place zero letter there = absurd (none_some (sym at ∙ there))
    by_place (suc place) letter there = others.3 place letter there
least_of first actor actors (Some head) (Some claim) at others = by_test (ltb claim.letter head)
    (λ e. rw e (suc others.0, omega (arith, others.1), others.2, later (grind (arith, nat_tests))))
    (λ e. rw e (0, omega arith, at, earlier_than (grind (arith, nat_tests))))
  where
    later : claim.letter < head → (place letter : ℕ) → head_in (actor ∷ actors) place ≡ Some letter → claim.letter ≤ letter
    later below zero letter there = let equal : head ≡ letter = same (sym at ∙ there) in omega arith
    later below (suc place) letter there = others.3 place letter there

    earlier_than : head ≤ claim.letter → (place letter : ℕ) → head_in (actor ∷ actors) place ≡ Some letter → head ≤ letter
    earlier_than below zero letter there = let equal : head ≡ letter = same (sym at ∙ there) in omega arith
    earlier_than below (suc place) letter there = omega (arith, others.3 place letter there)

least : (first : ℕ) (actors : List Actor) → IsLeast first actors (least_head first actors)
least first [] = λ place. refl
least first (actor ∷ actors) = least_of first actor actors (head_of actor) (least_head (first + 1) actors) refl (least (first + 1) actors)

-- the head of the actor of a number stands at the place before it
head_at-in : (office : Office) (number : ℕ) → head_at office number ≡ cond (ltb 0 number) (head_in office.actors (number - 1)) None
head_at-in office number = by_test (ltb 0 number) (λ e. rw e refl) (λ e. rw e refl)

numbered : (office : Office) (claim : Option Claim) → IsLeast 1 office.actors claim → IsLeastHead office claim
numbered office None none = λ number. head_at-in office number ∙ by_test (ltb 0 number) (λ e. rw e (none (number - 1))) (λ e. rw e refl)
numbered office (Some claim) least =
    let positive : ltb 0 claim.actor ≡ true = grind (arith, nat_tests, least.1) in
    let place : claim.actor - 1 ≡ least.0 = omega (arith, least.1) in
    (head_at-in office claim.actor ∙ rw (positive, place) least.2, λ number letter there. by_number number letter (sym (head_at-in office number) ∙ there))
  where
    by_number : (number letter : ℕ) → cond (ltb 0 number) (head_in office.actors (number - 1)) None ≡ Some letter → claim.letter ≤ letter
    by_number number letter there = by_test (ltb 0 number)
        (λ e. least.3 (number - 1) letter (rw e at there))
        (λ e. let nothing : None ≡ Some letter = rw e at there in absurd (none_some nothing))

pub returns : goal.returns
returns c = λ office. numbered office (first_ready office) (least 1 office.actors)
