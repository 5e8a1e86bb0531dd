-- The numbers of the actors that a step made.
use Rattle.std.proofs.Common.{◌≡◌, ℕ, suc, zero, ◌+◌, ◌-◌, ◌≤◌, Bool, true, false, cond, ◌||◌, not, List, [], ◌∷◌, ◌++◌, length, map, refl, sym, ap, ◌∙◌, arith}
use Rattle.std.specs.Prelude.{filter, nat_eq}
use Rattle.actor_tree.specs.Noted.{Face, made_faces, numbers_from, staying}
use Rattle.actor_tree.proofs.FaceLemmas.{face_number}
use Rattle.actor_tree.proofs.NoteListLemmas.{filter_joined}

joined : (xs ys zs : List ℕ) → (xs ++ ys) ++ zs ≡ xs ++ (ys ++ zs)
joined [] ys zs = refl
joined (x ∷ xs) ys zs = ap (λ (l : List ℕ). x ∷ l) (joined xs ys zs)

-- one number more
pub staying_more : (gone : ℕ → Bool) (root : ℕ) (start found so_far : List ℕ) (n : ℕ) → found ≡ start ++ staying gone root so_far → found ++ staying gone root (n ∷ []) ≡ start ++ staying gone root (so_far ++ n ∷ [])
staying_more gone root start found so_far n is =
    ap (λ (l : List ℕ). l ++ staying gone root (n ∷ [])) is ∙ joined start (staying gone root so_far) (staying gone root (n ∷ []))
    ∙ ap (λ (l : List ℕ). start ++ l) (sym (filter_joined (λ (m : ℕ). nat_eq m root || not (gone m)) so_far (n ∷ [])))

pub no_numbers : (first : ℕ) → numbers_from first 0 ≡ []
unfolding numbers_from
no_numbers first = refl

pub numbers_more : (first count : ℕ) → numbers_from first (suc count) ≡ numbers_from first count ++ (first + count) ∷ []
unfolding numbers_from
numbers_more first count = refl

numbers_front : (first count : ℕ) → numbers_from first (suc count) ≡ first ∷ numbers_from (first + 1) count
unfolding numbers_from
numbers_front first zero = let same : first + 0 ≡ first = omega arith in ap (λ (n : ℕ). n ∷ []) same
numbers_front first (suc count) =
    let same : first + suc count ≡ first + 1 + count = omega arith in
    ap (λ (l : List ℕ). l ++ (first + suc count) ∷ []) (numbers_front first count) ∙ ap (λ (n : ℕ). (first ∷ numbers_from (first + 1) count) ++ n ∷ []) same

-- the numbers of those that were made
pub made_numbers : (parent first : ℕ) (machines : List Bool) → map face_number (made_faces parent first machines) ≡ numbers_from first (length machines)
made_numbers parent first [] = sym (no_numbers first)
made_numbers parent first (machine ∷ machines) =
    ap (λ (l : List ℕ). first ∷ l) (made_numbers parent (first + 1) machines) ∙ sym (numbers_front first (length machines))
