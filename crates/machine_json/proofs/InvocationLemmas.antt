-- The invocations of a node, one after another.
use Rattle.std.proofs.Common.{◌≡◌, ◌⊎◌, ℕ, zero, suc, ◌+◌, ◌<◌, List, [], ◌∷◌, ◌++◌, Some, length, take, refl, sym, ap, ◌∙◌, subst, inl, inr, arith, length-append, length-take}
use Rattle.std.specs.Prelude.{slice_get}
use Rattle.std.proofs.lemmas.Option.{slice_get_within}
use Rattle.ordered_json.specs.declared.json.OrderedJson.{OrderedJson}
use Rattle.ordered_json.specs.Words.{MemberParts}
use Rattle.machine_json.specs.declared.machine.UnlinkedInvocation.{UnlinkedInvocation}
use Rattle.machine_json.specs.Meaning.{AreInvocations, MeansInvocation}
use Rattle.machine_json.specs.NodeKinds.{members_of}
use Rattle.machine_json.proofs.NodeLemmas.{take_next}

-- an item of a list with one more is one of the list or the last one
pub push_cases : {X : Type 0} (xs : List X) (x : X) (k : ℕ) (y : X) → slice_get (xs ++ x ∷ []) k ≡ Some y
    → ((k < length xs) × (slice_get xs k ≡ Some y)) ⊎ ((k ≡ length xs) × (x ≡ y))
push_cases [] x zero y at = inr (refl, cc)
push_cases [] x (suc k) y at = absurd (cc)
push_cases (z ∷ xs) x zero y at = inl (omega arith, at)
push_cases (z ∷ xs) x (suc k) y at = elim (push_cases xs x k y at) [
  | inl before ↦ inl (let below : k < length xs = before.0 in omega arith, before.1)
  | inr last ↦ inr (let same : k ≡ length xs = last.0 in omega arith, last.1)
]

-- one more of them
pub one_more : (node : List ℕ) (jsons : List OrderedJson) (i : ℕ) (json : OrderedJson) (members : List MemberParts) (invocations : List UnlinkedInvocation) (one : UnlinkedInvocation)
    → slice_get jsons i ≡ Some json → members ≡ members_of json → AreInvocations node (take i jsons) invocations
    → MeansInvocation node i members one → AreInvocations node (take (i + 1) jsons) (invocations ++ one ∷ [])
one_more node jsons i json members invocations one at is_members before means =
    let within : i < length jsons = slice_get_within jsons i json at in
    let front : length (take i jsons) ≡ i = omega (arith, length-take i jsons) in
    let count : length invocations ≡ length (take i jsons) = before.count in
    let whole = take_next jsons i json at in
    record {
      count = length-append invocations (one ∷ []) ∙ ap (λ n. n + 1) count ∙ sym (ap length whole ∙ length-append (take i jsons) (json ∷ []));
      each = λ k j v at_j at_v.
          let in_front : slice_get (take i jsons ++ json ∷ []) k ≡ Some j = ap (λ (l : List OrderedJson). slice_get l k) (sym whole) ∙ at_j in
          elim (push_cases (take i jsons) json k j in_front) [
            | inl earlier ↦ elim (push_cases invocations one k v at_v) [
              | inl held ↦ before.each k j v earlier.1 held.1
              | inr last ↦ let below : k < length (take i jsons) = earlier.0 in let end : k ≡ length invocations = last.0 in absurd (omega arith)
            ]
            | inr here ↦ elim (push_cases invocations one k v at_v) [
              | inl held ↦ let below : k < length invocations = held.0 in let end : k ≡ length (take i jsons) = here.0 in absurd (omega arith)
              | inr last ↦
                  let place : i ≡ k = (let end : k ≡ length (take i jsons) = here.0 in omega arith) in
                  let P : ℕ → Type 0 = λ n. MeansInvocation node n members one in
                  let Q : List MemberParts → Type 0 = λ m. MeansInvocation node k m one in
                  let R : UnlinkedInvocation → Type 0 = λ u. MeansInvocation node k (members_of j) u in
                  subst R last.1 (subst Q (is_members ∙ ap members_of here.1) (subst P place means))
            ]
          ];
    }
