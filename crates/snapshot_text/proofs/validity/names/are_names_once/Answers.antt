use Rattle.std.proofs.Common.{◌∙◌, List, ℕ, map, ap, arith}
use Rattle.std.proofs.lemmas.List.{take_all}
use Rattle.snapshot_text.proofs.KeyLemmas.{apart_texts, texts_apart}
use Rattle.snapshot_text.proofs.validity.names.are_names_once.Goals as goal

pub returns : goal.returns
returns c =
    let name : List ℕ × ℕ → List ℕ = λ (pair : List ℕ × ℕ). pair.0 in
    let same = c.loop-name.invariant ∙ ap (λ (names : List (List ℕ × ℕ)). map (λ (pair : List ℕ × ℕ). pair.0) names) (take_all c.loop-name.name-index c.args.names.now (omega arith)) in (
      (λ once. texts_apart (λ text. text.now) (λ (pair : List ℕ × ℕ). pair.0) c.loop-name.texts.items c.args.names.now same (c.are_distinct.ensures.0 once)),
      (λ once. c.are_distinct.ensures.1 (apart_texts (λ text. text.now) (λ (pair : List ℕ × ℕ). pair.0) c.loop-name.texts.items c.args.names.now same once)),
    )
