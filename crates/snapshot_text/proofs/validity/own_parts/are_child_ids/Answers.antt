use Rattle.std.proofs.Common.{◌∙◌, List, ℕ, arith, sym}
use Rattle.std.proofs.lemmas.List.{map-id, take_all}
use Rattle.snapshot_text.proofs.KeyLemmas.{apart_texts, texts_apart}
use Rattle.snapshot_text.proofs.validity.own_parts.are_child_ids.Goals as goal

pub returns : goal.returns
returns c =
    let ids = c.args.ids.now in
    let same = c.loop-id.invariant ∙ take_all c.loop-id.id-index ids (omega arith) ∙ sym (map-id ids) in (
      (λ once. record {
        names = c.are_names.ensures.0 c.if-not-are_names.false;
        distinct = texts_apart (λ text. text.now) (λ (id : List ℕ). id) c.loop-id.names.items ids same (c.are_distinct.ensures.0 once);
      }),
      (λ ids'. c.are_distinct.ensures.1 (apart_texts (λ text. text.now) (λ (id : List ℕ). id) c.loop-id.names.items ids same ids'.distinct)),
    )
