use Rattle.std.proofs.Common.{◌≡◌, ◌+◌, ◌∷◌, [], ◌++◌, sym, ◌∙◌, ap, take, length, false, true, cond, arith}
use Rattle.std.proofs.lemmas.List.{length-take-le, take_all, take_more}
use Rattle.std.proofs.lemmas.Map.Text.{btree_map_updates_text}
use Rattle.std.specs.BTreeMap.{get_by_text}
use Rattle.std.specs.List.{position}
use Rattle.std.specs.Option.{is_some}
use Rattle.std.specs.Prelude.{Some}
use Rattle.std.specs.Str.{bytes_eq}
use Rattle.std.specs.String.{string_bytes}
use Rattle.ordered_json.specs.Words.{key_of}
use Rattle.flat_core.proofs.FlatLemmas.{place_among}
use Rattle.flat_core.proofs.PlaceLemmas.{still_found, newly_found}
use Rattle.flat_core.proofs.places.Places.of.Goals as goal
use Rattle.flat_core.proofs.places.Places.of.Goals.{then-not-contains_key+in-Ok+in_ok-from_str+in_ok-insert, else-not-contains_key}

pub loop-place-preserved : goal.loop-place-preserved
loop-place-preserved c =
    let member = c.index-members-place.result in
    let before = take c.loop-place.place c.args.members.now in
    let step : take (c.loop-place.place + 1) c.args.members.now ≡ before ++ member ∷ [] =
    take_more c.args.members.now c.loop-place.place member c.loop-place-test.true ∙ ap (λ m. before ++ m ∷ []) (sym c.index-members-place.is) in
    let key : c.as_str-key.result.now ≡ key_of member = c.as_str-key.ensures in
    let has : is_some (get_by_text c.loop-place.places (key_of member)) ≡ c.contains_key.result =
    ap (λ k. is_some (get_by_text c.loop-place.places k)) (sym key) ∙ sym c.contains_key.ensures in
    elim c.if-not-contains_key.branch [
      | then-not-contains_key+in-Ok+in_ok-from_str+in_ok-insert w ↦ (
          let absent : c.contains_key.result ≡ false = grind (arith, w.if-not-contains_key.true) in
          let same : string_bytes w.in_ok-from_str.field-0 ≡ key_of member = w.in_ok-from_str.ensures.ok ∙ key in
          let at : w.in-Ok.place ≡ length before = w.in-Ok.ensures.1 ∙ sym (length-take-le c.loop-place.place c.args.members.now c.loop-place.auto.place-end) in
          λ q. ap (λ places. get_by_text places q) w.places-is
          ∙ (newly_found key_of before member (get_by_text c.loop-place.places) (get_by_text w.insert.new.self) w.in-Ok.place c.loop-place.invariant (has ∙ absent)
          (λ t. btree_map_updates_text (string_bytes w.in_ok-from_str.field-0) c.loop-place.places w.insert.new.self (Some w.in-Ok.place) w.in_ok-insert.ensures.updates t ∙ ap (λ k. cond (bytes_eq k t) (Some w.in-Ok.place) (get_by_text c.loop-place.places t)) same)
          at q
          ∙ ap (position (λ m. bytes_eq (key_of m) q)) (sym step)))
      | else-not-contains_key w ↦ (
          let present : c.contains_key.result ≡ true = grind (arith, w.if-not-contains_key.false) in
          λ q. ap (λ places. get_by_text places q) w.places-is
          ∙ (still_found key_of before member (get_by_text c.loop-place.places) c.loop-place.invariant (has ∙ present) q
          ∙ ap (position (λ m. bytes_eq (key_of m) q)) (sym step)))
    ]

pub invariant_of-result : goal.invariant_of-result
invariant_of-result c = λ key.
    c.loop-place.invariant key
    ∙ (ap (position (λ m. bytes_eq (key_of m) key)) (take_all c.loop-place.place c.args.members.now c.loop-place-test.false)
    ∙ sym (place_among c.args.members.now key))
