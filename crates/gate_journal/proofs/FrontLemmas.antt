-- What the front of a side says of the side.
use Rattle.std.proofs.Common.{◌≡◌, ◌⊎◌, ◌↔◌, inl, inr, ℕ, ◌+◌, ◌-◌, ◌<◌, ◌≤◌, List, [], ◌++◌, length, get_or, take, drop, refl, sym, ◌∙◌, ap, subst, arith, append_assoc, length-append, length-take, length-drop, take-append-drop}
use Rattle.std.proofs.lemmas.List.{get_or-take, take_at, drop_at, append-nil}
use Rattle.std.specs.List.{flat_map}
use Rattle.std.specs.Prelude.{slice_index, All}
use Rattle.gate_journal.specs.declared.parts.TheConstants.{HEAD, MAX_BASE}
use Rattle.gate_journal.specs.Layout.{Content, IsSound, HoldsContent, HasHead, HasShortHead, IsBadAt, IsClosed, IsRecordSize, record_text, head_text, side_text, places_from}
use Rattle.gate_journal.specs.Opening.{IsFront}
use Rattle.gate_journal.specs.Reading.{AddsBetween, BreaksAt, EndsAt}
use Rattle.gate_journal.specs.Ready.{IsReady}
use Rattle.gate_journal.specs.Sides.{HasGeneration, IsBehind, first_place}
use Rattle.gate_journal.proofs.TextLemmas.{length-head_text}
use Rattle.gate_journal.proofs.WindowLemmas.{take_two}

pub head_length : (generation size : ℕ) (behind side : List ℕ) → HasHead generation size behind side → HEAD ≤ length side
head_length generation size behind side head =
    omega (arith, ap length head.text, length-append (head_text generation size) behind, length-head_text generation size)

module _ (front side : List ℕ) (is : IsFront front side) where
  pub no_longer : length front ≤ length side
  no_longer = omega (arith, ap length is.bytes, length-take (length front) side)

  first_byte : 2 ≤ length side → slice_index front 0 ≡ slice_index side 0
  first_byte two = elim is.enough [
    | inl long ↦ ap (λ (l : List ℕ). get_or l 0 0) is.bytes ∙ get_or-take (length front) side 0 0 (omega (arith, long))
    | inr same ↦ ap (λ (l : List ℕ). get_or l 0 0) same
  ]

  two_bytes : 2 ≤ length side → 2 ≤ length front
  two_bytes two = elim is.enough [
    | inl long ↦ omega (arith, long)
    | inr same ↦ omega (arith, ap length same, two)
  ]

  pub front_closed : IsClosed front → IsClosed side
  front_closed closed two first = closed (two_bytes two) (first_byte two ∙ first)

  pub front_short : HasShortHead front → HasShortHead side
  front_short short = elim is.enough [
    | inl long ↦ absurd (omega (arith, long, short.1))
    | inr same ↦ subst HasShortHead same short
  ]

  pub front_head : (generation size : ℕ) (behind : List ℕ) → HasHead generation size behind front → HasHead generation size (drop HEAD side) side
  front_head generation size behind head =
      let rest = drop (length front) side in
      let text : side ≡ head_text generation size ++ (behind ++ rest) =
      sym (take-append-drop (length front) side) ∙ ap (λ (l : List ℕ). l ++ rest) (sym is.bytes ∙ head.text) ∙ append_assoc (head_text generation size) behind rest in
      record {
        text = text ∙ ap (λ (l : List ℕ). head_text generation size ++ l) (sym (ap (λ (l : List ℕ). drop HEAD l) text ∙ drop_at (head_text generation size) (behind ++ rest) HEAD (length-head_text generation size)));
        generation_fits = head.generation_fits;
        size_fits = head.size_fits;
      }

  pub front_generation : (generation : ℕ) → HasGeneration generation front → HasGeneration generation side
  front_generation generation has = (has.0, drop HEAD side, front_head generation has.0 has.1 has.2)

  pub front_behind : (generation : ℕ) → IsBehind generation front → IsBehind generation side
  front_behind generation behind = elim behind [
    | inl closed ↦ inl (front_closed closed)
    | inr smaller ↦ inr (smaller.0, front_generation smaller.0 smaller.1, smaller.2)
  ]

  pub front_ready : IsReady front ↔ IsReady side
  front_ready = (
    λ ready. (omega (arith, ready.0, no_longer), front_closed ready.1),
    λ ready. (two_bytes ready.0, λ two first. ready.1 ready.0 (sym (first_byte ready.0) ∙ first)),
  )

-- ---- what is read behind a head

module _ (text : List ℕ) (generation size : ℕ) (head : HasHead generation size (drop HEAD text) text) where
  -- the base is too long, or runs past the end
  pub bad_base : (MAX_BASE < size) ⊎ (length text < HEAD + size) → IsBadAt text 9
  bad_base wrong =
      let long : HEAD ≤ length text = head_length generation size (drop HEAD text) text head in
      let why : (MAX_BASE < size) ⊎ (length (drop HEAD text) < size) = elim wrong [
        | inl large ↦ inl large
        | inr past ↦ inr (omega (arith, past, long, length-drop HEAD text))
      ] in
      inr (inl ((generation, size, drop HEAD text, head, why), refl))

  module _ (fits : size ≤ MAX_BASE) (room : HEAD + size ≤ length text) (base : List ℕ) (is : base ≡ take size (drop HEAD text)) where
    base_length : length base ≡ size
    base_length = omega (arith, ap length is, length-take size (drop HEAD text), length-drop HEAD text, room)

    head_front : take HEAD text ≡ head_text generation (length base)
    head_front =
        ap (λ (l : List ℕ). take HEAD l) head.text ∙ take_at (head_text generation size) (drop HEAD text) HEAD (length-head_text generation size) ∙ ap (λ n. head_text generation n) (sym base_length)

    module _ (end : ℕ) (records : List (List ℕ)) (places : List ℕ) (adds : AddsBetween text (HEAD + size) end [] records [] places) where
      abbrev content : Content
      content = record { generation = generation; base = base; records = records }

      between : take (end - (HEAD + size)) (drop (HEAD + size) text) ≡ flat_map record_text records
      between = adds.1.taken ∙ ap (λ l. flat_map record_text l) (sym adds.1.behind)

      front_text : take end text ≡ side_text content
      unfolding side_text
      front_text =
          ap (λ n. take n text) (omega (arith, adds.2))
          ∙ take_two (HEAD + size) (end - (HEAD + size)) text
          ∙ ap (λ (l : List ℕ). l ++ take (end - (HEAD + size)) (drop (HEAD + size) text)) (take_two HEAD size text)
          ∙ ap (λ (l : List ℕ). l ++ take size (drop HEAD text) ++ take (end - (HEAD + size)) (drop (HEAD + size) text)) head_front
          ∙ ap (λ (l : List ℕ). head_text generation (length base) ++ l ++ take (end - (HEAD + size)) (drop (HEAD + size) text)) (sym is)
          ∙ ap (λ (l : List ℕ). head_text generation (length base) ++ base ++ l) between

      whole : text ≡ side_text content ++ drop end text
      whole = sym (take-append-drop end text) ∙ ap (λ (l : List ℕ). l ++ drop end text) front_text

      sound : IsSound content
      sound = record {
        generation = head.generation_fits;
        base = omega (arith, base_length, fits);
        records = subst (λ l. All (λ p. IsRecordSize (length p)) l) (sym adds.1.behind) adds.1.sound;
      }

      pub end_is : end ≡ length (side_text content)
      end_is = omega (arith, ap length front_text, length-take end text, adds.3)

      pub places_are : places ≡ places_from (first_place content) records
      places_are =
          adds.1.their_places
          ∙ ap (λ l. places_from (HEAD + size) l) (sym adds.1.behind)
          ∙ ap (λ n. places_from n records) (sym (length-append (head_text generation (length base)) base ∙ omega (arith, length-head_text generation (length base), base_length)))

      pub held_text : EndsAt text end → HoldsContent content text
      held_text ends = record {
        gate = ends.0;
        behind = ends.1;
        text = whole ∙ ap (λ (l : List ℕ). side_text content ++ l) ends.2;
        closed = ends.3;
        sound = sound;
      }

      pub bad_text : BreaksAt text end → IsBadAt text end
      bad_text breaks = elim breaks [
        | inl none ↦ inr (inr (inl ((content, sound, whole ∙ ap (λ (l : List ℕ). side_text content ++ l) none ∙ append-nil (side_text content)), omega (arith, ap length none, length-drop end text, adds.3))))
        | inr bad ↦ inr (inr (inr (content, bad.0, sound, whole ∙ ap (λ (l : List ℕ). side_text content ++ l) bad.1, bad.2, end_is)))
      ]
