-- How a window goes over a text, and what stands where it does.
use Rattle.std.proofs.Common.{◌≡◌, inl, inr, ℕ, ◌+◌, ◌-◌, ◌≤◌, List, [], ◌∷◌, ◌++◌, length, take, drop, sym, ◌∙◌, ap, arith, append_assoc, length-append, length-drop, take-append-drop, refl}
use Rattle.std.proofs.lemmas.List.{take-take, take_all, take_at, drop_at, drop-drop, drop-take, flat_map_more, length-take-le, append-nil}
use Rattle.std.proofs.lemmas.List.Elements.{All-append, All-push, All-nil}
use Rattle.std.specs.List.{flat_map}
use Rattle.xs_outside.specs.declared.Side.{Side}
use Rattle.xs_outside.specs.Disk.{Sides, DiskState, on}
use Rattle.gate_journal.specs.declared.parts.TheConstants.{OPEN}
use Rattle.gate_journal.specs.declared.scan.Stop.TheVariants as stop
use Rattle.gate_journal.specs.declared.window.Window.{Window}
use Rattle.gate_journal.specs.Layout.{IsRecordSize, length_bytes, record_text, places_from}
use Rattle.gate_journal.specs.Reading.{Adds, AddsBetween, BreaksAt, EndsAt, ReadsOn, StopsAt, left_behind}
use Rattle.gate_journal.proofs.HoldLemmas.{places_from-push}
use Rattle.gate_journal.proofs.ReadLemmas.{reads_joined}
use Rattle.gate_journal.proofs.TextLemmas.{length-record_text}
use Rattle.gate_journal.proofs.NumberLemmas.{length-length_bytes}

-- ---- lists

pub take_two : (n m : ℕ) (xs : List ℕ) → take (n + m) xs ≡ take n xs ++ take m (drop n xs)
take_two n m xs =
    sym (take-append-drop n (take (n + m) xs))
    ∙ ap (λ (l : List ℕ). l ++ drop n (take (n + m) xs)) (take-take n (n + m) xs (omega arith))
    ∙ ap (λ (l : List ℕ). take n xs ++ l) (drop-take n m xs)

-- the bytes of a window whose front is left out
pub shown_skipped : (text bytes : List ℕ) (place count : ℕ) → bytes ≡ take (length bytes) (drop place text) → count ≤ length bytes
    → drop count bytes ≡ take (length (drop count bytes)) (drop (place + count) text)
shown_skipped text bytes place count shown le =
    let size : length bytes ≡ count + length (drop count bytes) = omega (arith, length-drop count bytes, le) in
    ap (λ (l : List ℕ). drop count l) shown
    ∙ ap (λ n. drop count (take n (drop place text))) size
    ∙ drop-take count (length (drop count bytes)) (drop place text)
    ∙ ap (λ (l : List ℕ). take (length (drop count bytes)) l) (drop-drop count place text)

-- the front of a window is a part of the text
pub shown_front : (text bytes : List ℕ) (place count : ℕ) → bytes ≡ take (length bytes) (drop place text) → count ≤ length bytes → take count bytes ≡ take count (drop place text)
shown_front text bytes place count shown le =
    ap (λ (l : List ℕ). take count l) shown ∙ take-take count (length bytes) (drop place text) le

-- a part of a text, and the part behind it
pub parts_joined : (text part bytes : List ℕ) (from place count : ℕ) → part ≡ take (place - from) (drop from text) → from ≤ place → bytes ≡ take (length bytes) (drop place text) → count ≤ length bytes
    → part ++ take count bytes ≡ take (place + count - from) (drop from text)
parts_joined text part bytes from place count is le shown fits =
    let ends : place - from + count ≡ place + count - from = omega (arith, le) in
    let there : drop (place - from) (drop from text) ≡ drop place text = drop-drop (place - from) from text ∙ ap (λ n. drop n text) (omega (arith, le)) in
    ap (λ (l : List ℕ). l ++ take count bytes) is
    ∙ ap (λ (l : List ℕ). take (place - from) (drop from text) ++ l) (shown_front text bytes place count shown fits ∙ ap (λ (l : List ℕ). take count l) (sym there))
    ∙ sym (take_two (place - from) count (drop from text))
    ∙ ap (λ n. take n (drop from text)) ends

-- ---- records

-- a whole record among the bytes at hand
pub whole_record : (text : List ℕ) (at size : ℕ) (payload behind : List ℕ) → at ≤ length text → drop at text ≡ record_text payload ++ behind → length payload ≡ size → at + 5 + size ≤ length text
whole_record text at size payload behind le is sized =
    omega (arith, length-drop at text, ap length is, length-append (record_text payload) behind, length-record_text payload, sized, le)

pub record_taken : (text : List ℕ) (at size : ℕ) (payload behind : List ℕ) → drop at text ≡ record_text payload ++ behind → length payload ≡ size → take (at + 5 + size) text ≡ take at text ++ record_text payload
record_taken text at size payload behind is sized =
    ap (λ n. take n text) (omega arith)
    ∙ take_two at (5 + size) text
    ∙ ap (λ (l : List ℕ). take at text ++ take (5 + size) l) is
    ∙ ap (λ (l : List ℕ). take at text ++ l) (take_at (record_text payload) behind (5 + size) (length-record_text payload ∙ ap (λ n. 5 + n) sized))

pub payload_taken : (text : List ℕ) (at size : ℕ) (payload behind : List ℕ) → drop at text ≡ record_text payload ++ behind → length payload ≡ size → take (at + 5 + size - (at + 5)) (drop (at + 5) text) ≡ payload
unfolding record_text
payload_taken text at size payload behind is sized =
    ap (λ n. take n (drop (at + 5) text)) (omega arith)
    ∙ ap (λ (l : List ℕ). take size l) (sym (drop-drop 5 at text) ∙ ap (λ (l : List ℕ). drop 5 l) (is ∙ append_assoc (OPEN ∷ length_bytes (length payload)) payload behind) ∙ drop_at (OPEN ∷ length_bytes (length payload)) (payload ++ behind) 5 (omega (arith, length-length_bytes (length payload))))
    ∙ take_at payload behind size sized

-- one record more
pub adds_more : (place : ℕ) (text text_after payload : List ℕ) (added records between after : List (List ℕ)) (places places_between places_after : List ℕ) → Adds place text added records between places places_between
    → IsRecordSize (length payload) → text_after ≡ text ++ record_text payload → after ≡ between ++ payload ∷ [] → places_after ≡ places_between ++ (place + length text) ∷ [] → Adds place text_after (added ++ payload ∷ []) records after places places_after
adds_more place text text_after payload added records between after places places_between places_after adds size is_text is_after is_places = record {
  taken = is_text ∙ ap (λ (l : List ℕ). l ++ record_text payload) adds.taken ∙ flat_map_more record_text [] added payload;
  sound = All-push (λ p. IsRecordSize (length p)) added payload adds.sound size;
  behind = is_after ∙ ap (λ l. l ++ payload ∷ []) adds.behind ∙ append_assoc records added (payload ∷ []);
  their_places =
      is_places
      ∙ ap (λ (l : List ℕ). l ++ (place + length text) ∷ []) adds.their_places
      ∙ append_assoc places (places_from place added) ((place + length text) ∷ [])
      ∙ ap (λ (l : List ℕ). places ++ l) (ap (λ n. places_from place added ++ n ∷ []) (ap (λ (l : List ℕ). place + length l) adds.taken) ∙ sym (places_from-push place added payload));
}

flat_map-append : (xs ys : List (List ℕ)) → flat_map record_text (xs ++ ys) ≡ flat_map record_text xs ++ flat_map record_text ys
flat_map-append [] ys = refl
flat_map-append (x ∷ xs) ys =
    ap (λ (l : List ℕ). record_text x ++ l) (flat_map-append xs ys) ∙ sym (append_assoc (record_text x) (flat_map record_text xs) (flat_map record_text ys))

places_from-append : (place : ℕ) (xs ys : List (List ℕ)) → places_from place (xs ++ ys) ≡ places_from place xs ++ places_from (place + length (flat_map record_text xs)) ys
places_from-append place [] ys = ap (λ n. places_from n ys) (omega arith)
places_from-append place (x ∷ xs) ys =
    ap (λ (l : List ℕ). place ∷ l) (
    places_from-append (place + length (record_text x)) xs ys
    ∙ ap (λ n. places_from (place + length (record_text x)) xs ++ places_from n ys) (omega (arith, length-append (record_text x) (flat_map record_text xs)))
    )

-- nothing is added between a place and itself
pub adds_none : (text : List ℕ) (place : ℕ) (records : List (List ℕ)) (places : List ℕ) → place ≤ length text → AddsBetween text place place records records places places
adds_none text place records places le = (
  [],
  record {
    taken = none (place - place) (omega arith);
    sound = All-nil (λ p. IsRecordSize (length p));
    behind = sym (append-nil records);
    their_places = sym (append-nil places);
  },
  omega arith,
  le,
)
  where
    none : (n : ℕ) → n ≡ 0 → take n (drop place text) ≡ []
    none n is = ap (λ (k : ℕ). take k (drop place text)) is

-- records behind others
pub adds_joined : (text bytes : List ℕ) (from place count : ℕ) (records between after : List (List ℕ)) (places places_between places_after : List ℕ) → AddsBetween text from place records between places places_between
    → bytes ≡ take (length bytes) (drop place text) → count ≤ length bytes → place + length bytes ≤ length text → (added : List (List ℕ)) → Adds place (take count bytes) added between after places_between places_after
    → AddsBetween text from (place + count) records after places places_after
adds_joined text bytes from place count records between after places places_between places_after before shown fits inside added more =
    let first = before.1 in
    let part : length (take (place - from) (drop from text)) ≡ place - from = length-take-le (place - from) (drop from text) (omega (arith, length-drop from text, before.3)) in
    let start : from + length (flat_map record_text before.0) ≡ place = omega (arith, ap length first.taken, part, before.2) in
    let joined = parts_joined text (take (place - from) (drop from text)) bytes from place count refl before.2 shown fits in (
      before.0 ++ added,
      record {
        taken = sym joined ∙ ap (λ (l : List ℕ). l ++ take count bytes) first.taken ∙ ap (λ (l : List ℕ). flat_map record_text before.0 ++ l) more.taken ∙ sym (flat_map-append before.0 added);
        sound = All-append (λ p. IsRecordSize (length p)) before.0 added first.sound more.sound;
        behind = more.behind ∙ ap (λ l. l ++ added) first.behind ∙ append_assoc records before.0 added;
        their_places =
            more.their_places
            ∙ ap (λ (l : List ℕ). l ++ places_from place added) first.their_places
            ∙ append_assoc places (places_from from before.0) (places_from place added)
            ∙ ap (λ (l : List ℕ). places ++ l) (ap (λ n. places_from from before.0 ++ places_from n added) (sym start) ∙ sym (places_from-append from before.0 added));
      },
      omega (arith, before.2),
      omega (arith, inside, fits),
    )

-- ---- why records end

-- the front of a text, and what follows
front_and_rest : (ys front : List ℕ) (k : ℕ) → take k ys ≡ front → ys ≡ front ++ drop k ys
front_and_rest ys front k is = sym (take-append-drop k ys) ∙ ap (λ (l : List ℕ). l ++ drop k ys) is

pub stops_at_end : (text bytes : List ℕ) (place : ℕ) → bytes ≡ take (length bytes) (drop place text) → StopsAt stop.End bytes → EndsAt text place
stops_at_end text bytes place shown at =
    (at.0, at.1 ++ drop (length bytes) (drop place text), front_and_rest (drop place text) (at.0 ∷ at.1) (length bytes) (sym shown ∙ at.2), at.3)

pub stops_at_bad : (text bytes : List ℕ) (place : ℕ) → bytes ≡ take (length bytes) (drop place text) → StopsAt stop.Bad bytes → BreaksAt text place
stops_at_bad text bytes place shown at =
    let rest = drop (length bytes) (drop place text) in
    let wrong = at.2 in
    inr (at.0 ++ rest, front_and_rest (drop place text) (OPEN ∷ at.0) (length bytes) (sym shown ∙ at.1), inl (wrong.0, wrong.1 ++ rest, wrong.2, ap (λ (l : List ℕ). l ++ rest) wrong.3 ∙ append_assoc (length_bytes wrong.0) wrong.1 rest, wrong.4))

pub stops_at_last : (text bytes : List ℕ) (place : ℕ) → bytes ≡ take (length bytes) (drop place text) → place + length bytes ≡ length text → StopsAt stop.More bytes → BreaksAt text place
stops_at_last text bytes place shown last at =
    let whole : bytes ≡ drop place text = shown ∙ take_all (length bytes) (drop place text) (omega (arith, length-drop place text, last)) in
    elim at [
      | inl none ↦ inl (sym whole ∙ none)
      | inr more ↦ inr (more.0, sym whole ∙ more.1, inr more.2)
    ]

-- ---- runs of reads

pub same_text : (left right : Side) (before after : Sides) → left ≡ right → before ≡ after → on left before ≡ on right after
same_text left right before after sides contents = ap (λ s. on s before) sides ∙ ap (λ c. on right c) contents

-- one run, a front left out, and another run
pub reads_on : (old middle new : DiskState) (first second third last : Window) → ReadsOn old middle first second → third.side ≡ second.side → third.length ≡ second.length → left_behind third ≡ left_behind second → ReadsOn middle new third last → ReadsOn old new first last
reads_on old middle new first second third last one side whole left two = record {
  reads = reads_joined old middle new one.reads two.reads;
  fetched = omega (arith, one.fetched, two.fetched, left);
  side = two.side ∙ side ∙ one.side;
  length = two.length ∙ whole ∙ one.length;
}

-- a base that grows by the front of a window
pub base_grows : (text base bytes : List ℕ) (from place count : ℕ) → base ≡ take (length base) (drop from text) → bytes ≡ take (length bytes) (drop place text) → place ≡ from + length base → count ≤ length bytes
    → base ++ take count bytes ≡ take (length base + count) (drop from text)
base_grows text base bytes from place count is shown at fits =
    let size : length base ≡ place - from = omega (arith, at) in
    parts_joined text base bytes from place count (is ∙ ap (λ n. take n (drop from text)) size) (omega (arith, at)) shown fits
    ∙ ap (λ n. take n (drop from text)) (omega (arith, at))
