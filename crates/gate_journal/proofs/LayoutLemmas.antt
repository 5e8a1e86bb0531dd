-- A side of bytes is closed, or open with one content, or bad at one place.
use Rattle.std.proofs.Common.{lit<, ◌≡◌, ◌≢◌, ◌⊎◌, inl, inr, ⊎_elim, ℕ, zero, suc, ◌+◌, ◌^◌, ◌<◌, ◌≤◌, List, [], ◌∷◌, ◌++◌, length, get_or, take, drop, refl, sym, ◌∙◌, ap, subst, arith, append_assoc, length-append, length-take, length-drop, take-append-drop}
use Rattle.std.specs.Prelude.{All}
use Rattle.std.proofs.lemmas.Bool.{cases_eq, cases_lt}
use Rattle.std.proofs.lemmas.List.{append-nil, take_at, drop_at, get_or-take, get_or-drop, get_or_past}
use Rattle.std.proofs.lemmas.List.Elements.{All-cons, All-get_or, All-head, All-nil, All-tail}
use Rattle.std.proofs.lemmas.Nat.{be_bytes_4, be_bytes_8}
use Rattle.std.specs.Int.{w32, w64, from_be_bytes}
use Rattle.std.specs.List.{flat_map}
use Rattle.gate_journal.specs.declared.parts.TheConstants.{OPEN, HEAD, MAX_BASE, MAX_RECORD}
use Rattle.gate_journal.specs.Laws.{OneLayout, EachSideHasOneLayout, HasLayout, closed, holding, bad}
use Rattle.gate_journal.specs.Layout.{Content, IsSound, HoldsContent, HasHead, HasBadBase, HasShortHead, HasWrongSize, IsClosed, EndsTooSoon, IsOpen, IsRecordSize, eight_bytes, length_bytes, head_text, record_text, side_text}
use Rattle.gate_journal.proofs.FrontLemmas.{head_length}
use Rattle.gate_journal.proofs.NumberLemmas.{length-eight_bytes, length-length_bytes, same_eight, same_four}
use Rattle.gate_journal.proofs.TextLemmas.{head_first, length-head_text, length-record_text, record_first, size_first}

-- ---- lists that agree

pub same_front : (a b c d : List ℕ) → length a ≡ length c → a ++ b ≡ c ++ d → (a ≡ c) × (b ≡ d)
same_front a b c d sizes same = (
  sym (take_at a b (length a) refl) ∙ ap (λ (l : List ℕ). take (length a) l) same ∙ take_at c d (length a) (sym sizes),
  sym (drop_at a b (length a) refl) ∙ ap (λ (l : List ℕ). drop (length a) l) same ∙ drop_at c d (length a) (sym sizes),
)

-- ---- records that agree

-- no record stands at the front
abbrev pub NoRecord : List ℕ → Type 0
NoRecord text = (payload more : List ℕ) → IsRecordSize (length payload) → text ≡ record_text payload ++ more → ⊥

same_record : (p q t u : List ℕ) → IsRecordSize (length p) → IsRecordSize (length q) → record_text p ++ t ≡ record_text q ++ u → (p ≡ q) × (t ≡ u)
unfolding record_text
same_record p q t u size_p size_q same =
    let head_p = OPEN ∷ length_bytes (length p) in
    let head_q = OPEN ∷ length_bytes (length q) in
    let split = sym (append_assoc head_p p t) ∙ same ∙ append_assoc head_q q u in
    let heads = same_front head_p (p ++ t) head_q (q ++ u) (omega (arith, length-length_bytes (length p), length-length_bytes (length q))) split in
    let fours : length_bytes (length p) ≡ length_bytes (length q) = ap (λ (l : List ℕ). drop 1 l) heads.0 in
    let sizes = same_four (length p) (length q) (omega (arith, size_p.1)) (omega (arith, size_q.1)) fours in
    same_front p t q u sizes heads.1

same_records : (rs qs : List (List ℕ)) (t u : List ℕ) → All (λ p. IsRecordSize (length p)) rs → All (λ p. IsRecordSize (length p)) qs → NoRecord t → NoRecord u → flat_map record_text rs ++ t ≡ flat_map record_text qs ++ u → (rs ≡ qs) × (t ≡ u)
same_records [] [] t u sound_r sound_q no_t no_u same = (refl, same)
same_records [] (q ∷ qs) t u sound_r sound_q no_t no_u same =
    absurd (no_t q (flat_map record_text qs ++ u) (All-head (λ p. IsRecordSize (length p)) q qs sound_q) (same ∙ append_assoc (record_text q) (flat_map record_text qs) u))
same_records (r ∷ rs) [] t u sound_r sound_q no_t no_u same =
    absurd (no_u r (flat_map record_text rs ++ t) (All-head (λ p. IsRecordSize (length p)) r rs sound_r) (sym same ∙ append_assoc (record_text r) (flat_map record_text rs) t))
same_records (r ∷ rs) (q ∷ qs) t u sound_r sound_q no_t no_u same =
    let P : List ℕ → Type 0 = λ p. IsRecordSize (length p) in
    let split = sym (append_assoc (record_text r) (flat_map record_text rs) t) ∙ same ∙ append_assoc (record_text q) (flat_map record_text qs) u in
    let first = same_record r q (flat_map record_text rs ++ t) (flat_map record_text qs ++ u) (All-head P r rs sound_r) (All-head P q qs sound_q) split in
    let rest = same_records rs qs t u (All-tail P r rs sound_r) (All-tail P q qs sound_q) no_t no_u first.1 in
    (λ i. first.0 i ∷ rest.0 i, rest.1)

pub same_head : (g h s r : ℕ) (t u : List ℕ) → g < 2 ^ 64 → h < 2 ^ 64 → s < 2 ^ 32 → r < 2 ^ 32 → head_text g s ++ t ≡ head_text h r ++ u → (g ≡ h) × (s ≡ r) × (t ≡ u)
unfolding head_text
same_head g h s r t u small_g small_h small_s small_r same =
    let heads = same_front (head_text g s) t (head_text h r) u (length-head_text g s ∙ sym (length-head_text h r)) same in
    let parts = same_front (OPEN ∷ eight_bytes g) (length_bytes s) (OPEN ∷ eight_bytes h) (length_bytes r) (omega (arith, length-eight_bytes g, length-eight_bytes h)) heads.0 in
    (same_eight g h small_g small_h (ap (λ (l : List ℕ). drop 1 l) parts.0), same_four s r small_s small_r parts.1, heads.1)

-- ---- what no record stands at the front of

no_record_in_nothing : NoRecord []
no_record_in_nothing payload more size same =
    absurd (omega (arith, ap length same, length-append (record_text payload) more, length-record_text payload))

open_first : (payload more : List ℕ) → record_text payload ++ more ≡ OPEN ∷ (length_bytes (length payload) ++ (payload ++ more))
unfolding record_text
open_first payload more = append_assoc (OPEN ∷ length_bytes (length payload)) payload more

no_record_closed : (gate : ℕ) (behind : List ℕ) → gate ≢ OPEN → NoRecord (gate ∷ behind)
no_record_closed gate behind other payload more size same =
    other (ap (λ (l : List ℕ). get_or l 0 0) (same ∙ open_first payload more))

sized : (behind payload more rest : List ℕ) (size : ℕ) → size < 2 ^ 32 → behind ≡ length_bytes size ++ more → IsRecordSize (length payload) → OPEN ∷ behind ≡ record_text payload ++ rest → (size ≡ length payload) × (more ≡ payload ++ rest)
sized behind payload more rest size small is record_size same =
    let tail : behind ≡ length_bytes (length payload) ++ (payload ++ rest) = ap (λ (l : List ℕ). drop 1 l) (same ∙ open_first payload rest) in
    let parts = same_front (length_bytes size) more (length_bytes (length payload)) (payload ++ rest) (length-length_bytes size ∙ sym (length-length_bytes (length payload))) (sym is ∙ tail) in
    (same_four size (length payload) small (omega (arith, record_size.1)) parts.0, parts.1)

no_record_wrong : (behind : List ℕ) → HasWrongSize behind → NoRecord (OPEN ∷ behind)
no_record_wrong behind wrong payload more size same =
    let is = sized behind payload wrong.1 more wrong.0 wrong.2 wrong.3 size same in
    ⊎_elim (λ none. absurd (omega (arith, none, is.0, size.0))) (λ large. absurd (omega (arith, large, is.0, size.1))) wrong.4

no_record_cut : (behind : List ℕ) → EndsTooSoon behind → NoRecord (OPEN ∷ behind)
no_record_cut behind (inl short) payload more size same =
    absurd (omega (arith, short, ap length same, length-append (record_text payload) more, length-record_text payload))
no_record_cut behind (inr cut) payload more size same =
    let is = sized behind payload cut.1 more cut.0 cut.2 cut.3 size same in
    absurd (omega (arith, cut.4, is.0, ap length is.1, length-append payload more))

same_side : (c d : Content) (t u : List ℕ) → IsSound c → IsSound d → NoRecord t → NoRecord u → side_text c ++ t ≡ side_text d ++ u → (c ≡ d) × (t ≡ u)
unfolding side_text
same_side c d t u sound_c sound_d no_t no_u same =
    let head_c = head_text c.generation (length c.base) in
    let head_d = head_text d.generation (length d.base) in
    let records_c = flat_map record_text c.records in
    let records_d = flat_map record_text d.records in
    let split_c = append_assoc (head_c ++ c.base) records_c t ∙ append_assoc head_c c.base (records_c ++ t) in
    let split_d = append_assoc (head_d ++ d.base) records_d u ∙ append_assoc head_d d.base (records_d ++ u) in
    let heads = same_head c.generation d.generation (length c.base) (length d.base) (c.base ++ (records_c ++ t)) (d.base ++ (records_d ++ u)) sound_c.generation sound_d.generation (omega (arith, sound_c.base)) (omega (arith, sound_d.base)) (sym split_c ∙ same ∙ split_d) in
    let bases = same_front c.base (records_c ++ t) d.base (records_d ++ u) heads.1 heads.2 in
    let records = same_records c.records d.records t u sound_c.records sound_d.records no_t no_u bases.1 in
    (λ i. record { generation = heads.0 i; base = bases.0 i; records = records.0 i }, records.1)

-- ---- what a layout says of its side

-- the records end in a text at whose front no record stands
abbrev pub Ending : Content → List ℕ → OneLayout → Type 0
Ending content tail one =
    ((tail ≡ []) × (one ≡ bad (length (side_text content))))
    ⊎ ((gate : ℕ) × (behind : List ℕ) × (tail ≡ gate ∷ behind) × (gate ≢ OPEN) × (one ≡ holding content))
    ⊎ ((behind : List ℕ) × (tail ≡ OPEN ∷ behind) × (HasWrongSize behind ⊎ EndsTooSoon behind) × (one ≡ bad (length (side_text content))))

-- a side with a whole head and a base
pub record HasTail (side : List ℕ) (one : OneLayout) : Type 0 where
  pub content : Content
  pub tail : List ℕ
  pub sound : IsSound content
  pub none : NoRecord tail
  pub text : side ≡ side_text content ++ tail
  pub ending : Ending content tail one

same_ending : (content : Content) (tail : List ℕ) (x y : OneLayout) → Ending content tail x → Ending content tail y → x ≡ y
same_ending content tail x y (inl a) (inl b) = a.1 ∙ sym b.1
same_ending content tail x y (inl a) (inr (inl b)) = absurd (cc (sym a.0 ∙ b.2))
same_ending content tail x y (inl a) (inr (inr b)) = absurd (cc (sym a.0 ∙ b.1))
same_ending content tail x y (inr (inl a)) (inl b) = absurd (cc (sym b.0 ∙ a.2))
same_ending content tail x y (inr (inl a)) (inr (inl b)) = a.4 ∙ sym b.4
same_ending content tail x y (inr (inl a)) (inr (inr b)) = absurd (a.3 (ap (λ (l : List ℕ). get_or l 0 0) (sym a.2 ∙ b.1)))
same_ending content tail x y (inr (inr a)) (inl b) = absurd (cc (sym b.0 ∙ a.1))
same_ending content tail x y (inr (inr a)) (inr (inl b)) = absurd (b.3 (ap (λ (l : List ℕ). get_or l 0 0) (sym b.2 ∙ a.1)))
same_ending content tail x y (inr (inr a)) (inr (inr b)) = a.3 ∙ sym b.3

-- the four kinds of a side
abbrev pub Kind : List ℕ → OneLayout → Type 0
Kind side one = (IsClosed side × (one ≡ closed)) ⊎ (HasShortHead side × (one ≡ bad 1)) ⊎ (HasBadBase side × (one ≡ bad 9)) ⊎ HasTail side one

holding_tail : (side : List ℕ) (content : Content) → HoldsContent content side → HasTail side (holding content)
holding_tail side content holds = record {
  content = content;
  tail = holds.gate ∷ holds.behind;
  sound = holds.sound;
  none = no_record_closed holds.gate holds.behind holds.closed;
  text = holds.text;
  ending = inr (inl (holds.gate, holds.behind, refl, holds.closed, refl));
}

pub kind_of : (side : List ℕ) (one : OneLayout) → HasLayout one side → Kind side one
kind_of side closed is = inl (is, refl)
kind_of side (holding content) holds = inr (inr (inr (holding_tail side content holds)))
kind_of side (bad place) (inl short) = inr (inl (short.0, ap bad short.1))
kind_of side (bad place) (inr (inl base)) = inr (inr (inl (base.0, ap bad base.1)))
kind_of side (bad place) (inr (inr (inl gate))) =
    let text = gate.0.2 ∙ sym (append-nil (side_text gate.0.0)) in inr (inr (inr (record {
      content = gate.0.0;
      tail = [];
      sound = gate.0.1;
      none = no_record_in_nothing;
      text = text;
      ending = inl (refl, ap bad (gate.1 ∙ ap length gate.0.2));
    })))
kind_of side (bad place) (inr (inr (inr broken))) = inr (inr (inr (record {
  content = broken.0;
  tail = OPEN ∷ broken.1;
  sound = broken.2;
  none = ⊎_elim (no_record_wrong broken.1) (no_record_cut broken.1) broken.4;
  text = broken.3;
  ending = inr (inr (broken.1, refl, broken.4, ap bad broken.5));
})))

-- a whole head is open
pub head_is_open : (generation size : ℕ) (behind side : List ℕ) → HasHead generation size behind side → IsOpen side
unfolding head_text
head_is_open generation size behind side head =
    (omega (arith, head_length generation size behind side head), ap (λ (l : List ℕ). get_or l 0 0) head.text)

tail_head : (side : List ℕ) (one : OneLayout) (is : HasTail side one) → HasHead is.content.generation (length is.content.base) (is.content.base ++ (flat_map record_text is.content.records ++ is.tail)) side
unfolding side_text
tail_head side one is =
    let head = head_text is.content.generation (length is.content.base) in
    let records = flat_map record_text is.content.records in record {
      text = is.text ∙ append_assoc (head ++ is.content.base) records is.tail ∙ append_assoc head is.content.base (records ++ is.tail);
      generation_fits = is.sound.generation;
      size_fits = omega (arith, is.sound.base);
    }

-- a side that holds a content begins with its head
pub holds_head : (side : List ℕ) (content : Content) (holds : HoldsContent content side) → HasHead content.generation (length content.base) (content.base ++ (flat_map record_text content.records ++ (holds.gate ∷ holds.behind))) side
unfolding holding_tail
holds_head side content holds = tail_head side (holding content) (holding_tail side content holds)

base_or_tail : (side : List ℕ) (one : OneLayout) → HasBadBase side → HasTail side one → ⊥
base_or_tail side one base is =
    let head = tail_head side one is in
    let tail = is.content.base ++ (flat_map record_text is.content.records ++ is.tail) in
    let same = same_head base.0 is.content.generation base.1 (length is.content.base) base.2 tail base.3.generation_fits head.generation_fits base.3.size_fits head.size_fits (sym base.3.text ∙ head.text) in
    ⊎_elim (λ large. omega (arith, large, same.1, is.sound.base)) (λ past. omega (arith, past, same.1, ap length same.2, length-append is.content.base (flat_map record_text is.content.records ++ is.tail))) base.4

pub agree : (side : List ℕ) (x y : OneLayout) → Kind side x → Kind side y → x ≡ y
agree side x y (inl a) (inl b) = a.1 ∙ sym b.1
agree side x y (inl a) (inr (inl b)) = absurd (a.0 b.0.0.0 b.0.0.1)
agree side x y (inl a) (inr (inr (inl b))) =
    let o = head_is_open b.0.0 b.0.1 b.0.2 side b.0.3 in absurd (a.0 o.0 o.1)
agree side x y (inl a) (inr (inr (inr b))) =
    let o = head_is_open b.content.generation (length b.content.base) _ side (tail_head side y b) in absurd (a.0 o.0 o.1)
agree side x y (inr (inl a)) (inl b) = absurd (b.0 a.0.0.0 a.0.0.1)
agree side x y (inr (inl a)) (inr (inl b)) = a.1 ∙ sym b.1
agree side x y (inr (inl a)) (inr (inr (inl b))) =
    absurd (omega (arith, a.0.1, head_length b.0.0 b.0.1 b.0.2 side b.0.3))
agree side x y (inr (inl a)) (inr (inr (inr b))) =
    absurd (omega (arith, a.0.1, head_length b.content.generation (length b.content.base) _ side (tail_head side y b)))
agree side x y (inr (inr (inl a))) (inl b) =
    let o = head_is_open a.0.0 a.0.1 a.0.2 side a.0.3 in absurd (b.0 o.0 o.1)
agree side x y (inr (inr (inl a))) (inr (inl b)) =
    absurd (omega (arith, b.0.1, head_length a.0.0 a.0.1 a.0.2 side a.0.3))
agree side x y (inr (inr (inl a))) (inr (inr (inl b))) = a.1 ∙ sym b.1
agree side x y (inr (inr (inl a))) (inr (inr (inr b))) = absurd (base_or_tail side y a.0 b)
agree side x y (inr (inr (inr a))) (inl b) =
    let o = head_is_open a.content.generation (length a.content.base) _ side (tail_head side x a) in absurd (b.0 o.0 o.1)
agree side x y (inr (inr (inr a))) (inr (inl b)) =
    absurd (omega (arith, b.0.1, head_length a.content.generation (length a.content.base) _ side (tail_head side x a)))
agree side x y (inr (inr (inr a))) (inr (inr (inl b))) = absurd (base_or_tail side x b.0 a)
agree side x y (inr (inr (inr a))) (inr (inr (inr b))) =
    let same = same_side a.content b.content a.tail b.tail a.sound b.sound a.none b.none (sym a.text ∙ b.text) in
    same_ending b.content b.tail x y (subst (λ t. Ending b.content t x) same.1 (subst (λ c. Ending c a.tail x) same.0 a.ending)) b.ending

-- ---- each side of bytes has one

abbrev pub AreBytes : List ℕ → Type 0
AreBytes text = (i : ℕ) → get_or text i 0 < 256

bytes_behind : (n : ℕ) (text : List ℕ) → AreBytes text → AreBytes (drop n text)
bytes_behind n text bytes i = subst (λ b. b < 256) (sym (get_or-drop n text i 0)) (bytes (n + i))

bytes_before : (n : ℕ) (text : List ℕ) → AreBytes text → AreBytes (take n text)
bytes_before n text bytes i = elim (cases_lt i n) [
  | inl inside ↦ subst (λ b. b < 256) (sym (get_or-take n text i 0 inside)) (bytes i)
  | inr past ↦ subst (λ b. b < 256) (sym (get_or_past (take n text) i 0 (omega (arith, past, length-take n text)))) (lit< tt)
]

four_of : (text : List ℕ) → 4 ≤ length text → AreBytes text → (size : ℕ) × (size < 2 ^ 32) × (length_bytes size ≡ take 4 text)
unfolding length_bytes
four_of text long bytes =
    let four = take 4 text in
    let are = bytes_before 4 text bytes in
    (from_be_bytes w32 four, omega (arith, are 0, are 1, are 2, are 3), be_bytes_4 four (from_be_bytes w32 four) (omega (arith, length-take 4 text, long)) are refl)

eight_of : (text : List ℕ) → 8 ≤ length text → AreBytes text → (generation : ℕ) × (generation < 2 ^ 64) × (eight_bytes generation ≡ take 8 text)
unfolding eight_bytes
eight_of text long bytes =
    let eight = take 8 text in
    let are = bytes_before 8 text bytes in
    (from_be_bytes w64 eight, omega (arith, are 0, are 1, are 2, are 3, are 4, are 5, are 6, are 7), be_bytes_8 eight (from_be_bytes w64 eight) (omega (arith, length-take 8 text, long)) are refl)

-- the records at the front of a text, and why they end
record Records (text : List ℕ) : Type 0 where
  records : List (List ℕ)
  tail : List ℕ
  text_is : text ≡ flat_map record_text records ++ tail
  sound : All (λ p. IsRecordSize (length p)) records
  why : (tail ≡ []) ⊎ ((gate : ℕ) × (behind : List ℕ) × (tail ≡ gate ∷ behind) × (gate ≢ OPEN)) ⊎ ((behind : List ℕ) × (tail ≡ OPEN ∷ behind) × (HasWrongSize behind ⊎ EndsTooSoon behind))

ends_here : (text : List ℕ) → ((text ≡ []) ⊎ ((gate : ℕ) × (behind : List ℕ) × (text ≡ gate ∷ behind) × (gate ≢ OPEN)) ⊎ ((behind : List ℕ) × (text ≡ OPEN ∷ behind) × (HasWrongSize behind ⊎ EndsTooSoon behind))) → Records text
ends_here text why = record { records = []; tail = text; text_is = refl; sound = All-nil (λ p. IsRecordSize (length p)); why = why }

-- behind an open gate: a record, or a fault
step : (text : List ℕ) → 0 < length text → get_or text 0 0 ≡ OPEN → AreBytes text
    → (HasWrongSize (drop 1 text) ⊎ EndsTooSoon (drop 1 text)) ⊎ ((payload behind : List ℕ) × IsRecordSize (length payload) × (text ≡ record_text payload ++ behind) × (length behind < length text) × AreBytes behind)
step text some first bytes = elim (cases_lt (length text) 5) [
  | inl short ↦ inl (inr (inl (omega (arith, short, length-drop 1 text))))
  | inr long ↦
      let four = four_of (drop 1 text) (omega (arith, long, length-drop 1 text)) (bytes_behind 1 text bytes) in
      let size = four.0 in
      let more = drop 5 text in
      let whole : text ≡ OPEN ∷ (length_bytes size ++ more) = size_first text size long first four.2 in
      let is : drop 1 text ≡ length_bytes size ++ more = ap (λ (l : List ℕ). drop 1 l) whole in
      elim (cases_lt 0 size) [
        | inr none ↦ inl (inl (size, more, four.1, is, inl (omega (arith, none))))
        | inl some_size ↦ elim (cases_lt MAX_RECORD size) [
          | inl large ↦ inl (inl (size, more, four.1, is, inr large))
          | inr fits ↦ elim (cases_lt (length more) size) [
            | inl cut ↦ inl (inr (inr (size, more, four.1, is, cut)))
            | inr there ↦
                let payload = take size more in
                let sized : length payload ≡ size = omega (arith, length-take size more, there) in
                let record_is = record_first text size (omega (arith, there, length-drop 5 text, long)) first four.2 sized in
                inr (payload, drop size more, (omega (arith, sized, some_size), omega (arith, sized, fits)), record_is, omega (arith, length-drop size more, length-drop 5 text, long), bytes_behind size more (bytes_behind 5 text bytes))
          ]
        ]
      ]
]

scan : (fuel : ℕ) (text : List ℕ) → length text ≤ fuel → AreBytes text → Records text
scan zero text fits bytes = ends_here text (inl (none text (omega (arith, fits))))
  where
    none : (xs : List ℕ) → length xs ≡ 0 → xs ≡ []
    none [] is = refl
    none (x ∷ xs) is = absurd (omega (arith, is))
scan (suc fuel) [] fits bytes = ends_here [] (inl refl)
scan (suc fuel) (gate ∷ behind) fits bytes = elim (cases_eq gate OPEN) [
  | inr other ↦ ends_here (gate ∷ behind) (inr (inl (gate, behind, refl, other)))
  | inl first ↦ elim (step (gate ∷ behind) (omega arith) first bytes) [
    | inl fault ↦ ends_here (gate ∷ behind) (inr (inr (behind, ap (λ g. g ∷ behind) first, fault)))
    | inr one ↦
        let rest = scan fuel one.1 (omega (arith, one.4, fits)) one.5 in record {
          records = one.0 ∷ rest.records;
          tail = rest.tail;
          text_is = one.3 ∙ ap (λ (l : List ℕ). record_text one.0 ++ l) rest.text_is ∙ sym (append_assoc (record_text one.0) (flat_map record_text rest.records) rest.tail);
          sound = All-cons (λ p. IsRecordSize (length p)) one.0 rest.records one.2 rest.sound;
          why = rest.why;
        }
  ]
]

-- behind a whole head and base
behind_base : (side : List ℕ) (generation size : ℕ) → HasHead generation size (drop HEAD side) side → size ≤ MAX_BASE → size ≤ length (drop HEAD side) → AreBytes side → (one : OneLayout) × HasLayout one side
unfolding side_text
behind_base side generation size head fits room bytes =
    let base = take size (drop HEAD side) in
    let text = drop size (drop HEAD side) in
    let read = scan (length text) text (omega arith) (bytes_behind size (drop HEAD side) (bytes_behind HEAD side bytes)) in
    let content : Content = record { generation = generation; base = base; records = read.records } in
    let sized : length base ≡ size = omega (arith, length-take size (drop HEAD side), room) in
    let sound : IsSound content = record { generation = head.generation_fits; base = omega (arith, sized, fits); records = read.sound } in
    let whole : side ≡ side_text content ++ read.tail =
    head.text
    ∙ ap (λ n. head_text generation n ++ drop HEAD side) (sym sized)
    ∙ ap (λ (l : List ℕ). head_text generation (length base) ++ l) (sym (take-append-drop size (drop HEAD side)) ∙ ap (λ (l : List ℕ). base ++ l) read.text_is)
    ∙ sym (append_assoc (head_text generation (length base)) base (flat_map record_text read.records ++ read.tail))
    ∙ sym (append_assoc (head_text generation (length base) ++ base) (flat_map record_text read.records) read.tail) in
    elim read.why [
      | inl none ↦
          let all : side ≡ side_text content = whole ∙ ap (λ (l : List ℕ). side_text content ++ l) none ∙ append-nil (side_text content) in
          (bad (length side), inr (inr (inl ((content, sound, all), refl))))
      | inr (inl gate) ↦ (holding content, record { gate = gate.0; behind = gate.1; text = whole ∙ ap (λ (l : List ℕ). side_text content ++ l) gate.2; closed = gate.3; sound = sound })
      | inr (inr fault) ↦ (bad (length (side_text content)), inr (inr (inr (content, fault.0, sound, whole ∙ ap (λ (l : List ℕ). side_text content ++ l) fault.1, fault.2, refl))))
    ]

pub whole_head : (side : List ℕ) → HEAD ≤ length side → get_or side 0 0 ≡ OPEN → AreBytes side → (generation size : ℕ) × HasHead generation size (drop HEAD side) side
whole_head side long first bytes =
    let generation = eight_of (drop 1 side) (omega (arith, long, length-drop 1 side)) (bytes_behind 1 side bytes) in
    let size = four_of (drop 9 side) (omega (arith, long, length-drop 9 side)) (bytes_behind 9 side bytes) in
    (generation.0, size.0, record { text = head_first side generation.0 size.0 long first generation.2 size.2; generation_fits = generation.1; size_fits = size.1 })

pub some_layout : (side : List ℕ) → AreBytes side → (one : OneLayout) × HasLayout one side
some_layout side bytes = elim (cases_lt (length side) 2) [
  | inl short ↦ (closed, λ two. absurd (omega (arith, short, two)))
  | inr two ↦ elim (cases_eq (get_or side 0 0) OPEN) [
    | inr other ↦ (closed, λ _. other)
    | inl first ↦ elim (cases_lt (length side) HEAD) [
      | inl short ↦ (bad 1, inl (((two, first), short), refl))
      | inr long ↦
          let whole = whole_head side long first bytes in
          let size = whole.1 in
          let head = whole.2 in
          elim (cases_lt MAX_BASE size) [
            | inl large ↦ (bad 9, inr (inl ((whole.0, size, drop HEAD side, head, inl large), refl)))
            | inr fits ↦ elim (cases_lt (length (drop HEAD side)) size) [
              | inl past ↦ (bad 9, inr (inl ((whole.0, size, drop HEAD side, head, inr past), refl)))
              | inr room ↦ behind_base side whole.0 size head fits room bytes
            ]
          ]
    ]
  ]
]

pub are_bytes : (side : List ℕ) → All (λ byte. byte < 2 ^ 8) side → AreBytes side
are_bytes side bytes i = elim (cases_lt i (length side)) [
  | inl inside ↦ All-get_or (λ byte. byte < 2 ^ 8) side i 0 inside bytes
  | inr past ↦ subst (λ b. b < 256) (sym (get_or_past side i 0 past)) (lit< tt)
]

pub one_layout : EachSideHasOneLayout
one_layout side bytes =
    let one = some_layout side (are_bytes side bytes) in
    (one.0, one.1, λ any is. agree side any one.0 (kind_of side any is) (kind_of side one.0 one.1))
