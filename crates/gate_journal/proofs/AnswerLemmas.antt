-- Both sides of bytes hold one thing, or have their first fault at one place.
use Rattle.std.proofs.Common.{◌≡◌, ◌⊎◌, inl, inr, ℕ, ◌<◌, ◌≤◌, if◌then◌else◌, nat_lt, List, length, drop, get_or, refl, sym, ◌∙◌, ap, subst, arith}
use Rattle.std.specs.Prelude.{◌==◌, Some, None}
use Rattle.std.specs.declared.option.Option.{Option}
use Rattle.std.proofs.lemmas.Bool.{cases_eq, cases_lt}
use Rattle.std.proofs.lemmas.Bool.Decides.{nat_tests}
use Rattle.xs_outside.specs.declared.Side.{Side}
use Rattle.xs_outside.specs.declared.Side.TheVariants.{A, B}
use Rattle.xs_outside.specs.Disk.{Sides, on, other}
use Rattle.gate_journal.specs.declared.held.Held.{Held}
use Rattle.gate_journal.specs.declared.parts.TheConstants.{OPEN, HEAD}
use Rattle.gate_journal.specs.Layout.{Content, HoldsContent, HasShortHead, IsClosed, IsOpen, places_from}
use Rattle.gate_journal.specs.Laws.{BothSidesHaveOneAnswer, HasAnswer, HasLayout, OneAnswer, OneLayout, SidesHoldOne, bad, closed, faulty, hold, holding}
use Rattle.gate_journal.specs.Sides.{HasGeneration, IsBehind, SidesHold, held_content, first_place}
use Rattle.gate_journal.proofs.FrontLemmas.{head_length}
use Rattle.gate_journal.proofs.LayoutLemmas.{AreBytes, agree, are_bytes, head_is_open, holds_head, kind_of, same_head, some_layout, whole_head}

-- ---- the front of a side

data Front : Type 0 where
  shut : Front
  short : Front
  headed : ℕ → Front

abbrev FrontIs : Front → List ℕ → Type 0
FrontIs shut side = IsClosed side
FrontIs short side = HasShortHead side
FrontIs (headed generation) side = HasGeneration generation side

head_is_long : (generation : ℕ) (side : List ℕ) → HasGeneration generation side → HEAD ≤ length side
head_is_long generation side has = head_length generation has.0 has.1 side has.2

is_open : (generation : ℕ) (side : List ℕ) → HasGeneration generation side → IsOpen side
is_open generation side has = head_is_open generation has.0 has.1 side has.2

same_generation : (g h : ℕ) (side : List ℕ) → HasGeneration g side → HasGeneration h side → g ≡ h
same_generation g h side a b =
    (same_head g h a.0 b.0 a.1 b.1 a.2.generation_fits b.2.generation_fits a.2.size_fits b.2.size_fits (sym a.2.text ∙ b.2.text)).0

one_front : (side : List ℕ) (x y : Front) → FrontIs x side → FrontIs y side → x ≡ y
one_front side shut shut a b = refl
one_front side shut short a b = absurd (a b.0.0 b.0.1)
one_front side shut (headed h) a b = let o = is_open h side b in absurd (a o.0 o.1)
one_front side short shut a b = absurd (b a.0.0 a.0.1)
one_front side short short a b = refl
one_front side short (headed h) a b = absurd (omega (arith, a.1, head_is_long h side b))
one_front side (headed g) shut a b = let o = is_open g side a in absurd (b o.0 o.1)
one_front side (headed g) short a b = absurd (omega (arith, b.1, head_is_long g side a))
one_front side (headed g) (headed h) a b = ap headed (same_generation g h side a b)

front_of : (side : List ℕ) → AreBytes side → (front : Front) × FrontIs front side
front_of side bytes = elim (cases_lt (length side) 2) [
  | inl few ↦ (shut, λ two. absurd (omega (arith, few, two)))
  | inr two ↦ elim (cases_eq (get_or side 0 0) OPEN) [
    | inr not_open ↦ (shut, λ _. not_open)
    | inl first ↦ elim (cases_lt (length side) HEAD) [
      | inl few ↦ (short, ((two, first), few))
      | inr long ↦ let head = whole_head side long first bytes in (headed head.0, (head.1, drop HEAD side, head.2))
    ]
  ]
]

-- ---- what the fronts decide

data Pick : Type 0 where
  neither : Pick
  short_at : Side → Pick
  equal : Pick
  newer : Side → Pick

abbrev pick_by : ℕ → ℕ → Pick
pick_by g h = if g == h then equal else (if nat_lt g h then newer B else newer A)

by_equal : (g : ℕ) → pick_by g g ≡ equal
by_equal g = grind (arith, nat_tests)

by_less : (g h : ℕ) → g < h → pick_by g h ≡ newer B
by_less g h less = grind (arith, nat_tests)

by_more : (g h : ℕ) → h < g → pick_by g h ≡ newer A
by_more g h more = grind (arith, nat_tests)

abbrev pick : Front → Front → Pick
pick short front = short_at A
pick shut shut = neither
pick shut short = short_at B
pick shut (headed h) = newer B
pick (headed g) shut = newer A
pick (headed g) short = short_at B
pick (headed g) (headed h) = pick_by g h

-- the answer of the side that is held, by what it is by itself
abbrev answer_of : Side → OneLayout → OneAnswer
answer_of side closed = hold None
answer_of side (holding content) = hold (Some (record { side = side; generation = content.generation; base = content.base; records = content.records; places = places_from (first_place content) content.records }))
answer_of side (bad place) = faulty side place

abbrev Detail : Pick → OneAnswer → Sides → Type 0
Detail neither one sides = one ≡ hold None
Detail (short_at side) one sides = one ≡ faulty side 1
Detail equal one sides = one ≡ faulty B 1
Detail (newer side) one sides = (layout : OneLayout) × HasLayout layout (on side sides) × (one ≡ answer_of side layout)

record Picked (sides : Sides) (one : OneAnswer) : Type 0 where
  a : Front
  b : Front
  is_a : FrontIs a sides.a
  is_b : FrontIs b sides.b
  picked : Pick
  by : pick a b ≡ picked
  detail : Detail picked one sides

-- ---- each answer has what its fronts decide

newer_of : (sides : Sides) (side : Side) (g : ℕ) → HasGeneration g (on side sides) → IsBehind g (on (other side) sides)
    → (layout : OneLayout) → HasLayout layout (on side sides) → (one : OneAnswer) → one ≡ answer_of side layout → Picked sides one
newer_of sides A g has (inl shut_side) layout is one e = record { a = headed g; b = shut; is_a = has; is_b = shut_side; picked = newer A; by = refl; detail = (layout, is, e) }
newer_of sides A g has (inr own) layout is one e = record { a = headed g; b = headed own.0; is_a = has; is_b = own.1; picked = newer A; by = by_more g own.0 own.2; detail = (layout, is, e) }
newer_of sides B g has (inl shut_side) layout is one e = record { a = shut; b = headed g; is_a = shut_side; is_b = has; picked = newer B; by = refl; detail = (layout, is, e) }
newer_of sides B g has (inr own) layout is one e = record { a = headed own.0; b = headed g; is_a = own.1; is_b = has; picked = newer B; by = by_less own.0 g own.2; detail = (layout, is, e) }

not_short : (side : List ℕ) (front : Front) → FrontIs front side → HEAD ≤ length side → pick front short ≡ short_at B
not_short side shut is long = refl
not_short side short is long = absurd (omega (arith, is.1, long))
not_short side (headed g) is long = refl

short_b : (sides : Sides) (place : ℕ) → AreBytes sides.a → HasShortHead sides.b → (IsClosed sides.a ⊎ (HEAD ≤ length sides.a)) → place ≡ 1 → Picked sides (faulty B place)
short_b sides place bytes is (inl shut_side) e = record { a = shut; b = short; is_a = shut_side; is_b = is; picked = short_at B; by = refl; detail = ap (faulty B) e }
short_b sides place bytes is (inr long) e =
    let front = front_of sides.a bytes in
    record { a = front.0; b = short; is_a = front.1; is_b = is; picked = short_at B; by = not_short sides.a front.0 front.1 long; detail = ap (faulty B) e }

holds_generation : (content : Content) (side : List ℕ) → HoldsContent content side → HasGeneration content.generation side
holds_generation content side holds = (length content.base, _, holds_head side content holds)

picked_hold : (sides : Sides) (held : Option Held) → SidesHold held sides → Picked sides (hold held)
picked_hold sides None is = record { a = shut; b = shut; is_a = is.0; is_b = is.1; picked = neither; by = refl; detail = refl }
picked_hold sides (Some held) is =
    newer_of sides held.side held.generation (holds_generation (held_content held) (on held.side sides) is.holds) is.behind (holding (held_content held)) is.holds (hold (Some held)) (ap (λ p. hold (Some (record held { places = p }))) is.places)

picked_of : (sides : Sides) → AreBytes sides.a → AreBytes sides.b → (one : OneAnswer) → HasAnswer one sides → Picked sides one
picked_of sides a b (hold held) is = picked_hold sides held is
picked_of sides a b (faulty A place) (inl is) =
    let front = front_of sides.b b in
    record { a = short; b = front.0; is_a = is.0; is_b = front.1; picked = short_at A; by = refl; detail = ap (faulty A) is.1 }
picked_of sides a b (faulty B place) (inl is) = short_b sides place a is.0.0 is.0.1 is.1
picked_of sides a b (faulty A place) (inr (inl is)) = absurd (cc is.0)
picked_of sides a b (faulty B place) (inr (inl is)) =
    record { a = headed is.1.0; b = headed is.1.0; is_a = is.1.1; is_b = is.1.2; picked = equal; by = by_equal is.1.0; detail = ap (faulty B) is.2 }
picked_of sides a b (faulty side place) (inr (inr is)) = newer_of sides side is.0 is.1 is.2 (bad place) is.3 (faulty side place) refl

same_detail : (p : Pick) (sides : Sides) (x y : OneAnswer) → Detail p x sides → Detail p y sides → x ≡ y
same_detail neither sides x y a b = a ∙ sym b
same_detail (short_at side) sides x y a b = a ∙ sym b
same_detail equal sides x y a b = a ∙ sym b
same_detail (newer side) sides x y a b =
    a.2 ∙ ap (answer_of side) (agree (on side sides) a.0 b.0 (kind_of (on side sides) a.0 a.1) (kind_of (on side sides) b.0 b.1)) ∙ sym b.2

same_answer : (sides : Sides) (x y : OneAnswer) → Picked sides x → Picked sides y → x ≡ y
same_answer sides x y p q =
    let ea : p.a ≡ q.a = one_front sides.a p.a q.a p.is_a q.is_a in
    let eb : p.b ≡ q.b = one_front sides.b p.b q.b p.is_b q.is_b in
    let fronts : pick p.a p.b ≡ pick q.a q.b = λ i. pick (ea i) (eb i) in
    let same : p.picked ≡ q.picked = sym p.by ∙ fronts ∙ q.by in
    same_detail q.picked sides x y (subst (λ k. Detail k x sides) same p.detail) q.detail

abbrev held_of : OneAnswer → Option Held
held_of (hold held) = held
held_of (faulty side place) = None

pub hold_one : SidesHoldOne
hold_one sides one any is_one is_any = ap held_of (same_answer sides (hold any) (hold one) (picked_hold sides any is_any) (picked_hold sides one is_one))

-- ---- both sides have an answer

by_layout : (sides : Sides) (side : Side) (g : ℕ) → HasGeneration g (on side sides) → IsBehind g (on (other side) sides)
    → (layout : OneLayout) → HasLayout layout (on side sides) → (one : OneAnswer) × HasAnswer one sides
by_layout sides side g has behind closed is = let o = is_open g (on side sides) has in absurd (is o.0 o.1)
by_layout sides side g has behind (holding content) is =
    let held : Held = record { side = side; generation = content.generation; base = content.base; records = content.records; places = places_from (first_place content) content.records } in
    let same = same_generation g content.generation (on side sides) has (holds_generation content (on side sides) is) in
    (hold (Some held), record { holds = is; places = refl; behind = subst (λ n. IsBehind n (on (other side) sides)) same behind })
by_layout sides side g has behind (bad place) is = (faulty side place, inr (inr (g, has, behind, is)))

newest : (sides : Sides) (side : Side) (g : ℕ) → HasGeneration g (on side sides) → IsBehind g (on (other side) sides) → AreBytes (on side sides) → (one : OneAnswer) × HasAnswer one sides
newest sides side g has behind bytes =
    let found = some_layout (on side sides) bytes in by_layout sides side g has behind found.0 found.1

answer_by : (sides : Sides) → AreBytes sides.a → AreBytes sides.b → (x y : Front) → FrontIs x sides.a → FrontIs y sides.b → (one : OneAnswer) × HasAnswer one sides
answer_by sides a b short y is_a is_b = (faulty A 1, inl (is_a, refl))
answer_by sides a b shut shut is_a is_b = (hold None, (is_a, is_b))
answer_by sides a b shut short is_a is_b = (faulty B 1, inl ((is_b, inl is_a), refl))
answer_by sides a b shut (headed h) is_a is_b = newest sides B h is_b (inl is_a) b
answer_by sides a b (headed g) shut is_a is_b = newest sides A g is_a (inl is_b) a
answer_by sides a b (headed g) short is_a is_b = (faulty B 1, inl ((is_b, inr (head_is_long g sides.a is_a)), refl))
answer_by sides a b (headed g) (headed h) is_a is_b = elim (cases_lt g h) [
  | inl less ↦ newest sides B h is_b (inr (g, is_a, less)) b
  | inr rest ↦ elim (cases_lt h g) [
    | inl more ↦ newest sides A g is_a (inr (h, is_b, more)) a
    | inr most ↦
        let same : h ≡ g = omega (arith, rest, most) in
        (faulty B 1, inr (inl (refl, (g, is_a, subst (λ n. HasGeneration n sides.b) same is_b), refl)))
  ]
]

pub one_answer : BothSidesHaveOneAnswer
one_answer sides bytes_a bytes_b =
    let a = are_bytes sides.a bytes_a in
    let b = are_bytes sides.b bytes_b in
    let x = front_of sides.a a in
    let y = front_of sides.b b in
    let one = answer_by sides a b x.0 y.0 x.1 y.1 in
    (one.0, one.1, λ any is. same_answer sides any one.0 (picked_of sides a b any is) (picked_of sides a b one.0 one.1))
