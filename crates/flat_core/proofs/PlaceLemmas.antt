-- The first place of a key in a list, and keys that are distinct, one item more at a time.
use Rattle.std.proofs.Common.{◌≡◌, ℕ, ◌+◌, ◌<◌, List, [], ◌∷◌, ◌++◌, length, map, take, drop, get_or, Bool, true, false, not, ◌&&◌, ◌||◌, cond, arith, refl, ap, sym, ◌∙◌}
use Rattle.std.specs.Prelude.{Option, Some, None}
use Rattle.std.specs.Option.{is_some}
use Rattle.std.specs.List.{list_any, position, position_from}
use Rattle.std.specs.Str.{bytes_eq}
use Rattle.std.proofs.lemmas.Bool.Decides.{same_from_decides, Decides-like}
use Rattle.std.proofs.lemmas.Iterator.Adapters.{position_from-zero}
use Rattle.std.proofs.lemmas.List.{map-append, take_more, take-append-drop}
use Rattle.std.proofs.lemmas.List.Folds.{list_any-append}
use Rattle.std.proofs.lemmas.Slice.Eq.{bytes_eq-Decides}
use Rattle.flat_core.specs.FlatText.{are_distinct}
use Rattle.flat_core.specs.declared.flat.FlatMachine.{FlatMachine}

-- the place, or else the one behind it where the test holds there
abbrev pub or_behind : Option ℕ → Bool → ℕ → Option ℕ
or_behind (Some place) test behind = Some place
or_behind None test behind = cond test (Some behind) None

pick : (test : Bool) (i : ℕ) (o : Option ℕ) (b : Bool) (n : ℕ) → cond test (Some i) (or_behind o b n) ≡ or_behind (cond test (Some i) o) b n
pick true i o b n = refl
pick false i o b n = refl

position_from-more : {X : Type 0} (p : X → Bool) (i : ℕ) (xs : List X) (x : X) → position_from p i (xs ++ x ∷ []) ≡ or_behind (position_from p i xs) (p x) (i + length xs)
position_from-more p i [] x = let same : i ≡ i + 0 = omega arith in ap (λ n. cond (p x) (Some n) None) same
position_from-more p i (y ∷ ys) x =
    let same : i + 1 + length ys ≡ i + length (y ∷ ys) = omega arith in
    ap (cond (p y) (Some i)) (position_from-more p (i + 1) ys x ∙ ap (or_behind (position_from p (i + 1) ys) (p x)) same)
    ∙ pick (p y) i (position_from p (i + 1) ys) (p x) (i + length (y ∷ ys))

-- one more item adds its place where there was none
pub position-more : {X : Type 0} (p : X → Bool) (xs : List X) (x : X) → position p (xs ++ x ∷ []) ≡ or_behind (position p xs) (p x) (length xs)
position-more p xs x =
    let same : 0 + length xs ≡ length xs = omega arith in
    position_from-zero p (xs ++ x ∷ [])
    ∙ (position_from-more p 0 xs x
    ∙ (ap (or_behind (position_from p 0 xs) (p x)) same
    ∙ ap (λ o. or_behind o (p x) (length xs)) (sym (position_from-zero p xs))))

kept : (o : Option ℕ) (b : Bool) (n : ℕ) → (b ≡ true → is_some o ≡ true) → o ≡ or_behind o b n
kept (Some place) b n h = refl
kept None false n h = refl
kept None true n h = ap (λ c. cond c (Some n) None) (h refl)

put : (o : Option ℕ) (b : Bool) (n : ℕ) → (b ≡ true → is_some o ≡ false) → cond b (Some n) o ≡ or_behind o b n
put None true n h = refl
put None false n h = refl
put (Some place) false n h = refl
put (Some place) true n h = ap (λ c. cond c (Some n) (Some place)) (h refl)

module _ {X : Type 0} (key : X → List ℕ) (xs : List X) (x : X) where
  -- a key that is known keeps its place
  pub still_found : (find : List ℕ → Option ℕ) → ((q : List ℕ) → find q ≡ position (λ m. bytes_eq (key m) q) xs) → is_some (find (key x)) ≡ true
      → (q : List ℕ) → find q ≡ position (λ m. bytes_eq (key m) q) (xs ++ x ∷ [])
  still_found find found is q =
      found q
      ∙ (kept (position (λ m. bytes_eq (key m) q) xs) (bytes_eq (key x) q) (length xs) (λ e. ap is_some (sym (found q)) ∙ (ap (λ k. is_some (find k)) (sym ((bytes_eq-Decides (key x) q).0 e)) ∙ is))
      ∙ sym (position-more (λ m. bytes_eq (key m) q) xs x))

  -- a new key gets the place behind
  pub newly_found : (find find' : List ℕ → Option ℕ) (n : ℕ) → ((q : List ℕ) → find q ≡ position (λ m. bytes_eq (key m) q) xs) → is_some (find (key x)) ≡ false
      → ((q : List ℕ) → find' q ≡ cond (bytes_eq (key x) q) (Some n) (find q)) → n ≡ length xs
      → (q : List ℕ) → find' q ≡ position (λ m. bytes_eq (key m) q) (xs ++ x ∷ [])
  newly_found find find' n found is updates at q =
      updates q
      ∙ (ap (cond (bytes_eq (key x) q) (Some n)) (found q)
      ∙ (put (position (λ m. bytes_eq (key m) q) xs) (bytes_eq (key x) q) n (λ e. ap is_some (sym (found q)) ∙ (ap (λ k. is_some (find k)) (sym ((bytes_eq-Decides (key x) q).0 e)) ∙ is))
      ∙ (ap (or_behind (position (λ m. bytes_eq (key m) q) xs) (bytes_eq (key x) q)) at
      ∙ sym (position-more (λ m. bytes_eq (key m) q) xs x))))

pub bytes_eq-flip : (xs ys : List ℕ) → bytes_eq xs ys ≡ bytes_eq ys xs
bytes_eq-flip xs ys = same_from_decides _ _ (bytes_eq-Decides xs ys) (Decides-like _ sym sym (bytes_eq-Decides ys xs))

or_last : (a b : Bool) → (a || (b || false)) ≡ cond b true a
or_last true true = refl
or_last true false = refl
or_last false true = refl
or_last false false = refl

-- one more text is among them
pub among-more : (texts : List (List ℕ)) (text q : List ℕ) → list_any (bytes_eq q) (texts ++ text ∷ []) ≡ cond (bytes_eq text q) true (list_any (bytes_eq q) texts)
among-more texts text q =
    list_any-append (bytes_eq q) texts (text ∷ [])
    ∙ (or_last (list_any (bytes_eq q) texts) (bytes_eq q text)
    ∙ ap (λ b. cond b true (list_any (bytes_eq q) texts)) (bytes_eq-flip q text))

swap : (a b c d : Bool) → (not (cond b true a) && (not c && d)) ≡ (not (b || c) && (not a && d))
swap true true c d = refl
swap true false true d = refl
swap true false false d = refl
swap false true c d = refl
swap false false true d = refl
swap false false false d = refl

-- texts and one more are distinct if it isn't among them, and they are
pub distinct-more : (texts : List (List ℕ)) (text : List ℕ) → are_distinct (texts ++ text ∷ []) ≡ (not (list_any (bytes_eq text) texts) && are_distinct texts)
distinct-more [] text = refl
distinct-more (first ∷ rest) text =
    ap (λ b. not b && are_distinct (rest ++ text ∷ [])) (among-more rest text first)
    ∙ (ap (λ b. not (cond (bytes_eq text first) true (list_any (bytes_eq first) rest)) && b) (distinct-more rest text)
    ∙ swap (list_any (bytes_eq first) rest) (bytes_eq text first) (list_any (bytes_eq text) rest) (are_distinct rest))

more_apart : (a b c d : Bool) → (c ≡ false → d ≡ false) → (not a && c) ≡ false → (not (a || b) && d) ≡ false
more_apart true b c d h is = refl
more_apart false true c d h is = refl
more_apart false false c d h is = h is

-- texts that aren't distinct don't become so by more
pub distinct-front : (texts more : List (List ℕ)) → are_distinct texts ≡ false → are_distinct (texts ++ more) ≡ false
distinct-front [] more is = ap (λ b. cond b (are_distinct more) false) is
distinct-front (first ∷ rest) more is =
    ap (λ b. not b && are_distinct (rest ++ more)) (list_any-append (bytes_eq first) rest more)
    ∙ more_apart (list_any (bytes_eq first) rest) (list_any (bytes_eq first) more) (are_distinct rest) (are_distinct (rest ++ more)) (distinct-front rest more) is

and_true : (b : Bool) → (b && true) ≡ b
and_true true = refl
and_true false = refl

module _ (machines : List FlatMachine) (i : ℕ) (machine : FlatMachine) (within : i < length machines) (at : machine ≡ get_or machines i machine) where
  abbrev ids : List FlatMachine → List (List ℕ)
  ids = map (λ m. m.id)

  ids-more : ids (take (i + 1) machines) ≡ ids (take i machines) ++ machine.id ∷ []
  ids-more = ap ids (take_more machines i machine within ∙ ap (λ m. take i machines ++ m ∷ []) (sym at)) ∙ map-append (λ m. m.id) (take i machines) (machine ∷ [])

  -- the set has one id more, and so have the machines
  pub id_added : (has has' : List ℕ → Bool) → ((q : List ℕ) → has q ≡ list_any (bytes_eq q) (ids (take i machines))) → ((q : List ℕ) → has' q ≡ cond (bytes_eq machine.id q) true (has q))
      → (q : List ℕ) → has' q ≡ list_any (bytes_eq q) (ids (take (i + 1) machines))
  id_added has has' known updates q =
      updates q
      ∙ (ap (cond (bytes_eq machine.id q) true) (known q)
      ∙ (sym (among-more (ids (take i machines)) machine.id q)
      ∙ ap (list_any (bytes_eq q)) (sym ids-more)))

  id_joins : (found : Bool) → list_any (bytes_eq machine.id) (ids (take i machines)) ≡ found → are_distinct (ids (take i machines)) ≡ true → are_distinct (ids (take (i + 1) machines)) ≡ not found
  id_joins found is before =
      ap are_distinct ids-more
      ∙ (distinct-more (ids (take i machines)) machine.id
      ∙ (ap (λ b. not b && are_distinct (ids (take i machines))) is
      ∙ (ap (λ b. not found && b) before ∙ and_true (not found))))

  -- a new id leaves them distinct
  pub still_distinct : list_any (bytes_eq machine.id) (ids (take i machines)) ≡ false → are_distinct (ids (take i machines)) ≡ true → are_distinct (ids (take (i + 1) machines)) ≡ true
  still_distinct = id_joins false

  -- an id that is known makes the whole not distinct
  pub not_distinct : list_any (bytes_eq machine.id) (ids (take i machines)) ≡ true → are_distinct (ids (take i machines)) ≡ true → are_distinct (ids machines) ≡ false
  not_distinct is before =
      ap (λ ms. are_distinct (ids ms)) (sym (take-append-drop (i + 1) machines))
      ∙ (ap are_distinct (map-append (λ m. m.id) (take (i + 1) machines) (drop (i + 1) machines))
      ∙ distinct-front (ids (take (i + 1) machines)) (ids (drop (i + 1) machines)) (id_joins true is before))
