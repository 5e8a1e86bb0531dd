-- What is known of the bytes of an input.
use Rattle.std.proofs.Common.{◌≡◌, ℕ, zero, suc, Bool, true, false, ltb, ◌+◌, ◌-◌, ◌<◌, ◌≤◌, List, [], ◌∷◌, ◌++◌, length, take, drop, Option, None, Some, refl, sym, ap, ◌∙◌, inl, inr, arith, append_assoc, length-drop, length-append}
use Rattle.std.specs.Io.KnownBytes.{prepend_known}
use Rattle.std.specs.Prelude.{position}
use Rattle.std.specs.List.{position_or_len}
use Rattle.std.proofs.lemmas.Bool.Decides.{nat_tests}
use Rattle.xs_data.specs.Ascii.{line_feed}
use Rattle.flat_core.specs.declared.request_line.TheConstants.{MAX_LINE}
use Rattle.office_run.specs.declared.line_buffer.LineBuffer.{LineBuffer}
use Rattle.office_run.specs.Lines.{is_feed, has_feed}
use Rattle.office_run.specs.declared.input.Next.TheVariants as next
use Rattle.office_run.specs.Input.{Taken, Inflow, IsReading, MovesToLine, TakesPiece, SeesEnd, SeesMore, StaysAs, GivesNext}
use Rattle.office_run.specs.LineBuffer.{Holds, Extends}
use Rattle.std.proofs.lemmas.List.{drop-take, drop-drop, take-take, take_at, length-take, length-take-le}

-- by both values of a test
pub by_test : {P : Type 0} (b : Bool) → (b ≡ true → P) → (b ≡ false → P) → P
by_test true when otherwise = when refl
by_test false when otherwise = otherwise refl

-- nothing is put before
pub prepend-nothing : (known : Option (List ℕ)) → prepend_known [] known ≡ known
prepend-nothing None = refl
prepend-nothing (Some bytes) = refl

-- one after another is both at once
pub prepend-both : (a b : List ℕ) (known : Option (List ℕ)) → prepend_known a (prepend_known b known) ≡ prepend_known (a ++ b) known
prepend-both a b None = refl
prepend-both a b (Some bytes) = ap Some (sym (append_assoc a b bytes))

pub taken-piece : (count room : ℕ) (piece : List ℕ) → count ≤ room → take (count - 0) (drop 0 piece) ≡ take count (take room piece)
taken-piece count room piece within = ap (λ n. take n piece) (omega arith) ∙ sym (take-take count room piece within)

-- how many bytes wait between two places
pub window-length : (start end : ℕ) (piece : List ℕ) → start ≤ end → end ≤ length piece → length (take (end - start) (drop start piece)) ≡ end - start
window-length start end piece ordered within = length-take-le (end - start) (drop start piece) (omega (arith, length-drop start piece))

-- the front of a piece that was written over is what was written
pub written-front : (room len : ℕ) (into piece : List ℕ) → length into ≡ room → room ≤ len → take room (take len (into ++ drop (length into) piece)) ≡ into
written-front room len into piece long within = take-take room len (into ++ drop (length into) piece) within ∙ take_at into (drop (length into) piece) room long

-- ---- the first line feed

position-some : (xs : List ℕ) (place : ℕ) → position is_feed xs ≡ Some place → (position_or_len is_feed xs ≡ place) × (place < length xs)
position-some xs place found = by_test (ltb (position_or_len is_feed xs) (length xs))
    (λ e.
    let found' : Some (position_or_len is_feed xs) ≡ Some place = rw e at found in
    let same : position_or_len is_feed xs ≡ place = cc in
    (same, rw (← same) (grind (arith, nat_tests))))
    (λ e. let found' : None ≡ Some place = rw e at found in absurd (cc))

position-none : (xs : List ℕ) → position is_feed xs ≡ None → length xs ≤ position_or_len is_feed xs
position-none xs none = by_test (ltb (position_or_len is_feed xs) (length xs))
    (λ e. let none' : Some (position_or_len is_feed xs) ≡ None = rw e at none in absurd (cc))
    (λ e. grind (arith, nat_tests))

split-feed : (xs : List ℕ) → position_or_len is_feed xs < length xs →
    (xs ≡ take (position_or_len is_feed xs) xs ++ line_feed ∷ drop (suc (position_or_len is_feed xs)) xs) × (has_feed (take (position_or_len is_feed xs) xs) ≡ false)
split-feed [] within = absurd (omega arith)
split-feed (x ∷ xs) within = by_test (is_feed x)
    (λ e. let feed : x ≡ line_feed = grind (arith, nat_tests) in simp e (ap (λ y. y ∷ xs) feed, refl))
    (λ e.
    let next : 1 + position_or_len is_feed xs ≡ suc (position_or_len is_feed xs) = omega arith in
    let rest = split-feed xs (let w : 1 + position_or_len is_feed xs < suc (length xs) = simp e at within in omega arith) in
    simp (e, next) (ap (λ ys. x ∷ ys) rest.0, rest.1))

none-feed : (xs : List ℕ) → length xs ≤ position_or_len is_feed xs → has_feed xs ≡ false
none-feed [] past = refl
none-feed (x ∷ xs) past = by_test (is_feed x)
    (λ e. let p : suc (length xs) ≤ 0 = simp e at past in absurd (omega arith))
    (λ e. let p : suc (length xs) ≤ 1 + position_or_len is_feed xs = simp e at past in simp e (none-feed xs (omega arith)))

-- where the first line feed stands: the bytes before it have none
pub feed-some : (xs : List ℕ) (place : ℕ) → position is_feed xs ≡ Some place → (xs ≡ take place xs ++ line_feed ∷ drop (place + 1) xs) × (has_feed (take place xs) ≡ false) × (place < length xs)
feed-some xs place found =
    let p = position-some xs place found in
    let s = split-feed xs (omega (arith, p.0, p.1)) in
    let next : suc place ≡ place + 1 = omega arith in
    (rw (← next) (rw (← p.0) s.0), rw (← p.0) s.1, p.1)

pub feed-none : (xs : List ℕ) → position is_feed xs ≡ None → has_feed xs ≡ false
feed-none xs none = none-feed xs (position-none xs none)

-- what waits behind the first bytes of what waits
pub window-drop : (start end k : ℕ) (piece : List ℕ) → start + k ≤ end → drop k (take (end - start) (drop start piece)) ≡ take (end - (start + k)) (drop (start + k) piece)
window-drop start end k piece within =
    let parts : end - start ≡ k + (end - (start + k)) = omega arith in
    rw parts (drop-take k (end - (start + k)) (drop start piece) ∙ ap (take (end - (start + k))) (drop-drop k start piece))

-- ---- a line that is being read

pub has_feed-append : (a b : List ℕ) → has_feed a ≡ false → has_feed b ≡ false → has_feed (a ++ b) ≡ false
has_feed-append [] b none none' = none'
has_feed-append (x ∷ a) b none none' = by_test (is_feed x)
    (λ e. let no : true ≡ false = rw e at none in absurd (cc))
    (λ e. let rest : has_feed a ≡ false = rw e at none in rw e (has_feed-append a b rest none'))

-- the front of two lists
take-append : (n : ℕ) (a b : List ℕ) → take n (a ++ b) ≡ take n a ++ take (n - length a) b
take-append zero a b = ap (λ m. take m b) (let none : 0 ≡ 0 - length a = omega arith in none)
take-append (suc n) [] b = let same : suc n ≡ suc n - 0 = omega arith in ap (λ m. take m b) same
take-append (suc n) (x ∷ a) b = ap (λ xs. x ∷ xs) (take-append n a b) ∙ ap (λ m. (x ∷ take n a) ++ take m b) (let same : n - length a ≡ suc n - suc (length a) = omega arith in same)

pub holds-more : (buffer buffer' : LineBuffer) (seen more : List ℕ) → Holds buffer seen → Extends buffer buffer' more → Holds buffer' (seen ++ more)
holds-more buffer buffer' seen more holds extends =
    let kept = ap length holds.bytes ∙ length-take MAX_LINE seen in
    let room : MAX_LINE - length buffer.bytes.items ≡ MAX_LINE - length seen = omega (arith, kept) in
    record {
      len = omega (arith, extends.len, holds.len, length-append seen more);
      bytes = extends.bytes ∙ ap (λ front. front ++ take (MAX_LINE - length buffer.bytes.items) more) holds.bytes
          ∙ ap (λ n. take MAX_LINE seen ++ take n more) room ∙ sym (take-append MAX_LINE seen more);
    }

-- all that waited went to the line
pub read-on : (first now : Inflow) (mid : Taken) (buffer buffer' : LineBuffer) (more : List ℕ) →
    IsReading first now buffer → MovesToLine false now.input mid more → Extends buffer buffer' more →
    IsReading first (record { input = mid; left = now.left; taken = now.taken }) buffer' × (mid.pending ≡ [])
read-on first now mid buffer buffer' more r moves extends =
    let used : mid.used ≡ now.input.used + length now.input.pending = ap (λ t. t.used) moves.2 in
    let pending : mid.pending ≡ [] = ap (λ t. t.pending) moves.2 in
    let none : length mid.pending ≡ 0 = ap length pending in
    let all : length more ≡ length now.input.pending = ap length moves.0 in
    let long = length-append r.seen more in (
      record {
        seen = r.seen ++ more;
        no_feed = has_feed-append r.seen more r.no_feed (ap has_feed moves.0 ∙ moves.1);
        holds = holds-more buffer buffer' r.seen more r.holds extends;
        whole = r.whole ∙ ap (λ p. prepend_known r.seen (prepend_known p now.left)) (sym moves.0) ∙ prepend-both r.seen more now.left
            ∙ ap (prepend_known (r.seen ++ more)) (sym (ap (λ p. prepend_known p now.left) pending ∙ prepend-nothing now.left));
        used = omega (arith, used, r.used, long, all);
        counted = omega (arith, used, none, r.counted);
        limited = omega (arith, used, none, r.limited);
        began = r.began;
        ended = ap (λ t. t.ended) moves.2 ∙ r.ended;
      },
      pending,
    )

-- where nothing waits, all that is to come is what the source has left
unheld : (now : Inflow) → now.input.pending ≡ [] → prepend_known now.input.pending now.left ≡ now.left
unheld now empty = ap (λ p. prepend_known p now.left) empty ∙ prepend-nothing now.left

-- the next piece came
pub read-piece : (first mid new : Inflow) (buffer : LineBuffer) → IsReading first mid buffer → mid.input.pending ≡ [] → TakesPiece mid new → IsReading first new buffer
read-piece first mid new buffer r empty piece =
    let none : length mid.input.pending ≡ 0 = ap length empty in
    record {
      seen = r.seen;
      no_feed = r.no_feed;
      holds = r.holds;
      whole = r.whole ∙ ap (prepend_known r.seen) (unheld mid empty ∙ piece.piece);
      used = omega (arith, piece.used, r.used);
      counted = omega (arith, piece.counted, r.counted, none);
      limited = piece.limited;
      began = r.began;
      ended = piece.ended ∙ r.ended;
    }

-- ---- what comes next

pub gives-fed : (first now : Inflow) (new : Taken) (buffer buffer' : LineBuffer) (more : List ℕ) →
    IsReading first now buffer → MovesToLine true now.input new more → Extends buffer buffer' more →
    GivesNext next.Line buffer' first (record { input = new; left = now.left; taken = now.taken })
gives-fed first now new buffer buffer' more r moves extends =
    let left = now.left in
    let long = length-append r.seen more in
    let waits : length now.input.pending ≡ length more + (1 + length new.pending) = ap length moves.0 ∙ length-append more (line_feed ∷ new.pending) ∙ ap (λ n. length more + n) (omega arith) in
    record {
      gives = (
        r.seen ++ more,
        holds-more buffer buffer' r.seen more r.holds extends,
        record {
          no_feed = has_feed-append r.seen more r.no_feed moves.1;
          goes_on = r.began;
          ends = inl (record {
            whole = r.whole ∙ ap (λ p. prepend_known r.seen (prepend_known p left)) moves.0 ∙ ap (prepend_known r.seen) (sym (prepend-both more (line_feed ∷ new.pending) left))
                ∙ prepend-both r.seen more (prepend_known (line_feed ∷ new.pending) left) ∙ ap (prepend_known (r.seen ++ more)) (sym (prepend-both (line_feed ∷ []) new.pending left));
            used = omega (arith, r.used, moves.2, long);
            ended = moves.3 ∙ r.ended;
          });
        },
      );
      counted = omega (arith, r.counted, moves.2, waits);
      limited = omega (arith, r.limited, moves.2, waits);
    }

pub gives-last : (first mid new : Inflow) (buffer : LineBuffer) → IsReading first mid buffer → mid.input.pending ≡ [] → SeesEnd mid new → 0 < buffer.len → GivesNext next.Line buffer first new
gives-last first mid new buffer r empty sees some =
    let none : length mid.input.pending ≡ 0 = ap length empty in
    let used : new.input.used ≡ mid.input.used = ap (λ t. t.used) sees.input in
    let pending : new.input.pending ≡ [] = ap (λ t. t.pending) sees.input in
    let none' : length new.input.pending ≡ 0 = ap length pending in
    record {
      gives = (
        r.seen,
        r.holds,
        record {
          no_feed = r.no_feed;
          goes_on = r.began;
          ends = inr (record {
            whole = r.whole ∙ ap (prepend_known r.seen) (unheld mid empty ∙ sym sees.left);
            uses = record { no_feed = r.no_feed; used = omega (arith, r.used, used); pending = pending };
            at_end = rw sees.left sees.at_end;
            some = omega (arith, r.holds.len, some);
            ended = ap (λ t. t.ended) sees.input;
          });
        },
      );
      counted = omega (arith, r.counted, sees.taken, used, none, none');
      limited = omega (arith, r.limited, used, none, none');
    }

pub gives-end : (first mid new : Inflow) (buffer : LineBuffer) → IsReading first mid buffer → mid.input.pending ≡ [] → SeesEnd mid new → buffer.len ≡ 0 → GivesNext next.End buffer first new
gives-end first mid new buffer r empty sees none_yet =
    let none : length mid.input.pending ≡ 0 = ap length empty in
    let used : new.input.used ≡ mid.input.used = ap (λ t. t.used) sees.input in
    let none' : length new.input.pending ≡ 0 = ap (λ t. length t.pending) sees.input in
    let unseen = empty_list r.seen (omega (arith, r.holds.len, none_yet)) in
    let whole = r.whole ∙ ap (λ s. prepend_known s (prepend_known mid.input.pending mid.left)) unseen ∙ prepend-nothing (prepend_known mid.input.pending mid.left) ∙ unheld mid empty in
    record {
      gives = inl (rw whole sees.at_end);
      counted = omega (arith, r.counted, sees.taken, used, none, none');
      limited = omega (arith, r.limited, used, none, none');
    }
  where
    empty_list : (xs : List ℕ) → length xs ≡ 0 → xs ≡ []
    empty_list [] e = refl
    empty_list (x ∷ xs) e = absurd (omega arith)

pub gives-too_much : (first mid new : Inflow) (buffer : LineBuffer) → IsReading first mid buffer → mid.input.pending ≡ [] → SeesMore mid new → GivesNext next.TooMuch buffer first new
gives-too_much first mid new buffer r empty sees =
    let none : length mid.input.pending ≡ 0 = ap length empty in
    let used : new.input.used ≡ mid.input.used = ap (λ t. t.used) sees.input in
    let pending : new.input.pending ≡ [] = ap (λ t. t.pending) sees.input ∙ empty in
    let none' : length new.input.pending ≡ 0 = ap length pending in
    record {
      gives = record {
        seen = r.seen;
        byte = sees.byte;
        uses = record { no_feed = r.no_feed; used = omega (arith, r.used, used); pending = pending };
        whole = r.whole ∙ ap (prepend_known r.seen) (unheld mid empty ∙ sees.left);
        goes_on = r.began;
        full = omega (arith, used, sees.full, none);
      };
      counted = omega (arith, r.counted, sees.taken, used, none, none');
      limited = omega (arith, r.limited, used, none, none');
    }

pub gives-failed : (first mid new : Inflow) (buffer : LineBuffer) → IsReading first mid buffer → mid.input.pending ≡ [] → StaysAs mid new → GivesNext next.Failed buffer first new
gives-failed first mid new buffer r empty stays =
    let none : length mid.input.pending ≡ 0 = ap length empty in
    let used : new.input.used ≡ mid.input.used = ap (λ t. t.used) stays.input in
    let pending : new.input.pending ≡ [] = ap (λ t. t.pending) stays.input ∙ empty in
    let none' : length new.input.pending ≡ 0 = ap length pending in
    record {
      gives = record {
        seen = r.seen;
        uses = record { no_feed = r.no_feed; used = omega (arith, r.used, used); pending = pending };
        whole = r.whole ∙ ap (prepend_known r.seen) (unheld mid empty ∙ sym stays.left);
        goes_on = r.began;
      };
      counted = omega (arith, r.counted, stays.taken, used, none, none');
      limited = omega (arith, r.limited, used, none, none');
    }
