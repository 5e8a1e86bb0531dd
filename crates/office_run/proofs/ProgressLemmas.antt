-- What a step of a conversation does to how far it has come, and what an end of it prints.
use Rattle.std.proofs.Common.{◌≡◌, ◌⊎◌, ℕ, ◌+◌, ◌-◌, ◌<◌, true, false, List, [], ◌∷◌, ◌++◌, length, take, Option, None, Some, refl, sym, ap, subst, ◌∙◌, inl, inr, arith, append_assoc, length-append}
use Rattle.std.specs.Io.KnownBytes.{prepend_known, append_known, IsAtEnd}
use Rattle.std.proofs.lemmas.Bool.{false≢true}
use Rattle.std.proofs.lemmas.List.{append-nil}
use Rattle.std.proofs.Math.Seq.{take-append_seam, take-append-add}
use Rattle.xs_data.specs.Ascii.{line_feed}
use Rattle.flat_core.specs.declared.flat.FlatMachine.{FlatMachine}
use Rattle.flat_core.specs.Office.{Office, empty_office}
use Rattle.office_run.specs.declared.input.TheConstants.{MAX_INPUT}
use Rattle.office_run.specs.declared.program.TheConstants.{TOO_LONG}
use Rattle.office_run.specs.declared.script.Line.{Line}
use Rattle.office_run.specs.declared.status.Status.{Status}
use Rattle.office_run.specs.declared.status.Status.TheVariants as status
use Rattle.office_run.specs.Lines.{is_feed, has_feed, with_first, ended_lines, rest_of, last_line, all_lines, with_feeds}
use Rattle.office_run.specs.Input.{Inflow, stream, IsEndedLine, IsLastLine, IsNextLine, IsTooMuch}
use Rattle.office_run.specs.Script.{IsLine, AreRead}
use Rattle.office_run.specs.Replies.{answer_line, office_after, answers, office_after_all}
use Rattle.office_run.specs.Step.{RunState, Steps, AnswersLine, AnswersPart, RefusesPart}
use Rattle.office_run.specs.Progress.{AreFeedless, AreEndedLines, AreAllLines, AreTakenLines, IsUnderWay}
use Rattle.office_run.specs.Printing.{IsPart}
use Rattle.office_run.specs.Run.{IsCutShort, Tells}
use Rattle.office_run.proofs.InputLemmas.{by_test, prepend-both, prepend-nothing}

-- ---- lines and their line feeds

-- bytes without a line feed are in front of the first line
ended_lines-line : (line more : List ℕ) → has_feed line ≡ false → ended_lines (line ++ line_feed ∷ more) ≡ line ∷ ended_lines more
ended_lines-line [] more none = refl
ended_lines-line (x ∷ line) more none = by_test (is_feed x)
    (λ e. let no : true ≡ false = rw e at none in absurd (false≢true (sym no)))
    (λ e. let rest : has_feed line ≡ false = rw e at none in rw e (ap (with_first x) (ended_lines-line line more rest)))

has_feed-line : (line more : List ℕ) → has_feed (line ++ line_feed ∷ more) ≡ true
has_feed-line [] more = refl
has_feed-line (x ∷ line) more = by_test (is_feed x) (λ e. rw e refl) (λ e. rw e (has_feed-line line more))

rest_of-line : (line more : List ℕ) → rest_of (line ++ line_feed ∷ more) ≡ rest_of more
rest_of-line [] more = refl
rest_of-line (x ∷ line) more = by_test (is_feed x) (λ e. rw e (rest_of-line line more)) (λ e. rw (e, has_feed-line line more) (rest_of-line line more))

ended_lines-none : (bytes : List ℕ) → has_feed bytes ≡ false → ended_lines bytes ≡ []
ended_lines-none [] none = refl
ended_lines-none (x ∷ bytes) none = by_test (is_feed x)
    (λ e. let no : true ≡ false = rw e at none in absurd (false≢true (sym no)))
    (λ e. let rest : has_feed bytes ≡ false = rw e at none in rw e (ap (with_first x) (ended_lines-none bytes rest)))

rest_of-none : (bytes : List ℕ) → has_feed bytes ≡ false → rest_of bytes ≡ bytes
rest_of-none [] none = refl
rest_of-none (x ∷ bytes) none = by_test (is_feed x)
    (λ e. let no : true ≡ false = rw e at none in absurd (false≢true (sym no)))
    (λ e. let rest : has_feed bytes ≡ false = rw e at none in rw (e, rest) (ap (λ bs. x ∷ bs) (rest_of-none bytes rest)))

-- one line with its line feed, and what follows
one_feed : (line more : List ℕ) → (line ++ line_feed ∷ []) ++ more ≡ line ++ line_feed ∷ more
one_feed line more = append_assoc line (line_feed ∷ []) more

-- lines that stand in front are the first lines
pub ended_lines-fed : (lines : List (List ℕ)) (more : List ℕ) → AreFeedless lines → ended_lines (with_feeds lines ++ more) ≡ lines ++ ended_lines more
ended_lines-fed [] more none = refl
ended_lines-fed (line ∷ lines) more none =
    ap ended_lines (append_assoc (line ++ line_feed ∷ []) (with_feeds lines) more ∙ one_feed line (with_feeds lines ++ more))
    ∙ ended_lines-line line (with_feeds lines ++ more) none.0 ∙ ap (λ ls. line ∷ ls) (ended_lines-fed lines more none.1)

rest_of-fed : (lines : List (List ℕ)) (more : List ℕ) → rest_of (with_feeds lines ++ more) ≡ rest_of more
rest_of-fed [] more = refl
rest_of-fed (line ∷ lines) more =
    ap rest_of (append_assoc (line ++ line_feed ∷ []) (with_feeds lines) more ∙ one_feed line (with_feeds lines ++ more))
    ∙ rest_of-line line (with_feeds lines ++ more) ∙ rest_of-fed lines more

pub all_lines-fed : (lines : List (List ℕ)) (more : List ℕ) → AreFeedless lines → all_lines (with_feeds lines ++ more) ≡ lines ++ all_lines more
all_lines-fed lines more none =
    ap (λ ls. ls ++ last_line (rest_of (with_feeds lines ++ more))) (ended_lines-fed lines more none)
    ∙ ap (λ r. (lines ++ ended_lines more) ++ last_line r) (rest_of-fed lines more)
    ∙ append_assoc lines (ended_lines more) (last_line (rest_of more))

-- a rest without a line feed adds no ended line, and is the last line if it has a byte
pub ended_lines-seen : (lines : List (List ℕ)) (seen : List ℕ) → AreFeedless lines → has_feed seen ≡ false → ended_lines (with_feeds lines ++ seen) ≡ lines
ended_lines-seen lines seen none unfed = ended_lines-fed lines seen none ∙ ap (λ ls. lines ++ ls) (ended_lines-none seen unfed) ∙ append-nil lines

all_lines-rest : (seen : List ℕ) → has_feed seen ≡ false → 0 < length seen → all_lines seen ≡ seen ∷ []
all_lines-rest [] unfed some = absurd (omega arith)
all_lines-rest (x ∷ seen) unfed some =
    ap (λ ls. ls ++ last_line (rest_of (x ∷ seen))) (ended_lines-none (x ∷ seen) unfed) ∙ ap last_line (rest_of-none (x ∷ seen) unfed)

with_feeds-push : (lines : List (List ℕ)) (line : List ℕ) → with_feeds (lines ++ line ∷ []) ≡ with_feeds lines ++ (line ++ line_feed ∷ [])
with_feeds-push [] line = append-nil (line ++ line_feed ∷ [])
with_feeds-push (first ∷ lines) line =
    ap (λ bs. (first ++ line_feed ∷ []) ++ bs) (with_feeds-push lines line) ∙ sym (append_assoc (first ++ line_feed ∷ []) (with_feeds lines) (line ++ line_feed ∷ []))

feedless-push : (lines : List (List ℕ)) (line : List ℕ) → AreFeedless lines → has_feed line ≡ false → AreFeedless (lines ++ line ∷ [])
feedless-push [] line none unfed = (unfed, tt)
feedless-push (first ∷ lines) line none unfed = (none.0, feedless-push lines line none.1 unfed)

-- ---- answers so far

read-push : (lines : List (List ℕ)) (read : List Line) (bytes : List ℕ) (line : Line) → AreRead lines read → IsLine bytes line → AreRead (lines ++ bytes ∷ []) (read ++ line ∷ [])
read-push [] [] bytes line each is = (is, tt)
read-push (first ∷ lines) (one ∷ read) bytes line each is = (each.0, read-push lines read bytes line each.1 is)
read-push [] (one ∷ read) bytes line each is = absurd each
read-push (first ∷ lines) [] bytes line each is = absurd each

answers-push : (machines : List FlatMachine) (office : Office) (read : List Line) (line : Line) →
    answers machines office (read ++ line ∷ []) ≡ answers machines office read ++ answer_line machines (office_after_all machines office read) line
answers-push machines office [] line = append-nil (answer_line machines office line)
answers-push machines office (first ∷ read) line =
    ap (λ bs. answer_line machines office first ++ bs) (answers-push machines (office_after machines office first) read line)
    ∙ sym (append_assoc (answer_line machines office first) (answers machines (office_after machines office first) read) (answer_line machines (office_after_all machines (office_after machines office first) read) line))

office_after_all-push : (machines : List FlatMachine) (office : Office) (read : List Line) (line : Line) → office_after_all machines office (read ++ line ∷ []) ≡ office_after machines (office_after_all machines office read) line
office_after_all-push machines office [] line = refl
office_after_all-push machines office (first ∷ read) line = office_after_all-push machines (office_after machines office first) read line

pub append-both : (known : Option (List ℕ)) (a b : List ℕ) → append_known (append_known known a) b ≡ append_known known (a ++ b)
append-both None a b = refl
append-both (Some bytes) a b = ap Some (append_assoc bytes a b)

pub append-nothing : (known : Option (List ℕ)) → append_known known [] ≡ known
append-nothing None = refl
append-nothing (Some bytes) = ap Some (append-nil bytes)

-- ---- steps

prepended : (a b c : List ℕ) (known : Option (List ℕ)) → prepend_known a (prepend_known b (prepend_known c known)) ≡ prepend_known (a ++ (b ++ c)) known
prepended a b c known = ap (prepend_known a) (prepend-both b c known) ∙ prepend-both a (b ++ c) known

length-feeds : (lines : List (List ℕ)) (line : List ℕ) → length (with_feeds (lines ++ line ∷ [])) ≡ length (with_feeds lines) + (length line + 1)
length-feeds lines line =
    ap length (with_feeds-push lines line) ∙ length-append (with_feeds lines) (line ++ line_feed ∷ []) ∙ ap (λ n. length (with_feeds lines) + n) (length-append line (line_feed ∷ []))

-- before the first line
pub under_way-start : (machines : List FlatMachine) (start now : RunState) → now.office ≡ empty_office → now.inflow.left ≡ start.inflow.left → now.inflow.taken ≡ start.inflow.taken → now.written ≡ start.written →
    now.inflow.input ≡ record { used = 0; pending = []; ended = false } → IsUnderWay machines start now
under_way-start machines start now office left taken written input =
    let used : now.inflow.input.used ≡ 0 = ap (λ i. i.used) input in
    let pending : now.inflow.input.pending ≡ [] = ap (λ i. i.pending) input in
    let none : length now.inflow.input.pending ≡ 0 = ap length pending in
    record {
      lines = [];
      read = [];
      each = tt;
      feedless = tt;
      reached = office;
      told = written ∙ sym (append-nothing start.written);
      taken_lines = inl (record {
        whole = sym left ∙ sym (prepend-nothing now.inflow.left) ∙ ap (λ p. prepend_known p now.inflow.left) (sym pending) ∙ sym (prepend-nothing (prepend_known now.inflow.input.pending now.inflow.left));
        used = used;
        ended = ap (λ i. i.ended) input;
      });
      counted = omega (arith, taken, used, none);
      limited = omega (arith, used, none);
    }

-- where the next line can come, no rest was taken as a line
open_lines : (lines : List (List ℕ)) (first : Option (List ℕ)) (now : Inflow) → now.input.ended ≡ false → AreTakenLines lines first now → AreEndedLines lines first now
open_lines lines first now going (inl taken) = taken
open_lines lines first now going (inr taken) = absurd (false≢true (sym going ∙ taken.ended))

taken-next : (lines : List (List ℕ)) (first : Option (List ℕ)) (old new : Inflow) (line : List ℕ) →
    AreTakenLines lines first old → IsNextLine old new line → AreTakenLines (lines ++ line ∷ []) first new
taken-next lines first old new line taken next = either (open_lines lines first old next.goes_on taken) next.ends
  where
    either : AreEndedLines lines first old → IsEndedLine old new line ⊎ IsLastLine old new line → AreTakenLines (lines ++ line ∷ []) first new
    either here (inl fed) = inl (record {
      whole = here.whole ∙ ap (prepend_known (with_feeds lines)) fed.whole ∙ prepended (with_feeds lines) line (line_feed ∷ []) (stream new)
          ∙ ap (λ bs. prepend_known bs (stream new)) (sym (with_feeds-push lines line));
      used = omega (arith, here.used, fed.used, length-feeds lines line);
      ended = fed.ended;
    })
    either here (inr rest) = inr (record {
      front = lines;
      last = line;
      parts = refl;
      whole = here.whole ∙ ap (prepend_known (with_feeds lines)) rest.whole ∙ prepend-both (with_feeds lines) line new.left;
      at_end = rest.at_end;
      some = rest.some;
      used = omega (arith, here.used, rest.uses.used, length-append (with_feeds lines) line);
      ended = rest.ended;
    })

-- a line more
pub under_way-line : (machines : List FlatMachine) (start old new : RunState) → IsUnderWay machines start old → AnswersLine machines old new → IsUnderWay machines start new
under_way-line machines start old new way step =
    let bytes = step.bytes in
    let line = step.line in
    let takes = step.takes in
    record {
      lines = way.lines ++ bytes ∷ [];
      read = way.read ++ line ∷ [];
      each = read-push way.lines way.read bytes line way.each takes.is_line;
      feedless = feedless-push way.lines bytes way.feedless takes.next.no_feed;
      reached = step.office ∙ ap (λ o. office_after machines o line) way.reached ∙ sym (office_after_all-push machines empty_office way.read line);
      told = step.written ∙ ap (λ w. append_known w (answer_line machines old.office line)) way.told
          ∙ append-both start.written (answers machines empty_office way.read) (answer_line machines old.office line)
          ∙ ap (append_known start.written) (ap (λ o. answers machines empty_office way.read ++ answer_line machines o line) way.reached ∙ sym (answers-push machines empty_office way.read line));
      taken_lines = taken-next way.lines start.inflow.left old.inflow new.inflow bytes way.taken_lines takes.next;
      counted = omega (arith, way.counted, takes.counted);
      limited = takes.limited;
    }

-- ---- what is told of the input

-- known bytes that are known behind others
pub some_prepend : (front bytes : List ℕ) (known : Option (List ℕ)) → Some bytes ≡ prepend_known front known → (rest : List ℕ) × (known ≡ Some rest) × (bytes ≡ front ++ rest)
some_prepend front bytes None e = absurd (none_some (sym e))
  where
    none_some : {X : Type 0} {x : X} → None ≡ Some x → ⊥
    none_some h = cc
some_prepend front bytes (Some rest) e = (rest, refl, same e)
  where
    same : Some bytes ≡ Some (front ++ rest) → bytes ≡ front ++ rest
    same h = cc

pub at_end : (known : Option (List ℕ)) (rest : List ℕ) → known ≡ Some rest → IsAtEnd known → rest ≡ []
at_end known rest is end = let h : IsAtEnd (Some rest) = subst (λ k. IsAtEnd k) is end in h

-- where the rest was taken as a line, all lines were taken
all_taken : (lines : List (List ℕ)) (input : List ℕ) (now : Inflow) → AreFeedless lines → AreAllLines lines (Some input) now → (all_lines input ≡ lines) × (length input ≡ now.input.used)
all_taken lines input now none all =
    let told = some_prepend (with_feeds all.front ++ all.last) input now.left all.whole in
    let nothing = at_end now.left told.0 told.1 all.at_end in
    let whole : input ≡ with_feeds all.front ++ all.last = told.2 ∙ ap (λ r. (with_feeds all.front ++ all.last) ++ r) nothing ∙ append-nil (with_feeds all.front ++ all.last) in
    let parts = feedless-parts all.front all.last (subst (λ ls. AreFeedless ls) all.parts none) in (
      ap all_lines whole ∙ all_lines-fed all.front all.last parts.0 ∙ ap (λ ls. all.front ++ ls) (all_lines-rest all.last parts.1 all.some) ∙ sym all.parts,
      ap length whole ∙ sym all.used,
    )
  where
    feedless-parts : (front : List (List ℕ)) (last : List ℕ) → AreFeedless (front ++ last ∷ []) → AreFeedless front × (has_feed last ≡ false)
    feedless-parts [] last none = (tt, none.0)
    feedless-parts (line ∷ front) last none = let rest = feedless-parts front last none.1 in ((none.0, rest.0), rest.1)

-- the lines that were taken are the first lines of the input
first_lines : (lines : List (List ℕ)) (input : List ℕ) (now : Inflow) → AreFeedless lines → AreTakenLines lines (Some input) now → (more : List (List ℕ)) × (all_lines input ≡ lines ++ more)
first_lines lines input now none (inl ended) =
    let told = some_prepend (with_feeds lines) input (stream now) ended.whole in
    (all_lines told.0, ap all_lines told.2 ∙ all_lines-fed lines told.0 none)
first_lines lines input now none (inr all) = ([], (all_taken lines input now none all).0 ∙ sym (append-nil lines))

-- ---- ends

front_of : {X : Type 0} (a b : List X) → take (length a) (a ++ b) ≡ a
front_of a b = take-append_seam a b

-- all lines were taken
taken_all : (lines : List (List ℕ)) (input : List ℕ) (now : Inflow) → AreFeedless lines → AreTakenLines lines (Some input) now → IsAtEnd (stream now) ⊎ (now.input.ended ≡ true) →
    (all_lines input ≡ lines) × (length input ≡ now.input.used)
taken_all lines input now none (inl ended) (inl end) =
    let told = some_prepend (with_feeds lines) input (stream now) ended.whole in
    let nothing = at_end (stream now) told.0 told.1 end in
    let whole : input ≡ with_feeds lines = told.2 ∙ ap (λ r. with_feeds lines ++ r) nothing ∙ append-nil (with_feeds lines) in
    (ap all_lines (told.2 ∙ ap (λ r. with_feeds lines ++ r) nothing) ∙ all_lines-fed lines [] none ∙ append-nil lines, ap length whole ∙ sym ended.used)
taken_all lines input now none (inl ended) (inr seen) = absurd (false≢true (sym ended.ended ∙ seen))
taken_all lines input now none (inr all) end = all_taken lines input now none all

-- how far it has come, of an input that is told
known_lines : (machines : List FlatMachine) (start now : RunState) (input : List ℕ) → start.inflow.left ≡ Some input → (way : IsUnderWay machines start now) → AreTakenLines way.lines (Some input) now.inflow
known_lines machines start now input told way = subst (λ left. AreTakenLines way.lines left now.inflow) told way.taken_lines

pub ends-done : (machines : List FlatMachine) (start old new : RunState) (input : List ℕ) → start.inflow.left ≡ Some input → (way : IsUnderWay machines start old) → Steps machines (Some status.Done) old new → (taken : ℕ) →
    Tells status.Done machines (record { input = input; taken = taken; printed = answers machines empty_office way.read })
ends-done machines start old new input told way step taken =
    let all = taken_all way.lines input old.inflow way.feedless (known_lines machines start old input told way) step.0 in
    (omega (arith, all.1, way.limited), record { read = way.read; each = subst (λ ls. AreRead ls way.read) (sym all.0) way.each; told = refl })

-- bytes behind lines that ended, which are bytes of no whole line
pub record IsBehind (lines : List (List ℕ)) (seen : List ℕ) (input : List ℕ) (old : Inflow) : Type 0 where
  pub taken : AreTakenLines lines (Some input) old
  pub feedless : AreFeedless lines
  pub goes_on : old.input.ended ≡ false
  pub no_feed : has_feed seen ≡ false

-- what was taken of the input, where it is cut off: the lines, and bytes of no whole line
cut_off : (lines : List (List ℕ)) (seen input : List ℕ) (old : Inflow) (behind : Option (List ℕ)) (count : ℕ) → IsBehind lines seen input old →
    stream old ≡ prepend_known seen behind → count ≡ length (with_feeds lines) + length seen → ended_lines (take count input) ≡ lines
cut_off lines seen input old behind count is whole counted =
    let here = open_lines lines (Some input) old is.goes_on is.taken in
    let told = some_prepend (with_feeds lines ++ seen) input behind (here.whole ∙ ap (prepend_known (with_feeds lines)) whole ∙ prepend-both (with_feeds lines) seen behind) in
    let long : count ≡ length (with_feeds lines ++ seen) = counted ∙ sym (length-append (with_feeds lines) seen) in
    let front : take count input ≡ with_feeds lines ++ seen = ap (λ n. take n input) long ∙ ap (take (length (with_feeds lines ++ seen))) told.2 ∙ front_of (with_feeds lines ++ seen) told.0 in
    ap ended_lines front ∙ ended_lines-seen lines seen is.feedless is.no_feed

pub ends-read_fault : (machines : List FlatMachine) (start old new : RunState) (input : List ℕ) → start.inflow.left ≡ Some input → (way : IsUnderWay machines start old) → Steps machines (Some status.ReadFault) old new →
    Tells status.ReadFault machines (record { input = input; taken = new.inflow.taken - start.inflow.taken; printed = answers machines empty_office way.read })
ends-read_fault machines start old new input told way step =
    let cut = step.0 in
    let taken = known_lines machines start old input told way in
    let here = open_lines way.lines (Some input) old.inflow cut.goes_on taken in
    let none : length new.inflow.input.pending ≡ 0 = ap length cut.uses.pending in
    let lines = cut_off way.lines cut.seen input old.inflow new.inflow.left (new.inflow.taken - start.inflow.taken)
    (record { taken = taken; feedless = way.feedless; goes_on = cut.goes_on; no_feed = cut.uses.no_feed }) cut.whole (omega (arith, way.counted, step.1, cut.uses.used, here.used, none)) in
    record { read = way.read; each = subst (λ ls. AreRead ls way.read) (sym lines) way.each; told = refl }

-- the input is too long: behind the bytes that a run takes there is one more
too_much : (machines : List FlatMachine) (start old : RunState) (after : Inflow) (input : List ℕ) → start.inflow.left ≡ Some input → (way : IsUnderWay machines start old) →
    IsTooMuch old.inflow after → (MAX_INPUT < length input) × (ended_lines (take MAX_INPUT input) ≡ way.lines)
too_much machines start old after input told way much =
    let taken = known_lines machines start old input told way in
    let here = open_lines way.lines (Some input) old.inflow much.goes_on taken in
    let seen = much.seen in
    let more : List ℕ = much.byte ∷ [] in
    let counted : MAX_INPUT ≡ length (with_feeds way.lines) + length seen = omega (arith, much.full, much.uses.used, here.used) in
    let lines = cut_off way.lines seen input old.inflow (prepend_known more after.left) MAX_INPUT
    (record { taken = taken; feedless = way.feedless; goes_on = much.goes_on; no_feed = much.uses.no_feed }) much.whole counted in
    let whole = some_prepend ((with_feeds way.lines ++ seen) ++ more) input after.left
    (here.whole ∙ ap (prepend_known (with_feeds way.lines)) much.whole ∙ prepend-both (with_feeds way.lines) seen (prepend_known more after.left)
    ∙ prepend-both (with_feeds way.lines ++ seen) more after.left) in
    (omega (arith, counted, ap length whole.2, length-append ((with_feeds way.lines ++ seen) ++ more) whole.0, length-append (with_feeds way.lines ++ seen) more, length-append (with_feeds way.lines) seen), lines)

pub ends-long : (machines : List FlatMachine) (start old new : RunState) (input : List ℕ) → start.inflow.left ≡ Some input → (way : IsUnderWay machines start old) → Steps machines (Some status.InputLong) old new → (taken : ℕ) →
    Tells status.InputLong machines (record { input = input; taken = taken; printed = answers machines empty_office way.read ++ TOO_LONG.now })
ends-long machines start old new input told way step taken =
    let much = too_much machines start old new.inflow input told way step.0 in
    record {
      long = much.0;
      told = answers machines empty_office way.read;
      answered = record { read = way.read; each = subst (λ ls. AreRead ls way.read) (sym much.1) way.each; told = refl };
      printed = refl;
    }

-- lines that were taken, and what they were read as
pub record AreSoFar (lines : List (List ℕ)) (read : List Line) (input : List ℕ) (now : Inflow) : Type 0 where
  pub each : AreRead lines read
  pub feedless : AreFeedless lines
  pub taken : AreTakenLines lines (Some input) now

-- the answers to the lines that were taken, or a part of them
so_far : (machines : List FlatMachine) (lines : List (List ℕ)) (read : List Line) (now : Inflow) (input part : List ℕ) → AreSoFar lines read input now →
    IsPart (answers machines empty_office read) part ⊎ ((MAX_INPUT < length input) × IsPart (answers machines empty_office read ++ TOO_LONG.now) part) → IsCutShort machines input part
so_far machines lines read now input part are is =
    let first = first_lines lines input now are.feedless are.taken in
    let same : take (length lines) (all_lines input) ≡ lines = ap (take (length lines)) first.1 ∙ front_of lines first.0 in
    record {
      count = length lines;
      told = answers machines empty_office read;
      answered = record { read = read; each = subst (λ ls. AreRead ls read) (sym same) are.each; told = refl };
      part = is;
    }

all_part : (whole : List ℕ) → IsPart whole whole
all_part whole = (length whole, sym (ap (take (length whole)) (sym (append-nil whole)) ∙ front_of whole []))

more_part : (a b : List ℕ) (count : ℕ) → IsPart (a ++ b) (a ++ take count b)
more_part a b count = (length a + count, sym (take-append-add a b count))

pub ends-memory : (machines : List FlatMachine) (start old : RunState) (input : List ℕ) → start.inflow.left ≡ Some input → (way : IsUnderWay machines start old) →
    IsCutShort machines input (answers machines empty_office way.read)
ends-memory machines start old input told way =
    so_far machines way.lines way.read old.inflow input (answers machines empty_office way.read)
    (record { each = way.each; feedless = way.feedless; taken = known_lines machines start old input told way })
    (inl (all_part (answers machines empty_office way.read)))

-- where a write fails, a part of the answer stands behind the answers so far
pub ends-write_fault : (machines : List FlatMachine) (start old new : RunState) (input before : List ℕ) → start.inflow.left ≡ Some input → start.written ≡ Some before → IsUnderWay machines start old →
    AnswersPart machines old new ⊎ RefusesPart old new → (printed : List ℕ) × (new.written ≡ Some (before ++ printed)) × IsCutShort machines input printed
ends-write_fault machines start old new input before told known way = either
  where
    front : List ℕ
    front = answers machines empty_office way.read

    behind : (part : List ℕ) → new.written ≡ append_known old.written part → new.written ≡ Some (before ++ (front ++ part))
    behind part wrote =
        wrote ∙ ap (λ w. append_known w part) (way.told ∙ ap (λ w. append_known w front) known) ∙ ap Some (append_assoc before front part)

    either : AnswersPart machines old new ⊎ RefusesPart old new → (printed : List ℕ) × (new.written ≡ Some (before ++ printed)) × IsCutShort machines input printed
    either (inl part) =
        let taken = known_lines machines start old input told way in
        let answer = answer_line machines old.office part.line in
        let read = way.read ++ part.line ∷ [] in
        let text : answers machines empty_office read ≡ front ++ answer =
        answers-push machines empty_office way.read part.line ∙ ap (λ o. front ++ answer_line machines o part.line) (sym way.reached) in (
          front ++ take part.count answer,
          behind (take part.count answer) part.written,
          so_far machines (way.lines ++ part.bytes ∷ []) read new.inflow input (front ++ take part.count answer)
              (record {
                each = read-push way.lines way.read part.bytes part.line way.each part.takes.is_line;
                feedless = feedless-push way.lines part.bytes way.feedless part.takes.next.no_feed;
                taken = taken-next way.lines (Some input) old.inflow new.inflow part.bytes taken part.takes.next;
              })
              (inl (subst (λ whole. IsPart whole (front ++ take part.count answer)) (sym text) (more_part front answer part.count))),
        )
    either (inr part) = (
      front ++ take part.count TOO_LONG.now,
      behind (take part.count TOO_LONG.now) part.written,
      so_far machines way.lines way.read old.inflow input (front ++ take part.count TOO_LONG.now)
          (record { each = way.each; feedless = way.feedless; taken = known_lines machines start old input told way })
          (inr ((too_much machines start old new.inflow input told way part.too_much).0, more_part front TOO_LONG.now part.count)),
    )

so_written : (start old : RunState) (before told : List ℕ) → start.written ≡ Some before → old.written ≡ append_known start.written told → old.written ≡ Some (before ++ told)
so_written start old before told known is = is ∙ ap (λ w. append_known w told) known

-- nothing was taken or printed
pub ends-at_once : (machines : List FlatMachine) (input : List ℕ) → IsCutShort machines input []
ends-at_once machines input = record {
  count = 0;
  told = [];
  answered = record { read = []; each = tt; told = refl };
  part = inl (0, refl);
}

-- what is printed at each end
pub ends : (machines : List FlatMachine) (start old new : RunState) (end : Status) (input before : List ℕ) → start.inflow.left ≡ Some input → start.written ≡ Some before → IsUnderWay machines start old →
    Steps machines (Some end) old new →
    (printed : List ℕ) × (new.written ≡ Some (before ++ printed)) × Tells end machines (record { input = input; taken = new.inflow.taken - start.inflow.taken; printed = printed })
ends machines start old new status.Done input before told known way step =
    (answers machines empty_office way.read, step.1 ∙ so_written start old before (answers machines empty_office way.read) known way.told, ends-done machines start old new input told way step (new.inflow.taken - start.inflow.taken))
ends machines start old new status.ReadFault input before told known way step =
    (answers machines empty_office way.read, step.2 ∙ so_written start old before (answers machines empty_office way.read) known way.told, ends-read_fault machines start old new input told way step)
ends machines start old new status.InputLong input before told known way step = (
  answers machines empty_office way.read ++ TOO_LONG.now,
  step.1 ∙ ap (λ w. append_known w TOO_LONG.now) (so_written start old before (answers machines empty_office way.read) known way.told) ∙ ap Some (append_assoc before (answers machines empty_office way.read) TOO_LONG.now),
  ends-long machines start old new input told way step (new.inflow.taken - start.inflow.taken),
)
ends machines start old new status.WriteFault input before told known way step = ends-write_fault machines start old new input before told known way step
ends machines start old new status.Memory input before told known way step =
    (answers machines empty_office way.read, step ∙ so_written start old before (answers machines empty_office way.read) known way.told, ends-memory machines start old input told way)
ends machines start old new status.Usage input before told known way step = absurd step
ends machines start old new status.Refused input before told known way step = absurd step
