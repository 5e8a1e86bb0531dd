-- Lemmas on the texts of entries.
use Rattle.std.proofs.Common.{◌≡◌, ◌≢◌, ℕ, List, ◌++◌, true, false, refl, sym, ap, subst, ◌∙◌}
use Rattle.std.specs.Prelude.{Result, Err, codes, decimal}
use Rattle.std.proofs.lemmas.Slice.Eq.{bytes_eq-Decides}
use Rattle.office_types.specs.declared.entry.Entry.{Entry}
use Rattle.office_types.specs.declared.entry.Entry.TheVariants.{Decided, Step}
use Rattle.office_types.specs.declared.line_fault.LineFault.{LineFault}
use Rattle.office_types.specs.declared.line_fault.LineFault.TheVariants.{NotALine}
use Rattle.office_types.specs.declared.request.Request.{Request}
use Rattle.office_types.specs.LineParts.{IsCut, IsDecidedText, IsStepText}
use Rattle.office_types.specs.RequestLines.{IsEntryText, IsRequestLine, Reads, RequestIsUnique, canonical_line}
use Rattle.office_types.proofs.LineLemmas.{IsCut-unique}
use Rattle.office_types.proofs.RequestLemmas.{reads_as}

-- the letter of an entry's text, and what stands behind it
abbrev entry_letter : Entry → List ℕ
entry_letter (Decided request) = codes "R"
entry_letter (Step actor) = codes "S"

abbrev entry_rest : Entry → List ℕ
entry_rest (Decided request) = canonical_line request
entry_rest (Step actor) = decimal actor

entry_cut : (payload : List ℕ) (entry : Entry) → IsEntryText payload entry → IsCut payload (entry_letter entry) (entry_rest entry)
entry_cut payload (Decided request) is = record { joined = is.0; spaceless = refl }
entry_cut payload (Step actor) is = record { joined = is.0; spaceless = refl }

letters_differ : codes "R" ≡ codes "S" → ⊥
letters_differ same = let equal : false ≡ true = (bytes_eq-Decides (codes "R") (codes "S")).1 same in cc

-- what stands behind `R` in the text of an entry
decided_behind : (payload rest : List ℕ) → IsCut payload (codes "R") rest → (entry : Entry) → IsEntryText payload entry → IsDecidedText rest entry
decided_behind payload rest cut (Decided request) is = ((IsCut-unique payload (codes "R") rest (codes "R") (canonical_line request) cut (entry_cut payload (Decided request) is)).1, is.1)
decided_behind payload rest cut (Step actor) is =
    absurd (letters_differ (IsCut-unique payload (codes "R") rest (codes "S") (decimal actor) cut (entry_cut payload (Step actor) is)).0)

decided_whole : (payload rest : List ℕ) → IsCut payload (codes "R") rest → (entry : Entry) → IsDecidedText rest entry → IsEntryText payload entry
decided_whole payload rest cut (Decided request) is = (cut.joined ∙ ap (λ (line : List ℕ). codes "R " ++ line) is.0, is.1)
decided_whole payload rest cut (Step actor) is = absurd is

-- what stands behind `S`
step_behind : (payload rest : List ℕ) → IsCut payload (codes "S") rest → (entry : Entry) → IsEntryText payload entry → IsStepText rest entry
step_behind payload rest cut (Step actor) is = (is.1, (IsCut-unique payload (codes "S") rest (codes "S") (decimal actor) cut (entry_cut payload (Step actor) is)).1)
step_behind payload rest cut (Decided request) is =
    absurd (letters_differ (sym (IsCut-unique payload (codes "S") rest (codes "R") (canonical_line request) cut (entry_cut payload (Decided request) is)).0))

step_whole : (payload rest : List ℕ) → IsCut payload (codes "S") rest → (entry : Entry) → IsStepText rest entry → IsEntryText payload entry
step_whole payload rest cut (Step actor) is = (cut.joined ∙ ap (λ (number : List ℕ). codes "S " ++ number) is.1, is.0)
step_whole payload rest cut (Decided request) is = absurd is

module _ (payload letter rest : List ℕ) (cut : IsCut payload letter rest) where
  cut_at : (known : List ℕ) → letter ≡ known → IsCut payload known rest
  cut_at known same = subst (λ (l : List ℕ). IsCut payload l rest) same cut

  pub reads_decided : letter ≡ codes "R" → (read : Result Entry LineFault) → Reads (IsDecidedText rest) read → Reads (IsEntryText payload) read
  reads_decided same read reads = reads_as (IsDecidedText rest) (IsEntryText payload) read reads (decided_whole payload rest (cut_at (codes "R") same)) (decided_behind payload rest (cut_at (codes "R") same))

  pub reads_step : letter ≡ codes "S" → (read : Result Entry LineFault) → Reads (IsStepText rest) read → Reads (IsEntryText payload) read
  reads_step same read reads = reads_as (IsStepText rest) (IsEntryText payload) read reads (step_whole payload rest (cut_at (codes "S") same)) (step_behind payload rest (cut_at (codes "S") same))

  -- with another letter it is no entry's text
  pub reads_no_entry : letter ≢ codes "R" → letter ≢ codes "S" → Reads (IsEntryText payload) (Err NotALine)
  reads_no_entry no_decision no_step (Decided request) is = no_decision (IsCut-unique payload letter rest (codes "R") (canonical_line request) cut (entry_cut payload (Decided request) is)).0
  reads_no_entry no_decision no_step (Step actor) is = no_step (IsCut-unique payload letter rest (codes "S") (decimal actor) cut (entry_cut payload (Step actor) is)).0

-- the request whose canonical line it is is one whose line it is
pub line_of_decided : (line : List ℕ) (entry : Entry) → IsDecidedText line entry → (request : Request) × IsRequestLine line request
line_of_decided line (Decided request) is = (request, subst (λ (l : List ℕ). IsRequestLine l request) (sym is.0) is.1)
line_of_decided line (Step actor) is = absurd is

-- where a line isn't the canonical one of its request, it is no request's canonical line
pub not_canonical : RequestIsUnique → (line : List ℕ) (request : Request) → IsRequestLine line request → line ≢ canonical_line request → Reads (IsDecidedText line) (Err NotALine)
not_canonical unique line request is other (Decided decided) text =
    let same : decided ≡ request = unique line decided request (subst (λ (l : List ℕ). IsRequestLine l decided) (sym text.0) text.1) is in
    other (text.0 ∙ ap canonical_line same)
not_canonical unique line request is other (Step actor) text = text
