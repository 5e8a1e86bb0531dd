-- What a command prints, as its parts tell it.
use Rattle.std.proofs.Common.{◌≡◌, ℕ, ◌++◌, List, [], take, Option, Some, Result, Ok, Err, refl, ap, subst, sym, ◌∙◌, inl, inr}
use Rattle.std.specs.Prelude.{IfOk, MatchResult, String, false, string_bytes}
use Rattle.std.specs.declared.alloc.AllocError.{AllocError}
use Rattle.std.specs.declared.alloc.Global.{Global}
use Rattle.std.specs.Io.KnownBytes.{append_known}
use Rattle.std.proofs.lemmas.List.{append-nil}
use Rattle.action_table.specs.declared.definitions.Defs.{Defs}
use Rattle.action_table.specs.declared.defs_fault.DefsFault.{DefsFault}
use Rattle.action_table.specs.DefsText.{IsDefsReading, MeansDefs}
use Rattle.flat_core.specs.declared.flat.FlatMachine.{FlatMachine}
use Rattle.office_run.specs.declared.command.Command.{Command}
use Rattle.office_run.specs.declared.command.Command.TheVariants.{Check, Run}
use Rattle.office_run.specs.declared.status.Status.{Status}
use Rattle.office_run.specs.declared.status.Status.TheVariants as status
use Rattle.office_run.specs.Command.{command_of}
use Rattle.office_run.specs.Definitions.{IsHosted}
use Rattle.office_run.specs.DefinitionsLines.{counts_line, is_want_of_memory, refusal_line}
use Rattle.office_run.specs.Printing.{IsPart, PrintsNothing, PrintsText}
use Rattle.office_run.specs.Run.{Converses, Exchange, Hosts, IsRefusalLine, PrintsAsAsked, PrintsInForm, PrintsRun, Serves, ServesCommand, ServesText, Tells, Transcript, WholeRun}
use Rattle.office_run.proofs.DefinitionsLemmas.{refused-for}

-- ---- nothing is printed

nothing_for : (command : Command) (text input : List ℕ) (taken : ℕ) → PrintsInForm command status.Memory text (record { input = input; taken = taken; printed = [] })
nothing_for (Check defs) text input taken = refl
nothing_for (Run defs journal) text input taken = inl refl

none_written : (before : List ℕ) (old new : Option (List ℕ)) → new ≡ old → old ≡ Some before → new ≡ Some (before ++ [])
none_written before old new same known = same ∙ known ∙ ap Some (sym (append-nil before))

-- ---- a text is printed

-- what a call that printed a text has said: all of it, or a front part
said : (Says : Status → Transcript → Type 0) (end result : Status) (whole : List ℕ) (exchange : Exchange) (faults faults' : ℕ)
    → PrintsText end whole result (record { before = exchange.before; after = exchange.after; faults_before = faults; faults_after = faults' })
    → ((t : Transcript) → t.printed ≡ whole → Says end t) → ((t : Transcript) → IsPart whole t.printed → Says status.WriteFault t)
    → (input before : List ℕ) → exchange.input ≡ Some input → exchange.before ≡ Some before
    → (printed : List ℕ) × (exchange.after ≡ Some (before ++ printed)) × Says result (record { input = input; taken = exchange.taken; printed = printed })
said Says end result whole exchange faults faults' (inl wrote) all part = λ input before is known.
    let t : Transcript = record { input = input; taken = exchange.taken; printed = whole } in
    (whole, wrote.1 ∙ ap (λ w. append_known w whole) known, subst (λ (s : Status). Says s t) (sym wrote.0) (all t refl))
said Says end result whole exchange faults faults' (inr wrote) all part = λ input before is known.
    let front = take wrote.1.0 whole in
    let t : Transcript = record { input = input; taken = exchange.taken; printed = front } in
    (front, wrote.1.1 ∙ ap (λ w. append_known w front) known, subst (λ (s : Status). Says s t) (sym wrote.0) (part t (wrote.1.0, refl)))

refused_all : (command : Command) (text line : List ℕ) → IsRefusalLine text line → (t : Transcript) → t.printed ≡ line → PrintsInForm command status.Refused text t
refused_all (Check defs) text line is t told = record { fault = is.fault; refused = is.refused; told = told ∙ is.told }
refused_all (Run defs journal) text line is t told = inl (record { fault = is.fault; refused = is.refused; told = told ∙ is.told })

refused_part : (command : Command) (text line : List ℕ) → IsRefusalLine text line → (t : Transcript) → IsPart line t.printed → PrintsInForm command status.WriteFault text t
refused_part (Check defs) text line is t part = inr (line, is, part)
refused_part (Run defs journal) text line is t part = inl (line, inl is, part)

text-nothing : (command : Command) (text : List ℕ) (result : Status) (exchange : Exchange) (faults faults' : ℕ)
    → PrintsNothing result (record { before = exchange.before; after = exchange.after; faults_before = faults; faults_after = faults' }) → ServesText result command text exchange
text-nothing command text result exchange faults faults' none = λ input before is known.
    let t : Transcript = record { input = input; taken = exchange.taken; printed = [] } in
    ([], none_written before exchange.before exchange.after none.written known, subst (λ (s : Status). PrintsInForm command s text t) (sym none.memory) (nothing_for command text input exchange.taken))

pub serves-refusal : (line : Result (String Global) AllocError) (fault : DefsFault) (command : Command) (text : List ℕ) (result : Status) (exchange : Exchange) (faults faults' : ℕ)
    → IsDefsReading text (Err fault) → IfOk line (λ l. (is_want_of_memory fault ≡ false) × (string_bytes l ≡ refusal_line fault))
    → MatchResult line (λ l. PrintsText status.Refused (string_bytes l) result (record { before = exchange.before; after = exchange.after; faults_before = faults; faults_after = faults' }))
    (λ e. PrintsNothing result (record { before = exchange.before; after = exchange.after; faults_before = faults; faults_after = faults' }))
    → ServesText result command text exchange
serves-refusal (Ok l) fault command text result exchange faults faults' reading is printed =
    let line : IsRefusalLine text (string_bytes l) = record { fault = fault; refused = refused-for text fault reading is.0; told = is.1 } in
    said (λ s t. PrintsInForm command s text t) status.Refused result (string_bytes l) exchange faults faults' printed
    (refused_all command text (string_bytes l) line) (refused_part command text (string_bytes l) line)
serves-refusal (Err e) fault command text result exchange faults faults' reading is printed = text-nothing command text result exchange faults faults' printed

pub serves-counts : (line : Result (String Global) AllocError) (defs : Defs) (name text : List ℕ) (result : Status) (exchange : Exchange) (faults faults' : ℕ)
    → MeansDefs text defs → IfOk line (λ l. string_bytes l ≡ counts_line defs)
    → MatchResult line (λ l. PrintsText status.Done (string_bytes l) result (record { before = exchange.before; after = exchange.after; faults_before = faults; faults_after = faults' }))
    (λ e. PrintsNothing result (record { before = exchange.before; after = exchange.after; faults_before = faults; faults_after = faults' }))
    → ServesText result (Check name) text exchange
serves-counts (Ok l) defs name text result exchange faults faults' means is printed =
    said (λ s t. PrintsInForm (Check name) s text t) status.Done result (string_bytes l) exchange faults faults' printed
    (λ t told. record { defs = defs; means = means; told = told ∙ is })
    (λ t part. inl (string_bytes l, record { defs = defs; means = means; told = is }, part))
serves-counts (Err e) defs name text result exchange faults faults' means is printed = text-nothing (Check name) text result exchange faults faults' printed

-- ---- the lines are answered

prints_answers : (result : Status) (machines : List FlatMachine) (text : List ℕ) (t : Transcript) → IsHosted text machines → Tells result machines t → PrintsRun result text t
prints_answers status.Done machines text t hosted tells = (machines, hosted, tells)
prints_answers status.InputLong machines text t hosted tells = (machines, hosted, tells)
prints_answers status.ReadFault machines text t hosted tells = inr (machines, hosted, tells)
prints_answers status.WriteFault machines text t hosted tells = inr (machines, hosted, tells)
prints_answers status.Memory machines text t hosted tells = inr (machines, hosted, tells)
prints_answers status.Usage machines text t hosted tells = absurd tells
prints_answers status.Refused machines text t hosted tells = absurd tells

pub hosts-answers : (result : Status) (machines : List FlatMachine) (text : List ℕ) (exchange : Exchange) → IsHosted text machines → Converses result machines exchange → Hosts result text exchange
hosts-answers result machines text exchange hosted converses = λ input before is known.
    let printed = converses input before is known in
    (printed.0, printed.1, prints_answers result machines text (record { input = input; taken = exchange.taken; printed = printed.0 }) hosted printed.2)

-- ---- the words

pub serves-words : (result : Status) (command : Command) (run : WholeRun) → command_of run.words ≡ Some command → ServesCommand result command run.definitions run.exchange → Serves result run
serves-words result command run form serves = λ text input before told is known.
    let printed = serves text told input before is known in
    let t : Transcript = record { input = input; taken = run.exchange.taken; printed = printed.0 } in
    (printed.0, printed.1, subst (λ (asked : Option Command). PrintsAsAsked asked result text t) (sym form) printed.2)
