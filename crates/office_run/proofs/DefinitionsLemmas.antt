-- What is so of the bytes of definitions that were taken is so of all bytes.
use Rattle.std.proofs.Common.{◌≡◌, ◌⊎◌, ℕ, List, ◌++◌, length, Option, Some, Err, subst, sym, ap, refl, ◌∙◌, inl, inr, arith, length-append}
use Rattle.std.specs.Io.KnownBytes.{prepend_known, IsAtEnd}
use Rattle.std.specs.Prelude.{false}
use Rattle.std.proofs.lemmas.List.{append-nil}
use Rattle.ordered_json.specs.declared.fault.JsonFault.TheVariants as json_fault
use Rattle.machine_json.specs.declared.fault.MachineFault.TheVariants as machine_fault
use Rattle.action_table.specs.declared.definitions.Defs.{Defs}
use Rattle.action_table.specs.declared.defs_fault.DefsFault.{DefsFault}
use Rattle.action_table.specs.declared.defs_fault.DefsFault.TheVariants as fault_in
use Rattle.action_table.specs.declared.fault.TableFault.TheVariants as table_fault
use Rattle.action_table.specs.DefsText.{IsDefsReading, IsRefusedDefs, MeansDefs, no_json, outer_shape, a_machine, the_table, linking}
use Rattle.office_run.specs.declared.command.Command.{Command}
use Rattle.office_run.specs.declared.command.Command.TheVariants.{Check, Run}
use Rattle.office_run.specs.declared.definitions.TheConstants.{MAX_DEFINITIONS_TAKEN}
use Rattle.office_run.specs.declared.status.Status.{Status}
use Rattle.office_run.specs.declared.status.Status.TheVariants as status
use Rattle.office_run.specs.Definitions.{TakesText}
use Rattle.office_run.specs.DefinitionsLines.{is_want_of_memory}
use Rattle.office_run.specs.Run.{Exchange, IsRefusalLine, PrintsInForm, ServesCommand, ServesText, Transcript}
use Rattle.office_run.proofs.ProgressLemmas.{some_prepend, at_end}

-- a text is refused for the fault that reading it gives, where that is none of memory
pub refused-for : (text : List ℕ) (fault : DefsFault) → IsDefsReading text (Err fault) → is_want_of_memory fault ≡ false → IsRefusedDefs text fault
refused-for text (fault_in.Json (json_fault.Syntax place)) reading own = reading
refused-for text (fault_in.Json (json_fault.DoubleKey place)) reading own = reading
refused-for text (fault_in.Json (json_fault.Fraction place)) reading own = reading
refused-for text (fault_in.Json (json_fault.Range place)) reading own = reading
refused-for text (fault_in.Json (json_fault.TooDeep place)) reading own = reading
refused-for text (fault_in.Json json_fault.TooLong) reading own = reading
refused-for text (fault_in.Json json_fault.Memory) reading own = cc
refused-for text (fault_in.Machine (machine_fault.UnknownField place)) reading own = reading
refused-for text (fault_in.Machine (machine_fault.BadKind place)) reading own = reading
refused-for text (fault_in.Machine (machine_fault.NoInitial place)) reading own = reading
refused-for text (fault_in.Machine (machine_fault.EmptyStates place)) reading own = reading
refused-for text (fault_in.Machine (machine_fault.TooMany place)) reading own = reading
refused-for text (fault_in.Machine (machine_fault.DoubleId place)) reading own = reading
refused-for text (fault_in.Machine (machine_fault.NoTarget place)) reading own = reading
refused-for text (fault_in.Machine (machine_fault.Clash place)) reading own = reading
refused-for text (fault_in.Machine machine_fault.Memory) reading own = cc
refused-for text (fault_in.Table (table_fault.UnknownForm place)) reading own = reading
refused-for text (fault_in.Table (table_fault.Unnamed place)) reading own = reading
refused-for text (fault_in.Table (table_fault.Twice place)) reading own = reading
refused-for text (fault_in.Table table_fault.Memory) reading own = cc

-- as many bytes as are taken at most, of a text that may go on
record IsFullPart (bytes text : List ℕ) : Type 0 where
  full : length bytes ≡ MAX_DEFINITIONS_TAKEN
  rest : List ℕ
  goes_on : text ≡ bytes ++ rest

-- the bytes that were taken are the text, or as many as the limit and the text has them in front
taken : (bytes text : List ℕ) (left' : Option (List ℕ)) → Some text ≡ prepend_known bytes left' → IsAtEnd left' ⊎ (length bytes ≡ MAX_DEFINITIONS_TAKEN) → (text ≡ bytes) ⊎ IsFullPart bytes text
taken bytes text left' told (inl end) =
    let parts = some_prepend bytes text left' told in
    let nothing = at_end left' parts.0 parts.1 end in
    inl (parts.2 ∙ ap (λ r. bytes ++ r) nothing ∙ append-nil bytes)
taken bytes text left' told (inr full) =
    let parts = some_prepend bytes text left' told in
    inr (record { full = full; rest = parts.0; goes_on = parts.2 })

-- so many bytes mean nothing
means_nothing : (bytes text : List ℕ) (defs : Defs) → IsFullPart bytes text → MeansDefs bytes defs → ⊥
means_nothing bytes text defs part means = omega (arith, part.full, means.outer.means.0)

-- they are refused as too long, and the text is too
refused_all : (bytes text : List ℕ) (fault : DefsFault) → IsFullPart bytes text → IsRefusedDefs bytes fault → IsRefusedDefs text fault
refused_all bytes text (fault_in.Json (json_fault.Syntax place)) part (no_json fault has other) = absurd (omega (arith, part.full, has.0))
refused_all bytes text (fault_in.Json (json_fault.DoubleKey place)) part (no_json fault has other) = absurd (omega (arith, part.full, has.0))
refused_all bytes text (fault_in.Json (json_fault.Fraction place)) part (no_json fault has other) = absurd (omega (arith, part.full, has.0))
refused_all bytes text (fault_in.Json (json_fault.Range place)) part (no_json fault has other) = absurd (omega (arith, part.full, has.0))
refused_all bytes text (fault_in.Json (json_fault.TooDeep place)) part (no_json fault has other) = absurd (omega (arith, part.full, has.0))
refused_all bytes text (fault_in.Json json_fault.TooLong) part (no_json fault has other) =
    no_json json_fault.TooLong (omega (arith, has, ap length part.goes_on, length-append bytes part.rest)) other
refused_all bytes text (fault_in.Json json_fault.Memory) part (no_json fault has other) = absurd (other refl)
refused_all bytes text fault part (outer_shape json place means least) = absurd (omega (arith, part.full, means.0))
refused_all bytes text fault part (a_machine texts implementations why outer first) = absurd (omega (arith, part.full, outer.means.0))
refused_all bytes text fault part (the_table texts implementations machines place outer mean least) = absurd (omega (arith, part.full, outer.means.0))
refused_all bytes text fault part (linking texts implementations machines table why outer mean is_table reading other) = absurd (omega (arith, part.full, outer.means.0))

line_all : (bytes text line : List ℕ) → IsFullPart bytes text → IsRefusalLine bytes line → IsRefusalLine text line
line_all bytes text line part is = record { fault = is.fault; refused = refused_all bytes text is.fault part is.refused; told = is.told }

-- what a command prints over as many bytes as are taken at most it prints over all
prints_all : (end : Status) (command : Command) (bytes text : List ℕ) (t : Transcript) → IsFullPart bytes text → PrintsInForm command end bytes t → PrintsInForm command end text t
prints_all status.Usage (Check defs) bytes text t part is = is
prints_all status.Refused (Check defs) bytes text t part is = line_all bytes text t.printed part is
prints_all status.Done (Check defs) bytes text t part is = absurd (means_nothing bytes text is.defs part is.means)
prints_all status.InputLong (Check defs) bytes text t part is = is
prints_all status.ReadFault (Check defs) bytes text t part is = is
prints_all status.WriteFault (Check defs) bytes text t part (inl is) = absurd (means_nothing bytes text is.1.defs part is.1.means)
prints_all status.WriteFault (Check defs) bytes text t part (inr is) = inr (is.0, line_all bytes text is.0 part is.1, is.2)
prints_all status.Memory (Check defs) bytes text t part is = is
prints_all status.Usage (Run defs journal) bytes text t part is = is
prints_all status.Refused (Run defs journal) bytes text t part (inl is) = inl (line_all bytes text t.printed part is)
prints_all status.Refused (Run defs journal) bytes text t part (inr is) = absurd (means_nothing bytes text is.0.defs part is.0.means)
prints_all status.Done (Run defs journal) bytes text t part is = absurd (means_nothing bytes text is.1.defs part is.1.means)
prints_all status.InputLong (Run defs journal) bytes text t part is = absurd (means_nothing bytes text is.1.defs part is.1.means)
prints_all status.ReadFault (Run defs journal) bytes text t part (inl is) = inl is
prints_all status.ReadFault (Run defs journal) bytes text t part (inr is) = absurd (means_nothing bytes text is.1.defs part is.1.means)
prints_all status.WriteFault (Run defs journal) bytes text t part (inl (line, inl is, piece)) = inl (line, inl (line_all bytes text line part is), piece)
prints_all status.WriteFault (Run defs journal) bytes text t part (inl (line, inr is, piece)) = absurd (means_nothing bytes text is.0.defs part is.0.means)
prints_all status.WriteFault (Run defs journal) bytes text t part (inr is) = absurd (means_nothing bytes text is.1.defs part is.1.means)
prints_all status.Memory (Run defs journal) bytes text t part (inl is) = inl is
prints_all status.Memory (Run defs journal) bytes text t part (inr is) = absurd (means_nothing bytes text is.1.defs part is.1.means)

prints_so : (end : Status) (command : Command) (bytes text : List ℕ) (t : Transcript) → (text ≡ bytes) ⊎ IsFullPart bytes text → PrintsInForm command end bytes t → PrintsInForm command end text t
prints_so end command bytes text t (inl same) is = subst (λ (b : List ℕ). PrintsInForm command end b t) (sym same) is
prints_so end command bytes text t (inr part) is = prints_all end command bytes text t part is

pub serves-taken : (end : Status) (command : Command) (bytes : List ℕ) (left left' : Option (List ℕ)) (exchange : Exchange) → TakesText bytes left left' → ServesText end command bytes exchange → ServesCommand end command left exchange
serves-taken end command bytes left left' exchange takes serves = λ text told input before is known.
    let said = serves input before is known in
    let t : Transcript = record { input = input; taken = exchange.taken; printed = said.0 } in
    (said.0, said.1, prints_so end command bytes text t (taken bytes text left' (sym told ∙ takes.whole) takes.ends) said.2)
