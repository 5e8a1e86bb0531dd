-- What reading a whole text answers.
use Rattle.std.proofs.Common.{◌≡◌, ◌≢◌, ℕ, suc, ◌<◌, List, ◌∷◌, ◌++◌, length, take, drop, get_or, refl, sym, ap, ◌∙◌, subst}
use Rattle.std.specs.Prelude.{Result, Ok, Err, IfOk, MatchResult}
use Rattle.std.specs.List.{AllZip}
use Rattle.std.specs.Result.{IsErrAnd}
use Rattle.std.proofs.lemmas.List.{take-append-drop}
use Rattle.std.proofs.lemmas.Result.{err_from_is_err_and}
use Rattle.std.proofs.Math.Seq.{drop-cons}
use Rattle.ordered_json.specs.declared.fault.JsonFault.{JsonFault}
use Rattle.ordered_json.specs.declared.fault.JsonFault.TheVariants as json_fault
use Rattle.ordered_json.specs.declared.json.OrderedJson.{OrderedJson}
use Rattle.ordered_json.specs.Faults.{HasFault}
use Rattle.machine_json.specs.declared.fault.MachineFault.{MachineFault}
use Rattle.machine_json.specs.declared.fault.MachineFault.TheVariants as machine_fault
use Rattle.machine_json.specs.declared.machine.Machine.{Machine}
use Rattle.machine_json.specs.Machines.{IsAnsweredFault, MeansMachine}
use Rattle.action_table.specs.declared.definitions.Defs.{Defs}
use Rattle.action_table.specs.declared.defs_fault.DefsFault.{DefsFault}
use Rattle.action_table.specs.declared.defs_fault.DefsFault.TheVariants as fault_in
use Rattle.action_table.specs.declared.fault.TableFault.{TableFault}
use Rattle.action_table.specs.declared.fault.TableFault.TheVariants as table_fault
use Rattle.action_table.specs.declared.table.Table.{Table}
use Rattle.action_table.specs.DefsText.{IsDefsReading, IsFirstRefused, IsOuterText, a_machine, linking, no_json, the_table}
use Rattle.action_table.specs.Linked.{IsLinkReading}
use Rattle.action_table.specs.TableMeaning.{IsTableOf, IsTableReading}

-- what `map_err` gives: the value as it was, or what the fault becomes
abbrev pub IsMapped : {T E D : Type 0} → (E → D) → Result T E → Result T D → Type 0
IsMapped become held answer = MatchResult held (λ x. answer ≡ Ok x) (λ e. IsErrAnd answer (λ d. d ≡ become e))

pub mapped-ok : {T E D : Type 0} (become : E → D) (held : Result T E) (answer : Result T D) (x : T) → IsMapped become held answer → answer ≡ Ok x → held ≡ Ok x
mapped-ok become (Ok y) answer x is ok = let both : Ok y ≡ Ok x = sym is ∙ ok in let same : y ≡ x = cc in ap Ok same
mapped-ok become (Err e) answer x is ok = let p = err_from_is_err_and answer is in let never : Err p.0 ≡ Ok x = sym p.1 ∙ ok in absurd (cc)

pub mapped-err : {T E D : Type 0} (become : E → D) (held : Result T E) (answer : Result T D) (d : D) → IsMapped become held answer → answer ≡ Err d
    → (e : E) × (held ≡ Err e) × (d ≡ become e)
mapped-err become (Ok y) answer d is err = let never : Ok y ≡ Err d = sym is ∙ err in absurd (cc)
mapped-err become (Err e) answer d is err =
    let p = err_from_is_err_and answer is in
    let both : Err d ≡ Err p.0 = sym err ∙ p.1 in
    let same : d ≡ p.0 = cc in
    (e, refl, same ∙ p.2)

pub mapped-each : {T E D : Type 0} (become : E → D) (P : T → Type 0) (held : Result T E) (answer : Result T D) → IsMapped become held answer → IfOk held P → IfOk answer P
mapped-each become P (Ok x) answer is here = subst (λ r. IfOk r P) (sym is) here
mapped-each become P (Err e) answer is here = let p = err_from_is_err_and answer is in subst (λ r. IfOk r P) (sym p.1) tt

-- the machine at a place is refused, and those before it mean machines
pub refused-at : (texts : List OrderedJson) (i : ℕ) (text : OrderedJson) (read : List Machine) (fault : MachineFault) → i < length texts → text ≡ get_or texts i text
    → AllZip MeansMachine (take i texts) read → IsAnsweredFault text fault → IsFirstRefused texts fault
refused-at texts i text read fault below is mean refused = record {
  earlier = take i texts;
  refused = text;
  later = drop (suc i) texts;
  texts_are = sym (take-append-drop i texts)
      ∙ ap (λ l. take i texts ++ l) (drop-cons texts i text below)
      ∙ ap (λ t. take i texts ++ t ∷ drop (suc i) texts) (sym is);
  read = read;
  earlier_mean = mean;
  is_refused = refused;
}

module _ (text : List ℕ) where
  pub json-refused : (fault : JsonFault) → HasFault text fault → IsDefsReading text (Err (fault_in.Json fault))
  json-refused (json_fault.Syntax place) has = no_json (json_fault.Syntax place) has (λ e. cc)
  json-refused (json_fault.DoubleKey place) has = no_json (json_fault.DoubleKey place) has (λ e. cc)
  json-refused (json_fault.Fraction place) has = no_json (json_fault.Fraction place) has (λ e. cc)
  json-refused (json_fault.Range place) has = no_json (json_fault.Range place) has (λ e. cc)
  json-refused (json_fault.TooDeep place) has = no_json (json_fault.TooDeep place) has (λ e. cc)
  json-refused json_fault.TooLong has = no_json json_fault.TooLong has (λ e. cc)
  json-refused json_fault.Memory has = tt

  module _ (texts : List OrderedJson) (implementations : OrderedJson) (outer : IsOuterText text texts implementations) where
    pub machine-refused : (fault : MachineFault) → (fault ≢ machine_fault.Memory → IsFirstRefused texts fault) → IsDefsReading text (Err (fault_in.Machine fault))
    machine-refused (machine_fault.UnknownField place) first = a_machine texts implementations (machine_fault.UnknownField place) outer (first (λ e. cc))
    machine-refused (machine_fault.BadKind place) first = a_machine texts implementations (machine_fault.BadKind place) outer (first (λ e. cc))
    machine-refused (machine_fault.NoInitial place) first = a_machine texts implementations (machine_fault.NoInitial place) outer (first (λ e. cc))
    machine-refused (machine_fault.EmptyStates place) first = a_machine texts implementations (machine_fault.EmptyStates place) outer (first (λ e. cc))
    machine-refused (machine_fault.TooMany place) first = a_machine texts implementations (machine_fault.TooMany place) outer (first (λ e. cc))
    machine-refused (machine_fault.DoubleId place) first = a_machine texts implementations (machine_fault.DoubleId place) outer (first (λ e. cc))
    machine-refused (machine_fault.NoTarget place) first = a_machine texts implementations (machine_fault.NoTarget place) outer (first (λ e. cc))
    machine-refused (machine_fault.Clash place) first = a_machine texts implementations (machine_fault.Clash place) outer (first (λ e. cc))
    machine-refused machine_fault.Memory first = tt

    module _ (machines : List Machine) (mean : AllZip MeansMachine texts machines) where
      pub table-refused : (fault : TableFault) → IsTableReading implementations (Err fault) → IsDefsReading text (Err (fault_in.Table fault))
      table-refused (table_fault.UnknownForm place) least = the_table texts implementations machines place outer mean least
      table-refused (table_fault.Unnamed place) never = absurd never
      table-refused (table_fault.Twice place) never = absurd never
      table-refused table_fault.Memory any = tt

      module _ (table : Table) (table-means : IsTableOf implementations table) where
        pub link-refused : (fault : TableFault) → IsLinkReading machines table (Err fault) → IsDefsReading text (Err (fault_in.Table fault))
        link-refused (table_fault.UnknownForm place) never = absurd never
        link-refused (table_fault.Unnamed place) is = linking texts implementations machines table (table_fault.Unnamed place) outer mean table-means is (λ e. cc)
        link-refused (table_fault.Twice place) is = linking texts implementations machines table (table_fault.Twice place) outer mean table-means is (λ e. cc)
        link-refused table_fault.Memory any = tt

        pub defs-read : (defs : Defs) → IsLinkReading machines table (Ok defs) → IsDefsReading text (Ok defs)
        defs-read defs is = record {
          texts = texts;
          implementations = implementations;
          outer = outer;
          machines = machines;
          machines_mean = mean;
          table = table;
          table_means = table-means;
          linked = is;
        }

        pub linked-reading : (held : Result Defs TableFault) (answer : Result Defs DefsFault) → IsMapped fault_in.Table held answer → IsLinkReading machines table held → IsDefsReading text answer
        linked-reading (Ok defs) answer is reading = subst (IsDefsReading text) (sym is) (defs-read defs reading)
        linked-reading (Err fault) answer is reading =
            let p = err_from_is_err_and answer is in
            subst (IsDefsReading text) (sym (p.1 ∙ ap Err p.2)) (link-refused fault reading)
