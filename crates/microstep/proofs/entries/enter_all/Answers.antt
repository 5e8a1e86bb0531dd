use Rattle.std.proofs.Common.{◌≡◌, ◌+◌, ℕ, Err, Ok, arith, rules}
use Rattle.office_types.specs.declared.outcome.FaultName.{FaultName}
use Rattle.microstep.specs.declared.micro.StepFault.TheVariants.{Fault}
use Rattle.microstep.specs.Working.{AreActsOf, IsActiveUpTo, IsGivenBy}
use Rattle.microstep.proofs.EntryLemmas.{AreEntriesOf, entered-all, entered-fault, entered-more, entered-start, entries-each, entry-given}
use Rattle.microstep.proofs.entries.enter_all.Goals as goal

pub loop-i-init : goal.loop-i-init
loop-i-init c =
    entered-start (λ (n : ℕ). AreActsOf c.args.def.now (IsActiveUpTo c.args.configuration.now c.args.entered.now n) n) c.args.event.now c.args.progress.now c.args.entered.now

pub returns-in_err-enter_one : goal.returns-in_err-enter_one
returns-in_err-enter_one c =
    let def = c.args.def.now in
    let configuration = c.args.configuration.now in
    let entered = c.args.entered.now in
    let within = c.loop-i-test.true in
    let Entry = λ (n : ℕ). AreActsOf def (IsActiveUpTo configuration entered n) n in
    let known : (name : FaultName) → c.in_err-enter_one.field-0.0 ≡ Fault name → IsGivenBy (AreEntriesOf Entry entered) c.args.event.now c.args.progress.now (Err name) =
    λ name is. entered-fault Entry c.args.event.now c.args.progress.now name entered (c.loop-i.i + 1) (omega arith)
    (λ k inside. entries-each def c.len-nodes.ensures.tree c.requires.statechart configuration entered c.requires.configuration.legal c.requires.entered c.requires.active k inside)
    (entered-more Entry c.args.event.now c.args.progress.now (Err name) entered c.loop-i.i c.loop-i.progress (omega arith) c.loop-i.invariant
    (entry-given def configuration entered c.loop-i.i c.args.event.now c.loop-i.progress (Err name) c.requires.entered (omega arith) (c.in_err-enter_one.ensures name is))) in
    search (rules, known)

pub loop-i-preserved : goal.loop-i-preserved
loop-i-preserved c =
    let def = c.args.def.now in
    let configuration = c.args.configuration.now in
    let entered = c.args.entered.now in
    let within = c.loop-i-test.true in
    entered-more (λ (n : ℕ). AreActsOf def (IsActiveUpTo configuration entered n) n) c.args.event.now c.args.progress.now (Ok c.enter_one.new.progress) entered c.loop-i.i c.loop-i.progress (omega arith) c.loop-i.invariant
    (entry-given def configuration entered c.loop-i.i c.args.event.now c.loop-i.progress (Ok c.enter_one.new.progress) c.requires.entered (omega arith) c.in_ok-enter_one.ensures)

pub returns : goal.returns
returns c =
    entered-all (λ (n : ℕ). AreActsOf c.args.def.now (IsActiveUpTo c.args.configuration.now c.args.entered.now n) n) c.args.event.now c.args.progress.now (Ok c.loop-i.progress) c.args.entered.now c.loop-i.i
    (let past = c.loop-i-test.false in omega arith) c.loop-i.invariant
