use Rattle.std.proofs.Common.{◌≡◌, ◌+◌, List, ℕ, length, take, drop, subst, sym, rules}
use Rattle.std.proofs.lemmas.Grind.{common_steps}
use Rattle.std.proofs.Common.{arith}
use Rattle.gate_journal.proofs.WindowLemmas.{shown_skipped}
use Rattle.gate_journal.proofs.window.Window.skip.Goals as goal

pub returns-clause-shows : goal.returns-clause-shows
returns-clause-shows c text shows =
    let is : c.truncate.new.self.items ≡ drop c.args.count c.args.self.now.bytes.items = first_of (search rules, grind (arith, common_steps)) in record {
      whole = shows.whole;
      bytes = subst (λ (l : List ℕ). l ≡ take (length l) (drop (c.args.self.now.place + c.args.count) text)) (sym is) (shown_skipped text c.args.self.now.bytes.items c.args.self.now.place c.args.count shows.bytes c.requires);
    }
