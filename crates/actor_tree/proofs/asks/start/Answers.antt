use Rattle.std.proofs.Common.{◌≡◌, ◌∙◌, None, Some, rules, sym}
use Rattle.office_types.specs.Definitions.{machine_named}
use Rattle.office_types.specs.declared.office.Origin.TheVariants as origin
use Rattle.action_table.specs.Definitions.{office_definitions}
use Rattle.actor_tree.proofs.FitLemmas.{start_fits}
use Rattle.actor_tree.proofs.GrantLemmas.{first_letter, made_machine, valid_next}
use Rattle.actor_tree.proofs.asks.start.Goals as goal

pub returns : goal.returns
returns c =
    let office = c.args.held.now.office in
    let named : machine_named (office_definitions c.args.defs.now) c.args.machine.now ≡ Some c.in-Some.number = sym (rw c.as_bytes.ensures at c.machine_named.ensures.number) ∙ c.in-Some.is in
    let made = rw (c.next_letter.ensures, c.in_ok-copy.ensures, c.in_ok-init_event.ensures, c.in_ok-copy-2.ensures, c.in_ok-copy_name.ensures) at (c.in_ok-made.ensures.made office.next_actor) in
    record {
      answer = record {
        unrefused = rw named (search rules);
        reply_is = search rules;
        change = rw (c.in_ok-one_part.ensures, named)
            (made_machine office c.in_ok-made.made (origin.Caller c.args.caller.now) None c.in-Some.number c.args.input.now c.args.system.now
            (valid_next (office_definitions c.args.defs.now) office c.requires.valid) made);
        fits = rw c.in_ok-one_part.ensures (start_fits office c.in_ok-made.made (first_letter office.next_letter (origin.Caller c.args.caller.now) c.args.input.now) c.in-Some.number c.args.system.now
            c.in_ok-made.ensures.complete made (search rules));
      };
    }
