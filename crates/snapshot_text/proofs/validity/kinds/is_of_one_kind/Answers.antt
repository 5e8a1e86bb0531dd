use Rattle.snapshot_text.proofs.validity.kinds.is_of_one_kind.Goals as goal

pub returns-in-Some-None : goal.returns-in-Some-None
returns-in-Some-None c = rw (c.in-Some-None.is-0, c.in-Some-None.is-1) c.is_machine_actor.ensures
