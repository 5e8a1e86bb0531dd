use Rattle.std.proofs.Common.{◌≡◌, ap, arith, refl, ℕ}
use Rattle.std.specs.BTreeSet.{contains}
use Rattle.std.specs.Option.{option_map}
use Rattle.std.specs.Ordering.{nat_cmp}
use Rattle.office_types.specs.Records.{is_active}
use Rattle.actor_tree.specs.Noted.{kin_of, without_record}
use Rattle.actor_tree.specs.Notes.{AreLettersNoted, noted}
use Rattle.actor_tree.proofs.FaceLemmas.{actors_rise, record_number}
use Rattle.actor_tree.proofs.NoteListLemmas.{count_without}
use Rattle.actor_tree.proofs.NotedKidLemmas.{kids_kept, kin_dropped}
use Rattle.actor_tree.proofs.NotedLookLemmas.{gone_more, letters_split}
use Rattle.actor_tree.proofs.NotedRecordLemmas.{records_dropped}
use Rattle.actor_tree.proofs.NotedTimerLemmas.{dropped_length, names_dropped, timers_dropped}
use Rattle.actor_tree.proofs.notes.Notes.drop_actor.Goals as goal

pub letters_of-letters-requires : goal.letters_of-letters-requires
letters_of-letters-requires c =
    let is = c.requires.noted.1 in
    (c.requires.noted.0.actors, record { records = is.records; waiting = is.counts.waiting; fits = is.counts.fits })

pub overflow_sub-self : goal.overflow_sub-self
overflow_sub-self c =
    let office = c.requires.noted.0 in
    let is = c.requires.noted.1 in
    let letters : AreLettersNoted c.args.held.now.office c.args.actor c.args.self.now office.actors = record { records = is.records; waiting = is.counts.waiting; fits = is.counts.fits } in
    let all = letters_split c.args.held.now.office c.args.actor (noted c.args.self.now) office.actors is.records c.args.number in
    omega (arith, all, is.counts.waiting, c.letters_of-letters.ensures office.actors letters)

pub overflow_sub-self-2 : goal.overflow_sub-self-2
overflow_sub-self-2 c =
    let office = c.requires.noted.0 in
    let is = c.requires.noted.1 in
    let running = count_without record_number is_active c.args.number office.actors (actors_rise c.args.held.now.office c.args.actor (noted c.args.self.now) office.actors is.records) in
    omega (arith, running, is.counts.active, c.count_active-active.ensures c.args.actor office is)

pub overflow_sub-self-3 : goal.overflow_sub-self-3
overflow_sub-self-3 c =
    let office = c.requires.noted.0 in
    let is = c.requires.noted.1 in
    let standing = dropped_length c.args.number office.timers in
    omega (arith, standing, is.counts.standing, c.timers_of-timers.ensures c.args.actor office (λ e. omega (arith, c.requires.after)) is)

pub returns-clause-noted : goal.returns-clause-noted
returns-clause-noted c = λ office is.
    let before = c.args.held.now.office in
    let old = noted c.args.self.now in
    let letters : AreLettersNoted before c.args.actor c.args.self.now office.actors = record { records = is.records; waiting = is.counts.waiting; fits = is.counts.fits } in
    let gone = gone_more (contains nat_cmp c.insert.new.self) (contains nat_cmp c.args.self.now.gone) c.args.number c.in_ok-insert.ensures.updates.0 in
    let all = letters_split before c.args.actor old office.actors is.records c.args.number in
    let running = count_without record_number is_active c.args.number office.actors (actors_rise before c.args.actor old office.actors is.records) in
    let standing = dropped_length c.args.number office.timers in
    record {
      records = records_dropped before c.args.actor old _ c.args.number office.actors is.records refl (λ m. refl) gone;
      kids = kids_kept before c.args.actor old _ office.actors (without_record c.args.number office.actors) is.kids (omega arith) (λ id. refl)
          (λ m less. ap (option_map kin_of) (kin_dropped c.args.number office.actors m (λ e. omega (arith, c.requires.after))));
      timers = timers_dropped before c.args.actor old _ office.timers is.timers c.args.number (λ e. omega (arith, c.requires.after)) (λ id. refl) gone;
      names = names_dropped before old _ office.names is.names c.args.number refl c.free.ensures.names gone;
      counts = record {
        moment = is.counts.moment;
        next_actor = is.counts.next_actor;
        next_letter = is.counts.next_letter;
        next_timer = is.counts.next_timer;
        active = omega (arith, running, is.counts.active, c.count_active-active.ensures c.args.actor office is);
        waiting = omega (arith, all, is.counts.waiting, c.letters_of-letters.ensures office.actors letters);
        standing = omega (arith, standing, is.counts.standing, c.timers_of-timers.ensures c.args.actor office (λ e. omega (arith, c.requires.after)) is);
        fits = omega (arith, is.counts.fits);
      };
      next = is.next;
      moment = is.moment;
      few = is.few;
    }
