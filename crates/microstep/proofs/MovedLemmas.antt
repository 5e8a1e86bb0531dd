-- Where a move leads: to a legal configuration, with a history that fits.
use Rattle.std.proofs.Common.{◌≡◌, ℕ, suc, Bool, cond, List, [], ◌∷◌, length, get_or, Option, Some, None, refl, sym, ap, subst, arith, inl, inr, ◌∙◌}
use Rattle.std.specs.Prelude.{slice_get}
use Rattle.std.specs.List.{All, AllPairs, Contains, filter_map}
use Rattle.std.specs.Option.{option_and_then}
use Rattle.std.proofs.lemmas.List.Elements.{All-contains, Contains-get_or}
use Rattle.std.proofs.lemmas.List.Kept.{AllPairs-cons}
use Rattle.node_tree.specs.Kinds.{Nodes}
use Rattle.node_tree.specs.Nodes.{IsTree}
use Rattle.step_sets.specs.declared.types.Domain.{Domain}
use Rattle.step_sets.specs.declared.types.Domain.TheVariants.{Whole}
use Rattle.step_sets.specs.Configuration.{IsLegal}
use Rattle.step_sets.specs.Domains.{Arrow, IsDomain}
use Rattle.step_sets.specs.Entries.{IsEntered}
use Rattle.step_sets.specs.Exits.{IsExited}
use Rattle.step_sets.specs.Goals.{goals_of}
use Rattle.step_sets.specs.Laws.{IsEnabled, IsNextConfiguration, LeaveApart, TakenStep, TakenTransition}
use Rattle.step_sets.specs.Statechart.{DoNotClash, IsFitHistory, IsStatechart}
use Rattle.step_sets.proofs.EnteredLemmas.{entered_under}
use Rattle.step_sets.proofs.LawLemmas.{stays_fit}
use Rattle.step_sets.proofs.ListLemmas.{Contains-cons_cases, Contains-here, Contains-there}
use Rattle.step_sets.proofs.NextLemmas.{first_is_legal, next_is_legal}
use Rattle.guard_eval.specs.declared.def.Def.{Def}
use Rattle.guard_eval.specs.declared.def.NodeDef.{NodeDef}
use Rattle.guard_eval.specs.declared.transition.Transition.{Transition}
use Rattle.guard_eval.specs.Definitions.{EachTransition, IsWellFormed, transitions_of}
use Rattle.guard_eval.proofs.LawLemmas.{is_statechart}
use Rattle.office_types.specs.declared.outcome.Own.{Own}
use Rattle.office_types.specs.OwnParts.{HasBegun, IsConfiguration, IsRecordedHistory}
use Rattle.microstep.specs.declared.micro.Picked.{Picked}
use Rattle.microstep.specs.declared.moves.Move.{Move}
use Rattle.microstep.specs.Micro.{IsFirstMove, IsMove}
use Rattle.microstep.specs.Selection.{MovesIn, Place, arrow_of, transition_at}
use Rattle.microstep.specs.Taking.{CanBeTaken, IsLeftFrom, transitions_at}
use Rattle.microstep.proofs.DomainLemmas.{domain-there}
use Rattle.microstep.proofs.ExitLemmas.{listed, one-domain}

-- ---- the same nodes are legal

pub legal-along : (nodes : Nodes) (A B : ℕ → Type 0) → ((n : ℕ) → A n → B n) → ((n : ℕ) → B n → A n) → IsLegal nodes A → IsLegal nodes B
legal-along nodes A B to back legal = record {
  of_tree = λ n has. legal.of_tree n (back n has);
  root = to 0 legal.root;
  parents = λ n p c has. to p (legal.parents n p c (back n has));
  one_child = λ c start of has. let (only, child, in-a, unique) = legal.one_child c start of (back c has) in (only, child, to only in-a, λ n below in-b. unique n below (back n in-b));
  all_regions = λ p of has r c plain. to r (legal.all_regions p of (back p has) r c plain);
  no_history = λ n has. legal.no_history n (back n has);
}

-- ---- the transitions at places

some-same : {X : Type 0} (x y : X) (o : Option X) → o ≡ Some x → o ≡ Some y → x ≡ y
some-same x y o is-x is-y = let same : Some x ≡ Some y = sym is-x ∙ is-y in cc

pub in-filter_map : {X Y : Type 0} (find : X → Option Y) (xs : List X) (y : Y) → Contains (filter_map find xs) y → (x : X) × Contains xs x × (find x ≡ Some y)
in-filter_map find [] y (k, inside, is) = absurd (omega (arith, inside))
in-filter_map {X} {Y} find (x ∷ xs) y has = by_case (find x) refl (λ rest. let (z, in-z, is) = in-filter_map find xs y rest in (z, Contains-there z x xs in-z, is))
  where
    by_case : (o : Option Y) → find x ≡ o → (Contains (filter_map find xs) y → (z : X) × Contains (x ∷ xs) z × (find z ≡ Some y)) → (z : X) × Contains (x ∷ xs) z × (find z ≡ Some y)
    by_case None is later = later (rw is at has)
    by_case (Some w) is later =
        let here = rw is at has in
        elim (Contains-cons_cases y w (filter_map find xs) here) [
          | inl same ↦ (x, Contains-here x xs, is ∙ ap Some same)
          | inr rest ↦ later rest
        ]

pub onto-filter_map : {X Y : Type 0} (find : X → Option Y) (xs : List X) (x : X) (y : Y) → Contains xs x → find x ≡ Some y → Contains (filter_map find xs) y
onto-filter_map find [] x y (k, inside, is) at = absurd (omega (arith, inside))
onto-filter_map {X} {Y} find (z ∷ xs) x y has at =
    elim (Contains-cons_cases x z xs has) [
      | inl same ↦ (let here : find z ≡ Some y = ap find same ∙ at in rw here (Contains-here y (filter_map find xs)))
      | inr rest ↦ by_case (find z) refl (onto-filter_map find xs x y rest at)
    ]
  where
    by_case : (o : Option Y) → find z ≡ o → Contains (filter_map find xs) y → Contains (filter_map find (z ∷ xs)) y
    by_case None is rest = rw is rest
    by_case (Some w) is rest = rw is (Contains-there y w (filter_map find xs) rest)

-- what holds of each transition of a definition
each-at : (IsSo : ℕ → Transition → Type 0) (def : Def) → EachTransition def IsSo → (eventless : Bool) (place : Place) (transition : Transition) → transition_at def eventless place ≡ Some transition → IsSo place.0 transition
each-at IsSo def each eventless place transition at = by_node (slice_get def.nodes place.0) refl at
  where
    by_node : (o : Option NodeDef) → slice_get def.nodes place.0 ≡ o
        → option_and_then (λ (node : NodeDef). slice_get (cond eventless node.always node.transitions) place.1) o ≡ Some transition → IsSo place.0 transition
    by_node None is in-node = absurd cc
    by_node (Some node) is in-node = All-contains (IsSo place.0) (transitions_of node) transition (each place.0 node is) (listed node eventless place.1 transition in-node)

-- ---- the transitions that move, each with its domain

-- the transition at the place moves in this domain
abbrev MovesAt : Def → Picked → Place → TakenTransition → Type 0
MovesAt def picked place taken =
    (transition : Transition) × (transition_at def picked.eventless place ≡ Some transition) × (taken.arrow ≡ arrow_of transition) × MovesIn def transition taken.domain

record IsTakenList (def : Def) (own : Own) (picked : Picked) (places : List Place) (taken : List TakenTransition) : Type 0 where
  pub from : (one : TakenTransition) → Contains taken one → (place : Place) × Contains places place × MovesAt def picked place one
  pub onto : (place : Place) (transition : Transition) (domain : Domain) → Contains places place → transition_at def picked.eventless place ≡ Some transition → MovesIn def transition domain
      → Contains taken (record { arrow = arrow_of transition; domain = domain })
  pub apart : AllPairs (LeaveApart def.tree own.nodes) taken

module _ (def : Def) (tree : IsTree def.tree) (own : Own) (picked : Picked) where
  abbrev InRange : Place → Type 0
  InRange place = (transition : Transition) × (transition_at def picked.eventless place ≡ Some transition)

  abbrev Apart : Place → Place → Type 0
  Apart a b = (n : ℕ) → IsLeftFrom def own picked a n → ¬ IsLeftFrom def own picked b n

  left-from : (place : Place) (one : TakenTransition) (n : ℕ) → MovesAt def picked place one → IsExited def.tree own.nodes one.domain n → IsLeftFrom def own picked place n
  left-from place one n (transition, at, is, moves) exited = (transition, at, (transition, Contains-here transition [], (one.domain, moves, exited)))

  module _ (place : Place) (places : List Place) (transition : Transition) (at : transition_at def picked.eventless place ≡ Some transition) (taken : List TakenTransition) (rest : IsTakenList def own picked places taken) where
    skipped : length transition.targets ≡ 0 → IsTakenList def own picked (place ∷ places) taken
    skipped still = record {
      from = λ one has. let (other, in-other, moves) = rest.from one has in (other, Contains-there other place places in-other, moves);
      onto = λ other t domain has found-t moves. elim (Contains-cons_cases other place places has) [
        | inl same ↦
            (let here : transition_at def picked.eventless place ≡ Some t = ap (transition_at def picked.eventless) same ∙ found-t in
            let one : t ≡ transition = some-same t transition (transition_at def picked.eventless place) here at in
            let (k, inside, is) = moves.has_target in
            let long : length t.targets ≡ length transition.targets = ap (λ (x : Transition). length x.targets) one in
            absurd (omega (arith, inside, long, still)))
        | inr later ↦ rest.onto other t domain later found-t moves
      ];
      apart = rest.apart;
    }

    taken-too : (domain : Domain) → MovesIn def transition domain → ((other : Place) → Contains places other → Apart place other)
        → IsTakenList def own picked (place ∷ places) (record { arrow = arrow_of transition; domain = domain } ∷ taken)
    taken-too domain moves-in others = record {
      from = λ one has. elim (Contains-cons_cases one first taken has) [
        | inl same ↦ (let P : TakenTransition → Type 0 = λ k. (other : Place) × Contains (place ∷ places) other × MovesAt def picked other k in
            subst P same (place, Contains-here place places, (transition, at, refl, moves-in)))
        | inr later ↦ (let (other, in-other, moves) = rest.from one later in (other, Contains-there other place places in-other, moves))
      ];
      onto = λ other t d has found-t moves. elim (Contains-cons_cases other place places has) [
        | inl same ↦
            (let here : transition_at def picked.eventless place ≡ Some t = ap (transition_at def picked.eventless) same ∙ found-t in
            let one : transition ≡ t = some-same transition t (transition_at def picked.eventless place) at here in
            let P : Transition → Type 0 = λ x. MovesIn def x d → Contains (first ∷ taken) (record { arrow = arrow_of x; domain = d }) in
            subst P one
            (λ also.
            let Q : Domain → Type 0 = λ e. Contains (first ∷ taken) (record { arrow = arrow_of transition; domain = e }) in
            subst Q (one-domain def.tree tree (arrow_of transition) domain d moves-in.domain_of also.domain_of) (Contains-here first taken))
            moves)
        | inr later ↦ Contains-there _ first taken (rest.onto other t d later found-t moves)
      ];
      apart = AllPairs-cons (LeaveApart def.tree own.nodes) first taken
          (λ k d inside n exited exited-too.
          let (other, in-other, moves) = rest.from (get_or taken k d) (Contains-get_or taken k d inside) in
          others other in-other n (left-from place first n (transition, at, refl, moves-in) exited) (left-from other (get_or taken k d) n moves exited-too))
          rest.apart;
    }
      where
        first : TakenTransition
        first = record { arrow = arrow_of transition; domain = domain }

    taken-by : ((other : Place) → Contains places other → Apart place other) → (targets : List ℕ) → transition.targets ≡ targets → (all : List TakenTransition) × IsTakenList def own picked (place ∷ places) all
    taken-by others [] is = (taken, skipped (ap length is))
    taken-by others (target ∷ targets) is =
        let (domain, of) = domain-there def.tree tree (arrow_of transition) in
        let P : List ℕ → Type 0 = λ xs. Contains xs target in
        (record { arrow = arrow_of transition; domain = domain } ∷ taken, taken-too domain (record { target = target; has_target = subst P (sym is) (Contains-here target targets); domain_of = of }) others)

  taken-list : (places : List Place) → All InRange places → AllPairs Apart places → (taken : List TakenTransition) × IsTakenList def own picked places taken
  taken-list [] in-range apart = (
    [],
    record {
      from = λ one (k, inside, is). absurd (omega (arith, inside));
      onto = λ place transition domain (k, inside, is). absurd (omega (arith, inside));
      apart = λ i j d less inside. absurd (omega (arith, inside));
    },
  )
  taken-list (place ∷ places) in-range apart =
      let (transition, at) = in-range 0 place (omega arith) in
      let (taken, rest) = taken-list places (λ k d inside. in-range (suc k) d (omega (arith, inside))) (λ i j d less inside. apart (suc i) (suc j) d (omega (arith, less)) (omega (arith, inside))) in
      taken-by place places transition at taken rest
      (λ other (k, inside, is).
      let pair = apart 0 (suc k) other (omega arith) (omega (arith, inside)) in
      let P : Place → Type 0 = λ x. Apart place x in
      subst P is pair)
      transition.targets refl

-- ---- the move

module _ (actors : ℕ) (def : Def) (tree : IsTree def.tree) (formed : IsWellFormed actors def) (own : Own) (begun : HasBegun def.tree own) (picked : Picked) (can : CanBeTaken def own picked) (move : Move) (moves : IsMove def own (transitions_at def picked) move) where
  chart : IsStatechart def.tree
  chart = is_statechart actors def formed

  pub fit-after : IsFitHistory def.tree move.history
  fit-after = stays_fit def.tree (record { active = own.nodes; exits = move.left; recorded = own.history }) move.history moves.history begun.configuration.legal
      (λ k d inside. let (t, has, (domain, in-domain, exited)) = (moves.left.exact (get_or move.left k d)).0 (Contains-get_or move.left k d inside) in exited.0)
      begun.history.fit

  pub history-after : IsRecordedHistory def.tree move.history
  history-after = record { in_order = moves.history.in_order; fit = fit-after }

  -- what is entered wasn't active, or is left
  pub entered-left : (n : ℕ) → Contains own.nodes n → Contains move.entered n → Contains move.left n
  entered-left n active entered =
      let (t, has, (domain, in-domain, e)) = (moves.entered.exact n).0 entered in
      (moves.left.exact n).1 (t, has, (domain, in-domain, (active, entered_under def.tree tree chart (goals_of def.tree move.history t.targets) domain n e)))

  module _ (taken : List TakenTransition) (all : IsTakenList def own picked picked.taken taken) where
    abbrev step : TakenStep
    step = record { active = own.nodes; history = move.history; transitions = taken }

    enabled-at : (one : TakenTransition) → Contains taken one → IsEnabled def.tree own.nodes one
    enabled-at one has =
        let (place, in-place, (t, at, is, in-domain)) = all.from one has in
        let source : t.source ≡ place.0 = each-at (λ n x. x.source ≡ n) def formed.sources picked.eventless place t at in
        let clash : DoNotClash def.tree t.targets = each-at (λ n x. DoNotClash def.tree x.targets) def formed.targets picked.eventless place t at in
        let active : Contains own.nodes place.0 = All-contains (λ (x : Place). Contains own.nodes x.0) picked.taken place can.active in-place in
        let P : ℕ → Type 0 = λ n. Contains own.nodes n in
        let Q : Arrow → Type 0 = λ arrow. Contains own.nodes arrow.source in
        let R : Arrow → Type 0 = λ arrow. IsDomain def.tree arrow one.domain in
        let S : Arrow → Type 0 = λ arrow. DoNotClash def.tree arrow.targets in
        record { source = subst Q (sym is) (subst P (sym source) active); domain = subst R (sym is) in-domain.domain_of; targets = subst S (sym is) clash }

    next-legal : IsLegal def.tree (IsNextConfiguration def.tree step)
    next-legal = next_is_legal def.tree tree chart own.nodes begun.configuration.legal move.history taken fit-after
        (λ k d inside. enabled-at (get_or taken k d) (Contains-get_or taken k d inside)) all.apart

    leads : (n : ℕ) → IsNextConfiguration def.tree step n → Contains move.configuration n
    leads n (inl (has, out)) = (moves.configuration.exact n).1 (inl (
      has,
      λ left.
          let (t, in-t, (domain, in-domain, exited)) = (moves.left.exact n).0 left in
          let (place, in-place, at) = in-filter_map (transition_at def picked.eventless) picked.taken t in-t in
          out (record { arrow = arrow_of t; domain = domain }) (all.onto place t domain in-place at in-domain) exited,
    ))
    leads n (inr (one, in-one, e)) =
        let (place, in-place, (t, at, is, in-domain)) = all.from one in-one in
        let P : Arrow → Type 0 = λ arrow. IsEntered def.tree (goals_of def.tree move.history arrow.targets) one.domain n in
        (moves.configuration.exact n).1
        (inr ((moves.entered.exact n).1 (t, onto-filter_map (transition_at def picked.eventless) picked.taken place t in-place at, (one.domain, in-domain, subst P is e))))

    led : (n : ℕ) → Contains move.configuration n → IsNextConfiguration def.tree step n
    led n has =
        elim ((moves.configuration.exact n).0 has) [
          | inl (active, out) ↦ inl (
            active,
            λ one in-one exited.
                let (place, in-place, (t, at, is, in-domain)) = all.from one in-one in
                out ((moves.left.exact n).1 (t, onto-filter_map (transition_at def picked.eventless) picked.taken place t in-place at, (one.domain, in-domain, exited))),
          )
          | inr entered ↦
              (let (t, in-t, (domain, in-domain, e)) = (moves.entered.exact n).0 entered in
              let (place, in-place, at) = in-filter_map (transition_at def picked.eventless) picked.taken t in-t in
              inr (record { arrow = arrow_of t; domain = domain }, all.onto place t domain in-place at in-domain, e))
        ]

  pub configuration-after : IsConfiguration def.tree move.configuration
  configuration-after =
      let (taken, all) = taken-list def tree own picked picked.taken can.in_range can.apart in
      record {
        in_order = moves.configuration.in_order;
        legal = legal-along def.tree (IsNextConfiguration def.tree (step taken all)) (Contains move.configuration) (leads taken all) (led taken all) (next-legal taken all);
      }

-- ---- the first move

pub first-configuration : (actors : ℕ) (def : Def) → IsTree def.tree → IsWellFormed actors def → (move : Move) → IsFirstMove def move → IsConfiguration def.tree move.configuration
first-configuration actors def tree formed move moves =
    let chart = is_statechart actors def formed in
    let entered : IsConfiguration def.tree move.entered = record {
      in_order = moves.entered.in_order;
      legal = legal-along def.tree (IsEntered def.tree [] Whole) (Contains move.entered) (λ n e. (moves.entered.exact n).1 e) (λ n has. (moves.entered.exact n).0 has) (first_is_legal def.tree tree chart);
    } in
    let P : List ℕ → Type 0 = λ nodes. IsConfiguration def.tree nodes in
    subst P (sym moves.configuration) entered
