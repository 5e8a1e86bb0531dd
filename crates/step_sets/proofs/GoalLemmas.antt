-- Where targets that do not clash lead under a history that fits.
use Rattle.std.proofs.Common.{◌≡◌, ◌∙◌, ◌⊎◌, ℕ, zero, suc, List, [], ◌∷◌, get_or, Option, Some, None, arith, inl, inr, sym, refl, subst}
use Rattle.std.specs.List.{Contains}
use Rattle.std.specs.Option.{IsSomeAnd, unwrap_or, option_or, option_to_list}
use Rattle.std.proofs.lemmas.Bool.{cases_lt}
use Rattle.node_tree.specs.declared.node.Kind.{Kind}
use Rattle.node_tree.specs.declared.node.Kind.TheVariants.{Atomic, Compound, Parallel, Final, Shallow, Deep}
use Rattle.node_tree.specs.declared.node.Node.{Node}
use Rattle.node_tree.specs.Nodes.{IsTree, IsBelow, IsChild, IsWithin, child, further, parent_of}
use Rattle.step_sets.specs.Configuration.{IsLegal}
use Rattle.step_sets.specs.Goals.{History, record_of, recorded_or, goals_at, goals_of}
use Rattle.node_tree.specs.Kinds.{kind_of, IsHistory, IsHistoryKind}
use Rattle.step_sets.specs.Statechart.{AreOrthogonal, CountsFor, DoNotClash, HasDefault, IsFitHistory, IsFitRecord, IsParentKind, IsStatechart}
use Rattle.step_sets.proofs.RememberedLemmas.{remembered_below}
use Rattle.step_sets.proofs.ListLemmas.{Contains-flat_map, Contains-cons_cases}
use Rattle.step_sets.proofs.TreeLemmas.{below_trans, below_within, child_towards, comparable, history_inside, path_child_unique, within_parent, within_trans}

-- a node of a kind that is no history kind is no history node
pub not_history_by_kind : (nodes : List Node) (n : ℕ) (kind : Kind) → kind_of nodes n ≡ Some kind → ¬ IsHistoryKind kind → ¬ IsHistory nodes n
not_history_by_kind nodes n kind of other h = other (rw of at h)

-- whether a node is a history node can be decided
decide_history_by : (nodes : List Node) (t : ℕ) (kind : Option Kind) → kind_of nodes t ≡ kind → IsHistory nodes t ⊎ ¬ IsHistory nodes t
decide_history_by nodes t None of = inr (λ h. let k = rw of at h in k)
decide_history_by nodes t (Some (Shallow default)) of = inl (rw of tt)
decide_history_by nodes t (Some (Deep default)) of = inl (rw of tt)
decide_history_by nodes t (Some Atomic) of = inr (λ h. let k = rw of at h in k)
decide_history_by nodes t (Some (Compound initial)) of = inr (λ h. let k = rw of at h in k)
decide_history_by nodes t (Some Parallel) of = inr (λ h. let k = rw of at h in k)
decide_history_by nodes t (Some Final) of = inr (λ h. let k = rw of at h in k)

pub decide_history : (nodes : List Node) (t : ℕ) → IsHistory nodes t ⊎ ¬ IsHistory nodes t
decide_history nodes t = decide_history_by nodes t (kind_of nodes t) refl

-- the kind of a history node
history_kind_by : (nodes : List Node) (h : ℕ) (kind : Option Kind) → kind_of nodes h ≡ kind → IsSomeAnd kind IsHistoryKind → (k : Kind) × (kind_of nodes h ≡ Some k) × IsHistoryKind k
history_kind_by nodes h None of history = absurd history
history_kind_by nodes h (Some k) of history = (k, of, history)

pub history_kind : (nodes : List Node) (h : ℕ) → IsHistory nodes h → (k : Kind) × (kind_of nodes h ≡ Some k) × IsHistoryKind k
history_kind nodes h history = history_kind_by nodes h (kind_of nodes h) refl history

-- a node with a child is no history node
pub parent_not_history : (nodes : List Node) → IsStatechart nodes → (n p : ℕ) → IsChild nodes n p → ¬ IsHistory nodes p
parent_not_history nodes chart n p c =
    let (kind, of, parental) = chart.parents n p c in
    not_history_by_kind nodes p kind of (other kind parental)
  where
    other : (kind : Kind) → IsParentKind kind → ¬ IsHistoryKind kind
    other (Compound initial) p h = h
    other Parallel p h = h
    other Atomic p h = p
    other Final p h = p
    other (Shallow default) p h = p
    other (Deep default) p h = p

-- what a target that counts as a node leads to: one goal within that node, or members of one legal configuration
-- that are within it
pub record LeadsOneWay (nodes : List Node) (goals : List ℕ) (top : ℕ) : Type 0 where
  pub within : (g : ℕ) → Contains goals g → IsWithin nodes g top
  pub plain : (g : ℕ) → Contains goals g → ¬ IsHistory nodes g
  pub together : (g h m n c initial : ℕ) → Contains goals g → Contains goals h → kind_of nodes c ≡ Some (Compound initial)
      → IsChild nodes m c → IsChild nodes n c → IsWithin nodes g m → IsWithin nodes h n → m ≡ n

module _ (nodes : List Node) (tree : IsTree nodes) (chart : IsStatechart nodes) where
  -- a legal configuration has each node above a member
  pub above_member : {Member : ℕ → Type 0} → IsLegal nodes Member → (l h : ℕ) → Member l → IsBelow nodes l h → Member h
  above_member {Member} legal l h member (child low high c) = legal.parents low high c member
  above_member {Member} legal l h member (further low parent high c b) = above_member legal parent high (legal.parents low parent c member) b

  within_member : {Member : ℕ → Type 0} → IsLegal nodes Member → (l h : ℕ) → Member l → IsWithin nodes l h → Member h
  within_member {Member} legal l h member (inl e) = let P : ℕ → Type 0 = λ x. Member x in subst P e member
  within_member {Member} legal l h member (inr b) = above_member legal l h member b

  -- one goal
  one_goal : (goal top : ℕ) → IsWithin nodes goal top → ¬ IsHistory nodes goal → LeadsOneWay nodes (goal ∷ []) top
  one_goal goal top w plain = record {
    within = λ g has. (let P : ℕ → Type 0 = λ x. IsWithin nodes x top in subst P (only g has) w);
    plain = λ g has. (let P : ℕ → Type 0 = λ x. ¬ IsHistory nodes x in subst P (only g has) plain);
    together = λ g h m n c initial has-g has-h of cm cn gm hn.
        path_child_unique nodes tree goal m n c cm cn (let P : ℕ → Type 0 = λ x. IsWithin nodes x m in subst P (sym (only g has-g)) gm) (let P : ℕ → Type 0 = λ x. IsWithin nodes x n in subst P (sym (only h has-h)) hn);
  }
    where
      only : (g : ℕ) → Contains (goal ∷ []) g → goal ≡ g
      only g has = elim (Contains-cons_cases g goal [] has) [ inl e ↦ e | inr none ↦ absurd (let (k, h, e) = none in omega arith) ]

  -- members of a legal configuration below a node
  members_goals : {Member : ℕ → Type 0} (goals : List ℕ) (top : ℕ) → IsLegal nodes Member → ((g : ℕ) → Contains goals g → Member g × IsWithin nodes g top) → LeadsOneWay nodes goals top
  members_goals {Member} goals top legal are = record {
    within = λ g has. (are g has).1;
    plain = λ g has. legal.no_history g (are g has).0;
    together = λ g h m n c initial has-g has-h of cm cn gm hn.
        let member-m = within_member legal g m (are g has-g).0 gm in
        let member-n = within_member legal h n (are h has-h).0 hn in
        let (only, co, o, unique) = legal.one_child c initial of (legal.parents m c cm member-m) in
        unique m cm member-m ∙ sym (unique n cn member-n);
  }

  -- no goal
  no_goals : (top : ℕ) → LeadsOneWay nodes [] top
  no_goals top = record {
    within = λ g has. absurd (let (k, h, e) = has in omega arith);
    plain = λ g has. absurd (let (k, h, e) = has in omega arith);
    together = λ g h m n c initial has-g has-h of cm cn gm hn. absurd (let (k, h', e) = has-g in omega arith);
  }

  -- a record of a history node leads below the node's parent
  record_leads : (h top : ℕ) (list : List ℕ) → IsChild nodes h top → IsFitRecord nodes h list → LeadsOneWay nodes list top
  record_leads h top list c fit =
      members_goals list top fit.legal
      (λ g has-g. let r = (fit.remembered.exact g).0 has-g in (r.0, inr (remembered_below nodes h top c g r.1)))

  -- with nothing recorded a history node leads to its default or its parent
  default_leads : (h top : ℕ) (kind : Kind) (default : Option ℕ) → kind_of nodes h ≡ Some kind → ((d : ℕ) → default ≡ Some d → HasDefault kind d) → IsChild nodes h top
      → LeadsOneWay nodes (option_to_list (option_or default (parent_of nodes h))) top
  default_leads h top kind None of has c =
      rw c (one_goal top top (inl refl) (parent_not_history nodes chart h top c))
  default_leads h top kind (Some d) of has c =
      let (below, plain) = chart.defaults h d top kind of (has d refl) c in
      one_goal d top (inr below) plain

  recorded_leads : (h top : ℕ) (recorded others : List ℕ) → LeadsOneWay nodes recorded top → LeadsOneWay nodes others top → LeadsOneWay nodes (recorded_or recorded others) top
  recorded_leads h top [] others r o = o
  recorded_leads h top (g ∷ rest) others r o = r

  unwrapped_leads : (history : History) (h top : ℕ) (record' : Option (List ℕ)) → record_of history h ≡ record' → IsFitHistory nodes history → IsChild nodes h top → LeadsOneWay nodes (unwrap_or record' []) top
  unwrapped_leads history h top None is fit c = no_goals top
  unwrapped_leads history h top (Some list) is fit c = record_leads h top list c (fit h list is)

  history_leads : (history : History) (h top : ℕ) (kind : Kind) (default : Option ℕ) → kind_of nodes h ≡ Some kind → ((d : ℕ) → default ≡ Some d → HasDefault kind d) → IsFitHistory nodes history → IsChild nodes h top
      → LeadsOneWay nodes (recorded_or (unwrap_or (record_of history h) []) (option_to_list (option_or default (parent_of nodes h)))) top
  history_leads history h top kind default of has fit c =
      recorded_leads h top (unwrap_or (record_of history h) []) (option_to_list (option_or default (parent_of nodes h)))
      (unwrapped_leads history h top (record_of history h) refl fit c)
      (default_leads h top kind default of has c)

  -- a target that is no history node leads to itself
  plain_leads : (t top : ℕ) (kind : Kind) → kind_of nodes t ≡ Some kind → ¬ IsHistoryKind kind → CountsFor nodes t top → LeadsOneWay nodes (t ∷ []) top
  plain_leads t top kind of other (inl (e, plain)) = one_goal t top (inl e) plain
  plain_leads t top kind of other (inr (history, c)) = absurd (not_history_by_kind nodes t kind of other history)

  counts_by_history : (t top : ℕ) (kind : Kind) → kind_of nodes t ≡ Some kind → IsHistoryKind kind → CountsFor nodes t top → IsChild nodes t top
  counts_by_history t top kind of history (inl (e, plain)) = absurd (plain (rw of history))
  counts_by_history t top kind of history (inr (h, c)) = c

  -- where one target leads
  target_leads_by : (history : History) (t top : ℕ) (kind : Option Kind) → kind_of nodes t ≡ kind → IsFitHistory nodes history → CountsFor nodes t top → LeadsOneWay nodes (goals_at nodes history kind t) top
  target_leads_by history t top None of fit counts = no_goals top
  target_leads_by history t top (Some (Shallow default)) of fit counts =
      history_leads history t top (Shallow default) default of (λ d e. e) fit (counts_by_history t top (Shallow default) of tt counts)
  target_leads_by history t top (Some (Deep default)) of fit counts =
      history_leads history t top (Deep default) default of (λ d e. e) fit (counts_by_history t top (Deep default) of tt counts)
  target_leads_by history t top (Some Atomic) of fit counts = plain_leads t top Atomic of (λ h. h) counts
  target_leads_by history t top (Some (Compound initial)) of fit counts = plain_leads t top (Compound initial) of (λ h. h) counts
  target_leads_by history t top (Some Parallel) of fit counts = plain_leads t top Parallel of (λ h. h) counts
  target_leads_by history t top (Some Final) of fit counts = plain_leads t top Final of (λ h. h) counts

  target_leads : (history : History) (t top : ℕ) → IsFitHistory nodes history → CountsFor nodes t top → LeadsOneWay nodes (goals_at nodes history (kind_of nodes t) t) top
  target_leads history t top fit counts = target_leads_by history t top (kind_of nodes t) refl fit counts

  -- some node counts for each target
  some_counts : (t : ℕ) → (top : ℕ) × CountsFor nodes t top
  some_counts t =
      elim (decide_history nodes t) [
        | inl history ↦ (let (p, c) = has_parent t history in (p, inr (history, c)))
        | inr plain ↦ (t, inl (refl, plain))
      ]
    where
      has_parent : (t : ℕ) → IsHistory nodes t → (p : ℕ) × IsChild nodes t p
      has_parent zero history = absurd (chart.root history)
      has_parent (suc before) history =
          let placed = (tree.outline.rows (suc before) (history_inside nodes (suc before) history)).placed in
          (placed.0, placed.1)

  -- goals in two regions do not part at a compound node
  across : (a b g h m n c initial : ℕ) → AreOrthogonal nodes a b → IsWithin nodes g a → IsWithin nodes h b → kind_of nodes c ≡ Some (Compound initial)
      → IsChild nodes m c → IsChild nodes n c → IsWithin nodes g m → IsWithin nodes h n → m ≡ n
  across a b g h m n c initial apart ga hb of cm cn gm hn =
      let gc = within_parent nodes g m c gm cm in
      let hc = within_parent nodes h n c hn cn in
      let ac = top_below a b g h c apart ga hb gc hc in
      let bc = top_below_too a b g h c apart ga hb gc hc in
      let (p, ap', bp, parallel, inner) = apart.parallel in
      elim (inner c ac bc) [
        | inl e ↦ absurd (let of-p : kind_of nodes p ≡ Some (Compound initial) = rw e of in cc)
        | inr pc ↦
            (let (x, cx, px) = child_towards nodes p c pc in
            let gx : IsWithin nodes g x = within_trans nodes g a x ga (inr (below_within nodes a p x ap' px)) in
            let hx : IsWithin nodes h x = within_trans nodes h b x hb (inr (below_within nodes b p x bp px)) in
            path_child_unique nodes tree g m x c cm cx gm gx ∙ path_child_unique nodes tree h x n c cx cn hx hn)
      ]
    where
      -- no node is within both
      no_common : (a b h : ℕ) → AreOrthogonal nodes a b → IsWithin nodes h a → ¬ IsWithin nodes h b
      no_common a b h apart ha hb =
          elim (comparable nodes h a b ha hb) [ inl w ↦ apart.apart w | inr under ↦ apart.apart_too (inr under) ]

      top_below : (a b g h c : ℕ) → AreOrthogonal nodes a b → IsWithin nodes g a → IsWithin nodes h b → IsBelow nodes g c → IsBelow nodes h c → IsBelow nodes a c
      top_below a b g h c apart ga hb gc hc =
          elim (comparable nodes g a c ga (inr gc)) [
            | inl w ↦ elim w [
              | inl e ↦ absurd (no_common a b h apart (let P : ℕ → Type 0 = λ x. IsWithin nodes h x in subst P (sym e) (inr hc)) hb)
              | inr ac ↦ ac
            ]
            | inr ca ↦ absurd (no_common a b h apart (inr (below_trans nodes h c a hc ca)) hb)
          ]

      top_below_too : (a b g h c : ℕ) → AreOrthogonal nodes a b → IsWithin nodes g a → IsWithin nodes h b → IsBelow nodes g c → IsBelow nodes h c → IsBelow nodes b c
      top_below_too a b g h c apart ga hb gc hc =
          elim (comparable nodes h b c hb (inr hc)) [
            | inl w ↦ elim w [
              | inl e ↦ absurd (no_common a b g apart ga (let P : ℕ → Type 0 = λ x. IsWithin nodes g x in subst P (sym e) (inr gc)))
              | inr bc ↦ bc
            ]
            | inr cb ↦ absurd (no_common a b g apart ga (inr (below_trans nodes g c b gc cb)))
          ]

  -- goals that are entered together: no history node, and no two of them part at a compound node
  pub record AreCoherent (goals : List ℕ) : Type 0 where
    pub plain : (g : ℕ) → Contains goals g → ¬ IsHistory nodes g
    pub together : (g h m n c initial : ℕ) → Contains goals g → Contains goals h → kind_of nodes c ≡ Some (Compound initial)
        → IsChild nodes m c → IsChild nodes n c → IsWithin nodes g m → IsWithin nodes h n → m ≡ n

  pub no_goals_coherent : AreCoherent []
  no_goals_coherent = record { plain = (no_goals 0).plain; together = (no_goals 0).together }

  -- targets that do not clash lead to goals that are entered together
  pub goals_coherent : (history : History) (targets : List ℕ) → IsFitHistory nodes history → DoNotClash nodes targets → AreCoherent (goals_of nodes history targets)
  goals_coherent history targets fit apart = record {
    plain = λ g has.
        let (k, inside, from) = Contains-flat_map leads targets g has in
        let (top, counts) = some_counts (get_or targets k 0) in
        (target_leads history (get_or targets k 0) top fit counts).plain g (from 0);
    together = λ g h m n c initial has-g has-h of cm cn gm hn.
        let (k, in-k, from-k) = Contains-flat_map leads targets g has-g in
        let (l, in-l, from-l) = Contains-flat_map leads targets h has-h in
        let (a, counts-a) = some_counts (get_or targets k 0) in
        let (b, counts-b) = some_counts (get_or targets l 0) in
        let leads-a = target_leads history (get_or targets k 0) a fit counts-a in
        let leads-b = target_leads history (get_or targets l 0) b fit counts-b in
        let ga = leads-a.within g (from-k 0) in
        let hb = leads-b.within h (from-l 0) in
        elim (cases_lt k l) [
          | inl before ↦ across a b g h m n c initial (apart k l 0 before in-l a b counts-a counts-b) ga hb of cm cn gm hn
          | inr ge ↦ elim (cases_lt l k) [
            | inl after ↦ sym (across b a h g n m c initial (apart l k 0 after in-k b a counts-b counts-a) hb ga of cn cm hn gm)
            | inr le ↦
                (let same : l ≡ k = omega arith in
                let P : ℕ → Type 0 = λ x. Contains (leads (get_or targets x 0)) h in
                leads-a.together g h m n c initial (from-k 0) (subst P same (from-l 0)) of cm cn gm hn)
          ]
        ];
  }
    where
      leads : ℕ → List ℕ
      leads t = goals_at nodes history (kind_of nodes t) t
