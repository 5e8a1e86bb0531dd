-- That targets lead to nodes of the tree.
use Rattle.std.proofs.Common.{◌≡◌, ◌<◌, ℕ, List, [], ◌∷◌, length, Option, Some, None, refl}
use Rattle.std.specs.Option.{IfSome, option_or, option_to_list, unwrap_or}
use Rattle.std.proofs.lemmas.List.Elements.{All-append, All-cons, All-head, All-nil, All-tail}
use Rattle.node_tree.specs.declared.node.Kind.{Kind}
use Rattle.node_tree.specs.declared.node.Kind.TheVariants.{Atomic, Compound, Parallel, Final, Shallow, Deep}
use Rattle.node_tree.specs.declared.node.Node.{Node}
use Rattle.node_tree.specs.Nodes.{AreNodes, IsTree, parent_of}
use Rattle.step_sets.specs.Goals.{History, goals_at, goals_of, record_of, recorded_or}
use Rattle.step_sets.specs.History.{RecordsNodes}
use Rattle.node_tree.specs.Kinds.{kind_of}
use Rattle.step_sets.proofs.HistoryLemmas.{record_of-named}
use Rattle.step_sets.proofs.TreeLemmas.{kind_names, parent_inside}

module _ (nodes : List Node) (tree : IsTree nodes) (history : History) (named : RecordsNodes nodes history) where
  one_inside : (n : ℕ) → n < length nodes → AreNodes nodes (n ∷ [])
  one_inside n inside = All-cons (λ n. n < length nodes) n [] inside (All-nil (λ n. n < length nodes))

  recorded_inside : (recorded others : List ℕ) → AreNodes nodes recorded → AreNodes nodes others → AreNodes nodes (recorded_or recorded others)
  recorded_inside [] others r o = o
  recorded_inside (n ∷ rest) others r o = r

  unwrapped_inside : (h : ℕ) (record' : Option (List ℕ)) → record_of history h ≡ record' → AreNodes nodes (unwrap_or record' [])
  unwrapped_inside h None is = All-nil (λ n. n < length nodes)
  unwrapped_inside h (Some list) is = record_of-named nodes history h list named is

  other_inside : (h : ℕ) (default parent : Option ℕ) → parent_of nodes h ≡ parent → IfSome default (λ d. d < length nodes) → AreNodes nodes (option_to_list (option_or default parent))
  other_inside h (Some d) parent is inside = one_inside d inside
  other_inside h None (Some p) is inside = one_inside p (parent_inside nodes tree h p is)
  other_inside h None None is inside = All-nil (λ n. n < length nodes)

  history_inside : (h : ℕ) (default : Option ℕ) → IfSome default (λ d. d < length nodes) → AreNodes nodes (recorded_or (unwrap_or (record_of history h) []) (option_to_list (option_or default (parent_of nodes h))))
  history_inside h default inside =
      recorded_inside (unwrap_or (record_of history h) []) (option_to_list (option_or default (parent_of nodes h)))
      (unwrapped_inside h (record_of history h) refl) (other_inside h default (parent_of nodes h) refl inside)

  at_inside : (t : ℕ) → t < length nodes → (kind : Option Kind) → kind_of nodes t ≡ kind → AreNodes nodes (goals_at nodes history kind t)
  at_inside t inside None of = All-nil (λ n. n < length nodes)
  at_inside t inside (Some (Shallow default)) of = history_inside t default (kind_names nodes tree t (Shallow default) of)
  at_inside t inside (Some (Deep default)) of = history_inside t default (kind_names nodes tree t (Deep default) of)
  at_inside t inside (Some Atomic) of = one_inside t inside
  at_inside t inside (Some (Compound initial)) of = one_inside t inside
  at_inside t inside (Some Parallel) of = one_inside t inside
  at_inside t inside (Some Final) of = one_inside t inside

  pub goals_inside : (targets : List ℕ) → AreNodes nodes targets → AreNodes nodes (goals_of nodes history targets)
  goals_inside [] inside = All-nil (λ n. n < length nodes)
  goals_inside (t ∷ rest) inside =
      All-append (λ n. n < length nodes) (goals_at nodes history (kind_of nodes t) t) (goals_of nodes history rest)
      (at_inside t (All-head (λ n. n < length nodes) t rest inside) (kind_of nodes t) refl)
      (goals_inside rest (All-tail (λ n. n < length nodes) t rest inside))
