-- A linked guard asks for the nodes that the guard asked for.
use Rattle.std.proofs.Common.{◌≡◌, ℕ, List, [], ◌∷◌, Option, Some, map, refl, sym, ap, ◌∙◌, subst}
use Rattle.std.specs.Prelude.{⊤}
use Rattle.std.specs.List.{AllByRecursion}
use Rattle.xs_model.specs.Rising.{get}
use Rattle.guard_eval.specs.Definitions.{AsksForNode}
use Rattle.guard_eval.specs.declared.guard.GuardUse.{GuardUse}
use Rattle.guard_eval.specs.declared.guard.GuardUse.TheFolds.{every-GuardUse, every_made-GuardUse}
use Rattle.guard_eval.specs.declared.guard.GuardUse.TheOpen.{GuardUse-F}
use Rattle.guard_eval.specs.declared.guard.GuardUse.TheVariants as use_of
use Rattle.guard_eval.specs.declared.guard.GuardUse.TheVariants.{rolls-And, rolls-In, rolls-Not, rolls-Or, rolls-Test}
use Rattle.guard_eval.specs.declared.guard.GuardUse.TheViews.{roll-GuardUse}
use Rattle.machine_json.specs.declared.machine.UnlinkedGuard.{UnlinkedGuard, every_here-UnlinkedGuard, out-roll-UnlinkedGuard}
use Rattle.machine_json.specs.declared.machine.UnlinkedGuard.TheFolds.{every-UnlinkedGuard, every_held-UnlinkedGuard, fold-roll-UnlinkedGuard, ind-UnlinkedGuard, map-UnlinkedGuard}
use Rattle.machine_json.specs.declared.machine.UnlinkedGuard.TheOpen.{UnlinkedGuard-F}
use Rattle.machine_json.specs.declared.machine.UnlinkedGuard.TheViews.{roll-UnlinkedGuard}
use Rattle.machine_json.specs.ReadMachine.{AsksInside}
use Rattle.action_table.specs.declared.table.Table.{Table}
use Rattle.action_table.specs.Linking.{all_there, linked_guard, linked_guard_form}
use Rattle.action_table.proofs.ThereLemmas.{map-some, there-cons}

-- P holds of each part of the layer
abbrev Parts : (UnlinkedGuard → Type 0) → UnlinkedGuard-F UnlinkedGuard → Type 0
Parts P (UnlinkedGuard-F.Test named params) = ⊤
Parts P (UnlinkedGuard-F.And parts) = AllByRecursion P parts
Parts P (UnlinkedGuard-F.Or parts) = AllByRecursion P parts
Parts P (UnlinkedGuard-F.Not part) = P part
Parts P (UnlinkedGuard-F.In node) = ⊤

abbrev UseParts : (GuardUse → Type 0) → GuardUse-F GuardUse → Type 0
UseParts P (GuardUse-F.Test expr params) = ⊤
UseParts P (GuardUse-F.And parts) = AllByRecursion P parts
UseParts P (GuardUse-F.Or parts) = AllByRecursion P parts
UseParts P (GuardUse-F.Not part) = P part
UseParts P (GuardUse-F.In node) = ⊤

module _ (P : UnlinkedGuard → Type 0) where
  abbrev Proved : Type 0
  Proved = (g : UnlinkedGuard) × P g

  all-parts : (ps : List Proved) → AllByRecursion P (map (λ e. e.0) ps)
  all-parts [] = tt
  all-parts (p ∷ ps) = (p.1, all-parts ps)

  parts-of : (x : UnlinkedGuard-F Proved) → Parts P (map-UnlinkedGuard Proved UnlinkedGuard (λ e. e.0) x)
  parts-of (UnlinkedGuard-F.Test named params) = tt
  parts-of (UnlinkedGuard-F.And ps) = all-parts ps
  parts-of (UnlinkedGuard-F.Or ps) = all-parts ps
  parts-of (UnlinkedGuard-F.Not p) = p.1
  parts-of (UnlinkedGuard-F.In node) = tt

module _ (Q : GuardUse-F GuardUse → Type 0) where
  abbrev Every : GuardUse → Type 0
  Every = every-GuardUse Q

  abbrev ProvedUse : Type 0
  ProvedUse = (g : GuardUse) × Every g

  proved : (uses : List GuardUse) → AllByRecursion Every uses → List ProvedUse
  proved [] all = []
  proved (u ∷ uses) all = (u, all.0) ∷ proved uses all.1

  proved-firsts : (uses : List GuardUse) (all : AllByRecursion Every uses) → map (λ e. e.0) (proved uses all) ≡ uses
  unfolding proved
  proved-firsts [] all = refl
  proved-firsts (u ∷ uses) all = ap (λ rest. u ∷ rest) (proved-firsts uses all.1)

  use-made : (x : GuardUse-F GuardUse) → Q x → UseParts Every x → Every (roll-GuardUse x)
  use-made (GuardUse-F.Test expr params) here parts = every_made-GuardUse Q (GuardUse-F.Test expr params) (GuardUse-F.Test expr params) refl here
  use-made (GuardUse-F.And uses) here parts =
      every_made-GuardUse Q (GuardUse-F.And uses) (GuardUse-F.And (proved uses parts)) (ap GuardUse-F.And (proved-firsts uses parts)) here
  use-made (GuardUse-F.Or uses) here parts =
      every_made-GuardUse Q (GuardUse-F.Or uses) (GuardUse-F.Or (proved uses parts)) (ap GuardUse-F.Or (proved-firsts uses parts)) here
  use-made (GuardUse-F.Not part) here parts = every_made-GuardUse Q (GuardUse-F.Not part) (GuardUse-F.Not (part, parts)) refl here
  use-made (GuardUse-F.In node) here parts = every_made-GuardUse Q (GuardUse-F.In node) (GuardUse-F.In node) refl here

module _ (table : Table) (nodes : ℕ) where
  abbrev Asks : UnlinkedGuard → Type 0
  Asks = every-UnlinkedGuard (AsksInside nodes)

  abbrev AsksToo : GuardUse → Type 0
  AsksToo = every-GuardUse (AsksForNode nodes)

  -- a guard that asks for nodes of the tree is linked to one that does
  abbrev Keeps : UnlinkedGuard → Type 0
  Keeps unlinked = (linked : GuardUse) → Asks unlinked → linked_guard table unlinked ≡ Some linked → AsksToo linked

  all-keep : (parts : List UnlinkedGuard) (uses : List GuardUse) → AllByRecursion Keeps parts → AllByRecursion Asks parts
      → all_there (map (linked_guard table) parts) ≡ Some uses → AllByRecursion AsksToo uses
  all-keep [] uses keep asks is = let nil : [] ≡ uses = cc in subst (AllByRecursion AsksToo) nil tt
  all-keep (g ∷ parts) uses keep asks is =
      let found = there-cons (linked_guard table g) (map (linked_guard table) parts) uses is in
      subst (AllByRecursion AsksToo) found.4 (keep.0 found.0 asks.0 found.2, all-keep parts found.1 keep.1 asks.1 found.3)

  layer-keeps : (x : UnlinkedGuard-F UnlinkedGuard) (linked : GuardUse) → AsksInside nodes x → Parts Keeps x → Parts Asks x
      → linked_guard_form table (map-UnlinkedGuard UnlinkedGuard (Option GuardUse) (linked_guard table) x) ≡ Some linked → AsksToo linked
  layer-keeps (UnlinkedGuard-F.Test named params) linked here keep asks is =
      let found = map-some (λ expr. use_of.Test expr params) (get named.name table.guards) linked is in
      subst AsksToo (rolls-Test found.0 params ∙ found.2) (use-made (AsksForNode nodes) (GuardUse-F.Test found.0 params) tt tt)
  layer-keeps (UnlinkedGuard-F.And parts) linked here keep asks is =
      let found = map-some use_of.And (all_there (map (linked_guard table) parts)) linked is in
      subst AsksToo (rolls-And found.0 ∙ found.2) (use-made (AsksForNode nodes) (GuardUse-F.And found.0) tt (all-keep parts found.0 keep asks found.1))
  layer-keeps (UnlinkedGuard-F.Or parts) linked here keep asks is =
      let found = map-some use_of.Or (all_there (map (linked_guard table) parts)) linked is in
      subst AsksToo (rolls-Or found.0 ∙ found.2) (use-made (AsksForNode nodes) (GuardUse-F.Or found.0) tt (all-keep parts found.0 keep asks found.1))
  layer-keeps (UnlinkedGuard-F.Not part) linked here keep asks is =
      let found = map-some use_of.Not (linked_guard table part) linked is in
      subst AsksToo (rolls-Not found.0 ∙ found.2) (use-made (AsksForNode nodes) (GuardUse-F.Not found.0) tt (keep found.0 asks found.1))
  layer-keeps (UnlinkedGuard-F.In node) linked here keep asks is =
      let same : use_of.In node ≡ linked = cc in
      subst AsksToo (rolls-In node ∙ same) (use-made (AsksForNode nodes) (GuardUse-F.In node) here tt)

  guard-step : (x : UnlinkedGuard-F UnlinkedGuard) → Parts Keeps x → Keeps (roll-UnlinkedGuard x)
  guard-step x keep = λ linked every is.
      let held = every_held-UnlinkedGuard (AsksInside nodes) (roll-UnlinkedGuard x) every in
      let asks = subst (Parts Asks) (held.1 ∙ out-roll-UnlinkedGuard x) (parts-of Asks held.0) in
      let here = subst (AsksInside nodes) (out-roll-UnlinkedGuard x) (every_here-UnlinkedGuard (AsksInside nodes) (roll-UnlinkedGuard x) every) in
      layer-keeps x linked here keep asks (sym (fold-roll-UnlinkedGuard (Option GuardUse) (linked_guard_form table) x) ∙ is)

  pub guard-keeps : (unlinked : UnlinkedGuard) → Keeps unlinked
  guard-keeps = ind-UnlinkedGuard Keeps (λ x y is. guard-step x (subst (Parts Keeps) is (parts-of Keeps y)))
