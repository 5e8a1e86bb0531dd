-- A linked action starts actors of the table.
use Rattle.std.proofs.Common.{◌≡◌, ℕ, ◌<◌, List, [], ◌∷◌, Option, Some, length, map, refl, sym, ap, ◌∙◌, subst}
use Rattle.std.specs.Prelude.{⊤}
use Rattle.std.specs.List.{AllByRecursion}
use Rattle.std.specs.Option.{option_map}
use Rattle.std.specs.Str.{bytes_eq}
use Rattle.std.proofs.lemmas.List.Quantifiers.{position-Some}
use Rattle.xs_model.specs.declared.action.Action.{Action}
use Rattle.xs_model.specs.declared.action.Action.TheFolds.{every-Action, every_made-Action}
use Rattle.xs_model.specs.declared.action.Action.TheOpen.{Action-F, ActionItem-F}
use Rattle.xs_model.specs.declared.action.Action.TheVariants as action
use Rattle.xs_model.specs.declared.action.Action.TheVariants.{rolls-Assign, rolls-Cancel, rolls-EnqueueActions, rolls-Raise, rolls-SendTo, rolls-SpawnChild, rolls-StopChild}
use Rattle.xs_model.specs.declared.action.ActionItem.{ActionItem, every-ActionItem, every_made-ActionItem}
use Rattle.xs_model.specs.declared.action.ActionItem.TheVariants as item
use Rattle.xs_model.specs.declared.action.ActionItem.TheVariants.{rolls-Do, rolls-If}
use Rattle.guard_eval.specs.Definitions.{StartsActor, StartsNone}
use Rattle.action_table.specs.declared.table.Table.{Table}
use Rattle.action_table.specs.declared.table.TableActor.{TableActor}
use Rattle.action_table.specs.declared.table.TableActor.TheVariants as table_actor
use Rattle.action_table.specs.declared.table.UnlinkedForm.{UnlinkedForm}
use Rattle.action_table.specs.declared.table.UnlinkedForm.TheFolds.{fold-roll-UnlinkedForm, ind-UnlinkedForm, map-UnlinkedForm}
use Rattle.action_table.specs.declared.table.UnlinkedForm.TheOpen.{UnlinkedForm-F, UnlinkedItem-F}
use Rattle.action_table.specs.declared.table.UnlinkedForm.TheViews.{roll-UnlinkedForm}
use Rattle.action_table.specs.declared.table.UnlinkedItem.{UnlinkedItem, fold-roll-UnlinkedItem, map-UnlinkedItem, roll-UnlinkedItem}
use Rattle.action_table.specs.Linking.{actor_number, all_there, linked_form, linked_form_of, linked_item, linked_item_of}
use Rattle.action_table.proofs.ThereLemmas.{map-some, then-some, there-cons}

-- ---- the parts of a layer

abbrev Inside : (UnlinkedItem → Type 0) → UnlinkedForm-F UnlinkedForm UnlinkedItem → Type 0
Inside Q (UnlinkedForm-F.EnqueueActions items) = AllByRecursion Q items
Inside Q _ = ⊤

abbrev Within : (UnlinkedForm → Type 0) → (UnlinkedItem → Type 0) → UnlinkedItem-F UnlinkedForm UnlinkedItem → Type 0
Within P Q (UnlinkedItem-F.Do form) = P form
Within P Q (UnlinkedItem-F.If test then_items else_items) = AllByRecursion Q then_items × AllByRecursion Q else_items

module _ (P : UnlinkedForm → Type 0) (Q : UnlinkedItem → Type 0) where
  abbrev ProvedF : Type 0
  ProvedF = (f : UnlinkedForm) × P f

  abbrev ProvedI : Type 0
  ProvedI = (i : UnlinkedItem) × Q i

  all-items : (is : List ProvedI) → AllByRecursion Q (map (λ e. e.0) is)
  all-items [] = tt
  all-items (i ∷ is) = (i.1, all-items is)

  inside-of : (y : UnlinkedForm-F ProvedF ProvedI) → Inside Q (map-UnlinkedForm ProvedF ProvedI UnlinkedForm UnlinkedItem (λ e. e.0) (λ e. e.0) y)
  inside-of (UnlinkedForm-F.Assign values) = tt
  inside-of (UnlinkedForm-F.Raise event delay id) = tt
  inside-of (UnlinkedForm-F.SendTo to event delay id) = tt
  inside-of (UnlinkedForm-F.Cancel id) = tt
  inside-of (UnlinkedForm-F.SpawnChild src id input system) = tt
  inside-of (UnlinkedForm-F.StopChild id) = tt
  inside-of (UnlinkedForm-F.EnqueueActions items) = all-items items

  within-of : (y : UnlinkedItem-F ProvedF ProvedI) → Within P Q (map-UnlinkedItem ProvedF ProvedI UnlinkedForm UnlinkedItem (λ e. e.0) (λ e. e.0) y)
  within-of (UnlinkedItem-F.Do form) = form.1
  within-of (UnlinkedItem-F.If test then_items else_items) = (all-items then_items, all-items else_items)

-- ---- linked actions

module _ (actors : ℕ) where
  abbrev Here : Action-F Action ActionItem → Type 0
  Here = StartsActor actors

  abbrev Starts : Action → Type 0
  Starts = every-Action Here StartsNone

  abbrev ItemStarts : ActionItem → Type 0
  ItemStarts = every-ActionItem Here StartsNone

  abbrev Started : Type 0
  Started = (a : Action) × Starts a

  abbrev StartedItem : Type 0
  StartedItem = (i : ActionItem) × ItemStarts i

  proved : (items : List ActionItem) → AllByRecursion ItemStarts items → List StartedItem
  proved [] all = []
  proved (i ∷ items) all = (i, all.0) ∷ proved items all.1

  proved-firsts : (items : List ActionItem) (all : AllByRecursion ItemStarts items) → map (λ e. e.0) (proved items all) ≡ items
  unfolding proved
  proved-firsts [] all = refl
  proved-firsts (i ∷ items) all = ap (λ rest. i ∷ rest) (proved-firsts items all.1)

  made-items : (items : List ActionItem) → AllByRecursion ItemStarts items → Starts (action.EnqueueActions items)
  made-items items all = subst Starts (rolls-EnqueueActions items)
      (every_made-Action Here StartsNone (Action-F.EnqueueActions items) (Action-F.EnqueueActions (proved items all)) (ap Action-F.EnqueueActions (proved-firsts items all)) tt)

  made-do : (a : Action) → Starts a → ItemStarts (item.Do a)
  made-do a starts = subst ItemStarts (rolls-Do a) (every_made-ActionItem Here StartsNone (ActionItem-F.Do a) (ActionItem-F.Do (a, starts)) refl tt)

module _ (table : Table) where
  abbrev actors : ℕ
  actors = length table.actors

  -- a form is linked to an action that starts actors of the table
  abbrev Keeps : UnlinkedForm → Type 0
  Keeps form = (linked : Action) → linked_form table form ≡ Some linked → Starts actors linked

  abbrev KeepsItem : UnlinkedItem → Type 0
  KeepsItem one = (linked : ActionItem) → linked_item table one ≡ Some linked → ItemStarts actors linked

  pub number-inside : (name : List ℕ) (number : ℕ) → actor_number table name ≡ Some number → number < actors
  number-inside name number is = (position-Some (λ (row : List ℕ × TableActor). bytes_eq name row.0) table.actors number ([], table_actor.Promise) is).0

  all-keep : (items : List UnlinkedItem) (linked : List ActionItem) → AllByRecursion KeepsItem items → all_there (map (linked_item table) items) ≡ Some linked → AllByRecursion (ItemStarts actors) linked
  all-keep [] linked keep is = let nil : [] ≡ linked = cc in subst (AllByRecursion (ItemStarts actors)) nil tt
  all-keep (i ∷ items) linked keep is =
      let found = there-cons (linked_item table i) (map (linked_item table) items) linked is in
      subst (AllByRecursion (ItemStarts actors)) found.4 (keep.0 found.0 found.2, all-keep items found.1 keep.1 found.3)

  form-keeps : (x : UnlinkedForm-F UnlinkedForm UnlinkedItem) (linked : Action) → Inside KeepsItem x
      → linked_form_of table (map-UnlinkedForm UnlinkedForm UnlinkedItem (Option Action) (Option ActionItem) (linked_form table) (linked_item table) x) ≡ Some linked → Starts actors linked
  form-keeps (UnlinkedForm-F.Assign values) linked keep is =
      let same : action.Assign values ≡ linked = cc in
      subst (Starts actors) (rolls-Assign values ∙ same) (every_made-Action (Here actors) StartsNone (Action-F.Assign values) (Action-F.Assign values) refl tt)
  form-keeps (UnlinkedForm-F.Raise event delay id) linked keep is =
      let same : action.Raise event delay id ≡ linked = cc in
      subst (Starts actors) (rolls-Raise event delay id ∙ same) (every_made-Action (Here actors) StartsNone (Action-F.Raise event delay id) (Action-F.Raise event delay id) refl tt)
  form-keeps (UnlinkedForm-F.SendTo to event delay id) linked keep is =
      let same : action.SendTo to event delay id ≡ linked = cc in
      subst (Starts actors) (rolls-SendTo to event delay id ∙ same) (every_made-Action (Here actors) StartsNone (Action-F.SendTo to event delay id) (Action-F.SendTo to event delay id) refl tt)
  form-keeps (UnlinkedForm-F.Cancel id) linked keep is =
      let same : action.Cancel id ≡ linked = cc in
      subst (Starts actors) (rolls-Cancel id ∙ same) (every_made-Action (Here actors) StartsNone (Action-F.Cancel id) (Action-F.Cancel id) refl tt)
  form-keeps (UnlinkedForm-F.SpawnChild src id input system) linked keep is =
      let found = map-some (λ number. action.SpawnChild number id input system) (actor_number table src.name) linked is in
      subst (Starts actors) (rolls-SpawnChild found.0 id input system ∙ found.2)
      (every_made-Action (Here actors) StartsNone (Action-F.SpawnChild found.0 id input system) (Action-F.SpawnChild found.0 id input system) refl (number-inside src.name found.0 found.1))
  form-keeps (UnlinkedForm-F.StopChild id) linked keep is =
      let same : action.StopChild id ≡ linked = cc in
      subst (Starts actors) (rolls-StopChild id ∙ same) (every_made-Action (Here actors) StartsNone (Action-F.StopChild id) (Action-F.StopChild id) refl tt)
  form-keeps (UnlinkedForm-F.EnqueueActions items) linked keep is =
      let found = map-some action.EnqueueActions (all_there (map (linked_item table) items)) linked is in
      subst (Starts actors) found.2 (made-items actors found.0 (all-keep items found.0 keep found.1))

  made-if : (test : _) (holds fails : List ActionItem) → AllByRecursion (ItemStarts actors) holds → AllByRecursion (ItemStarts actors) fails → ItemStarts actors (item.If test holds fails)
  made-if test holds fails all others = subst (ItemStarts actors) (rolls-If test holds fails)
      (every_made-ActionItem (Here actors) StartsNone (ActionItem-F.If test holds fails) (ActionItem-F.If test (proved actors holds all) (proved actors fails others))
      (ap (λ l. ActionItem-F.If test l (map (λ e. e.0) (proved actors fails others))) (proved-firsts actors holds all) ∙ ap (λ l. ActionItem-F.If test holds l) (proved-firsts actors fails others)) tt)

  item-keeps : (x : UnlinkedItem-F UnlinkedForm UnlinkedItem) (linked : ActionItem) → Within Keeps KeepsItem x
      → linked_item_of (map-UnlinkedItem UnlinkedForm UnlinkedItem (Option Action) (Option ActionItem) (linked_form table) (linked_item table) x) ≡ Some linked → ItemStarts actors linked
  item-keeps (UnlinkedItem-F.Do form) linked keep is =
      let found = map-some item.Do (linked_form table form) linked is in
      subst (ItemStarts actors) found.2 (made-do actors found.0 (keep found.0 found.1))
  item-keeps (UnlinkedItem-F.If test then_items else_items) linked keep is =
      let holds = then-some (λ holds. option_map (λ fails. item.If test holds fails) (all_there (map (linked_item table) else_items))) (all_there (map (linked_item table) then_items)) linked is in
      let fails = map-some (λ fails. item.If test holds.0 fails) (all_there (map (linked_item table) else_items)) linked holds.2 in
      subst (ItemStarts actors) fails.2
      (made-if test holds.0 fails.0 (all-keep then_items holds.0 keep.0 holds.1) (all-keep else_items fails.0 keep.1 fails.1))

  form-step : (x : UnlinkedForm-F UnlinkedForm UnlinkedItem) → Inside KeepsItem x → Keeps (roll-UnlinkedForm x)
  form-step x keep = λ linked is. form-keeps x linked keep (sym (fold-roll-UnlinkedForm (Option Action) (Option ActionItem) (linked_form_of table) linked_item_of x) ∙ is)

  item-step : (x : UnlinkedItem-F UnlinkedForm UnlinkedItem) → Within Keeps KeepsItem x → KeepsItem (roll-UnlinkedItem x)
  item-step x keep = λ linked is. item-keeps x linked keep (sym (fold-roll-UnlinkedItem (Option Action) (Option ActionItem) (linked_form_of table) linked_item_of x) ∙ is)

  pub form-starts : (form : UnlinkedForm) → Keeps form
  form-starts = ind-UnlinkedForm Keeps KeepsItem
      (λ x y is. form-step x (subst (Inside KeepsItem) is (inside-of Keeps KeepsItem y)))
      (λ x y is. item-step x (subst (Within Keeps KeepsItem) is (within-of Keeps KeepsItem y)))
