-- Walking the items of `enqueueActions` one after the other.
use Rattle.std.proofs.Common.{◌≡◌, ℕ, zero, suc, ◌<◌, ◌≤◌, max, All, List, [], ◌∷◌, ◌++◌, length, map, get_or, drop, Ok, Err, refl, sym, ap, subst, ◌∙◌, if◌then◌else◌, arith, rules, append_assoc}
use Rattle.std.specs.Borrow.{Bor}
use Rattle.office_types.specs.declared.outcome.FaultName.{FaultName}
use Rattle.xs_model.specs.declared.action.Action.{Action, the_lemmas}
use Rattle.xs_model.specs.declared.action.Action.TheVariants as action
use Rattle.xs_model.specs.declared.action.ActionItem.{ActionItem}
use Rattle.xs_model.specs.declared.action.ActionItem.TheVariants as item
use Rattle.xs_model.specs.declared.expr.Expr.{Expr}
use Rattle.xs_model.specs.Eval.{Scope}
use Rattle.microstep.specs.Actions.{Doing, Given, chosen, doing, enqueued, in_turn}
use Rattle.microstep.specs.declared.progress.Progress.{Progress}
use Rattle.microstep.specs.Choices.{AreNoDeeper, action_depth, choice, chosen_after, does, item_depth, items_depth}
use Rattle.microstep.proofs.TurnLemmas.{turn_from, turn-map}
use Rattle.microstep.specs.Parts.{Stepped, and_then, test_in}

-- what was chosen before, and then what the items from a place on choose
abbrev pub chosen_from : Scope → List Doing → List ActionItem → ℕ → Stepped (List Doing)
chosen_from scope before items place = chosen_after before (chosen scope (map choice (drop place items)))

pub after-Err : (before : List Doing) (r : Stepped (List Doing)) (name : FaultName) → chosen_after before r ≡ Err name → r ≡ Err name
after-Err before (Ok more) name is = cc
after-Err before (Err other) name is = is

pub chosen-end : (scope : Scope) (before : List Doing) (items : List ActionItem) (place : ℕ) → length items ≤ place → chosen_from scope before items place ≡ Ok (before ++ [])
chosen-end scope before [] zero past = refl
chosen-end scope before [] (suc place) past = refl
chosen-end scope before (x ∷ items) zero past = absurd (omega (arith, past))
chosen-end scope before (x ∷ items) (suc place) past = chosen-end scope before items place (omega (arith, past))

pub chosen-stops : (scope : Scope) (before : List Doing) (items : List ActionItem) (place : ℕ) (d : ActionItem) (name : FaultName) → place < length items
    → choice (get_or items place d) scope ≡ Err name → chosen_from scope before items place ≡ Err name
chosen-stops scope before [] place d name within gives = absurd (omega (arith, within))
chosen-stops scope before (x ∷ items) zero d name within gives = rw gives refl
chosen-stops scope before (x ∷ items) (suc place) d name within gives = chosen-stops scope before items place d name (omega (arith, within)) gives

joined : (before after : List Doing) (first others : Stepped (List Doing)) → chosen_after before first ≡ Ok after
    → chosen_after before (and_then first (λ xs. and_then others (λ ys. Ok (xs ++ ys)))) ≡ chosen_after after others
joined before after (Ok xs) (Ok ys) is =
    let same : before ++ xs ≡ after = cc in
    ap Ok (sym (append_assoc before xs ys) ∙ ap (λ front. front ++ ys) same)
joined before after (Ok xs) (Err name) is = refl
joined before after (Err name) others is = cc

pub chosen-more : (scope : Scope) (before after : List Doing) (items : List ActionItem) (place : ℕ) (d : ActionItem) → place < length items
    → chosen_after before (choice (get_or items place d) scope) ≡ Ok after → chosen_from scope before items place ≡ chosen_from scope after items (suc place)
chosen-more scope before after [] place d within gives = absurd (omega (arith, within))
chosen-more scope before after (x ∷ items) zero d within gives = joined before after (choice x scope) (chosen scope (map choice items)) gives
chosen-more scope before after (x ∷ items) (suc place) d within gives = chosen-more scope before after items place d (omega (arith, within)) gives

-- ---- the two kinds of items

pub choice-Do : (scope : Scope) (action : Action) → choice (item.Do action) scope ≡ Ok (doing action ∷ [])
choice-Do scope action = search (rules, the_lemmas)

pub choice-If : (scope : Scope) (test : Expr) (items others : List ActionItem)
    → choice (item.If test items others) scope
    ≡ and_then (test_in scope test) (λ holds. if holds then chosen scope (map choice items) else chosen scope (map choice others))
choice-If scope test items others = search (rules, the_lemmas)

-- ---- how deep the chosen actions are

pub depth-Enqueue : (items : List ActionItem) → action_depth (action.EnqueueActions items) ≡ suc (items_depth items)
depth-Enqueue items = search (rules, the_lemmas)

pub depth-Do : (chosen : Action) → item_depth (item.Do chosen) ≡ action_depth chosen
depth-Do chosen = search (rules, the_lemmas)

pub depth-If : (test : Expr) (items others : List ActionItem) → item_depth (item.If test items others) ≡ max (items_depth items) (items_depth others)
depth-If test items others = search (rules, the_lemmas)

pub depth-at : (items : List ActionItem) (place : ℕ) (d : ActionItem) (bound : ℕ) → place < length items → items_depth items ≤ bound → item_depth (get_or items place d) ≤ bound
depth-at [] place d bound within deep = absurd (omega (arith, within))
depth-at (x ∷ items) zero d bound within deep = omega (arith, deep)
depth-at (x ∷ items) (suc place) d bound within deep = depth-at items place d bound (omega (arith, within)) (omega (arith, deep))

pub no-deeper-at : (bound : ℕ) (actions lent : List (Bor Action)) (place : ℕ) (here : Bor Action) → lent ≡ actions → AreNoDeeper bound actions → place < length lent → here ≡ get_or lent place here
    → action_depth here.now ≤ bound
no-deeper-at bound actions lent place here same all within is =
    let P : Bor Action → Type 0 = λ (a : Bor Action). action_depth a.now ≤ bound in
    let Q : List (Bor Action) → Type 0 = λ xs. All P xs in
    subst P (sym is) (subst Q (sym same) all place here within)

-- ---- the chosen actions run

from-start : (given : Given) (progress : Progress) (r : Stepped (List Doing)) (actions : List Doing) → chosen_after [] r ≡ Ok actions
    → and_then r (λ doings. in_turn (λ (one : Doing). one given) doings progress) ≡ in_turn (λ (one : Doing). one given) actions progress
from-start given progress (Ok more) actions is = let same : more ≡ actions = cc in ap (λ doings. in_turn (λ (one : Doing). one given) doings progress) same
from-start given progress (Err name) actions is = cc

pub enqueued-start : (scope : Scope) (given : Given) (progress : Progress) (items : List ActionItem) (before actions : List (Bor Action)) → before ≡ []
    → chosen_after (map does before) (chosen scope (map choice items)) ≡ Ok (map does actions)
    → enqueued scope (map choice items) given progress ≡ turn_from (λ (one : Bor Action). does one given) actions 0 progress
enqueued-start scope given progress items before actions none is =
    from-start given progress (chosen scope (map choice items)) (map does actions) (rw none at is)
    ∙ turn-map (λ (one : Doing). one given) does actions progress
