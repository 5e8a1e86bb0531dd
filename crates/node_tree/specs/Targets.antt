-- What a target text leads to: `#id`, `#id.k.l`, `.k.l` and `k.l`.
use Rattle.std.specs.Prelude.{◌==◌, ℕ, zero, suc, Bool, true, List, [], ◌∷◌, length, take, drop, if◌then◌else◌, Option, Some, None, is_some}
use Rattle.std.specs.Option.{option_and_then}
use Rattle.std.specs.List.{slice_split}
use Rattle.node_tree.specs.declared.node.Node.{Node}
use Rattle.node_tree.specs.declared.node.TheConstants.{DOT, HASH}
use Rattle.node_tree.specs.Nodes.{parent_of, child_of, id_at}

-- the keys between the dots of a text
abbrev pub target_keys : List ℕ → List (List ℕ)
target_keys text = slice_split (λ b. b == DOT) text

-- the node that keys lead down to, each the key of a child
abbrev pub down : List Node → Option ℕ → List (List ℕ) → Option ℕ
down nodes from [] = from
down nodes from (key ∷ keys) = down nodes (option_and_then (λ n. child_of nodes n key) from) keys

-- the largest number up to `top` that passes
abbrev pub largest : (ℕ → Bool) → ℕ → Option ℕ
largest passes zero = if passes 0 then Some 0 else None
largest passes (suc top) = if passes (suc top) then Some (suc top) else largest passes top

-- whether a text is empty or begins with a dot
abbrev pub ends_key : List ℕ → Bool
ends_key [] = true
ends_key (b ∷ bs) = b == DOT

-- the keys of a text that is empty or begins with a dot
abbrev pub keys_after_dot : List ℕ → List (List ℕ)
keys_after_dot [] = []
keys_after_dot (b ∷ bs) = target_keys bs

-- the node whose id is the first bytes of a text, where they end the text or stand before a dot
abbrev pub id_front : List Node → List ℕ → ℕ → Option ℕ
id_front nodes text len = if ends_key (drop len text) then id_at nodes (take len text) else None

-- the node under the longest such id, and from it down by the keys that are left
abbrev pub from_id : List Node → List ℕ → Option ℕ
from_id nodes text =
    option_and_then (λ len. down nodes (id_front nodes text len) (keys_after_dot (drop len text)))
    (largest (λ len. is_some (id_front nodes text len)) (length text))

-- `#` leads to an id, a dot down from the source, and anything else down from the source's parent
abbrev pub target_of : List Node → ℕ → List ℕ → Option ℕ
target_of nodes source [] = down nodes (parent_of nodes source) (target_keys [])
target_of nodes source (b ∷ bs) =
    if b == HASH then from_id nodes bs
    else if b == DOT then down nodes (Some source) (target_keys bs)
    else down nodes (parent_of nodes source) (target_keys (b ∷ bs))
