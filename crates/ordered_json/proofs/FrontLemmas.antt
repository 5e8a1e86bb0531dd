-- The elements and members that an open array or object has so far, the last one first.
use Rattle.std.proofs.Common.{◌≡◌, [], ◌∷◌, ◌++◌, ℕ, ◌+◌, false, List, length, map, refl, ap, sym, ◌∙◌, arith, append_assoc, length-append}
use Rattle.std.specs.Bool.{⊤}
use Rattle.std.proofs.lemmas.List.{map-append}
use Rattle.ordered_json.specs.declared.json.Member.{Member}
use Rattle.ordered_json.specs.declared.json.OrderedJson.{OrderedJson}
use Rattle.ordered_json.specs.Words.{key_of, member_of}
use Rattle.ordered_json.specs.Grammar.{Char, print_string, Tree, Elements, element, Members, member, print, print_elements, print_members, print_separator, print_colon, Gap, Key, IsGap, IsKey, IsTree, AreElements, AreMembers}
use Rattle.ordered_json.specs.Meaning.{string_content, value_at, items_at, members_at, has_key, IsTaken, ElementsTaken, MembersTaken}
use Rattle.ordered_json.proofs.KeyLemmas.{key_of-member_of}

-- white space before and after a comma or a colon
abbrev pub gap_of : List ℕ → List ℕ → Gap
gap_of before after = record { before = before; after = after }

-- a key, and the white space before and after its colon
abbrev pub key_with : List Char → List ℕ → List ℕ → Key
key_with chars before after = record { chars = chars; gap = gap_of before after }

-- an element, after the white space that stands round its comma
pub record Item : Type 0 where
  pub gap : Gap
  pub tree : Tree

abbrev pub comma_after : List Item → List ℕ
comma_after [] = []
comma_after (i ∷ is) = 44 ∷ []

abbrev pub print_items : List Item → List ℕ
print_items [] = []
print_items (i ∷ is) = print_items is ++ (print_separator i.gap (comma_after is) ++ print i.tree)

abbrev pub AreItems : ℕ → List Item → Type 0
AreItems depth [] = ⊤
AreItems depth (i ∷ is) = AreItems depth is × IsGap i.gap × IsTree i.tree × IsTaken depth i.tree

abbrev pub item_values : ℕ → List Item → List OrderedJson
item_values p [] = []
item_values p (i ∷ is) = item_values p is ++ value_at (p + length (print_items is ++ print_separator i.gap (comma_after is))) i.tree ∷ []

-- the elements as the grammar has them, before others
abbrev pub close : List Item → Elements → Elements
close [] es = es
close (i ∷ is) es = close is (element i.gap i.tree es)

pub print-close : (is : List Item) (es : Elements) → print_elements [] (close is es) ≡ print_items is ++ print_elements (comma_after is) es
print-close [] es = refl
print-close (i ∷ is) es =
    print-close is (element i.gap i.tree es)
    ∙ sym (append_assoc (print_items is) (print_separator i.gap (comma_after is) ++ print i.tree) (print_elements (44 ∷ []) es)
    ∙ ap (λ w. print_items is ++ w) (append_assoc (print_separator i.gap (comma_after is)) (print i.tree) (print_elements (44 ∷ []) es)))

pub are-close : (depth : ℕ) (is : List Item) (es : Elements) → AreItems depth is → AreElements es → AreElements (close is es)
are-close depth [] es h e = e
are-close depth (i ∷ is) es h e = are-close depth is (element i.gap i.tree es) h.0 (h.1, h.2, e)

pub taken-close : (depth : ℕ) (is : List Item) (es : Elements) → AreItems depth is → ElementsTaken depth es → ElementsTaken depth (close is es)
taken-close depth [] es h e = e
taken-close depth (i ∷ is) es h e = taken-close depth is (element i.gap i.tree es) h.0 (h.3, e)

pub values-close : (p : ℕ) (is : List Item) (es : Elements) → items_at p [] (close is es) ≡ item_values p is ++ items_at (p + length (print_items is)) (comma_after is) es
values-close p [] es = ap (λ n. items_at n [] es) (let e : p ≡ p + 0 = omega arith in e)
values-close p (i ∷ is) es =
    values-close p is (element i.gap i.tree es)
    ∙ (ap (λ n. item_values p is ++ (value_at n i.tree ∷ items_at (n + length (print i.tree)) (44 ∷ []) es)) start
    ∙ (ap (λ n. item_values p is ++ (value_at at i.tree ∷ items_at n (44 ∷ []) es)) end
    ∙ sym (append_assoc (item_values p is) (value_at at i.tree ∷ []) (items_at (p + length (print_items (i ∷ is))) (44 ∷ []) es))))
  where
    front : List ℕ
    front = print_separator i.gap (comma_after is)

    at : ℕ
    at = p + length (print_items is ++ print_separator i.gap (comma_after is))

    start : p + length (print_items is) + length (print_separator i.gap (comma_after is)) ≡ p + length (print_items is ++ print_separator i.gap (comma_after is))
    start = omega (arith, length-append (print_items is) (print_separator i.gap (comma_after is)))

    end : p + length (print_items is ++ print_separator i.gap (comma_after is)) + length (print i.tree) ≡ p + length (print_items (i ∷ is))
    end = omega (arith, length-append (print_items is) (print_separator i.gap (comma_after is)), length-append (print_items is) (print_separator i.gap (comma_after is) ++ print i.tree), length-append (print_separator i.gap (comma_after is)) (print i.tree))

-- a member, likewise
pub record Entry : Type 0 where
  pub gap : Gap
  pub key : Key
  pub tree : Tree

abbrev pub comma_past : List Entry → List ℕ
comma_past [] = []
comma_past (e ∷ es) = 44 ∷ []

-- a member up to its value
abbrev pub print_head : Gap → List ℕ → Key → List ℕ
print_head gap mark key = print_separator gap mark ++ (print_string key.chars ++ print_colon key.gap)

abbrev pub print_entries : List Entry → List ℕ
print_entries [] = []
print_entries (e ∷ es) = print_entries es ++ (print_head e.gap (comma_past es) e.key ++ print e.tree)

abbrev pub entry_keys : List Entry → List (List ℕ)
entry_keys [] = []
entry_keys (e ∷ es) = entry_keys es ++ string_content e.key.chars ∷ []

abbrev pub AreEntries : ℕ → List Entry → Type 0
AreEntries depth [] = ⊤
AreEntries depth (e ∷ es) =
    AreEntries depth es × (IsGap e.gap × IsKey e.key × IsTree e.tree)
    × (has_key (string_content e.key.chars) (entry_keys es) ≡ false) × IsTaken depth e.tree

abbrev pub key_place : ℕ → List Entry → Gap → ℕ
key_place p es gap = p + length (print_entries es ++ print_separator gap (comma_past es))

abbrev pub entry_member : ℕ → List Entry → Entry → Member
entry_member p es e =
    member_of (string_content e.key.chars) (key_place p es e.gap)
    (value_at (p + length (print_entries es ++ print_head e.gap (comma_past es) e.key)) e.tree)

abbrev pub entry_values : ℕ → List Entry → List Member
entry_values p [] = []
entry_values p (e ∷ es) = entry_values p es ++ entry_member p es e ∷ []

abbrev pub close_members : List Entry → Members → Members
close_members [] ms = ms
close_members (e ∷ es) ms = close_members es (member e.gap e.key e.tree ms)

pub keys-entries : (p : ℕ) (es : List Entry) → map key_of (entry_values p es) ≡ entry_keys es
keys-entries p [] = refl
keys-entries p (e ∷ es) =
    map-append key_of (entry_values p es) (entry_member p es e ∷ [])
    ∙ (ap (λ ks. ks ++ map key_of (entry_member p es e ∷ [])) (keys-entries p es)
    ∙ ap (λ k. entry_keys es ++ k ∷ []) (key_of-member_of (string_content e.key.chars) (key_place p es e.gap) (value_at (p + length (print_entries es ++ print_head e.gap (comma_past es) e.key)) e.tree)))

head_bytes : (front key gap body back : List ℕ) → (front ++ (key ++ gap)) ++ (body ++ back) ≡ front ++ (key ++ (gap ++ (body ++ back)))
head_bytes front key gap body back = append_assoc front (key ++ gap) (body ++ back) ∙ ap (λ w. front ++ w) (append_assoc key gap (body ++ back))

pub print-close_members : (es : List Entry) (ms : Members) → print_members [] (close_members es ms) ≡ print_entries es ++ print_members (comma_past es) ms
print-close_members [] ms = refl
print-close_members (e ∷ es) ms =
    print-close_members es (member e.gap e.key e.tree ms)
    ∙ sym (append_assoc (print_entries es) (print_head e.gap (comma_past es) e.key ++ print e.tree) (print_members (44 ∷ []) ms)
    ∙ ap (λ w. print_entries es ++ w) (append_assoc (print_head e.gap (comma_past es) e.key) (print e.tree) (print_members (44 ∷ []) ms)
    ∙ head_bytes (print_separator e.gap (comma_past es)) (print_string e.key.chars) (print_colon e.key.gap) (print e.tree) (print_members (44 ∷ []) ms)))

pub are-close_members : (depth : ℕ) (es : List Entry) (ms : Members) → AreEntries depth es → AreMembers ms → AreMembers (close_members es ms)
are-close_members depth [] ms h m = m
are-close_members depth (e ∷ es) ms h m = are-close_members depth es (member e.gap e.key e.tree ms) h.0 (h.1.0, h.1.1, h.1.2, m)

pub taken-close_members : (depth : ℕ) (es : List Entry) (ms : Members) → AreEntries depth es → MembersTaken depth (entry_keys es) ms → MembersTaken depth [] (close_members es ms)
taken-close_members depth [] ms h m = m
taken-close_members depth (e ∷ es) ms h m = taken-close_members depth es (member e.gap e.key e.tree ms) h.0 (h.2, h.3, m)

pub values-close_members : (p : ℕ) (es : List Entry) (ms : Members) → members_at p [] (close_members es ms) ≡ entry_values p es ++ members_at (p + length (print_entries es)) (comma_past es) ms
values-close_members p [] ms = ap (λ n. members_at n [] ms) (let e : p ≡ p + 0 = omega arith in e)
values-close_members p (e ∷ es) ms =
    values-close_members p es (member e.gap e.key e.tree ms)
    ∙ (ap (λ n. entry_values p es ++ (member_of (string_content e.key.chars) n (value_at (n + gap) e.tree) ∷ members_at (n + gap + length (print e.tree)) (44 ∷ []) ms)) start
    ∙ (ap (λ n. entry_values p es ++ (member_of (string_content e.key.chars) (key_place p es e.gap) (value_at n e.tree) ∷ members_at (n + length (print e.tree)) (44 ∷ []) ms)) middle
    ∙ (ap (λ n. entry_values p es ++ (entry_member p es e ∷ members_at n (44 ∷ []) ms)) end
    ∙ sym (append_assoc (entry_values p es) (entry_member p es e ∷ []) (members_at (p + length (print_entries (e ∷ es))) (44 ∷ []) ms)))))
  where
    gap : ℕ
    gap = length (print_string e.key.chars ++ print_colon e.key.gap)

    before : ℕ
    before = p + length (print_entries es ++ print_head e.gap (comma_past es) e.key)

    start : p + length (print_entries es) + length (print_separator e.gap (comma_past es)) ≡ key_place p es e.gap
    start = omega (arith, length-append (print_entries es) (print_separator e.gap (comma_past es)))

    middle : key_place p es e.gap + length (print_string e.key.chars ++ print_colon e.key.gap) ≡ p + length (print_entries es ++ print_head e.gap (comma_past es) e.key)
    middle = omega (arith, length-append (print_entries es) (print_separator e.gap (comma_past es)), length-append (print_entries es) (print_head e.gap (comma_past es) e.key), length-append (print_separator e.gap (comma_past es)) (print_string e.key.chars ++ print_colon e.key.gap))

    end : p + length (print_entries es ++ print_head e.gap (comma_past es) e.key) + length (print e.tree) ≡ p + length (print_entries (e ∷ es))
    end = omega (arith, length-append (print_entries es) (print_head e.gap (comma_past es) e.key), length-append (print_entries es) (print_head e.gap (comma_past es) e.key ++ print e.tree), length-append (print_head e.gap (comma_past es) e.key) (print e.tree))
