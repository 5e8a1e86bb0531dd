-- What a text looks like up to the byte that the reader stands at.
use Rattle.std.proofs.Common.{◌≡◌, [], ◌∷◌, ◌++◌, ℕ, suc, ◌+◌, ◌<◌, true, false, List, length, map, refl, ap, sym, ◌∙◌, subst, append_assoc}
use Rattle.ordered_json.specs.declared.TheConstants.{MAX_LEVELS}
use Rattle.ordered_json.specs.declared.json.Member.{Member}
use Rattle.ordered_json.specs.declared.json.OrderedJson.{OrderedJson}
use Rattle.ordered_json.specs.declared.level.Level.{Level}
use Rattle.ordered_json.specs.declared.level.Level.TheVariants as level
use Rattle.ordered_json.specs.Words.{key_of}
use Rattle.ordered_json.specs.Grammar.{is_blank, Char, AreChars, IsSpace, print_string, Tree, array, object, no_elements, element, no_members, member, print, print_separator, Gap, IsGap, IsTree, null, IsPrinted}
use Rattle.ordered_json.specs.Meaning.{string_content, value_at, has_key, IsTaken, HasValue}
use Rattle.ordered_json.specs.Faults.{Begins, BeginsFaultless}
use Rattle.ordered_json.proofs.StateLemmas.{Ready}
use Rattle.ordered_json.proofs.FrontLemmas.{gap_of, key_with, Item, comma_after, print_items, AreItems, item_values, close, print-close, are-close, taken-close, Entry, comma_past, print_entries, entry_keys, AreEntries, entry_values, close_members, keys-entries, print-close_members, are-close_members, taken-close_members}

-- `text` is an open array's up to its last element; `outside` says what stands before its bracket
pub record ListText (outside : List ℕ → Type 0) (depth p : ℕ) (items : List OrderedJson) (is : List Item) (text : List ℕ) : Type 0 where
  pub outer : List ℕ
  pub stands : outside outer
  pub place : p ≡ length outer
  pub room : depth < MAX_LEVELS
  pub are : AreItems (suc depth) is
  pub values : items ≡ item_values (p + 1) is
  pub printed : text ≡ outer ++ 91 ∷ print_items is

-- an open object's, likewise
pub record ObjectText (outside : List ℕ → Type 0) (depth p : ℕ) (members : List Member) (es : List Entry) (text : List ℕ) : Type 0 where
  pub outer : List ℕ
  pub stands : outside outer
  pub place : p ≡ length outer
  pub room : depth < MAX_LEVELS
  pub are : AreEntries (suc depth) es
  pub values : members ≡ entry_values (p + 1) es
  pub printed : text ≡ outer ++ 123 ∷ print_entries es

-- an element is awaited
pub record ListAwaits (outside : List ℕ → Type 0) (depth p : ℕ) (items : List OrderedJson) (text : List ℕ) : Type 0 where
  pub is : List Item
  pub front : List ℕ
  pub inside : ListText outside depth p items is front
  pub gap : Gap
  pub white : IsGap gap
  pub printed : text ≡ front ++ print_separator gap (comma_after is)

-- a key is awaited
pub record KeyAwaits (outside : List ℕ → Type 0) (depth p : ℕ) (members : List Member) (text : List ℕ) : Type 0 where
  pub es : List Entry
  pub front : List ℕ
  pub inside : ObjectText outside depth p members es front
  pub gap : Gap
  pub white : IsGap gap
  pub printed : text ≡ front ++ print_separator gap (comma_past es)

-- a key is read, and white space
pub record ColonAwaits (outside : List ℕ → Type 0) (depth p : ℕ) (members : List Member) (key : List ℕ) (key_at : ℕ) (text : List ℕ) : Type 0 where
  pub before : List ℕ
  pub awaited : KeyAwaits outside depth p members before
  pub chars : List Char
  pub gap : List ℕ
  pub are : AreChars chars
  pub fresh : has_key (string_content chars) (map key_of members) ≡ false
  pub white : IsSpace gap
  pub key_is : key ≡ string_content chars
  pub place : key_at ≡ length before
  pub printed : text ≡ before ++ (print_string chars ++ gap)

-- the value of a key is awaited
pub record MemberAwaits (outside : List ℕ → Type 0) (depth p : ℕ) (members : List Member) (key : List ℕ) (key_at : ℕ) (text : List ℕ) : Type 0 where
  pub before : List ℕ
  pub named : ColonAwaits outside depth p members key key_at before
  pub gap' : List ℕ
  pub white' : IsSpace gap'
  pub printed : text ≡ before ++ 58 ∷ gap'

-- a value is awaited inside these levels
abbrev pub Awaits : List Level → List ℕ → Type 0
Awaits [] text = IsSpace text
Awaits (level.List p items ∷ ls) text = ListAwaits (Awaits ls) (length ls) p items text
Awaits (level.Object p members ∷ ls) text = ⊥
Awaits (level.Member p members key key_at ∷ ls) text = MemberAwaits (Awaits ls) (length ls) p members key key_at text

-- ---- white space
pub space-snoc : (s : List ℕ) (b : ℕ) → IsSpace s → is_blank b ≡ true → IsSpace (s ++ b ∷ [])
space-snoc [] b h e = (e, tt)
space-snoc (c ∷ s) b h e = (h.0, space-snoc s b h.1 e)

-- one byte more at the end of the last of two and of three parts
pub snoc-two : (a c : List ℕ) (b : ℕ) → (a ++ c) ++ b ∷ [] ≡ a ++ (c ++ b ∷ [])
snoc-two a c b = append_assoc a c (b ∷ [])

print_separator-snoc : (g : Gap) (mark : List ℕ) (b : ℕ) → print_separator g mark ++ b ∷ [] ≡ print_separator (gap_of g.before (g.after ++ b ∷ [])) mark
print_separator-snoc g mark b = append_assoc g.before (mark ++ g.after) (b ∷ []) ∙ ap (λ w. g.before ++ w) (append_assoc mark g.after (b ∷ []))

list_awaits-blank : {outside : List ℕ → Type 0} {depth p : ℕ} {items : List OrderedJson} (text : List ℕ) (b : ℕ) → is_blank b ≡ true → ListAwaits outside depth p items text → ListAwaits outside depth p items (text ++ b ∷ [])
list_awaits-blank text b e a = record {
  is = a.is;
  front = a.front;
  inside = a.inside;
  gap = gap_of a.gap.before (a.gap.after ++ b ∷ []);
  white = (a.white.0, space-snoc a.gap.after b a.white.1 e);
  printed = ap (λ w. w ++ b ∷ []) a.printed ∙ (snoc-two a.front (print_separator a.gap (comma_after a.is)) b ∙ ap (λ w. a.front ++ w) (print_separator-snoc a.gap (comma_after a.is) b));
}

pub key_awaits-blank : {outside : List ℕ → Type 0} {depth p : ℕ} {members : List Member} (text : List ℕ) (b : ℕ) → is_blank b ≡ true → KeyAwaits outside depth p members text → KeyAwaits outside depth p members (text ++ b ∷ [])
key_awaits-blank text b e a = record {
  es = a.es;
  front = a.front;
  inside = a.inside;
  gap = gap_of a.gap.before (a.gap.after ++ b ∷ []);
  white = (a.white.0, space-snoc a.gap.after b a.white.1 e);
  printed = ap (λ w. w ++ b ∷ []) a.printed ∙ (snoc-two a.front (print_separator a.gap (comma_past a.es)) b ∙ ap (λ w. a.front ++ w) (print_separator-snoc a.gap (comma_past a.es) b));
}

pub colon_awaits-blank : {outside : List ℕ → Type 0} {depth p : ℕ} {members : List Member} {key : List ℕ} {key_at : ℕ} (text : List ℕ) (b : ℕ) → is_blank b ≡ true → ColonAwaits outside depth p members key key_at text → ColonAwaits outside depth p members key key_at (text ++ b ∷ [])
colon_awaits-blank text b e a = record {
  before = a.before;
  awaited = a.awaited;
  chars = a.chars;
  gap = a.gap ++ b ∷ [];
  are = a.are;
  fresh = a.fresh;
  white = space-snoc a.gap b a.white e;
  key_is = a.key_is;
  place = a.place;
  printed = ap (λ w. w ++ b ∷ []) a.printed ∙ (snoc-two a.before (print_string a.chars ++ a.gap) b ∙ ap (λ w. a.before ++ w) (append_assoc (print_string a.chars) a.gap (b ∷ [])));
}

member_awaits-blank : {outside : List ℕ → Type 0} {depth p : ℕ} {members : List Member} {key : List ℕ} {key_at : ℕ} (text : List ℕ) (b : ℕ) → is_blank b ≡ true → MemberAwaits outside depth p members key key_at text → MemberAwaits outside depth p members key key_at (text ++ b ∷ [])
member_awaits-blank text b e a = record {
  before = a.before;
  named = a.named;
  gap' = a.gap' ++ b ∷ [];
  white' = space-snoc a.gap' b a.white' e;
  printed = ap (λ w. w ++ b ∷ []) a.printed ∙ snoc-two a.before (58 ∷ a.gap') b;
}

pub awaits-blank : (ls : List Level) (text : List ℕ) (b : ℕ) → is_blank b ≡ true → Awaits ls text → Awaits ls (text ++ b ∷ [])
awaits-blank [] text b e a = space-snoc text b a e
awaits-blank (level.List p items ∷ ls) text b e a = list_awaits-blank text b e a
awaits-blank (level.Object p members ∷ ls) text b e a = a
awaits-blank (level.Member p members key key_at ∷ ls) text b e a = member_awaits-blank text b e a

pub awaits-ready : (ls : List Level) (text : List ℕ) → Awaits ls text → Ready ls
awaits-ready [] text a = tt
awaits-ready (level.List p items ∷ ls) text a = awaits-ready ls a.inside.outer a.inside.stands
awaits-ready (level.Object p members ∷ ls) text a = a
awaits-ready (level.Member p members key key_at ∷ ls) text a = awaits-ready ls a.named.awaited.inside.outer a.named.awaited.inside.stands

-- ---- what can follow: a value, and the brackets that close
pub faultless-front : (front back : List ℕ) → BeginsFaultless (front ++ back) → BeginsFaultless front
faultless-front front back h = (back ++ h.0, h.1, subst (λ w. HasValue w h.1) (append_assoc front back h.0) h.2)

pub faultless-is : (a b : List ℕ) → a ≡ b → BeginsFaultless a → BeginsFaultless b
faultless-is a b e h = subst BeginsFaultless e h

-- an array that ends after one more element
array_with : (depth p : ℕ) (items : List OrderedJson) (text : List ℕ) (outside : List ℕ → Type 0) (a : ListAwaits outside depth p items text) (t : Tree) → text ++ (print t ++ 93 ∷ []) ≡ a.inside.outer ++ print (array (close a.is (element a.gap t (no_elements []))))
array_with depth p items text outside a t =
    let l = print_separator a.gap (comma_after a.is) in
    ap (λ w. w ++ (print t ++ 93 ∷ [])) (a.printed ∙ ap (λ w. w ++ l) a.inside.printed)
    ∙ (append_assoc (a.inside.outer ++ 91 ∷ print_items a.is) l (print t ++ 93 ∷ [])
    ∙ (append_assoc a.inside.outer (91 ∷ print_items a.is) (l ++ (print t ++ 93 ∷ []))
    ∙ ap (λ w. a.inside.outer ++ 91 ∷ w) (sym (print-close a.is (element a.gap t (no_elements []))))))

-- an object that ends after the value of its last key
object_with : (depth p : ℕ) (members : List Member) (key : List ℕ) (key_at : ℕ) (text : List ℕ) (outside : List ℕ → Type 0) (a : MemberAwaits outside depth p members key key_at text) (t : Tree) → text ++ (print t ++ 125 ∷ []) ≡ a.named.awaited.inside.outer ++ print (object (close_members a.named.awaited.es (member a.named.awaited.gap (key_with a.named.chars a.named.gap a.gap') t (no_members []))))
object_with depth p members key key_at text outside a t =
    let n = a.named in
    let k = a.named.awaited in
    let l = print_separator k.gap (comma_past k.es) in
    let s = print_string n.chars in
    let rest = print t ++ 125 ∷ [] in
    ap (λ w. w ++ rest) (a.printed ∙ ap (λ w. w ++ 58 ∷ a.gap') (n.printed ∙ ap (λ w. w ++ (s ++ n.gap)) (k.printed ∙ ap (λ w. w ++ l) k.inside.printed)))
    ∙ (append_assoc (((k.inside.outer ++ 123 ∷ print_entries k.es) ++ l) ++ (s ++ n.gap)) (58 ∷ a.gap') rest
    ∙ (append_assoc ((k.inside.outer ++ 123 ∷ print_entries k.es) ++ l) (s ++ n.gap) (58 ∷ (a.gap' ++ rest))
    ∙ (append_assoc (k.inside.outer ++ 123 ∷ print_entries k.es) l ((s ++ n.gap) ++ 58 ∷ (a.gap' ++ rest))
    ∙ (append_assoc k.inside.outer (123 ∷ print_entries k.es) (l ++ ((s ++ n.gap) ++ 58 ∷ (a.gap' ++ rest)))
    ∙ (ap (λ w. k.inside.outer ++ 123 ∷ (print_entries k.es ++ (l ++ w))) (append_assoc s n.gap (58 ∷ (a.gap' ++ rest)) ∙ ap (λ w. s ++ w) (sym (append_assoc n.gap (58 ∷ a.gap') rest)))
    ∙ ap (λ w. k.inside.outer ++ 123 ∷ w) (sym (print-close_members k.es (member k.gap (key_with n.chars n.gap a.gap') t (no_members [])))))))))

-- a text that goes on with a value: the rest of a JSON text, in which nothing is refused where nothing is in the value
pub record Plugged (text : List ℕ) (t : Tree) (depth : ℕ) : Type 0 where
  pub rest : List ℕ
  pub before : List ℕ
  pub tree : Tree
  pub after : List ℕ
  pub is : IsPrinted ((text ++ print t) ++ rest) before tree after
  pub taken : IsTaken depth t → IsTaken 0 tree

-- the value, and the bracket that closes what stands around it
widened : (text outer : List ℕ) (t whole : Tree) (d e bracket : ℕ) → (text ++ print t) ++ bracket ∷ [] ≡ outer ++ print whole → (IsTaken d t → IsTaken e whole) → Plugged outer whole e → Plugged text t d
widened text outer t whole d e bracket bytes taken h = record {
  rest = bracket ∷ h.rest;
  before = h.before;
  tree = h.tree;
  after = h.after;
  is = subst (λ w. IsPrinted w h.before h.tree h.after) (ap (λ w. w ++ h.rest) (sym bytes) ∙ append_assoc (text ++ print t) (bracket ∷ []) h.rest) h.is;
  taken = λ x. h.taken (taken x);
}

pub plugged : (ls : List Level) (text : List ℕ) → Awaits ls text → (t : Tree) → IsTree t → Plugged text t (length ls)
plugged [] text a t h = record { rest = []; before = text; tree = t; after = []; is = record { white_before = a; well_formed = h; white_after = tt; printed = append_assoc text (print t) [] }; taken = λ x. x }
plugged (level.List p items ∷ ls) text a t h =
    let last = element a.gap t (no_elements []) in
    let whole = array (close a.is last) in
    widened text a.inside.outer t whole (suc (length ls)) (length ls) 93
    (append_assoc text (print t) (93 ∷ []) ∙ array_with (length ls) p items text (Awaits ls) a t)
    (λ taken. (a.inside.room, taken-close (suc (length ls)) a.is last a.inside.are (taken, tt)))
    (plugged ls a.inside.outer a.inside.stands whole (are-close (suc (length ls)) a.is last a.inside.are (a.white, h, tt)))
plugged (level.Object p members ∷ ls) text a t h = absurd a
plugged (level.Member p members key key_at ∷ ls) text a t h =
    let n = a.named in
    let k = a.named.awaited in
    let last = member k.gap (key_with n.chars n.gap a.gap') t (no_members []) in
    let whole = object (close_members k.es last) in
    let fresh : has_key (string_content n.chars) (entry_keys k.es) ≡ false = subst (λ ks. has_key (string_content n.chars) ks ≡ false) (ap (map key_of) k.inside.values ∙ keys-entries (p + 1) k.es) n.fresh in
    widened text k.inside.outer t whole (suc (length ls)) (length ls) 125
    (append_assoc text (print t) (125 ∷ []) ∙ object_with (length ls) p members key key_at text (Awaits ls) a t)
    (λ taken. (k.inside.room, taken-close_members (suc (length ls)) k.es last k.inside.are (fresh, taken, tt)))
    (plugged ls k.inside.outer k.inside.stands whole (are-close_members (suc (length ls)) k.es last k.inside.are (k.white, (n.are, (n.white, a.white')), h, tt)))

pub plug : (ls : List Level) (text : List ℕ) → Awaits ls text → (t : Tree) → IsTree t → IsTaken (length ls) t → BeginsFaultless (text ++ print t)
plug ls text a t h taken =
    let p = plugged ls text a t h in
    (p.rest, value_at (length p.before) p.tree, (p.before, p.tree, p.after, p.is, p.taken taken, refl))

pub plug_json : (ls : List Level) (text : List ℕ) → Awaits ls text → (t : Tree) → IsTree t → Begins (text ++ print t)
plug_json ls text a t h = let p = plugged ls text a t h in (p.rest, (p.before, p.tree, p.after, p.is))

-- an object that ends after one more key and `null`, whether it has the key or not
pub plug_key : (ls : List Level) (q : ℕ) (members : List Member) (text : List ℕ) → KeyAwaits (Awaits ls) (length ls) q members text → (cs : List Char) → AreChars cs → Begins (text ++ print_string cs)
plug_key ls q members text k cs h =
    let last = member k.gap (key_with cs [] []) null (no_members []) in
    let whole = object (close_members k.es last) in
    let l = print_separator k.gap (comma_past k.es) in
    let s = print_string cs in
    let tail = 58 ∷ (print null ++ 125 ∷ []) in
    let bytes : text ++ (s ++ tail) ≡ k.inside.outer ++ print whole =
    ap (λ w. w ++ (s ++ tail)) (k.printed ∙ ap (λ w. w ++ l) k.inside.printed)
    ∙ (append_assoc (k.inside.outer ++ 123 ∷ print_entries k.es) l (s ++ tail)
    ∙ (append_assoc k.inside.outer (123 ∷ print_entries k.es) (l ++ (s ++ tail))
    ∙ ap (λ w. k.inside.outer ++ 123 ∷ w) (sym (print-close_members k.es last)))) in
    let p = plugged ls k.inside.outer k.inside.stands whole (are-close_members (suc (length ls)) k.es last k.inside.are (k.white, (h, (tt, tt)), tt, tt)) in (
      tail ++ p.rest,
      (
        p.before,
        p.tree,
        p.after,
        subst (λ w. IsPrinted w p.before p.tree p.after)
            (ap (λ w. w ++ p.rest) (sym bytes) ∙ (ap (λ w. w ++ p.rest) (sym (append_assoc text s tail)) ∙ append_assoc (text ++ s) tail p.rest)) p.is,
      ),
    )
