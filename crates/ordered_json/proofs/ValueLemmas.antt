-- A value is read: the text so far, and how it can go on.
use Rattle.std.proofs.Common.{◌≡◌, [], ◌∷◌, ◌++◌, ℕ, suc, ◌+◌, false, List, length, map, Some, None, refl, ap, sym, ◌∙◌, arith, subst, append_assoc, append-nil, length-append}
use Rattle.ordered_json.specs.declared.json.Member.{Member}
use Rattle.ordered_json.specs.declared.json.OrderedJson.{OrderedJson, List as a_list, Object}
use Rattle.ordered_json.specs.declared.level.Level.{Level}
use Rattle.ordered_json.specs.declared.level.Level.TheVariants as level
use Rattle.ordered_json.specs.declared.mode.Mode.TheVariants as mode
use Rattle.ordered_json.specs.declared.reader.Reader.{Reader}
use Rattle.ordered_json.specs.Words.{key_of, member_of}
use Rattle.ordered_json.specs.Grammar.{Char, AreChars, IsSpace, print_string, Tree, null, array, object, no_elements, no_members, print, print_separator, print_colon, IsTree}
use Rattle.ordered_json.specs.Meaning.{string_content, value_at, has_key, IsTaken, HasValue}
use Rattle.ordered_json.specs.Faults.{BeginsFaultless, AwaitsValue, AwaitsKey}
use Rattle.ordered_json.proofs.StateLemmas.{state, finished}
use Rattle.ordered_json.proofs.FrontLemmas.{gap_of, key_with, Item, comma_after, print_items, item_values, close, print-close, are-close, taken-close, values-close, Entry, comma_past, print_entries, entry_values, close_members, keys-entries, print-close_members, are-close_members, taken-close_members, values-close_members}
use Rattle.ordered_json.proofs.PrefixLemmas.{ListText, ObjectText, KeyAwaits, ColonAwaits, Awaits, awaits-blank, key_awaits-blank, faultless-front, faultless-is, plug}
use Rattle.ordered_json.proofs.FreshKeyLemmas.{fresh_after}

-- an array that has elements, and white space
pub record ListAfter (ls : List Level) (p : ℕ) (items : List OrderedJson) (text : List ℕ) : Type 0 where
  pub last : Item
  pub is : List Item
  pub front : List ℕ
  pub inside : ListText (Awaits ls) (length ls) p items (last ∷ is) front
  pub space : List ℕ
  pub white : IsSpace space
  pub printed : text ≡ front ++ space

pub record ObjectAfter (ls : List Level) (p : ℕ) (members : List Member) (text : List ℕ) : Type 0 where
  pub last : Entry
  pub es : List Entry
  pub front : List ℕ
  pub inside : ObjectText (Awaits ls) (length ls) p members (last ∷ es) front
  pub space : List ℕ
  pub white : IsSpace space
  pub printed : text ≡ front ++ space

-- the reader after a value
pub data AfterValue (text : List ℕ) : Reader → Type 0 where
  after_all : {json : OrderedJson} → HasValue text json → AfterValue text (state mode.After [] (Some json))
  after_item : {ls : List Level} {p : ℕ} {items : List OrderedJson} → ListAfter ls p items text → AfterValue text (state mode.After (level.List p items ∷ ls) None)
  after_entry : {ls : List Level} {p : ℕ} {members : List Member} → ObjectAfter ls p members text → AfterValue text (state mode.After (level.Object p members ∷ ls) None)

item_place : (outer : List ℕ) (is : List Item) (l : List ℕ) (p : ℕ) (front text : List ℕ) → p ≡ length outer → front ≡ outer ++ 91 ∷ print_items is → text ≡ front ++ l → p + 1 + length (print_items is ++ l) ≡ length text
item_place outer is l p front text e f g =
    omega (arith, e, ap length g, ap length f, length-append front l, length-append outer (91 ∷ print_items is), length-append (print_items is) l)

item_bytes : (outer body l t : List ℕ) (front text : List ℕ) (bracket : ℕ) → front ≡ outer ++ bracket ∷ body → text ≡ front ++ l → text ++ t ≡ outer ++ bracket ∷ (body ++ (l ++ t))
item_bytes outer body l t front text bracket f g =
    ap (λ w. w ++ t) (g ∙ ap (λ w. w ++ l) f)
    ∙ (append_assoc (outer ++ bracket ∷ body) l t ∙ append_assoc outer (bracket ∷ body) (l ++ t))

pub finished_after : (ls : List Level) (text : List ℕ) → Awaits ls text → (t : Tree) → IsTree t → IsTaken (length ls) t → AfterValue (text ++ print t) (finished (value_at (length text) t) ls None)
finished_after [] text a t h taken = after_all (text, t, [], record { white_before = a; well_formed = h; white_after = tt; printed = ap (λ w. text ++ w) (sym (append-nil (print t))) }, taken, refl)
finished_after (level.List p items ∷ ls) text a t h taken =
    let l = print_separator a.gap (comma_after a.is) in
    after_item (record {
      last = record { gap = a.gap; tree = t };
      is = a.is;
      front = text ++ print t;
      inside = record {
        outer = a.inside.outer;
        stands = a.inside.stands;
        place = a.inside.place;
        room = a.inside.room;
        are = (a.inside.are, a.white, h, taken);
        values = ap (λ js. js ++ value_at (length text) t ∷ []) a.inside.values ∙ ap (λ n. item_values (p + 1) a.is ++ value_at n t ∷ []) (sym (item_place a.inside.outer a.is l p a.front text a.inside.place a.inside.printed a.printed));
        printed = item_bytes a.inside.outer (print_items a.is) l (print t) a.front text 91 a.inside.printed a.printed;
      };
      space = [];
      white = tt;
      printed = sym (append-nil (text ++ print t));
    })
finished_after (level.Object p members ∷ ls) text a t h taken = absurd a
finished_after (level.Member p members key key_at ∷ ls) text a t h taken =
    let n = a.named in
    let k = a.named.awaited in
    let l = print_separator k.gap (comma_past k.es) in
    let s = print_string n.chars in
    let gap = print_colon (gap_of n.gap a.gap') in
    let before = print_entries k.es in
    let whole : text ≡ k.inside.outer ++ 123 ∷ (before ++ (l ++ (s ++ gap))) =
    a.printed ∙ (ap (λ w. w ++ 58 ∷ a.gap') (n.printed ∙ item_bytes k.inside.outer before l (s ++ n.gap) k.front n.before 123 k.inside.printed k.printed)
    ∙ (append_assoc k.inside.outer (123 ∷ (before ++ (l ++ (s ++ n.gap)))) (58 ∷ a.gap')
    ∙ ap (λ w. k.inside.outer ++ 123 ∷ w) (append_assoc before (l ++ (s ++ n.gap)) (58 ∷ a.gap') ∙ ap (λ w. before ++ w) (append_assoc l (s ++ n.gap) (58 ∷ a.gap') ∙ ap (λ w. l ++ w) (append_assoc s n.gap (58 ∷ a.gap')))))) in
    let value_place : p + 1 + length (before ++ (l ++ (s ++ gap))) ≡ length text = omega (arith, k.inside.place, ap length whole, length-append k.inside.outer (123 ∷ (before ++ (l ++ (s ++ gap))))) in
    let key_is : key_at ≡ p + 1 + length (before ++ l) = omega (arith, n.place, k.inside.place, ap length k.printed, ap length k.inside.printed, length-append k.front l, length-append k.inside.outer (123 ∷ before), length-append before l) in
    after_entry (record {
      last = record { gap = k.gap; key = key_with n.chars n.gap a.gap'; tree = t };
      es = k.es;
      front = text ++ print t;
      inside = record {
        outer = k.inside.outer;
        stands = k.inside.stands;
        place = k.inside.place;
        room = k.inside.room;
        are = (k.inside.are, (k.white, (n.are, (n.white, a.white')), h), subst (λ ks. has_key (string_content n.chars) ks ≡ false) (ap (map key_of) k.inside.values ∙ keys-entries (p + 1) k.es) n.fresh, taken);
        values = ap (λ ms. ms ++ member_of key key_at (value_at (length text) t) ∷ []) k.inside.values
            ∙ (ap (λ c. entry_values (p + 1) k.es ++ member_of c key_at (value_at (length text) t) ∷ []) n.key_is
            ∙ (ap (λ c. entry_values (p + 1) k.es ++ member_of (string_content n.chars) c (value_at (length text) t) ∷ []) key_is
            ∙ ap (λ c. entry_values (p + 1) k.es ++ member_of (string_content n.chars) (p + 1 + length (before ++ l)) (value_at c t) ∷ []) (sym value_place)));
        printed = ap (λ w. w ++ print t) whole ∙ (append_assoc k.inside.outer (123 ∷ (before ++ (l ++ (s ++ gap)))) (print t) ∙ ap (λ w. k.inside.outer ++ 123 ∷ w) (append_assoc before (l ++ (s ++ gap)) (print t)));
      };
      space = [];
      white = tt;
      printed = sym (append-nil (text ++ print t));
    })

-- ---- arrays and objects that close
-- the whole array, with white space before its closing bracket
pub record ClosedList (ls : List Level) (p : ℕ) (items : List OrderedJson) (text : List ℕ) : Type 0 where
  pub outer : List ℕ
  pub stands : Awaits ls outer
  pub tree : Tree
  pub is_tree : IsTree tree
  pub taken : IsTaken (length ls) tree
  pub value : value_at (length outer) tree ≡ a_list p items
  pub printed : text ++ 93 ∷ [] ≡ outer ++ print tree

pub close_list_text : (ls : List Level) (p : ℕ) (items : List OrderedJson) (is : List Item) (front space text : List ℕ) → ListText (Awaits ls) (length ls) p items is front → IsSpace space → text ≡ front ++ space → ClosedList ls p items text
close_list_text ls p items is front space text h white e =
    let es = no_elements space in
    record {
      outer = h.outer;
      stands = h.stands;
      tree = array (close is es);
      is_tree = are-close (suc (length ls)) is es h.are white;
      taken = (h.room, taken-close (suc (length ls)) is es h.are tt);
      value = ap (λ js. a_list (length h.outer) js) (values-close (length h.outer + 1) is es ∙ append-nil (item_values (length h.outer + 1) is))
          ∙ (ap (λ n. a_list n (item_values (n + 1) is)) (sym h.place) ∙ ap (a_list p) (sym h.values));
      printed = item_bytes h.outer (print_items is) space (93 ∷ []) front text 91 h.printed e ∙ ap (λ w. h.outer ++ 91 ∷ w) (sym (print-close is es));
    }

pub record ClosedObject (ls : List Level) (p : ℕ) (members : List Member) (text : List ℕ) : Type 0 where
  pub outer : List ℕ
  pub stands : Awaits ls outer
  pub tree : Tree
  pub is_tree : IsTree tree
  pub taken : IsTaken (length ls) tree
  pub value : value_at (length outer) tree ≡ Object p members
  pub printed : text ++ 125 ∷ [] ≡ outer ++ print tree

pub close_object_text : (ls : List Level) (p : ℕ) (members : List Member) (es : List Entry) (front space text : List ℕ) → ObjectText (Awaits ls) (length ls) p members es front → IsSpace space → text ≡ front ++ space → ClosedObject ls p members text
close_object_text ls p members es front space text h white e =
    let ms = no_members space in
    record {
      outer = h.outer;
      stands = h.stands;
      tree = object (close_members es ms);
      is_tree = are-close_members (suc (length ls)) es ms h.are white;
      taken = (h.room, taken-close_members (suc (length ls)) es ms h.are tt);
      value = ap (λ js. Object (length h.outer) js) (values-close_members (length h.outer + 1) es ms ∙ append-nil (entry_values (length h.outer + 1) es))
          ∙ (ap (λ n. Object n (entry_values (n + 1) es)) (sym h.place) ∙ ap (Object p) (sym h.values));
      printed = item_bytes h.outer (print_entries es) space (125 ∷ []) front text 123 h.printed e ∙ ap (λ w. h.outer ++ 123 ∷ w) (sym (print-close_members es ms));
    }

pub closed_list_after : {ls : List Level} {p : ℕ} {items : List OrderedJson} (text : List ℕ) → ClosedList ls p items text → AfterValue (text ++ 93 ∷ []) (finished (a_list p items) ls None)
closed_list_after {ls} {p} {items} text c =
    subst (λ w. AfterValue w (finished (a_list p items) ls None)) (sym c.printed)
    (subst (λ j. AfterValue (c.outer ++ print c.tree) (finished j ls None)) c.value (finished_after ls c.outer c.stands c.tree c.is_tree c.taken))

pub closed_object_after : {ls : List Level} {p : ℕ} {members : List Member} (text : List ℕ) → ClosedObject ls p members text → AfterValue (text ++ 125 ∷ []) (finished (Object p members) ls None)
closed_object_after {ls} {p} {members} text c =
    subst (λ w. AfterValue w (finished (Object p members) ls None)) (sym c.printed)
    (subst (λ j. AfterValue (c.outer ++ print c.tree) (finished j ls None)) c.value (finished_after ls c.outer c.stands c.tree c.is_tree c.taken))

pub closed_list_faultless : {ls : List Level} {p : ℕ} {items : List OrderedJson} (text : List ℕ) → ClosedList ls p items text → BeginsFaultless text
closed_list_faultless {ls} text c = faultless-front text (93 ∷ []) (faultless-is (c.outer ++ print c.tree) (text ++ 93 ∷ []) (sym c.printed) (plug ls c.outer c.stands c.tree c.is_tree c.taken))

pub closed_object_faultless : {ls : List Level} {p : ℕ} {members : List Member} (text : List ℕ) → ClosedObject ls p members text → BeginsFaultless text
closed_object_faultless {ls} text c = faultless-front text (125 ∷ []) (faultless-is (c.outer ++ print c.tree) (text ++ 125 ∷ []) (sym c.printed) (plug ls c.outer c.stands c.tree c.is_tree c.taken))

pub item_after_closed : {ls : List Level} {p : ℕ} {items : List OrderedJson} (text : List ℕ) → ListAfter ls p items text → ClosedList ls p items text
item_after_closed {ls} {p} {items} text a = close_list_text ls p items (a.last ∷ a.is) a.front a.space text a.inside a.white a.printed

pub entry_after_closed : {ls : List Level} {p : ℕ} {members : List Member} (text : List ℕ) → ObjectAfter ls p members text → ClosedObject ls p members text
entry_after_closed {ls} {p} {members} text a = close_object_text ls p members (a.last ∷ a.es) a.front a.space text a.inside a.white a.printed

-- ---- how a text can go on
pub awaits_faultless : (ls : List Level) (text : List ℕ) → Awaits ls text → BeginsFaultless text
awaits_faultless ls text a = faultless-front text (print null) (plug ls text a null tt tt)

named_awaits : (ls : List Level) {p : ℕ} {members : List Member} (text : List ℕ) (cs : List Char) → KeyAwaits (Awaits ls) (length ls) p members text → AreChars cs → has_key (string_content cs) (map key_of members) ≡ false → Awaits (level.Member p members (string_content cs) (length text) ∷ ls) (text ++ (print_string cs ++ 58 ∷ []))
named_awaits ls text cs k are fresh = record {
  before = text ++ print_string cs;
  named = record { before = text; awaited = k; chars = cs; gap = []; are = are; fresh = fresh; white = tt; key_is = refl; place = refl; printed = ap (λ w. text ++ w) (sym (append-nil (print_string cs))) };
  gap' = [];
  white' = tt;
  printed = sym (append_assoc text (print_string cs) (58 ∷ []));
}

pub named_faultless : (ls : List Level) {p : ℕ} {members : List Member} (text : List ℕ) (cs : List Char) → KeyAwaits (Awaits ls) (length ls) p members text → AreChars cs → has_key (string_content cs) (map key_of members) ≡ false → BeginsFaultless (text ++ (print_string cs ++ 58 ∷ []))
named_faultless ls {p} {members} text cs k are fresh = awaits_faultless (level.Member p members (string_content cs) (length text) ∷ ls) (text ++ (print_string cs ++ 58 ∷ [])) (named_awaits ls text cs k are fresh)

pub key_awaits_faultless : (ls : List Level) {p : ℕ} {members : List Member} (text : List ℕ) → KeyAwaits (Awaits ls) (length ls) p members text → BeginsFaultless text
key_awaits_faultless ls {members = members} text k =
    let f = fresh_after [] (map key_of members) in
    faultless-front text (print_string f.more ++ 58 ∷ []) (named_faultless ls text f.more k f.are f.fresh)

pub colon_awaits_faultless : (ls : List Level) {p : ℕ} {members : List Member} {key : List ℕ} {key_at : ℕ} (text : List ℕ) → ColonAwaits (Awaits ls) (length ls) p members key key_at text → BeginsFaultless text
colon_awaits_faultless ls {p} {members} {key} {key_at} text c =
    faultless-front text (58 ∷ []) (awaits_faultless (level.Member p members key key_at ∷ ls) (text ++ 58 ∷ []) (record { before = text; named = c; gap' = []; white' = tt; printed = refl }))

pub after_faultless : (text : List ℕ) (r : Reader) → AfterValue text r → BeginsFaultless text
after_faultless text r (after_all {json = json} h) = ([], json, subst (λ w. HasValue w json) (sym (append-nil text)) h)
after_faultless text r (after_item a) = closed_list_faultless text (item_after_closed text a)
after_faultless text r (after_entry a) = closed_object_faultless text (entry_after_closed text a)

-- ---- the line feed that shows that nothing is half read
pub awaits_value : (ls : List Level) (text : List ℕ) → Awaits ls text → AwaitsValue text
awaits_value ls text a = faultless-is ((text ++ 10 ∷ []) ++ print null) (text ++ (10 ∷ print null)) (append_assoc text (10 ∷ []) (print null)) (plug ls (text ++ 10 ∷ []) (awaits-blank ls text 10 refl a) null tt tt)

pub awaits_key : (ls : List Level) {p : ℕ} {members : List Member} (text : List ℕ) → KeyAwaits (Awaits ls) (length ls) p members text → AwaitsKey text
awaits_key ls {members = members} text k =
    let f = fresh_after [] (map key_of members) in
    (f.more, f.are, faultless-is ((text ++ 10 ∷ []) ++ (print_string f.more ++ 58 ∷ [])) (text ++ (10 ∷ (print_string f.more ++ 58 ∷ []))) (append_assoc text (10 ∷ []) (print_string f.more ++ 58 ∷ [])) (named_faultless ls (text ++ 10 ∷ []) f.more (key_awaits-blank text 10 refl k) f.are f.fresh))
