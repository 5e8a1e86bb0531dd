-- The reader goes over whole values and whole texts: it reads them, or it refuses something in them.
use Rattle.std.proofs.Common.{◌≡◌, [], ◌∷◌, ◌++◌, ℕ, suc, ◌+◌, ◌<◌, Bool, true, false, ◌⊎◌, inl, inr, List, length, map, Option, None, Ok, Err, refl, ap, sym, ◌∙◌, arith, subst, append_assoc, append-nil, length-append}
use Rattle.std.specs.Prelude.{nat_lt}
use Rattle.std.proofs.lemmas.Bool.Decides.{nat_tests}
use Rattle.std.proofs.lemmas.List.{map-append}
use Rattle.ordered_json.specs.declared.TheConstants.{MAX_LEVELS}
use Rattle.ordered_json.specs.declared.fault.JsonFault.{JsonFault}
use Rattle.ordered_json.specs.declared.fault.JsonFault.TheVariants.{DoubleKey, Fraction, Range, TooDeep}
use Rattle.ordered_json.specs.declared.json.Member.{Member}
use Rattle.ordered_json.specs.declared.json.OrderedJson.{OrderedJson, List as a_list, Object}
use Rattle.ordered_json.specs.declared.level.Level.{Level}
use Rattle.ordered_json.specs.declared.level.Level.TheVariants as level
use Rattle.ordered_json.specs.declared.mode.Mode.TheVariants as mode
use Rattle.ordered_json.specs.Words.{key_of, member_of}
use Rattle.ordered_json.specs.Grammar.{IsSpace, with_minus, print_string, Tree, null, boolean, number, string, array, object, Elements, no_elements, element, Members, no_members, member, print, print_elements, print_members, print_separator, print_colon, Gap, Key, IsGap, IsKey, IsTree, AreElements, AreMembers, IsPrinted}
use Rattle.ordered_json.specs.Meaning.{magnitude, fits, string_content, value_at, items_at, members_at, has_key, IsTaken, ElementsTaken, MembersTaken}
use Rattle.ordered_json.specs.Faults.{is_mark, EndsNumber}
use Rattle.ordered_json.specs.Steps.{take_byte, settle, reader_answer, start}
use Rattle.ordered_json.proofs.KeyLemmas.{key_of-member_of}
use Rattle.ordered_json.proofs.RunLemmas.{Answers, by_step, by_same, by_place, by_bytes, by_fault}
use Rattle.ordered_json.proofs.StateLemmas.{state, Ready, finished, awaiting}
use Rattle.ordered_json.proofs.LiteralLemmas.{Answer, Waits, awaiting_waits, spaces, reads_null, reads_true, reads_false}
use Rattle.ordered_json.proofs.NumberLemmas.{number_read, number_ends, number_too_large, number_marked}
use Rattle.ordered_json.proofs.TokenLemmas.{IsRefusal, Reads, string_read, key_read, key_refused, comma_of, ends_blank, ends_elements, ends_members, list_mode, list_waits, object_mode, object_waits, list_closes, object_closes, list_lead, object_lead, colon_read, list_opens, object_opens, list_too_deep, object_too_deep}

-- ---- numbers
plain_number : (f minus : Bool) (ds : List ℕ) (p : ℕ) (rest : List ℕ) (ls : List Level) (o : Option OrderedJson) (x : Answer) (fit : Bool) → fits minus (magnitude ds) ≡ fit → IsTree (number minus ds [] []) → Ready ls → EndsNumber rest → Answers (p + length (print (number minus ds [] []))) rest (Ok (finished (value_at p (number minus ds [] [])) ls o)) x → Reads (IsTaken (length ls) (number minus ds [] [])) p (print (number minus ds [] []) ++ rest) (Ok (state (awaiting f) ls o)) x
plain_number f minus ds p rest ls o x true e h r ends a =
    inl (by_bytes (append_assoc (with_minus minus ds) [] rest)
    (number_read f minus ds h.0 (λ m is. number_ends rest is r e ends (by_place {q = p + length (with_minus minus ds ++ [])} (omega (arith, ap length (append-nil (with_minus minus ds)))) a))))
plain_number f minus ds p rest ls o x false e h r ends a =
    inr (
      λ taken. (let clash : true ≡ false = sym taken.2 ∙ e in cc),
      Range p,
      tt,
      by_bytes (append_assoc (with_minus minus ds) [] rest) (number_read f minus ds h.0 (λ m is. number_too_large rest is e ends)),
    )

is_mark_at : (b c : ℕ) → b ≡ c → is_mark c ≡ true → is_mark b ≡ true
is_mark_at b c e h = subst (λ n. is_mark n ≡ true) (sym e) h

number_tree : (f minus : Bool) (ds fraction exponent : List ℕ) (p : ℕ) (rest : List ℕ) (ls : List Level) (o : Option OrderedJson) (x : Answer) → IsTree (number minus ds fraction exponent) → Ready ls → EndsNumber rest → Answers (p + length (print (number minus ds fraction exponent))) rest (Ok (finished (value_at p (number minus ds fraction exponent)) ls o)) x → Reads (IsTaken (length ls) (number minus ds fraction exponent)) p (print (number minus ds fraction exponent) ++ rest) (Ok (state (awaiting f) ls o)) x
number_tree f minus ds [] [] p rest ls o x h r ends a = plain_number f minus ds p rest ls o x (fits minus (magnitude ds)) refl h r ends a
number_tree f minus ds [] (b ∷ bs) p rest ls o x h r ends a =
    inr (
      λ taken. (let none : b ∷ bs ≡ [] = taken.1 in cc),
      Fraction p,
      tt,
      by_bytes (append_assoc (with_minus minus ds) (b ∷ bs) rest) (number_read f minus ds h.0 (λ m is. number_marked is (elim h.2.0 as (λ _. is_mark b ≡ true) [ inl e ↦ is_mark_at b 101 e refl | inr e ↦ is_mark_at b 69 e refl ]))),
    )
number_tree f minus ds (b ∷ bs) exponent p rest ls o x h r ends a =
    inr (
      λ taken. (let none : b ∷ bs ≡ [] = taken.0 in cc),
      Fraction p,
      tt,
      by_bytes (append_assoc (with_minus minus ds) (b ∷ (bs ++ exponent)) rest) (number_read f minus ds h.0 (λ m is. number_marked is (is_mark_at b 46 h.1.0 refl))),
    )

-- ---- arrays
deeper : (n : ℕ) → nat_lt n MAX_LEVELS ≡ false → n < MAX_LEVELS → ⊥
deeper n h l = let t : nat_lt n MAX_LEVELS ≡ true = grind (arith, nat_tests) in let clash : true ≡ false = sym t ∙ h in cc

array_from : (f : Bool) (es : Elements) (p : ℕ) (rest : List ℕ) (ls : List Level) (o : Option OrderedJson) (x : Answer) (room : Bool) → nat_lt (length ls) MAX_LEVELS ≡ room → Reads (ElementsTaken (suc (length ls)) es) (p + 1) (print_elements [] es ++ rest) (Ok (state mode.FirstItem (level.List p [] ∷ ls) o)) x → Reads (IsTaken (length ls) (array es)) p (print (array es) ++ rest) (Ok (state (awaiting f) ls o)) x
array_from f es p rest ls o x true e (inl a) = inl (by_step (list_opens f p ls o e) a)
array_from f es p rest ls o x true e (inr b) = inr (λ taken. b.0 taken.1, b.1, b.2, by_step (list_opens f p ls o e) b.3)
array_from f es p rest ls o x false e reads = inr (λ taken. deeper (length ls) e taken.0, TooDeep p, tt, by_step (list_too_deep f p ls o e) (by_fault refl))

element_bytes : (front body back rest : List ℕ) → (front ++ (body ++ back)) ++ rest ≡ front ++ (body ++ (back ++ rest))
element_bytes front body back rest = append_assoc front (body ++ back) rest ∙ ap (λ w. front ++ w) (append_assoc body back rest)

element_length : (front body back : List ℕ) → length (front ++ (body ++ back)) ≡ length front + length body + length back
element_length front body back = omega (arith, length-append front (body ++ back), length-append body back)

element_from : (f : Bool) (g : Gap) (t : Tree) (es : Elements) (p : ℕ) (rest : List ℕ) (q : ℕ) (items : List OrderedJson) (ls : List Level) (o : Option OrderedJson) (x : Answer) → IsGap g
    → ((y : Answer) → Answers (p + length (print_separator g (comma_of f)) + length (print t)) (print_elements (44 ∷ []) es ++ rest) (Ok (state mode.After (level.List q (items ++ value_at (p + length (print_separator g (comma_of f))) t ∷ []) ∷ ls) o)) y → Reads (IsTaken (suc (length ls)) t) (p + length (print_separator g (comma_of f))) (print t ++ (print_elements (44 ∷ []) es ++ rest)) (Ok (state (awaiting f) (level.List q items ∷ ls) o)) y)
    → Reads (ElementsTaken (suc (length ls)) es) (p + length (print_separator g (comma_of f)) + length (print t)) (print_elements (44 ∷ []) es ++ rest) (Ok (state mode.After (level.List q (items ++ value_at (p + length (print_separator g (comma_of f))) t ∷ []) ∷ ls) o)) x
    → Reads (ElementsTaken (suc (length ls)) (element g t es)) p (print_elements (comma_of f) (element g t es) ++ rest) (Ok (state (list_mode f) (level.List q items ∷ ls) o)) x
element_from f g t es p rest q items ls o x h tree (inl a) = led (tree x a)
  where
    led : Reads (IsTaken (suc (length ls)) t) (p + length (print_separator g (comma_of f))) (print t ++ (print_elements (44 ∷ []) es ++ rest)) (Ok (state (awaiting f) (level.List q items ∷ ls) o)) x → Reads (ElementsTaken (suc (length ls)) (element g t es)) p (print_elements (comma_of f) (element g t es) ++ rest) (Ok (state (list_mode f) (level.List q items ∷ ls) o)) x
    led (inl b) = inl (by_bytes (element_bytes (print_separator g (comma_of f)) (print t) (print_elements (44 ∷ []) es) rest) (list_lead f g h b))
    led (inr b) = inr (λ taken. b.0 taken.0, b.1, b.2, by_bytes (element_bytes (print_separator g (comma_of f)) (print t) (print_elements (44 ∷ []) es) rest) (list_lead f g h b.3))
element_from f g t es p rest q items ls o x h tree (inr c) = led (tree (Err c.1) c.3)
  where
    led : Reads (IsTaken (suc (length ls)) t) (p + length (print_separator g (comma_of f))) (print t ++ (print_elements (44 ∷ []) es ++ rest)) (Ok (state (awaiting f) (level.List q items ∷ ls) o)) (Err c.1) → Reads (ElementsTaken (suc (length ls)) (element g t es)) p (print_elements (comma_of f) (element g t es) ++ rest) (Ok (state (list_mode f) (level.List q items ∷ ls) o)) x
    led (inl b) = inr (λ taken. c.0 taken.1, c.1, c.2, by_bytes (element_bytes (print_separator g (comma_of f)) (print t) (print_elements (44 ∷ []) es) rest) (list_lead f g h b))
    led (inr b) = inr (λ taken. b.0 taken.0, b.1, b.2, by_bytes (element_bytes (print_separator g (comma_of f)) (print t) (print_elements (44 ∷ []) es) rest) (list_lead f g h b.3))

-- ---- objects
object_from : (f : Bool) (ms : Members) (p : ℕ) (rest : List ℕ) (ls : List Level) (o : Option OrderedJson) (x : Answer) (room : Bool) → nat_lt (length ls) MAX_LEVELS ≡ room → Reads (MembersTaken (suc (length ls)) [] ms) (p + 1) (print_members [] ms ++ rest) (Ok (state mode.FirstKey (level.Object p [] ∷ ls) o)) x → Reads (IsTaken (length ls) (object ms)) p (print (object ms) ++ rest) (Ok (state (awaiting f) ls o)) x
object_from f ms p rest ls o x true e (inl a) = inl (by_step (object_opens f p ls o e) a)
object_from f ms p rest ls o x true e (inr b) = inr (λ taken. b.0 taken.1, b.1, b.2, by_step (object_opens f p ls o e) b.3)
object_from f ms p rest ls o x false e reads = inr (λ taken. deeper (length ls) e taken.0, TooDeep p, tt, by_step (object_too_deep f p ls o e) (by_fault refl))

member_bytes : (front key gap body back rest : List ℕ) → (front ++ (key ++ (gap ++ (body ++ back)))) ++ rest ≡ front ++ (key ++ (gap ++ (body ++ (back ++ rest))))
member_bytes front key gap body back rest =
    append_assoc front (key ++ (gap ++ (body ++ back))) rest
    ∙ ap (λ w. front ++ w) (append_assoc key (gap ++ (body ++ back)) rest
    ∙ ap (λ w. key ++ w) (append_assoc gap (body ++ back) rest ∙ ap (λ w. gap ++ w) (append_assoc body back rest)))

member_length : (front key gap body back : List ℕ) → length (front ++ (key ++ (gap ++ (body ++ back)))) ≡ length front + length key + length gap + length body + length back
member_length front key gap body back = omega (arith, length-append front (key ++ (gap ++ (body ++ back))), length-append key (gap ++ (body ++ back)), length-append gap (body ++ back), length-append body back)

-- the places of a member's key and value, and of what follows
abbrev key_at : Bool → ℕ → Gap → ℕ
key_at f p g = p + length (print_separator g (comma_of f))

abbrev value_from : Bool → ℕ → Gap → Key → ℕ
value_from f p g k = key_at f p g + length (print_string k.chars ++ print_colon k.gap)

member_from : (f : Bool) (g : Gap) (k : Key) (t : Tree) (ms : Members) (p : ℕ) (rest : List ℕ) (q : ℕ) (before : List Member) (ls : List Level) (o : Option OrderedJson) (x : Answer) (known : Bool) → has_key (string_content k.chars) (map key_of before) ≡ known → IsGap g → IsKey k
    → ((y : Answer) → Answers (value_from f p g k + length (print t)) (print_members (44 ∷ []) ms ++ rest) (Ok (state mode.After (level.Object q (before ++ member_of (string_content k.chars) (key_at f p g) (value_at (value_from f p g k) t) ∷ []) ∷ ls) o)) y → Reads (IsTaken (suc (length ls)) t) (value_from f p g k) (print t ++ (print_members (44 ∷ []) ms ++ rest)) (Ok (state mode.Value (level.Member q before (string_content k.chars) (key_at f p g) ∷ ls) o)) y)
    → Reads (MembersTaken (suc (length ls)) (map key_of before ++ string_content k.chars ∷ []) ms) (value_from f p g k + length (print t)) (print_members (44 ∷ []) ms ++ rest) (Ok (state mode.After (level.Object q (before ++ member_of (string_content k.chars) (key_at f p g) (value_at (value_from f p g k) t) ∷ []) ∷ ls) o)) x
    → Reads (MembersTaken (suc (length ls)) (map key_of before) (member g k t ms)) p (print_members (comma_of f) (member g k t ms) ++ rest) (Ok (state (object_mode f) (level.Object q before ∷ ls) o)) x
member_from f g k t ms p rest q before ls o x true e h hk tree reads =
    inr (
      λ taken. (let clash : true ≡ false = sym e ∙ taken.0 in cc),
      DoubleKey (key_at f p g),
      tt,
      by_bytes (member_bytes (print_separator g (comma_of f)) (print_string k.chars) (print_colon k.gap) (print t) (print_members (44 ∷ []) ms) rest)
          (object_lead f g h (key_refused f k.chars (print_colon k.gap ++ (print t ++ (print_members (44 ∷ []) ms ++ rest))) hk.0 e)),
    )
member_from f g k t ms p rest q before ls o x false e h hk tree reads = chosen reads
  where
    goes : (y : Answer) → Answers (value_from f p g k) (print t ++ (print_members (44 ∷ []) ms ++ rest)) (Ok (state mode.Value (level.Member q before (string_content k.chars) (key_at f p g) ∷ ls) o)) y → Answers p (print_members (comma_of f) (member g k t ms) ++ rest) (Ok (state (object_mode f) (level.Object q before ∷ ls) o)) y
    goes y a =
        by_bytes (member_bytes (print_separator g (comma_of f)) (print_string k.chars) (print_colon k.gap) (print t) (print_members (44 ∷ []) ms) rest)
        (object_lead f g h (key_read f k.chars hk.0 e (colon_read k.gap hk.1 (by_place {q = value_from f p g k} (omega (arith, length-append (print_string k.chars) (print_colon k.gap))) a))))

    led : (y : Answer) → ((MembersTaken (suc (length ls)) (map key_of before) (member g k t ms) → ⊥) × (fault : JsonFault) × IsRefusal fault × (y ≡ Err fault)) ⊎ (y ≡ x) → Reads (IsTaken (suc (length ls)) t) (value_from f p g k) (print t ++ (print_members (44 ∷ []) ms ++ rest)) (Ok (state mode.Value (level.Member q before (string_content k.chars) (key_at f p g) ∷ ls) o)) y → Reads (MembersTaken (suc (length ls)) (map key_of before) (member g k t ms)) p (print_members (comma_of f) (member g k t ms) ++ rest) (Ok (state (object_mode f) (level.Object q before ∷ ls) o)) x
    led y why (inr b) = inr (λ taken. b.0 taken.1, b.1, b.2, goes (Err b.1) b.3)
    led y (inl w) (inl b) = inr (w.0, w.1, w.2, subst (λ z. Answers p (print_members (comma_of f) (member g k t ms) ++ rest) (Ok (state (object_mode f) (level.Object q before ∷ ls) o)) z) w.3 (goes y b))
    led y (inr w) (inl b) = inl (subst (λ z. Answers p (print_members (comma_of f) (member g k t ms) ++ rest) (Ok (state (object_mode f) (level.Object q before ∷ ls) o)) z) w (goes y b))

    chosen : Reads (MembersTaken (suc (length ls)) (map key_of before ++ string_content k.chars ∷ []) ms) (value_from f p g k + length (print t)) (print_members (44 ∷ []) ms ++ rest) (Ok (state mode.After (level.Object q (before ++ member_of (string_content k.chars) (key_at f p g) (value_at (value_from f p g k) t) ∷ []) ∷ ls) o)) x → Reads (MembersTaken (suc (length ls)) (map key_of before) (member g k t ms)) p (print_members (comma_of f) (member g k t ms) ++ rest) (Ok (state (object_mode f) (level.Object q before ∷ ls) o)) x
    chosen (inl a) = led x (inr refl) (tree x a)
    chosen (inr c) = led (Err c.1) (inl (λ taken. c.0 taken.2, c.1, c.2, refl)) (tree (Err c.1) c.3)

-- ---- everything
mutual
  pub tree_read : (t : Tree) (f : Bool) (p : ℕ) (rest : List ℕ) (ls : List Level) (o : Option OrderedJson) (x : Answer) → IsTree t → Ready ls → EndsNumber rest → Answers (p + length (print t)) rest (Ok (finished (value_at p t) ls o)) x → Reads (IsTaken (length ls) t) p (print t ++ rest) (Ok (state (awaiting f) ls o)) x
  tree_read null f p rest ls o x h r ends a = inl (reads_null f r a)
  tree_read (boolean true) f p rest ls o x h r ends a = inl (reads_true f r a)
  tree_read (boolean false) f p rest ls o x h r ends a = inl (reads_false f r a)
  tree_read (number minus ds fraction exponent) f p rest ls o x h r ends a = number_tree f minus ds fraction exponent p rest ls o x h r ends a
  tree_read (string cs) f p rest ls o x h r ends a = inl (string_read f cs h r a)
  tree_read (array es) f p rest ls o x h r ends a =
      array_from f es p rest ls o x (nat_lt (length ls) MAX_LEVELS) refl
      (elements_read es true (p + 1) rest ls o p [] x h r (by_place {q = p + length (print (array es))} (omega arith) a))
  tree_read (object ms) f p rest ls o x h r ends a =
      object_from f ms p rest ls o x (nat_lt (length ls) MAX_LEVELS) refl
      (members_read ms true (p + 1) rest ls o p [] x h r (by_place {q = p + length (print (object ms))} (omega arith) a))

  pub elements_read : (es : Elements) (f : Bool) (p : ℕ) (rest : List ℕ) (ls : List Level) (o : Option OrderedJson) (q : ℕ) (items : List OrderedJson) (x : Answer) → AreElements es → Ready ls → Answers (p + length (print_elements (comma_of f) es)) rest (Ok (finished (a_list q (items ++ items_at p (comma_of f) es)) ls o)) x → Reads (ElementsTaken (suc (length ls)) es) p (print_elements (comma_of f) es ++ rest) (Ok (state (list_mode f) (level.List q items ∷ ls) o)) x
  elements_read (no_elements s) f p rest ls o q items x h r a =
      inl (by_bytes (append_assoc s (93 ∷ []) rest)
      (spaces (list_waits f) s h (by_step (list_closes f (p + length s) q items ls o r)
      (by_place {q = p + length (s ++ 93 ∷ [])} (omega (arith, length-append s (93 ∷ [])))
      (by_same (ap (λ js. Ok (finished (a_list q js) ls o)) (sym (append-nil items))) a)))))
  elements_read (element g t es) f p rest ls o q items x h r a =
      let start = p + length (print_separator g (comma_of f)) in
      let v = value_at start t in
      element_from f g t es p rest q items ls o x h.0
      (λ y b. tree_read t f start (print_elements (44 ∷ []) es ++ rest) (level.List q items ∷ ls) o y h.1 r (ends_elements es rest h.2) b)
      (elements_read es false (start + length (print t)) rest ls o q (items ++ v ∷ []) x h.2 r
      (by_place {q = p + length (print_elements (comma_of f) (element g t es))} (omega (arith, element_length (print_separator g (comma_of f)) (print t) (print_elements (44 ∷ []) es)))
      (by_same (ap (λ js. Ok (finished (a_list q js) ls o)) (append_assoc items (v ∷ []) (items_at (start + length (print t)) (44 ∷ []) es))) a)))

  pub members_read : (ms : Members) (f : Bool) (p : ℕ) (rest : List ℕ) (ls : List Level) (o : Option OrderedJson) (q : ℕ) (before : List Member) (x : Answer) → AreMembers ms → Ready ls → Answers (p + length (print_members (comma_of f) ms)) rest (Ok (finished (Object q (before ++ members_at p (comma_of f) ms)) ls o)) x → Reads (MembersTaken (suc (length ls)) (map key_of before) ms) p (print_members (comma_of f) ms ++ rest) (Ok (state (object_mode f) (level.Object q before ∷ ls) o)) x
  members_read (no_members s) f p rest ls o q before x h r a =
      inl (by_bytes (append_assoc s (125 ∷ []) rest)
      (spaces (object_waits f) s h (by_step (object_closes f (p + length s) q before ls o r)
      (by_place {q = p + length (s ++ 125 ∷ [])} (omega (arith, length-append s (125 ∷ [])))
      (by_same (ap (λ js. Ok (finished (Object q js) ls o)) (sym (append-nil before))) a)))))
  members_read (member g k t ms) f p rest ls o q before x h r a =
      let start = value_from f p g k in
      let m = member_of (string_content k.chars) (key_at f p g) (value_at start t) in
      let keys : map key_of (before ++ m ∷ []) ≡ map key_of before ++ string_content k.chars ∷ [] = map-append key_of before (m ∷ []) ∙ ap (λ n. map key_of before ++ n ∷ []) (key_of-member_of (string_content k.chars) (key_at f p g) (value_at start t)) in
      member_from f g k t ms p rest q before ls o x (has_key (string_content k.chars) (map key_of before)) refl h.0 h.1
      (λ y b. tree_read t false start (print_members (44 ∷ []) ms ++ rest) (level.Member q before (string_content k.chars) (key_at f p g) ∷ ls) o y h.2 r (ends_members ms rest h.3) b)
      (subst (λ ks. Reads (MembersTaken (suc (length ls)) ks ms) (start + length (print t)) (print_members (44 ∷ []) ms ++ rest) (Ok (state mode.After (level.Object q (before ++ m ∷ []) ∷ ls) o)) x) keys
      (members_read ms false (start + length (print t)) rest ls o q (before ++ m ∷ []) x h.3 r
      (by_place {q = p + length (print_members (comma_of f) (member g k t ms))} (omega (arith, member_length (print_separator g (comma_of f)) (print_string k.chars) (print_colon k.gap) (print t) (print_members (44 ∷ []) ms), length-append (print_string k.chars) (print_colon k.gap)))
      (by_same (ap (λ js. Ok (finished (Object q js) ls o)) (append_assoc before (m ∷ []) (members_at (start + length (print t)) (44 ∷ []) ms))) a))))

-- ---- a text
after_waits : Waits mode.After
unfolding take_byte
after_waits = λ place b ls o. refl

text_ends : (place : ℕ) (json : OrderedJson) → Answers place [] (Ok (finished json [] None)) (Ok json)
unfolding settle
text_ends place json = record { is = refl }

ends_after : (after : List ℕ) → IsSpace after → EndsNumber (after ++ [])
ends_after [] h = tt
ends_after (b ∷ bs) h = ends_blank b h.0

text_read : (text before : List ℕ) (tree : Tree) (after : List ℕ) → IsPrinted text before tree after → Reads (IsTaken 0 tree) 0 text (Ok start) (Ok (value_at (length before) tree))
text_read text before tree after h = opened (tree_read tree false (length before) (after ++ []) [] None (Ok (value_at (length before) tree)) h.well_formed tt (ends_after after h.white_after) (spaces after_waits after h.white_after (text_ends (length before + length (print tree) + length after) (value_at (length before) tree))))
  where
    bytes : text ≡ before ++ (print tree ++ (after ++ []))
    bytes = h.printed ∙ ap (λ w. before ++ (print tree ++ w)) (sym (append-nil after))

    goes : (y : Answer) → Answers (length before) (print tree ++ (after ++ [])) (Ok (state mode.Value [] None)) y → Answers 0 text (Ok start) y
    goes y a = by_bytes bytes (spaces (awaiting_waits false) before h.white_before (by_place {q = length before} (omega arith) a))

    opened : Reads (IsTaken 0 tree) (length before) (print tree ++ (after ++ [])) (Ok (state mode.Value [] None)) (Ok (value_at (length before) tree)) → Reads (IsTaken 0 tree) 0 text (Ok start) (Ok (value_at (length before) tree))
    opened (inl a) = inl (goes (Ok (value_at (length before) tree)) a)
    opened (inr b) = inr (b.0, b.1, b.2, goes (Err b.1) b.3)

-- the reader's answer to a JSON text is its value, or a refusal of something that is not taken
pub answers_json : (text before : List ℕ) (tree : Tree) (after : List ℕ) → IsPrinted text before tree after → (reader_answer text ≡ Ok (value_at (length before) tree)) ⊎ ((IsTaken 0 tree → ⊥) × (fault : JsonFault) × IsRefusal fault × (reader_answer text ≡ Err fault))
answers_json text before tree after h = plainly (text_read text before tree after h)
  where
    plainly : Reads (IsTaken 0 tree) 0 text (Ok start) (Ok (value_at (length before) tree)) → (reader_answer text ≡ Ok (value_at (length before) tree)) ⊎ ((IsTaken 0 tree → ⊥) × (fault : JsonFault) × IsRefusal fault × (reader_answer text ≡ Err fault))
    plainly (inl a) = inl a.is
    plainly (inr b) = inr (b.0, b.1, b.2, b.3.is)
