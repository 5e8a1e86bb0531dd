-- What the notes of a step say of the timers and of the names.
use Rattle.std.proofs.Common.{◌≡◌, ◌≢◌, inl, inr, ℕ, suc, ◌+◌, ◌-◌, ◌<◌, ◌≤◌, Bool, true, false, cond, ◌&&◌, ◌||◌, not, true≢false, List, [], ◌∷◌, ◌++◌, length, map, refl, sym, ap, subst, ◌∙◌, arith}
use Rattle.std.specs.Prelude.{Option, None, Some, filter, nat_eq, unwrap_or, if◌then◌else◌}
use Rattle.std.specs.List.{AllByRecursion, list_any}
use Rattle.std.specs.Option.{option_map_or}
use Rattle.std.specs.Str.{bytes_eq}
use Rattle.std.proofs.lemmas.Bool.{cases_Bool, cases_eq, eqb-true, eq-eqb, ne_eqb}
use Rattle.std.proofs.lemmas.List.{append-nil, length-append}
use Rattle.office_types.specs.declared.office.OfficeState.{OfficeState}
use Rattle.office_types.specs.declared.office.Timer.{Timer}
use Rattle.office_types.specs.SystemNames.{with_holder, without_holder}
use Rattle.office_types.specs.Timers.{beside, has_id, with_scheduled, without_id, without_owner}
use Rattle.delay_queue.specs.Queue.{is_owned}
use Rattle.actor_tree.specs.HeldOffice.{timers_owned_by}
use Rattle.actor_tree.specs.Noted.{AreNamesNoted, AreTimersNoted, Noted, has_timer, is_gone_too, next_of}
use Rattle.actor_tree.proofs.NotedKidLemmas.{bytes_same, same_bytes}
use Rattle.actor_tree.proofs.NoteListLemmas.{each_filter, each_mono, each_push, filter_filter, filter_joined, filter_none, filter_same, length_split}

-- ---- counts of timers

its_owner : (owner : ℕ) (id : List ℕ) (timer : Timer) → has_id owner id timer ≡ true → timer.owner ≡ owner
its_owner owner id timer is = by_test (nat_eq timer.owner owner) refl is where
  by_test : (b : Bool) → nat_eq timer.owner owner ≡ b → (b && option_map_or (bytes_eq id) timer.id false) ≡ true → timer.owner ≡ owner
  by_test true e is = eqb-true timer.owner owner e
  by_test false e is = absurd (true≢false (sym is))

-- what a test passes is passed beside another that it passes too
pub count_beside : (p q : Timer → Bool) (timers : List Timer) → ((timer : Timer) → p timer ≡ true → q timer ≡ true) → length (filter p (filter q timers)) ≡ length (filter p timers)
count_beside p q timers passes =
    ap (λ (ts : List Timer). length ts) (filter_filter p q timers ∙ filter_same (λ (t : Timer). q t && p t) p timers (λ timer. both timer (p timer) refl (q timer) refl)) where
      both : (timer : Timer) (b : Bool) → p timer ≡ b → (c : Bool) → q timer ≡ c → (c && b) ≡ b
      both timer b is true there = refl
      both timer true is false there = absurd (true≢false (sym (passes timer is) ∙ there))
      both timer false is false there = refl

-- what it passes isn't there beside one that it doesn't pass
pub count_without : (p q : Timer → Bool) (timers : List Timer) → ((timer : Timer) → p timer ≡ true → q timer ≡ false) → length (filter p (filter q timers)) ≡ 0
count_without p q timers passes = ap (λ (ts : List Timer). length ts) (filter_filter p q timers ∙ filter_none (λ (t : Timer). q t && p t) timers (each timers)) where
  neither : (timer : Timer) (b : Bool) → p timer ≡ b → (c : Bool) → q timer ≡ c → (c && b) ≡ false
  neither timer b is false there = refl
  neither timer true is true there = absurd (true≢false (sym there ∙ passes timer is))
  neither timer false is true there = refl

  each : (ts : List Timer) → AllByRecursion (λ (t : Timer). (q t && p t) ≡ false) ts
  each [] = tt
  each (t ∷ ts) = (neither t (p t) refl (q t) refl, each ts)

count_push : (p : Timer → Bool) (timers : List Timer) (timer : Timer) → length (filter p (timers ++ timer ∷ [])) ≡ length (filter p timers) + (if p timer then 1 else 0)
count_push p timers timer =
    ap (λ (ts : List Timer). length ts) (filter_joined p timers (timer ∷ [])) ∙ length-append (filter p timers) (filter p (timer ∷ [])) ∙ ap (λ (n : ℕ). length (filter p timers) + n) (one (p timer)) where
      one : (b : Bool) → length (cond b (timer ∷ []) []) ≡ (if b then 1 else 0)
      one true = refl
      one false = refl

-- ---- the timers of one that is gone

module _ (before : OfficeState) (actor : ℕ) (notes other : Noted) (timers : List Timer) (is : AreTimersNoted before actor notes timers) where
  pub timers_dropped : (n : ℕ) → actor ≢ n → ((id : List ℕ) → other.timer_ids id ≡ notes.timer_ids id) → ((m : ℕ) → other.gone m ≡ is_gone_too notes.gone n m) → AreTimersNoted before actor other (without_owner n timers)
  timers_dropped n apart ids gone = record {
    own = λ id.
        count_beside (has_id actor id) (λ (t : Timer). not (nat_eq t.owner n)) timers (λ timer has. ap not (ne_eqb timer.owner n (λ e. apart (sym (its_owner actor id timer has) ∙ e))))
        ∙ is.own id ∙ ap (λ (o : Option Bool). if unwrap_or o (list_any (has_id actor id) before.timers) then 1 else 0) (sym (ids id));
    others = λ m differs. elim (cases_eq m n) [
      | inl same ↦
          subst (λ (k : ℕ). timers_owned_by k (without_owner n timers) ≡ (if other.gone k then 0 else timers_owned_by k before.timers)) (sym same)
          (count_without (is_owned n) (λ (t : Timer). not (nat_eq t.owner n)) timers (λ timer owned. ap not owned)
          ∙ ap (λ (b : Bool). if b then 0 else timers_owned_by n before.timers) (sym (gone n ∙ ap (λ (b : Bool). b || notes.gone n) (eq-eqb n n refl))))
      | inr apart' ↦
          count_beside (is_owned m) (λ (t : Timer). not (nat_eq t.owner n)) timers (λ timer owned. ap not (ne_eqb timer.owner n (λ e. apart' (sym (eqb-true timer.owner m owned) ∙ e))))
          ∙ is.others m differs
          ∙ ap (λ (b : Bool). if b then 0 else timers_owned_by m before.timers) (sym (gone m ∙ ap (λ (b : Bool). b || notes.gone m) (ne_eqb m n apart')))
    ];
  }

  -- ---- the timer of an id is dropped

  pub timers_cancelled : (id : List ℕ) → ((q : List ℕ) → other.timer_ids q ≡ (if bytes_eq id q then Some false else notes.timer_ids q)) → ((m : ℕ) → other.gone m ≡ notes.gone m) → AreTimersNoted before actor other (without_id actor id timers)
  timers_cancelled id ids gone = record {
    own = λ q. by_test q (bytes_eq id q) refl;
    others = λ m differs.
        count_beside (is_owned m) (λ (t : Timer). not (has_id actor id t)) timers (λ timer owned. not_its m differs timer owned (has_id actor id timer) refl)
        ∙ is.others m differs ∙ ap (λ (b : Bool). if b then 0 else timers_owned_by m before.timers) (sym (gone m));
  } where
    not_its : (m : ℕ) → m ≢ actor → (timer : Timer) → nat_eq timer.owner m ≡ true → (b : Bool) → has_id actor id timer ≡ b → not b ≡ true
    not_its m differs timer owned true has = absurd (differs (sym (eqb-true timer.owner m owned) ∙ its_owner actor id timer has))
    not_its m differs timer owned false has = refl

    two : (q : List ℕ) (owned : Bool) (own : Option (List ℕ)) → bytes_eq id q ≡ false → (owned && option_map_or (bytes_eq q) own false) ≡ true → (owned && option_map_or (bytes_eq id) own false) ≡ true → ⊥
    two q false own differs one other = true≢false (sym one)
    two q true None differs one other = true≢false (sym one)
    two q true (Some own) differs one other = true≢false (sym (bytes_same id q (same_bytes id own other ∙ sym (same_bytes q own one))) ∙ differs)

    apart : (q : List ℕ) → bytes_eq id q ≡ false → (timer : Timer) → has_id actor q timer ≡ true → (b : Bool) → has_id actor id timer ≡ b → not b ≡ true
    apart q differs timer has true other = absurd (two q (nat_eq timer.owner actor) timer.id differs has other)
    apart q differs timer has false other = refl

    by_test : (q : List ℕ) (b : Bool) → bytes_eq id q ≡ b → length (filter (has_id actor q) (without_id actor id timers)) ≡ (if has_timer before actor other q then 1 else 0)
    by_test q true e =
        count_without (has_id actor q) (λ (t : Timer). not (has_id actor id t)) timers (λ timer has. ap not (ap (λ (i : List ℕ). has_id actor i timer) (same_bytes id q e) ∙ has))
        ∙ sym (ap (λ (o : Option Bool). if unwrap_or o (list_any (has_id actor q) before.timers) then 1 else 0) (ids q ∙ ap (λ (b : Bool). if b then Some false else notes.timer_ids q) e))
    by_test q false e =
        count_beside (has_id actor q) (λ (t : Timer). not (has_id actor id t)) timers (λ timer has. apart q e timer has (has_id actor id timer) refl)
        ∙ is.own q
        ∙ sym (ap (λ (o : Option Bool). if unwrap_or o (list_any (has_id actor q) before.timers) then 1 else 0) (ids q ∙ ap (λ (b : Bool). if b then Some false else notes.timer_ids q) e))

  -- ---- a timer is scheduled

  pub timers_scheduled : (timer : Timer) → timer.owner ≡ actor
      → ((q : List ℕ) → other.timer_ids q ≡ option_map_or (λ (id : List ℕ). if bytes_eq id q then Some true else notes.timer_ids q) timer.id (notes.timer_ids q))
      → ((m : ℕ) → other.gone m ≡ notes.gone m) → AreTimersNoted before actor other (with_scheduled timers timer)
  timers_scheduled timer owner ids gone = record {
    own = λ q. by_id q timer.id refl;
    others = λ m differs.
        count_push (is_owned m) (beside timer timers) timer ∙ ap (λ (b : Bool). length (filter (is_owned m) (beside timer timers)) + (if b then 1 else 0)) (ne_eqb timer.owner m (λ e. differs (sym e ∙ owner)))
        ∙ (let zero_more : length (filter (is_owned m) (beside timer timers)) + 0 ≡ length (filter (is_owned m) (beside timer timers)) = omega arith in zero_more)
        ∙ besides m differs timer.id
        ∙ is.others m differs ∙ ap (λ (b : Bool). if b then 0 else timers_owned_by m before.timers) (sym (gone m));
  } where
    expected : List ℕ → ℕ
    expected q = if has_timer before actor other q then 1 else 0

    not_its : (m : ℕ) → m ≢ actor → (id : List ℕ) (t : Timer) → nat_eq t.owner m ≡ true → (b : Bool) → has_id timer.owner id t ≡ b → not b ≡ true
    not_its m differs id t owned true has = absurd (differs (sym (eqb-true t.owner m owned) ∙ its_owner timer.owner id t has ∙ owner))
    not_its m differs id t owned false has = refl

    besides : (m : ℕ) → m ≢ actor → (o : Option (List ℕ)) → length (filter (is_owned m) (option_map_or (λ (id : List ℕ). without_id timer.owner id timers) o timers)) ≡ length (filter (is_owned m) timers)
    besides m differs None = refl
    besides m differs (Some id) = count_beside (is_owned m) (λ (t : Timer). not (has_id timer.owner id t)) timers (λ t owned. not_its m differs id t owned (has_id timer.owner id t) refl)

    two : (id q : List ℕ) (owned also : Bool) (own : Option (List ℕ)) → bytes_eq id q ≡ false → (owned && option_map_or (bytes_eq q) own false) ≡ true → (also && option_map_or (bytes_eq id) own false) ≡ true → ⊥
    two id q false also own differs one other = true≢false (sym one)
    two id q true false own differs one other = true≢false (sym other)
    two id q true true None differs one other = true≢false (sym one)
    two id q true true (Some own) differs one other = true≢false (sym (bytes_same id q (same_bytes id own other ∙ sym (same_bytes q own one))) ∙ differs)

    apart : (id q : List ℕ) → bytes_eq id q ≡ false → (t : Timer) → has_id actor q t ≡ true → (b : Bool) → has_id timer.owner id t ≡ b → not b ≡ true
    apart id q differs t has true other = absurd (two id q (nat_eq t.owner actor) (nat_eq t.owner timer.owner) t.id differs has other)
    apart id q differs t has false other = refl

    own_before : (q : List ℕ) → length (filter (has_id actor q) timers) ≡ (if has_timer before actor notes q then 1 else 0)
    own_before q = is.own q

    owned : nat_eq timer.owner actor ≡ true
    owned = eq-eqb timer.owner actor owner

    with_new : (q : List ℕ) → length (filter (has_id actor q) (with_scheduled timers timer)) ≡ length (filter (has_id actor q) (beside timer timers)) + (if option_map_or (bytes_eq q) timer.id false then 1 else 0)
    with_new q =
        count_push (has_id actor q) (beside timer timers) timer
        ∙ ap (λ (b : Bool). length (filter (has_id actor q) (beside timer timers)) + (if b && option_map_or (bytes_eq q) timer.id false then 1 else 0)) owned

    noted : (q : List ℕ) (o : Option Bool) → other.timer_ids q ≡ o → ◌≡◌ {A = ℕ} (if has_timer before actor other q then 1 else 0) (if unwrap_or o (list_any (has_id actor q) before.timers) then 1 else 0)
    noted q o e = ap (λ (p : Option Bool). if unwrap_or p (list_any (has_id actor q) before.timers) then 1 else 0) e

    turned : (id q : List ℕ) (b : Bool) → bytes_eq id q ≡ b → bytes_eq q id ≡ b
    turned id q true e = bytes_same q id (sym (same_bytes id q e))
    turned id q false e = by_test (bytes_eq q id) refl where
      by_test : (c : Bool) → bytes_eq q id ≡ c → c ≡ false
      by_test true is = absurd (true≢false (sym (bytes_same id q (sym (same_bytes q id is))) ∙ e))
      by_test false is = refl

    by_same : (q id : List ℕ) → timer.id ≡ Some id → (b : Bool) → bytes_eq id q ≡ b → length (filter (has_id actor q) (with_scheduled timers timer)) ≡ (if has_timer before actor other q then 1 else 0)
    by_same q id is true e =
        let left : List Timer = without_id timer.owner id timers in
        let none : length (filter (has_id actor q) left) ≡ 0 =
        count_without (has_id actor q) (λ (t : Timer). not (has_id timer.owner id t)) timers
        (λ t has. ap not (ap (λ (n : ℕ). has_id n id t) owner ∙ ap (λ (i : List ℕ). has_id actor i t) (same_bytes id q e) ∙ has)) in
        with_new q
        ∙ ap (λ (o : Option (List ℕ)). length (filter (has_id actor q) (option_map_or (λ (i : List ℕ). without_id timer.owner i timers) o timers)) + (if option_map_or (bytes_eq q) o false then 1 else 0)) is
        ∙ ap (λ (b : Bool). length (filter (has_id actor q) left) + (if b then 1 else 0)) (turned id q true e)
        ∙ (let one : length (filter (has_id actor q) left) + 1 ≡ 1 = omega (arith, none) in one)
        ∙ sym (noted q (Some true) (ids q ∙ ap (λ (o : Option (List ℕ)). option_map_or (λ (i : List ℕ). if bytes_eq i q then Some true else notes.timer_ids q) o (notes.timer_ids q)) is
        ∙ ap (λ (b : Bool). if b then Some true else notes.timer_ids q) e))
    by_same q id is false e =
        let left : List Timer = without_id timer.owner id timers in
        with_new q
        ∙ ap (λ (o : Option (List ℕ)). length (filter (has_id actor q) (option_map_or (λ (i : List ℕ). without_id timer.owner i timers) o timers)) + (if option_map_or (bytes_eq q) o false then 1 else 0)) is
        ∙ ap (λ (b : Bool). length (filter (has_id actor q) left) + (if b then 1 else 0)) (turned id q false e)
        ∙ (let zero_more : length (filter (has_id actor q) left) + 0 ≡ length (filter (has_id actor q) left) = omega arith in zero_more)
        ∙ count_beside (has_id actor q) (λ (t : Timer). not (has_id timer.owner id t)) timers (λ t has. apart id q e t has (has_id timer.owner id t) refl)
        ∙ own_before q
        ∙ sym (noted q (notes.timer_ids q) (ids q ∙ ap (λ (o : Option (List ℕ)). option_map_or (λ (i : List ℕ). if bytes_eq i q then Some true else notes.timer_ids q) o (notes.timer_ids q)) is
        ∙ ap (λ (b : Bool). if b then Some true else notes.timer_ids q) e))

    by_id : (q : List ℕ) (o : Option (List ℕ)) → timer.id ≡ o → length (filter (has_id actor q) (with_scheduled timers timer)) ≡ (if has_timer before actor other q then 1 else 0)
    by_id q None is =
        with_new q
        ∙ ap (λ (o : Option (List ℕ)). length (filter (has_id actor q) (option_map_or (λ (i : List ℕ). without_id timer.owner i timers) o timers)) + (if option_map_or (bytes_eq q) o false then 1 else 0)) is
        ∙ (let zero_more : length (filter (has_id actor q) timers) + 0 ≡ length (filter (has_id actor q) timers) = omega arith in zero_more)
        ∙ own_before q
        ∙ sym (noted q (notes.timer_ids q) (ids q ∙ ap (λ (o : Option (List ℕ)). option_map_or (λ (i : List ℕ). if bytes_eq i q then Some true else notes.timer_ids q) o (notes.timer_ids q)) is))
    by_id q (Some id) is = by_same q id is (bytes_eq id q) refl

-- how many timers a new one leaves
pub scheduled_length : (timer : Timer) (timers : List Timer) → length (with_scheduled timers timer) ≡ length (beside timer timers) + 1
scheduled_length timer timers = length-append (beside timer timers) (timer ∷ [])

pub cancelled_length : (actor : ℕ) (id : List ℕ) (timers : List Timer) → length (without_id actor id timers) + length (filter (has_id actor id) timers) ≡ length timers
cancelled_length actor id timers = length_split (has_id actor id) timers

pub dropped_length : (n : ℕ) (timers : List Timer) → length (without_owner n timers) + timers_owned_by n timers ≡ length timers
dropped_length n timers = length_split (λ (t : Timer). nat_eq t.owner n) timers

-- ---- names

module _ (before : OfficeState) (notes other : Noted) (names : List (List ℕ × ℕ)) (is : AreNamesNoted before notes names) where
  pub names_dropped : (n : ℕ) → other.machines ≡ notes.machines → other.names ≡ without_holder notes.names n → ((m : ℕ) → other.gone m ≡ is_gone_too notes.gone n m) → AreNamesNoted before other (without_holder names n)
  names_dropped n machines left gone = record {
    same =
        ap (filter (λ (h : List ℕ × ℕ). not (nat_eq h.1 n))) is.same
        ∙ filter_joined (λ (h : List ℕ × ℕ). not (nat_eq h.1 n)) (filter (λ (h : List ℕ × ℕ). not (notes.gone h.1)) before.names) notes.names
        ∙ ap (λ (hs : List (List ℕ × ℕ)). hs ++ without_holder notes.names n)
        (filter_filter (λ (h : List ℕ × ℕ). not (nat_eq h.1 n)) (λ (h : List ℕ × ℕ). not (notes.gone h.1)) before.names
        ∙ filter_same (λ (h : List ℕ × ℕ). not (notes.gone h.1) && not (nat_eq h.1 n)) (λ (h : List ℕ × ℕ). not (other.gone h.1)) before.names (λ h. both (notes.gone h.1) (nat_eq h.1 n) ∙ ap not (sym (gone h.1))))
        ∙ ap (λ (hs : List (List ℕ × ℕ)). filter (λ (h : List ℕ × ℕ). not (other.gone h.1)) before.names ++ hs) (sym left);
    newer = subst (λ (hs : List (List ℕ × ℕ)). AllByRecursion (λ (h : List ℕ × ℕ). h.1 < next_of before other) hs) (sym left)
        (each_mono (λ (h : List ℕ × ℕ). h.1 < next_of before notes) (λ (h : List ℕ × ℕ). h.1 < next_of before other) (without_holder notes.names n)
        (λ h less. subst (λ (ms : List Bool). h.1 < before.next_actor + length ms) (sym machines) less)
        (each_filter (λ (h : List ℕ × ℕ). h.1 < next_of before notes) (λ (h : List ℕ × ℕ). not (nat_eq h.1 n)) notes.names is.newer));
  } where
    both : (a b : Bool) → (not a && not b) ≡ not (b || a)
    both true true = refl
    both true false = refl
    both false true = refl
    both false false = refl

  -- who is gone is the same, and more may have been made
  pub names_kept : ((m : ℕ) → other.gone m ≡ notes.gone m) → other.names ≡ notes.names → next_of before notes ≤ next_of before other → AreNamesNoted before other names
  names_kept gone kept more = record {
    same = is.same
        ∙ ap (λ (hs : List (List ℕ × ℕ)). hs ++ notes.names) (filter_same (λ (h : List ℕ × ℕ). not (notes.gone h.1)) (λ (h : List ℕ × ℕ). not (other.gone h.1)) before.names (λ h. ap not (sym (gone h.1))))
        ∙ ap (λ (hs : List (List ℕ × ℕ)). filter (λ (h : List ℕ × ℕ). not (other.gone h.1)) before.names ++ hs) (sym kept);
    newer = subst (λ (hs : List (List ℕ × ℕ)). AllByRecursion (λ (h : List ℕ × ℕ). h.1 < next_of before other) hs) (sym kept)
        (each_mono (λ (h : List ℕ × ℕ). h.1 < next_of before notes) (λ (h : List ℕ × ℕ). h.1 < next_of before other) notes.names (λ h less. omega arith) is.newer);
  }

  pub names_held : (name : List ℕ) (n : ℕ) → ((m : ℕ) → other.gone m ≡ notes.gone m) → other.names ≡ with_holder notes.names name n → next_of before notes ≤ next_of before other → n < next_of before other
      → AreNamesNoted before other (with_holder names name n)
  names_held name n gone held more less = record {
    same =
        ap (λ (hs : List (List ℕ × ℕ)). hs ++ (name, n) ∷ [])
        (is.same ∙ ap (λ (hs : List (List ℕ × ℕ)). hs ++ notes.names) (filter_same (λ (h : List ℕ × ℕ). not (notes.gone h.1)) (λ (h : List ℕ × ℕ). not (other.gone h.1)) before.names (λ h. ap not (sym (gone h.1)))))
        ∙ joined (filter (λ (h : List ℕ × ℕ). not (other.gone h.1)) before.names)
        ∙ ap (λ (hs : List (List ℕ × ℕ)). filter (λ (h : List ℕ × ℕ). not (other.gone h.1)) before.names ++ hs) (sym held);
    newer = subst (λ (hs : List (List ℕ × ℕ)). AllByRecursion (λ (h : List ℕ × ℕ). h.1 < next_of before other) hs) (sym held)
        (each_push (λ (h : List ℕ × ℕ). h.1 < next_of before other) notes.names (name, n)
        (each_mono (λ (h : List ℕ × ℕ). h.1 < next_of before notes) (λ (h : List ℕ × ℕ). h.1 < next_of before other) notes.names (λ h below. omega arith) is.newer) less);
  } where
    joined : (hs : List (List ℕ × ℕ)) → (hs ++ notes.names) ++ (name, n) ∷ [] ≡ hs ++ (notes.names ++ (name, n) ∷ [])
    joined [] = refl
    joined (h ∷ hs) = ap (λ (others : List (List ℕ × ℕ)). h ∷ others) (joined hs)
