-- A reaction at a tick leaves no more timers at that tick, and fewer where it handles one of them.
use Rattle.std.proofs.Common.{◌≡◌, ℕ, ◌<◌, ◌≤◌, ◌+◌, ◌/◌, min, Bool, true, false, cond, not, T, List, [], ◌∷◌, ◌++◌, map, filter}
use Rattle.std.proofs.Common.{refl, sym, ap, ◌∙◌, subst, ◌≢◌, ◌⊎◌, inl, inr, arith, Ordering, Less, Equal, Greater, Option, Some, None}
use Rattle.std.proofs.Common.{eqb-true, ◌==◌, le_refl}
use Rattle.std.specs.Ordering.{eq_by_cmp, is_eq, ordering_reverse}
use Rattle.std.specs.FinMap.Entries.{put, find, by_order, is_sorted, below_all, is_sorted-put, is_sorted-where_key}
use Rattle.srm_member.proofs.Bounds.{request_length_pos, kept_state}
use Rattle.srm_member.proofs.LawProofs.{as_active, as_listener}
use Rattle.srm_net.specs.Roles.{is_listener}
use Rattle.srm_member.specs.React.{Reaction, expire_repair, expire_repair_by_entry, expire_request, expire_request_by_entry, back_off}
use Rattle.srm_member.specs.React.{react, with_request_delay, with_request_first, with_answer_seen, with_own_timer_ended}
use Rattle.srm_member.specs.LocalRecovery.{local_of, mark_after}
use Rattle.srm_member.specs.declared.mark.RepairMark.{RepairMark}
use Rattle.srm_member.proofs.TableChanges.{same_names}
use Rattle.srm_member.specs.React.{react_listener, request_length, with_rest, without}
use Rattle.srm_member.specs.Record.{Active, MemberState, Missing, Repairing, count_if, timers_at}
use Rattle.srm_member.specs.declared.cause.Cause.{Cause}
use Rattle.srm_member.specs.declared.cause.Cause.TheVariants.{Answer, Ask}
use Rattle.srm_member.specs.declared.fixed.Fixed.{Fixed}
use Rattle.srm_net.specs.Names.{name_cmp}
use Rattle.srm_net.specs.declared.packet.Name.{Name}
use Rattle.srm_net.proofs.Basics.{one_if, T_first, T_second, T_less}
use Rattle.srm_net.proofs.TotalOrders.{name_total, name_self}

-- ---- counts

module _ {A : Type 0} (p : A → Bool) where
  pub count-append : (xs ys : List A) → count_if p (xs ++ ys) ≡ count_if p xs + count_if p ys
  count-append [] ys = omega arith
  count-append (x ∷ xs) ys = let e = count-append xs ys in omega arith

  count-cond : (b : Bool) (xs ys : List A) (n : ℕ) → count_if p xs ≤ n → count_if p ys ≤ n → count_if p (cond b xs ys) ≤ n
  count-cond true xs ys n h g = h
  count-cond false xs ys n h g = g

  count-filter : (q : A → Bool) (xs : List A) → count_if p (filter q xs) ≤ count_if p xs
  count-filter q [] = le_refl 0
  count-filter q (x ∷ xs) = let h = count-filter q xs in count-cond (q x) (x ∷ filter q xs) (filter q xs) (count_if p (x ∷ xs))
      (omega arith) (omega arith)

count-map : {A B : Type 0} (p : B → Bool) (f : A → B) (xs : List A) → count_if p (map f xs) ≡ count_if (λ x. p (f x)) xs
count-map p f [] = refl
count-map p f (x ∷ xs) = ap (λ n. one_if (p (f x)) + n) (count-map p f xs)

abbrev pub In : {A : Type 0} → A → List A → Type 0
In x [] = ⊥
In x (y ∷ ys) = (y ≡ x) ⊎ In x ys

pub in_append : {A : Type 0} (x : A) (xs ys : List A) → In x (xs ++ ys) → In x xs ⊎ In x ys
in_append x [] ys h = inr h
in_append x (y ∷ xs) ys (inl e) = inl (inl e)
in_append x (y ∷ xs) ys (inr h) = elim (in_append x xs ys h) [ inl g ↦ inl (inr g) | inr g ↦ inr g ]

pub in_map : {A B : Type 0} (f : A → B) (y : B) (xs : List A) → In y (map f xs) → (x : A) × In x xs × (f x ≡ y)
in_map f y [] h = absurd h
in_map f y (x ∷ xs) (inl e) = (x, inl refl, e)
in_map f y (x ∷ xs) (inr h) = let r = in_map f y xs h in (r.0, inr r.1, r.2)

module _ {V : Type 0} (p : V → Bool) where
  abbrev at_value : (Name × V) → Bool
  at_value e = p e.1

  by_order_le : (r : Ordering) (a b c : List (Name × V)) (n : ℕ) → count_if at_value a ≤ n → count_if at_value b ≤ n
      → count_if at_value c ≤ n → count_if at_value (by_order r a b c) ≤ n
  by_order_le r a b c n h g f = grind arith

  pub put_le : (n : Name) (v : V) (es : List (Name × V)) → p v ≡ false → count_if at_value (put name_cmp n v es) ≤ count_if at_value es
  put_le n v [] h = rw h (le_refl 0)
  put_le n v (e ∷ es) h =
      let none : one_if (p v) ≡ 0 = ap one_if h in
      let g = put_le n v es h in
      by_order_le (name_cmp n e.0) _ _ _ (count_if at_value (e ∷ es)) (omega arith) (omega arith) (omega arith)

  below : (n : Name) (w : V) (k : Name) (es : List (Name × V)) → T (below_all name_cmp k es) → In (n, w) es → name_cmp k n ≡ Less
  below n w k [] s h = absurd h
  below n w k (e ∷ es) s (inl g) = ap (λ (x : Name × V). name_cmp k x.0) (sym g) ∙ T_less _ (T_first _ _ s)
  below n w k (e ∷ es) s (inr h) = below n w k es (T_second _ _ s) h

  -- to write over an entry that counts leaves fewer
  pub put_less : (n : Name) (v w : V) (es : List (Name × V)) → T (is_sorted name_cmp es) → In (n, w) es → p v ≡ false → p w ≡ true
      → count_if at_value (put name_cmp n v es) < count_if at_value es
  put_less n v w [] s h none some = absurd h
  put_less n v w (e ∷ es) s (inl g) none some =
      let tie : name_cmp n e.0 ≡ Equal = ap (λ (x : Name × V). name_cmp n x.0) g ∙ name_self n in
      let a : one_if (p v) ≡ 0 = ap one_if none in
      let b : one_if (p e.1) ≡ 1 = ap (λ (x : Name × V). one_if (p x.1)) g ∙ ap one_if some in
      subst (λ r. count_if at_value (by_order r ((n, v) ∷ e ∷ es) ((e.0, v) ∷ es) (e ∷ put name_cmp n v es)) < count_if at_value (e ∷ es))
      (sym tie) (omega arith)
  put_less n v w (e ∷ es) s (inr h) none some =
      let less = below n w e.0 es (T_first _ _ s) h in
      let more : name_cmp n e.0 ≡ Greater = name_total.antisymm n e.0 ∙ ap ordering_reverse less in
      let g = put_less n v w es (T_second _ _ s) h none some in
      subst (λ r. count_if at_value (by_order r ((n, v) ∷ e ∷ es) ((e.0, v) ∷ es) (e ∷ put name_cmp n v es)) < count_if at_value (e ∷ es))
      (sym more) (omega arith)

  -- to write over an entry that counts as much leaves as many
  pub put_same : (n : Name) (v w : V) (es : List (Name × V)) → T (is_sorted name_cmp es) → In (n, w) es → p v ≡ p w
      → count_if at_value (put name_cmp n v es) ≡ count_if at_value es
  put_same n v w [] s h same = absurd h
  put_same n v w (e ∷ es) s (inl g) same =
      let tie : name_cmp n e.0 ≡ Equal = ap (λ (x : Name × V). name_cmp n x.0) g ∙ name_self n in
      let a : one_if (p v) ≡ one_if (p e.1) = ap one_if (same ∙ sym (ap (λ (x : Name × V). p x.1) g)) in
      subst (λ r. count_if at_value (by_order r ((n, v) ∷ e ∷ es) ((e.0, v) ∷ es) (e ∷ put name_cmp n v es)) ≡ count_if at_value (e ∷ es))
      (sym tie) (omega arith)
  put_same n v w (e ∷ es) s (inr h) same =
      let less = below n w e.0 es (T_first _ _ s) h in
      let more : name_cmp n e.0 ≡ Greater = name_total.antisymm n e.0 ∙ ap ordering_reverse less in
      let g = put_same n v w es (T_second _ _ s) h same in
      subst (λ r. count_if at_value (by_order r ((n, v) ∷ e ∷ es) ((e.0, v) ∷ es) (e ∷ put name_cmp n v es)) ≡ count_if at_value (e ∷ es))
      (sym more) (omega arith)

  -- and so does to take it out
  pub without_less : (n : Name) (w : V) (es : List (Name × V)) → In (n, w) es → p w ≡ true
      → count_if at_value (without n es) < count_if at_value es
  without_less n w [] h some = absurd h
  without_less n w (e ∷ es) (inl g) some =
      let tie : eq_by_cmp name_cmp n e.0 ≡ true = ap is_eq (ap (λ (x : Name × V). name_cmp n x.0) g ∙ name_self n) in
      let b : one_if (p e.1) ≡ 1 = ap (λ (x : Name × V). one_if (p x.1)) g ∙ ap one_if some in
      let h = count-filter at_value (λ e. not (eq_by_cmp name_cmp n e.0)) es in
      subst (λ b. count_if at_value (cond (not b) (e ∷ without n es) (without n es)) < count_if at_value (e ∷ es)) (sym tie) (omega arith)
  without_less n w (e ∷ es) (inr h) some =
      let g = without_less n w es h some in
      let c = count-cond at_value (not (eq_by_cmp name_cmp n e.0)) (e ∷ without n es) (without n es)
      (one_if (p e.1) + count_if at_value (without n es)) (le_refl _) (omega arith) in omega arith

  pub find_in : (n : Name) (w : V) (es : List (Name × V)) → find name_cmp n es ≡ Some w → In (n, w) es
  find_in n w [] h = cc
  find_in n w (x ∷ es) h = elim (eq_by_cmp name_cmp n x.0) as (λ b. eq_by_cmp name_cmp n x.0 ≡ b → In (n, w) (x ∷ es)) [
    | true ↦ λ q.
        let value : Some x.1 ≡ Some w = sym (ap (λ b. cond b (Some x.1) (find name_cmp n es)) q) ∙ h in
        let name : x.0 ≡ n = sym (same_names n x.0 q) in
        let same : x.1 ≡ w = cc in
        inl (λ i. (name i, same i))
    | false ↦ λ q. inr (find_in n w es (sym (ap (λ b. cond b (Some x.1) (find name_cmp n es)) q) ∙ h))
  ] refl

  pub found : (n : Name) (w : V) (es : List (Name × V)) → In (n, w) es → find name_cmp n es ≢ None
  found n w [] h e = absurd h
  found n w (x ∷ es) (inl g) e =
      let tie : eq_by_cmp name_cmp n x.0 ≡ true = ap is_eq (ap (λ (y : Name × V). name_cmp n y.0) g ∙ name_self n) in
      let some : Some x.1 ≡ None = sym (ap (λ b. cond b (Some x.1) (find name_cmp n es)) tie) ∙ e in cc
  found n w (x ∷ es) (inr h) e = elim (eq_by_cmp name_cmp n x.0) as (λ b. eq_by_cmp name_cmp n x.0 ≡ b → ⊥) [
    | true ↦ λ q. let some : Some x.1 ≡ None = sym (ap (λ b. cond b (Some x.1) (find name_cmp n es)) q) ∙ e in cc
    | false ↦ λ q. found n w es h (sym (ap (λ b. cond b (Some x.1) (find name_cmp n es)) q) ∙ e)
  ] refl

-- ---- sound memories: tables in order, and none for a listener

pub record IsSound (m : MemberState) : Type 0 where
  pub asks : T (is_sorted name_cmp m.missing)
  pub answers : T (is_sorted name_cmp m.repairs)
  pub listener : is_listener m.fixed.role ≡ true → (m.missing ≡ []) × (m.repairs ≡ [])

abbrev SameTables : MemberState → MemberState → Type 0
SameTables m n = (n.missing ≡ m.missing) × (n.repairs ≡ m.repairs)

same_listener : (m : MemberState) (cause : Cause) → SameTables m (react_listener m cause).state
same_listener m cause = grind arith

pub sound_react : (m : MemberState) (at : ℕ) (cause : Cause) → IsSound m → IsSound (react m at cause).state
sound_react m at cause s =
    let k = kept_state m.fixed (λ es. T (is_sorted name_cmp es)) (λ es. T (is_sorted name_cmp es)) at
    (λ n v es lt h. is_sorted-put name_cmp name_total n v es h)
    (λ n es h. is_sorted-where_key name_cmp (λ x. not (eq_by_cmp name_cmp n x)) es h)
    (λ n v es lt h. is_sorted-put name_cmp name_total n v es h)
    (λ n es h. is_sorted-where_key name_cmp (λ x. not (eq_by_cmp name_cmp n x)) es h)
    (λ n v w es e same h. is_sorted-put name_cmp name_total n w es h)
    m cause (record { same = refl; asks = s.asks; answers = s.answers }) in
    record {
      asks = k.asks;
      answers = k.answers;
      listener = λ h.
          let role : is_listener m.fixed.role ≡ true = ap (λ (f : Fixed). is_listener f.role) (sym k.same) ∙ h in
          let was = s.listener role in
          let same = same_listener m cause in (
            ap (λ (r : Reaction). r.state.missing) (as_listener m at cause role) ∙ same.0
                ∙ was.0,
            ap (λ (r : Reaction). r.state.repairs) (as_listener m at cause role) ∙ same.1 ∙ was.1,
          );
    }

-- ---- a reaction at a tick leaves no more timers at that tick, and fewer where it handles one of them

asks_at : ℕ → List (Name × Missing) → ℕ
asks_at t es = count_if (λ e. e.1.expiry == t) es

answers_at : ℕ → List (Name × Repairing) → ℕ
answers_at t es = count_if (λ e. e.1.expiry == t) es

timers_count : (t : ℕ) (m : MemberState) → timers_at t (Active m) ≡ asks_at t m.missing + answers_at t m.repairs
unfolding asks_at answers_at
timers_count t m = grind (arith, count-append, count-map)

not_now : (t x : ℕ) → t < x → (x == t) ≡ false
not_now t x lt = elim (x == t) as (λ b. (x == t) ≡ b → (x == t) ≡ false)
    [ true ↦ λ e. absurd (let f = eqb-true _ _ e in omega arith) | false ↦ λ e. e ] refl

pub no_more : (t : ℕ) (m : MemberState) (cause : Cause) → IsSound m → timers_at t (Active (react m t cause).state) ≤ timers_at t (Active m)
unfolding asks_at answers_at
no_more t m cause sound =
    let k = kept_state m.fixed (λ es. asks_at t es ≤ asks_at t m.missing)
    (λ es. T (is_sorted name_cmp es) × (answers_at t es ≤ answers_at t m.repairs)) t
    (λ n v es lt h. let g = put_le (λ (w : Missing). w.expiry == t) n v es (not_now t v.expiry lt) in omega arith)
    (λ n es h. let g = count-filter (λ (e : Name × Missing). e.1.expiry == t) (λ e. not (eq_by_cmp name_cmp n e.0)) es in omega arith)
    (λ n v es lt h. (
      is_sorted-put name_cmp name_total n v es h.0,
      (let g = put_le (λ (w : Repairing). w.expiry == t) n v es (not_now t v.expiry lt) in let f = h.1 in omega arith),
    ))
    (λ n es h. (
      is_sorted-where_key name_cmp (λ x. not (eq_by_cmp name_cmp n x)) es h.0,
      (let g = count-filter (λ (e : Name × Repairing). e.1.expiry == t) (λ e. not (eq_by_cmp name_cmp n e.0)) es in
          let f = h.1 in omega arith),
    ))
    (λ n v w es e same h. (
      is_sorted-put name_cmp name_total n w es h.0,
      (let g = put_same (λ (r : Repairing). r.expiry == t) n w v es h.0 (find_in (λ (r : Repairing). r.expiry == t) n v es e)
          (ap (λ x. x == t) same) in
          let f = h.1 in omega arith),
    ))
    m cause (record { same = refl; asks = le_refl _; answers = (sound.answers, le_refl _) }) in
    let before = timers_count t m in
    let after = timers_count t (react m t cause).state in
    let a = k.asks in
    let b = k.answers.1 in
    omega arith

pub no_table : {A : Type 0} (x : A) (xs : List A) → xs ≡ [] → In x xs → ⊥
no_table x xs e h = subst (In x) e h

module _ (t : ℕ) (m : MemberState) (sound : IsSound m) (n : Name) where
  fewer_asking : (w : Missing) → In (n, w) m.missing → (w.expiry == t) ≡ true → (o : Option Missing) → find name_cmp n m.missing ≡ o
      → timers_at t (Active (expire_request_by_entry t n m o).state) < timers_at t (Active m)
  unfolding asks_at answers_at
  fewer_asking w h some None e = absurd (found (λ (x : Missing). x.expiry == t) n w m.missing h e)
  fewer_asking w h some (Some x) e =
      let asked = with_request_delay t n x (with_request_first x m) in
      let len = request_length asked (min (x.backoffs + 1) 10) n in
      let lt : t < t + len = (let one = request_length_pos asked (min (x.backoffs + 1) 10) n in omega arith) in
      let v : Missing = record { detected = x.detected; expiry = t + len; backoffs = min (x.backoffs + 1) 10; ignore = t + len / 2 } in
      let less = put_less (λ (y : Missing). y.expiry == t) n v w m.missing sound.asks h (not_now t v.expiry lt) some in
      let before = timers_count t m in
      let after = timers_count t (back_off t n x (with_request_first x m)) in
      omega arith

  seen_leaves : (at : ℕ) (r : Repairing) (k : MemberState) → SameTables k (with_answer_seen at r k)
  seen_leaves at r k = grind arith

  rest_leaves : (at : ℕ) (k : Name) (who : ℕ) (mark : Option RepairMark) (s : MemberState) → SameTables s (with_rest at k who mark s)
  rest_leaves at k who None s = (refl, refl)
  rest_leaves at k who (Some x) s = (refl, refl)

  fewer_answering : (w : Repairing) → In (n, w) m.repairs → (w.expiry == t) ≡ true → (o : Option Repairing) → find name_cmp n m.repairs ≡ o
      → timers_at t (Active (expire_repair_by_entry t n m o).state) < timers_at t (Active m)
  unfolding asks_at answers_at
  fewer_answering w h some None e = absurd (found (λ (x : Repairing). x.expiry == t) n w m.repairs h e)
  fewer_answering w h some (Some x) e =
      let less = without_less (λ (y : Repairing). y.expiry == t) n w m.repairs h some in
      let mark = mark_after 0 (local_of m.fixed x) in
      let rested = rest_leaves t n m.fixed.member mark (with_answer_seen t x m) in
      let seen = seen_leaves t x m in
      let asked : asks_at t (with_own_timer_ended t n x mark m).missing ≡ asks_at t m.missing = ap (asks_at t) (rested.0 ∙ seen.0) in
      let answered : answers_at t (with_own_timer_ended t n x mark m).repairs ≡ answers_at t (without n m.repairs) =
      ap (λ es. answers_at t (without n es)) (rested.1 ∙ seen.1) in
      let before = timers_count t m in
      let after = timers_count t (with_own_timer_ended t n x mark m) in
      omega arith

  pub fewer_asks : (w : Missing) → In (n, w) m.missing → (w.expiry == t)
      ≡ true → timers_at t (Active (react m t (Ask n)).state) < timers_at t (Active m)
  unfolding expire_request
  fewer_asks w h some = grind (arith, as_active, fewer_asking)

  pub fewer_answers : (w : Repairing) → In (n, w) m.repairs → (w.expiry == t) ≡ true
      → timers_at t (Active (react m t (Answer n)).state) < timers_at t (Active m)
  unfolding expire_repair
  fewer_answers w h some = grind (arith, as_active, fewer_answering)
