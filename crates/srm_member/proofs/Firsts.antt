-- A first timer, or a first entry, that stands apart from the others.
use Rattle.std.proofs.Common.{◌≡◌, suc, ◌<◌, Bool, true, false, cond, not, ◌||◌, T, List, [], ◌∷◌, ◌++◌, length, Option, Some, None}
use Rattle.std.proofs.Common.{refl, sym, ap, ◌∙◌, subst, arith, ◌↔◌, IsSome, IfSome, Ordering, Less, Equal, Greater, is_lt}
use Rattle.std.specs.Prelude.{IfNone}
use Rattle.std.specs.List.{All}
use Rattle.std.specs.Option.{option_to_list}
use Rattle.std.specs.Cmp.{eq_by_cmp_equiv}
use Rattle.std.specs.Ordering.{eq_by_cmp, ordering_reverse}
use Rattle.std.specs.FinMap.Entries.{put, find, is_sorted, below_all, by_order}
use Rattle.srm_net.specs.declared.packet.Name.{Name}
use Rattle.srm_net.specs.Names.{name_cmp}
use Rattle.srm_net.proofs.Basics.{T_first, T_less, is_Less, is_Equal}
use Rattle.srm_member.specs.contracts.due.DueOrd.TheImpl as due_order
use Rattle.srm_member.specs.declared.due.Due.{Due}
use Rattle.srm_member.specs.Record.{due_cmp}
use Rattle.srm_member.specs.React.{without}
use Rattle.srm_member.specs.Pending.{has, Leads}
use Rattle.srm_member.proofs.Compare.{dues_compared, empty_of}
use Rattle.srm_member.proofs.Earliest.{either, below-none}
use Rattle.srm_member.proofs.Indexes.{due_total, due_same, due_itself, without-none}
use Rattle.srm_member.proofs.TableChanges.{same_names}

-- ---- timers

-- the second list has this timer exactly if b is true, and each other one exactly if the first list has
abbrev pub Updates : Due → Bool → List Due → List Due → Type 0
Updates d b xs ys = (e : Due) → has ys e ≡ cond (eq_by_cmp due_cmp d e) b (has xs e)

pub compared : (d e : Due) (r o : Ordering) → r ≡ due_order.cmp-value.it d e → r ≡ o → due_cmp d e ≡ o
compared d e r o by is = ap (λ R. R d e) (sym dues_compared) ∙ sym by ∙ is

turned : (d e : Due) → eq_by_cmp due_cmp d e ≡ eq_by_cmp due_cmp e d
turned = (eq_by_cmp_equiv due_total).symm

picked : (a b : Bool) → cond a true b ≡ true → (P : Type 0) → (a ≡ true → P) → (b ≡ true → P) → P
picked true b e P f g = f refl
picked false b e P f g = g e

-- a timer put in before the first
pub leads_before : (d f : Due) (xs ys : List Due) → Leads (Some f) xs → due_cmp d f ≡ Less → Updates f true xs ys → Leads (Some d) ys
leads_before d f xs ys h lt more e is =
    picked (eq_by_cmp due_cmp f e) (has xs e) (sym (more e) ∙ is) (is_lt (due_cmp d e) ≡ true)
    (λ t. subst (λ x. is_lt (due_cmp d x) ≡ true) (due_same f e (is_Equal _ t)) (ap is_lt lt))
    (λ t. ap is_lt (due_total.trans d f e lt (is_Less _ (h e t))))

pub put_before : (d f : Due) (xs ys : List Due) → Updates f true xs ys → Updates d true (f ∷ xs) (d ∷ ys)
put_before d f xs ys more e =
    (λ i. turned e d i || more e i) ∙ before (eq_by_cmp due_cmp d e) (eq_by_cmp due_cmp f e) (has xs e)
    ∙ ap (λ b. cond (eq_by_cmp due_cmp d e) true (b || has xs e)) (turned f e)
  where
    before : (a b h : Bool) → (a || cond b true h) ≡ cond a true (b || h)
    before true b h = refl
    before false true h = refl
    before false false h = refl

-- the first timer put in once more
pub put_again : (d f : Due) (xs : List Due) → due_cmp d f ≡ Equal → Updates d true (f ∷ xs) (f ∷ xs)
put_again d f xs tie = subst (λ x. Updates d true (x ∷ xs) (x ∷ xs)) (due_same d f tie)
    (λ e. again (eq_by_cmp due_cmp e d) (has xs e) ∙ ap (λ b. cond b true (has (d ∷ xs) e)) (turned e d))
  where
    again : (a h : Bool) → (a || h) ≡ cond a true (a || h)
    again true h = refl
    again false h = refl

-- a timer put in behind the first
pub leads_behind : (d f : Due) (xs ys : List Due) → Leads (Some f) xs → due_cmp d f ≡ Greater → Updates d true xs ys → Leads (Some f) ys
leads_behind d f xs ys h gt more e is =
    picked (eq_by_cmp due_cmp d e) (has xs e) (sym (more e) ∙ is) (is_lt (due_cmp f e) ≡ true)
    (λ t. subst (λ x. is_lt (due_cmp f x) ≡ true) (due_same d e (is_Equal _ t))
    (ap is_lt (due_total.antisymm f d ∙ ap ordering_reverse gt)))
    (λ t. h e t)

pub put_behind : (d f : Due) (xs ys : List Due) → Updates d true xs ys → Updates d true (f ∷ xs) (f ∷ ys)
put_behind d f xs ys more e =
    ap (λ b. eq_by_cmp due_cmp e f || b) (more e) ∙ behind (eq_by_cmp due_cmp d e) (eq_by_cmp due_cmp e f) (has xs e)
  where
    behind : (a b h : Bool) → (b || cond a true h) ≡ cond a true (b || h)
    behind true true h = refl
    behind true false h = refl
    behind false b h = refl

not_itself : (d : Due) (xs : List Due) → Leads (Some d) xs → has xs d ≡ false
not_itself d xs h =
    elim (has xs d) as (λ b. has xs d ≡ b → b ≡ false) [
      | true ↦ λ is. sym (h d is) ∙ ap is_lt (is_Equal _ (due_itself d))
      | false ↦ λ is. refl
    ] refl

-- the first timer taken out
pub take_first : (d f : Due) (xs : List Due) → Leads (Some f) xs → due_cmp d f ≡ Equal → Updates d false (f ∷ xs) xs
take_first d f xs h tie = subst (λ x. Leads (Some x) xs → Updates d false (x ∷ xs) xs) (due_same d f tie)
    (λ g e. elim (eq_by_cmp due_cmp d e) as (λ b. eq_by_cmp due_cmp d e ≡ b → has xs e ≡ cond b false (has (d ∷ xs) e)) [
      | true ↦ λ is. subst (λ x. has xs x ≡ false) (due_same d e (is_Equal _ is)) (not_itself d xs g)
      | false ↦ λ is. sym (ap (λ b. b || has xs e) (turned e d ∙ is))
    ] refl) h

pub all_of : (r : Option Due) (xs ys : List Due) → IfNone r (ys ≡ xs) → IfSome r (λ k. xs ≡ k ∷ ys) → option_to_list r ++ ys ≡ xs
all_of None xs ys none some = none
all_of (Some k) xs ys none some = sym some

leads_all : (k : Due) (ys : List Due) → All (λ q. due_cmp k q ≡ Less) ys → Leads (Some k) ys
leads_all k [] h e is = let no : false ≡ true = is in cc
leads_all k (y ∷ ys) h e is =
    either (eq_by_cmp due_cmp e y) (has ys e) is (is_lt (due_cmp k e) ≡ true)
    (λ t. subst (λ x. is_lt (due_cmp k x) ≡ true) (sym (due_same e y (is_Equal _ t))) (ap is_lt (h 0 y (omega arith))))
    (λ t. leads_all k ys (λ j d lt. h (suc j) d (omega arith)) e t)

-- the next timer leads the rest
pub next_leads : (r : Option Due) (xs ys : List Due) → (IsSome r ↔ (0 < length xs)) → IfNone r (ys ≡ xs)
    → IfSome r (λ k. All (λ q. due_order.cmp-value.it k q ≡ Less) ys) → Leads r ys
next_leads None xs ys some none above = none ∙ empty_of xs (λ h. let no = some.1 h in cc)
next_leads (Some k) xs ys some none above = leads_all k ys (subst (λ R. All (λ q. R k q ≡ Less) ys) dues_compared above)

-- a timer taken out behind the first
pub leads_less : (d f : Due) (xs ys : List Due) → Leads (Some f) xs → Updates d false xs ys → Leads (Some f) ys
leads_less d f xs ys h less e is = h e (kept (eq_by_cmp due_cmp d e) (has xs e) (sym (less e) ∙ is))
  where
    kept : (a b : Bool) → cond a false b ≡ true → b ≡ true
    kept true b t = let no : false ≡ true = t in cc
    kept false b t = t

pub take_behind : (d f : Due) (xs ys : List Due) → eq_by_cmp due_cmp d f ≡ false → Updates d false xs ys → Updates d false (f ∷ xs) (f ∷ ys)
take_behind d f xs ys other less e =
    elim (eq_by_cmp due_cmp d e) as (λ b. eq_by_cmp due_cmp d e ≡ b → has ys e ≡ cond b false (has xs e) → has (f ∷ ys) e
    ≡ cond b false (has (f ∷ xs) e)) [
      | true ↦ λ is l. (λ i. one is i || l i)
      | false ↦ λ is l. ap (λ b. eq_by_cmp due_cmp e f || b) l
    ] refl (less e)
  where
    one : eq_by_cmp due_cmp d e ≡ true → eq_by_cmp due_cmp e f ≡ false
    one is = subst (λ x. eq_by_cmp due_cmp x f ≡ false) (due_same d e (is_Equal _ is)) other

-- ---- entries

module _ {V : Type 0} where
  -- the entries whose names rise, the first of them apart
  abbrev Rise : List (Name × V) → Type 0
  Rise es = T (is_sorted name_cmp es)

  put_ahead : (e : Name × V) (es : List (Name × V)) → T (below_all name_cmp e.0 es) → put name_cmp e.0 e.1 es ≡ e ∷ es
  put_ahead e [] h = refl
  put_ahead e (x ∷ es) h =
      ap (λ o. by_order o ((e.0, e.1) ∷ x ∷ es) ((x.0, e.1) ∷ es) (x ∷ put name_cmp e.0 e.1 es)) (T_less _ (T_first _ _ h))

  by_name : (n : Name) (v : V) (e : Name × V) (es : List (Name × V)) (o : Ordering) → name_cmp n e.0 ≡ o
      → by_order o ((n, v) ∷ e ∷ es) ((e.0, v) ∷ es) (e ∷ put name_cmp n v es) ≡ put name_cmp n v (e ∷ es)
  by_name n v e es o is = sym (ap (λ o. by_order o ((n, v) ∷ e ∷ es) ((e.0, v) ∷ es) (e ∷ put name_cmp n v es)) is)

  -- an entry put in before the first, and behind it
  pub entry_before : (n : Name) (v : V) (e : Name × V) (es : List (Name × V)) → Rise (e ∷ es) → name_cmp n e.0 ≡ Less
      → (n, v) ∷ put name_cmp e.0 e.1 es ≡ put name_cmp n v (e ∷ es)
  entry_before n v e es s lt = ap (λ l. (n, v) ∷ l) (put_ahead e es (T_first _ _ s)) ∙ by_name n v e es Less lt

  pub entry_behind : (n : Name) (v : V) (e : Name × V) (es : List (Name × V)) → name_cmp n e.0 ≡ Greater
      → e ∷ put name_cmp n v es ≡ put name_cmp n v (e ∷ es)
  entry_behind n v e es gt = by_name n v e es Greater gt

  -- the first entry taken out, and another
  pub without_first : (n : Name) (e : Name × V) (es : List (Name × V)) → Rise (e ∷ es) → eq_by_cmp name_cmp n e.0 ≡ true
      → es ≡ without n (e ∷ es)
  without_first n e es s same =
      let none = subst (λ k. find name_cmp k es ≡ None) (sym (same_names n e.0 same)) (below-none e.0 es (T_first _ _ s)) in
      sym (ap (λ b. cond (not b) (e ∷ without n es) (without n es)) same ∙ without-none n es none)

  pub without_other : (n : Name) (e : Name × V) (es : List (Name × V)) → eq_by_cmp name_cmp n e.0 ≡ false
      → e ∷ without n es ≡ without n (e ∷ es)
  without_other n e es differ = sym (ap (λ b. cond (not b) (e ∷ without n es) (without n es)) differ)

  pub entries_of : (r : Option (Name × V)) (xs ys : List (Name × V)) → IfNone r (ys ≡ xs) → IfSome r (λ k. xs ≡ k ∷ ys)
      → option_to_list r ++ ys ≡ xs
  entries_of None xs ys none some = none
  entries_of (Some k) xs ys none some = sym some
