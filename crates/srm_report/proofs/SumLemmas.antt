-- Sums over names, over rows, and over members.
use Rattle.std.proofs.Common.{◌≡◌, ◌∙◌, ℕ, zero, suc, ◌+◌, ◌<◌, ◌≤◌, ◌≢◌, Bool, true, false, cond, ◌||◌, List, [], ◌∷◌, ◌++◌, refl, ap, sym}
use Rattle.std.proofs.Common.{◌==◌, eqb-true, eq-eqb, true≢false, filter, arith}
use Rattle.std.specs.List.{Contains, count_by, fold, list_any, range_with_len, sum_by}
use Rattle.std.proofs.lemmas.Bool.{false_from_ne_true}
use Rattle.std.proofs.lemmas.List.Elements.{Contains-append_right}
use Rattle.std.proofs.lemmas.List.Folds.{list_any-append}
use Rattle.std.proofs.lemmas.List.Sums.{sum_by-cons, sum_by_push}
use Rattle.srm_net.specs.declared.packet.Name.{Name}
use Rattle.srm_net.specs.Orders.{ordered, place}
use Rattle.srm_net.specs.Names.{name_cmp}
use Rattle.std.specs.declared.cmp.Ordering.{Ordering}
use Rattle.std.specs.Ordering.{is_lt}
use Rattle.srm_member.specs.declared.row.Row.{Row}
use Rattle.srm_member.specs.ByMember.{rows_of_member}
use Rattle.srm_member.proofs.TableChanges.{same_names, name_is}
use Rattle.srm_report.specs.Operations.{each_once}
use Rattle.srm_report.specs.Rows.{is_name}

-- ---- sums

no_sum : (a s : ℕ) → a ≡ 0 + s → s ≡ 0 → a ≡ 0
no_sum a s e f = omega arith

four : (p q r s t u v w : ℕ) → p ≡ q + r + s → s ≡ t + u → v ≡ q + t → w ≡ r + u → p ≡ v + w
four p q r s t u v w e f g h = omega arith

pub sum_none : {X : Type 0} (xs : List X) → sum_by (λ x. 0) xs ≡ 0
sum_none [] = refl
sum_none (x ∷ xs) = no_sum _ _ (sum_by-cons (λ y. 0) x xs) (sum_none xs)

sum_both : {X : Type 0} (f g : X → ℕ) (xs : List X) → sum_by (λ x. f x + g x) xs ≡ sum_by f xs + sum_by g xs
sum_both f g [] = refl
sum_both f g (x ∷ xs) =
    four _ _ _ _ _ _ _ _ (sum_by-cons (λ y. f y + g y) x xs) (sum_both f g xs) (sum_by-cons f x xs) (sum_by-cons g x xs)

-- two sums, the one within the other
pub sums_turned : {X Y : Type 0} (f : X → Y → ℕ) (xs : List X) (ys : List Y)
    → sum_by (λ x. sum_by (f x) ys) xs ≡ sum_by (λ y. sum_by (λ x. f x y) xs) ys
sums_turned f [] ys = sym (sum_none ys)
sums_turned f (x ∷ xs) ys =
    sum_by-cons (λ z. sum_by (f z) ys) x xs
    ∙ ap (λ n. sum_by (f x) ys + n) (sums_turned f xs ys)
    ∙ sym (sum_both (f x) (λ y. sum_by (λ z. f z y) xs) ys)
    ∙ (λ i. sum_by (λ y. sym (sum_by-cons (λ z. f z y) x xs) i) ys)

-- of what is the same at each element
pub sum_same : {X : Type 0} (f g : X → ℕ) (xs : List X) → ((x : X) → Contains xs x → f x ≡ g x) → sum_by f xs ≡ sum_by g xs
sum_same f g [] h = refl
sum_same f g (x ∷ xs) h =
    sum_by-cons f x xs
    ∙ (λ i. h x (0, omega arith, refl) i + sum_same f g xs (λ y c. h y (Contains-append_right (x ∷ []) xs y c)) i)
    ∙ sym (sum_by-cons g x xs)

-- of those that pass a test
sum_passed : {X : Type 0} (p : X → Bool) (f : X → ℕ) (xs : List X) → sum_by f (filter p xs) ≡ sum_by (λ x. cond (p x) (f x) 0) xs
sum_passed p f [] = refl
sum_passed p f (x ∷ xs) = first (p x) ∙ ap (λ n. cond (p x) (f x) 0 + n) (sum_passed p f xs)
    ∙ sym (sum_by-cons (λ y. cond (p y) (f y) 0) x xs)
  where
    first : (b : Bool) → sum_by f (cond b (x ∷ filter p xs) (filter p xs)) ≡ cond b (f x) 0 + sum_by f (filter p xs)
    first true = sum_by-cons f x (filter p xs)
    first false = omega arith

-- in order
turned : (a b c s t u : ℕ) → s ≡ a + t → t ≡ b + c → u ≡ a + c → s ≡ b + u
turned a b c s t u e f g = omega arith

module _ {X : Type 0} (cmp : X → X → Ordering) (f : X → ℕ) where
  sum_place : (x : X) (ys : List X) → sum_by f (place cmp x ys) ≡ f x + sum_by f ys
  sum_place x [] = sum_by-cons f x []
  sum_place x (y ∷ ys) = by (is_lt (cmp y x)) (sum_place x ys)
    where
      by : (b : Bool) → sum_by f (place cmp x ys) ≡ f x + sum_by f ys
          → sum_by f (cond b (y ∷ place cmp x ys) (x ∷ y ∷ ys)) ≡ f x + sum_by f (y ∷ ys)
      by true rest = turned _ _ _ _ _ _ (sum_by-cons f y (place cmp x ys)) rest (sum_by-cons f y ys)
      by false rest = sum_by-cons f x (y ∷ ys)

  pub sum_ordered : (xs : List X) → sum_by f (ordered cmp xs) ≡ sum_by f xs
  sum_ordered [] = refl
  sum_ordered (x ∷ xs) = sum_place x (ordered cmp xs) ∙ ap (λ n. f x + n) (sum_ordered xs) ∙ sym (sum_by-cons f x xs)

-- ---- members

-- the number i is none of those from a on
pick_none : (i c a n : ℕ) → i < a → sum_by (λ m. cond (i == m) c 0) (range_with_len a n) ≡ 0
pick_none i c a zero lt = refl
pick_none i c a (suc n) lt =
    no_sum _ _ (sum_by-cons (λ m. cond (i == m) c 0) a (range_with_len (a + 1) n)
    ∙ ap (λ b. cond b c 0 + sum_by (λ m. cond (i == m) c 0) (range_with_len (a + 1) n))
    (false_from_ne_true (i == a) (λ e. let is = eqb-true i a e in omega arith)))
    (pick_none i c (a + 1) n (omega arith))

-- it is one of them
pick : (i c a n : ℕ) → a ≤ i → i < a + n → sum_by (λ m. cond (i == m) c 0) (range_with_len a n) ≡ c
pick i c a zero low high = absurd (omega arith)
pick i c a (suc n) low high =
    sum_by-cons (λ m. cond (i == m) c 0) a (range_with_len (a + 1) n)
    ∙ by (i == a) refl (λ ne. pick i c (a + 1) n (omega arith) (omega arith))
  where
    first : (s : ℕ) → s ≡ 0 → c + s ≡ c
    first s e = omega arith

    second : (s : ℕ) → s ≡ c → 0 + s ≡ c
    second s e = omega arith

    by : (b : Bool) → (i == a) ≡ b → (i ≢ a → sum_by (λ m. cond (i == m) c 0) (range_with_len (a + 1) n) ≡ c)
        → cond b c 0 + sum_by (λ m. cond (i == m) c 0) (range_with_len (a + 1) n) ≡ c
    by true e rest = let is = eqb-true i a e in first _ (pick_none i c (a + 1) n (omega arith))
    by false e rest = second _ (rest (λ is. true≢false (sym (eq-eqb i a is) ∙ e)))

-- what the rows of each member add up to, they add up to
pub sum_of_members : (f : Row → ℕ) (rows : List Row) (members : ℕ) → ((r : Row) → Contains rows r → r.key.member < members)
    → sum_by (λ m. sum_by f (rows_of_member m rows)) (range_with_len 0 members) ≡ sum_by f rows
sum_of_members f rows members h =
    (λ i. sum_by (λ m. sum_passed (λ r. r.key.member == m) f rows i) (range_with_len 0 members))
    ∙ sums_turned (λ m r. cond (r.key.member == m) (f r) 0) (range_with_len 0 members) rows
    ∙ sum_same (λ r. sum_by (λ m. cond (r.key.member == m) (f r) 0) (range_with_len 0 members)) f rows
    (λ r c. pick r.key.member (f r) 0 members (omega arith) (let lt = h r c in omega arith))

-- ---- names, each once

pub any_in : {X : Type 0} (p : X → Bool) (xs : List X) (x : X) → Contains xs x → p x ≡ true → list_any p xs ≡ true
any_in p [] x c h = absurd (let l = c.1 in omega arith)
any_in p (y ∷ ys) x (zero, l, e) h = ap (λ b. b || list_any p ys) (ap p e ∙ h)
any_in p (y ∷ ys) x (suc i, l, e) h = ap (λ b. p y || b) (any_in p ys x (i, omega arith, e) h) ∙ or_yes (p y)
  where
    or_yes : (b : Bool) → (b || true) ≡ true
    or_yes true = refl
    or_yes false = refl

module _ (n : Name) where
  abbrev count : List Name → ℕ
  count ks = count_by (is_name n) ks

  abbrev has : List Name → Bool
  has ks = list_any (is_name n) ks

  abbrev Once : List Name → Type 0
  Once ks = count ks ≡ cond (has ks) 1 0

  abbrev next : List Name → Name → List Name
  next known k = cond (list_any (is_name k) known) known (known ++ k ∷ [])

  -- a name that is there already
  known_has : (known : List Name) (k : Name) → list_any (is_name k) known ≡ true → (has known || is_name n k) ≡ has known
  known_has known k h = by (is_name n k) refl
    where
      or_no : (b : Bool) → (b || false) ≡ b
      or_no true = refl
      or_no false = refl

      or_yes : (b : Bool) → b ≡ true → (b || true) ≡ b
      or_yes true e = refl
      or_yes false e = absurd (true≢false (sym e))

      by : (b : Bool) → is_name n k ≡ b → (has known || b) ≡ has known
      by true e = or_yes (has known) (ap (λ x. list_any (is_name x) known) (same_names n k e) ∙ h)
      by false e = or_no (has known)

  one_name : (known : List Name) (k : Name) → has (known ++ k ∷ []) ≡ (has known || is_name n k)
  one_name known k = list_any-append (is_name n) known (k ∷ []) ∙ ap (λ b. has known || b) (last (is_name n k))
    where
      last : (b : Bool) → (b || false) ≡ b
      last true = refl
      last false = refl

  has_next : (known : List Name) (k : Name) → has (next known k) ≡ (has known || is_name n k)
  has_next known k = by (list_any (is_name k) known) refl
    where
      by : (b : Bool) → list_any (is_name k) known ≡ b → has (cond b known (known ++ k ∷ [])) ≡ (has known || is_name n k)
      by true e = sym (known_has known k e)
      by false e = one_name known k

  once_next : (known : List Name) (k : Name) → Once known → Once (next known k)
  once_next known k was = by (list_any (is_name k) known) refl
    where
      grown : (b a : Bool) → is_name n k ≡ b → has known ≡ a → (b ≡ true → a ≡ false)
          → count known + cond b 1 0 ≡ cond (a || b) 1 0
      grown true true e f new = absurd (true≢false (new refl))
      grown true false e f new = let c : count known ≡ 0 = was ∙ ap (λ a. cond a 1 0) f in omega arith
      grown false true e f new = let c : count known ≡ 1 = was ∙ ap (λ a. cond a 1 0) f in omega arith
      grown false false e f new = let c : count known ≡ 0 = was ∙ ap (λ a. cond a 1 0) f in omega arith

      by : (b : Bool) → list_any (is_name k) known ≡ b → Once (cond b known (known ++ k ∷ []))
      by true e = was
      by false e =
          sum_by_push (λ x. cond (is_name n x) 1 0) known k
          ∙ grown (is_name n k) (has known) refl refl (λ same. ap (λ x. list_any (is_name x) known) (same_names n k same) ∙ e)
          ∙ ap (λ a. cond a 1 0) (sym (one_name known k))

  once_from : (known ns : List Name) → Once known → Once (fold next known ns)
  once_from known [] was = was
  once_from known (k ∷ ns) was = once_from (next known k) ns (once_next known k was)

  has_from : (known ns : List Name) → has (fold next known ns) ≡ (has known || has ns)
  has_from known [] = nothing (has known)
    where
      nothing : (b : Bool) → b ≡ (b || false)
      nothing true = refl
      nothing false = refl
  has_from known (k ∷ ns) =
      has_from (next known k) ns ∙ ap (λ b. b || has ns) (has_next known k) ∙ joined (has known) (is_name n k) (has ns)
    where
      joined : (a b c : Bool) → ((a || b) || c) ≡ (a || (b || c))
      joined true b c = refl
      joined false b c = refl

  -- how often the name stands among those that stand there once
  pub count_once : (ns : List Name) → list_any (is_name n) ns ≡ true → count_by (is_name n) (ordered name_cmp (each_once ns)) ≡ 1
  count_once ns h =
      sum_ordered name_cmp (λ x. cond (is_name n x) 1 0) (each_once ns)
      ∙ once_from [] ns refl ∙ ap (λ a. cond a 1 0) (has_from [] ns ∙ h)

-- names are told apart alike from both sides
pub name_turned : (n k : Name) → is_name n k ≡ is_name k n
name_turned n k = by (is_name n k) (is_name k n) refl refl
  where
    by : (a b : Bool) → is_name n k ≡ a → is_name k n ≡ b → a ≡ b
    by true b e f = sym (ap (λ x. is_name k x) (same_names n k e) ∙ name_is k) ∙ f
    by false true e f = sym e ∙ ap (λ x. is_name n x) (same_names k n f) ∙ name_is n
    by false false e f = refl
