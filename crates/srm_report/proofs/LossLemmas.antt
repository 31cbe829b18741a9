-- The table of losses, loss by loss, over orderly rows.
use Rattle.std.proofs.Common.{◌≡◌, ◌∙◌, ℕ, zero, suc, ◌+◌, ◌<◌, Bool, true, false, cond, List, [], ◌∷◌, ◌++◌, length, map, Some, None, refl}
use Rattle.std.proofs.Common.{ap, sym, subst, take, drop, get_or, append_assoc, ◌==◌, eqb-true, arith}
use Rattle.std.proofs.Math.Seq.{take-length, split_at as split_suc}
use Rattle.std.specs.List.{Contains, All}
use Rattle.std.specs.List as lists
use Rattle.std.specs.FinMap.Entries.{find, put}
use Rattle.std.proofs.lemmas.List.{take_more}
use Rattle.std.proofs.lemmas.List.Elements.{Contains-append_left, Contains-append_right}
use Rattle.std.proofs.lemmas.Option.{same_Some}
use Rattle.csv.specs.Writing.{default_writer, row_text}
use Rattle.srm_net.specs.declared.packet.Name.{Name}
use Rattle.srm_net.specs.Network.{Network}
use Rattle.srm_member.specs.declared.row.Row.{Row}
use Rattle.srm_member.specs.Orderly.{IsOrderly, IsAmong, LostIn, FixedIn, brought}
use Rattle.srm_member.specs.Kinds.{is_fixed}
use Rattle.srm_report.specs.declared.losses.course.Course.{Course}
use Rattle.srm_report.specs.declared.losses.loss.Loss.{Loss}
use Rattle.srm_report.specs.Courses.{TellLosses, LoseInTurn, course_of, losing, name_fixed, detects, row_time}
use Rattle.srm_report.specs.Losses.{loss_cmp, detected_at, recovered_at, loss_columns, loss_fields, loss_row, losses_table}
use Rattle.srm_report.specs.Tables.{table_lines}
use Rattle.srm_report.proofs.CourseLemmas.{loss_total, named_in, first_true, second_true, told_is, one_more}
use Rattle.srm_report.proofs.EntryLemmas.{found}
use Rattle.srm_report.proofs.ByMemberLemmas.{lost_in_turn, fixed_in_turn}
use Rattle.srm_report.proofs.TableLemmas.{table_more}
use Rattle.srm_model.proofs.TraceRows.{contained_split}

length-keys : (es : List (Loss × Course)) → length (map (λ (e : Loss × Course). e.0) es) ≡ length es
length-keys [] = refl
length-keys (e ∷ es) = ap suc (length-keys es)

-- ---- parts of lists

-- a list about one of its places
pub split_at : {A : Type 0} (xs : List A) (i : ℕ) (d : A) → i < length xs → xs ≡ take i xs ++ get_or xs i d ∷ drop (i + 1) xs
split_at xs i d l = grind (arith, split_suc)

-- ---- what was fixed was lost

pub fixed_was_lost : (rows after : List Row) (r : Row) → LoseInTurn (rows ++ r ∷ after) → (m : ℕ) (n : Name)
    → FixedIn m n rows → LostIn m n rows
fixed_was_lost rows after r o m n fixed =
    let q = fixed.0 in
    let parts = contained_split rows q fixed.1 in
    let whole : rows ++ r ∷ after ≡ parts.0 ++ q ∷ (parts.1 ++ r ∷ after) = ap (λ l. l ++ r ∷ after) parts.2
    ∙ append_assoc parts.0 (q ∷ parts.1) (r ∷ after) in
    let was = fixed_in_turn parts.0 (parts.1 ++ r ∷ after) q (subst LoseInTurn whole o) fixed.3 in
    let name : was.0 ≡ n = same_Some _ _ (sym was.1 ∙ fixed.4) in
    let lost : LostIn m n parts.0 = subst (λ k. LostIn m k parts.0) name (subst (λ j. LostIn j was.0 parts.0) fixed.2 was.2) in
    (lost.0, subst (λ l. Contains l lost.0) (sym parts.2) (Contains-append_left parts.0 (q ∷ parts.1) lost.0 lost.1), lost.2, lost.3)

-- a row that takes in a name as `fixed`
pub fix_facts : (rows after : List Row) (r : Row) → LoseInTurn (rows ++ r ∷ after) → (n : Name) → name_fixed r ≡ Some n
    → LostIn r.key.member n rows × ¬ FixedIn r.key.member n rows
fix_facts rows after r o n h = elim (is_fixed r.told) as
    (λ b. is_fixed r.told ≡ b → cond b (brought r.about) None ≡ Some n → LostIn r.key.member n rows × ¬ FixedIn r.key.member n rows) [
      | true ↦ λ e g.
          let was = fixed_in_turn rows after r o (told_is r.told e) in
          let name : was.0 ≡ n = same_Some _ _ (sym was.1 ∙ g) in
          subst (λ k. LostIn r.key.member k rows × ¬ FixedIn r.key.member k rows) name (was.2, was.3)
      | false ↦ λ e g. cc
    ] refl h

-- ---- a row, name by name

pub detect_more : (rows after : List Row) (r : Row) → LoseInTurn (rows ++ r ∷ after) → (i : ℕ) (d : Name)
    → i < length r.lost → (es new : List (Loss × Course))
    → TellLosses (rows ++ losing r (take i r.lost) ∷ []) es
    → new ≡ put loss_cmp (record { member = r.key.member; name = get_or r.lost i d }) (record { detected = r.key.time; recovered = None })
    es
    → TellLosses (rows ++ losing r (take (i + 1) r.lost) ∷ []) new
detect_more rows after r o i d lt es new was grown =
    let n = get_or r.lost i d in
    let facts = lost_in_turn rows after r o (take i r.lost) (drop (i + 1) r.lost) n (split_at r.lost i d lt) in
    let one = one_more rows r (take i r.lost) n es was facts.0 facts.1
    (λ f. facts.0 (fixed_was_lost rows after r o r.key.member n f)) in
    subst (λ l. TellLosses (rows ++ losing r l ∷ []) new) (sym (take_more r.lost i d lt))
    (subst (TellLosses (rows ++ losing r (take i r.lost ++ n ∷ []) ∷ [])) (sym grown) one)

pub detect_all : (rows : List Row) (r : Row) (i : ℕ) (es : List (Loss × Course)) → length r.lost ≡ i
    → TellLosses (rows ++ losing r (take i r.lost) ∷ []) es → TellLosses (rows ++ losing r r.lost ∷ []) es
detect_all rows r i es e was = subst (λ l. TellLosses (rows ++ losing r l ∷ []) es) (ap (λ n. take n r.lost) (sym e) ∙ take-length r.lost)
    was

-- ---- entries

-- what an entry says of its loss
pub told : (rows : List Row) (k : Loss) (c : Course) → course_of rows k ≡ Some c → (detected_at rows k ≡ Some c.detected)
    × (recovered_at rows k ≡ c.recovered)
told rows k c e = grind arith

find_is : (t : Row → Bool) (rows : List Row) (n : ℕ) → row_time (lists.find t rows) ≡ Some n → (q : Row) × Contains rows q × (t q ≡ true)
find_is t [] n h = cc
find_is t (q ∷ rows) n h = elim (t q) as (λ b. t q ≡ b → row_time (cond b (Some q) (lists.find t rows)) ≡ Some n → (p : Row)
    × Contains (q ∷ rows) p × (t p ≡ true)) [
      | true ↦ λ e g. (q, (0, omega arith, refl), e)
      | false ↦ λ e g. (let f = find_is t rows n g in (f.0, Contains-append_right (q ∷ []) rows f.0 f.1, f.2))
    ] refl h

all_in : {A : Type 0} (P : A → Type 0) (xs : List A) → All P xs → (x : A) → Contains xs x → P x
all_in P xs h x (i, l, e) = subst P e (h i x l)

module _ (rows : List Row) (members : ℕ) (orderly : IsOrderly members rows) (es : List (Loss × Course)) (tell : TellLosses rows es) where
  module _ (i : ℕ) (k : Loss) (c : Course) (lt : i < length es) (here : (k, c) ≡ get_or es i (k, c)) where
    entry : course_of rows k ≡ Some c
    entry = sym (tell.courses k) ∙ subst (λ (x : Loss × Course). find loss_cmp x.0 es ≡ Some x.1) (sym here)
        (found loss_cmp loss_total es tell.sorted i (k, c) lt)

    is_row : (net : Network) → loss_fields net k (Some c.detected) c.recovered ≡ loss_row net rows k
    is_row net = let t = told rows k c entry in λ i. loss_fields net k (sym t.0 i) (sym t.1 i)

    among : (k.member < members) × (k.name.source < members)
    among =
        let f = find_is (detects k) rows c.detected (told rows k c entry).0 in
        let a = all_in (IsAmong members) rows orderly.among f.0 f.1 in
        let member : f.0.key.member ≡ k.member = eqb-true _ _ (first_true (f.0.key.member == k.member) _ f.2) in (
          subst (λ m. m < members) member a.member,
          a.sources k.name
              (named_in k.name f.0.lost (second_true (f.0.key.member == k.member) _ f.2)),
        )

  text_more : (net : Network) (i : ℕ) (k : Loss) (c : Course) → i < length es → (k, c) ≡ get_or es i (k, c)
      → table_lines loss_columns (map (loss_row net rows) (take i (map (λ e. e.0) es)))
      ++ row_text default_writer (loss_fields net k (Some c.detected) c.recovered)
      ≡ table_lines loss_columns (map (loss_row net rows) (take (i + 1) (map (λ e. e.0) es)))
  text_more net i k c lt here =
      let ks = map (λ (e : Loss × Course). e.0) es in
      let long : length ks ≡ length es = length-keys es in
      let one : take (i + 1) ks ≡ take i ks ++ k ∷ [] = take_more ks i k (omega arith)
      ∙ ap (λ x. take i ks ++ x ∷ []) (get-map es i k c lt here) in
      ap (λ r. table_lines loss_columns (map (loss_row net rows) (take i ks)) ++ row_text default_writer r) (is_row i k c lt here net)
      ∙ table_more loss_columns (map (loss_row net rows) (take i ks)) (loss_row net rows k)
      ∙ ap (table_lines loss_columns) (sym (ap (map (loss_row net rows)) one ∙ map-push (loss_row net rows) (take i ks) k))
    where
      get-map : (es : List (Loss × Course)) (i : ℕ) (k : Loss) (c : Course) → i < length es → (k, c) ≡ get_or es i (k, c)
          → get_or (map (λ e. e.0) es) i k ≡ k
      get-map [] i k c l h = absurd (omega arith)
      get-map (e ∷ es) zero k c l h = sym (ap (λ (x : Loss × Course). x.0) h)
      get-map (e ∷ es) (suc i) k c l h = get-map es i k c (omega arith) h

      map-push : {A B : Type 0} (f : A → B) (xs : List A) (x : A) → map f (xs ++ x ∷ []) ≡ map f xs ++ f x ∷ []
      map-push f [] x = refl
      map-push f (y ∷ ys) x = ap (λ l. f y ∷ l) (map-push f ys x)

  -- the same of an entry that is read with any other in its place
  read : (i : ℕ) (d : Loss × Course) → i < length es → ((get_or es i d).0, (get_or es i d).1)
      ≡ get_or es i ((get_or es i d).0, (get_or es i d).1)
  read i d lt = any_other es i d (get_or es i d) lt
    where
      any_other : (es : List (Loss × Course)) (i : ℕ) (d e : Loss × Course) → i < length es → get_or es i d ≡ get_or es i e
      any_other [] i d e l = absurd (omega arith)
      any_other (x ∷ xs) zero d e l = refl
      any_other (x ∷ xs) (suc i) d e l = any_other xs i d e (omega arith)

  pub next_among : (i : ℕ) (d : Loss × Course) → i < length es → ((get_or es i d).0.member < members)
      × ((get_or es i d).0.name.source < members)
  next_among i d lt = among i (get_or es i d).0 (get_or es i d).1 lt (read i d lt)

  pub text_next : (net : Network) (i : ℕ) (d : Loss × Course) → i < length es
      → table_lines loss_columns (map (loss_row net rows) (take i (map (λ e. e.0) es)))
      ++ row_text default_writer (loss_fields net (get_or es i d).0 (Some (get_or es i d).1.detected) (get_or es i d).1.recovered)
      ≡ table_lines loss_columns (map (loss_row net rows) (take (i + 1) (map (λ e. e.0) es)))
  text_next net i d lt = text_more net i (get_or es i d).0 (get_or es i d).1 lt (read i d lt)

  pub text_all : (net : Network) (i : ℕ) → i ≡ length es
      → table_lines loss_columns (map (loss_row net rows) (take i (map (λ e. e.0) es))) ≡ losses_table net rows
  unfolding losses_table
  text_all net i whole = grind (arith, length-keys, take-length)
