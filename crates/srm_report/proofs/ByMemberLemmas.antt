-- Losses in rows that are alike.
use Rattle.std.proofs.Common.{◌≡◌, ◌∙◌, ℕ, inl, inr, Bool, false, cond, ◌&&◌, List, [], ◌∷◌, ◌++◌, map, Some, refl}
use Rattle.std.proofs.Common.{ap, sym, subst, ◌==◌, eqb-true, eq-eqb, true≢false, filter}
use Rattle.std.specs.List.{Contains, list_any}
use Rattle.std.specs.List as lists
use Rattle.std.specs.Option.{option_map, option_map_or}
use Rattle.std.specs.Ordering.{is_eq}
use Rattle.std.proofs.lemmas.Grind.{flat_map-append}
use Rattle.std.proofs.lemmas.List.Elements.{filter-append}
use Rattle.srm_net.specs.declared.packet.Name.{Name}
use Rattle.srm_net.specs.Orders.{place, ordered}
use Rattle.srm_member.specs.declared.told.Told.TheVariants.{Fixed}
use Rattle.srm_member.specs.declared.row.Row.{Row}
use Rattle.srm_member.specs.ByMember.{rows_of_member, AreAlike}
use Rattle.srm_member.specs.Orderly.{IsOrderly, LostIn, FixedIn, brought}
use Rattle.srm_member.specs.Kinds.{is_fixed}
use Rattle.srm_member.proofs.OrderLemmas.{place-comm}
use Rattle.srm_member.proofs.ByMemberLemmas.{split_filter, in_filter, from_filter, find_filtered, same_of_alike}
use Rattle.srm_report.specs.declared.losses.course.Course.{Course}
use Rattle.srm_report.specs.declared.losses.loss.Loss.{Loss}
use Rattle.srm_report.specs.Courses.{TellLosses, LoseInTurn, course_of, row_time}
use Rattle.srm_report.specs.Losses.{loss_cmp, losses_in, detected_at, recovered_at}
use Rattle.srm_report.specs.Rows.{is_name}
use Rattle.srm_report.proofs.CourseLemmas.{loss_total, losses_apart}

-- ---- losses in turn

-- those of a member
abbrev by : ℕ → Row → Bool
by m r = r.key.member == m

lost_of : (m : ℕ) (n : Name) (rows : List Row) → LostIn m n rows → LostIn m n (rows_of_member m rows)
lost_of m n rows (r, c, member, lost) = (r, in_filter (by m) rows r c (eq-eqb _ _ member), member, lost)

lost_from : (j m : ℕ) (n : Name) (rows : List Row) → LostIn m n (rows_of_member j rows) → LostIn m n rows
lost_from j m n rows (r, c, member, lost) = (r, from_filter (by j) rows r c, member, lost)

fixed_of : (m : ℕ) (n : Name) (rows : List Row) → FixedIn m n rows → FixedIn m n (rows_of_member m rows)
fixed_of m n rows (r, c, member, told, name) = (r, in_filter (by m) rows r c (eq-eqb _ _ member), member, told, name)

fixed_from : (j m : ℕ) (n : Name) (rows : List Row) → FixedIn m n (rows_of_member j rows) → FixedIn m n rows
fixed_from j m n rows (r, c, member, told, name) = (r, from_filter (by j) rows r c, member, told, name)

-- a row among those of its member
about : (rows after : List Row) (r : Row) → rows_of_member r.key.member (rows ++ r ∷ after)
    ≡ rows_of_member r.key.member rows ++ r ∷ rows_of_member r.key.member after
about rows after r =
    let p = by r.key.member in
    filter-append p rows (r ∷ after)
    ∙ ap (λ b. filter p rows ++ cond b (r ∷ filter p after) (filter p after)) (eq-eqb _ _ refl)

pub lost_in_turn : (rows after : List Row) (r : Row) → LoseInTurn (rows ++ r ∷ after) → (front back : List Name) (n : Name)
    → r.lost ≡ front ++ n ∷ back → (¬ LostIn r.key.member n rows) × (¬ Contains front n)
lost_in_turn rows after r o front back n is =
    let m = r.key.member in
    let facts = (o m).0 (rows_of_member m rows) (rows_of_member m after) r front back n (about rows after r) is in
    (λ h. facts.0 (lost_of m n rows h), facts.1)

pub fixed_in_turn : (rows after : List Row) (r : Row) → LoseInTurn (rows ++ r ∷ after) → r.told ≡ Fixed
    → (n : Name) × (brought r.about ≡ Some n) × LostIn r.key.member n rows × ¬ FixedIn r.key.member n rows
fixed_in_turn rows after r o is =
    let m = r.key.member in
    let facts = (o m).1 (rows_of_member m rows) (rows_of_member m after) r (about rows after r) is in
    (facts.0, facts.1, lost_from m m facts.0 rows facts.2, λ h. facts.3 (fixed_of m facts.0 rows h))

-- the rows of a run lose in turn
pub orderly_loses : (members : ℕ) (rows : List Row) → IsOrderly members rows → LoseInTurn rows
orderly_loses members rows o m = (
  λ before after r front back n is lost.
      let s = split_filter (by m) rows before r after is in
      let facts = o.lost_once s.before s.after r front back n s.is lost in
      (λ h. facts.0 (lost_from m r.key.member n s.before (subst (LostIn r.key.member n) (sym s.front_is) h)), facts.1),
  λ before after r is told.
      let s = split_filter (by m) rows before r after is in
      let facts = o.fixed_after s.before s.after r s.is told in
      let n = facts.0 in
      let same : r.key.member ≡ m = eqb-true _ _ s.passes in
      let lost : LostIn r.key.member n (rows_of_member m s.before) =
      subst (λ k. LostIn r.key.member n (rows_of_member k s.before)) same (lost_of r.key.member n s.before facts.2) in (
        n,
        facts.1,
        subst (LostIn r.key.member n) s.front_is lost,
        λ h. facts.3 (fixed_from m r.key.member n s.before (subst (FixedIn r.key.member n) (sym s.front_is) h)),
      ),
)

-- ---- what became of losses

at_alike : (k : ℕ) (q : Row → Bool) (xs ys : List Row) → rows_of_member k xs ≡ rows_of_member k ys
    → row_time (lists.find (λ r. (r.key.member == k) && q r) xs)
    ≡ row_time (lists.find (λ r. (r.key.member == k) && q r) ys)
at_alike k q xs ys alike =
    ap row_time (find_filtered (by k) q xs ∙ ap (λ l. lists.find q l) alike ∙ sym (find_filtered (by k) q ys))

pub course_at : (k : Loss) (xs ys : List Row) → rows_of_member k.member xs ≡ rows_of_member k.member ys → course_of xs k ≡ course_of ys k
course_at k xs ys alike =
    let d : detected_at xs k ≡ detected_at ys k = at_alike k.member (λ r. list_any (is_name k.name) r.lost) xs ys alike in
    let f : recovered_at xs k ≡ recovered_at ys k =
    at_alike k.member (λ r. is_fixed r.told && option_map_or (is_name k.name) (brought r.about) false) xs ys alike in
    λ i. option_map (λ at. record { detected = at; recovered = f i }) (d i)

-- ---- losses in order, wherever they are added

swap_places : (j k : Loss) (zs : List Loss) → place loss_cmp j (place loss_cmp k zs) ≡ place loss_cmp k (place loss_cmp j zs)
swap_places j k zs = elim (losses_apart j k) [
  | inl same ↦ subst (λ (l : Loss). place loss_cmp j (place loss_cmp l zs) ≡ place loss_cmp l (place loss_cmp j zs)) same refl
  | inr ne ↦ place-comm loss_cmp loss_total j k (λ e. true≢false (sym (ap is_eq e) ∙ ne)) zs
]

abbrev places : List Loss → List Loss → List Loss
places [] zs = zs
places (k ∷ ks) zs = place loss_cmp k (places ks zs)

place_first : (j : Loss) (ks zs : List Loss) → place loss_cmp j (places ks zs) ≡ places ks (place loss_cmp j zs)
place_first j [] zs = refl
place_first j (k ∷ ks) zs = swap_places j k (places ks zs) ∙ ap (place loss_cmp k) (place_first j ks zs)

ordered_first : (ks zs : List Loss) → ordered loss_cmp (ks ++ zs) ≡ places ks (ordered loss_cmp zs)
ordered_first [] zs = refl
ordered_first (k ∷ ks) zs = ap (place loss_cmp k) (ordered_first ks zs)

ordered_within : (js ks zs : List Loss) → ordered loss_cmp (js ++ (ks ++ zs)) ≡ places ks (ordered loss_cmp (js ++ zs))
ordered_within [] ks zs = ordered_first ks zs
ordered_within (j ∷ js) ks zs = ap (place loss_cmp j) (ordered_within js ks zs) ∙ place_first j ks (ordered loss_cmp (js ++ zs))

-- the losses of one row
abbrev own_losses : Row → List Loss
own_losses r = map (λ n. record { member = r.key.member; name = n }) r.lost

row_within : (pre : List Row) (x : Row) (post : List Row) → ordered loss_cmp (losses_in (pre ++ x ∷ post))
    ≡ places (own_losses x) (ordered loss_cmp (losses_in (pre ++ post)))
row_within pre x post =
    ap (ordered loss_cmp) (flat_map-append own_losses pre (x ∷ post))
    ∙ ordered_within (losses_in pre) (own_losses x) (losses_in post)
    ∙ ap (λ l. places (own_losses x) (ordered loss_cmp l)) (sym (flat_map-append own_losses pre post))

losses_alike : (xs ys : List Row) → AreAlike xs ys → ordered loss_cmp (losses_in xs) ≡ ordered loss_cmp (losses_in ys)
losses_alike = same_of_alike (λ rows. ordered loss_cmp (losses_in rows)) (λ x zs. places (own_losses x) zs) row_within

pub tell_alike : (xs ys : List Row) (es : List (Loss × Course)) → AreAlike xs ys → TellLosses xs es → TellLosses ys es
tell_alike xs ys es alike t = record {
  sorted = t.sorted;
  losses = t.losses ∙ losses_alike xs ys alike;
  courses = λ k. t.courses k ∙ course_at k xs ys (alike k.member);
}
