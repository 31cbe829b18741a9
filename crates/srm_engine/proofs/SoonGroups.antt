-- How soon something is due in each group, where groups are looked at one after the other.
use Rattle.std.proofs.Common.{◌≡◌, ◌⊎◌, inl, inr, ℕ, zero, suc, ◌+◌, ◌*◌, ◌<◌, ◌≤◌, List, [], ◌∷◌, ◌++◌, refl, sym, ap, ◌∙◌, subst}
use Rattle.std.proofs.Common.{add-zero, arith, slice_set, All, get_or, length, length-append, take, drop, add-one, append-nil, take_all}
use Rattle.std.proofs.Math.Nat.{suc-mul}
use Rattle.std.proofs.lemmas.List.{length-map, drop_all, get_or-map}
use Rattle.std.proofs.lemmas.List.Elements.{All-nil, All-cons}
use Rattle.std.proofs.lemmas.Slice.Zip.{AllZip-long}
use Rattle.std.specs.Global.{Vec}
use Rattle.srm_member.specs.Record.{Record}
use Rattle.srm_member.specs.declared.row.Row.{Row}
use Rattle.srm_cell.specs.declared.cell.Cell.{Cell}
use Rattle.srm_cell.specs.Jobs.{RanEach, own_cells}
use Rattle.srm_cell.specs.Setting.{Setting}
use Rattle.srm_cell.specs.Views.{event_of, own_cell}
use Rattle.srm_engine.specs.declared.soonest.Soonest.{Soonest}
use Rattle.srm_engine.specs.Groups.{AreCuts, AreGrouped, RanGroups, sizes, all_in}
use Rattle.srm_engine.specs.Seen.{AreFrom}
use Rattle.srm_engine.specs.Soonest.{due, least_of, soon_in, soonest_of}
use Rattle.srm_engine.proofs.CellLists.{both_from, first_cut, no_more_groups}
use Rattle.srm_engine.specs.WatchedGroups.{time_at}
use Rattle.srm_interfaces.specs.Watches.{IsIdleTo}
use Rattle.srm_cell.proofs.Nexts.{none_due}
use Rattle.srm_engine.proofs.SoonLemmas.{idle_cells, none_less}

-- ---- the members of a group

-- where the cells of group k stand
pub record GroupAt (all cut k n : ℕ) : Type 0 where
  pub some : 0 < n
  pub most : n ≤ cut
  pub within : k * cut + n ≤ all

pub group_within : {A : Type 0} (cut : ℕ) (gs : List (Vec A)) (k : ℕ) (d : Vec A) → 0 < cut → AreCuts cut (sizes gs) → k < length gs
    → GroupAt (length (all_in gs)) cut k (length (get_or gs k d).items)
group_within cut [] k d pos cuts lt = absurd (omega arith)
group_within cut (g ∷ gs) zero d pos cuts lt =
    let a = first_cut cut (length g.items) (sizes gs) pos cuts in
    let both = length-append g.items (all_in gs) in
    record { some = a.some; most = a.most; within = omega arith }
group_within cut (g ∷ gs) (suc k) d pos cuts lt =
    let a = first_cut cut (length g.items) (sizes gs) pos cuts in
    let both = length-append g.items (all_in gs) in
    let r = group_within cut gs k d pos a.others (omega arith) in
    let full : length g.items ≡ cut = is_full a.full in
    let more = r.within in
    record { some = r.some; most = r.most; within = omega (arith, suc-mul k cut) }
  where
    is_full : (length g.items ≡ cut) ⊎ (sizes gs ≡ []) → length g.items ≡ cut
    is_full (inl e) = e
    is_full (inr none) = let no : length gs ≡ 0 = ap length (no_more_groups gs none) in absurd (omega arith)

module _ {M : Type 0} (f : M → Record) where
  -- the cells of group k are those of its members
  group_from : (cut i : ℕ) (gs : List (Vec (Cell M))) (k : ℕ) (d : Vec (Cell M)) → 0 < cut → AreCuts cut (sizes gs)
      → AreFrom f i (all_in gs) → k < length gs → AreFrom f (i + k * cut) (get_or gs k d).items
  group_from cut i [] k d pos cuts h lt = absurd (omega arith)
  group_from cut i (g ∷ gs) zero d pos cuts h lt =
      let at : i ≡ i + 0 * cut = omega arith in
      subst (λ j. AreFrom f j g.items) at (both_from f i g.items (all_in gs) h).0
  group_from cut i (g ∷ gs) (suc k) d pos cuts h lt =
      let a = first_cut cut (length g.items) (sizes gs) pos cuts in
      let full : length g.items ≡ cut = is_full a.full in
      let at : i + length g.items + k * cut ≡ i + suc k * cut = omega (arith, suc-mul k cut) in
      subst (λ j. AreFrom f j (get_or gs k d).items) at
      (group_from cut (i + length g.items) gs k d pos a.others (both_from f i g.items (all_in gs) h).1 (omega arith))
    where
      is_full : (length g.items ≡ cut) ⊎ (sizes gs ≡ []) → length g.items ≡ cut
      is_full (inl e) = e
      is_full (inr none) = let no : length gs ≡ 0 = ap length (no_more_groups gs none) in absurd (omega arith)

  -- what is told of the cells of a group as they are looked at is so of that group
  pub looked_at : (s : Setting) (cut : ℕ) (gs : List (Vec (Cell M))) (k : ℕ) (g : Vec (Cell M)) (own : List (Cell M)) (x : Soonest)
      → 0 < cut → AreGrouped f cut gs → k < length gs → g ≡ get_or gs k g → own ≡ g.items
      → (AreFrom f (k * cut) own → x ≡ soonest_of s (own_cells f own)) → x ≡ get_or (soon_in f s gs) k x
  looked_at s cut gs k g own x pos h lt is same told =
      let here : own ≡ (get_or gs k g).items = same ∙ ap (λ (v : Vec (Cell M)). v.items) is in
      let at : 0 + k * cut ≡ k * cut = omega arith in
      told (subst (λ l. AreFrom f (k * cut) l) (sym here)
      (subst (λ j. AreFrom f j (get_or gs k g).items) at (group_from cut 0 gs k g pos h.cuts h.order lt)))
      ∙ ap (λ l. soonest_of s (own_cells f l)) here
      ∙ sym (get_or-map (λ (v : Vec (Cell M)). soonest_of s (own_cells f v.items)) gs k g x lt)

  ran_at : (till : ℕ) (gs hs : List (Vec (Cell M))) (k : ℕ) (d e : Vec (Cell M)) → RanGroups f till gs hs → k < length hs
      → (lists : List (List Row)) × RanEach f till (get_or gs k d).items lists (get_or hs k e).items
  ran_at till [] [] k d e h lt = absurd (omega arith)
  ran_at till [] (b ∷ hs) k d e h lt = absurd h
  ran_at till (a ∷ gs) [] k d e h lt = absurd h
  ran_at till (a ∷ gs) (b ∷ hs) zero d e h lt = h.0
  ran_at till (a ∷ gs) (b ∷ hs) (suc k) d e h lt = ran_at till gs hs k d e h.1 (omega arith)

  -- as many groups
  pub as_many_ran : (s : Setting) (till : ℕ) (gs hs : List (Vec (Cell M))) → RanGroups f till gs hs
      → length (soon_in f s hs) ≡ length (soon_in f s gs)
  as_many_ran s till gs hs h =
      length-map hs (λ (v : Vec (Cell M)). soonest_of s (own_cells f v.items))
      ∙ AllZip-long (λ (a b : Vec (Cell M)). (lists : List (List Row)) × RanEach f till a.items lists b.items) gs hs h
      ∙ sym (length-map gs (λ (v : Vec (Cell M)). soonest_of s (own_cells f v.items)))

  -- where nothing was due in a group before the end, it is as soon due as before
  pub as_before : (s : Setting) (till : ℕ) (gs hs : List (Vec (Cell M))) (k : ℕ) (d e : Vec (Cell M)) (x : Soonest)
      → RanGroups f till gs hs → k < length hs → k < length gs → till ≤ (get_or (soon_in f s gs) k x).time
      → get_or (soon_in f s gs) k x ≡ get_or (soon_in f s hs) k x
  as_before s till gs hs k d e x ran lt within late =
      let at = get_or-map (λ (v : Vec (Cell M)). soonest_of s (own_cells f v.items)) gs k d x within in
      let after = get_or-map (λ (v : Vec (Cell M)). soonest_of s (own_cells f v.items)) hs k e x lt in
      let r = ran_at till gs hs k d e ran lt in
      at ∙ ap (soonest_of s) (idle_cells f till s.traffic.until (get_or gs k d).items r.0 (get_or hs k e).items r.1
      (subst (λ (y : Soonest). till ≤ y.time) at late)) ∙ sym after

-- ---- one group after the other

-- what was kept, written over up to a place
abbrev pub written_to : {A : Type 0} → ℕ → List A → List A → List A
written_to k new old = take k new ++ drop k old

module _ {A : Type 0} where
  -- the next is still as it was
  pub next_old : (k : ℕ) (new old : List A) (d : A) → length new ≡ length old → k < length old
      → get_or (written_to k new old) k d ≡ get_or old k d
  next_old k [] [] d same lt = absurd (omega arith)
  next_old k [] (y ∷ old) d same lt = absurd (omega arith)
  next_old k (x ∷ new) [] d same lt = absurd (omega arith)
  next_old zero (x ∷ new) (y ∷ old) d same lt = refl
  next_old (suc k) (x ∷ new) (y ∷ old) d same lt = next_old k new old d (omega arith) (omega arith)

  set_next : (k : ℕ) (new old : List A) (x : A) → length new ≡ length old → k < length old → x ≡ get_or new k x
      → slice_set (written_to k new old) k x ≡ written_to (suc k) new old
  set_next k [] [] x same lt is = absurd (omega arith)
  set_next k [] (y ∷ old) x same lt is = absurd (omega arith)
  set_next k (z ∷ new) [] x same lt is = absurd (omega arith)
  set_next zero (z ∷ new) (y ∷ old) x same lt is = ap (λ v. v ∷ old) is
  set_next (suc k) (z ∷ new) (y ∷ old) x same lt is = ap (λ l. z ∷ l) (set_next k new old x (omega arith) (omega arith) is)

  keep_next : (k : ℕ) (new old : List A) (d : A) → length new ≡ length old → k < length old → get_or old k d ≡ get_or new k d
      → written_to k new old ≡ written_to (suc k) new old
  keep_next k [] [] d same lt is = absurd (omega arith)
  keep_next k [] (y ∷ old) d same lt is = absurd (omega arith)
  keep_next k (z ∷ new) [] d same lt is = absurd (omega arith)
  keep_next zero (z ∷ new) (y ∷ old) d same lt is = ap (λ v. v ∷ old) is
  keep_next (suc k) (z ∷ new) (y ∷ old) d same lt is = ap (λ l. z ∷ l) (keep_next k new old d (omega arith) (omega arith) is)

  -- the next is written, or stands
  pub one_set : (k : ℕ) (new old : List A) (x : A) → length new ≡ length old → k < length old → x ≡ get_or new k x
      → slice_set (written_to k new old) k x ≡ written_to (k + 1) new old
  one_set k new old x same lt is = set_next k new old x same lt is ∙ ap (λ n. written_to n new old) (sym (add-one k))

  pub one_kept : (k : ℕ) (new old : List A) (d : A) → length new ≡ length old → k < length old → get_or old k d ≡ get_or new k d
      → written_to k new old ≡ written_to (k + 1) new old
  one_kept k new old d same lt is = keep_next k new old d same lt is ∙ ap (λ n. written_to n new old) (sym (add-one k))

  pub all_written : (k : ℕ) (new old : List A) → length new ≡ length old → length new ≤ k → written_to k new old ≡ new
  all_written k new old same past =
      (λ i. take_all k new past i ++ drop_all k old (subst (λ n. n ≤ k) same past) i) ∙ append-nil new

module _ {M : Type 0} (f : M → Record) (s : Setting) (till cut : ℕ) (all : List (Vec (Cell M))) (initial : List Soonest) where
  -- the first k groups were looked at again, after the own runs of their cells
  abbrev pub AreLookedAt : ℕ → List Soonest → Type 0
  AreLookedAt k kept =
      (before : List (Vec (Cell M))) → RanGroups f till before all → initial ≡ soon_in f s before → AreGrouped f cut all
      → kept ≡ written_to k (soon_in f s all) initial

  module _ (before : List (Vec (Cell M))) (ran : RanGroups f till before all) (was : initial ≡ soon_in f s before) where
    as_many : length (soon_in f s all) ≡ length initial
    as_many = as_many_ran f s till before all ran ∙ sym (ap length was)

    kept_there : (k : ℕ) → k < length all → k < length initial
    kept_there k lt =
        let many = as_many in
        let long = length-map all (λ (v : Vec (Cell M)). soonest_of s (own_cells f v.items)) in
        omega (arith, many, long)

  -- one more was looked at again
  pub look_next : (k : ℕ) (kept : List Soonest) (g : Vec (Cell M)) (own : List (Cell M)) (y : Soonest) → 0 < cut → k < length all
      → g ≡ get_or all k g → own ≡ g.items → (AreFrom f (k * cut) own → y ≡ soonest_of s (own_cells f own))
      → AreLookedAt k kept → AreLookedAt (k + 1) (slice_set kept k y)
  look_next k kept g own y pos lt is same told so_far = λ before ran was h.
      ap (λ l. slice_set l k y) (so_far before ran was h)
      ∙ one_set k (soon_in f s all) initial y (as_many before ran was) (kept_there before ran was k lt)
      (looked_at f s cut all k g own y pos h lt is same told)

  -- one more has nothing due before the end
  pub look_past : (k : ℕ) (kept : List Soonest) (g : Vec (Cell M)) (x : Soonest) → k < length all → till ≤ (get_or kept k x).time
      → AreLookedAt k kept → AreLookedAt (k + 1) kept
  look_past k kept g x lt late so_far = λ before ran was h.
      let many = as_many before ran was in
      let there = kept_there before ran was k lt in
      let long = length-map before (λ (v : Vec (Cell M)). soonest_of s (own_cells f v.items)) in
      let old : get_or kept k x ≡ get_or (soon_in f s before) k x =
      ap (λ l. get_or l k x) (so_far before ran was h) ∙ next_old k (soon_in f s all) initial x many there ∙ ap (λ l. get_or l k x) was in
      let within : k < length before = (let e = ap length was in omega (arith, e, long, there)) in
      so_far before ran was h
      ∙ one_kept k (soon_in f s all) initial x many there (ap (λ l. get_or l k x) was
      ∙ as_before f s till before all k g g x ran lt within (subst (λ (z : Soonest). till ≤ z.time) old late))

  -- all were
  pub looked_through : (k : ℕ) (kept : List Soonest) → length all ≤ k → AreLookedAt k kept
      → (before : List (Vec (Cell M))) → RanGroups f till before all → initial ≡ soon_in f s before → AreGrouped f cut all
      → (kept ≡ soon_in f s all) × (length kept ≡ length initial)
  looked_through k kept past so_far before ran was h =
      let long = length-map all (λ (v : Vec (Cell M)). soonest_of s (own_cells f v.items)) in
      let is = so_far before ran was h
      ∙ all_written k (soon_in f s all) initial (as_many before ran was) (omega (arith, long, past)) in
      (is, ap length is ∙ as_many before ran was)

-- ---- the groups of jobs

module _ {M : Type 0} (f : M → Record) where
  -- nothing is due in the groups, from a place on, before these times
  abbrev pub AreIdleTo : (ℕ → ℕ) → ℕ → List (Vec (Cell M)) → Type 0
  AreIdleTo soon place [] = Unit {0}
  AreIdleTo soon place (g ∷ gs) = All (IsIdleTo f (soon place)) g.items × AreIdleTo soon (suc place) gs

  idle_before : (till n : ℕ) (cs : List (Cell M)) → till ≤ least_of due n (own_cells f cs) → All (IsIdleTo f till) cs
  idle_before till n [] le = All-nil (IsIdleTo f till)
  idle_before till n (c ∷ cs) le =
      let r = none_less f till n (own_cell f c) (own_cells f cs) le in
      All-cons (IsIdleTo f till) c cs (none_due till (event_of f c) r.1) (idle_before till n cs r.0)

  idle_from : (s : Setting) (soon : ℕ → ℕ) (place : ℕ) (gs : List (Vec (Cell M))) (xs : List Soonest) → xs ≡ soon_in f s gs
      → ((k : ℕ) → soon (place + k) ≡ time_at xs k) → AreIdleTo soon place gs
  idle_from s soon place [] xs e h = tt
  idle_from s soon place (g ∷ gs) [] e h = cc
  idle_from s soon place (g ∷ gs) (x ∷ xs) e h =
      let first : x ≡ soonest_of s (own_cells f g.items) = cc in
      let others : xs ≡ soon_in f s gs = cc in
      let time : soon place ≡ least_of due s.traffic.until (own_cells f g.items) =
      ap soon (sym (add-zero place)) ∙ h 0 ∙ ap (λ (z : Soonest). z.time) first in (
        idle_before (soon place) s.traffic.until g.items (omega (arith, time)),
        idle_from s soon (suc place) gs xs others
            (λ k. let same : suc place + k ≡ place + suc k = omega arith in ap soon same ∙ h (suc k)),
      )

  -- nothing is due in a group sooner than is kept of it
  pub idle_groups : (s : Setting) (gs : List (Vec (Cell M))) (xs : List Soonest) → xs ≡ soon_in f s gs → AreIdleTo (time_at xs) 0 gs
  idle_groups s gs xs e = idle_from s (time_at xs) 0 gs xs e (λ k. ap (time_at xs) (omega arith))
