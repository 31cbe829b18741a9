-- The losses of each name, one entry more.
use Rattle.std.proofs.Common.{◌≡◌, ◌∙◌, ℕ, suc, ◌+◌, ◌<◌, Bool, true, false, cond, T, not, ◌&&◌, ◌||◌, List, [], ◌∷◌, ◌++◌, map}
use Rattle.std.proofs.Common.{nat_lt, length, Option, Some, None, is_some, ap, sym, subst, refl, append-nil, take, get_or, arith}
use Rattle.std.proofs.Math.Seq.{take-length}
use Rattle.std.specs.Option.{unwrap_or}
use Rattle.std.specs.Option as options
use Rattle.std.specs.List.{count_by, fold, list_any}
use Rattle.std.specs.FinMap.Entries.{put, find, find-put, is_some-find, is_sorted, is_sorted-put}
use Rattle.std.proofs.lemmas.List.{length-append, map-append, take_more}
use Rattle.std.proofs.lemmas.List.Elements.{filter-append}
use Rattle.std.proofs.lemmas.List.Recursion.{or_push}
use Rattle.std.proofs.lemmas.List.Sums.{fold_push, sum_by_push}
use Rattle.srm_net.specs.declared.packet.Name.{Name}
use Rattle.srm_net.specs.Names.{name_cmp}
use Rattle.srm_net.specs.Network.{Network}
use Rattle.srm_net.specs.Orders.{ordered, place}
use Rattle.srm_net.proofs.TotalOrders.{name_total}
use Rattle.srm_member.specs.declared.row.Row.{Row}
use Rattle.srm_member.specs.Orderly.{IsOrderly}
use Rattle.srm_member.proofs.TableChanges.{same_names}
use Rattle.srm_report.specs.declared.losses.course.Course.{Course}
use Rattle.srm_report.specs.declared.losses.loss.Loss.{Loss}
use Rattle.srm_report.specs.declared.losses.mended_loss.MendedLoss.{MendedLoss}
use Rattle.srm_report.specs.declared.operations.sent_for_name.SentForName.{SentForName}
use Rattle.srm_report.specs.declared.losses.loss_tally.LossTally.{LossTally}
use Rattle.srm_report.specs.Courses.{TellLosses}
use Rattle.srm_report.specs.Losses.{detected_at, loss_cmp, recovered_at, recovery_by}
use Rattle.srm_report.specs.Operations.{each_once, has_left, is_open, last_told, later, losses_of}
use Rattle.srm_report.specs.Operations.{operation_columns, operation_fields, operations_table, sooner, tally_of}
use Rattle.srm_report.specs.Rows.{is_name}
use Rattle.srm_report.specs.Sendings.{TellLeft, TellSent, sending_in}
use Rattle.srm_report.specs.Tables.{table_lines}
use Rattle.srm_report.specs.Tallies.{AreTallies, tallied, tally_in, all_losses, is_left, named, recovery_of}
use Rattle.srm_report.proofs.CourseLemmas.{loss_total}
use Rattle.srm_report.proofs.EntryLemmas.{any_ordered, found, keys_put, keys_same, ordered_push}
use Rattle.srm_report.proofs.LossLemmas.{next_among, told}

-- ---- one loss more

counted : (p : Loss → Bool) (ks : List Loss) (k : Loss) → count_by p (ks ++ k ∷ []) ≡ cond (p k) (count_by p ks + 1) (count_by p ks)
counted p ks k = sum_by_push (λ q. cond (p q) 1 0) ks k ∙ by (p k)
  where
    by : (b : Bool) → count_by p ks + cond b 1 0 ≡ cond b (count_by p ks + 1) (count_by p ks)
    by true = refl
    by false = omega arith

tally_grown : (rows : List Row) (ks : List Loss) (k : Loss) (c : Course) (gone : Bool) → detected_at rows k ≡ Some c.detected
    → recovered_at rows k ≡ c.recovered → gone ≡ has_left rows k.member
    → tally_of rows (ks ++ k ∷ []) ≡ tallied (tally_of rows ks) k c gone
tally_grown rows ks k c gone d r g =
    let L = length-append ks (k ∷ []) in
    let fixed = count_by (λ q. is_some (recovered_at rows q)) ks in
    let R = counted (λ q. is_some (recovered_at rows q)) ks k ∙ ap (λ o. cond (is_some o) (fixed + 1) fixed) r in
    let G = counted (is_left rows) ks k ∙ (λ j. cond (not (is_some (r j)) && sym g j) (count_by (is_left rows) ks + 1)
    (count_by (is_left rows) ks)) in
    let P = or_push (list_any (is_open rows)) (is_open rows) refl (λ x xs. refl) ks k
    ∙ (λ j. list_any (is_open rows) ks || (not (is_some (r j)) && not (sym g j))) in
    let D = ap (fold sooner None) (map-append (detected_at rows) ks (k ∷ []))
    ∙ fold_push sooner None (map (detected_at rows) ks) (detected_at rows k)
    ∙ ap (sooner (fold sooner None (map (detected_at rows) ks))) d in
    let S = ap (fold later None) (map-append (recovery_of rows) ks (k ∷ []))
    ∙ fold_push later None (map (recovery_of rows) ks) (recovery_of rows k)
    ∙ (λ j. later (fold later None (map (recovery_of rows) ks)) (recovery_by k.member (d j) (r j))) in
    λ i. record { losers = L i; recovered = R i; left = G i; is_pending = P i; detected = D i; last = S i }

-- ---- one entry more

-- the losses of some entries
abbrev pub keys : List (Loss × Course) → List Loss
keys es = map (λ e. e.0) es

pub no_tally : (rows : List Row) → AreTallies rows [] []
no_tally rows = record { sorted = tt; names = refl; counts = λ n. refl }

names_grown : (ns : List Name) (n : Name) (v : LossTally) (ts : List (Name × LossTally)) → T (is_sorted name_cmp ts)
    → map (λ e. e.0) ts ≡ ordered name_cmp (each_once ns)
    → map (λ e. e.0) (put name_cmp n v ts) ≡ ordered name_cmp (each_once (ns ++ n ∷ []))
names_grown ns n v ts sorted was =
    by (find name_cmp n ts) refl
    ∙ ap (ordered name_cmp) (sym (fold_push (λ known k. cond (list_any (is_name k) known) known (known ++ k ∷ [])) [] ns n))
  where
    known : List Name
    known = each_once ns

    has : is_some (find name_cmp n ts) ≡ list_any (is_name n) (each_once ns)
    has = is_some-find name_cmp n ts ∙ ap (list_any (is_name n)) was ∙ any_ordered name_cmp name_total (is_name n) (each_once ns)

    by : (o : Option LossTally) → find name_cmp n ts ≡ o → map (λ e. e.0) (put name_cmp n v ts)
        ≡ ordered name_cmp (cond (list_any (is_name n) (each_once ns)) (each_once ns) (each_once ns ++ n ∷ []))
    by (Some old) e =
        keys_same name_cmp name_total n v ts sorted old e ∙ was
        ∙ ap (λ b. ordered name_cmp (cond b (each_once ns) (each_once ns ++ n ∷ []))) (sym (ap is_some e) ∙ has)
    by None e =
        let new : list_any (is_name n) (each_once ns) ≡ false = sym has ∙ ap is_some e in
        keys_put name_cmp name_total n v ts e ∙ ap (place name_cmp n) was ∙ sym (ordered_push name_cmp name_total (each_once ns) n new)
        ∙ ap (λ b. ordered name_cmp (cond b (each_once ns) (each_once ns ++ n ∷ []))) (sym new)

module _ (rows : List Row) (left : List Bool) (gone : TellLeft rows left) where
  -- the losses with those of one entry more
  tallies_grown : (ks : List Loss) (k : Loss) (c : Course) (all : List (Name × LossTally)) (after : LossTally)
      → detected_at rows k ≡ Some c.detected → recovered_at rows k ≡ c.recovered
      → after ≡ tallied (tally_in all k.name) k c (get_or left k.member false)
      → AreTallies rows ks all → AreTallies rows (ks ++ k ∷ []) (put name_cmp k.name after all)
  tallies_grown ks k c all after detected recovered is was = record {
    sorted = is_sorted-put name_cmp name_total k.name after all was.sorted;
    names = names_grown (map (λ (q : Loss). q.name) ks) k.name after all was.sorted was.names
        ∙ ap (λ ns. ordered name_cmp (each_once ns)) (sym (map-append (λ (q : Loss). q.name) ks (k ∷ [])));
    counts = λ n. counts n (is_name n k.name) refl;
  }
    where
      there : (n : Name) (b : Bool) → is_name n k.name ≡ b → tally_in (put name_cmp k.name after all) n
          ≡ unwrap_or (cond b (Some after) (find name_cmp n all)) (tally_of [] [])
      there n b h = ap (λ o. unwrap_or o (tally_of [] [])) (find-put name_cmp name_total n k.name after all
          ∙ ap (λ b. cond b (Some after) (find name_cmp n all)) h)

      among : (n : Name) (b : Bool) → is_name n k.name ≡ b → named n (ks ++ k ∷ []) ≡ named n ks ++ cond b (k ∷ []) []
      among n b h = filter-append (λ (q : Loss). is_name n q.name) ks (k ∷ []) ∙ ap (λ b. named n ks ++ cond b (k ∷ []) []) h

      counts : (n : Name) (b : Bool) → is_name n k.name ≡ b
          → tally_in (put name_cmp k.name after all) n ≡ tally_of rows (named n (ks ++ k ∷ []))
      counts n true h =
          let same : n ≡ k.name = same_names n k.name h in
          there n true h ∙ is
          ∙ ap (λ m. tallied (tally_in all m) k c (get_or left k.member false)) (sym same)
          ∙ ap (λ t. tallied t k c (get_or left k.member false)) (was.counts n)
          ∙ sym (ap (tally_of rows) (among n true h)
          ∙ tally_grown rows (named n ks) k c (get_or left k.member false) detected recovered (gone k.member))
      counts n false h = there n false h ∙ was.counts n ∙ sym (ap (tally_of rows) (among n false h ∙ append-nil (named n ks)))

module _ (rows : List Row) (left : List Bool) (gone : TellLeft rows left) (es : List (Loss × Course)) (tell : TellLosses rows es) where
  pub one_tally_more : (i : ℕ) (d : Loss × Course) (all new : List (Name × LossTally)) (after : LossTally) → i < length es
      → new ≡ put name_cmp (get_or es i d).0.name after all
      → after ≡ tallied (tally_in all (get_or es i d).0.name) (get_or es i d).0 (get_or es i d).1 (get_or left
      (get_or es i d).0.member false)
      → AreTallies rows (keys (take i es)) all → AreTallies rows (keys (take (i + 1) es)) new
  one_tally_more i d all new after lt grown is was =
      let e = get_or es i d in
      let one : keys (take (i + 1) es) ≡ keys (take i es) ++ e.0 ∷ [] =
      ap keys (take_more es i d lt) ∙ map-append (λ (x : Loss × Course). x.0) (take i es) (e ∷ []) in
      let facts = told rows e.0 e.1 (sym (tell.courses e.0) ∙ found loss_cmp loss_total es tell.sorted i d lt) in
      subst (λ ks. AreTallies rows ks new) (sym one) (subst (AreTallies rows (keys (take i es) ++ e.0 ∷ [])) (sym grown)
      (tallies_grown rows left gone (keys (take i es)) e.0 e.1 all after facts.0 facts.1 is was))

  pub all_tallies : (i : ℕ) (all : List (Name × LossTally)) → i ≡ length es → AreTallies rows (keys (take i es)) all
      → AreTallies rows (all_losses rows) all
  all_tallies i all whole was =
      subst (λ ks. AreTallies rows ks all) (ap (λ n. keys (take n es)) whole ∙ ap keys (take-length es) ∙ tell.losses) was

-- ---- who is among the members

module _ (rows : List Row) (members : ℕ) (n : Name) where
  abbrev Within : MendedLoss → Type 0
  Within r = (r.member < members) × (n.source < members)

  abbrev AllAmong : List Loss → Type 0
  AllAmong [] = Unit {0}
  AllAmong (k ∷ ks) = ((k.member < members) × (k.name.source < members)) × AllAmong ks

  later_within : (last next : Option MendedLoss) → options.IfSome last Within → options.IfSome next Within
      → options.IfSome (later last next) Within
  later_within last None h k = h
  later_within None (Some next) h k = k
  later_within (Some last) (Some next) h k = by (nat_lt last.recovered next.recovered)
    where
      by : (b : Bool) → options.IfSome (cond b (Some next) (Some last)) Within
      by true = k
      by false = h

  recovery_within : (m : ℕ) (d r : Option ℕ) → (m < members) × (n.source < members) → options.IfSome (recovery_by m d r) Within
  recovery_within m None r h = tt
  recovery_within m (Some d) None h = tt
  recovery_within m (Some d) (Some r) h = h

  one_within : (k : Loss) (ks : List Loss) (last : Option MendedLoss) (b : Bool) → is_name n k.name ≡ b
      → (k.member < members) × (k.name.source < members) → options.IfSome last Within
      → ((next : Option MendedLoss) → options.IfSome next Within → options.IfSome (fold later next (map (recovery_of rows) ks)) Within)
      → options.IfSome (fold later last (map (recovery_of rows) (cond b (k ∷ ks) ks))) Within
  one_within k ks last true e a h rest =
      let same : n ≡ k.name = same_names n k.name e in
      rest (later last (recovery_of rows k)) (later_within last (recovery_of rows k) h
      (recovery_within k.member (detected_at rows k) (recovered_at rows k) (a.0, subst (λ m. m.source < members) (sym same) a.1)))
  one_within k ks last false e a h rest = rest last h

  fold_within : (ks : List Loss) (last : Option MendedLoss) → AllAmong ks → options.IfSome last Within
      → options.IfSome (fold later last (map (recovery_of rows) (named n ks))) Within
  fold_within [] last a h = h
  fold_within (k ∷ ks) last a h =
      one_within k (named n ks) last (is_name n k.name) refl a.0 h (λ next g. fold_within ks next a.1 g)

  all_among : (es : List (Loss × Course)) → ((i : ℕ) (d : Loss × Course) → i < length es → ((get_or es i d).0.member < members)
      × ((get_or es i d).0.name.source < members)) → AllAmong (keys es)
  all_among [] h = tt
  all_among (e ∷ es) h = (h 0 e (omega arith), all_among es (λ i d lt. h (suc i) d (omega arith)))

  pub last_among : IsOrderly members rows → (es : List (Loss × Course)) → TellLosses rows es
      → options.IfSome (last_told (tally_of rows (losses_of rows n))) Within
  last_among o es tell = by (tally_of rows (losses_of rows n)).is_pending
    where
      whole : options.IfSome (tally_of rows (losses_of rows n)).last Within
      whole = fold_within (all_losses rows) None (subst AllAmong tell.losses (all_among es (next_among rows members o es tell))) tt

      by : (b : Bool) → options.IfSome (cond b None (tally_of rows (losses_of rows n)).last) Within
      by true = tt
      by false = whole

-- ---- the table

pub table_is : (net : Network) (rows : List Row) (ts : List (Name × LossTally)) (sent : List (Name × SentForName))
    → AreTallies rows (all_losses rows) ts
    → TellSent rows sent
    → table_lines operation_columns (map (λ n. operation_fields net n (tally_in ts n) (sending_in sent n)) (map (λ e. e.0) ts))
    ≡ operations_table net rows
unfolding operations_table
table_is net rows ts sent tell asked i =
    table_lines operation_columns (map (λ n. operation_fields net n (tell.counts n i) (asked.sent n i)) (tell.names i))
