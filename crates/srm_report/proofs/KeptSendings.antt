-- What was sent in some rows and in others, together, name by name.
use Rattle.std.proofs.Common.{◌≡◌, ◌∙◌, ℕ, ◌+◌, ◌<◌, Bool, true, false, cond, T, List, [], ◌∷◌, ◌++◌, length, map, take}
use Rattle.std.proofs.Common.{get_or, Option, Some, None, refl, ap, sym, arith}
use Rattle.std.proofs.Math.Nat.{add-zero}
use Rattle.std.specs.List.{fold}
use Rattle.std.specs.Option.{unwrap_or}
use Rattle.std.specs.FinMap.Entries.{put, find, find-append, find-put, is_sorted, is_sorted-put}
use Rattle.std.proofs.lemmas.List.{map-append, take_more}
use Rattle.std.proofs.lemmas.List.Sums.{sum_by-append}
use Rattle.srm_net.specs.declared.packet.Name.{Name}
use Rattle.srm_net.specs.Names.{name_cmp}
use Rattle.srm_net.proofs.TotalOrders.{name_total}
use Rattle.srm_member.proofs.TableChanges.{same_names}
use Rattle.srm_member.specs.declared.row.Row.{Row}
use Rattle.srm_member.specs.Kinds.{is_ask, is_answer}
use Rattle.srm_report.specs.declared.operations.sent_for_name.SentForName.{SentForName}
use Rattle.srm_report.specs.Operations.{sending_of, sends_for, sooner}
use Rattle.srm_report.specs.Rows.{is_name}
use Rattle.srm_report.specs.Sendings.{sending_in, TellSent, together, asked_in}
use Rattle.srm_report.proofs.EntryLemmas.{found, not_before}
use Rattle.srm_report.proofs.SendingLemmas.{sooner_out}

-- ---- rows after others

sooner_either : (a b c : Option ℕ) → sooner (sooner a b) c ≡ sooner a (sooner b c)
sooner_either a b None = refl
sooner_either a None (Some c) = refl
sooner_either None (Some b) (Some c) = refl
sooner_either (Some a) (Some b) (Some c) = ap Some (omega arith)

earliest_after : (a : Option ℕ) (us : List (Option ℕ)) → fold sooner a us ≡ sooner a (fold sooner None us)
earliest_after a [] = refl
earliest_after a (u ∷ us) =
    sooner_out a u us ∙ ap (λ t. sooner t u) (earliest_after a us) ∙ sooner_either a (fold sooner None us) u
    ∙ ap (sooner a) (sym (sooner_out None u us))

earliest_more : (a : Option ℕ) (ts us : List (Option ℕ)) → fold sooner a (ts ++ us) ≡ sooner (fold sooner a ts) (fold sooner None us)
earliest_more a [] us = earliest_after a us
earliest_more a (t ∷ ts) us = earliest_more (sooner a t) ts us

sent_after : (xs ys : List Row) (n : Name) → sending_of (xs ++ ys) n ≡ together (sending_of xs n) (sending_of ys n)
sent_after xs ys n i = record {
  asked = (ap (fold sooner None) (map-append (asked_in n) xs ys) ∙ earliest_more None (map (asked_in n) xs) (map (asked_in n) ys)) i;
  requests = sum_by-append (λ r. cond (sends_for is_ask n r) 1 0) xs ys i;
  repairs = sum_by-append (λ r. cond (sends_for is_answer n r) 1 0) xs ys i;
}

-- ---- names after others

-- to what was sent before, these entries were added
pub record HasAdded (old more new : List (Name × SentForName)) : Type 0 where
  pub sorted : T (is_sorted name_cmp new)
  pub sent : (m : Name) → sending_in new m ≡ together (sending_in old m) (sending_in more m)

with_none : (s : SentForName) (m : Name) → together s (sending_of [] m) ≡ s
with_none s m i = record { asked = s.asked; requests = add-zero s.requests i; repairs = add-zero s.repairs i }

pub none_added : (old : List (Name × SentForName)) → T (is_sorted name_cmp old) → HasAdded old [] old
none_added old rises = record { sorted = rises; sent = λ m. sym (with_none (sending_in old m) m) }

module _ (old more now : List (Name × SentForName)) (rises : T (is_sorted name_cmp more)) (i : ℕ) (d : Name × SentForName)
    (lt : i < length more)
    (was : HasAdded old (take i more) now) (v : SentForName) where
  abbrev n : Name
  n = (get_or more i d).0

  pub one_added : v ≡ together (sending_in now n) (sending_in more n) → HasAdded old (take (i + 1) more) (put name_cmp n v now)
  one_added is = record {
    sorted = is_sorted-put name_cmp name_total n v now was.sorted;
    sent = λ m. by m (is_name m n) refl;
  }
    where
      there : (m : Name) (b : Bool) → is_name m n ≡ b
          → sending_in (put name_cmp n v now) m ≡ unwrap_or (cond b (Some v) (find name_cmp m now)) (sending_of [] m)
      there m b h = ap (λ o. unwrap_or o (sending_of [] m))
          (find-put name_cmp name_total m n v now ∙ ap (λ b. cond b (Some v) (find name_cmp m now)) h)

      among : (m : Name) (b : Bool) → is_name m n ≡ b → sending_in (take (i + 1) more) m
          ≡ unwrap_or (cond b (Some (get_or more i d).1) (find name_cmp m (take i more))) (sending_of [] m)
      among m b h =
          ap (λ es. sending_in es m) (take_more more i d lt)
          ∙ ap (λ o. unwrap_or o (sending_of [] m))
          (find-append name_cmp name_total (take i more) n (get_or more i d).1 m (not_before name_cmp name_total more rises i d lt)
          ∙ ap (λ b. cond b (Some (get_or more i d).1) (find name_cmp m (take i more))) h)

      new : sending_in now n ≡ sending_in old n
      new =
          was.sent n
          ∙ ap (λ o. together (sending_in old n) (unwrap_or o (sending_of [] n))) (not_before name_cmp name_total more rises i d lt)
          ∙ with_none (sending_in old n) n

      own : sending_in more n ≡ (get_or more i d).1
      own = ap (λ o. unwrap_or o (sending_of [] n)) (found name_cmp name_total more rises i d lt)

      by : (m : Name) (b : Bool) → is_name m n ≡ b
          → sending_in (put name_cmp n v now) m ≡ together (sending_in old m) (sending_in (take (i + 1) more) m)
      by m true h =
          there m true h ∙ is ∙ (λ j. together (new j) (own j))
          ∙ ap (λ k. together (sending_in old k) (get_or more i d).1) (sym (same_names m n h))
          ∙ ap (together (sending_in old m)) (sym (among m true h))
      by m false h = there m false h ∙ was.sent m ∙ ap (together (sending_in old m)) (sym (among m false h))

pub all_added : (xs ys : List Row) (old more new : List (Name × SentForName)) → TellSent xs old → TellSent ys more → HasAdded old more new
    → TellSent (xs ++ ys) new
all_added xs ys old more new t u h = record {
  sorted = h.sorted;
  sent = λ n. h.sent n ∙ (λ j. together (t.sent n j) (u.sent n j)) ∙ sym (sent_after xs ys n);
}
