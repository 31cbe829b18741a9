-- What the table of operations and the table of members count is the same.
use Rattle.std.proofs.Common.{◌≡◌, ◌∙◌, ◌⊎◌, inl, inr, ℕ, ◌<◌, Bool, true, false, cond, ◌&&◌, ◌||◌, List, [], ◌∷◌, map, refl}
use Rattle.std.proofs.Common.{sym, subst, append-nil, length, All, arith}
use Rattle.std.specs.List.{Contains, count_by, list_any, range_with_len, sum_by}
use Rattle.std.proofs.lemmas.List.Folds.{list_any-append}
use Rattle.srm_net.specs.declared.packet.Name.{Name}
use Rattle.srm_scenario.proofs.Tables.{list_any-map}
use Rattle.srm_member.specs.ByMember.{rows_of_member}
use Rattle.srm_member.specs.declared.row.Row.{Row}
use Rattle.srm_member.specs.declared.row.Word.{Word}
use Rattle.srm_member.specs.declared.row.Word.TheVariants.{Answer, Ask}
use Rattle.srm_member.specs.declared.told.Told.{Told}
use Rattle.srm_member.specs.declared.told.Told.TheVariants.{Sent}
use Rattle.srm_member.specs.Kinds.{is_answer, is_ask, is_sent}
use Rattle.srm_member.specs.Orderly.{IsAmong, IsOrderly, LostIn}
use Rattle.srm_member.proofs.TableChanges.{name_is}
use Rattle.srm_cell.specs.Setting.{setting_of}
use Rattle.srm_cell.proofs.FitSettings.{settings_are_fit}
use Rattle.srm_model.specs.SentForLost.{IsForLost}
use Rattle.srm_model.proofs.OrderlyRuns.{traces_are_orderly}
use Rattle.srm_model.proofs.SentForLost.{sendings_are_for_losses}
use Rattle.srm_report.specs.declared.losses.loss.Loss.{Loss}
use Rattle.srm_report.specs.Losses.{loss_cmp, losses_in}
use Rattle.srm_report.specs.Members.{counts_of}
use Rattle.srm_report.specs.OperationLaws.{AddUp, loses, SendingsAddUp}
use Rattle.srm_report.specs.Operations.{is_about, names_lost, sends_for}
use Rattle.srm_report.specs.Rows.{is_name, sent_rows}
use Rattle.srm_report.proofs.CourseLemmas.{first_true, loss_total, second_true}
use Rattle.srm_report.proofs.EntryLemmas.{any_ordered}
use Rattle.srm_report.proofs.SumLemmas.{any_in, count_once, name_turned, sum_none, sum_of_members, sum_same, sums_turned}
use Rattle.srm_report.specs.Tallies.{all_losses}

-- ---- names that some member lost

-- whether a loss passes a test
pub any_loss : (p : Loss → Bool) (rows : List Row)
    → list_any p (losses_in rows) ≡ list_any (λ r. list_any (λ n. p (record { member = r.key.member; name = n })) r.lost) rows
any_loss p [] = refl
any_loss p (r ∷ rows) =
    list_any-append p (map (λ n. record { member = r.key.member; name = n }) r.lost) (losses_in rows)
    ∙ (λ i. list_any-map p (λ n. record { member = r.key.member; name = n }) r.lost i || any_loss p rows i)

-- whether a loss is of this name
pub any_named : (n : Name) (rows : List Row) → list_any (λ (k : Loss). is_name n k.name) (all_losses rows) ≡ list_any (loses n) rows
any_named n rows =
    any_ordered loss_cmp loss_total (λ (k : Loss). is_name n k.name) (losses_in rows) ∙ any_loss (λ (k : Loss). is_name n k.name) rows

lost_counts : (rows : List Row) (n : Name) (m : ℕ) → LostIn m n rows → count_by (is_name n) (names_lost rows) ≡ 1
lost_counts rows n m (r, there, member, lost) =
    count_once n (map (λ (k : Loss). k.name) (all_losses rows))
    (list_any-map (is_name n) (λ (k : Loss). k.name) (all_losses rows) ∙ any_named n rows
    ∙ any_in (loses n) rows r there (any_in (is_name n) r.lost n lost (name_is n)))

-- ---- what was sent

sent_is : (t : Told) → is_sent t ≡ true → t ≡ Sent
sent_is t h = grind arith

module _ (is_kind : Word → Bool) (asks : (w : Word) → is_kind w ≡ true → (w ≡ Ask) ⊎ (w ≡ Answer)) (rows : List Row)
    (for_lost : (r : Row) → Contains rows r → IsForLost rows r) where
  abbrev sends : Row → Bool
  sends r = is_kind r.cause && is_sent r.told

  joined : (a b c : Bool) → (a && (b && c)) ≡ ((a && b) && c)
  joined true b c = refl
  joined false b c = refl

  -- each row that sends something does so for one name of these
  one_for : (r : Row) → Contains rows r → count_by (λ n. sends_for is_kind n r) (names_lost rows) ≡ cond (sends r) 1 0
  one_for r there =
      (λ i. count_by (λ n. joined (is_kind r.cause) (is_sent r.told) (is_about n r.about) i) (names_lost rows)) ∙ by (sends r) refl
    where
      by : (b : Bool) → sends r ≡ b → count_by (λ n. b && is_about n r.about) (names_lost rows) ≡ cond b 1 0
      by false e = sum_none (names_lost rows)
      by true e =
          let lost = for_lost r there (asks r.cause (first_true (is_kind r.cause) (is_sent r.told) e))
          (sent_is r.told (second_true (is_kind r.cause) (is_sent r.told) e)) in
          (λ i. count_by (λ n. is_about n (lost.1 i)) (names_lost rows))
          ∙ (λ i. count_by (λ n. name_turned n lost.0 i) (names_lost rows))
          ∙ lost_counts rows lost.0 lost.2 lost.3

  all_for : sum_by (λ n. count_by (sends_for is_kind n) rows) (names_lost rows) ≡ count_by sends rows
  all_for =
      sums_turned (λ n r. cond (sends_for is_kind n r) 1 0) (names_lost rows) rows
      ∙ sum_same (λ r. count_by (λ n. sends_for is_kind n r) (names_lost rows)) (λ r. cond (sends r) 1 0) rows one_for

  pub same_sum : (members : ℕ) → ((r : Row) → Contains rows r → r.key.member < members)
      → sum_by (λ n. count_by (sends_for is_kind n) rows) (names_lost rows)
      ≡ sum_by (λ m. sent_rows is_kind (rows_of_member m rows)) (range_with_len 0 members)
  same_sum members h = all_for ∙ sym (sum_of_members (λ r. cond (sends r) 1 0) rows members h)

asks_ask : (w : Word) → is_ask w ≡ true → (w ≡ Ask) ⊎ (w ≡ Answer)
asks_ask w h = inl (grind arith)

asks_answer : (w : Word) → is_answer w ≡ true → (w ≡ Ask) ⊎ (w ≡ Answer)
asks_answer w h = inr (grind arith)

all_in : {A : Type 0} (P : A → Type 0) (xs : List A) → All P xs → (x : A) → Contains xs x → P x
all_in P xs h x (i, l, e) = subst P e (h i x l)

-- where each request and repair was sent for a name that some member lost
rows_add_up : (members : ℕ) (rows : List Row) → IsOrderly members rows → All (IsForLost rows) rows → AddUp members rows
unfolding counts_of
rows_add_up members rows o h =
    let for_lost = all_in (IsForLost rows) rows h in
    let below : (r : Row) → Contains rows r → r.key.member < members = λ r c. (all_in (IsAmong members) rows o.among r c).member in
    (same_sum is_ask asks_ask rows for_lost members below, same_sum is_answer asks_answer rows for_lost members below)

pub sendings_add_up : SendingsAddUp
sendings_add_up p seed w a reached =
    rows_add_up (length p.members) w.trace
    (traces_are_orderly p seed a w reached w.trace [] (sym (append-nil w.trace)))
    (sendings_are_for_losses (setting_of p seed) w (settings_are_fit p seed a) reached)
