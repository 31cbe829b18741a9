-- Sums over the table of operations.
use Rattle.std.proofs.Common.{◌≡◌, ℕ, suc, ◌+◌, Bool, true, false, cond, not, ◌&&◌, List, [], ◌∷◌, length, refl, arith, is_some}
use Rattle.std.specs.List.{count_by}
use Rattle.std.proofs.lemmas.List.Sums.{sum_by-cons}
use Rattle.srm_member.specs.declared.row.Row.{Row}
use Rattle.srm_report.specs.declared.losses.loss.Loss.{Loss}
use Rattle.srm_report.specs.Operations.{has_left, is_open}
use Rattle.srm_report.specs.Tallies.{is_left}
use Rattle.srm_report.specs.Losses.{recovered_at}

one_of : (b g : Bool) → cond b 1 0 + cond (not b && g) 1 0 + cond (not b && not g) 1 0 ≡ 1
one_of true g = refl
one_of false true = refl
one_of false false = refl

total : (n a b c p q r x y z : ℕ) → n ≡ a + b + c → p ≡ x + a → q ≡ y + b → r ≡ z + c → x + y + z ≡ 1 → suc n ≡ p + q + r
total n a b c p q r x y z e f g h one = omega arith

pub losses_add_up : (rows : List Row) (ks : List Loss)
    → length ks ≡ count_by (λ k. is_some (recovered_at rows k)) ks + count_by (is_left rows) ks + count_by (is_open rows) ks
losses_add_up rows [] = refl
losses_add_up rows (k ∷ ks) =
    total _ _ _ _ _ _ _ _ _ _ (losses_add_up rows ks) (sum_by-cons (λ q. cond (is_some (recovered_at rows q)) 1 0) k ks)
    (sum_by-cons (λ q. cond (is_left rows q) 1 0) k ks) (sum_by-cons (λ q. cond (is_open rows q) 1 0) k ks)
    (one_of (is_some (recovered_at rows k)) (has_left rows k.member))
