use Rattle.std.proofs.Common.{◌≡◌, ◌<◌, ℕ, All, length, slice_index_or}
use Rattle.srm_net.specs.LossTables.{last_of, loss_at}
use Rattle.srm_net.proofs.losses.Losses.of.Given as goal

abbrev pub invariant-loop-place : goal.invariant-loop-place
invariant-loop-place l = record {
  below : All (λ o. o.link < length l.last.items) l.list;
  last : (m : ℕ) → slice_index_or l.last.items m 0 ≡ last_of l.list m l.place;
  long : length l.earlier.items ≡ l.place;
  earlier : (i : ℕ) → i < l.place → slice_index_or l.earlier.items i 0 ≡ last_of l.list (loss_at l.list i).link i;
}
