-- What the table of losses tells.
use Rattle.std.specs.Prelude.{◌≡◌, ℕ, zero, suc, ◌<◌, List, None, length, ◌==◌, if◌then◌else◌, slice_index_or}
use Rattle.srm_net.specs.declared.link.LossSpec.{LossSpec}
use Rattle.srm_net.specs.declared.losses.Losses.TheInside.{Inside}
use Rattle.srm_net.specs.Losses.{is_before_end, some_goes_on_after}

-- in place of a loss that is not there
abbrev pub no_loss : LossSpec
no_loss = record { link = 0; rate = 0; stream = 0; from = 0; to = None; burst = None }

-- the loss at a place of the list
abbrev pub loss_at : List LossSpec → ℕ → LossSpec
loss_at losses i = slice_index_or losses i no_loss

-- one more than the place of the last of the first n losses that are of link l, or 0 where none is
abbrev pub last_of : List LossSpec → ℕ → ℕ → ℕ
last_of losses l zero = 0
last_of losses l (suc n) = if (loss_at losses n).link == l then suc n else last_of losses l n

-- the list that was given
abbrev pub losses_listed : Inside → List LossSpec
losses_listed o = o.list.items

-- the last loss of each link is told, and for each loss the one before it of its link, and the end of the last of all
pub record FindsLosses (o : Inside) : Type 0 where
  pub last : (l : ℕ) → slice_index_or o.last.items l 0 ≡ last_of o.list.items l (length o.list.items)
  pub long : length o.earlier.items ≡ length o.list.items
  pub earlier : (i : ℕ) → i < length o.list.items
      → slice_index_or o.earlier.items i 0 ≡ last_of o.list.items (loss_at o.list.items i).link i
  pub end_tells : (t : ℕ) → is_before_end o.end t ≡ some_goes_on_after o.list.items t
