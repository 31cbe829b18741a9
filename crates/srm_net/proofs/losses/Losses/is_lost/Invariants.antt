use Rattle.std.proofs.Common.{◌≡◌, ◌≤◌, ℕ, length, take}
use Rattle.srm_net.specs.Losses.{is_lost}
use Rattle.srm_net.specs.LossTables.{last_of}
use Rattle.srm_net.proofs.losses.Losses.is_lost.Given as goal

abbrev pub invariant-loop-next : goal.invariant-loop-next
invariant-loop-next l =
    (n : ℕ) × (n ≤ length l.self-inside.list.items) × (l.next ≡ last_of l.self-inside.list.items l.link n)
    × (is_lost l.self-inside.list.items l.seed l.id l.link l.at ≡ is_lost (take n l.self-inside.list.items) l.seed l.id l.link l.at)

abbrev pub decreases-loop-next : goal.decreases-loop-next
decreases-loop-next l = l.next
