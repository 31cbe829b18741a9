-- Half the round trips of a member, one by one.
use Rattle.std.proofs.lemmas.Grind.{elements}
use Rattle.std.proofs.Common.{◌≡◌, ℕ, ◌/◌, ◌<◌, ◌≤◌, Some, None, length, slice_get, get_or, sym, subst, arith, zero-add}
use Rattle.std.specs.List.{All}
use Rattle.std.proofs.lemmas.List.FromFn.{get_or-map-range_with_len, length-map-range_with_len}
use Rattle.std.proofs.lemmas.Option.{slice_get_past}
use Rattle.srm_net.specs.Limits.{greatest_distance}
use Rattle.srm_net.specs.Network.{Network, IsNetwork}
use Rattle.srm_net.specs.Paths.{round, half_rounds_from}
use Rattle.srm_net.proofs.PathLaws.{distance_bounded}

module _ (w : Network) (m : ℕ) where
  long : length (half_rounds_from w m) ≡ length w.hosts
  long = length-map-range_with_len (λ b. round w m b / 2) 0 (length w.hosts)

  read : (b d : ℕ) → b < length w.hosts → get_or (half_rounds_from w m) b d ≡ round w m b / 2
  read b d h = get_or-map-range_with_len (λ b. round w m b / 2) 0 (length w.hosts) b b d h (zero-add b)

  pub half_round_at : (b : ℕ) → b < length w.hosts → slice_get (half_rounds_from w m) b ≡ Some (round w m b / 2)
  half_round_at b h = grind (arith, elements, long, read)

  pub no_half_round : (b : ℕ) → length w.hosts ≤ b → slice_get (half_rounds_from w m) b ≡ None
  no_half_round b h = slice_get_past (half_rounds_from w m) b (subst (λ n. n ≤ b) (sym long) h)

  pub half_rounds_bounded : IsNetwork w → m < length w.hosts → All (λ d. d ≤ greatest_distance) (half_rounds_from w m)
  half_rounds_bounded n hm i d h = grind (arith, long, distance_bounded, read)
