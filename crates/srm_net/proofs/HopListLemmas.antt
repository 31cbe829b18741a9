-- The hops from a member, one by one.
use Rattle.std.proofs.lemmas.Grind.{elements}
use Rattle.std.proofs.Common.{◌≡◌, ℕ, ◌<◌, ◌≤◌, Some, None, length, slice_get, get_or, sym, subst, arith, zero-add}
use Rattle.std.specs.List.{All}
use Rattle.std.proofs.lemmas.List.FromFn.{get_or-map-range_with_len, length-map-range_with_len}
use Rattle.std.proofs.lemmas.Option.{slice_get_past}
use Rattle.srm_net.specs.Limits.{most_nodes}
use Rattle.srm_net.specs.Network.{Network, IsNetwork}
use Rattle.srm_net.specs.Paths.{hops, hops_from}
use Rattle.srm_net.proofs.HopLemmas.{hops_fit}

module _ (w : Network) (m : ℕ) where
  long : length (hops_from w m) ≡ length w.hosts
  long = length-map-range_with_len (λ b. hops w m b) 0 (length w.hosts)

  read : (b d : ℕ) → b < length w.hosts → get_or (hops_from w m) b d ≡ hops w m b
  read b d h = get_or-map-range_with_len (λ b. hops w m b) 0 (length w.hosts) b b d h (zero-add b)

  pub hops_at : (b : ℕ) → b < length w.hosts → slice_get (hops_from w m) b ≡ Some (hops w m b)
  hops_at b h = grind (arith, elements, long, read)

  pub no_hops : (b : ℕ) → length w.hosts ≤ b → slice_get (hops_from w m) b ≡ None
  no_hops b h = slice_get_past (hops_from w m) b (subst (λ n. n ≤ b) (sym long) h)

  pub few_hops : IsNetwork w → m < length w.hosts → (b : ℕ) → b < length w.hosts → hops w m b < most_nodes
  few_hops n hm b h = (hops_fit w n m b hm h).2

  pub hops_bounded : IsNetwork w → m < length w.hosts → All (λ n. n < most_nodes) (hops_from w m)
  hops_bounded n hm i d h = grind (arith, long, few_hops, read)
