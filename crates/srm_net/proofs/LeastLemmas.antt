-- Least numbers of lists, and the least delay of a link.
use Rattle.std.proofs.Common.{◌≡◌, ℕ, ◌≤◌, List, length, take, map}
use Rattle.std.proofs.Common.{Option, sym, ap}
use Rattle.std.proofs.lemmas.List.{take_all}
use Rattle.srm_net.specs.declared.link.LinkSpec.{LinkSpec}
use Rattle.srm_net.specs.Network.{Network}
use Rattle.srm_net.specs.Least.{least, lesser_delay, least_delay}

-- the least delay of the first n links
abbrev pub least_of_first : List LinkSpec → ℕ → Option ℕ
least_of_first links n = least (map lesser_delay (take n links))

pub least_delay_is : (w : Network) (n : ℕ) → length w.links ≤ n → least_delay w ≡ least_of_first w.links n
unfolding least_delay
least_delay_is w n h = ap (λ (ks : List LinkSpec). least (map lesser_delay ks)) (sym (take_all n w.links h))
