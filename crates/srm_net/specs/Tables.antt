-- What the tables of a network tell.
use Rattle.std.specs.Prelude.{◌≡◌, ℕ, ◌<◌, max, Bool, not, List, Option, Some, length, slice_get, ◌==◌, if◌then◌else◌}
use Rattle.srm_net.specs.declared.link.LinkSpec.{LinkSpec}
use Rattle.srm_net.specs.declared.sides.Sides.{Sides}
use Rattle.srm_net.specs.Network.{Network}
use Rattle.srm_net.specs.Paths.{is_in, route, hops_between, is_within, host, some_below}
use Rattle.srm_net.specs.Least.{out}

-- whether node x is beyond link l, this link, as seen from the link's end a
abbrev pub is_beyond : Network → ℕ → LinkSpec → ℕ → Bool
is_beyond w l k x = is_in (route w k.a x) l

-- the end of a link that is nearer to node u
abbrev pub near_end : Network → ℕ → LinkSpec → ℕ → ℕ
near_end w l k u = if is_beyond w l k u then k.b else k.a

-- whether the farther end of a link is within a scope of node u
abbrev pub covers : Network → Option ℕ → ℕ → LinkSpec → Bool
covers w scope u k = is_within scope (max (hops_between w u k.a) (hops_between w u k.b))

-- the end of a link other than this one
abbrev pub far_from : LinkSpec → ℕ → ℕ
far_from k near = if k.a == near then k.b else k.a

-- whether some member is on the other side of a link than node u
abbrev pub some_beyond : Network → ℕ → LinkSpec → ℕ → Bool
some_beyond w l k u =
    some_below (λ m. if is_beyond w l k u then not (is_beyond w l k (host w m)) else is_beyond w l k (host w m))
    (length w.hosts)

-- whether a member is on either side of a link
pub record TellsSides (w : Network) (l : ℕ) (k : LinkSpec) (s : Sides) : Type 0 where
  pub a : s.a ≡ some_below (λ m. not (is_beyond w l k (host w m))) (length w.hosts)
  pub b : s.b ≡ some_below (λ m. is_beyond w l k (host w m)) (length w.hosts)

-- each link's sides are told
abbrev pub TellsAllSides : Network → List Sides → Type 0
TellsAllSides w sides =
    (l : ℕ) (k : LinkSpec) → slice_get w.links l ≡ Some k → (s : Sides) × (slice_get sides l ≡ Some s)
    × TellsSides w l k s

-- each member's least distance is told
abbrev pub TellsOuts : Network → List (Option ℕ) → Type 0
TellsOuts w outs = (m : ℕ) → m < length w.hosts → slice_get outs m ≡ Some (out w m)
