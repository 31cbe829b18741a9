-- What becomes of a packet at a link.
use Rattle.std.specs.Prelude.{ℕ, Bool, true, false, length}
use Rattle.srm_net.specs.declared.fate.Fate.{Fate}
use Rattle.srm_net.specs.declared.fate.Fate.TheVariants.{Crosses, Dropped, Neither}
use Rattle.srm_net.specs.Network.{Network}
use Rattle.srm_net.specs.Paths.{is_in, member_route, some_below}

-- whether it crosses the link
abbrev pub is_crossing : Fate → Bool
is_crossing Crosses = true
is_crossing Dropped = false
is_crossing Neither = false

-- whether it is dropped there
abbrev pub is_dropping : Fate → Bool
is_dropping Crosses = false
is_dropping Dropped = true
is_dropping Neither = false

-- whether link l is on the way from member a to some member, whether or not that member is present
unfoldable pub is_on_way : Network → ℕ → ℕ → Bool
is_on_way w a l = some_below (λ m. is_in (member_route w a m) l) (length w.hosts)

-- whether link l is on the way between some two members, whether or not these are present
unfoldable pub joins_members : Network → ℕ → Bool
joins_members w l = some_below (λ a. is_on_way w a l) (length w.hosts)
