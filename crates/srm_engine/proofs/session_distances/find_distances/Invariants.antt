use Rattle.std.proofs.Common.{◌≡◌, map}
use Rattle.std.specs.List.{range_with_len}
use Rattle.srm_net.specs.Paths.{distance}
use Rattle.srm_engine.proofs.session_distances.find_distances.Given as goal

-- the distances are those to the members so far
abbrev pub invariant-loop-member : goal.invariant-loop-member
invariant-loop-member l = l.distances.items ≡ map (λ b. distance l.net l.from b) (range_with_len 0 l.member)
