-- Least delays of links, and least distances of members.
use Rattle.std.specs.Prelude.{ℕ, min, not, ◌==◌, List, [], ◌∷◌, Option, Some, None, length, map, filter, fold}
use Rattle.std.specs.List.{range_with_len}
use Rattle.srm_net.specs.declared.link.LinkSpec.{LinkSpec}
use Rattle.srm_net.specs.Network.{Network}
use Rattle.srm_net.specs.Paths.{distance}

-- the least of the numbers, if there is one
abbrev pub least : List ℕ → Option ℕ
least [] = None
least (x ∷ xs) = Some (fold min x xs)

-- the delay of a link in the direction in which it is less
abbrev pub lesser_delay : LinkSpec → ℕ
lesser_delay k = min k.delay k.back

-- the least delay of a link in either direction, in ticks, if there is a link
unfoldable pub least_delay : Network → Option ℕ
least_delay w = least (map lesser_delay w.links)

-- the members but m
abbrev pub others : Network → ℕ → List ℕ
others w m = filter (λ b. not (b == m)) (range_with_len 0 (length w.hosts))

-- the least distance from member m to another, in ticks, if there is another
unfoldable pub out : Network → ℕ → Option ℕ
out w m = least (map (distance w m) (others w m))
