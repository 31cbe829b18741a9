-- Crossings of a list of rows: five numbers for each link.
use Rattle.std.specs.Prelude.{ℕ, ◌+◌, ◌&&◌, List, [], ◌∷◌, ◌++◌, ◌==◌}
use Rattle.std.specs.List.{filter_map, flat_map, count_by, range_with_len}
use Rattle.srm_net.specs.declared.packet.Body.{Body}
use Rattle.srm_net.specs.declared.packet.Body.TheVariants as body
use Rattle.srm_net.specs.declared.packet.Packet.{Packet}
use Rattle.srm_member.specs.declared.row.Row.{Row}
use Rattle.srm_ledger.specs.declared.kind.Kind.{Kind}
use Rattle.srm_ledger.specs.declared.kind.Kind.TheVariants.{Drawop, Request, Repair, Session}
use Rattle.srm_ledger.specs.Counts.{place_of}
use Rattle.srm_cell.specs.Setting.{Traffic}

-- the packets that the rows' members sent
abbrev pub packets_of : List Row → List Packet
packets_of rows = filter_map (λ r. r.sent) rows

-- as what a packet that crosses a link is counted
abbrev pub kind_of : Body → Kind
kind_of (body.Drawop n ink) = Drawop
kind_of (body.Request n scope) = Request
kind_of (body.Repair n ink local) = Repair
kind_of (body.Session hs) = Session

-- how many packets of a kind cross link l
abbrev pub crossed : Traffic → Kind → ℕ → List Packet → ℕ
crossed t kind l ps = count_by (λ p. (place_of (kind_of p.body) == place_of kind) && t.crosses p l) ps

-- of link l: data, requests, repairs and session messages that cross it, and packets dropped at it
abbrev pub crossings_at : Traffic → List Packet → ℕ → List ℕ
crossings_at t ps l =
    crossed t Drawop l ps ∷ crossed t Request l ps ∷ crossed t Repair l ps ∷ crossed t Session l ps
    ∷ count_by (λ p. t.drops_at p l) ps ∷ []

-- two lists of numbers, added number by number
abbrev pub added_each : List ℕ → List ℕ → List ℕ
added_each [] ns = []
added_each (m ∷ ms) [] = []
added_each (m ∷ ms) (n ∷ ns) = (m + n) ∷ added_each ms ns

-- the lists one after the other
abbrev pub joined : {A : Type 0} → List (List A) → List A
joined [] = []
joined (l ∷ ls) = l ++ joined ls

-- the five numbers of each link in turn
unfoldable pub crossings : Traffic → List Row → List ℕ
crossings t rows = flat_map (crossings_at t (packets_of rows)) (range_with_len 0 t.links)
