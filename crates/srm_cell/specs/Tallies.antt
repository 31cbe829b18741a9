-- Packets counted by whether they went everywhere.
use Rattle.std.specs.Prelude.{◌≡◌, ℕ, ◌+◌, ◌≤◌, ◌<◌, ◌^◌, List, [], ◌∷◌, length, if◌then◌else◌}
use Rattle.std.specs.List.{flat_map, range_with_len}
use Rattle.srm_net.specs.declared.packet.Packet.{Packet}
use Rattle.srm_net.specs.Fates.{joins_members}
use Rattle.srm_net.specs.Network.{Network}
use Rattle.srm_scenario.specs.Plain.{PlainScenario}
use Rattle.srm_ledger.specs.declared.kind.Kind.{Kind}
use Rattle.srm_ledger.specs.declared.kind.Kind.TheVariants.{Drawop, Request, Repair, Session, Dropped}
use Rattle.srm_ledger.specs.Counts.{counted_at, more_by}
use Rattle.srm_cell.specs.declared.everywhere.Everywhere.{Everywhere}
use Rattle.srm_cell.specs.declared.tally.Tally.{Tally}
use Rattle.srm_cell.specs.Setting.{traffic_of}
use Rattle.srm_cell.specs.Crossings.{added_each}
use Rattle.srm_cell.specs.Totalled.{numbers_of}

-- how many packets of a kind went everywhere; none of them was dropped
abbrev pub number_of : Everywhere → Kind → ℕ
number_of e Drawop = e.drawops
number_of e Request = e.requests
number_of e Repair = e.repairs
number_of e Session = e.sessions
number_of e Dropped = 0

-- no packet yet
abbrev pub none_everywhere : Everywhere
none_everywhere = record { drawops = 0; requests = 0; repairs = 0; sessions = 0 }

-- one more packet of a kind
abbrev pub one_everywhere : Everywhere → Kind → Everywhere
one_everywhere e Drawop =
    record { drawops = e.drawops + 1; requests = e.requests; repairs = e.repairs; sessions = e.sessions }
one_everywhere e Request =
    record { drawops = e.drawops; requests = e.requests + 1; repairs = e.repairs; sessions = e.sessions }
one_everywhere e Repair =
    record { drawops = e.drawops; requests = e.requests; repairs = e.repairs + 1; sessions = e.sessions }
one_everywhere e Session =
    record { drawops = e.drawops; requests = e.requests; repairs = e.repairs; sessions = e.sessions + 1 }
one_everywhere e Dropped = e

-- the packets besides at link l, of each kind
abbrev pub with_everywhere : Everywhere → ℕ → List ℕ → List ℕ
with_everywhere e l ns =
    more_by e.sessions (more_by e.repairs (more_by e.requests (more_by e.drawops ns l Drawop) l Request) l Repair)
    l Session

-- the five numbers of link l of packets that went everywhere: all crossed it where it is on the way between two members
abbrev pub everywhere_at : Network → Everywhere → ℕ → List ℕ
everywhere_at net e l =
    if joins_members net l
    then e.drawops ∷ e.requests ∷ e.repairs ∷ e.sessions ∷ 0 ∷ []
    else 0 ∷ 0 ∷ 0 ∷ 0 ∷ 0 ∷ []

-- the five numbers of each link in turn: of packets that were stopped somewhere and of those that went everywhere
unfoldable pub tallied : Network → Tally → List ℕ
tallied net t = added_each t.stopped (flat_map (everywhere_at net t.everywhere) (range_with_len 0 (length net.links)))

-- the tally is of these packets, some of which were stopped, and each of its numbers fits a word when all are put
-- together
pub record Tallies (s : PlainScenario) (net : Network) (ps : List Packet) (t : Tally) : Type 0 where
  pub numbers : tallied net t ≡ numbers_of (traffic_of s net) ps
  pub some : List Packet
  pub some_are : t.stopped ≡ numbers_of (traffic_of s net) some
  pub others : (k : Kind) → number_of t.everywhere k + length some ≤ length ps
  pub room : (l : ℕ) (k : Kind) → counted_at t.stopped l k + number_of t.everywhere k < 2 ^ 64
