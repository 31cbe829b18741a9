-- A scenario as one plain record, its network, and the members' scripts.
use Rattle.std.specs.Prelude.{ℕ, ◌+◌, List, [], ◌∷◌, ◌++◌, map, Option, Some, None, ◌==◌, if◌then◌else◌}
use Rattle.std.specs.declared.cmp.Ordering.{Ordering}
use Rattle.std.specs.Ordering.{nat_cmp}
use Rattle.std.specs.Cmp.Lexicographic.{slice_cmp}
use Rattle.srm_net.specs.declared.link.LinkSpec.{LinkSpec}
use Rattle.srm_net.specs.declared.link.DropSpec.{DropSpec}
use Rattle.srm_net.specs.declared.link.OutageSpec.{OutageSpec}
use Rattle.srm_net.specs.declared.link.LossSpec.{LossSpec}
use Rattle.srm_net.specs.declared.rank.Rank.{Rank}
use Rattle.srm_net.specs.declared.rank.Rank.TheVariants.{Join, Draw, Report, Leave}
use Rattle.srm_net.specs.Keys.{rank_number}
use Rattle.srm_net.specs.DropSets.{ordered_once}
use Rattle.srm_net.specs.Orders.{ordered}
use Rattle.srm_net.specs.Network.{Network}
use Rattle.srm_net.specs.DropRules.{DropRules}
use Rattle.srm_net.specs.Paths.{drop_cmp}
use Rattle.srm_scenario.specs.declared.mark.Mark.{Mark}
use Rattle.srm_scenario.specs.declared.parts.Constants.{Constants}
use Rattle.srm_scenario.specs.declared.parts.Room.{Room}
use Rattle.srm_scenario.specs.declared.parts.LocalRecovery.{LocalRecovery}
use Rattle.srm_scenario.specs.declared.parts.MemberSpec.{MemberSpec}
use Rattle.srm_scenario.specs.declared.parts.DrawSpec.{DrawSpec}
use Rattle.srm_scenario.specs.declared.parts.SessionSpec.{SessionSpec}

-- what a run is given: events before `until` are handled, and members adapt the constants of their timers within their
-- room. Members, links, draws and sessions are numbered in their lists' order, listed drops stand in rising order, each
-- once, and outages and losses in the order of their lists
pub record PlainScenario : Type 0 where
  pub until : ℕ
  pub constants : Constants
  pub room : Room
  pub recovery : LocalRecovery
  pub nodes : ℕ
  pub links : List LinkSpec
  pub members : List MemberSpec
  pub draws : List DrawSpec
  pub sessions : List SessionSpec
  pub drops : DropRules

-- the rules by which links drop packets, of drops, outages and losses as they are listed: a drop that is listed twice
-- counts once, and the seed of the losses is 0
abbrev pub drop_rules_of : List DropSpec → List OutageSpec → List LossSpec → DropRules
drop_rules_of drops outages losses = record {
  listed = ordered_once drop_cmp drops;
  outages = outages;
  losses = losses;
  seed = 0;
}

-- the same scenario with the seed of its losses
abbrev pub with_seed : PlainScenario → ℕ → PlainScenario
with_seed s seed = record {
  until = s.until;
  constants = s.constants;
  room = s.room;
  recovery = s.recovery;
  nodes = s.nodes;
  links = s.links;
  members = s.members;
  draws = s.draws;
  sessions = s.sessions;
  drops = Rattle.srm_net.specs.DropRules.with_seed s.drops seed;
}

-- the network of a scenario
abbrev pub network_of : PlainScenario → Network
network_of s = record { nodes = s.nodes; links = s.links; hosts = map (λ m. m.node) s.members }

-- ---- scripts

-- marks are compared by time, rank and place
abbrev pub mark_cmp : Mark → Mark → Ordering
mark_cmp k l = slice_cmp nat_cmp (k.at ∷ rank_number k.rank ∷ k.place ∷ []) (l.at ∷ rank_number l.rank ∷ l.place ∷ [])

-- a mark that draws nothing
abbrev pub plain_mark : ℕ → Rank → ℕ → Mark
plain_mark at rank place = record { at = at; rank = rank; place = place; page = 0; ink = 0 }

-- member m's marks among these draws, the first of which is the scenario's draw i
abbrev pub draw_marks : ℕ → ℕ → List DrawSpec → List Mark
draw_marks m i [] = []
draw_marks m i (d ∷ ds) =
    if d.member == m
    then record { at = d.at; rank = Draw; place = i; page = d.page; ink = d.ink } ∷ draw_marks m (i + 1) ds
    else draw_marks m (i + 1) ds

-- member m's marks among these sessions, the first of which is the scenario's session i
abbrev pub report_marks : ℕ → ℕ → List SessionSpec → List Mark
report_marks m i [] = []
report_marks m i (r ∷ rs) =
    if r.member == m then plain_mark r.at Report i ∷ report_marks m (i + 1) rs else report_marks m (i + 1) rs

-- the mark of a leave, if there is one
abbrev pub leave_marks : Option ℕ → List Mark
leave_marks None = []
leave_marks (Some at) = plain_mark at Leave 0 ∷ []

-- the marks of a member, without their order
abbrev pub marks_of : PlainScenario → ℕ → Option MemberSpec → List Mark
marks_of s m None = []
marks_of s m (Some k) = plain_mark k.join Join 0 ∷ draw_marks m 0 s.draws ++ report_marks m 0 s.sessions
    ++ leave_marks k.leave

-- member m's script: its join, draws, reports and leave, in the order of their keys
unfoldable pub script_of : PlainScenario → ℕ → List Mark
script_of s m = ordered mark_cmp (marks_of s m (Rattle.std.specs.Prelude.slice_get s.members m))
