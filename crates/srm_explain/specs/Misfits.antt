-- Which rule an element of a scenario breaks beside the rest of it, and what is said of that.
use Rattle.std.specs.Prelude.{◌≡◌, ℕ, ◌<◌, ◌≤◌, Bool, true, false, List, ◌++◌, Some, None, map, length, take, slice_get}
use Rattle.std.specs.Prelude.{codes, decimal}
use Rattle.srm_net.specs.declared.link.DropSpec.{DropSpec}
use Rattle.srm_net.specs.declared.link.LinkSpec.{LinkSpec}
use Rattle.srm_net.specs.declared.link.OutageSpec.{OutageSpec}
use Rattle.srm_net.specs.declared.link.LossSpec.{LossSpec}
use Rattle.srm_net.specs.Roles.{is_sender, is_late, is_listener}
use Rattle.srm_scenario.specs.declared.draft.Draft.{Draft}
use Rattle.srm_scenario.specs.declared.entry.MemberEntry.{MemberEntry}
use Rattle.srm_scenario.specs.declared.parts.DrawSpec.{DrawSpec}
use Rattle.srm_scenario.specs.declared.parts.MemberSpec.{MemberSpec}
use Rattle.srm_scenario.specs.declared.parts.SessionSpec.{SessionSpec}
use Rattle.srm_scenario.specs.declared.fault.ScenarioFault.{ScenarioFault}
use Rattle.srm_scenario.specs.declared.fault.ScenarioFault.TheVariants as fault
use Rattle.srm_scenario.specs.Drafts.{links_listed}
use Rattle.srm_scenario.specs.Faults.{is_star, fits_member, fits_draw, fits_session, fits_drop, fits_outage, fits_loss}
use Rattle.srm_explain.specs.declared.misfit.Misfit.{Misfit}
use Rattle.srm_explain.specs.declared.misfit.Misfit.TheVariants as misfit

-- ---- what is broken

-- a member breaks this rule, in a run that ends at `until`, on so many nodes, of a star or not, after the earlier ones
abbrev pub BreaksMember : ℕ → ℕ → Bool → List MemberEntry → MemberEntry → Misfit → Type 0
BreaksMember until nodes star earlier e (misfit.NoNode n) = (n ≡ nodes) × (nodes ≤ e.spec.node)
BreaksMember until nodes star earlier e misfit.OnHub = (star ≡ true) × (e.spec.node ≡ 0)
BreaksMember until nodes star earlier e (misfit.Taken place) =
    (other : MemberEntry) × (slice_get earlier place ≡ Some other) × (other.spec.node ≡ e.spec.node)
BreaksMember until nodes star earlier e (misfit.JoinsAfterEnd end) = (end ≡ until) × (until ≤ e.spec.join)
BreaksMember until nodes star earlier e (misfit.LeavesBeforeJoin join) =
    (join ≡ e.spec.join) × (leave : ℕ) × (e.spec.leave ≡ Some leave) × (leave ≤ join)
BreaksMember until nodes star earlier e misfit.NotLate = (e.has_pages ≡ true) × (is_late e.spec.role ≡ false)
BreaksMember until nodes star earlier e misfit.NeverAsks =
    (e.has_scope ≡ true) × (is_listener e.spec.role ≡ true)
BreaksMember until nodes star earlier e m = ⊥

-- a member is not there at this time, for this reason
abbrev pub IsAway : ℕ → ℕ → MemberSpec → Misfit → Type 0
IsAway until at k (misfit.BeforeJoin join) = (join ≡ k.join) × (at < join)
IsAway until at k (misfit.AfterLeave leave) = (k.leave ≡ Some leave) × (leave < at)
IsAway until at k (misfit.AfterEnd end) = (end ≡ until) × (until ≤ at)
IsAway until at k m = ⊥

-- the member that draws is no sender, or is not there
abbrev pub MayNotDraw : ℕ → ℕ → MemberSpec → Misfit → Type 0
MayNotDraw until at k misfit.NotSender = is_sender k.role ≡ false
MayNotDraw until at k m = IsAway until at k m

-- the member that is to send a session message is a listener, or is not there
abbrev pub MayNotReport : ℕ → ℕ → MemberSpec → Misfit → Type 0
MayNotReport until at k misfit.IsListener = is_listener k.role ≡ true
MayNotReport until at k m = IsAway until at k m

-- there is no such member; or this holds of it
abbrev pub BreaksAs : (MemberSpec → Misfit → Type 0) → List MemberSpec → ℕ → Misfit → Type 0
BreaksAs breaks members member (misfit.NoMember n) = (n ≡ length members) × (slice_get members member ≡ None)
BreaksAs breaks members member m = (k : MemberSpec) × (slice_get members member ≡ Some k) × breaks k m

-- a draw breaks this rule, and a session message
abbrev pub BreaksDraw : ℕ → List MemberSpec → DrawSpec → Misfit → Type 0
BreaksDraw until members d m = BreaksAs (MayNotDraw until d.at) members d.member m

abbrev pub BreaksSession : ℕ → List MemberSpec → SessionSpec → Misfit → Type 0
BreaksSession until members r m = BreaksAs (MayNotReport until r.at) members r.member m

-- a drop breaks this rule, of so many links and members
abbrev pub BreaksDrop : ℕ → ℕ → DropSpec → Misfit → Type 0
BreaksDrop links members d (misfit.NoLink n) = (n ≡ links) × (links ≤ d.link)
BreaksDrop links members d (misfit.NoMember n) = (n ≡ members) × (members ≤ d.id.sender)
BreaksDrop links members d m = ⊥

-- an outage breaks this rule, of so many links
abbrev pub BreaksOutage : ℕ → OutageSpec → Misfit → Type 0
BreaksOutage links o (misfit.NoLink n) = (n ≡ links) × (links ≤ o.link)
BreaksOutage links o (misfit.EndsEarly from) = (from ≡ o.from) × (o.to ≤ from)
BreaksOutage links o m = ⊥

-- a loss breaks this rule, of so many links
abbrev pub BreaksLoss : ℕ → LossSpec → Misfit → Type 0
BreaksLoss links o (misfit.NoLink n) = (n ≡ links) × (links ≤ o.link)
BreaksLoss links o (misfit.StopsEarly from) = (from ≡ o.from) × (to : ℕ) × (o.to ≡ Some to) × (to ≤ from)
BreaksLoss links o m = ⊥

-- ---- what is found

-- the members of a draft, and its links
abbrev pub members_of : Draft → List MemberSpec
members_of l = map (λ e. e.spec) l.members.items

abbrev pub links_of : Draft → List LinkSpec
links_of l = links_listed l.topology l.nodes l.delays l.links.items

-- the element at the place of the fault does not pass the reader's test, and breaks this rule
abbrev pub Breaks : Draft → ScenarioFault → Misfit → Type 0
Breaks l (fault.BadMember place) m =
    (e : MemberEntry) × (slice_get l.members.items place ≡ Some e)
    × (fits_member l.until l.nodes (is_star l.topology) (take place l.members.items) e ≡ false)
    × BreaksMember l.until l.nodes (is_star l.topology) (take place l.members.items) e m
Breaks l (fault.BadDraw place) m =
    (d : DrawSpec) × (slice_get l.draws.items place ≡ Some d) × (fits_draw l.until (members_of l) d ≡ false)
    × BreaksDraw l.until (members_of l) d m
Breaks l (fault.BadSession place) m =
    (r : SessionSpec) × (slice_get l.sessions.items place ≡ Some r)
    × (fits_session l.until (members_of l) r ≡ false) × BreaksSession l.until (members_of l) r m
Breaks l (fault.BadDrop place) m =
    (d : DropSpec) × (slice_get l.drops.items place ≡ Some d)
    × (fits_drop (length (links_of l)) (length (members_of l)) d ≡ false)
    × BreaksDrop (length (links_of l)) (length (members_of l)) d m
Breaks l (fault.BadOutage place) m =
    (o : OutageSpec) × (slice_get l.outages.items place ≡ Some o) × (fits_outage (length (links_of l)) o ≡ false)
    × BreaksOutage (length (links_of l)) o m
Breaks l (fault.BadLoss place) m =
    (o : LossSpec) × (slice_get l.losses.items place ≡ Some o) × (fits_loss (length (links_of l)) o ≡ false)
    × BreaksLoss (length (links_of l)) o m
Breaks l f m = ⊥

-- ---- what is said of it

-- what is said of a rule that is broken
abbrev pub misfit_sentence : Misfit → List ℕ
misfit_sentence (misfit.NoNode nodes) =
    codes "there is no such node: " ++ (decimal nodes ++ codes " in all, numbered from 0")
misfit_sentence (misfit.NoLink links) =
    codes "there is no such link: " ++ (decimal links ++ codes " in all, numbered from 0")
misfit_sentence (misfit.NoMember members) =
    codes "there is no such member: " ++ (decimal members ++ codes " in all, numbered from 0")
misfit_sentence misfit.OnHub = codes "node 0 is the hub of the star, on which no member may be"
misfit_sentence (misfit.Taken earlier) =
    codes "member " ++ (decimal earlier ++ codes " is on this node, and each member has one of its own")
misfit_sentence (misfit.JoinsAfterEnd until) =
    codes "a member joins before the run is over, and until is " ++ decimal until
misfit_sentence (misfit.LeavesBeforeJoin join) =
    codes "a member leaves after it joins, which is at " ++ decimal join
misfit_sentence misfit.NotLate = codes "pages are given for a member with role \"late\" alone"
misfit_sentence misfit.NeverAsks = codes "this member is a listener, which sends no requests"
misfit_sentence misfit.NotSender = codes "only a member with role \"sender\" draws"
misfit_sentence misfit.IsListener = codes "this member is a listener, which sends no session messages"
misfit_sentence (misfit.BeforeJoin join) = codes "its member is not there yet: it joins at " ++ decimal join
misfit_sentence (misfit.AfterLeave leave) = codes "its member is there no more: it leaves at " ++ decimal leave
misfit_sentence (misfit.AfterEnd until) = codes "the run is over by then: until is " ++ decimal until
misfit_sentence (misfit.EndsEarly from) = codes "an outage ends after it begins, which is at " ++ decimal from
misfit_sentence (misfit.StopsEarly from) = codes "a loss ends after it begins, which is at " ++ decimal from
