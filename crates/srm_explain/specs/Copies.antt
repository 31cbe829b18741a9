-- Which copies of the elements of a text the elements of a scenario are, and what is said of that.
use Rattle.std.specs.Prelude.{◌≡◌, ℕ, ◌+◌, ◌<◌, List, ◌++◌, Some, slice_get, take, sum_by, codes, decimal}
use Rattle.toml.specs.Data.{Data}
use Rattle.srm_net.specs.declared.link.DropSpec.{DropSpec}
use Rattle.srm_net.specs.declared.link.OutageSpec.{OutageSpec}
use Rattle.srm_net.specs.declared.link.LossSpec.{LossSpec}
use Rattle.srm_scenario.specs.declared.draft.Draft.{Draft}
use Rattle.srm_scenario.specs.declared.entry.MemberEntry.{MemberEntry}
use Rattle.srm_scenario.specs.declared.parts.DrawSpec.{DrawSpec}
use Rattle.srm_scenario.specs.declared.parts.SessionSpec.{SessionSpec}
use Rattle.srm_scenario.specs.declared.fault.ScenarioFault.{ScenarioFault}
use Rattle.srm_scenario.specs.declared.fault.ScenarioFault.TheVariants as fault
use Rattle.srm_scenario.specs.Rules.{times_repeated}
use Rattle.srm_explain.specs.declared.copies.Copied.{Copied}

-- this copy of one of these elements stands at a place of the list that they make: those before it stand for the others
abbrev pub IsCopied : List Data → ℕ → Copied → Type 0
IsCopied ds place c =
    (d : Data) × (slice_get ds c.written ≡ Some d) × (c.times ≡ times_repeated d) × (c.copy < c.times)
    × (place ≡ sum_by times_repeated (take c.written ds) + c.copy)

-- the numbers of an element that rise from copy to copy
abbrev pub member_numbers : MemberEntry → List ℕ
member_numbers e = codes "node " ++ (decimal e.spec.node ++ (codes ", stream " ++ decimal e.spec.stream))

abbrev pub draw_numbers : DrawSpec → List ℕ
draw_numbers d = codes "at " ++ decimal d.at

abbrev pub session_numbers : SessionSpec → List ℕ
session_numbers r = codes "at " ++ decimal r.at

abbrev pub drop_numbers : DropSpec → List ℕ
drop_numbers d = codes "count " ++ decimal d.id.count

abbrev pub outage_numbers : OutageSpec → List ℕ
outage_numbers o = codes "from " ++ (decimal o.from ++ (codes ", to " ++ decimal o.to))

abbrev pub loss_numbers : LossSpec → List ℕ
loss_numbers o = codes "link " ++ decimal o.link

-- the same of the element of a fault
abbrev pub TellsNumbers : Draft → ScenarioFault → List ℕ → Type 0
TellsNumbers l (fault.BadMember place) told =
    (e : MemberEntry) × (slice_get l.members.items place ≡ Some e) × (told ≡ member_numbers e)
TellsNumbers l (fault.BadDraw place) told =
    (d : DrawSpec) × (slice_get l.draws.items place ≡ Some d) × (told ≡ draw_numbers d)
TellsNumbers l (fault.BadSession place) told =
    (r : SessionSpec) × (slice_get l.sessions.items place ≡ Some r) × (told ≡ session_numbers r)
TellsNumbers l (fault.BadDrop place) told =
    (d : DropSpec) × (slice_get l.drops.items place ≡ Some d) × (told ≡ drop_numbers d)
TellsNumbers l (fault.BadOutage place) told =
    (o : OutageSpec) × (slice_get l.outages.items place ≡ Some o) × (told ≡ outage_numbers o)
TellsNumbers l (fault.BadLoss place) told =
    (o : LossSpec) × (slice_get l.losses.items place ≡ Some o) × (told ≡ loss_numbers o)
TellsNumbers l f told = ⊥

-- what is said of a copy that has these numbers
abbrev pub copy_sentence : Copied → List ℕ → List ℕ
copy_sentence c numbers =
    codes "this is copy "
    ++ (decimal c.copy ++ (codes " of element " ++ (decimal c.written ++ (codes ", both counted from 0: " ++ numbers))))
