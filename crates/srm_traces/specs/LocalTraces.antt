-- The traces of the worked scenarios of local recovery. Beside each: for each link data, requests, repairs, session
-- messages and drops; each request and repair that was sent; and what the members end with.
use Rattle.std.specs.Prelude.{ℕ, List, [], ◌∷◌, Some, None}
use Rattle.srm_net.specs.declared.packet.Name.{Name}
use Rattle.srm_net.specs.declared.packet.PacketId.{PacketId}
use Rattle.srm_net.specs.declared.packet.Local.{Local}
use Rattle.srm_net.specs.declared.packet.Packet.{Packet}
use Rattle.srm_net.specs.declared.packet.Body.TheVariants.{Request, Repair}
use Rattle.srm_member.specs.declared.row.Word.TheVariants as word
use Rattle.srm_member.specs.declared.exit.Exit.{Exit}
use Rattle.srm_member.specs.declared.told.Told.TheVariants as told
use Rattle.srm_model.specs.OneLoss.{an_exit}
use Rattle.srm_traces.specs.Runs.{Brief, Nothing, Of, Named, handled, packet, name}

-- a request for the lost operation was sent: when, as which packet, with which scope; and how often it was heard
abbrev pub asked : ℕ → PacketId → ℕ → ℕ → Packet × ℕ
asked time id scope heard = (record { id = id; sent = time; body = Request (name 0 0 0) (Some scope) }, heard)

-- a repair of it was sent: when, as which packet, with which scope, requester and width; and how often it was heard
abbrev pub answered : ℕ → PacketId → Local → ℕ → Packet × ℕ
answered time id local heard = (record { id = id; sent = time; body = Repair (name 0 0 0) 7 (Some local) }, heard)

-- a repair's scope, requester and width
abbrev pub local : ℕ → ℕ → ℕ → Local
local scope requester width = record { scope = scope; requester = requester; width = width }

-- both operations, with their ink
abbrev pub both : List (Name × ℕ)
both = (name 0 0 0, 7) ∷ (name 0 0 1, 7) ∷ []

-- requests whose scope grows until the source hears one: the trace
abbrev pub scope_that_grows_trace : List Brief
scope_that_grows_trace =
    handled 0 0 word.Join Nothing told.Entered 0 None
    ∷ handled 0 0 word.Draw (Named (name 0 0 0)) told.Sent 0 (Some (packet 0 0))
    ∷ handled 0 1 word.Join Nothing told.Entered 0 None
    ∷ handled 0 2 word.Join Nothing told.Entered 0 None
    ∷ handled 10 0 word.Draw (Named (name 0 0 1)) told.Sent 0 (Some (packet 0 1))
    ∷ handled 13 1 word.Data (Of (packet 0 1)) told.Fresh 1 None
    ∷ handled 14 2 word.Data (Of (packet 0 1)) told.Fresh 1 None
    ∷ handled 16 1 word.Ask (Named (name 0 0 0)) told.Sent 0 (Some (packet 1 0))
    ∷ handled 17 2 word.Request (Of (packet 1 0)) told.Back 0 None
    ∷ handled 22 1 word.Ask (Named (name 0 0 0)) told.Sent 0 (Some (packet 1 1))
    ∷ handled 23 2 word.Request (Of (packet 1 1)) told.Back 0 None
    ∷ handled 34 1 word.Ask (Named (name 0 0 0)) told.Sent 0 (Some (packet 1 2))
    ∷ handled 35 2 word.Request (Of (packet 1 2)) told.Back 0 None
    ∷ handled 37 0 word.Request (Of (packet 1 2)) told.Plan 0 None
    ∷ handled 40 0 word.Answer (Named (name 0 0 0)) told.Sent 0 (Some (packet 0 2))
    ∷ handled 43 1 word.Repair (Of (packet 0 2)) told.Fixed 0 None
    ∷ handled 44 1 word.Answer (Named (name 0 0 0)) told.Sent 0 (Some (packet 1 3))
    ∷ handled 45 2 word.Repair (Of (packet 1 3)) told.Fixed 0 None
    ∷ handled 47 0 word.Repair (Of (packet 1 3)) told.Again 0 None
    ∷ []

-- its crossings
abbrev pub scope_that_grows_totals : List ℕ
scope_that_grows_totals = 1 ∷ 1 ∷ 2 ∷ 0 ∷ 1 ∷ 1 ∷ 2 ∷ 2 ∷ 0 ∷ 0 ∷ 1 ∷ 3 ∷ 2 ∷ 0 ∷ 0 ∷ 1 ∷ 3 ∷ 1 ∷ 0 ∷ 0 ∷ []

-- its requests and repairs
abbrev pub scope_that_grows_recovery : List (Packet × ℕ)
scope_that_grows_recovery =
    asked 16 (packet 1 0) 1 1
    ∷ asked 22 (packet 1 1) 2 1
    ∷ asked 34 (packet 1 2) 3 2
    ∷ answered 40 (packet 0 2) (local 3 1 3) 1
    ∷ answered 44 (packet 1 3) (local 3 1 3) 2
    ∷ []

-- what its members end with
abbrev pub scope_that_grows_exits : List Exit
scope_that_grows_exits = an_exit 0 both [] ∷ an_exit 1 both [] ∷ an_exit 2 both [] ∷ []

-- two first steps, and one second step: the trace
abbrev pub two_first_steps_trace : List Brief
two_first_steps_trace =
    handled 0 0 word.Join Nothing told.Entered 0 None
    ∷ handled 0 0 word.Draw (Named (name 0 0 0)) told.Sent 0 (Some (packet 0 0))
    ∷ handled 0 1 word.Join Nothing told.Entered 0 None
    ∷ handled 0 2 word.Join Nothing told.Entered 0 None
    ∷ handled 0 3 word.Join Nothing told.Entered 0 None
    ∷ handled 17 1 word.Data (Of (packet 0 0)) told.Fresh 0 None
    ∷ handled 100 0 word.Draw (Named (name 0 0 1)) told.Sent 0 (Some (packet 0 1))
    ∷ handled 110 2 word.Data (Of (packet 0 1)) told.Fresh 1 None
    ∷ handled 117 1 word.Data (Of (packet 0 1)) told.Fresh 0 None
    ∷ handled 120 3 word.Data (Of (packet 0 1)) told.Fresh 1 None
    ∷ handled 130 2 word.Ask (Named (name 0 0 0)) told.Sent 0 (Some (packet 2 0))
    ∷ handled 140 0 word.Request (Of (packet 2 0)) told.Plan 0 None
    ∷ handled 145 0 word.Answer (Named (name 0 0 0)) told.Sent 0 (Some (packet 0 2))
    ∷ handled 147 1 word.Request (Of (packet 2 0)) told.Plan 0 None
    ∷ handled 150 3 word.Request (Of (packet 2 0)) told.Back 0 None
    ∷ handled 155 1 word.Answer (Named (name 0 0 0)) told.Sent 0 (Some (packet 1 0))
    ∷ handled 155 2 word.Repair (Of (packet 0 2)) told.Fixed 0 None
    ∷ handled 156 2 word.Answer (Named (name 0 0 0)) told.Sent 0 (Some (packet 2 1))
    ∷ handled 162 1 word.Repair (Of (packet 0 2)) told.Again 0 None
    ∷ handled 165 3 word.Repair (Of (packet 0 2)) told.Fixed 0 None
    ∷ handled 166 0 word.Repair (Of (packet 2 1)) told.Again 0 None
    ∷ handled 172 0 word.Repair (Of (packet 1 0)) told.Again 0 None
    ∷ handled 172 2 word.Repair (Of (packet 1 0)) told.Again 0 None
    ∷ handled 173 1 word.Repair (Of (packet 2 1)) told.Again 0 None
    ∷ handled 176 3 word.Repair (Of (packet 2 1)) told.Again 0 None
    ∷ handled 182 3 word.Repair (Of (packet 1 0)) told.Again 0 None
    ∷ []

-- its crossings
abbrev pub two_first_steps_totals : List ℕ
two_first_steps_totals = 2 ∷ 1 ∷ 3 ∷ 0 ∷ 0 ∷ 2 ∷ 1 ∷ 3 ∷ 0 ∷ 0 ∷ 1 ∷ 1 ∷ 3 ∷ 0 ∷ 1 ∷ 1 ∷ 1 ∷ 3 ∷ 0 ∷ 1 ∷ []

-- its requests and repairs
abbrev pub two_first_steps_recovery : List (Packet × ℕ)
two_first_steps_recovery =
    asked 130 (packet 2 0) 2 3
    ∷ answered 145 (packet 0 2) (local 2 2 2) 3
    ∷ answered 155 (packet 1 0) (local 2 2 2) 3
    ∷ answered 156 (packet 2 1) (local 2 2 2) 3
    ∷ []

-- what its members end with
abbrev pub two_first_steps_exits : List Exit
two_first_steps_exits = an_exit 0 both [] ∷ an_exit 1 both [] ∷ an_exit 2 both [] ∷ an_exit 3 both [] ∷ []

-- a loss on a chain of five, where requests go one hop: the trace
abbrev pub chain_of_five_in_two_steps_trace : List Brief
chain_of_five_in_two_steps_trace =
    handled 0 0 word.Join Nothing told.Entered 0 None
    ∷ handled 0 0 word.Draw (Named (name 0 0 0)) told.Sent 0 (Some (packet 0 0))
    ∷ handled 0 1 word.Join Nothing told.Entered 0 None
    ∷ handled 0 2 word.Join Nothing told.Entered 0 None
    ∷ handled 0 3 word.Join Nothing told.Entered 0 None
    ∷ handled 0 4 word.Join Nothing told.Entered 0 None
    ∷ handled 1 1 word.Data (Of (packet 0 0)) told.Fresh 0 None
    ∷ handled 10 0 word.Draw (Named (name 0 0 1)) told.Sent 0 (Some (packet 0 1))
    ∷ handled 11 1 word.Data (Of (packet 0 1)) told.Fresh 0 None
    ∷ handled 12 2 word.Data (Of (packet 0 1)) told.Fresh 1 None
    ∷ handled 13 3 word.Data (Of (packet 0 1)) told.Fresh 1 None
    ∷ handled 14 2 word.Ask (Named (name 0 0 0)) told.Sent 0 (Some (packet 2 0))
    ∷ handled 14 4 word.Data (Of (packet 0 1)) told.Fresh 1 None
    ∷ handled 15 1 word.Request (Of (packet 2 0)) told.Plan 0 None
    ∷ handled 15 3 word.Request (Of (packet 2 0)) told.Back 0 None
    ∷ handled 16 1 word.Answer (Named (name 0 0 0)) told.Sent 0 (Some (packet 1 0))
    ∷ handled 17 0 word.Repair (Of (packet 1 0)) told.Again 0 None
    ∷ handled 17 2 word.Repair (Of (packet 1 0)) told.Fixed 0 None
    ∷ handled 18 2 word.Answer (Named (name 0 0 0)) told.Sent 0 (Some (packet 2 1))
    ∷ handled 18 4 word.Ask (Named (name 0 0 0)) told.Sent 0 (Some (packet 4 0))
    ∷ handled 19 1 word.Repair (Of (packet 2 1)) told.Again 0 None
    ∷ handled 19 3 word.Repair (Of (packet 2 1)) told.Fixed 0 None
    ∷ handled 19 3 word.Request (Of (packet 4 0)) told.Plan 0 None
    ∷ handled 20 3 word.Answer (Named (name 0 0 0)) told.Sent 0 (Some (packet 3 0))
    ∷ handled 21 2 word.Repair (Of (packet 3 0)) told.Again 0 None
    ∷ handled 21 4 word.Repair (Of (packet 3 0)) told.Fixed 0 None
    ∷ handled 22 4 word.Answer (Named (name 0 0 0)) told.Sent 0 (Some (packet 4 1))
    ∷ handled 23 3 word.Repair (Of (packet 4 1)) told.Again 0 None
    ∷ []

-- its crossings
abbrev pub chain_of_five_in_two_steps_totals : List ℕ
chain_of_five_in_two_steps_totals = 2 ∷ 0 ∷ 1 ∷ 0 ∷ 0 ∷ 1 ∷ 1 ∷ 2 ∷ 0 ∷ 1 ∷ 1 ∷ 1 ∷ 2 ∷ 0 ∷ 0 ∷ 1 ∷ 1 ∷ 2 ∷ 0 ∷ 0 ∷ []

-- its requests and repairs
abbrev pub chain_of_five_in_two_steps_recovery : List (Packet × ℕ)
chain_of_five_in_two_steps_recovery =
    asked 14 (packet 2 0) 1 2
    ∷ answered 16 (packet 1 0) (local 1 2 1) 2
    ∷ answered 18 (packet 2 1) (local 1 2 1) 2
    ∷ asked 18 (packet 4 0) 1 1
    ∷ answered 20 (packet 3 0) (local 1 4 1) 2
    ∷ answered 22 (packet 4 1) (local 1 4 1) 1
    ∷ []

-- what its members end with
abbrev pub chain_of_five_in_two_steps_exits : List Exit
chain_of_five_in_two_steps_exits =
    an_exit 0 both [] ∷ an_exit 1 both [] ∷ an_exit 2 both [] ∷ an_exit 3 both [] ∷ an_exit 4 both [] ∷ []

-- a loss at one member of a star, repaired in two steps: the trace
abbrev pub star_loss_in_two_steps_trace : List Brief
star_loss_in_two_steps_trace =
    handled 0 0 word.Join Nothing told.Entered 0 None
    ∷ handled 0 0 word.Draw (Named (name 0 0 0)) told.Sent 0 (Some (packet 0 0))
    ∷ handled 0 1 word.Join Nothing told.Entered 0 None
    ∷ handled 0 2 word.Join Nothing told.Entered 0 None
    ∷ handled 0 3 word.Join Nothing told.Entered 0 None
    ∷ handled 10 1 word.Data (Of (packet 0 0)) told.Fresh 0 None
    ∷ handled 10 2 word.Data (Of (packet 0 0)) told.Fresh 0 None
    ∷ handled 100 0 word.Draw (Named (name 0 0 1)) told.Sent 0 (Some (packet 0 1))
    ∷ handled 110 1 word.Data (Of (packet 0 1)) told.Fresh 0 None
    ∷ handled 110 2 word.Data (Of (packet 0 1)) told.Fresh 0 None
    ∷ handled 110 3 word.Data (Of (packet 0 1)) told.Fresh 1 None
    ∷ handled 130 3 word.Ask (Named (name 0 0 0)) told.Sent 0 (Some (packet 3 0))
    ∷ handled 140 0 word.Request (Of (packet 3 0)) told.Plan 0 None
    ∷ handled 140 1 word.Request (Of (packet 3 0)) told.Plan 0 None
    ∷ handled 140 2 word.Request (Of (packet 3 0)) told.Plan 0 None
    ∷ handled 150 0 word.Answer (Named (name 0 0 0)) told.Sent 0 (Some (packet 0 2))
    ∷ handled 150 1 word.Answer (Named (name 0 0 0)) told.Sent 0 (Some (packet 1 0))
    ∷ handled 150 2 word.Answer (Named (name 0 0 0)) told.Sent 0 (Some (packet 2 0))
    ∷ handled 160 0 word.Repair (Of (packet 1 0)) told.Again 0 None
    ∷ handled 160 0 word.Repair (Of (packet 2 0)) told.Again 0 None
    ∷ handled 160 1 word.Repair (Of (packet 0 2)) told.Again 0 None
    ∷ handled 160 1 word.Repair (Of (packet 2 0)) told.Again 0 None
    ∷ handled 160 2 word.Repair (Of (packet 0 2)) told.Again 0 None
    ∷ handled 160 2 word.Repair (Of (packet 1 0)) told.Again 0 None
    ∷ handled 160 3 word.Repair (Of (packet 0 2)) told.Fixed 0 None
    ∷ handled 160 3 word.Repair (Of (packet 1 0)) told.Again 0 None
    ∷ handled 160 3 word.Repair (Of (packet 2 0)) told.Again 0 None
    ∷ handled 161 3 word.Answer (Named (name 0 0 0)) told.Sent 0 (Some (packet 3 1))
    ∷ handled 171 0 word.Repair (Of (packet 3 1)) told.Again 0 None
    ∷ handled 171 1 word.Repair (Of (packet 3 1)) told.Again 0 None
    ∷ handled 171 2 word.Repair (Of (packet 3 1)) told.Again 0 None
    ∷ []

-- its crossings
abbrev pub star_loss_in_two_steps_totals : List ℕ
star_loss_in_two_steps_totals = 2 ∷ 1 ∷ 4 ∷ 0 ∷ 0 ∷ 2 ∷ 1 ∷ 4 ∷ 0 ∷ 0 ∷ 2 ∷ 1 ∷ 4 ∷ 0 ∷ 0 ∷ 1 ∷ 1 ∷ 4 ∷ 0 ∷ 1 ∷ []

-- its requests and repairs
abbrev pub star_loss_in_two_steps_recovery : List (Packet × ℕ)
star_loss_in_two_steps_recovery =
    asked 130 (packet 3 0) 2 3
    ∷ answered 150 (packet 0 2) (local 2 3 2) 3
    ∷ answered 150 (packet 1 0) (local 2 3 2) 3
    ∷ answered 150 (packet 2 0) (local 2 3 2) 3
    ∷ answered 161 (packet 3 1) (local 2 3 2) 3
    ∷ []

-- what its members end with
abbrev pub star_loss_in_two_steps_exits : List Exit
star_loss_in_two_steps_exits = an_exit 0 both [] ∷ an_exit 1 both [] ∷ an_exit 2 both [] ∷ an_exit 3 both [] ∷ []
