-- The traces of the worked scenarios, and their crossings: for each link data, requests, repairs, session messages and
-- drops. Of some, what their members end with, or the constants of their timers at the end.
use Rattle.std.specs.Prelude.{ℕ, List, [], ◌∷◌, Some, None}
use Rattle.srm_scenario.specs.declared.parts.Constants.{Constants}
use Rattle.srm_member.specs.declared.row.Word.TheVariants as word
use Rattle.srm_member.specs.declared.exit.Exit.{Exit}
use Rattle.srm_member.specs.declared.told.Told.TheVariants as told
use Rattle.srm_model.specs.OneLoss.{an_exit}
use Rattle.srm_traces.specs.Scenarios.{thousandths}
use Rattle.srm_traces.specs.Runs.{Brief, Nothing, Of, Named, handled, packet, name}

-- one loss on a chain of five: its request, and the repair by the nearest that holds it: its trace
abbrev pub chain_of_five_one_loss_trace : List Brief
chain_of_five_one_loss_trace =
    handled 0 0 word.Join Nothing told.Entered 0 None
    ∷ handled 0 0 word.Draw (Named (name 0 0 0)) told.Sent 0 (Some (packet 0 0))
    ∷ handled 0 1 word.Join Nothing told.Entered 0 None
    ∷ handled 0 2 word.Join Nothing told.Entered 0 None
    ∷ handled 0 3 word.Join Nothing told.Entered 0 None
    ∷ handled 0 4 word.Join Nothing told.Entered 0 None
    ∷ handled 1 1 word.Data (Of (packet 0 0)) told.Fresh 0 None
    ∷ handled 10 0 word.Draw (Named (name 0 0 1)) told.Sent 0 (Some (packet 0 1))
    ∷ handled 11 1 word.Data (Of (packet 0 1)) told.Fresh 0 None
    ∷ handled 12 2 word.Data (Of (packet 0 1)) told.Fresh 1 None
    ∷ handled 13 3 word.Data (Of (packet 0 1)) told.Fresh 1 None
    ∷ handled 14 2 word.Ask (Named (name 0 0 0)) told.Sent 0 (Some (packet 2 0))
    ∷ handled 14 4 word.Data (Of (packet 0 1)) told.Fresh 1 None
    ∷ handled 15 1 word.Request (Of (packet 2 0)) told.Plan 0 None
    ∷ handled 15 3 word.Request (Of (packet 2 0)) told.Back 0 None
    ∷ handled 16 0 word.Request (Of (packet 2 0)) told.Plan 0 None
    ∷ handled 16 1 word.Answer (Named (name 0 0 0)) told.Sent 0 (Some (packet 1 0))
    ∷ handled 16 4 word.Request (Of (packet 2 0)) told.Back 0 None
    ∷ handled 17 0 word.Repair (Of (packet 1 0)) told.Again 0 None
    ∷ handled 17 2 word.Repair (Of (packet 1 0)) told.Fixed 0 None
    ∷ handled 18 3 word.Repair (Of (packet 1 0)) told.Fixed 0 None
    ∷ handled 19 4 word.Repair (Of (packet 1 0)) told.Fixed 0 None
    ∷ []

-- and its crossings
abbrev pub chain_of_five_one_loss_totals : List ℕ
chain_of_five_one_loss_totals = 2 ∷ 1 ∷ 1 ∷ 0 ∷ 0 ∷ 1 ∷ 1 ∷ 1 ∷ 0 ∷ 1 ∷ 1 ∷ 1 ∷ 1 ∷ 0 ∷ 0 ∷ 1 ∷ 1 ∷ 1 ∷ 0 ∷ 0 ∷ []

-- a loss on the link of the source: the second request comes at an ignore time, and during a rest: its trace
abbrev pub loss_on_the_source_link_trace : List Brief
loss_on_the_source_link_trace =
    handled 0 0 word.Join Nothing told.Entered 0 None
    ∷ handled 0 0 word.Draw (Named (name 0 0 0)) told.Sent 0 (Some (packet 0 0))
    ∷ handled 0 1 word.Join Nothing told.Entered 0 None
    ∷ handled 0 2 word.Join Nothing told.Entered 0 None
    ∷ handled 10 0 word.Draw (Named (name 0 0 1)) told.Sent 0 (Some (packet 0 1))
    ∷ handled 11 1 word.Data (Of (packet 0 1)) told.Fresh 1 None
    ∷ handled 12 1 word.Ask (Named (name 0 0 0)) told.Sent 0 (Some (packet 1 0))
    ∷ handled 12 2 word.Data (Of (packet 0 1)) told.Fresh 1 None
    ∷ handled 13 0 word.Request (Of (packet 1 0)) told.Plan 0 None
    ∷ handled 13 2 word.Request (Of (packet 1 0)) told.Back 0 None
    ∷ handled 14 0 word.Answer (Named (name 0 0 0)) told.Sent 0 (Some (packet 0 2))
    ∷ handled 14 1 word.Ask (Named (name 0 0 0)) told.Sent 0 (Some (packet 1 1))
    ∷ handled 15 0 word.Request (Of (packet 1 1)) told.Rest 0 None
    ∷ handled 15 1 word.Repair (Of (packet 0 2)) told.Fixed 0 None
    ∷ handled 15 2 word.Request (Of (packet 1 1)) told.Back 0 None
    ∷ handled 16 2 word.Repair (Of (packet 0 2)) told.Fixed 0 None
    ∷ []

-- and its crossings
abbrev pub loss_on_the_source_link_totals : List ℕ
loss_on_the_source_link_totals = 1 ∷ 2 ∷ 1 ∷ 0 ∷ 1 ∷ 1 ∷ 2 ∷ 1 ∷ 0 ∷ 0 ∷ []

-- a repair that arrives at the tick of the request timer ends it: its trace
abbrev pub repair_before_the_timer_of_its_tick_trace : List Brief
repair_before_the_timer_of_its_tick_trace =
    handled 0 0 word.Join Nothing told.Entered 0 None
    ∷ handled 0 0 word.Draw (Named (name 0 0 0)) told.Sent 0 (Some (packet 0 0))
    ∷ handled 0 1 word.Join Nothing told.Entered 0 None
    ∷ handled 10 0 word.Draw (Named (name 0 0 1)) told.Sent 0 (Some (packet 0 1))
    ∷ handled 11 1 word.Data (Of (packet 0 1)) told.Fresh 1 None
    ∷ handled 12 1 word.Ask (Named (name 0 0 0)) told.Sent 0 (Some (packet 1 0))
    ∷ handled 13 0 word.Request (Of (packet 1 0)) told.Plan 0 None
    ∷ handled 14 0 word.Answer (Named (name 0 0 0)) told.Sent 0 (Some (packet 0 2))
    ∷ handled 15 1 word.Repair (Of (packet 0 2)) told.Fixed 0 None
    ∷ []

-- and its crossings
abbrev pub repair_before_the_timer_of_its_tick_totals : List ℕ
repair_before_the_timer_of_its_tick_totals = 1 ∷ 1 ∷ 1 ∷ 0 ∷ 1 ∷ []

-- a run that ends before the repair is sent: its trace
abbrev pub stopped_before_the_repair_trace : List Brief
stopped_before_the_repair_trace =
    handled 0 0 word.Join Nothing told.Entered 0 None
    ∷ handled 0 0 word.Draw (Named (name 0 0 0)) told.Sent 0 (Some (packet 0 0))
    ∷ handled 0 1 word.Join Nothing told.Entered 0 None
    ∷ handled 10 0 word.Draw (Named (name 0 0 1)) told.Sent 0 (Some (packet 0 1))
    ∷ handled 11 1 word.Data (Of (packet 0 1)) told.Fresh 1 None
    ∷ handled 12 1 word.Ask (Named (name 0 0 0)) told.Sent 0 (Some (packet 1 0))
    ∷ handled 13 0 word.Request (Of (packet 1 0)) told.Plan 0 None
    ∷ []

-- and its crossings
abbrev pub stopped_before_the_repair_totals : List ℕ
stopped_before_the_repair_totals = 1 ∷ 1 ∷ 0 ∷ 0 ∷ 1 ∷ []

-- and what its members end with
abbrev pub stopped_before_the_repair_exits : List Exit
stopped_before_the_repair_exits = an_exit 0 ((name 0 0 0, 7) ∷ (name 0 0 1, 8) ∷ []) []
    ∷ an_exit 1 ((name 0 0 1, 8) ∷ []) (name 0 0 0 ∷ []) ∷ []

-- timers of random length: its trace
abbrev pub drawn_timers_trace : List Brief
drawn_timers_trace =
    handled 0 0 word.Join Nothing told.Entered 0 None
    ∷ handled 0 0 word.Draw (Named (name 0 0 0)) told.Sent 0 (Some (packet 0 0))
    ∷ handled 0 1 word.Join Nothing told.Entered 0 None
    ∷ handled 100 0 word.Draw (Named (name 0 0 1)) told.Sent 0 (Some (packet 0 1))
    ∷ handled 110 1 word.Data (Of (packet 0 1)) told.Fresh 1 None
    ∷ handled 143 1 word.Ask (Named (name 0 0 0)) told.Sent 0 (Some (packet 1 0))
    ∷ handled 153 0 word.Request (Of (packet 1 0)) told.Plan 0 None
    ∷ handled 163 0 word.Answer (Named (name 0 0 0)) told.Sent 0 (Some (packet 0 2))
    ∷ handled 173 1 word.Repair (Of (packet 0 2)) told.Fixed 0 None
    ∷ []

-- and its crossings
abbrev pub drawn_timers_totals : List ℕ
drawn_timers_totals = 1 ∷ 1 ∷ 1 ∷ 0 ∷ 1 ∷ []

-- a loss at the source of a star: three requests at one tick, one repair: its trace
abbrev pub star_loss_at_the_source_trace : List Brief
star_loss_at_the_source_trace =
    handled 0 0 word.Join Nothing told.Entered 0 None
    ∷ handled 0 0 word.Draw (Named (name 0 0 0)) told.Sent 0 (Some (packet 0 0))
    ∷ handled 0 1 word.Join Nothing told.Entered 0 None
    ∷ handled 0 2 word.Join Nothing told.Entered 0 None
    ∷ handled 0 3 word.Join Nothing told.Entered 0 None
    ∷ handled 100 0 word.Draw (Named (name 0 0 1)) told.Sent 0 (Some (packet 0 1))
    ∷ handled 110 1 word.Data (Of (packet 0 1)) told.Fresh 1 None
    ∷ handled 110 2 word.Data (Of (packet 0 1)) told.Fresh 1 None
    ∷ handled 110 3 word.Data (Of (packet 0 1)) told.Fresh 1 None
    ∷ handled 120 1 word.Ask (Named (name 0 0 0)) told.Sent 0 (Some (packet 1 0))
    ∷ handled 120 2 word.Ask (Named (name 0 0 0)) told.Sent 0 (Some (packet 2 0))
    ∷ handled 120 3 word.Ask (Named (name 0 0 0)) told.Sent 0 (Some (packet 3 0))
    ∷ handled 130 0 word.Request (Of (packet 1 0)) told.Plan 0 None
    ∷ handled 130 0 word.Request (Of (packet 2 0)) told.Busy 0 None
    ∷ handled 130 0 word.Request (Of (packet 3 0)) told.Busy 0 None
    ∷ handled 130 1 word.Request (Of (packet 2 0)) told.Back 0 None
    ∷ handled 130 1 word.Request (Of (packet 3 0)) told.Hold 0 None
    ∷ handled 130 2 word.Request (Of (packet 1 0)) told.Back 0 None
    ∷ handled 130 2 word.Request (Of (packet 3 0)) told.Hold 0 None
    ∷ handled 130 3 word.Request (Of (packet 1 0)) told.Back 0 None
    ∷ handled 130 3 word.Request (Of (packet 2 0)) told.Hold 0 None
    ∷ handled 140 0 word.Answer (Named (name 0 0 0)) told.Sent 0 (Some (packet 0 2))
    ∷ handled 150 1 word.Repair (Of (packet 0 2)) told.Fixed 0 None
    ∷ handled 150 2 word.Repair (Of (packet 0 2)) told.Fixed 0 None
    ∷ handled 150 3 word.Repair (Of (packet 0 2)) told.Fixed 0 None
    ∷ []

-- and its crossings
abbrev pub star_loss_at_the_source_totals : List ℕ
star_loss_at_the_source_totals = 1 ∷ 3 ∷ 1 ∷ 0 ∷ 1 ∷ 1 ∷ 3 ∷ 1 ∷ 0 ∷ 0 ∷ 1 ∷ 3 ∷ 1 ∷ 0 ∷ 0 ∷ 1 ∷ 3 ∷ 1 ∷ 0 ∷ 0 ∷ []

-- a loss at one member of a star: one request, three repairs: its trace
abbrev pub star_loss_at_one_member_trace : List Brief
star_loss_at_one_member_trace =
    handled 0 0 word.Join Nothing told.Entered 0 None
    ∷ handled 0 0 word.Draw (Named (name 0 0 0)) told.Sent 0 (Some (packet 0 0))
    ∷ handled 0 1 word.Join Nothing told.Entered 0 None
    ∷ handled 0 2 word.Join Nothing told.Entered 0 None
    ∷ handled 0 3 word.Join Nothing told.Entered 0 None
    ∷ handled 10 1 word.Data (Of (packet 0 0)) told.Fresh 0 None
    ∷ handled 10 2 word.Data (Of (packet 0 0)) told.Fresh 0 None
    ∷ handled 100 0 word.Draw (Named (name 0 0 1)) told.Sent 0 (Some (packet 0 1))
    ∷ handled 110 1 word.Data (Of (packet 0 1)) told.Fresh 0 None
    ∷ handled 110 2 word.Data (Of (packet 0 1)) told.Fresh 0 None
    ∷ handled 110 3 word.Data (Of (packet 0 1)) told.Fresh 1 None
    ∷ handled 120 3 word.Ask (Named (name 0 0 0)) told.Sent 0 (Some (packet 3 0))
    ∷ handled 130 0 word.Request (Of (packet 3 0)) told.Plan 0 None
    ∷ handled 130 1 word.Request (Of (packet 3 0)) told.Plan 0 None
    ∷ handled 130 2 word.Request (Of (packet 3 0)) told.Plan 0 None
    ∷ handled 140 0 word.Answer (Named (name 0 0 0)) told.Sent 0 (Some (packet 0 2))
    ∷ handled 140 1 word.Answer (Named (name 0 0 0)) told.Sent 0 (Some (packet 1 0))
    ∷ handled 140 2 word.Answer (Named (name 0 0 0)) told.Sent 0 (Some (packet 2 0))
    ∷ handled 140 3 word.Ask (Named (name 0 0 0)) told.Sent 0 (Some (packet 3 1))
    ∷ handled 150 0 word.Repair (Of (packet 1 0)) told.Again 0 None
    ∷ handled 150 0 word.Repair (Of (packet 2 0)) told.Again 0 None
    ∷ handled 150 0 word.Request (Of (packet 3 1)) told.Rest 0 None
    ∷ handled 150 1 word.Repair (Of (packet 0 2)) told.Again 0 None
    ∷ handled 150 1 word.Repair (Of (packet 2 0)) told.Again 0 None
    ∷ handled 150 1 word.Request (Of (packet 3 1)) told.Rest 0 None
    ∷ handled 150 2 word.Repair (Of (packet 0 2)) told.Again 0 None
    ∷ handled 150 2 word.Repair (Of (packet 1 0)) told.Again 0 None
    ∷ handled 150 2 word.Request (Of (packet 3 1)) told.Rest 0 None
    ∷ handled 150 3 word.Repair (Of (packet 0 2)) told.Fixed 0 None
    ∷ handled 150 3 word.Repair (Of (packet 1 0)) told.Again 0 None
    ∷ handled 150 3 word.Repair (Of (packet 2 0)) told.Again 0 None
    ∷ []

-- and its crossings
abbrev pub star_loss_at_one_member_totals : List ℕ
star_loss_at_one_member_totals = 2 ∷ 2 ∷ 3 ∷ 0 ∷ 0 ∷ 2 ∷ 2 ∷ 3 ∷ 0 ∷ 0 ∷ 2 ∷ 2 ∷ 3 ∷ 0 ∷ 0 ∷ 1 ∷ 2 ∷ 3 ∷ 0 ∷ 1 ∷ []

-- a receiver that leaves hears what arrives at that tick, and nothing more: its trace
abbrev pub receiver_that_leaves_trace : List Brief
receiver_that_leaves_trace =
    handled 0 0 word.Join Nothing told.Entered 0 None
    ∷ handled 0 0 word.Draw (Named (name 0 0 0)) told.Sent 0 (Some (packet 0 0))
    ∷ handled 0 1 word.Join Nothing told.Entered 0 None
    ∷ handled 1 1 word.Data (Of (packet 0 0)) told.Fresh 0 None
    ∷ handled 1 1 word.Leave Nothing told.Parted 0 None
    ∷ handled 10 0 word.Draw (Named (name 0 0 1)) told.Sent 0 (Some (packet 0 1))
    ∷ []

-- and its crossings
abbrev pub receiver_that_leaves_totals : List ℕ
receiver_that_leaves_totals = 2 ∷ 0 ∷ 0 ∷ 0 ∷ 0 ∷ []

-- and what its members end with
abbrev pub receiver_that_leaves_exits : List Exit
receiver_that_leaves_exits =
    an_exit 0 ((name 0 0 0, 7) ∷ (name 0 0 1, 8) ∷ []) [] ∷ an_exit 1 ((name 0 0 0, 7) ∷ []) [] ∷ []

-- a late joiner asks for the page that it wants, and not for the other: its trace
abbrev pub late_joiner_trace : List Brief
late_joiner_trace =
    handled 0 0 word.Join Nothing told.Entered 0 None
    ∷ handled 0 0 word.Draw (Named (name 0 0 0)) told.Sent 0 (Some (packet 0 0))
    ∷ handled 1 0 word.Draw (Named (name 0 1 0)) told.Sent 0 (Some (packet 0 1))
    ∷ handled 50 1 word.Join Nothing told.Entered 0 None
    ∷ handled 59 0 word.Report Nothing told.Sent 0 (Some (packet 0 2))
    ∷ handled 60 1 word.Session (Of (packet 0 2)) told.Heard 1 None
    ∷ handled 61 1 word.Ask (Named (name 0 1 0)) told.Sent 0 (Some (packet 1 0))
    ∷ handled 62 0 word.Request (Of (packet 1 0)) told.Plan 0 None
    ∷ handled 63 0 word.Answer (Named (name 0 1 0)) told.Sent 0 (Some (packet 0 3))
    ∷ handled 63 1 word.Ask (Named (name 0 1 0)) told.Sent 0 (Some (packet 1 1))
    ∷ handled 64 0 word.Request (Of (packet 1 1)) told.Rest 0 None
    ∷ handled 64 1 word.Repair (Of (packet 0 3)) told.Fixed 0 None
    ∷ handled 70 0 word.Draw (Named (name 0 0 1)) told.Sent 0 (Some (packet 0 4))
    ∷ handled 71 1 word.Data (Of (packet 0 4)) told.Fresh 0 None
    ∷ []

-- and its crossings
abbrev pub late_joiner_totals : List ℕ
late_joiner_totals = 3 ∷ 2 ∷ 1 ∷ 1 ∷ 0 ∷ []

-- and what its members end with
abbrev pub late_joiner_exits : List Exit
late_joiner_exits = an_exit 0 ((name 0 0 0, 7) ∷ (name 0 0 1, 9) ∷ (name 0 1 0, 8) ∷ []) []
    ∷ an_exit 1 ((name 0 0 1, 9) ∷ (name 0 1 0, 8) ∷ []) [] ∷ []

-- a session message reveals a loss: its trace
abbrev pub session_reveals_a_loss_trace : List Brief
session_reveals_a_loss_trace =
    handled 0 0 word.Join Nothing told.Entered 0 None
    ∷ handled 0 0 word.Draw (Named (name 0 0 0)) told.Sent 0 (Some (packet 0 0))
    ∷ handled 0 1 word.Join Nothing told.Entered 0 None
    ∷ handled 20 0 word.Report Nothing told.Sent 0 (Some (packet 0 1))
    ∷ handled 21 1 word.Session (Of (packet 0 1)) told.Heard 1 None
    ∷ handled 22 1 word.Ask (Named (name 0 0 0)) told.Sent 0 (Some (packet 1 0))
    ∷ handled 23 0 word.Request (Of (packet 1 0)) told.Plan 0 None
    ∷ handled 24 0 word.Answer (Named (name 0 0 0)) told.Sent 0 (Some (packet 0 2))
    ∷ handled 24 1 word.Ask (Named (name 0 0 0)) told.Sent 0 (Some (packet 1 1))
    ∷ handled 25 0 word.Request (Of (packet 1 1)) told.Rest 0 None
    ∷ handled 25 1 word.Repair (Of (packet 0 2)) told.Fixed 0 None
    ∷ handled 40 0 word.Report Nothing told.Sent 0 (Some (packet 0 3))
    ∷ handled 41 1 word.Session (Of (packet 0 3)) told.Heard 0 None
    ∷ []

-- and its crossings
abbrev pub session_reveals_a_loss_totals : List ℕ
session_reveals_a_loss_totals = 0 ∷ 2 ∷ 1 ∷ 2 ∷ 1 ∷ []

-- a sender and a listener: its trace
abbrev pub two_nodes_trace : List Brief
two_nodes_trace =
    handled 0 0 word.Join Nothing told.Entered 0 None
    ∷ handled 0 0 word.Draw (Named (name 0 0 0)) told.Sent 0 (Some (packet 0 0))
    ∷ handled 0 1 word.Join Nothing told.Entered 0 None
    ∷ handled 3 1 word.Data (Of (packet 0 0)) told.Fresh 0 None
    ∷ handled 5 0 word.Draw (Named (name 0 0 1)) told.Sent 0 (Some (packet 0 1))
    ∷ handled 8 1 word.Data (Of (packet 0 1)) told.Fresh 0 None
    ∷ []

-- and its crossings
abbrev pub two_nodes_totals : List ℕ
two_nodes_totals = 2 ∷ 0 ∷ 0 ∷ 0 ∷ 0 ∷ []

-- a loss that the data itself mends in the same tick: its trace
abbrev pub mended_by_the_data_itself_trace : List Brief
mended_by_the_data_itself_trace =
    handled 0 0 word.Join Nothing told.Entered 0 None
    ∷ handled 0 1 word.Join Nothing told.Entered 0 None
    ∷ handled 0 1 word.Draw (Named (name 1 0 0)) told.Sent 0 (Some (packet 1 0))
    ∷ handled 0 2 word.Join Nothing told.Entered 0 None
    ∷ handled 1 0 word.Data (Of (packet 1 0)) told.Fresh 0 None
    ∷ handled 1 0 word.Report Nothing told.Sent 0 (Some (packet 0 0))
    ∷ handled 2 1 word.Session (Of (packet 0 0)) told.Heard 0 None
    ∷ handled 2 2 word.Session (Of (packet 0 0)) told.Heard 1 None
    ∷ handled 2 2 word.Data (Of (packet 1 0)) told.Fixed 0 None
    ∷ []

-- and its crossings
abbrev pub mended_by_the_data_itself_totals : List ℕ
mended_by_the_data_itself_totals = 1 ∷ 0 ∷ 0 ∷ 1 ∷ 0 ∷ 1 ∷ 0 ∷ 0 ∷ 1 ∷ 0 ∷ []

-- a loss that a request reveals, which backs off at once: its trace
abbrev pub loss_learnt_from_a_request_trace : List Brief
loss_learnt_from_a_request_trace =
    handled 0 0 word.Join Nothing told.Entered 0 None
    ∷ handled 0 0 word.Draw (Named (name 0 0 0)) told.Sent 0 (Some (packet 0 0))
    ∷ handled 0 1 word.Join Nothing told.Entered 0 None
    ∷ handled 0 2 word.Join Nothing told.Entered 0 None
    ∷ handled 10 0 word.Draw (Named (name 0 0 1)) told.Sent 0 (Some (packet 0 1))
    ∷ handled 11 1 word.Data (Of (packet 0 1)) told.Fresh 1 None
    ∷ handled 12 1 word.Ask (Named (name 0 0 0)) told.Sent 0 (Some (packet 1 0))
    ∷ handled 13 0 word.Request (Of (packet 1 0)) told.Plan 0 None
    ∷ handled 13 2 word.Request (Of (packet 1 0)) told.Back 1 None
    ∷ handled 14 0 word.Answer (Named (name 0 0 0)) told.Sent 0 (Some (packet 0 2))
    ∷ handled 14 1 word.Ask (Named (name 0 0 0)) told.Sent 0 (Some (packet 1 1))
    ∷ handled 15 0 word.Request (Of (packet 1 1)) told.Rest 0 None
    ∷ handled 15 1 word.Repair (Of (packet 0 2)) told.Fixed 0 None
    ∷ handled 15 2 word.Request (Of (packet 1 1)) told.Back 0 None
    ∷ handled 16 2 word.Repair (Of (packet 0 2)) told.Fixed 0 None
    ∷ []

-- and its crossings
abbrev pub loss_learnt_from_a_request_totals : List ℕ
loss_learnt_from_a_request_totals = 1 ∷ 2 ∷ 1 ∷ 0 ∷ 1 ∷ 0 ∷ 2 ∷ 1 ∷ 0 ∷ 1 ∷ []

-- an outage of one tick, in which the first of two packets comes to the second link: its trace
abbrev pub outage_of_one_tick_trace : List Brief
outage_of_one_tick_trace =
    handled 0 0 word.Join Nothing told.Entered 0 None
    ∷ handled 0 0 word.Draw (Named (name 0 0 0)) told.Sent 0 (Some (packet 0 0))
    ∷ handled 0 1 word.Join Nothing told.Entered 0 None
    ∷ handled 0 2 word.Join Nothing told.Entered 0 None
    ∷ handled 5 1 word.Data (Of (packet 0 0)) told.Fresh 0 None
    ∷ handled 10 0 word.Draw (Named (name 0 0 1)) told.Sent 0 (Some (packet 0 1))
    ∷ handled 15 1 word.Data (Of (packet 0 1)) told.Fresh 0 None
    ∷ handled 20 2 word.Data (Of (packet 0 1)) told.Fresh 0 None
    ∷ []

-- and its crossings
abbrev pub outage_of_one_tick_totals : List ℕ
outage_of_one_tick_totals = 2 ∷ 0 ∷ 0 ∷ 0 ∷ 0 ∷ 1 ∷ 0 ∷ 0 ∷ 0 ∷ 1 ∷ []

-- a member that alone asks, and asks sooner at its next loss: its trace
abbrev pub request_timers_adapted_trace : List Brief
request_timers_adapted_trace =
    handled 0 0 word.Join Nothing told.Entered 0 None
    ∷ handled 0 0 word.Draw (Named (name 0 0 0)) told.Sent 0 (Some (packet 0 0))
    ∷ handled 0 1 word.Join Nothing told.Entered 0 None
    ∷ handled 0 2 word.Join Nothing told.Entered 0 None
    ∷ handled 1 0 word.Draw (Named (name 0 0 1)) told.Sent 0 (Some (packet 0 1))
    ∷ handled 20 1 word.Data (Of (packet 0 0)) told.Fresh 0 None
    ∷ handled 21 1 word.Data (Of (packet 0 1)) told.Fresh 0 None
    ∷ handled 41 2 word.Data (Of (packet 0 1)) told.Fresh 1 None
    ∷ handled 121 2 word.Ask (Named (name 0 0 0)) told.Sent 0 (Some (packet 2 0))
    ∷ handled 141 1 word.Request (Of (packet 2 0)) told.Plan 0 None
    ∷ handled 161 0 word.Request (Of (packet 2 0)) told.Plan 0 None
    ∷ handled 161 1 word.Answer (Named (name 0 0 0)) told.Sent 0 (Some (packet 1 0))
    ∷ handled 181 0 word.Repair (Of (packet 1 0)) told.Again 0 None
    ∷ handled 181 2 word.Repair (Of (packet 1 0)) told.Fixed 0 None
    ∷ handled 1000 0 word.Draw (Named (name 0 0 2)) told.Sent 0 (Some (packet 0 2))
    ∷ handled 1001 0 word.Draw (Named (name 0 0 3)) told.Sent 0 (Some (packet 0 3))
    ∷ handled 1020 1 word.Data (Of (packet 0 2)) told.Fresh 0 None
    ∷ handled 1021 1 word.Data (Of (packet 0 3)) told.Fresh 0 None
    ∷ handled 1041 2 word.Data (Of (packet 0 3)) told.Fresh 1 None
    ∷ handled 1119 2 word.Ask (Named (name 0 0 2)) told.Sent 0 (Some (packet 2 1))
    ∷ handled 1139 1 word.Request (Of (packet 2 1)) told.Plan 0 None
    ∷ handled 1159 0 word.Request (Of (packet 2 1)) told.Plan 0 None
    ∷ handled 1159 1 word.Answer (Named (name 0 0 2)) told.Sent 0 (Some (packet 1 1))
    ∷ handled 1179 0 word.Repair (Of (packet 1 1)) told.Again 0 None
    ∷ handled 1179 2 word.Repair (Of (packet 1 1)) told.Fixed 0 None
    ∷ []

-- and its crossings
abbrev pub request_timers_adapted_totals : List ℕ
request_timers_adapted_totals = 4 ∷ 2 ∷ 2 ∷ 0 ∷ 0 ∷ 2 ∷ 2 ∷ 2 ∷ 0 ∷ 2 ∷ []

-- and the constants of its members at the end
abbrev pub request_timers_adapted_constants : List Constants
request_timers_adapted_constants =
    thousandths 2000 0 1000 0 ∷ thousandths 2000 0 1000 0 ∷ thousandths 1900 0 1000 0 ∷ []

-- two members that answer together, and a third that hears both: its trace
abbrev pub repair_timers_adapted_trace : List Brief
repair_timers_adapted_trace =
    handled 0 0 word.Join Nothing told.Entered 0 None
    ∷ handled 0 0 word.Draw (Named (name 0 0 0)) told.Sent 0 (Some (packet 0 0))
    ∷ handled 0 1 word.Join Nothing told.Entered 0 None
    ∷ handled 0 2 word.Join Nothing told.Entered 0 None
    ∷ handled 0 3 word.Join Nothing told.Entered 0 None
    ∷ handled 1 0 word.Draw (Named (name 0 0 1)) told.Sent 0 (Some (packet 0 1))
    ∷ handled 40 1 word.Data (Of (packet 0 0)) told.Fresh 0 None
    ∷ handled 41 1 word.Data (Of (packet 0 1)) told.Fresh 0 None
    ∷ handled 41 3 word.Data (Of (packet 0 1)) told.Fresh 1 None
    ∷ handled 80 2 word.Data (Of (packet 0 0)) told.Fresh 0 None
    ∷ handled 81 2 word.Data (Of (packet 0 1)) told.Fresh 0 None
    ∷ handled 101 3 word.Ask (Named (name 0 0 0)) told.Sent 0 (Some (packet 3 0))
    ∷ handled 141 0 word.Request (Of (packet 3 0)) told.Plan 0 None
    ∷ handled 141 1 word.Request (Of (packet 3 0)) told.Plan 0 None
    ∷ handled 181 2 word.Request (Of (packet 3 0)) told.Plan 0 None
    ∷ handled 201 0 word.Answer (Named (name 0 0 0)) told.Sent 0 (Some (packet 0 2))
    ∷ handled 201 1 word.Answer (Named (name 0 0 0)) told.Sent 0 (Some (packet 1 0))
    ∷ handled 241 0 word.Repair (Of (packet 1 0)) told.Again 0 None
    ∷ handled 241 1 word.Repair (Of (packet 0 2)) told.Again 0 None
    ∷ handled 241 3 word.Repair (Of (packet 0 2)) told.Fixed 0 None
    ∷ handled 241 3 word.Repair (Of (packet 1 0)) told.Again 0 None
    ∷ handled 281 2 word.Repair (Of (packet 0 2)) told.Again 0 None
    ∷ handled 281 2 word.Repair (Of (packet 1 0)) told.Again 0 None
    ∷ handled 1000 0 word.Draw (Named (name 0 0 2)) told.Sent 0 (Some (packet 0 3))
    ∷ handled 1001 0 word.Draw (Named (name 0 0 3)) told.Sent 0 (Some (packet 0 4))
    ∷ handled 1040 1 word.Data (Of (packet 0 3)) told.Fresh 0 None
    ∷ handled 1041 1 word.Data (Of (packet 0 4)) told.Fresh 0 None
    ∷ handled 1041 3 word.Data (Of (packet 0 4)) told.Fresh 1 None
    ∷ handled 1080 2 word.Data (Of (packet 0 3)) told.Fresh 0 None
    ∷ handled 1081 2 word.Data (Of (packet 0 4)) told.Fresh 0 None
    ∷ handled 1101 3 word.Ask (Named (name 0 0 2)) told.Sent 0 (Some (packet 3 1))
    ∷ handled 1141 0 word.Request (Of (packet 3 1)) told.Plan 0 None
    ∷ handled 1141 1 word.Request (Of (packet 3 1)) told.Plan 0 None
    ∷ handled 1181 2 word.Request (Of (packet 3 1)) told.Plan 0 None
    ∷ handled 1199 0 word.Answer (Named (name 0 0 2)) told.Sent 0 (Some (packet 0 5))
    ∷ handled 1199 1 word.Answer (Named (name 0 0 2)) told.Sent 0 (Some (packet 1 1))
    ∷ handled 1239 0 word.Repair (Of (packet 1 1)) told.Again 0 None
    ∷ handled 1239 1 word.Repair (Of (packet 0 5)) told.Again 0 None
    ∷ handled 1239 3 word.Repair (Of (packet 0 5)) told.Fixed 0 None
    ∷ handled 1239 3 word.Repair (Of (packet 1 1)) told.Again 0 None
    ∷ handled 1279 2 word.Repair (Of (packet 0 5)) told.Again 0 None
    ∷ handled 1279 2 word.Repair (Of (packet 1 1)) told.Again 0 None
    ∷ []

-- and its crossings
abbrev pub repair_timers_adapted_totals : List ℕ
repair_timers_adapted_totals = 4 ∷ 2 ∷ 4 ∷ 0 ∷ 0 ∷ 4 ∷ 2 ∷ 4 ∷ 0 ∷ 0 ∷ 4 ∷ 2 ∷ 4 ∷ 0 ∷ 0 ∷ 2 ∷ 2 ∷ 4 ∷ 0 ∷ 2 ∷ []

-- and the constants of its members at the end
abbrev pub repair_timers_adapted_constants : List Constants
repair_timers_adapted_constants =
    thousandths 1500 0 1400 0 ∷ thousandths 1500 0 1400 0 ∷ thousandths 1500 0 1600 0 ∷ thousandths 1500 0 1500 0 ∷ []

-- two members that ask together, and a third that hears both: its trace
abbrev pub two_ask_together_trace : List Brief
two_ask_together_trace =
    handled 0 0 word.Join Nothing told.Entered 0 None
    ∷ handled 0 0 word.Draw (Named (name 0 0 0)) told.Sent 0 (Some (packet 0 0))
    ∷ handled 0 1 word.Join Nothing told.Entered 0 None
    ∷ handled 0 2 word.Join Nothing told.Entered 0 None
    ∷ handled 0 3 word.Join Nothing told.Entered 0 None
    ∷ handled 1 0 word.Draw (Named (name 0 0 1)) told.Sent 0 (Some (packet 0 1))
    ∷ handled 41 1 word.Data (Of (packet 0 1)) told.Fresh 1 None
    ∷ handled 41 2 word.Data (Of (packet 0 1)) told.Fresh 1 None
    ∷ handled 81 1 word.Ask (Named (name 0 0 0)) told.Sent 0 (Some (packet 1 0))
    ∷ handled 81 2 word.Ask (Named (name 0 0 0)) told.Sent 0 (Some (packet 2 0))
    ∷ handled 81 3 word.Data (Of (packet 0 1)) told.Fresh 1 None
    ∷ handled 121 0 word.Request (Of (packet 1 0)) told.Plan 0 None
    ∷ handled 121 0 word.Request (Of (packet 2 0)) told.Busy 0 None
    ∷ handled 121 1 word.Request (Of (packet 2 0)) told.Hold 0 None
    ∷ handled 121 2 word.Request (Of (packet 1 0)) told.Hold 0 None
    ∷ handled 141 0 word.Answer (Named (name 0 0 0)) told.Sent 0 (Some (packet 0 2))
    ∷ handled 161 3 word.Request (Of (packet 1 0)) told.Back 0 None
    ∷ handled 161 3 word.Request (Of (packet 2 0)) told.Hold 0 None
    ∷ handled 181 1 word.Repair (Of (packet 0 2)) told.Fixed 0 None
    ∷ handled 181 2 word.Repair (Of (packet 0 2)) told.Fixed 0 None
    ∷ handled 221 3 word.Repair (Of (packet 0 2)) told.Fixed 0 None
    ∷ handled 1000 0 word.Draw (Named (name 0 0 2)) told.Sent 0 (Some (packet 0 3))
    ∷ handled 1001 0 word.Draw (Named (name 0 0 3)) told.Sent 0 (Some (packet 0 4))
    ∷ handled 1041 1 word.Data (Of (packet 0 4)) told.Fresh 1 None
    ∷ handled 1041 2 word.Data (Of (packet 0 4)) told.Fresh 1 None
    ∷ handled 1079 1 word.Ask (Named (name 0 0 2)) told.Sent 0 (Some (packet 1 1))
    ∷ handled 1079 2 word.Ask (Named (name 0 0 2)) told.Sent 0 (Some (packet 2 1))
    ∷ handled 1081 3 word.Data (Of (packet 0 4)) told.Fresh 1 None
    ∷ handled 1119 0 word.Request (Of (packet 1 1)) told.Plan 0 None
    ∷ handled 1119 0 word.Request (Of (packet 2 1)) told.Busy 0 None
    ∷ handled 1119 1 word.Request (Of (packet 2 1)) told.Hold 0 None
    ∷ handled 1119 2 word.Request (Of (packet 1 1)) told.Hold 0 None
    ∷ handled 1139 0 word.Answer (Named (name 0 0 2)) told.Sent 0 (Some (packet 0 5))
    ∷ handled 1159 3 word.Request (Of (packet 1 1)) told.Back 0 None
    ∷ handled 1159 3 word.Request (Of (packet 2 1)) told.Hold 0 None
    ∷ handled 1179 1 word.Repair (Of (packet 0 5)) told.Fixed 0 None
    ∷ handled 1179 2 word.Repair (Of (packet 0 5)) told.Fixed 0 None
    ∷ handled 1219 3 word.Repair (Of (packet 0 5)) told.Fixed 0 None
    ∷ []

-- and its crossings
abbrev pub two_ask_together_totals : List ℕ
two_ask_together_totals = 2 ∷ 4 ∷ 2 ∷ 0 ∷ 2 ∷ 2 ∷ 4 ∷ 2 ∷ 0 ∷ 0 ∷ 2 ∷ 4 ∷ 2 ∷ 0 ∷ 0 ∷ 2 ∷ 4 ∷ 2 ∷ 0 ∷ 0 ∷ []

-- and the constants of its members at the end
abbrev pub two_ask_together_constants : List Constants
two_ask_together_constants =
    thousandths 1000 0 500 0 ∷ thousandths 900 0 500 0 ∷ thousandths 900 0 500 0 ∷ thousandths 1100 0 500 0 ∷ []
