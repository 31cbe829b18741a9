use Rattle.std.proofs.Common.{◌≡◌, ◌<◌, sym, ◌∙◌, ap, subst, length, slice_get, slice_set, Some, IfSome, arith, le_refl}
use Rattle.std.proofs.lemmas.List.{length-map}
use Rattle.srm_scenario.specs.declared.session.Session.{Session}
use Rattle.srm_cell.specs.Setting.{arrival_of, traffic_of, IsSpreadOf}
use Rattle.srm_cell.specs.Cells.{hear_at}
use Rattle.srm_cell.specs.Views.{plain_cell}
use Rattle.srm_cell.proofs.Hearings.{hears_not, hears_at}
use Rattle.srm_model.specs.Hearing.{heard_below}
use Rattle.srm_engine.specs.Seen.{ShowCells, shown_in}
use Rattle.srm_engine.specs.Engines.{traffic_in}
use Rattle.srm_engine.specs.Distances.{ComesEverywhereIn}
use Rattle.srm_engine.proofs.Hearing.{none_heard, length_heard, get_next, heard_next}
use Rattle.srm_engine.proofs.SeenLemmas.{map_get, set_same, shown_many, times_many}
use Rattle.srm_engine.proofs.simulation.Simulation.deliver.Goals.{in-Some+in_ok-hand, in_default}
use Rattle.srm_engine.proofs.simulation.Simulation.deliver.Goals as goal
use Rattle.srm_net.proofs.Lists.{below_get}

pub loop-member-init : goal.loop-member-init
loop-member-init g c = λ h. (
  h,
  sym (none_heard (traffic_in c.args.self.now) c.args.packet.now 0 0
      (shown_in g.M.Participant.plain c.args.self.now.cells) (le_refl 0)),
)

pub note-requires : goal.note-requires
note-requires g c =
    let sender = c.requires.may.sender in
    let of = c.args.self.now.session.network in
    grind (arith, length-map)

pub arrival_by-requires-clause-spread : goal.arrival_by-requires-clause-spread
arrival_by-requires-clause-spread g c =
    subst (λ (at : Session). IsSpreadOf at.net.now at.scenario.now.drops c.args.packet.now c.args.spread.now)
    (sym (c.as_session-session.ensures ∙ c.note.ensures)) c.requires.spread

pub arrival_by-requires-clause-distances : goal.arrival_by-requires-clause-distances
arrival_by-requires-clause-distances g c =
    subst (λ (at : Session). IfSome c.distances_for-distances.result (λ ds. ComesEverywhereIn at.net.now c.args.spread.now ds.now))
    (sym c.as_session-session.ensures) c.distances_for-distances.ensures

pub arrival_by-requires-clause-sender : goal.arrival_by-requires-clause-sender
arrival_by-requires-clause-sender g c =
    subst (λ (at : Session). c.args.packet.now.id.sender < length at.scenario.now.members)
    (sym (c.as_session-session.ensures ∙ c.note.ensures)) c.requires.may.sender

pub hand-requires-clause-cell : goal.hand-requires-clause-cell
hand-requires-clause-cell g c =
    let f = g.M.Participant.plain in
    let all_are = ap (λ (at : Session). length at.scenario.now.members) (c.as_session-session.ensures ∙ c.note.ensures) in
    let n = c.requires.may in
    let many = shown_many f c.loop-member.cells _ (c.loop-member.invariant n.whole) in
    let same = length_heard (traffic_in c.args.self.now) c.args.packet.now c.loop-member.member 0 (shown_in f c.args.self.now.cells) in
    let members = n.members in
    omega arith

pub hand-requires-clause-time : goal.hand-requires-clause-time
hand-requires-clause-time g c =
    let f = g.M.Participant.plain in
    let all_are = ap (λ (at : Session). length at.scenario.now.members) (c.as_session-session.ensures ∙ c.note.ensures) in
    let n = c.requires.may in
    let seen = c.loop-member.invariant n.whole in
    let many = shown_many f c.loop-member.cells _ seen in
    let times = times_many f c.loop-member.cells seen.0 in
    let same = length_heard (traffic_in c.args.self.now) c.args.packet.now c.loop-member.member 0 (shown_in f c.args.self.now.cells) in
    let members = n.members in
    omega arith

pub hand-requires-clause-new : goal.hand-requires-clause-new
hand-requires-clause-new g c = λ cell at.
    let f = g.M.Participant.plain in
    let n = c.requires.may in
    let m = c.loop-member.member in
    let all = shown_in f c.args.self.now.cells in
    let heard = (c.loop-member.invariant n.whole).1 in
    n.new m (plain_cell f cell)
    (sym (get_next (traffic_in c.args.self.now) c.args.packet.now m all) ∙ ap (λ l. slice_get l m) (sym heard)
    ∙ map_get (plain_cell f) c.loop-member.cells.cells.items m cell at)

pub loop-member-preserved : goal.loop-member-preserved
loop-member-preserved g c =
    let f = g.M.Participant.plain in
    let i = c.loop-member.invariant in
    let t = traffic_in c.args.self.now in
    let p = c.args.packet.now in
    let m = c.loop-member.member in
    let cells = c.loop-member.cells in
    let all = shown_in f c.args.self.now.cells in
    let heard = heard_below t p m 0 all in
    let all_are = ap (λ (at : Session). length at.scenario.now.members) (c.as_session-session.ensures ∙ c.note.ensures) in
    let of = c.args.self.now.session in
    let flight : arrival_of t p m ≡ c.arrival_by.result =
    sym (ap (λ n. arrival_of (traffic_of of.scenario.now n) p m) of.network)
    ∙ sym (ap (λ (at : Session). arrival_of (traffic_of at.scenario.now at.net.now) p m) (c.as_session-session.ensures ∙ c.note.ensures))
    ∙ sym c.arrival_by.ensures in
    elim c.match-arrival_by.branch [
      | in-Some+in_ok-hand w ↦ rw w.cells-is (λ h.
          let seen = i h in
          let members = c.requires.may.members in
          let many = shown_many f cells heard seen in
          let same = length_heard t p m 0 all in
          let x = below_get cells.cells.items m (omega arith) in
          let q = plain_cell f x.0 in
          let here = sym (get_next t p m all) ∙ ap (λ l. slice_get l m) (sym seen.1)
          ∙ map_get (plain_cell f) cells.cells.items m x.0 x.1 in
          let r = w.in_ok-hand.ensures seen.0 x.0 x.1 in (
            r.0,
            r.1 ∙ (λ j. slice_set (seen.1 j) m (hear_at p (Some w.in-Some.at) q))
                ∙ ap (slice_set heard m) (sym (hears_at t p m w.in-Some.at q (flight ∙ w.in-Some.is))) ∙ heard_next t p m all q here,
          ))
      | in_default w ↦ rw w.cells-is (λ h.
          let seen = i h in
          let members = c.requires.may.members in
          let within : m < length all = omega arith in
          let q = below_get all m within in (
            seen.0,
            seen.1 ∙ sym (set_same heard m q.0 (get_next t p m all ∙ q.1))
                ∙ ap (slice_set heard m) (sym (hears_not t p m q.0 (flight ∙ w.in_default.is))) ∙ heard_next t p m all q.0 q.1,
          ))
    ]

pub returns-clause-heard : goal.returns-clause-heard
returns-clause-heard g c = λ h.
    let f = g.M.Participant.plain in
    let all = shown_in f c.args.self.now.cells in
    let members = c.requires.may.members in
    let all_are = ap (λ (at : Session). length at.scenario.now.members) (c.as_session-session.ensures ∙ c.note.ensures) in
    let end : c.loop-member.member ≡ length all = omega arith in
    subst (λ n. ShowCells f c.loop-member.cells (heard_below (traffic_in c.args.self.now) c.args.packet.now n 0 all)) end
    (c.loop-member.invariant h)
