use Rattle.std.proofs.Common.{◌≡◌, ◌∙◌, ◌<◌, Some, refl, sym, ap, subst, take, length, add-one}
use Rattle.std.proofs.lemmas.List.{take_all}
use Rattle.srm_cell.specs.Setting.{arrival_of, traffic_of}
use Rattle.srm_cell.specs.Flights.{BringsNone}
use Rattle.srm_cell.specs.Cells.{OwnCell, PlainCell, hear_at}
use Rattle.srm_cell.specs.Views.{plain_cell}
use Rattle.srm_cell.specs.Hearing.{packets_in, hear_all, HearsAll}
use Rattle.srm_cell.proofs.Hearings.{hears_not, hears_at, hears_next, is_new}
use Rattle.srm_cell.proofs.cell.Cell.hear.Goals.{in-Some+in-Ok, in_default}
use Rattle.srm_cell.proofs.cell.Cell.hear.Goals as goal

pub loop-one-init : goal.loop-one-init
loop-one-init g c = λ h. record { sound = h; is = refl }

pub arrival-requires-clause-member : goal.arrival-requires-clause-member
arrival-requires-clause-member g c =
    let may = c.requires.new in
    subst (λ n. n < length c.args.session.scenario.now.members) (sym (ap (λ (q : OwnCell). q.member)
    (c.loop-one.invariant may.sound).is)) may.member

pub accept-requires : goal.accept-requires
accept-requires g c =
    let may = c.requires.new in
    let t = traffic_of c.args.session.scenario.now c.args.session.net.now in
    subst (BringsNone c.one-item.result.packet.id) (sym (ap (λ (q : OwnCell). q.cell.inbox) (c.loop-one.invariant may.sound).is))
    (is_new t c.args.self.now.number c.loop-one.one-index c.args.sent.now c.one-item.result
    (plain_cell g.M.Participant.plain c.args.self.now) may.new c.loop-one-test.true c.one-item.is)

pub loop-one-preserved : goal.loop-one-preserved
loop-one-preserved g c = λ h.
    let t = traffic_of c.args.session.scenario.now c.args.session.net.now in
    let i = c.loop-one.one-index in
    let x = c.one-item.result in
    let m = c.args.self.now.number in
    let p = plain_cell g.M.Participant.plain c.args.self.now in
    let was = hear_all t m (packets_in (take i c.args.sent.now)) p in
    let now = c.loop-one.invariant h in
    let flight : arrival_of t x.packet m ≡ c.arrival.result =
    ap (λ (q : OwnCell). arrival_of t x.packet q.member) (sym now.is) ∙ sym c.arrival.ensures in
    let next = ap (λ k. hear_all t m (packets_in (take k c.args.sent.now)) p) (add-one i)
    ∙ hears_next t m i c.args.sent.now x p c.loop-one-test.true c.one-item.is in
    elim c.match-arrival.branch [
      | in-Some+in-Ok w ↦ rw w.self-is (
          let heard = w.in-Ok.ensures.ok now.sound in record {
            sound = heard.sound;
            is = heard.is ∙ ap (λ (q : OwnCell). record { member = q.member; cell = hear_at x.packet (Some w.in-Some.at) q.cell }) now.is
                ∙ ap (λ (q : PlainCell). record { member = m; cell = q })
                (sym (hears_at t x.packet m w.in-Some.at was (flight ∙ w.in-Some.is)) ∙ sym next);
          }
          )
      | in_default w ↦ rw w.self-is (record {
        sound = now.sound;
        is = now.is ∙ ap (λ (q : PlainCell). record { member = m; cell = q })
            (sym (hears_not t x.packet m was (flight ∙ w.in_default.is)) ∙ sym next);
      })
    ]

pub returns : goal.returns
returns g c = subst (λ xs. HearsAll g.M.Participant.plain (traffic_of c.args.session.scenario.now c.args.session.net.now) (packets_in xs)
    c.args.self.now c.loop-one.self) (take_all c.loop-one.one-index c.args.sent.now c.loop-one-test.false) c.loop-one.invariant
