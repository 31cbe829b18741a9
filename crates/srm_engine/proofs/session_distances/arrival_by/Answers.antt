use Rattle.std.proofs.Common.{◌∙◌, ◌+◌, Some, None, IfSome, if◌then◌else◌, get_or, sym, ap, subst, arith}
use Rattle.srm_scenario.specs.Presence.{is_present}
use Rattle.srm_engine.specs.Distances.{ComesEverywhereIn}
use Rattle.srm_engine.proofs.Everywhere.{distances_are_many, distance_is_short, handed_away}
use Rattle.srm_engine.proofs.session_distances.arrival_by.Goals as goal

pub bounds-distances-from : goal.bounds-distances-from
bounds-distances-from c =
    let at = c.args.session in
    let goes = subst (λ o. IfSome o (λ ds. ComesEverywhereIn at.net.now c.args.spread.now ds.now)) c.in-Some.is c.requires.distances in
    let many = distances_are_many at.scenario.now at.net.now at.network c.until-until.ensures.accepted.network c.args.packet.now
    c.args.spread.now c.requires.spread c.in-Some.distances.now goes in
    let from = c.from.ensures in
    let within = c.requires.member in
    omega arith

pub overflow_add-at : goal.overflow_add-at
overflow_add-at c =
    let at = c.args.session in
    let goes = subst (λ o. IfSome o (λ ds. ComesEverywhereIn at.net.now c.args.spread.now ds.now)) c.in-Some.is c.requires.distances in
    let short = distance_is_short at.scenario.now at.net.now at.network c.until-until.ensures.accepted.network c.args.packet.now
    c.args.spread.now c.requires.spread c.in-Some.distances.now goes c.args.member c.requires.member 0 c.requires.sender in
    let from = ap (λ m. get_or c.in-Some.distances.now m 0) c.from.ensures in
    let sent = c.requires.sent in
    omega arith

pub returns-then-is_present : goal.returns-then-is_present
returns-then-is_present c =
    let of = c.args.session in
    let goes = subst (λ o. IfSome o (λ ds. ComesEverywhereIn of.net.now c.args.spread.now ds.now)) c.in-Some.is c.requires.distances in
    let at = c.args.packet.now.sent + get_or c.in-Some.distances.now c.from.result 0 in
    let there = ap (λ u. is_present c.member.result.now.join c.member.result.now.leave u at) (sym c.until-until.ensures.until)
    ∙ sym c.is_present.ensures ∙ c.if-is_present.true in
    sym (handed_away of.scenario.now of.net.now of.network c.until-until.ensures.accepted.network c.args.packet.now
    c.args.spread.now c.requires.spread c.in-Some.distances.now goes c.args.member c.requires.member c.if-member-packet.false
    c.member.result.now c.member.ensures at (ap (λ m. c.args.packet.now.sent + get_or c.in-Some.distances.now m 0) c.from.ensures)
    ∙ ap (λ b. if b then Some at else None) there)

pub returns-else-is_present : goal.returns-else-is_present
returns-else-is_present c =
    let of = c.args.session in
    let goes = subst (λ o. IfSome o (λ ds. ComesEverywhereIn of.net.now c.args.spread.now ds.now)) c.in-Some.is c.requires.distances in
    let at = c.args.packet.now.sent + get_or c.in-Some.distances.now c.from.result 0 in
    let gone = ap (λ u. is_present c.member.result.now.join c.member.result.now.leave u at) (sym c.until-until.ensures.until)
    ∙ sym c.is_present.ensures ∙ c.if-is_present.false in
    sym (handed_away of.scenario.now of.net.now of.network c.until-until.ensures.accepted.network c.args.packet.now
    c.args.spread.now c.requires.spread c.in-Some.distances.now goes c.args.member c.requires.member c.if-member-packet.false
    c.member.result.now c.member.ensures at (ap (λ m. c.args.packet.now.sent + get_or c.in-Some.distances.now m 0) c.from.ensures)
    ∙ ap (λ b. if b then Some at else None) gone)
