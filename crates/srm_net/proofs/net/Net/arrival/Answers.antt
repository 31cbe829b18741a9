use Rattle.std.proofs.Common.{◌∙◌, sym, ap, Some, None, slice_index_or, ◌+◌, ◌&&◌, if◌then◌else◌}
use Rattle.srm_net.specs.Paths.{distance, reaches}
use Rattle.srm_net.specs.Spreads.{PlainSpread, comes_in}
use Rattle.srm_net.proofs.SpreadLemmas.{reaches_by, arrival_told, arrival_everywhere}
use Rattle.srm_net.proofs.net.Net.arrival.Goals as goal

pub returns-then-not-is_near : goal.returns-then-not-is_near
returns-then-not-is_near c rules p scope is =
    let w = c.args.self.now in
    let m = c.args.m in
    sym (ap (λ b. if b then Some (c.args.sent + distance w p.sender m) else None)
    (reaches_by w rules p c.args.sent scope m c.is_near.result (c.is_near.ensures rules p c.args.sent scope is)
    ∙ ap (λ b. b && reaches w rules p c.args.sent None m) c.if-not-is_near.true))

pub returns-in_default : goal.returns-in_default
returns-in_default c rules p scope is =
    let w = c.args.self.now in
    let s = c.args.spread.now in
    let all = ap (λ (x : PlainSpread). x.comes) (sym c.spread.view_is) ∙ ap (comes_in c.spread.inside.nodes) c.in_default.is in
    ap (λ d. Some (c.args.sent + d)) (c.distance.ensures.value ∙ ap (λ a. distance w a c.args.m) c.sender.ensures)
    ∙ arrival_everywhere w c.distance.ensures.network s rules p c.args.sent scope is c.spread.inside.nodes all c.args.m c.requires.member
    ∙ sym (ap (λ b. if b then Some (c.args.sent + distance w p.sender c.args.m) else None)
    (reaches_by w rules p c.args.sent scope c.args.m c.is_near.result (c.is_near.ensures rules p c.args.sent scope is)
    ∙ ap (λ b. b && reaches w rules p c.args.sent None c.args.m) c.if-not-is_near.false))

pub returns : goal.returns
returns c rules p scope is =
    let w = c.args.self.now in
    let s = c.args.spread.now in
    let told = ap (λ (x : PlainSpread). x.arrivals) (sym c.spread.view_is) ∙ c.in-Some.is in
    ap (λ i. slice_index_or c.as_slice.result.now i None) c.from.ensures
    ∙ ap (λ xs. slice_index_or xs c.host.result None) c.as_slice.ensures
    ∙ arrival_told w s rules p c.args.sent scope is c.in-Some.arrivals told c.args.m c.host.result
    c.host.ensures.value c.host.ensures.node
    ∙ sym (ap (λ b. if b then Some (c.args.sent + distance w p.sender c.args.m) else None)
    (reaches_by w rules p c.args.sent scope c.args.m c.is_near.result (c.is_near.ensures rules p c.args.sent scope is)
    ∙ ap (λ b. b && reaches w rules p c.args.sent None c.args.m) c.if-not-is_near.false))
