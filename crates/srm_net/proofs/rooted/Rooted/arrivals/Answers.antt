use Rattle.std.proofs.Common.{◌≡◌, ◌∙◌, ◌<◌, ℕ, List, Option, Some, ◌++◌, length, sym, ap, subst, arith, take, slice_get, slice_set}
use Rattle.std.proofs.lemmas.List.{take-append-le, take_all}
use Rattle.srm_net.specs.Paths.{takes_out}
use Rattle.srm_net.specs.Spreads.{TellsAbove, TellsArrivals}
use Rattle.srm_net.proofs.Lists.{get_set_same}
use Rattle.srm_net.proofs.rooted.Rooted.arrivals.Goals as goal

-- what was written over a whole list
whole : (n : ℕ) (xs zs : List (Option ℕ)) → length xs ≡ n → take n (xs ++ zs) ≡ xs
whole n xs zs e = take-append-le n xs zs (omega arith) ∙ take_all n xs (omega arith)

pub arrive_above-requires-clause-home : goal.arrive_above-requires-clause-home
arrive_above-requires-clause-home c =
    let q = c.requires.rooted in
    let size = c.in_ok-arrivals.ensures.len in
    let long : length c.args.self.now.positions.items ≡ q.0.nodes = q.2.rooted.long in
    let within : c.args.packet.from < q.0.nodes = q.3 in
    let count = c.len.ensures in
    let there : c.args.packet.from < length c.in_ok-arrivals.arrivals.items =
    omega (arith, c.args.self.now.positions.ok.0, c.in_ok-arrivals.arrivals.ok.0) in
    ap (λ es. slice_get es c.args.packet.from) c.as_mut_slice.ensures.value
    ∙ ap (λ i. slice_get (slice_set c.in_ok-arrivals.arrivals.items i (Some c.args.packet.sent)) c.args.packet.from) c.from.ensures
    ∙ get_set_same c.in_ok-arrivals.arrivals.items c.args.packet.from (Some c.args.packet.sent) there

pub arrive_below-requires-clause-rooted : goal.arrive_below-requires-clause-rooted
arrive_below-requires-clause-rooted c =
    let q = c.requires.rooted in
    let out = takes_out c.args.drops.now c.args.packet.id in
    let ps = c.args.self.now.positions.items in
    let new = c.arrive_above.new.arrivals in
    let size = c.in_ok-arrivals.ensures.len in
    let long : length ps ≡ q.0.nodes = q.2.rooted.long in
    let count = c.len.ensures in
    let above : TellsAbove q.0 ps out c.args.packet.from c.args.packet.sent new = c.arrive_above.ensures q.0 q.2.rooted q.3 in
    let all : length new ≡ q.0.nodes = above.nodes in
    let full : length new ≡ c.in_ok-arrivals.arrivals.len =
    omega (arith, c.args.self.now.positions.ok.0, c.in_ok-arrivals.arrivals.ok.0) in
    let kept : c.as_mut_slice-2.result.now ≡ new = c.as_mut_slice-2.ensures.value
    ∙ whole c.in_ok-arrivals.arrivals.len new _ full in
    (q.0, q.1, q.2, q.3, subst (TellsAbove q.0 ps out c.args.packet.from c.args.packet.sent) (sym kept) above)

pub returns : goal.returns
returns c w tree hf =
    let out = takes_out c.args.drops.now c.args.packet.id in
    let ps = c.args.self.now.positions.items in
    let new = c.arrive_above.new.arrivals in
    let last = c.arrive_below.new.arrivals in
    let size = c.in_ok-arrivals.ensures.len in
    let long : length ps ≡ w.nodes = tree.rooted.long in
    let count = c.len.ensures in
    let above : TellsAbove w ps out c.args.packet.from c.args.packet.sent new = c.arrive_above.ensures w tree.rooted hf in
    let all : length new ≡ w.nodes = above.nodes in
    let full : length new ≡ c.in_ok-arrivals.arrivals.len =
    omega (arith, c.args.self.now.positions.ok.0, c.in_ok-arrivals.arrivals.ok.0) in
    let kept : c.as_mut_slice-2.result.now ≡ new = c.as_mut_slice-2.ensures.value
    ∙ whole c.in_ok-arrivals.arrivals.len new _ full in
    let told : TellsArrivals w out c.args.packet.from c.args.packet.sent last =
    c.arrive_below.ensures w tree hf (subst (TellsAbove w ps out c.args.packet.from c.args.packet.sent) (sym kept) above) in
    let every : length last ≡ w.nodes = told.nodes in
    subst (TellsArrivals w out c.args.packet.from c.args.packet.sent) (sym (whole c.in_ok-arrivals.arrivals.len last _ (omega arith))) told
