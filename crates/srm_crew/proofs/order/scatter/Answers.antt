use Rattle.std.proofs.Common.{◌≡◌, length, ◌∙◌, arith}
use Rattle.srm_crew.proofs.Ordering.{one_step}
use Rattle.srm_crew.proofs.order.scatter.Goals as goal

pub index_mut-requires : goal.index_mut-requires
index_mut-requires g c =
    let s = one_step c.args.indices.now c.args.results.items c.loop-last.results.items c.pop.new.self.items c.loop-last.invariant.rest.0
    c.in-Some.last c.loop-last.slots.items c.requires.once c.requires.indices c.loop-last.invariant.long
    c.loop-last.invariant.rest.1 c.in-Some.ensures.items c.loop-last.invariant.filled in
    let near = s.near in
    let at : c.len.result ≡ length c.pop.new.self.items = c.len.ensures ∙ c.pop.new.self.ok.0 in
    rw at (omega (arith, near))

pub loop-last-preserved-in-Some : goal.loop-last-preserved-in-Some
loop-last-preserved-in-Some g c =
    let s = one_step c.args.indices.now c.args.results.items c.loop-last.results.items c.pop.new.self.items c.loop-last.invariant.rest.0
    c.in-Some.last c.loop-last.slots.items c.requires.once c.requires.indices c.loop-last.invariant.long
    c.loop-last.invariant.rest.1 c.in-Some.ensures.items c.loop-last.invariant.filled in
    let at : c.len.result ≡ length c.pop.new.self.items = c.len.ensures ∙ c.pop.new.self.ok.0 in
    rw at (record { rest = s.rest; long = s.long; filled = s.filled })

pub loop-last-preserved : goal.loop-last-preserved
loop-last-preserved g c =
    let s = one_step c.args.indices.now c.args.results.items c.loop-last.results.items c.pop.new.self.items c.loop-last.invariant.rest.0
    c.in-Some.last c.loop-last.slots.items c.requires.once c.requires.indices c.loop-last.invariant.long
    c.loop-last.invariant.rest.1 c.in-Some.ensures.items c.loop-last.invariant.filled in
    let at : c.len.result ≡ length c.pop.new.self.items = c.len.ensures ∙ c.pop.new.self.ok.0 in
    rw at (record { rest = s.rest; long = s.long; filled = s.filled })
