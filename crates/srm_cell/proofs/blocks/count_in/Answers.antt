use Rattle.std.proofs.Common.{◌<◌, length, ap, arith}
use Rattle.std.proofs.lemmas.List.{take_all}
use Rattle.srm_cell.specs.Flights.{arriving_before}
use Rattle.srm_cell.specs.Lines.{in_blocks}
use Rattle.srm_cell.proofs.Arrivals.{block_rises, arriving_one_more, arriving_in_all}
use Rattle.srm_cell.proofs.blocks.count_in.Goals as goal

pub count_before-here-requires : goal.count_before-here-requires
count_before-here-requires c =
    let blocks = c.args.blocks.now in
    let many = blocks.ok.0 in
    let end = c.len-i-end.ensures in
    let more = c.loop-i-test.true in
    block_rises blocks.items c.loop-i.i c.index-block.result.now (omega arith) c.index-block.ensures c.requires

pub loop-i-preserved : goal.loop-i-preserved
loop-i-preserved c =
    let blocks = c.args.blocks.now in
    let many = blocks.ok.0 in
    let end = c.len-i-end.ensures in
    let within : c.loop-i.i < length blocks.items = omega arith in
    let more = arriving_one_more blocks.items c.loop-i.i c.index-block.result.now within c.index-block.ensures c.args.till in
    let here = c.count_before-here.ensures in
    let so_far = c.loop-i.invariant in
    let sum = c.saturating_add-count.ensures in
    omega arith

pub returns-then-here-len : goal.returns-then-here-len
returns-then-here-len c =
    let blocks = c.args.blocks.now in
    let block = c.index-block.result.now in
    let many = blocks.ok.0 in
    let end = c.len-i-end.ensures in
    let within : c.loop-i.i < length blocks.items = omega arith in
    let here = c.count_before-here.ensures in
    let len = c.len.ensures in
    let long = block.ok.0 in
    let fewer = c.if-here-len.true in
    let all = arriving_in_all blocks.items c.loop-i.i block within c.index-block.ensures c.args.till c.requires (omega arith) in
    let so_far = c.loop-i.invariant in
    let sum = c.saturating_add-count.ensures in
    omega arith

pub returns : goal.returns
returns c =
    let blocks = c.args.blocks.now in
    let many = blocks.ok.0 in
    let end = c.len-i-end.ensures in
    let last = c.loop-i-test.false in
    let all = ap (λ l. arriving_before c.args.till (in_blocks l)) (take_all c.loop-i.i blocks.items (omega arith)) in
    let so_far = c.loop-i.invariant in
    omega arith
