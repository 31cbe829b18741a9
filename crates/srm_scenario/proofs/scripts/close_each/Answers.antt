use Rattle.std.proofs.Common.{◌∙◌, arith}
use Rattle.srm_scenario.proofs.ScriptLists.{closed_more}
use Rattle.srm_scenario.proofs.scripts.close_each.Goals as goal

pub loop-m-preserved : goal.loop-m-preserved
loop-m-preserved c =
    let same = c.requires in
    let many = c.loop-m.auto.scripts in
    let test = c.loop-m-test.true in
    closed_more c.args.members.now c.loop-m.m c.index-members-m.result c.loop-m.scripts c.close.new.marks c.index-scripts-m.result
    test c.index-members-m.is (omega (arith, same, many, test)) c.in_ok-close.ensures
    ∙ c.loop-m.invariant
