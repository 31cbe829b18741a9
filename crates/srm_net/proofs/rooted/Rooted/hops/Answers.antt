use Rattle.std.proofs.Common.{◌≤◌, arith}
use Rattle.srm_net.specs.Limits.{most_nodes}
use Rattle.srm_net.proofs.HopLemmas.{few_links}
use Rattle.srm_net.proofs.Meetings.{hops_read}
use Rattle.srm_net.proofs.rooted.Rooted.hops.Goals as goal

pub overflow_sub-result : goal.overflow_sub-result
overflow_sub-result c =
    let q = c.requires.rooted in
    let all = hops_read q.0 c.args.self.now.positions.items c.args.from c.args.to c.position-here.result c.position-there.result
    c.meeting-meeting.result c.position-here.ensures c.position-there.ensures (c.meeting-meeting.ensures q.0 q.2 q.3 q.4) in
    omega arith

pub overflow_cast-result : goal.overflow_cast-result
overflow_cast-result c =
    let q = c.requires.rooted in
    let all = hops_read q.0 c.args.self.now.positions.items c.args.from c.args.to c.position-here.result c.position-there.result
    c.meeting-meeting.result c.position-here.ensures c.position-there.ensures (c.meeting-meeting.ensures q.0 q.2 q.3 q.4) in
    let few = few_links q.0 q.2.tree c.args.from c.args.to q.3 q.4 in
    let most : q.0.nodes ≤ most_nodes = q.2.tree.few_nodes in
    omega arith

pub returns : goal.returns
returns c w r hf ht =
    let all = hops_read w c.args.self.now.positions.items c.args.from c.args.to c.position-here.result c.position-there.result
    c.meeting-meeting.result c.position-here.ensures c.position-there.ensures (c.meeting-meeting.ensures w r hf ht) in
    omega arith
