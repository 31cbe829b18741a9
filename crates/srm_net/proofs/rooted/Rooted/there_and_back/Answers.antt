use Rattle.std.proofs.Common.{arith}
use Rattle.srm_net.proofs.Meetings.{ways_read}
use Rattle.srm_net.proofs.rooted.Rooted.there_and_back.Goals as goal

pub overflow_add-shared : goal.overflow_add-shared
overflow_add-shared c =
    let q = c.requires.rooted in
    let ways = ways_read q.0 _ q.2 q.3 q.4 c.position-here.ensures c.position-there.ensures (c.meeting-meeting.ensures q.0 q.2 q.3 q.4) in
    omega (arith, ways.there, (ways.few q.1).0)

pub overflow_add-forth : goal.overflow_add-forth
overflow_add-forth c =
    let q = c.requires.rooted in
    let ways = ways_read q.0 _ q.2 q.3 q.4 c.position-here.ensures c.position-there.ensures (c.meeting-meeting.ensures q.0 q.2 q.3 q.4) in
    omega (arith, (ways.few q.1).0)

pub overflow_sub-forth : goal.overflow_sub-forth
overflow_sub-forth c =
    let q = c.requires.rooted in
    let ways = ways_read q.0 _ q.2 q.3 q.4 c.position-here.ensures c.position-there.ensures (c.meeting-meeting.ensures q.0 q.2 q.3 q.4) in
    omega (arith, ways.there)

pub overflow_add-back : goal.overflow_add-back
overflow_add-back c =
    let q = c.requires.rooted in
    let ways = ways_read q.0 _ q.2 q.3 q.4 c.position-here.ensures c.position-there.ensures (c.meeting-meeting.ensures q.0 q.2 q.3 q.4) in
    omega (arith, (ways.few q.1).1)

pub overflow_sub-back : goal.overflow_sub-back
overflow_sub-back c =
    let q = c.requires.rooted in
    let ways = ways_read q.0 _ q.2 q.3 q.4 c.position-here.ensures c.position-there.ensures (c.meeting-meeting.ensures q.0 q.2 q.3 q.4) in
    omega (arith, ways.back)

pub returns : goal.returns
returns c w r hf ht =
    let ways = ways_read w _ r hf ht c.position-here.ensures c.position-there.ensures (c.meeting-meeting.ensures w r hf ht) in
    (omega (arith, ways.there), omega (arith, ways.back))
