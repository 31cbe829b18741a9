use Rattle.std.proofs.Common.{rules, ◌<◌, ◌≤◌, ℕ, length, arith}
use Rattle.srm_engine.proofs.Index.{few_numbers, leaves_stand}
use Rattle.srm_engine.proofs.next_times.leaves.Goals as goal

pub overflow_cast-member : goal.overflow_cast-member
overflow_cast-member c =
    let p = c.next_power_of_two-size.ensures in
    let few : c.next_power_of_two-size.result ≤ 65536 =
    few_numbers (length c.args.times.now) c.next_power_of_two-size.result p.power c.requires p.upper_bound in
    let lt = c.loop-member-test.true in
    let small : c.loop-member.member < 65536 = omega arith in
    search rules

pub returns : goal.returns
returns c =
    let p = c.next_power_of_two-size.ensures in
    let size : ℕ = c.next_power_of_two-size.result in
    let i = c.loop-member.invariant in
    let end = c.loop-member.auto.member-end in
    let ended = c.loop-member-test.false in
    leaves_stand c.args.times.now c.loop-member.words.items size p.power c.requires p.lower_bound p.upper_bound i.size
    (λ m lt. i.each m (omega arith))
