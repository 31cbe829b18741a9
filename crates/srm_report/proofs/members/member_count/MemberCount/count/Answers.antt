use Rattle.srm_report.proofs.members.member_count.MemberCount.count.Goals as goal

pub invariant_of-self : goal.invariant_of-self
invariant_of-self c = record { bound = c.add.ensures.bound c.args.self.now.taken c.args.self.now.bound }
