use Rattle.std.proofs.Common.{◌≡◌, ◌-◌, ◌++◌}
use Rattle.srm_member.specs.React.{lose_from, names_from}
use Rattle.srm_member.proofs.member_state.MemberState.lose_from.Given as goal

-- what is still to be lost
abbrev pub invariant-loop-number : goal.invariant-loop-number
invariant-loop-number l = record {
  fixed : l.self.fixed ≡ l.fn.self.fixed;
  self : lose_from l.at l.page (l.to - l.number) l.number l.self ≡ lose_from l.at l.page (l.to - l.from) l.from l.fn.self;
  lost : l.lost ++ names_from l.page (l.to - l.number) l.number ≡ l.fn.lost ++ names_from l.page (l.to - l.from) l.from;
}
