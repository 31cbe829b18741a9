use Rattle.std.proofs.Common.{◌≡◌, drop, []}
use Rattle.srm_member.specs.React.{hear_session}
use Rattle.srm_member.proofs.member_state.MemberState.hear_session.Given as goal

-- the entries still to come
abbrev pub invariant-loop-entry : goal.invariant-loop-entry
invariant-loop-entry l = record {
  fixed : l.self.fixed ≡ l.fn.self.fixed;
  rest : hear_session l.at (drop l.entry-index l.heard) l.self l.lost ≡ hear_session l.at l.heard l.fn.self [];
}
