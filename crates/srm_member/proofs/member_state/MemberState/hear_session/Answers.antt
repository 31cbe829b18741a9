use Rattle.std.proofs.Common.{sym, ap, ◌∙◌, []}
use Rattle.std.proofs.lemmas.Result.{IfOk-weaker}
use Rattle.srm_member.specs.Fit.{Gives}
use Rattle.srm_member.specs.React.{hear_session}
use Rattle.srm_member.proofs.Losses.{hear_session-turn, hear_session-end}
use Rattle.srm_member.proofs.member_state.MemberState.hear_session.Goals as goal

pub loop-entry-preserved : goal.loop-entry-preserved
loop-entry-preserved c = record {
  fixed = c.in_ok-after_entry.ensures.fixed ∙ c.loop-entry.invariant.fixed;
  rest = hear_session-turn c.args.at c.args.heard.now c.loop-entry.entry-index _ c.loop-entry.self c.after_entry.new.self c.loop-entry.lost
      c.after_entry.new.lost c.loop-entry-test.true c.in_ok-after_entry.ensures.ok c.in_ok-after_entry.ensures.names
      ∙ c.loop-entry.invariant.rest;
}

pub returns : goal.returns
returns c =
    let last = sym c.loop-entry.invariant.rest ∙ hear_session-end c.args.at c.args.heard.now c.loop-entry.entry-index c.loop-entry.self
    c.loop-entry.lost c.loop-entry-test.false in
    record {
      ok = IfOk-weaker c.losing.result _ (λ a. Gives a c.loop-entry.self (hear_session c.args.at c.args.heard.now c.args.self.now []))
          (λ a is. (is ∙ sym (ap (λ r. r.answer) last), sym (ap (λ r. r.state) last))) c.losing.ensures.ok;
      fixed = c.loop-entry.invariant.fixed;
    }
