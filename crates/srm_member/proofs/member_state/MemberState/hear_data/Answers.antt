use Rattle.std.proofs.Common.{◌≡◌, ◌∙◌, ◌+◌, sym, ap, arith}
use Rattle.std.specs.FinMap.Entries.{put}
use Rattle.srm_net.specs.Names.{name_cmp, page_cmp}
use Rattle.srm_member.specs.Record.{MemberState}
use Rattle.srm_member.specs.React.{Reaction, meet}
use Rattle.srm_member.proofs.Losses.{hear_data-next}
use Rattle.srm_member.proofs.member_state.MemberState.hear_data.Goals as goal

pub returns-then-number-next : goal.returns-then-number-next
returns-then-number-next c =
    let turn = hear_data-next c.args.at c.args.name c.args.ink c.args.repaired c.args.self.now c.meet-progress.result
    (c.meet-progress.ensures.value ∙ (λ i. meet c.args.self.now (c.page_of-page.ensures i) (c.from-number.ensures i)))
    (omega arith) (omega arith) in
    let entry : c.new.result ≡ record { floor = c.meet-progress.result.floor; next = c.args.name.number + 1 } =
    c.new.ensures ∙ (λ i. record { floor = c.floor-then-number-next.ensures i; next = c.from-number.ensures i + 1 }) in
    let pages = c.in_ok-put.ensures.ok
    ∙ (λ i. put page_cmp (c.page_of-page.ensures i) (entry i) (c.self.view_is i).progress) in
    let held = c.in_ok-put-2.ensures.ok ∙ (λ i. put name_cmp c.args.name c.args.ink (c.self.view_is i).held) in
    record {
      ok = (
        c.quiet-then-number-next.ensures ∙ sym (ap (λ (r : Reaction). r.answer) turn),
        (λ i. record (c.self.view_is i) { progress = pages i; held = held i }) ∙ sym (ap (λ (r : Reaction). r.state) turn),
      );
      fixed = ap (λ (m : MemberState). m.fixed) c.self.view_is;
    }
