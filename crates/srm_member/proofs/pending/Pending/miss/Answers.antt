use Rattle.std.proofs.Common.{ap, ◌∙◌}
use Rattle.srm_net.specs.Names.{name_cmp}
use Rattle.std.specs.FinMap.Entries.{put, find}
use Rattle.srm_member.proofs.Indexes.{missed-step, missed-back, find-none, put-without}
use Rattle.srm_member.proofs.pending.Pending.miss.Goals as goal

pub invariant_of-self-in-Err : goal.invariant_of-self-in-Err
invariant_of-self-in-Err c =
    let left = ap (λ p. p.0) (c.self.view_is ∙ c.forget_missing.ensures.left) in
    let none = ap (find name_cmp c.args.name) left ∙ find-none c.args.name c.args.self.now.0 in
    rw c.in-Err.ensures.err (missed-back c.args.name c.args.missing c.self.inside.index c.insert.new.self c.remove.new.self
    c.self.inside.missing c.self.inside.repairs c.self.invariant none (rw c.request_due-due.ensures at c.in_ok-insert.ensures.ok)
    (rw c.request_due-due.ensures at c.remove.ensures))

pub invariant_of-self-in-Ok : goal.invariant_of-self-in-Ok
invariant_of-self-in-Ok c =
    let left = ap (λ p. p.0) (c.self.view_is ∙ c.forget_missing.ensures.left) in
    let none = ap (find name_cmp c.args.name) left ∙ find-none c.args.name c.args.self.now.0 in
    rw c.in-Ok.ensures.ok (missed-step c.args.name c.args.missing c.self.inside.index c.insert.new.self c.self.inside.missing
    c.self.inside.repairs c.self.invariant none (rw c.request_due-due.ensures at c.in_ok-insert.ensures.ok))

pub returns-in-Ok : goal.returns-in-Ok
returns-in-Ok c =
    let left = ap (λ p. p.0) (c.self.view_is ∙ c.forget_missing.ensures.left) in
    let other = ap (λ p. p.1) (c.self.view_is ∙ c.forget_missing.ensures.left) in
    let whole = c.in-Ok.ensures.ok ∙ ap (put name_cmp c.args.name c.args.missing) left
    ∙ put-without c.args.name c.args.missing c.args.self.now.0 c.forget_missing.ensures.rising in
    λ i. (whole i, other i)
