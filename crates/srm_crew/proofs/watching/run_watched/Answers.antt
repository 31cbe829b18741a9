use Rattle.std.proofs.Common.{◌≡◌, ◌∙◌, ◌++◌, [], List, All, append-nil, length, false, sym, ap, subst}
use Rattle.std.specs.Result.{is_err}
use Rattle.std.proofs.lemmas.List.{length-map}
use Rattle.srm_member.specs.declared.row.Row.{Row}
use Rattle.srm_cell.specs.Crossings.{packets_of}
use Rattle.srm_cell.specs.Hearing.{packets_in}
use Rattle.srm_cell.specs.Totalled.{IsSentBelow}
use Rattle.srm_crew.proofs.WatchedCells.{if_ok, runs_idle, sent_below}
use Rattle.srm_crew.proofs.watching.run_watched.Goals as goal

pub returns-then-not-is_due-clause-ran : goal.returns-then-not-is_due-clause-ran
returns-then-not-is_due-clause-ran g c = (
  [],
  runs_idle g.M.Participant.plain c.args.till c.args.cell.now (λ is. sym (c.is_due.ensures is) ∙ c.if-not-is_due.true),
  λ before h. subst (g.W.Watch.keeps c.args.work.now.watch c.args.kept.now) (sym (append-nil before)) h,
  sym (append-nil (packets_in c.args.gathered.now.sent.items)),
)

pub add_sent-requires-clause-sent : goal.add_sent-requires-clause-sent
add_sent-requires-clause-sent g c =
    let session = c.args.work.now.session in
    let n = length session.net.now.hosts in
    let hosts : n ≡ length session.scenario.now.members =
    ap (λ w. length w.hosts) session.network ∙ length-map session.scenario.now.members (λ m. m.node) in
    subst (All (λ (r : Row). IsSentBelow (length session.scenario.now.members) r.sent)) (sym c.as_slice-rows.ensures.value)
    (subst (λ m. All (λ (r : Row). IsSentBelow m r.sent) c.run_into.new.rows.items) hosts
    (sent_below g.M.Participant.plain n c.args.till c.args.cell.now c.run_into.new.self c.run_into.new.rows.items c.requires.till
    c.requires.member c.in_ok-run_into.ensures))

pub returns-clause-ran : goal.returns-clause-ran
returns-clause-ran g c =
    let keeps = g.W.Watch.keeps c.args.work.now.watch in
    let sent = c.args.gathered.now.sent.items in
    let kept_here : is_err c.add.result ≡ false = sym c.is_err.ensures.value ∙ c.if-is_err.false in
    let sent_here : is_err c.add_sent.result ≡ false = sym c.is_err-else-is_err.ensures.value ∙ c.if-is_err-2.false in (
      c.run_into.new.rows.items,
      c.in_ok-run_into.ensures,
      λ before h. subst (λ rs. keeps c.add.new.kept (before ++ rs)) c.as_slice-rows.ensures.value
          (if_ok c.add.result _ kept_here c.add.ensures before h),
      if_ok c.add_sent.result _ sent_here c.add_sent.ensures.packets
          ∙ ap (λ (rs : List Row). packets_in sent ++ packets_of rs) c.as_slice-rows.ensures.value,
    )

pub returns-clause-sent : goal.returns-clause-sent
returns-clause-sent g c =
    if_ok c.add_sent.result _ (sym c.is_err-else-is_err.ensures.value ∙ c.if-is_err-2.false) c.add_sent.ensures.sent
