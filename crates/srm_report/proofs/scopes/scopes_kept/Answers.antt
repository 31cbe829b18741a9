use Rattle.std.proofs.Common.{rules, ◌≡◌, ◌∙◌, ◌++◌, [], List, ℕ, take, ap, sym, subst}
use Rattle.std.specs.Result.{IfOk}
use Rattle.std.proofs.lemmas.List.{take_all}
use Rattle.std.proofs.lemmas.List.Sorted.{answers_always}
use Rattle.srm_net.specs.declared.key.Key.{Key}
use Rattle.srm_report.specs.declared.scopes.member_scopes.MemberScopes.{MemberScopes}
use Rattle.srm_report.specs.declared.scopes.scope_entry.ScopeEntry.{ScopeEntry}
use Rattle.srm_report.specs.KeptScopes.{HearMore}
use Rattle.srm_report.proofs.ScopeLemmas.{hear_more, hear_none, heard_of, kept_entries, kept_heard, one_more, sent_of, table_of}
use Rattle.srm_report.proofs.scopes.scopes_kept.Goals as goal

pub loop-own-init : goal.loop-own-init
loop-own-init c = record { sent = c.new-entries.ensures.items; heard = subst (HearMore [] []) (sym c.new-heard.ensures) (hear_none []) }

pub loop-own-preserved : goal.loop-own-preserved
loop-own-preserved c =
    let ks = c.args.kept.now in
    let i = c.loop-own.own-index in
    let k = c.own-item.result in
    let lt = c.loop-own-test.true in
    record {
      sent = c.in_ok-extend_from_slice.ensures.items ∙ (λ j. c.loop-own.invariant.sent j ++ c.as_slice.ensures.value j)
          ∙ sym (one_more (λ (k : MemberScopes). k.sent.items) ks i k lt c.own-item.is);
      heard = subst (λ l. HearMore [] l c.add.new.self)
          (ap (λ l. heard_of (take i ks) ++ l) c.as_slice-in-loop-own.ensures.value
          ∙ sym (one_more (λ (k : MemberScopes). k.heard.items) ks i k lt c.own-item.is))
          (hear_more (heard_of (take i ks)) c.as_slice-in-loop-own.result.now [] c.loop-own.heard c.add.new.self c.loop-own.invariant.heard
          c.in_ok-add.ensures);
    }

pub returns : goal.returns
returns c rows members o long kept =
    let ks = c.args.kept.now in
    let whole = take_all c.loop-own.own-index ks c.loop-own-test.false in
    let key : ScopeEntry → Key = λ e. e.key in
    let sent = c.loop-own.invariant.sent ∙ ap sent_of whole in
    let heard = subst (λ l. HearMore [] (heard_of l) c.loop-own.heard) whole c.loop-own.invariant.heard in
    let sorted = kept_entries ks rows members o long kept c.loop-own.entries.items c.sort_by_key.new.self.items sent
    (c.in_ok-sort_by_key.ensures.sorted key (answers_always _ _ _ (λ f a r f' k. search rules)))
    (c.sort_by_key.ensures.stable key (answers_always _ _ _ (λ f a r f' k. search rules))) in
    subst (λ (l : List ℕ). IfOk c.table_text.result (λ text. text.items ≡ l))
    (table_of rows c.as_slice-2.result.now c.loop-own.heard (c.as_slice-2.ensures.value ∙ sorted)
    (kept_heard ks rows members o long kept c.loop-own.heard heard))
    c.table_text.ensures
