use Rattle.std.proofs.Common.{[], ◌∷◌, ◌++◌, ◌∙◌, sym}
use Rattle.std.specs.List.{cons_option}
use Rattle.std.proofs.lemmas.List.Elements.{filter_map-append}
use Rattle.srm_report.specs.Scopes.{entry_of, heard_in}
use Rattle.srm_report.proofs.scopes.member_scopes.MemberScopes.take_row.Goals as goal

pub returns : goal.returns
returns c before was = record {
  sent = c.in_ok-push_some.ensures ∙ (λ i. was.sent i ++ cons_option (c.of.ensures i) [])
      ∙ sym (filter_map-append entry_of before (c.args.row.now ∷ []));
  heard = c.in_ok-push_some-2.ensures ∙ (λ i. was.heard i ++ cons_option (c.heard.ensures i) [])
      ∙ sym (filter_map-append heard_in before (c.args.row.now ∷ []));
}
