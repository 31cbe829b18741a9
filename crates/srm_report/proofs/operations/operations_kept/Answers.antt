use Rattle.std.proofs.Common.{◌≡◌, ◌∙◌, ◌++◌, ◌<◌, ◌∷◌, [], length, map, take, ap, sym, arith}
use Rattle.std.proofs.lemmas.List.{map-append, take_more}
use Rattle.srm_report.specs.declared.operations.member_operations.MemberOperations.{MemberOperations}
use Rattle.srm_report.proofs.KeptLossLemmas.{entries_more}
use Rattle.srm_report.proofs.KeptOperationLemmas.{kept_operations, sent_more}
use Rattle.srm_report.proofs.operations.operations_kept.Goals as goal

pub loop-own-preserved : goal.loop-own-preserved
loop-own-preserved c =
    let ks = c.args.kept.now in
    let i = c.loop-own.own-index in
    let lt : i < length ks = c.loop-own-test.true in
    let left = λ (k : MemberOperations). k.left in record {
      lost = c.in_ok-extend_from_slice.ensures.items
          ∙ (λ j. c.loop-own.invariant.lost j ++ (c.as_slice.ensures.value ∙ c.in_ok-found.ensures) j)
          ∙ sym (entries_more (λ (k : MemberOperations). k.losses) ks i c.own-item.result lt c.own-item.is);
      asked = sent_more ks i c.own-item.result c.loop-own.sent c.add_sent.new.sent lt c.own-item.is c.loop-own.invariant.asked
          c.in_ok-add_sent.ensures;
      gone = c.in_ok-extend_from_slice-2.ensures.items
          ∙ (λ j. c.loop-own.invariant.gone j ++ left c.own-item.result ∷ [])
          ∙ sym (ap (map left) (take_more ks i c.own-item.result lt ∙ ap (λ q. take i ks ++ q ∷ []) (sym c.own-item.is))
          ∙ map-append left (take i ks) (c.own-item.result ∷ []));
    }

pub found_text-requires : goal.found_text-requires
found_text-requires c =
    let whole : c.loop-own.own-index ≡ length c.args.kept.now = omega arith in (
      c.requires.0,
      c.requires.1,
      kept_operations c.requires.0 _ c.requires.1 c.args.kept.now c.requires.2 c.requires.3 c.loop-own.own-index whole
          _ (c.as_slice-2.ensures.value ∙ c.loop-own.invariant.lost) _ c.loop-own.invariant.asked
          _ (c.as_slice-3.ensures.value ∙ c.loop-own.invariant.gone),
    )

pub returns : goal.returns
returns c rows o long kept =
    let whole : c.loop-own.own-index ≡ length c.args.kept.now = omega arith in
    c.found_text.ensures rows o
    (kept_operations rows _ o c.args.kept.now long kept c.loop-own.own-index whole
    _ (c.as_slice-2.ensures.value ∙ c.loop-own.invariant.lost) _ c.loop-own.invariant.asked
    _ (c.as_slice-3.ensures.value ∙ c.loop-own.invariant.gone))
