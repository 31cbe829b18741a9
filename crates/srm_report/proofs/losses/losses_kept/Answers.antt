use Rattle.std.proofs.Common.{◌≡◌, ◌∙◌, ◌++◌, ◌<◌, List, length, sym, arith}
use Rattle.srm_report.specs.declared.losses.course.Course.{Course}
use Rattle.srm_report.specs.declared.losses.loss.Loss.{Loss}
use Rattle.srm_report.specs.declared.losses.member_losses.MemberLosses.{MemberLosses}
use Rattle.srm_report.proofs.KeptLossLemmas.{entries_more, kept_losses}
use Rattle.srm_report.proofs.losses.losses_kept.Goals as goal

abbrev found : MemberLosses → List (Loss × Course)
found k = k.losses

pub loop-own-preserved : goal.loop-own-preserved
loop-own-preserved c =
    let ks = c.args.kept.now in
    let i = c.loop-own.own-index in
    let lt : i < length ks = c.loop-own-test.true in
    c.in_ok-extend_from_slice.ensures.items
    ∙ (λ j. c.loop-own.invariant j ++ (c.as_slice.ensures.value ∙ c.in_ok-found.ensures) j)
    ∙ sym (entries_more found ks i c.own-item.result lt c.own-item.is)

pub table_text-requires : goal.table_text-requires
table_text-requires c =
    let whole : c.loop-own.own-index ≡ length c.args.kept.now = omega arith in (
      c.requires.0,
      c.requires.1,
      kept_losses found c.requires.0 _ c.requires.1 c.args.kept.now c.requires.2 c.requires.3 c.loop-own.own-index whole _
          (c.as_slice-2.ensures.value ∙ c.loop-own.invariant),
    )

pub returns : goal.returns
returns c rows o long kept =
    let whole : c.loop-own.own-index ≡ length c.args.kept.now = omega arith in
    c.table_text.ensures rows o
    (kept_losses found rows _ o c.args.kept.now long kept c.loop-own.own-index whole _ (c.as_slice-2.ensures.value ∙ c.loop-own.invariant))
