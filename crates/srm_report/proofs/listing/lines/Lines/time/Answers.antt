use Rattle.std.proofs.Common.{rules, ◌∙◌, ◌<◌, length, ap, sym, arith}
use Rattle.std.proofs.Math.ListN.{get_or}
use Rattle.srm_report.proofs.CutLemmas.{as_many_lines, line_at}
use Rattle.srm_report.proofs.listing.lines.Lines.time.Goals as goal

pub index-requires : goal.index-requires
index-requires c = search (rules, as_many_lines)

pub returns : goal.returns
returns c d =
    let ends = c.self.inside.ends.items in
    let text = c.self.inside.text.items in
    let many = as_many_lines 0 text ends in
    let seen = ap length c.self.view_is in
    let asked = c.requires in
    let lt : c.args.index < length ends = omega arith in
    ap (λ x. x.time) c.index.ensures
    ∙ sym (ap (λ x. x.0) (ap (λ l. get_or l c.args.index d) (sym c.self.view_is)
    ∙ line_at 0 text ends c.args.index d c.index.result.now lt))
