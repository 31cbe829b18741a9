use Rattle.std.proofs.Common.{rules, ◌≡◌, ◌∙◌, ◌<◌, ◌≤◌, ◌-◌, length, take, drop, ap, sym, arith}
use Rattle.std.proofs.Math.ListN.{get_or}
use Rattle.srm_report.specs.KeptLines.{start_at}
use Rattle.srm_report.proofs.CutLemmas.{as_many_lines, line_at, line_bounds}
use Rattle.srm_report.proofs.listing.lines.Lines.text.Goals as goal

pub start_of-start-requires : goal.start_of-start-requires
start_of-start-requires c = search (rules, as_many_lines)

pub index-requires : goal.index-requires
index-requires c = search (rules, as_many_lines)

pub slice_bounds-result-count : goal.slice_bounds-result-count
slice_bounds-result-count c =
    let ends = c.self.inside.ends.items in
    let text = c.self.inside.text.items in
    let many = as_many_lines 0 text ends in
    let seen = ap length c.self.view_is in
    let asked = c.requires in
    let lt : c.args.index < length ends = omega arith in
    let b = line_bounds 0 (length text) ends c.args.index c.index.result.now c.self.invariant lt in
    let start : c.start_of-start.result ≡ start_at 0 c.args.index ends = c.start_of-start.ensures
    ∙ ap (start_at 0 c.args.index) c.as_slice.ensures.value in
    let end : c.index.result.now.end ≡ (get_or ends c.args.index c.index.result.now).end = ap (λ x. x.end) c.index.ensures in
    let low = b.0 in
    omega arith

pub slice_bounds-result-start : goal.slice_bounds-result-start
slice_bounds-result-start c = slice_bounds-result-count c

pub slice_bounds-result-end : goal.slice_bounds-result-end
slice_bounds-result-end c =
    let ends = c.self.inside.ends.items in
    let text = c.self.inside.text.items in
    let many = as_many_lines 0 text ends in
    let seen = ap length c.self.view_is in
    let asked = c.requires in
    let lt : c.args.index < length ends = omega arith in
    let b = line_bounds 0 (length text) ends c.args.index c.index.result.now c.self.invariant lt in
    let end : c.index.result.now.end ≡ (get_or ends c.args.index c.index.result.now).end = ap (λ x. x.end) c.index.ensures in
    let high = b.1 in
    let long = ap length c.deref.ensures.value in
    let within : c.index.result.now.end ≤ length c.deref.result.now = omega arith in
    within

pub returns : goal.returns
returns c d =
    let ends = c.self.inside.ends.items in
    let text = c.self.inside.text.items in
    let many = as_many_lines 0 text ends in
    let seen = ap length c.self.view_is in
    let asked = c.requires in
    let lt : c.args.index < length ends = omega arith in
    let start : c.start_of-start.result ≡ start_at 0 c.args.index ends = c.start_of-start.ensures
    ∙ ap (start_at 0 c.args.index) c.as_slice.ensures.value in
    let end : c.index.result.now.end ≡ (get_or ends c.args.index c.index.result.now).end = ap (λ x. x.end) c.index.ensures in
    (λ i. take (end i - start i) (drop (start i) (c.deref.ensures.value i)))
    ∙ sym (ap (λ x. x.1) (ap (λ l. get_or l c.args.index d) (sym c.self.view_is)
    ∙ line_at 0 text ends c.args.index d c.index.result.now lt))
