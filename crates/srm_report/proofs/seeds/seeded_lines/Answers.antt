use Rattle.std.proofs.Common.{◌≡◌, ◌∙◌, ◌-◌, ◌++◌, ◌∷◌, decimal, drop, take, refl, ap, sym, subst}
use Rattle.csv.specs.Writing.{comma}
use Rattle.srm_report.proofs.SeedLemmas.{IsAt, begins, goes_on, ends}
use Rattle.srm_report.proofs.seeds.seeded_lines.Goals as goal

pub loop-start-init : goal.loop-start-init
loop-start-init c = record {
  within = c.end_of_line-start.ensures.within;
  at = λ columns rows hc hr is.
      subst (IsAt c.args.seed rows c.args.table.now c.end_of_line-start.result) (sym c.new-text.ensures.items)
      (begins c.args.seed rows c.args.table.now columns hc hr is c.end_of_line-start.result c.end_of_line-start.ensures.line);
}

pub loop-start-preserved : goal.loop-start-preserved
loop-start-preserved c = record {
  within = c.end_of_line-end.ensures.within;
  at = λ columns rows hc hr is.
      let digits : c.as_bytes-digits.result.now ≡ decimal c.args.seed = c.as_bytes-digits.ensures.value ∙ c.format.ensures.text in
      let line = take (c.end_of_line-end.result - c.loop-start.start) (drop c.loop-start.start c.args.table.now) in
      goes_on c.args.seed rows c.args.table.now c.loop-start.start c.end_of_line-end.result c.loop-start.text.items
      c.put_line.new.text.items line (c.loop-start.invariant.at columns rows hc hr is) c.loop-start-test.true c.end_of_line-end.ensures.line
      refl (c.in_ok-put_line.ensures ∙ ap (λ d. c.loop-start.text.items ++ (d ++ comma ∷ line)) digits);
}

pub returns : goal.returns
returns c = λ columns rows hc hr is.
    ends c.args.seed rows c.args.table.now c.loop-start.start c.loop-start.text.items (c.loop-start.invariant.at columns rows hc hr is)
    c.loop-start-test.false
