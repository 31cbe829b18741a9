use Rattle.std.proofs.Common.{◌≡◌, ◌∙◌, ◌-◌, ◌+◌, ◌++◌, length, drop, ap, sym, append_assoc, arith}
use Rattle.std.proofs.lemmas.List.{drop_all}
use Rattle.srm_report.specs.Lines.{buffer_text}
use Rattle.srm_report.specs.Listings.{lines_in}
use Rattle.srm_report.proofs.ListingLemmas.{lines-from}
use Rattle.srm_report.proofs.listing.put_few.Goals as goal

pub loop-index-init : goal.loop-index-init
loop-index-init g c =
    let rows = c.args.rows.now in
    record {
      room = c.requires;
      text = sym (ap (λ l. lines_in g.L.Listing.form l ++ buffer_text c.args.buffer.now) (drop_all (length rows) rows (omega arith)));
    }

pub loop-index-preserved : goal.loop-index-preserved
loop-index-preserved g c =
    let f = g.L.Listing.form in
    let rows = c.args.rows.now in
    let i = c.loop-index.index - 1 in
    let some = c.loop-index-test.true in
    let within = c.loop-index.auto.index in
    let next : c.loop-index.index ≡ i + 1 = omega arith in
    let line = f.line c.index-rows-index.result in
    let others = buffer_text c.args.buffer.now in
    record {
      room = omega (arith, c.put_line.ensures.room, c.loop-index.invariant.room);
      text = c.put_line.ensures.text
          ∙ ap (λ l. line ++ l) (c.loop-index.invariant.text ∙ ap (λ n. lines_in f (drop n rows) ++ others) next)
          ∙ sym (append_assoc line (lines_in f (drop (i + 1) rows)) others)
          ∙ ap (λ l. l ++ others) (sym (lines-from f rows i c.index-rows-index.result (omega arith) c.index-rows-index.is));
    }

pub returns : goal.returns
returns g c =
    let none : c.loop-index.index ≡ 0 = omega (arith, c.loop-index-test.false) in
    c.loop-index.invariant.text
    ∙ ap (λ n. lines_in g.L.Listing.form (drop n c.args.rows.now) ++ buffer_text c.args.buffer.now) none
