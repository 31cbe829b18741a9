use Rattle.std.proofs.Common.{◌≡◌, ◌∙◌, ◌++◌, [], take, drop, ap, sym, length, append-nil, append_assoc, rules}
use Rattle.std.proofs.lemmas.List.{nil_from_length}
use Rattle.srm_report.specs.Listings.{lines_in}
use Rattle.srm_report.proofs.ListingLemmas.{lines-cut}
use Rattle.srm_report.proofs.listing.put_lines.Goals as goal

pub loop-rest-init : goal.loop-rest-init
loop-rest-init g c = ap (λ l. l ++ lines_in g.L.Listing.form c.args.rows.now) c.in_ok-reserve.ensures.items

pub loop-rest-preserved : goal.loop-rest-preserved
loop-rest-preserved g c =
    let f = g.L.Listing.form in
    let rest = c.loop-rest.rest.now in
    let n = c.min.result in
    let text = c.loop-rest.text.items in
    let few = lines_in f (take n rest) in
    let more = lines_in f (drop n rest) in
    let put : c.text.result.now ≡ few =
    c.text.ensures ∙ c.put_few.ensures ∙ ap (λ l. lines_in f c.split_at.result.0.now ++ l) c.clear.ensures.text
    ∙ append-nil (lines_in f c.split_at.result.0.now) ∙ ap (lines_in f) c.split_at.ensures.front in
    let grown : c.extend_from_slice.new.self.items ≡ text ++ few = c.in_ok-extend_from_slice.ensures.items ∙ ap (λ l. text ++ l) put in
    let left : lines_in f c.split_at.result.1.now ≡ more = ap (lines_in f) c.split_at.ensures.back in
    (λ k. grown k ++ left k) ∙ append_assoc text few more ∙ ap (λ l. text ++ l) (lines-cut f rest n) ∙ c.loop-rest.invariant

pub returns : goal.returns
returns g c =
    let text = c.loop-rest.text.items in
    let rest = c.loop-rest.rest.now in
    let zero : length rest ≡ 0 = search rules in
    let none : rest ≡ [] = nil_from_length rest zero in
    sym (append-nil text) ∙ ap (λ l. text ++ lines_in g.L.Listing.form l) (sym none) ∙ c.loop-rest.invariant
