use Rattle.std.proofs.Common.{◌≡◌, ◌∙◌, ◌++◌, [], List, ℕ, Bool, if◌then◌else◌, get_or, ap, refl, sym, subst, append-nil, arith}
use Rattle.std.proofs.Common.{rules}
use Rattle.std.proofs.lemmas.List.{take_all}
use Rattle.srm_report.specs.KeptLines.{parts_text}
use Rattle.srm_report.specs.Standings.{TakesBut, TakesPart}
use Rattle.srm_report.specs.SinkLaws.{took_none}
use Rattle.srm_report.proofs.TickLemmas.{no_part}
use Rattle.srm_report.proofs.SinkLemmas.{parts_more, part_put, part_front}
use Rattle.srm_report.proofs.listing.listing_sink.put_each.Goals as goal

pub loop-part-init : goal.loop-part-init
loop-part-init g c =
    let none = append-nil c.args.text.now.items in
    record {
      failures = refl;
      taken = ([], none, took_none g.O.Outlet.taken c.args.outlet.now c.args.written.now);
      whole = λ _. sym none;
    }

pub loop-part-preserved-then-is_put : goal.loop-part-preserved-then-is_put
loop-part-preserved-then-is_put g c =
    let text = c.loop-part.text.items in
    let parts = c.args.parts.now in
    let part = (get_or parts c.loop-part.part-index no_part).text.now in
    let put : c.is_put.new.text.items ≡ text ++ part =
    c.is_put.ensures ∙ ap (λ (b : Bool). if b then text ++ part else text) c.if-is_put.true in
    let v = c.loop-part.invariant in
    record {
      failures = v.failures;
      taken = part_put g.O.Outlet.taken c.args.outlet.now c.loop-part.outlet c.args.written.now c.loop-part.written c.args.text.now.items
          parts c.loop-part.part-index text c.loop-part-test.true v.taken c.loop-part.outlet c.loop-part.written c.is_put.new.text.items
          ([], sym put, took_none g.O.Outlet.taken c.loop-part.outlet c.loop-part.written);
      whole = λ t. put ∙ ap (λ (l : List ℕ). l ++ part) (v.whole t)
          ∙ parts_more c.args.text.now.items parts c.loop-part.part-index c.loop-part-test.true;
    }

pub loop-part-preserved : goal.loop-part-preserved
loop-part-preserved g c =
    let taken = g.O.Outlet.taken in
    let text = c.loop-part.text.items in
    let parts = c.args.parts.now in
    let part = (get_or parts c.loop-part.part-index no_part).text.now in
    let same : c.is_put.new.text.items ≡ text =
    c.is_put.ensures ∙ ap (λ (b : Bool). if b then text ++ part else text) c.if-is_put.false in
    let v = c.loop-part.invariant in
    let e = c.in-Ok.ensures in
    record {
      failures = omega (arith, e.failures, v.failures);
      taken = part_put taken c.args.outlet.now c.loop-part.outlet c.args.written.now c.loop-part.written c.args.text.now.items parts
          c.loop-part.part-index text c.loop-part-test.true v.taken c.write_both.new.outlet c.write_both.new.written
          c.write_both.new.text.items
          (subst (λ (l : List ℕ). TakesBut taken c.loop-part.outlet c.loop-part.written (l ++ part) c.write_both.new.outlet
          c.write_both.new.written c.write_both.new.text.items) same e.taken);
      whole = search rules;
    }

pub returns-in-Err-clause-taken : goal.returns-in-Err-clause-taken
returns-in-Err-clause-taken g c =
    let taken = g.O.Outlet.taken in
    let text = c.loop-part.text.items in
    let parts = c.args.parts.now in
    let part = (get_or parts c.loop-part.part-index no_part).text.now in
    let same : c.is_put.new.text.items ≡ text =
    c.is_put.ensures ∙ ap (λ (b : Bool). if b then text ++ part else text) c.if-is_put.false in
    part_front taken c.args.outlet.now c.loop-part.outlet c.args.written.now c.loop-part.written c.args.text.now.items parts
    c.loop-part.part-index text c.loop-part-test.true c.loop-part.invariant.taken c.write_both.new.outlet c.write_both.new.written
    c.write_both.new.text.items c.in-Err.fault
    (subst (λ (l : List ℕ). TakesPart taken c.loop-part.outlet c.loop-part.written (l ++ part) c.in-Err.fault c.write_both.new.outlet
    c.write_both.new.written c.write_both.new.text.items) same c.in-Err.ensures.taken)

pub returns-clause-taken : goal.returns-clause-taken
returns-clause-taken g c =
    subst (λ ps. TakesBut g.O.Outlet.taken c.args.outlet.now c.args.written.now (c.args.text.now.items ++ parts_text ps)
    c.loop-part.outlet c.loop-part.written c.loop-part.text.items)
    (take_all c.loop-part.part-index c.args.parts.now c.loop-part-test.false) c.loop-part.invariant.taken

pub returns-clause-whole : goal.returns-clause-whole
returns-clause-whole g c t =
    c.loop-part.invariant.whole t
    ∙ ap (λ ps. c.args.text.now.items ++ parts_text ps) (take_all c.loop-part.part-index c.args.parts.now c.loop-part-test.false)
