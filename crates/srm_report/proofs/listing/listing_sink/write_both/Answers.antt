use Rattle.std.proofs.Common.{◌++◌, [], List, ℕ, sym, subst}
use Rattle.srm_report.specs.Standings.{TakesPart, TakesText}
use Rattle.srm_report.proofs.SinkLemmas.{text_more, part_longer}
use Rattle.srm_report.proofs.listing.listing_sink.write_both.Goals as goal

pub returns-in-Ok-clause-taken : goal.returns-in-Ok-clause-taken
returns-in-Ok-clause-taken g c =
    let taken = g.O.Outlet.taken in
    let a = c.args.outlet.now in
    let n = c.args.written.now in
    let mid = c.write-answer.new in
    let end = c.write.new in
    let part = c.args.part.now in
    let r = c.write.result in
    subst (λ (l : List ℕ). TakesText taken a n (l ++ part) r end.outlet end.written c.clear.new.self.items) c.as_slice.ensures.value
    (subst (λ (l : List ℕ). TakesText taken a n (c.as_slice.result.now ++ part) r end.outlet end.written l) (sym c.clear.ensures.items)
    (text_more taken a mid.outlet end.outlet n mid.written end.written c.as_slice.result.now [] part r [] c.in-Ok.ensures.taken
    c.write.ensures.taken))

pub returns-in-Err-clause-taken : goal.returns-in-Err-clause-taken
returns-in-Err-clause-taken g c =
    let taken = g.O.Outlet.taken in
    let b = c.write-answer.new.outlet in
    let m = c.write-answer.new.written in
    let e = c.in-Err.fault in
    subst (λ (l : List ℕ). TakesPart taken c.args.outlet.now c.args.written.now (l ++ c.args.part.now) e b m c.clear.new.self.items)
    c.as_slice.ensures.value
    (subst (λ (l : List ℕ). TakesPart taken c.args.outlet.now c.args.written.now (c.as_slice.result.now ++ c.args.part.now) e b m l)
    (sym c.clear.ensures.items)
    (part_longer taken c.args.outlet.now b c.args.written.now m c.as_slice.result.now c.args.part.now [] e c.in-Err.ensures.taken))
