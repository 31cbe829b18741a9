use Rattle.std.proofs.Common.{◌≡◌, refl, ◌∙◌, ap, arith}
use Rattle.srm_ledger.specs.declared.kind.Kind.TheVariants.{Drawop, Request, Repair, Session}
use Rattle.srm_ledger.specs.Counts.{counted_at}
use Rattle.srm_cell.proofs.Tallying.{counted_elsewhere}
use Rattle.srm_cell.proofs.everywhere.Everywhere.add_to.Goals as goal

pub add-requires-2-clause-room : goal.add-requires-2-clause-room
add-requires-2-clause-room c =
    let e = c.args.self.now in
    let l = c.args.link in
    let ns = c.args.totals.now in
    let is : counted_at c.add.new.self l Request ≡ counted_at ns l Request =
    ap (λ ms. counted_at ms l Request) c.add.ensures ∙ counted_elsewhere e.drawops ns l Drawop Request refl in
    let r = c.requires.room Request in
    omega (arith, is, r)

pub add-requires-3-clause-room : goal.add-requires-3-clause-room
add-requires-3-clause-room c =
    let e = c.args.self.now in
    let l = c.args.link in
    let ns = c.args.totals.now in
    let is : counted_at c.add-2.new.self l Repair ≡ counted_at ns l Repair =
    ap (λ ms. counted_at ms l Repair) c.add-2.ensures ∙ counted_elsewhere e.requests c.add.new.self l Request Repair refl
    ∙ ap (λ ms. counted_at ms l Repair) c.add.ensures ∙ counted_elsewhere e.drawops ns l Drawop Repair refl in
    let r = c.requires.room Repair in
    omega (arith, is, r)

pub add-requires-4-clause-room : goal.add-requires-4-clause-room
add-requires-4-clause-room c =
    let e = c.args.self.now in
    let l = c.args.link in
    let ns = c.args.totals.now in
    let is : counted_at c.add-3.new.self l Session ≡ counted_at ns l Session =
    ap (λ ms. counted_at ms l Session) c.add-3.ensures ∙ counted_elsewhere e.repairs c.add-2.new.self l Repair Session refl
    ∙ ap (λ ms. counted_at ms l Session) c.add-2.ensures ∙ counted_elsewhere e.requests c.add.new.self l Request Session refl
    ∙ ap (λ ms. counted_at ms l Session) c.add.ensures ∙ counted_elsewhere e.drawops ns l Drawop Session refl in
    let r = c.requires.room Session in
    omega (arith, is, r)
