use Rattle.std.proofs.Common.{sym, ◌∙◌, ap}
use Rattle.srm_team.proofs.Adding.{adds_moves}
use Rattle.srm_team.proofs.front.Front.ask.Goals as goal

pub compare_exchange-found-requires : goal.compare_exchange-found-requires
compare_exchange-found-requires g c =
    let h = c.args.book.now.head_is in
    let copy = c.again-seen.ensures in
    let offer = c.plain-offer.ensures in
    let pen = c.no_pen-pen.ensures in
    let same = ap (λ s. s.book) copy ∙ (c.self.invariant.1 ∙ sym (ap (λ w. w.book) h)) in (
      ap (λ w. w.tracked) h,
      same,
      pen.0 ∙ same,
      offer.0,
      rw (ap (λ w. w.key) h, pen.1, offer.1, offer.3, ap (λ s. s.log) copy)
          (adds_moves c.self.inside.seen.log c.args.batch.now c.self.inside.lists (sym c.self.invariant.0)),
    )
