use Rattle.std.proofs.Common.{◌≡◌, ◌∙◌, ◌++◌, ◌∷◌, [], sym, subst, ap, arith, ◌+◌, get_or, take, length, length-append}
use Rattle.std.proofs.Math.Seq.{take-length}
use Rattle.std.proofs.lemmas.List.{map-append, take_more}
use Rattle.std.proofs.lemmas.List.Elements.{All-get_or}
use Rattle.srm_cell.specs.declared.cell.Cell.{Cell}
use Rattle.srm_cell.specs.Cells.{time_of}
use Rattle.srm_cell.specs.Views.{IsSoundCell, event_of}
use Rattle.srm_engine.specs.Seen.{times_of}
use Rattle.srm_engine.proofs.cells.next_times.Goals as goal

pub loop-cell-preserved : goal.loop-cell-preserved
loop-cell-preserved g c = (
  ap length {y = c.loop-cell.times.items ++ c.next_time.result ∷ []} c.in_ok-push.ensures.items
      ∙ length-append c.loop-cell.times.items (c.next_time.result ∷ []) ∙ ap (λ n. n + 1) c.loop-cell.invariant.0,
  λ h.
      let f = g.M.Participant.plain in
      let i = c.loop-cell.cell-index in
      let cs = c.args.cells.now in
      let x = get_or cs i c.cell-item.result in
      let is : c.cell-item.result ≡ x = c.cell-item.is in
      let one = All-get_or (IsSoundCell f) cs i c.cell-item.result c.loop-cell-test.true h in
      let next : c.next_time.result ≡ time_of (event_of f x) =
      c.next_time.ensures (subst (IsSoundCell f) (sym is) one) ∙ ap (λ (y : Cell _). time_of (event_of f y)) is in
      c.in_ok-push.ensures.items
      ∙ (λ j. c.loop-cell.invariant.1 h j ++ next j ∷ [])
      ∙ sym (ap (times_of f) (take_more cs i c.cell-item.result c.loop-cell-test.true)
      ∙ map-append (λ (y : Cell _). time_of (event_of f y)) (take i cs) (x ∷ [])),
)

pub returns : goal.returns
returns g c =
    let past = c.loop-cell-test.false in
    let within = c.loop-cell.auto.cell-index-end in
    let all : c.loop-cell.cell-index ≡ length c.args.cells.now = omega arith in (
      c.loop-cell.invariant.0 ∙ all,
      λ h.
          c.loop-cell.invariant.1 h
          ∙ ap (times_of g.M.Participant.plain) (ap (λ n. take n c.args.cells.now) all ∙ take-length c.args.cells.now),
    )
