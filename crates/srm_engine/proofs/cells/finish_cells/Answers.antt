use Rattle.std.proofs.Common.{◌≡◌, List, [], ◌∷◌, ◌++◌, true, true≢false, refl, sym, ◌∙◌, ap, append_assoc, append-nil}
use Rattle.std.proofs.lemmas.List.Elements.{All-head, All-tail}
use Rattle.std.specs.Vec.Iter.{into_iter_items}
use Rattle.srm_member.specs.declared.exit.Exit.{Exit}
use Rattle.srm_cell.specs.declared.cell.Cell.{Cell}
use Rattle.srm_cell.specs.declared.fault.CellFault.TheVariants as fault
use Rattle.srm_cell.specs.Views.{plain_cell}
use Rattle.srm_engine.specs.Outcomes.{AllEnd, HasEnd, ends_of}
use Rattle.srm_engine.proofs.CellEnds.{ended, only_memory}
use Rattle.srm_engine.proofs.SeenLemmas.{no_items}
use Rattle.srm_engine.proofs.cells.finish_cells.Goals as goal

pub loop-cell-init : goal.loop-cell-init
loop-cell-init g c = (
  tt,
  tt,
  rw (c.into_iter-cell-iterator.ensures.into_iter_gives.0, c.in_ok-exits.ensures.items) refl,
  rw c.into_iter-cell-iterator.ensures.into_iter_gives.0 c.requires,
)

pub loop-cell-preserved : goal.loop-cell-preserved
loop-cell-preserved g c =
    let f = g.M.Participant.plain in
    let left = into_iter_items c.next.new.self in
    let was : c.loop-cell.exits.items ++ ends_of f (c.in-Some.cell ∷ left) ≡ ends_of f c.args.cells.items =
    rw c.in-Some.ensures.steps.0 at c.loop-cell.invariant.2 in
    let all : AllEnd f (c.in-Some.cell ∷ left) = rw c.in-Some.ensures.steps.0 at c.loop-cell.invariant.3 in (
      tt,
      tt,
      ap (λ (es : List Exit). es ++ ends_of f left) c.in_ok-push.ensures.items
          ∙ append_assoc c.loop-cell.exits.items (c.in-Ok.exit ∷ []) (ends_of f left)
          ∙ ap (λ (e : Exit). c.loop-cell.exits.items ++ e ∷ ends_of f left) (ended
          (plain_cell f c.in-Some.cell) c.in-Ok.exit c.in-Ok.ensures)
          ∙ was,
      All-tail (λ (x : Cell _). HasEnd (plain_cell f x).holds (plain_cell f x).exit) c.in-Some.cell left all,
    )

pub prove-unreachable-requires : goal.prove-unreachable-requires
prove-unreachable-requires g c =
    let f = g.M.Participant.plain in
    let left = into_iter_items c.next.new.self in
    let all : AllEnd f (c.in-Some.cell ∷ left) = rw c.in-Some.ensures.steps.0 at c.loop-cell.invariant.3 in
    let memory : c.in-Err.fault ≡ fault.NoMemory = only_memory (plain_cell f c.in-Some.cell) c.in-Err.fault
    (All-head (λ (x : Cell _). HasEnd (plain_cell f x).holds (plain_cell f x).exit) c.in-Some.cell left all) c.in-Err.ensures in
    let same : c.eq.result ≡ true = rw memory at c.eq.ensures in
    true≢false (sym same ∙ c.if-prove.true)

pub returns : goal.returns
returns g c =
    let f = g.M.Participant.plain in
    let none = no_items c.loop-cell.cell-iterator c.in-None.ensures.steps.0 in
    sym (append-nil c.loop-cell.exits.items) ∙ ap (λ cs. c.loop-cell.exits.items ++ ends_of f cs) (sym none) ∙ c.loop-cell.invariant.2
