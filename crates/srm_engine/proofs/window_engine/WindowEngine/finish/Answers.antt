use Rattle.std.proofs.Common.{sym, subst}
use Rattle.srm_engine.specs.Seen.{AreCellsInOrder}
use Rattle.srm_engine.specs.WindowEngines.{setting_by}
use Rattle.srm_engine.proofs.ExitsKept.{all_end}
use Rattle.srm_engine.proofs.PhaseLemmas.{exits_are}
use Rattle.srm_engine.proofs.WindowLemmas.{reached, counted_words}
use Rattle.srm_engine.proofs.window_engine.WindowEngine.finish.Goals as goal

pub finish_cells-requires : goal.finish_cells-requires
finish_cells-requires g c =
    let f = g.M.Participant.plain in
    let k = c.requires.stands in
    all_end f (setting_by c.args.self k.seed) _ k.world
    (reached f c.args.self k k.seed k.begins k.world k.comes)
    (subst (λ l. AreCellsInOrder f l k.world.cells) (sym c.in_ok-into_cells.ensures) (k.comes.kept.grouped.order, k.comes.shown))

pub counted-requires-clause-ledger : goal.counted-requires-clause-ledger
counted-requires-clause-ledger g c = c.requires.stands.comes.counted.ledger

pub counted-requires-clause-whole : goal.counted-requires-clause-whole
counted-requires-clause-whole g c = c.requires.stands.comes.counted.weight

pub returns : goal.returns
returns g c = λ seed begins w comes.
    let f = g.M.Participant.plain in (
      exits_are f _ w c.in_ok-exits.exits.items
          (subst (λ l. AreCellsInOrder f l w.cells) (sym c.in_ok-into_cells.ensures) (comes.kept.grouped.order, comes.shown))
          c.in_ok-exits.ensures,
      counted_words f c.args.self c.requires.stands seed begins w comes c.counted.result c.counted.ensures.long c.counted.ensures.totals,
    )
