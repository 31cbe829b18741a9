use Rattle.srm_engine.proofs.WindowLemmas.{counted_words}
use Rattle.srm_engine.proofs.window_engine.WindowEngine.into_totals.Goals as goal

pub counted-requires-clause-ledger : goal.counted-requires-clause-ledger
counted-requires-clause-ledger g c = c.requires.stands.comes.counted.ledger

pub counted-requires-clause-whole : goal.counted-requires-clause-whole
counted-requires-clause-whole g c = c.requires.stands.comes.counted.weight

pub returns : goal.returns
returns g c = λ seed begins w comes.
    counted_words g.M.Participant.plain c.args.self c.requires.stands seed begins w comes c.counted.result c.counted.ensures.long
    c.counted.ensures.totals
