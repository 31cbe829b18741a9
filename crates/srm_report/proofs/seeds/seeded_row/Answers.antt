use Rattle.srm_report.proofs.SeedLemmas.{seeded_line}
use Rattle.srm_report.proofs.seeds.seeded_row.Goals as goal

pub returns : goal.returns
returns c = seeded_line c.args._seed
