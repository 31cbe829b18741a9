use Rattle.std.proofs.Common.{ℕ}
use Rattle.srm_scenario.specs.Accepted.{IsAccepted}
use Rattle.srm_scenario.specs.Plain.{PlainScenario, with_seed}
use Rattle.srm_scenario.proofs.Texts.{text_accepted}
use Rattle.srm_cell.proofs.FitSettings.{settings_are_fit}
use Rattle.srm_cell.proofs.laws.settings_of_texts_are_fit.Goals as goal

-- a scenario is accepted with every seed
seeded : (s : PlainScenario) (seed : ℕ) → IsAccepted s → IsAccepted (with_seed s seed)
seeded s seed a = record {
  some_ticks = a.some_ticks;
  few_ticks = a.few_ticks;
  constants = a.constants;
  recovery = a.recovery;
  network = a.network;
  members = a.members;
  draws = a.draws;
  few_draws = a.few_draws;
  sessions = a.sessions;
  few_sessions = a.few_sessions;
  drops = a.drops;
  drops_ascend = a.drops_ascend;
  outages = a.outages;
  losses = a.losses;
}

pub returns : goal.returns
returns c text s seed read = settings_are_fit (with_seed s seed) seed (seeded s seed (text_accepted text s read))
