-- The first fault of a list that is made of others.
use Rattle.std.proofs.Common.{arith}
use Rattle.std.proofs.Common.{◌≡◌, true, false, List, [], ◌∷◌, ◌++◌, Some, codes, ap, ◌∙◌, inl, inr}
use Rattle.toml.specs.Data.{Members}
use Rattle.srm_scenario.specs.declared.fault.Part.TheVariants as part
use Rattle.srm_scenario.specs.declared.fault.ScenarioFault.{ScenarioFault}
use Rattle.srm_scenario.specs.declared.fault.ScenarioFault.TheVariants.{BadKey}
use Rattle.srm_scenario.specs.Rules.{fits_rules}
use Rattle.srm_scenario.specs.Described.{array_at, version_of}
use Rattle.srm_scenario.specs.Faults.{first, IsFault, fault_unless, rules_of_top, top_faults, key_faults}
use Rattle.srm_scenario.specs.Faults.{faults_of_links, faults_of_members, faults_of_draws, faults_of_sessions, faults_of_drops}
use Rattle.srm_scenario.specs.Faults.{faults_of_outages, faults_of_losses}

pub first-left : (xs ys : List ScenarioFault) (e : ScenarioFault) → first xs ≡ Some e → first (xs ++ ys) ≡ Some e
first-left [] ys e h = cc
first-left (x ∷ xs) ys e h = h

-- a fault of the first of several lists
pub here : (fs rest : List ScenarioFault) (e : ScenarioFault) → IsFault e fs → IsFault e (fs ++ rest)
here fs rest e (inl memory) = inl memory
here fs rest e (inr h) = inr (first-left fs rest e h)

-- a fault of a later one, where the first has none
pub later : (fs rest : List ScenarioFault) (e : ScenarioFault) → fs ≡ [] → IsFault e rest → IsFault e (fs ++ rest)
later fs rest e none (inl memory) = inl memory
later fs rest e none (inr h) = inr (ap (λ xs. first (xs ++ rest)) none ∙ h)

pub no_faults : (fs rest : List ScenarioFault) → fs ≡ [] → rest ≡ [] → fs ++ rest ≡ []
no_faults fs rest p q = (λ i. p i ++ q i)

module _ (ms : Members) where
  abbrev links : List ScenarioFault
  links = faults_of_links (version_of ms) (array_at (codes "link") ms)

  abbrev members : List ScenarioFault
  members = faults_of_members (version_of ms) (array_at (codes "member") ms)

  abbrev draws : List ScenarioFault
  draws = faults_of_draws (version_of ms) (array_at (codes "draw") ms)

  abbrev sessions : List ScenarioFault
  sessions = faults_of_sessions (version_of ms) (array_at (codes "session") ms)

  abbrev drops : List ScenarioFault
  drops = faults_of_drops (version_of ms) (array_at (codes "drop") ms)

  abbrev outages : List ScenarioFault
  outages = faults_of_outages (version_of ms) (array_at (codes "outage") ms)

  abbrev losses : List ScenarioFault
  losses = faults_of_losses (version_of ms) (array_at (codes "loss") ms)

  pub no_top_fault : fits_rules (rules_of_top ms) ms ≡ true → top_faults ms ≡ []
  no_top_fault h = ap (λ b. fault_unless b (BadKey part.Top 0)) h

  pub top_fault : fits_rules (rules_of_top ms) ms ≡ false → first (key_faults ms) ≡ Some (BadKey part.Top 0)
  unfolding key_faults
  top_fault h = first-left (top_faults ms) _ (BadKey part.Top 0) (ap (λ b. first (fault_unless b (BadKey part.Top 0))) h)

  pub no_key_fault : fits_rules (rules_of_top ms) ms ≡ true → links ≡ [] → members ≡ [] → draws ≡ [] → sessions ≡ [] → drops ≡ []
      → outages ≡ [] → losses ≡ [] → key_faults ms ≡ []
  unfolding key_faults
  no_key_fault top l m d s p o q = grind arith
