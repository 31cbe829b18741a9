-- Sessions of texts, from those of their scenarios.
use Rattle.std.proofs.Common.{◌≡◌, ℕ, ◌+◌, ◌≤◌, Bool, false, List, length, Option, Some, None, Result, Ok, Err, refl, sym, subst, inr}
use Rattle.std.proofs.Common.{arith}
use Rattle.std.specs.Prelude.{IfSome}
use Rattle.std.specs.Io.KnownBytes.{Keeps}
use Rattle.srm_scenario.specs.declared.fault.ScenarioFault.{ScenarioFault}
use Rattle.srm_scenario.specs.declared.fault.ScenarioFault.TheVariants as scenario
use Rattle.srm_scenario.specs.declared.fault.ScenarioFault.TheVariants.{ReadFault, TooLong, NotToml, BadKey, NotTree, BadMember}
use Rattle.srm_scenario.specs.declared.fault.ScenarioFault.TheVariants.{BadDraw, BadSession, BadDrop, BadOutage, BadLoss}
use Rattle.srm_scenario.specs.Plain.{PlainScenario, with_seed}
use Rattle.srm_scenario.specs.Faults.{scenario_of_text, AnswersText, RefusesText}
use Rattle.srm_scenario.proofs.Texts.{count_stays}
use Rattle.srm_program.specs.declared.fault.Fault.{Fault}
use Rattle.srm_program.specs.declared.fault.Fault.TheVariants.{Line, Scenario, Lab, NoMemory}
use Rattle.srm_options.specs.declared.options.Options.{Options}
use Rattle.srm_program.specs.Explained.{KeepsText}
use Rattle.srm_program.specs.Runs.{TellsRefusals}
use Rattle.srm_program.specs.Sessions.{ByTask, OfRun, TellsSession, TellsText, TellsTextRefusals, TellsFeed, reading_failures}

-- a scenario that is run, and not only checked
run_of : (o : Options) (checked : Type 0) (replicated : ℕ → Type 0) (ran : Type 0) → o.check ≡ false → o.replications ≡ None → ran
    → ByTask o.check o.replications checked replicated ran
run_of o checked replicated ran runs one h =
    subst (λ (b : Bool). ByTask b o.replications checked replicated ran) (sym runs)
    (subst (λ (k : Option ℕ). ByTask false k checked replicated ran) (sym one) h)

module _ (p : PlainScenario) (text : List ℕ) (seed : ℕ) (o : Options) (old new : Option (List ℕ))
    (is : scenario_of_text text ≡ Ok p) (runs : o.check ≡ false) (one : o.replications ≡ None) where
  -- the session of a text is that of the scenario that it describes, with the seed of its losses
  pub session_of_text : {T : Type 0} (r : Result T Fault) → TellsSession (with_seed p seed) seed o.show old new r
      → TellsText seed o text old new r
  session_of_text (Ok v) told = (p, is, run_of o _ _ _ runs one told)
  session_of_text (Err (Lab f)) told = (p, is, run_of o _ _ _ runs one told)
  session_of_text (Err (Line f)) told = absurd told
  session_of_text (Err (Scenario f)) told = absurd told
  session_of_text (Err NoMemory) told = told

  -- and so are its refusals
  pub refusals_of_text : {T : Type 0} (r : Result T Fault) → OfRun (TellsRefusals (with_seed p seed) seed o old new) r
      → TellsTextRefusals seed o text old new r
  refusals_of_text (Ok v) told = run_of o _ _ _ runs one (p, is, told)
  refusals_of_text (Err (Lab f)) told = run_of o _ _ _ runs one (p, is, told)
  refusals_of_text (Err (Line f)) told = tt
  refusals_of_text (Err (Scenario f)) told = tt
  refusals_of_text (Err NoMemory) told = tt

-- what is told of a text counts no failure of the feed
pub text_read : {T : Type 0} (text : List ℕ) (seed : ℕ) (o : Options) (old new : Option (List ℕ)) (r : Result T Fault) (n : ℕ)
    → length text ≤ 1048576 → TellsText seed o text old new r → n ≡ reading_failures r n
text_read text seed o old new (Ok v) n few told = refl
text_read text seed o old new (Err (Lab f)) n few told = refl
text_read text seed o old new (Err (Line f)) n few told = absurd told
text_read text seed o old new (Err (Scenario f)) n few told = count_stays text (Err f) n few told.0
text_read text seed o old new (Err NoMemory) n few told = refl

pub keeps-itself : (known : Option (List ℕ)) → Keeps known known
keeps-itself None = tt
keeps-itself (Some xs) = refl

-- a text that is too long is told as such
pub long_known : (known : Option (List ℕ)) (P : Type 0) → P → IfSome known (AnswersText (Err TooLong))
    → IfSome known (λ text. RefusesText TooLong text × P)
long_known None P p h = tt
long_known (Some text) P p h = (inr h, p)

never_more : (n : ℕ) → n ≡ n + 1 → ⊥
never_more n h = omega arith

-- the session of a text that was read whole, and that text, which is kept
pub whole_read : {T : Type 0} (text : List ℕ) (seed : ℕ) (o : Options) (old new : Option (List ℕ)) (r : Result T Fault)
    → length text ≤ 1048576 → TellsText seed o text old new r → TellsFeed seed o text old new r × KeepsText r text text
whole_read text seed o old new (Ok v) few told = (told, refl)
whole_read text seed o old new (Err (Lab f)) few told = (told, refl)
whole_read text seed o old new (Err (Line f)) few told = absurd told
whole_read text seed o old new (Err NoMemory) few told = (told, inr refl)
whole_read {T} text seed o old new (Err (Scenario f)) few told = by f told
  where
    by : (f : ScenarioFault) → RefusesText f text × Keeps old new
        → TellsFeed {T = T} seed o text old new (Err (Scenario f)) × KeepsText {T = T} (Err (Scenario f)) text text
    by ReadFault h = absurd (never_more 0 (count_stays text (Err ReadFault) 0 few h.0))
    by TooLong h = (h, inr refl)
    by NotToml h = (h, refl)
    by (BadKey p n) h = (h, refl)
    by NotTree h = (h, refl)
    by (BadMember n) h = (h, refl)
    by (BadDraw n) h = (h, refl)
    by (BadSession n) h = (h, refl)
    by (BadDrop n) h = (h, refl)
    by (BadOutage n) h = (h, refl)
    by (BadLoss n) h = (h, refl)
    by scenario.NoMemory h = (h, refl)
