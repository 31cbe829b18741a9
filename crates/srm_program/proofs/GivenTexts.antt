-- What is told after the line of a refusal, of the text that a session was given.
use Rattle.std.proofs.Common.{◌≡◌, ℕ, Bool, true, false, List, Option, Result, Ok, Err, subst}
use Rattle.srm_scenario.specs.declared.fault.ScenarioFault.TheVariants as scenario
use Rattle.srm_program.specs.declared.fault.Fault.{Fault}
use Rattle.srm_program.specs.declared.fault.Fault.TheVariants as fault
use Rattle.srm_options.specs.declared.options.Options.{Options}
use Rattle.srm_program.specs.Explained.{FollowsLine, KeepsText}
use Rattle.srm_program.specs.Sessions.{TellsTextRefusals}

module _ (asks : Bool) (message given text : List ℕ) (told : List ℕ) where
  same : (f : Fault) → text ≡ given → FollowsLine asks message text f told → FollowsLine asks message given f told
  same f is h = subst (λ (t : List ℕ). FollowsLine asks message t f told) is h

-- what is told of a fault of the text that was kept is told of the text that was given
pub told_of_given : (T : Type 0) (asks : Bool) (message given text told : List ℕ) (f : Fault)
    → KeepsText {T = T} (Err f) given text → FollowsLine asks message text f told → FollowsLine asks message given f told
told_of_given T asks message given text told (fault.Line f) kept h = h
told_of_given T asks message given text told (fault.Lab f) kept h = same asks message given text told (fault.Lab f) kept h
told_of_given T false message given text told fault.NoMemory kept h = h
told_of_given T true message given text told fault.NoMemory kept h = h
told_of_given T false message given text told (fault.Scenario scenario.ReadFault) kept h = h
told_of_given T true message given text told (fault.Scenario scenario.ReadFault) kept h = h
told_of_given T false message given text told (fault.Scenario scenario.TooLong) kept h = h
told_of_given T true message given text told (fault.Scenario scenario.TooLong) kept h = h
told_of_given T asks message given text told (fault.Scenario scenario.NotToml) kept h =
    same asks message given text told (fault.Scenario scenario.NotToml) kept h
told_of_given T asks message given text told (fault.Scenario (scenario.BadKey p n)) kept h =
    same asks message given text told (fault.Scenario (scenario.BadKey p n)) kept h
told_of_given T asks message given text told (fault.Scenario scenario.NotTree) kept h =
    same asks message given text told (fault.Scenario scenario.NotTree) kept h
told_of_given T asks message given text told (fault.Scenario (scenario.BadMember n)) kept h =
    same asks message given text told (fault.Scenario (scenario.BadMember n)) kept h
told_of_given T asks message given text told (fault.Scenario (scenario.BadDraw n)) kept h =
    same asks message given text told (fault.Scenario (scenario.BadDraw n)) kept h
told_of_given T asks message given text told (fault.Scenario (scenario.BadSession n)) kept h =
    same asks message given text told (fault.Scenario (scenario.BadSession n)) kept h
told_of_given T asks message given text told (fault.Scenario (scenario.BadDrop n)) kept h =
    same asks message given text told (fault.Scenario (scenario.BadDrop n)) kept h
told_of_given T asks message given text told (fault.Scenario (scenario.BadOutage n)) kept h =
    same asks message given text told (fault.Scenario (scenario.BadOutage n)) kept h
told_of_given T asks message given text told (fault.Scenario (scenario.BadLoss n)) kept h =
    same asks message given text told (fault.Scenario (scenario.BadLoss n)) kept h
told_of_given T asks message given text told (fault.Scenario scenario.NoMemory) kept h =
    same asks message given text told (fault.Scenario scenario.NoMemory) kept h

-- and when a run is refused is told of the same text
pub refusals_of_given : {T : Type 0} (seed : ℕ) (o : Options) (given text : List ℕ) (old new : Option (List ℕ)) (r : Result T Fault)
    → KeepsText r given text → TellsTextRefusals seed o text old new r → TellsTextRefusals seed o given old new r
refusals_of_given {T} seed o given text old new (Ok v) kept h =
    let r : Result T Fault = Ok v in subst (λ (l : List ℕ). TellsTextRefusals seed o l old new r) kept h
refusals_of_given {T} seed o given text old new (Err (fault.Lab f)) kept h =
    let r : Result T Fault = Err (fault.Lab f) in subst (λ (l : List ℕ). TellsTextRefusals seed o l old new r) kept h
refusals_of_given seed o given text old new (Err (fault.Line f)) kept h = tt
refusals_of_given seed o given text old new (Err (fault.Scenario f)) kept h = tt
refusals_of_given seed o given text old new (Err fault.NoMemory) kept h = tt
