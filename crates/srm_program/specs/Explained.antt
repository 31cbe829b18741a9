-- What is told of a refusal after its line.
use Rattle.std.specs.Prelude.{◌≡◌, ◌⊎◌, ◌&&◌, ℕ, Bool, true, false, List, [], ◌++◌, codes, decimal, Option, Some, None}
use Rattle.std.specs.Prelude.{Result, Ok, Err}
use Rattle.srm_net.specs.Least.{least_delay}
use Rattle.srm_scenario.specs.Faults.{scenario_of_text}
use Rattle.srm_scenario.specs.Plain.{PlainScenario, network_of}
use Rattle.srm_scenario.specs.declared.fault.ScenarioFault.TheVariants.{ReadFault, TooLong}
use Rattle.srm_explain.specs.Explanations.{note, Explains}
use Rattle.srm_explain.specs.Remarks.{Remarks}
use Rattle.srm_program.specs.declared.fault.LabFault.{LabFault}
use Rattle.srm_program.specs.declared.fault.LabFault.TheVariants as lab
use Rattle.srm_command_line.specs.declared.line_fault.LineFault.{LineFault}
use Rattle.srm_program.specs.declared.fault.Fault.{Fault}
use Rattle.srm_program.specs.declared.fault.Fault.TheVariants as fault
use Rattle.srm_options.specs.declared.options.Options.{Options}

-- whether words ask for explanations of what is refused of a session
abbrev pub asks_explanation : Result (ℕ × Options) LineFault → Bool
asks_explanation (Ok asked) = asked.1.explain
asks_explanation (Err f) = false

-- what is said of the fault of a run, where that needs no text
abbrev pub lab_sentence : LabFault → List ℕ
lab_sentence lab.BadCut = codes "--cut is 1 to 1024 where --engine is window"
lab_sentence lab.ShareFull = codes "more than 140737488355328 packets of a kind crossed a link, or were dropped at it"
lab_sentence lab.NoMemory = codes "there was no memory left"
lab_sentence lab.CountFull = codes "a member sent 281474976710656 packets, which are as many as are counted"
lab_sentence lab.BadWidth = []
lab_sentence (lab.WriteFault written) = []

-- what is said of a width that a network with this least delay of a link, or with no link, does not allow
abbrev pub width_sentence : Option ℕ → List ℕ
width_sentence (Some delay) =
    codes "--width is 1 to " ++ (decimal delay ++ codes " in this network: no link takes less in either direction")
width_sentence None = codes "--width is at least 1"

-- the same, of the network of the scenario that this text is
abbrev pub ExplainsWidth : List ℕ → List ℕ → Type 0
ExplainsWidth text told =
    (p : PlainScenario) × (scenario_of_text text ≡ Ok p) × (told ≡ note (width_sentence (least_delay (network_of p))))

-- these lines explain the fault of a session that read this text: nothing where standard output failed, whose reader
-- may have gone away
abbrev pub ExplainsFault : List ℕ → Fault → List ℕ → Type 0
ExplainsFault text (fault.Line f) told = told ≡ []
ExplainsFault text (fault.Scenario f) told = Explains f text told
ExplainsFault text (fault.Lab (lab.WriteFault written)) told = told ≡ []
ExplainsFault text (fault.Lab lab.BadWidth) told = ExplainsWidth text told
ExplainsFault text (fault.Lab f) told = told ≡ note (lab_sentence f)
ExplainsFault text fault.NoMemory told = told ≡ note (codes "there was no memory left")

-- what is told of a fault where no explanation is asked for: this message, and nothing where standard output failed
abbrev pub unexplained : List ℕ → Fault → List ℕ
unexplained message (fault.Lab (lab.WriteFault written)) = []
unexplained message f = message

-- what may follow the line of a fault of a session that read this text: this message where no explanation is asked for,
-- and else its explanation, unless there was no memory for it
abbrev pub MayFollow : Bool → List ℕ → List ℕ → Fault → List ℕ → Type 0
MayFollow false message text f told = told ≡ unexplained message f
MayFollow true message text f told = (told ≡ []) ⊎ ExplainsFault text f told

-- what is told after the line of a fault, where a session read this text: of refused words their message
abbrev pub FollowsLine : Bool → List ℕ → List ℕ → Fault → List ℕ → Type 0
FollowsLine asks message text (fault.Line f) told = told ≡ message
FollowsLine asks message text f told = MayFollow asks message text f told

-- whether words ask for remarks on a scenario that is accepted
abbrev pub asks_remarks : Result (ℕ × Options) LineFault → Bool
asks_remarks (Ok asked) = asked.1.check && asked.1.explain
asks_remarks (Err f) = false

-- what is remarked of an accepted text: nothing where no remarks are asked for, or there was no memory for them
abbrev pub MayRemark : Bool → List ℕ → List ℕ → Type 0
MayRemark false text told = told ≡ []
MayRemark true text told = (told ≡ []) ⊎ Remarks text told

-- the text that is kept after a session that was given this text: the same, wherever a fault is one of the text itself;
-- none where the feed failed or words were refused; and where a text was too long or memory ran out all of it or none
abbrev pub KeepsText : {T : Type 0} → Result T Fault → List ℕ → List ℕ → Type 0
KeepsText (Err (fault.Scenario ReadFault)) given text = text ≡ []
KeepsText (Err (fault.Scenario TooLong)) given text = (text ≡ []) ⊎ (text ≡ given)
KeepsText (Err fault.NoMemory) given text = (text ≡ []) ⊎ (text ≡ given)
KeepsText (Err (fault.Line f)) given text = text ≡ []
KeepsText r given text = text ≡ given
