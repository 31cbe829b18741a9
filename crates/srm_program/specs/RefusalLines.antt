-- The line that tells why the program refuses, without its line feed.
use Rattle.std.specs.Prelude.{ℕ, List, [], ◌++◌, codes, decimal}
use Rattle.srm_scenario.specs.declared.fault.Part.{Part}
use Rattle.srm_scenario.specs.declared.fault.Part.TheVariants as part
use Rattle.srm_scenario.specs.declared.fault.ScenarioFault.{ScenarioFault}
use Rattle.srm_scenario.specs.declared.fault.ScenarioFault.TheVariants as scenario
use Rattle.srm_program.specs.declared.fault.LabFault.{LabFault}
use Rattle.srm_program.specs.declared.fault.LabFault.TheVariants as lab
use Rattle.srm_command_line.specs.declared.line_fault.LineFault.{LineFault}
use Rattle.srm_command_line.specs.declared.line_fault.LineFault.TheVariants as line
use Rattle.srm_program.specs.declared.fault.Fault.{Fault}
use Rattle.srm_program.specs.declared.fault.Fault.TheVariants as fault

-- the word of a part of a scenario file
abbrev pub part_word : Part → List ℕ
part_word part.Top = codes "top"
part_word part.Link = codes "link"
part_word part.Member = codes "member"
part_word part.Draw = codes "draw"
part_word part.Session = codes "session"
part_word part.Drop = codes "drop"
part_word part.Outage = codes "outage"
part_word part.Loss = codes "loss"

-- the line of a command line for which nothing is run; where help or the rules are asked for there is none
abbrev pub command_line : LineFault → List ℕ
command_line line.Line = codes "command line refused"
command_line line.BadWord = codes "command line refused"
command_line (line.Help text) = []
command_line line.Rules = []
command_line line.NoMemory = codes "refused: no-memory"

-- the line of a scenario that is refused
abbrev pub scenario_line : ScenarioFault → List ℕ
scenario_line scenario.ReadFault = codes "refused: read-fault"
scenario_line scenario.TooLong = codes "refused: too-long"
scenario_line scenario.NotToml = codes "refused: not-toml"
scenario_line (scenario.BadKey part place) = codes "refused: bad-key " ++ part_word part ++ codes " " ++ decimal place
scenario_line scenario.NotTree = codes "refused: not-tree"
scenario_line (scenario.BadMember place) = codes "refused: bad-member " ++ decimal place
scenario_line (scenario.BadDraw place) = codes "refused: bad-draw " ++ decimal place
scenario_line (scenario.BadSession place) = codes "refused: bad-session " ++ decimal place
scenario_line (scenario.BadDrop place) = codes "refused: bad-drop " ++ decimal place
scenario_line (scenario.BadOutage place) = codes "refused: bad-outage " ++ decimal place
scenario_line (scenario.BadLoss place) = codes "refused: bad-loss " ++ decimal place
scenario_line scenario.NoMemory = codes "refused: no-memory"

-- the line of a run that is refused
abbrev pub lab_line : LabFault → List ℕ
lab_line lab.BadCut = codes "refused: bad-cut"
lab_line lab.BadWidth = codes "refused: bad-width"
lab_line lab.ShareFull = codes "refused: share-full"
lab_line lab.NoMemory = codes "refused: no-memory"
lab_line lab.CountFull = codes "refused: count-full"
lab_line (lab.WriteFault written) = codes "refused: write-fault " ++ decimal written

-- the line of a refusal
abbrev pub line_of_fault : Fault → List ℕ
line_of_fault (fault.Line f) = command_line f
line_of_fault (fault.Scenario f) = scenario_line f
line_of_fault (fault.Lab f) = lab_line f
line_of_fault fault.NoMemory = codes "refused: no-memory"
