-- What is told of a fault after its line.
use Rattle.std.specs.Prelude.{◌≡◌, ◌≢◌, ◌⊎◌, ℕ, List, [], ◌∷◌, ◌++◌, Option, Some, None, IfSome, codes}
use Rattle.std.specs.List.{AllByRecursion}
use Rattle.toml.specs.Data.{Data, Members}
use Rattle.toml.specs.Parse.{parse_document}
use Rattle.srm_scenario.specs.declared.fault.Part.{Part}
use Rattle.srm_scenario.specs.declared.fault.Part.TheVariants as part
use Rattle.srm_scenario.specs.Described.{names_parents}
use Rattle.srm_explain.specs.declared.copies.Copied.{Copied}
use Rattle.srm_explain.specs.Copies.{copy_sentence, IsCopied, TellsNumbers}
use Rattle.srm_explain.specs.declared.finding.Finding.{Finding}
use Rattle.srm_explain.specs.Findings.{array_key, elements_of, rules_in, FindsAt, TellsNotes}
use Rattle.srm_explain.specs.declared.flaw.Flaw.{Flaw}
use Rattle.srm_explain.specs.Flaws.{flaw_sentence, IsFlaw}
use Rattle.srm_explain.specs.declared.misfit.Misfit.{Misfit}
use Rattle.srm_explain.specs.Misfits.{links_of, misfit_sentence, Breaks}
use Rattle.srm_scenario.specs.declared.draft.Draft.{Draft}
use Rattle.srm_scenario.specs.Drafts.{IsDraft}
use Rattle.srm_scenario.specs.declared.fault.ScenarioFault.{ScenarioFault}
use Rattle.srm_scenario.specs.declared.fault.ScenarioFault.TheVariants.{NoMemory, ReadFault, TooLong, NotToml, BadKey}
use Rattle.srm_scenario.specs.declared.fault.ScenarioFault.TheVariants.{NotTree, BadMember, BadDraw, BadSession}
use Rattle.srm_scenario.specs.declared.fault.ScenarioFault.TheVariants.{BadDrop, BadOutage, BadLoss}

-- a sentence as it stands below a line: with two spaces in front, and its line feed
abbrev pub note : List ℕ → List ℕ
note sentence = codes "  " ++ sentence ++ 10 ∷ []

-- the notes of several reasons
abbrev pub flaw_notes : List Flaw → List ℕ
flaw_notes [] = []
flaw_notes (f ∷ fs) = note (flaw_sentence f) ++ flaw_notes fs

-- what a fault is, without its text
abbrev pub general_sentence : ScenarioFault → List ℕ
general_sentence ReadFault = codes "standard input could not be read to its end"
general_sentence TooLong = codes "a scenario has at most 1048576 bytes"
general_sentence NotToml = codes "a scenario is a TOML document in UTF-8"
general_sentence (BadKey part place) =
    codes "a key there is unknown, missing or not allowed, or its value is out of its range"
general_sentence NotTree = codes "the links have to make a tree of the nodes"
general_sentence (BadMember place) =
    codes "this member does not fit the network, the run or the members before it"
general_sentence (BadDraw place) = codes "a draw is by a sender that is present"
general_sentence (BadSession place) = codes "a session message is by a member that is present and no listener"
general_sentence (BadDrop place) = codes "a drop is of a link and a member that there are"
general_sentence (BadOutage place) = codes "an outage is of a link that there is, and ends after it begins"
general_sentence (BadLoss place) = codes "a loss is of a link that there is, and ends after it begins"
general_sentence NoMemory = codes "there was no memory left"

-- lines tell what is wrong at this place of a part of a document; of what stands above them nothing is said
abbrev pub TellsKey : Part → ℕ → Members → List ℕ → Type 0
TellsKey p place top told =
    (found : Finding) × FindsAt (rules_in p top) p place top found
    × (notes : List ℕ) × TellsNotes (rules_in p top) p top found notes
    × (picture : List ℕ) × (told ≡ picture ++ notes)

-- the elements of a part in a document
abbrev pub written_in : Part → Members → List Data
written_in p top = elements_of (array_key p) top

-- a line tells that the element of this fault is this copy, with its numbers; or nothing is told
abbrev pub IsCopyNote : Draft → ScenarioFault → Option Copied → List ℕ → Type 0
IsCopyNote l fault None told = told ≡ []
IsCopyNote l fault (Some c) told =
    ((numbers : List ℕ) × TellsNumbers l fault numbers × (told ≡ note (copy_sentence c numbers))) ⊎ (told ≡ [])

-- a line tells which copy of which of these elements the element of this fault is, which stands at this place of the
-- list that they make; or nothing is told
abbrev pub TellsCopy : Draft → ScenarioFault → List Data → ℕ → List ℕ → Type 0
TellsCopy l fault ds place told = (c : Option Copied) × IfSome c (IsCopied ds place) × IsCopyNote l fault c told

-- lines tell which rule the element of this fault breaks, and which copy it is of these elements; of what stands above
-- them nothing is said
abbrev pub TellsBroken : Draft → ScenarioFault → List Data → ℕ → List ℕ → Type 0
TellsBroken l fault ds place told =
    (m : Misfit) × Breaks l fault m × (copy : List ℕ) × TellsCopy l fault ds place copy
    × (picture : List ℕ) × (told ≡ picture ++ (note (misfit_sentence m) ++ copy))

-- the same in the draft that a document gives
abbrev pub TellsMisfit : ScenarioFault → Part → ℕ → Members → List ℕ → Type 0
TellsMisfit fault p place top told =
    (l : Draft) × IsDraft top l × TellsBroken l fault (written_in p top) place told

-- the same of a text, or what the fault is; the element stands at this place of this part
abbrev pub ExplainsMisfit : ScenarioFault → Part → ℕ → List ℕ → List ℕ → Type 0
ExplainsMisfit fault p place text told =
    ((top : Members) × (parse_document text ≡ Some top) × TellsMisfit fault p place top told)
    ⊎ (told ≡ note (general_sentence fault))

-- lines tell these reasons, of which there is one; of what stands above them nothing is said
abbrev pub TellsFlaws : List Flaw → List ℕ → Type 0
TellsFlaws flaws told = (flaws ≢ []) × (picture : List ℕ) × (told ≡ picture ++ flaw_notes flaws)

-- lines tell why the links make no tree of the nodes, in the draft that a document gives
abbrev pub TellsNoTree : Members → List ℕ → Type 0
TellsNoTree top told =
    (l : Draft) × IsDraft top l
    × (flaws : List Flaw) × AllByRecursion (IsFlaw (names_parents top) l.nodes (links_of l)) flaws
    × TellsFlaws flaws told

-- these lines explain why a text is refused with this fault. What they say of a text that is no TOML are the words of
-- the library that reads it
abbrev pub Explains : ScenarioFault → List ℕ → List ℕ → Type 0
Explains NotToml text told = Unit {0}
Explains (BadKey p place) text told =
    ((top : Members) × (parse_document text ≡ Some top) × TellsKey p place top told)
    ⊎ (told ≡ note (general_sentence (BadKey p place)))
Explains NotTree text told =
    ((top : Members) × (parse_document text ≡ Some top) × TellsNoTree top told)
    ⊎ (told ≡ note (general_sentence NotTree))
Explains (BadMember place) text told = ExplainsMisfit (BadMember place) part.Member place text told
Explains (BadDraw place) text told = ExplainsMisfit (BadDraw place) part.Draw place text told
Explains (BadSession place) text told = ExplainsMisfit (BadSession place) part.Session place text told
Explains (BadDrop place) text told = ExplainsMisfit (BadDrop place) part.Drop place text told
Explains (BadOutage place) text told = ExplainsMisfit (BadOutage place) part.Outage place text told
Explains (BadLoss place) text told = ExplainsMisfit (BadLoss place) part.Loss place text told
Explains fault text told = told ≡ note (general_sentence fault)
