-- The rules of scenario files as a JSON document.
use Rattle.std.specs.Prelude.{ℕ, Bool, true, false, List, [], ◌∷◌, ◌++◌, codes, decimal, if◌then◌else◌}
use Rattle.srm_scenario.specs.declared.bytes.TheConstants.{LONGEST_TEXT}
use Rattle.srm_scenario.specs.declared.fault.Part.{Part}
use Rattle.srm_scenario.specs.declared.fault.Part.TheVariants as part
use Rattle.srm_scenario.specs.declared.form.Form.{Form}
use Rattle.srm_scenario.specs.declared.rule.Rule.{Rule}
use Rattle.srm_scenario.specs.declared.version.Version.{Version}
use Rattle.srm_scenario.specs.declared.version.Version.TheVariants.{One, Two, Three, Four, Five}
use Rattle.srm_scenario.specs.Rules.{allows_losses, allows_outages, allows_parents}
use Rattle.srm_explain.specs.declared.rule_document.Layout.{Layout}
use Rattle.srm_explain.specs.declared.rule_document.Layout.TheVariants.{Links, Sized, Tree, Parents}
use Rattle.srm_explain.specs.Findings.{rules_with, word_of}
use Rattle.srm_explain.specs.RuleTexts.{first_constants, parents_listed, rule_lines}

-- a form of a top table
abbrev pub form : Bool → Bool → Bool → Bool → Bool → Bool → Form
form shaped sized tree parents delays backs = record {
  shaped = shaped;
  sized = sized;
  tree = tree;
  parents = parents;
  listed = parents_listed;
  delays = delays;
  backs = backs;
}

-- the form of a top table of this layout
abbrev pub form_with : Layout → Form
form_with Links = form false false false false false false
form_with Sized = form true true false false false false
form_with Tree = form true true true false false false
form_with (Parents delays backs) = form true false false true delays backs

-- how a top table of this layout is told apart
abbrev pub layout_text : Layout → List ℕ
layout_text Links = codes "\"table\": \"top\", \"topology\": []"
layout_text Sized = codes "\"table\": \"top\", \"topology\": [\"chain\", \"star\"]"
layout_text Tree = codes "\"table\": \"top\", \"topology\": [\"tree\"]"
layout_text (Parents false false) = codes "\"table\": \"top\", \"topology\": [\"parents\"], \"beside\": []"
layout_text (Parents false true) = codes "\"table\": \"top\", \"topology\": [\"parents\"], \"beside\": [\"backs\"]"
layout_text (Parents true false) = codes "\"table\": \"top\", \"topology\": [\"parents\"], \"beside\": [\"delays\"]"
layout_text (Parents true true) =
    codes "\"table\": \"top\", \"topology\": [\"parents\"], \"beside\": [\"delays\", \"backs\"]"

-- a table of a part with these rules
abbrev pub table_of : List ℕ → Part → List Rule → List ℕ
table_of front p rules =
    codes "{" ++ (front ++ (codes ", \"keys\": [" ++ (rule_lines p rules ++ codes "]}")))

-- the rules that the reader has for a top table of this layout, and for an element, in a version of the format
abbrev pub top_table : Version → Layout → List ℕ
top_table v layout = table_of (layout_text layout) part.Top (rules_with v part.Top first_constants (form_with layout))

abbrev pub element_table : Version → Part → List ℕ
element_table v p =
    table_of (codes "\"table\": \"" ++ (word_of p ++ codes "\"")) p
    (rules_with v p first_constants (form_with Links))

-- several, each after a comma
abbrev pub top_tables : Version → List Layout → List ℕ
top_tables v [] = []
top_tables v (layout ∷ layouts) = (codes ",\n" ++ top_table v layout) ++ top_tables v layouts

abbrev pub element_tables : Version → List Part → List ℕ
element_tables v [] = []
element_tables v (p ∷ ps) = (codes ",\n" ++ element_table v p) ++ element_tables v ps

-- the layouts that a version has beside links
abbrev pub layouts_of_parents : List Layout
layouts_of_parents =
    Parents false false ∷ Parents false true ∷ Parents true false ∷ Parents true true ∷ []

abbrev pub layouts_in : Version → List Layout
layouts_in v =
    if allows_parents v
    then Sized ∷ Tree ∷ layouts_of_parents
    else Sized ∷ Tree ∷ []

-- the elements that it has
abbrev pub elements_in : Version → List Part
elements_in v =
    if allows_losses v
    then part.Link ∷ part.Member ∷ part.Draw ∷ part.Session ∷ part.Drop ∷ part.Outage ∷ part.Loss ∷ []
    else if allows_outages v
    then part.Link ∷ part.Member ∷ part.Draw ∷ part.Session ∷ part.Drop ∷ part.Outage ∷ []
    else part.Link ∷ part.Member ∷ part.Draw ∷ part.Session ∷ part.Drop ∷ []

abbrev pub number_of : Version → ℕ
number_of One = 1
number_of Two = 2
number_of Three = 3
number_of Four = 4
number_of Five = 5

-- the tables of a version
abbrev pub version_text : Version → List ℕ
version_text v =
    codes "{\"version\": "
    ++ (decimal (number_of v)
    ++ (codes ", \"tables\": [\n" ++ (top_table v Links
    ++ (top_tables v (layouts_in v) ++ (element_tables v (elements_in v) ++ codes "\n]}")))))

-- those of several, each after a comma
abbrev pub version_texts : List Version → List ℕ
version_texts [] = []
version_texts (v ∷ vs) = (codes ",\n" ++ version_text v) ++ version_texts vs

-- the document: how many bytes a text has at most, and the tables of each version
abbrev pub rule_document : List ℕ
rule_document =
    codes "{\"bytes\": "
    ++ (decimal LONGEST_TEXT
    ++ (codes ", \"versions\": [\n" ++ (version_text One
    ++ (version_texts (Two ∷ Three ∷ Four ∷ Five ∷ []) ++ codes "\n]}\n"))))
