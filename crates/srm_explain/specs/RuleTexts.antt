-- The rule of a key, as an object of JSON.
use Rattle.std.specs.Prelude.{ℕ, Bool, true, false, List, [], ◌∷◌, ◌++◌, ◌==◌, codes, decimal, if◌then◌else◌}
use Rattle.srm_scenario.specs.declared.fault.Part.{Part}
use Rattle.srm_scenario.specs.declared.fault.Part.TheVariants as part
use Rattle.srm_scenario.specs.declared.file_key.FileKey.{FileKey}
use Rattle.srm_scenario.specs.declared.file_key.FileKey.TheVariants as key
use Rattle.srm_scenario.specs.declared.parts.Constants.{Constants}
use Rattle.srm_scenario.specs.declared.rule.ValueKind.{ValueKind}
use Rattle.srm_scenario.specs.declared.rule.ValueKind.TheVariants.{Whole, Word, Numbers, Each, Elements, Repeated}
use Rattle.srm_scenario.specs.declared.rule.Need.{Need}
use Rattle.srm_scenario.specs.declared.rule.Need.TheVariants.{Required, Optional, Refused}
use Rattle.srm_scenario.specs.declared.rule.Rule.{Rule}
use Rattle.srm_scenario.specs.declared.rule.Words.{Words}
use Rattle.srm_scenario.specs.declared.rule.Words.TheVariants.{Roles, Topologies, TopologiesAndParents}
use Rattle.srm_scenario.specs.Keys.{name_of}
use Rattle.srm_explain.specs.Findings.{is_refused}

-- numbers that no file can have, for what the keys of a top table hold: its constants, and how many parents it lists
abbrev pub first_constants : Constants
first_constants = record {
  c1 = 9223372036854775808;
  c2 = 9223372036854775809;
  d1 = 9223372036854775810;
  d2 = 9223372036854775811;
}

abbrev pub parents_listed : ℕ
parents_listed = 9223372036854775812

-- a number, or the key that it stands for
abbrev pub bound_text : ℕ → List ℕ
bound_text n =
    if n == 9223372036854775808
    then codes "\"c1\""
    else if n == 9223372036854775809
    then codes "\"c2\""
    else if n == 9223372036854775810
    then codes "\"d1\""
    else if n == 9223372036854775811
    then codes "\"d2\"" else if n == 9223372036854775812 then codes "\"parent\"" else decimal n

-- from where to where numbers go
abbrev pub span_text : ℕ → ℕ → List ℕ
span_text low high = codes "\"least\": " ++ (bound_text low ++ (codes ", \"most\": " ++ bound_text high))

-- the words of a set
abbrev pub words_text : Words → List ℕ
words_text Roles =
    codes "\"type\": \"word\", \"words\": [\"sender\", \"receiver\", \"late\", \"listener\"]"
words_text Topologies = codes "\"type\": \"word\", \"words\": [\"chain\", \"star\", \"tree\"]"
words_text TopologiesAndParents =
    codes "\"type\": \"word\", \"words\": [\"chain\", \"star\", \"tree\", \"parents\"]"

-- what a key may hold
abbrev pub kind_text : ValueKind → List ℕ
kind_text (Whole low high) = codes "\"type\": \"number\", " ++ span_text low high
kind_text (Word words) = words_text words
kind_text (Numbers most high) =
    codes "\"type\": \"numbers\", " ++ (span_text 0 high ++ (codes ", \"longest\": " ++ decimal most))
kind_text (Each count low high) =
    codes "\"type\": \"numbers\", " ++ (span_text low high ++ (codes ", \"length\": " ++ bound_text count))
kind_text (Elements most) = codes "\"type\": \"tables\", \"longest\": " ++ decimal most
kind_text (Repeated most) =
    codes "\"type\": \"tables\", \"longest\": " ++ (decimal most ++ codes ", \"repeated\": true")

-- whether it must be there
abbrev pub need_text : Need → List ℕ
need_text Required = codes "true"
need_text Optional = codes "false"
need_text Refused = codes "false"

-- for how many elements one stands, and how far apart these are, where that is not told
abbrev pub default_of_copies : FileKey → List ℕ
default_of_copies key.Times = codes ", \"default\": 1"
default_of_copies key.Every = codes ", \"default\": 1"
default_of_copies k = []

-- what a key of a part is where it is not given, if it is a number then: a number, or the key whose number it is
abbrev pub default_text : Part → FileKey → List ℕ
default_text part.Top key.C1Least = codes ", \"default\": \"c1\""
default_text part.Top key.C1Most = codes ", \"default\": \"c1\""
default_text part.Top key.C2Least = codes ", \"default\": \"c2\""
default_text part.Top key.C2Most = codes ", \"default\": \"c2\""
default_text part.Top key.D1Least = codes ", \"default\": \"d1\""
default_text part.Top key.D1Most = codes ", \"default\": \"d1\""
default_text part.Top key.D2Least = codes ", \"default\": \"d2\""
default_text part.Top key.D2Most = codes ", \"default\": \"d2\""
default_text part.Top key.Backoff = codes ", \"default\": 2"
default_text part.Top key.Scope = codes ", \"default\": 0"
default_text part.Top key.Widen = codes ", \"default\": 0"
default_text part.Top key.Tries = codes ", \"default\": 1"
default_text part.Top key.Steps = codes ", \"default\": 2"
default_text part.Link key.Back = codes ", \"default\": \"delay\""
default_text part.Member key.Join = codes ", \"default\": 0"
default_text part.Loss key.Stream = codes ", \"default\": 0"
default_text part.Loss key.From = codes ", \"default\": 0"
default_text p k = default_of_copies k

-- the rule of a key
abbrev pub rule_text : Part → Rule → List ℕ
rule_text p r =
    codes "{\"key\": \""
    ++ (name_of r.key
    ++ (codes "\", \"needed\": " ++ (need_text r.need
    ++ (codes ", " ++ (kind_text r.kind ++ (default_text p r.key ++ codes "}"))))))

-- what stands before the first rule, and before another
abbrev pub line_end : Bool → List ℕ
line_end true = codes "\n"
line_end false = codes ",\n"

-- the rules of keys that are not refused, of which the next one is the first or not
abbrev pub lines_from : Bool → Part → List Rule → List ℕ
lines_from first p [] = []
lines_from first p (r ∷ rs) =
    if is_refused r.need
    then lines_from first p rs
    else (line_end first ++ rule_text p r) ++ lines_from false p rs

abbrev pub rule_lines : Part → List Rule → List ℕ
rule_lines p rules = lines_from true p rules
