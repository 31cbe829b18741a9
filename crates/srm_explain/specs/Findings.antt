-- What is wrong with the keys of a table, and what is said of it.
use Rattle.std.specs.Prelude.{◌≡◌, ◌⊎◌, ◌&&◌, ◌+◌, ◌*◌, ◌==◌, not, nat_le, nat_lt, ℕ, Bool}
use Rattle.std.specs.Prelude.{true, false, List, [], ◌∷◌, ◌++◌, Option, Some, None, codes, decimal}
use Rattle.std.specs.Prelude.{IsSome, IfSome, is_some, length, map, slice_get, sum_by, string_bytes, if◌then◌else◌}
use Rattle.std.specs.List.{list_any}
use Rattle.std.specs.Str.{bytes_eq}
use Rattle.toml.specs.Data.{Data, Members, table, as_table, get_member}
use Rattle.srm_scenario.specs.declared.fault.Part.{Part}
use Rattle.srm_scenario.specs.declared.fault.Part.TheVariants as part
use Rattle.srm_scenario.specs.declared.form.Form.{Form}
use Rattle.srm_scenario.specs.declared.parts.Constants.{Constants}
use Rattle.srm_scenario.specs.declared.file_key.FileKey.{FileKey}
use Rattle.srm_scenario.specs.declared.file_key.FileKey.TheVariants as key
use Rattle.srm_scenario.specs.declared.rule.ValueKind.{ValueKind}
use Rattle.srm_scenario.specs.declared.rule.ValueKind.TheVariants.{Whole, Word, Numbers, Each, Elements, Repeated}
use Rattle.srm_scenario.specs.declared.rule.Need.{Need}
use Rattle.srm_scenario.specs.declared.rule.Need.TheVariants.{Required, Refused}
use Rattle.srm_scenario.specs.declared.rule.Rule.{Rule}
use Rattle.srm_scenario.specs.declared.rule.Words.TheVariants.{Roles, Topologies, TopologiesAndParents}
use Rattle.srm_scenario.specs.Keys.{name_of}
use Rattle.srm_scenario.specs.Rules.{is_kind, is_whole, has_only, link_rules, member_rules, draw_rules, session_rules}
use Rattle.srm_scenario.specs.Rules.{drop_rules, outage_rules, loss_rules, times_repeated, top_rules}
use Rattle.srm_scenario.specs.Described.{array_at, array_of, constants_of, every_of, form_of, names_parents, number}
use Rattle.srm_scenario.specs.Described.{version_of}
use Rattle.srm_scenario.specs.declared.version.Version.{Version}
use Rattle.srm_scenario.specs.declared.version.Version.TheVariants.{Two, Three, Four, Five}
use Rattle.srm_explain.specs.declared.finding.Finding.{Finding}
use Rattle.srm_explain.specs.declared.finding.Finding.TheVariants as finding

-- ---- what is found

-- whether a top table names a topology
abbrev pub is_shaped : Members → Bool
is_shaped top = is_some (get_member (codes "topology") top)

-- the rules of a part of a file in a version of the format, where the top table has these constants and this form
abbrev pub rules_with : Version → Part → Constants → Form → List Rule
rules_with version part.Top first form = top_rules version first form
rules_with version part.Link first form = link_rules version
rules_with version part.Member first form = member_rules version
rules_with version part.Draw first form = draw_rules version
rules_with version part.Session first form = session_rules version
rules_with version part.Drop first form = drop_rules version
rules_with version part.Outage first form = outage_rules version
rules_with version part.Loss first form = loss_rules version

-- the same, where this is the top table
abbrev pub rules_for : Version → Part → Members → List Rule
rules_for version p top = rules_with version p (constants_of top) (form_of top)

-- the same, in the version that the top table names
abbrev pub rules_in : Part → Members → List Rule
rules_in p top = rules_for (version_of top) p top

-- the key of the array whose elements a part is
abbrev pub array_key : Part → Option FileKey
array_key part.Top = None
array_key part.Link = Some key.Link
array_key part.Member = Some key.Member
array_key part.Draw = Some key.Draw
array_key part.Session = Some key.Session
array_key part.Drop = Some key.Drop
array_key part.Outage = Some key.Outage
array_key part.Loss = Some key.Loss

-- the name of the array whose elements a part is
abbrev pub name_at : Option FileKey → List ℕ
name_at None = []
name_at (Some k) = name_of k

abbrev pub word_of : Part → List ℕ
word_of p = name_at (array_key p)

-- the elements of the array at a key; none where there is no key
abbrev pub elements_of : Option FileKey → Members → List Data
elements_of None top = []
elements_of (Some k) top = array_at (name_of k) top

-- the element at a place of the array at a key, and the top table itself where there is no key
abbrev pub element_of : Option FileKey → ℕ → Members → Option Data
element_of None place top = Some (table top)
element_of (Some k) place top = slice_get (array_at (name_of k) top) place

-- what stands at a place of a part
abbrev pub data_at : Part → ℕ → Members → Option Data
data_at p place top = element_of (array_key p) place top

-- one of the rules is that of this key
abbrev pub HasKey : List Rule → FileKey → Type 0
HasKey rules key = (i : ℕ) × (r : Rule) × (slice_get rules i ≡ Some r) × (r.key ≡ key)

-- by how much the number at a key rises from copy to copy of an element, if it rises, where copies are so far apart
abbrev pub rise_of : FileKey → ℕ → Option ℕ
rise_of key.Node every = Some every
rise_of key.Stream every = Some 1
rise_of key.At every = Some every
rise_of key.Count every = Some every
rise_of key.From every = Some every
rise_of key.To every = Some every
rise_of k every = None

-- the same of a loss
abbrev pub loss_rise_of : FileKey → ℕ → Option ℕ
loss_rise_of key.Link every = Some every
loss_rise_of k every = None

-- the same in a table: that of a loss has a rate, and no other has one
abbrev pub rise_in : Members → FileKey → Option ℕ
rise_in ms k =
    if is_some (get_member (codes "rate") ms)
    then loss_rise_of k (every_of (table ms))
    else rise_of k (every_of (table ms))

-- this is one of the copies for which a table stands, and in it this number stands at the rule's key, and passes the
-- rule's range
abbrev pub PassesRange : Rule → Members → ℕ → ℕ → Type 0
PassesRange r ms copy n =
    (rise : ℕ) × (rise_in ms r.key ≡ Some rise)
    × (low : ℕ) × (last : ℕ) × (r.kind ≡ Whole low last)
    × (nat_lt copy (times_repeated (table ms)) ≡ true)
    × (n ≡ number (name_of r.key) ms + copy * rise) × (nat_lt last n ≡ true)

-- how many elements these are; where a kind says for how many they stand, for how many they do
abbrev pub length_by : ValueKind → List Data → ℕ
length_by (Repeated most) ds = sum_by times_repeated ds
length_by kind ds = length ds

-- whether an array of this kind may have so many elements, or stand for so many
abbrev pub is_length : ValueKind → ℕ → Bool
is_length (Numbers most high) n = nat_le n most
is_length (Each count low high) n = n == count
is_length (Elements most) n = nat_le n most
is_length (Repeated most) n = nat_le n most
is_length kind n = true

-- whether an array of this kind may have this element
abbrev pub is_item : ValueKind → Data → Bool
is_item (Numbers most high) d = is_whole 0 high d
is_item (Each count low high) d = is_whole low high d
is_item kind d = true

-- the element at this place is none that an array of this kind may have
abbrev pub IsBadItem : ValueKind → List Data → ℕ → Type 0
IsBadItem kind ds i = (d : Data) × (slice_get ds i ≡ Some d) × (is_item kind d ≡ false)

-- the elements break the rule's kind as is told: one of them does, or their number
abbrev pub BreaksArray : Rule → List Data → Finding → Type 0
BreaksArray r ds (finding.BadItem s i) = (s ≡ r) × IsBadItem r.kind ds i
BreaksArray r ds (finding.BadLength s n) = (s ≡ r) × (n ≡ length_by r.kind ds) × (is_length r.kind n ≡ false)
BreaksArray r ds f = ⊥

-- the value breaks the rule's kind as is told
abbrev pub BreaksKind : Rule → Data → Finding → Type 0
BreaksKind r d (finding.Wrong s) = (s ≡ r) × (is_kind r.kind d ≡ false)
BreaksKind r d f = BreaksArray r (array_of (Some d)) f

-- whether the value is a table with this key
abbrev pub holds_key : FileKey → Data → Bool
holds_key k (table ms) = is_some (get_member (name_of k) ms)
holds_key k d = false

-- the value at this place has this key
abbrev pub HoldsAt : FileKey → List Data → ℕ → Type 0
HoldsAt k ds i = (d : Data) × (slice_get ds i ≡ Some d) × (holds_key k d ≡ true)

-- an element of an array of this table has this key
abbrev pub StandsBelow : Members → FileKey → Part → ℕ → Type 0
StandsBelow ms k p i = HoldsAt k (elements_of (array_key p) ms) i

-- the rule is broken as is told: its key has to be there and is not, or must not be there and is, or what stands at it
-- is not of the rule's kind, or passes its range in a copy
abbrev pub IsBroken : Rule → Members → Finding → Type 0
IsBroken r ms (finding.Missing s) = (s ≡ r) × (r.need ≡ Required) × (get_member (name_of r.key) ms ≡ None)
IsBroken r ms (finding.Below s p i) =
    (s ≡ r) × (r.need ≡ Required) × (get_member (name_of r.key) ms ≡ None) × StandsBelow ms r.key p i
IsBroken r ms (finding.Refused s) = (s ≡ r) × (r.need ≡ Refused) × IsSome (get_member (name_of r.key) ms)
IsBroken r ms (finding.Passed s copy n) = (s ≡ r) × PassesRange r ms copy n
IsBroken r ms finding.NoTable = ⊥
IsBroken r ms (finding.Unknown key near) = ⊥
IsBroken r ms f = (d : Data) × (get_member (name_of r.key) ms ≡ Some d) × BreaksKind r d f

-- this is wrong with a table beside these rules: a key of it is none of theirs, or one of them is broken
abbrev pub IsFinding : List Rule → Members → Finding → Type 0
IsFinding rules ms finding.NoTable = ⊥
IsFinding rules ms (finding.Unknown key near) =
    (has_only (map (λ r. name_of r.key) rules) ms ≡ false)
    × (list_any (λ r. bytes_eq (name_of r.key) (string_bytes key)) rules ≡ false)
    × IfSome near (HasKey rules)
IsFinding rules ms f = (i : ℕ) × (r : Rule) × (slice_get rules i ≡ Some r) × IsBroken r ms f

-- this is wrong with a value beside these rules: it is no table, or something is wrong with the table
abbrev pub FindsIn : List Rule → Data → Finding → Type 0
FindsIn rules d finding.NoTable = as_table d ≡ None
FindsIn rules d f = (ms : Members) × (d ≡ table ms) × IsFinding rules ms f

-- this is wrong at a place of a part beside these rules
abbrev pub FindsAt : List Rule → Part → ℕ → Members → Finding → Type 0
FindsAt rules p place top f = (d : Data) × (data_at p place top ≡ Some d) × FindsIn rules d f

-- whether rules allow a key
abbrev pub is_refused : Need → Bool
is_refused Refused = true
is_refused need = false

abbrev pub allows : List Rule → FileKey → Bool
allows rules key = list_any (λ r. bytes_eq (name_of r.key) (name_of key) && not (is_refused r.need)) rules

-- why a key is not allowed in a table that names a topology
abbrev pub IsTopologyReason : Members → FileKey → List ℕ → Type 0
IsTopologyReason top k reason =
    ((reason ≡ codes " unless topology is \"tree\"") × (k ≡ key.Degree) × (is_shaped top ≡ true))
    ⊎ ((reason ≡ codes " beside parent: there is one node more than parents") × (k ≡ key.Size)
    × (names_parents top ≡ true))
    ⊎ ((reason ≡ codes " beside delays") × (k ≡ key.Delay) × (is_some (get_member (codes "delays") top) ≡ true))
    ⊎ ((reason ≡ codes " beside backs") × (k ≡ key.Back) × (is_some (get_member (codes "backs") top) ≡ true))
    ⊎ ((reason ≡ codes " beside topology") × (is_shaped top ≡ true))

-- whether a key says something of the parents of nodes, or of the links to them
abbrev pub is_for_parents : FileKey → Bool
is_for_parents key.Parent = true
is_for_parents key.Delays = true
is_for_parents key.Backs = true
is_for_parents key = false

-- why a key is not allowed that no version has beside such a topology
abbrev pub IsReasonOfForm : Members → FileKey → List ℕ → Type 0
IsReasonOfForm top key reason =
    ((reason ≡ codes " unless topology is \"parents\", which version 3 has") × (is_for_parents key ≡ true)
    × (names_parents top ≡ false))
    ⊎ ((reason ≡ codes " without topology") × (is_shaped top ≡ false))
    ⊎ IsTopologyReason top key reason

-- the first version after version 1 that has a key of this part, if one has it
abbrev pub first_version_with : Part → Members → FileKey → Option Version
first_version_with p top key =
    if allows (rules_for Two p top) key
    then Some Two
    else if allows (rules_for Three p top) key
    then Some Three
    else if allows (rules_for Four p top) key
    then Some Four else if allows (rules_for Five p top) key then Some Five else None

-- why a key is not allowed, where this is the first version after version 1 that has it
abbrev pub IsReasonSince : Option Version → Members → FileKey → List ℕ → Type 0
IsReasonSince (Some Two) top key reason = reason ≡ codes " in version 1; version 2 has it"
IsReasonSince (Some Three) top key reason = reason ≡ codes " in this version; version 3 has it"
IsReasonSince (Some Four) top key reason = reason ≡ codes " in this version; version 4 has it"
IsReasonSince (Some Five) top key reason = reason ≡ codes " in this version; version 5 has it"
IsReasonSince since top key reason = IsReasonOfForm top key reason

-- why a key of this part is not allowed
abbrev pub IsReason : Part → Members → FileKey → List ℕ → Type 0
IsReason p top key reason = IsReasonSince (first_version_with p top key) top key reason

-- what is said besides of a value that is not of this kind: of a topology that a later version has, that it has it
abbrev pub IsReasonOfKind : Members → ValueKind → List ℕ → Type 0
IsReasonOfKind top kind reason =
    ((reason ≡ codes "; version 3 has \"parents\" too") × (kind ≡ Word Topologies) × (names_parents top ≡ true))
    ⊎ (reason ≡ [])

-- what is said besides of an unknown key: of one of the top table, that it is one
abbrev pub IsReasonOfUnknown : Members → List ℕ → List ℕ → Type 0
IsReasonOfUnknown top key reason =
    ((reason ≡ codes "\n  it is a key of the top table, whose keys come before the first [[..]]")
    × (list_any (λ r. bytes_eq (name_of r.key) key) (rules_in part.Top top) ≡ true))
    ⊎ (reason ≡ [])

-- what follows a sentence: of a key that is not allowed the reason, of an unknown one whether the top table has it, and
-- of a value what is said besides of its kind
abbrev pub FollowsSentence : Part → Members → Finding → List ℕ → Type 0
FollowsSentence p top (finding.Refused r) reason = IsReason p top r.key reason
FollowsSentence p top (finding.Unknown key near) reason = IsReasonOfUnknown top (string_bytes key) reason
FollowsSentence p top (finding.Wrong r) reason = IsReasonOfKind top r.kind reason
FollowsSentence p top f reason = reason ≡ []

-- ---- what is said of it

-- what a key may hold
abbrev pub allowed : ValueKind → List ℕ
allowed (Whole low high) = codes "a whole number from " ++ (decimal low ++ (codes " to " ++ decimal high))
allowed (Word Roles) = codes "one of \"sender\", \"receiver\", \"late\", \"listener\""
allowed (Word Topologies) = codes "one of \"chain\", \"star\", \"tree\""
allowed (Word TopologiesAndParents) = codes "one of \"chain\", \"star\", \"tree\", \"parents\""
allowed (Numbers most high) =
    codes "an array of at most " ++ (decimal most ++ (codes " whole numbers from 0 to " ++ decimal high))
allowed (Each count low high) =
    codes "an array with one number for each of "
    ++ (decimal count ++ (codes " links, from " ++ (decimal low ++ (codes " to " ++ decimal high))))
allowed (Elements most) = codes "an array of at most " ++ (decimal most ++ codes " tables")
allowed (Repeated most) = codes "an array of tables that stand for at most " ++ decimal most

-- the keys that rules allow, each with a space in front
abbrev pub keys_of : List Rule → List ℕ
keys_of [] = []
keys_of (r ∷ rs) = if is_refused r.need then keys_of rs else (codes " " ++ name_of r.key) ++ keys_of rs

-- what number a copy would have
abbrev pub copy_has : ℕ → ℕ → List ℕ
copy_has copy n = codes "; copy " ++ (decimal copy ++ (codes ", counted from 0, would have " ++ decimal n))

-- what is said of a copy whose number passes the range of its key's rule
abbrev pub passed_sentence : Rule → ℕ → ℕ → List ℕ
passed_sentence r copy n = name_of r.key ++ (codes " is " ++ (allowed r.kind ++ copy_has copy n))

-- what is said of an element of an array, and of how many there are or for how many they stand
abbrev pub item_is_none : ℕ → List ℕ
item_is_none i = codes "; element " ++ (decimal i ++ codes " of it, counted from 0, is none")

abbrev pub item_sentence : Rule → ℕ → List ℕ
item_sentence r i = name_of r.key ++ (codes " is " ++ (allowed r.kind ++ item_is_none i))

abbrev pub length_sentence : Rule → ℕ → List ℕ
length_sentence r n = name_of r.key ++ (codes " is " ++ (allowed r.kind ++ (codes "; these are " ++ decimal n)))

-- what is said of a key that stands in an element of a part
abbrev pub below_sentence : Rule → Part → ℕ → List ℕ
below_sentence r p i =
    name_of r.key
    ++ (codes " is missing: it stands in " ++ (word_of p ++ (codes " " ++ (decimal i
    ++ (codes ", and keys of the top table come before the first [[" ++ (word_of p ++ codes "]]"))))))

-- what is said of what is wrong with a table beside these rules
abbrev pub sentence_of : List Rule → Finding → List ℕ
sentence_of rules finding.NoTable = codes "this is no table\n  the keys of one here are" ++ keys_of rules
sentence_of rules (finding.Unknown key None) =
    codes "there is no such key here\n  the keys here are" ++ keys_of rules
sentence_of rules (finding.Unknown key (Some near)) =
    codes "there is no such key here; did you mean "
    ++ (name_of near ++ (codes "?\n  the keys here are" ++ keys_of rules))
sentence_of rules (finding.Missing r) = name_of r.key ++ (codes " is missing: it is " ++ allowed r.kind)
sentence_of rules (finding.Below r p i) = below_sentence r p i
sentence_of rules (finding.Wrong r) = name_of r.key ++ (codes " is " ++ allowed r.kind)
sentence_of rules (finding.BadItem r i) = item_sentence r i
sentence_of rules (finding.BadLength r n) = length_sentence r n
sentence_of rules (finding.Refused r) = name_of r.key ++ codes " is not allowed"
sentence_of rules (finding.Passed r copy n) = passed_sentence r copy n

-- the lines below a picture: the sentence, and what follows it
abbrev pub TellsNotes : List Rule → Part → Members → Finding → List ℕ → Type 0
TellsNotes rules p top f told =
    (reason : List ℕ) × FollowsSentence p top f reason
    × (told ≡ codes "  " ++ (sentence_of rules f ++ (reason ++ 10 ∷ [])))
