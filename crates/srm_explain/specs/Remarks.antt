-- What is remarked of a scenario that is accepted.
use Rattle.std.specs.Prelude.{◌≡◌, ℕ, Bool, true, false, ◌&&◌, nat_le, nat_lt, List, [], ◌++◌, Option, Some, None}
use Rattle.std.specs.Prelude.{codes, decimal, IsUtf8}
use Rattle.toml.specs.Data.{Members}
use Rattle.toml.specs.Parse.{parse_document}
use Rattle.srm_scenario.specs.declared.file_key.FileKey.{FileKey}
use Rattle.srm_scenario.specs.declared.file_key.FileKey.TheVariants.{C1, C2, D1, D2}
use Rattle.srm_scenario.specs.Keys.{name_of}
use Rattle.srm_scenario.specs.Described.{number}

-- whether a constant, in thousandths, is hardly ever meant: one that is told without them is 1 to 64
abbrev pub is_hardly_meant : ℕ → Bool
is_hardly_meant n = nat_le 1 n && nat_lt n 65

-- what is said of the constant at a key
abbrev pub remark_line : FileKey → ℕ → List ℕ
remark_line k n =
    codes "remark: "
    ++ (name_of k ++ (codes " is in thousandths: where " ++ (decimal n ++ (codes " is meant, write "
    ++ (decimal n ++ codes "000\n")))))

-- lines tell what is remarked of a constant, where it is hardly ever meant or not; of what stands below is said nothing
abbrev pub TellsIf : Bool → List ℕ → List ℕ → Type 0
TellsIf true line told = (picture : List ℕ) × (told ≡ line ++ picture)
TellsIf false line told = told ≡ []

-- so of the constant at a key
abbrev pub TellsRemark : Members → FileKey → List ℕ → Type 0
TellsRemark top k told =
    TellsIf (is_hardly_meant (number (name_of k) top)) (remark_line k (number (name_of k) top)) told

-- lines tell what is remarked of a document, one constant after the other; of no document nothing
abbrev pub RemarksOn : Option Members → List ℕ → Type 0
RemarksOn None told = told ≡ []
RemarksOn (Some top) told =
    (c1 c2 d1 d2 : List ℕ) × TellsRemark top C1 c1 × TellsRemark top C2 c2 × TellsRemark top D1 d1
    × TellsRemark top D2 d2 × (told ≡ c1 ++ (c2 ++ (d1 ++ d2)))

-- the same of a text in UTF-8
abbrev pub Remarks : List ℕ → List ℕ → Type 0
Remarks text told = IsUtf8 text → RemarksOn (parse_document text) told
