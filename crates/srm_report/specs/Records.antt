-- Texts of records that `csv` writes into memory.
use Rattle.std.specs.Prelude.{◌≡◌, ◌++◌, ℕ, false, List, OnOk, Result, Some}
use Rattle.std.specs.Global.{Vec}
use Rattle.csv.specs.declared.writer.Writer.{Writer}
use Rattle.csv.specs.Writing.{default_writer, fields_written, has_written, row_text, text_written, writer_setup}

-- this text was written, and no record is begun: the next is written as by the default writer
pub record HasText (w : Writer (Vec ℕ)) (text : List ℕ) : Type 0 where
  pub written : text_written (λ (v : Vec ℕ). Some v.items) w ≡ Some text
  pub setup : writer_setup w ≡ default_writer
  pub fields : fields_written w ≡ 0
  pub wrote : has_written w ≡ false

-- behind whichever text was written, a record of these fields was
abbrev pub PutsRecord : {A E : Type 0} → Writer (Vec ℕ) → List (List ℕ) → Result A E → Writer (Vec ℕ) → Type 0
PutsRecord old fields r new =
    (text : List ℕ) → HasText old text → OnOk r (HasText new (text ++ row_text default_writer fields))
