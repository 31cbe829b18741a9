use Rattle.std.proofs.Common.{◌≡◌, ◌∙◌, ◌+◌, ◌-◌, ◌++◌, ◌∷◌, [], ℕ, List, Option, Some, None, length, length-append}
use Rattle.std.proofs.Common.{append_assoc, drop, take, ap, sym, subst, arith}
use Rattle.std.proofs.lemmas.Option.{same_Some}
use Rattle.csv.specs.Machine.{line_feed}
use Rattle.csv.specs.Writing.{default_writer, row_text}
use Rattle.memchr.specs.Find.{IsFirstByte, is_byte}
use Rattle.srm_report.specs.Seeds.{IsLine}
use Rattle.srm_report.proofs.SeedLemmas.{first_feed, line_ends}
use Rattle.srm_report.proofs.TextLemmas.{drop-whole}
use Rattle.srm_report.proofs.seeds.end_of_line.Goals as goal

-- the first line feed of what stands from here on is that of the line
found : (text : List ℕ) (start : ℕ) (r : Option ℕ) (fields : List (List ℕ)) (rest : List ℕ)
    → IsFirstByte (is_byte line_feed) (take (length text - start) (drop start text)) r → IsLine fields
    → drop start text ≡ row_text default_writer fields ++ rest
    → (at : ℕ) × (r ≡ Some at) × (length (row_text default_writer fields) ≡ at + 1)
found text start r fields rest first is whole =
    let line = line_ends fields is in
    let all : take (length text - start) (drop start text) ≡ line.0 ++ line_feed ∷ rest =
    drop-whole start text ∙ whole ∙ ap (λ l. l ++ rest) line.2 ∙ append_assoc line.0 (line_feed ∷ []) rest in (
      length line.0,
      first_feed line.0 rest line.1 r (subst (λ l. IsFirstByte (is_byte line_feed) l r) all first),
      ap length line.2 ∙ length-append line.0 (line_feed ∷ []),
    )

pub returns-in-Some-clause-line : goal.returns-in-Some-clause-line
returns-in-Some-clause-line c = λ fields rest is whole.
    let f = found c.args.text.now c.args.start c.memchr.result fields rest c.memchr.ensures is whole in
    let at : c.in-Some.at ≡ f.0 = same_Some _ _ (sym c.in-Some.is ∙ f.1) in
    omega (arith, at, f.2)

pub returns-in-None-clause-line : goal.returns-in-None-clause-line
returns-in-None-clause-line c = λ fields rest is whole.
    let f = found c.args.text.now c.args.start c.memchr.result fields rest c.memchr.ensures is whole in
    let none : None ≡ Some f.0 = sym c.in-None.is ∙ f.1 in
    absurd (cc none)
