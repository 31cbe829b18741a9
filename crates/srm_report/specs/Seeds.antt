-- Tables of several runs, whose rows begin with the seed of their run.
use Rattle.std.specs.Prelude.{◌≡◌, ℕ, false, List, [], ◌∷◌, map, decimal}
use Rattle.csv.specs.Writing.{default_writer, needs_quotes}

-- the rows of a run, each with the seed of the run in front
abbrev pub with_seed : ℕ → List (List (List ℕ)) → List (List (List ℕ))
with_seed seed rows = map (λ fields. decimal seed ∷ fields) rows

-- no byte of the field calls for quotes
abbrev pub IsPlain : List ℕ → Type 0
IsPlain field = needs_quotes default_writer field ≡ false

abbrev pub ArePlain : List (List ℕ) → Type 0
ArePlain [] = Unit {0}
ArePlain (f ∷ fs) = IsPlain f × ArePlain fs

-- a row of two fields at least, none of which calls for quotes: its text is one line
abbrev pub IsLine : List (List ℕ) → Type 0
IsLine (f ∷ g ∷ fs) = ArePlain (f ∷ g ∷ fs)
IsLine _ = ⊥

abbrev pub AreLines : List (List (List ℕ)) → Type 0
AreLines [] = Unit {0}
AreLines (r ∷ rs) = IsLine r × AreLines rs
