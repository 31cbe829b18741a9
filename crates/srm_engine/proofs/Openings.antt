-- Members that are made one by one, each with the record with which it begins.
use Rattle.std.proofs.Common.{◌≡◌, ◌∙◌, ℕ, ◌+◌, List, [], ◌∷◌, ◌++◌, map, sym, zero-add}
use Rattle.std.proofs.lemmas.List.{map-append}
use Rattle.std.proofs.lemmas.List.FromFn.{map-range_with_len_more}
use Rattle.std.specs.List.{range_with_len}
use Rattle.srm_scenario.specs.Plain.{PlainScenario}
use Rattle.srm_member.specs.Record.{Record, opening_record}
use Rattle.srm_cell.specs.Setting.{fixed_of}

-- the opening records of n members from i on
abbrev pub records_from : PlainScenario → ℕ → ℕ → ℕ → List Record
records_from p seed i n = map (λ m. opening_record (fixed_of p seed m)) (range_with_len i n)

-- one member more
pub opening-push : {B : Type 0} (f : B → Record) (p : PlainScenario) (seed n : ℕ) (bs : List B) (b : B)
    → map f bs ≡ records_from p seed 0 n → f b ≡ opening_record (fixed_of p seed n)
    → map f (bs ++ b ∷ []) ≡ records_from p seed 0 (n + 1)
opening-push f p seed n bs b before at =
    map-append f bs (b ∷ []) ∙ (λ i. before i ++ at i ∷ [])
    ∙ sym (map-range_with_len_more (λ m. opening_record (fixed_of p seed m)) 0 n n (zero-add n))
