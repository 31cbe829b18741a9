-- The values of an array, as they are read.
use Rattle.std.proofs.Common.{◌≡◌, ◌∙◌, ℕ, ◌+◌, ◌<◌, List, Some, length, map, take, get_or, slice_get, sum_by, refl, sym, ap, arith}
use Rattle.std.proofs.lemmas.List.{get_or-map, length-map}
use Rattle.std.proofs.lemmas.List.Sums.{sum_by_more}
use Rattle.std.proofs.lemmas.Option.{slice_get_read}
use Rattle.std.specs.Prelude.{option_map}
use Rattle.std.proofs.lemmas.Option.{slice_get-map}
use Rattle.toml.specs.Data.{Data}
use Rattle.toml.specs.View.{view}
use Rattle.toml.specs.declared.value.Value.{Value}
use Rattle.srm_scenario.specs.Rules.{times_repeated}

-- the value at a place
pub value_at : (vs : List Value) (i : ℕ) (v : Value) → i < length vs → v ≡ get_or vs i v → slice_get (map view vs) i ≡ Some (view v)
value_at vs i v within read =
    slice_get-map view vs i ∙ ap (option_map view) (slice_get_read vs (length vs) i v refl within read)

-- for how many elements values stand together with the next one
pub made_more : (vs : List Value) (i : ℕ) (v : Value) → i < length vs → v ≡ get_or vs i v
    → sum_by times_repeated (take (i + 1) (map view vs)) ≡ sum_by times_repeated (take i (map view vs)) + times_repeated (view v)
made_more vs i v within read =
    let many : length (map view vs) ≡ length vs = length-map vs view in
    let inside : i < length (map view vs) = omega (arith, many) in
    let last = sum_by_more times_repeated (map view vs) i (view v) inside in
    let same : get_or (map view vs) i (view v) ≡ view v = get_or-map view vs i v (view v) within ∙ ap view (sym read) in
    last ∙ ap (λ (d : Data). sum_by times_repeated (take i (map view vs)) + times_repeated d) same
