-- Arrays at the keys of a table.
use Rattle.std.proofs.Common.{◌≡◌, ℕ, suc, ◌≤◌, true, List, [], ◌∷◌, map, flat_map, length, ◌++◌}
use Rattle.std.proofs.Common.{unwrap_or, refl, sym, ap, ◌∙◌, arith}
use Rattle.std.specs.Prelude.{◌&&◌}
use Rattle.std.specs.List.{list_all}
use Rattle.std.proofs.lemmas.Bool.{and_parts}
use Rattle.std.proofs.lemmas.List.{length-map}
use Rattle.toml.specs.Data.{Data, Items, Members, no_items, item}
use Rattle.toml.specs.View.{view, items_of, items_view}
use Rattle.toml.specs.declared.value.Value.{Value}
use Rattle.std.proofs.Common.{codes}
use Rattle.srm_scenario.specs.KeyLimits.{last_page}
use Rattle.srm_scenario.specs.Rules.{count_items, all_whole, is_met, is_whole, pages_rule}
use Rattle.srm_scenario.specs.Described.{items_list, array_at, whole_number_of}

pub items_list-of : (ds : List Data) → items_list (items_of ds) ≡ ds
items_list-of [] = refl
items_list-of (d ∷ ds) = ap (λ l. d ∷ l) (items_list-of ds)

pub items_of-list : (ds : Items) → items_of (items_list ds) ≡ ds
items_of-list no_items = refl
items_of-list (item d ds) = ap (item d) (items_of-list ds)

pub count-items : (ds : List Data) → count_items (items_of ds) ≡ length ds
count-items [] = refl
count-items (d ∷ ds) = ap suc (count-items ds)

pub count-view : (vs : List Value) → count_items (items_view vs) ≡ length vs
count-view vs = count-items (map view vs) ∙ length-map vs view

pub map-view : {A : Type 0} (f : Data → A) (vs : List Value) → map f (map view vs) ≡ map (λ v. f (view v)) vs
map-view f [] = refl
map-view f (v ∷ vs) = ap (λ (l : List _). f (view v) ∷ l) (map-view f vs)

pub flat-view : {A : Type 0} (f : Data → List A) (vs : List Value) → flat_map f (map view vs) ≡ flat_map (λ v. f (view v)) vs
flat-view f [] = refl
flat-view f (v ∷ vs) = ap (λ (l : List _). f (view v) ++ l) (flat-view f vs)

-- each value is a whole number in a range
pub all_whole-view : (low high : ℕ) (vs : List Value) → list_all (λ v. is_whole low high (view v)) vs
    ≡ all_whole low high (items_view vs)
all_whole-view low high [] = refl
all_whole-view low high (v ∷ vs) = ap (λ b. is_whole low high (view v) && b) (all_whole-view low high vs)

-- each page that a member's table lists is a whole number up to the last page
pub pages_whole : (ms : Members) (vs : List Value) → is_met ms pages_rule ≡ true → map view vs ≡ array_at (codes "pages") ms
    → all_whole 0 last_page (items_view vs) ≡ true
pages_whole ms vs h same = grind (arith, items_of-list)

-- the numbers of an array's values are those of the array at its key
pub numbers_read : (key : List ℕ) (ms : Members) (vs : List Value) → map view vs ≡ array_at key ms
    → map (λ v. unwrap_or (whole_number_of (view v)) 0) vs ≡ map (λ d. unwrap_or (whole_number_of d) 0) (array_at key ms)
numbers_read key ms vs same =
    sym (map-view (λ d. unwrap_or (whole_number_of d) 0) vs) ∙ ap (map (λ d. unwrap_or (whole_number_of d) 0)) same

-- a whole number up to a limit is one up to a higher limit
wider : (high most : ℕ) → high ≤ most → (d : Data) → is_whole 0 high d ≡ true → is_whole 0 most d ≡ true
wider high most few d h = grind arith

-- so are all values of an array
pub small_numbers : (high most : ℕ) → high ≤ most → (vs : List Value) → list_all (is_whole 0 high) (map view vs) ≡ true
    → all_whole 0 most (items_view vs) ≡ true
small_numbers high most few [] h = refl
small_numbers high most few (v ∷ vs) h =
    let (one, rest) = and_parts (is_whole 0 high (view v)) (list_all (is_whole 0 high) (map view vs)) h in
    (λ i. wider high most few (view v) one i && small_numbers high most few vs rest i)
