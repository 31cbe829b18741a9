-- Tables beside the members that they stand for, and what their look-ups give.
use Rattle.std.proofs.Common.{arith}
use Rattle.std.proofs.Common.{◌≡◌, ℕ, Bool, List, [], ◌∷◌, Option, Some, None, map, option_map, is_some, ap, refl, sym, ◌∙◌}
use Rattle.std.specs.List.{list_any, list_all}
use Rattle.std.proofs.Common.{length, nat_le}
use Rattle.srm_scenario.specs.declared.rule.ValueKind.TheVariants.{Numbers, Each, Elements, Repeated}
use Rattle.std.specs.Prelude.{◌||◌, ◌&&◌, ◌==◌}
use Rattle.std.specs.Str.{bytes_eq}
use Rattle.toml.specs.Data.{Data, Items, Members, member, string, integer, float, boolean, datetime, array, table, as_array, get_member}
use Rattle.toml.specs.View.{view, items_view, members_view}
use Rattle.std.proofs.Common.{Bor, nat_cmp, string_bytes}
use Rattle.std.specs.BTreeMap.{is_at}
use Rattle.std.specs.Cmp.Lexicographic.{slice_cmp}
use Rattle.std.specs.Map.{lookup}
use Rattle.toml.proofs.Views.{Entry, table_get}
use Rattle.toml.specs.declared.value.Value.{Value}
use Rattle.srm_scenario.specs.Rules.{has_only, is_kind, is_whole, all_whole, count_items, count_made}
use Rattle.srm_scenario.specs.Described.{array_of}
use Rattle.srm_scenario.proofs.Arrays.{items_list-of, count-view, all_whole-view}

pub list_any-map : {A B : Type 0} (p : B → Bool) (f : A → B) (xs : List A) → list_any p (map f xs) ≡ list_any (λ x. p (f x)) xs
list_any-map p f [] = refl
list_any-map p f (x ∷ xs) = ap (λ b. p (f x) || b) (list_any-map p f xs)

pub has_only-step : (keys : List (List ℕ)) (k : List ℕ) (d : Data) (ms : Members) (b : Bool) → list_any (λ key. bytes_eq key k) keys ≡ b
    → has_only keys (member k d ms) ≡ (b && has_only keys ms)
has_only-step keys k d ms b h = ap (λ c. c && has_only keys ms) h

pub is_some-map : {A B : Type 0} (f : A → B) (o : Option A) (p : Option B) → option_map f o ≡ p → is_some o ≡ is_some p
is_some-map f None p e = ap is_some e
is_some-map f (Some x) p e = ap is_some e

-- the values of an array that was found
pub array_found : (o : Option Data) (d : Data) (vs : List Value) → Some d ≡ o → Some (items_view vs) ≡ as_array d
    → map view vs ≡ array_of o
array_found o d vs got is = grind (arith, items_list-of)

-- what was found is no array
pub no_array_found : (o : Option Data) (d : Data) → Some d ≡ o → None ≡ as_array d → [] ≡ array_of o
no_array_found o d got is = grind arith

-- what a table has at a key
pub looked_up : (r : Option (Bor Value)) (name key : List ℕ) (es : List Entry) → name ≡ key
    → option_map (λ x. x.now) r ≡ lookup (is_at (λ x. slice_cmp nat_cmp name (string_bytes x))) es
    → option_map (λ x. view x.now) r ≡ get_member key (members_view es)
looked_up r name key es same found = table_get r name es found ∙ ap (λ (k : List ℕ). get_member k (members_view es)) same

-- whether an array has few enough values
pub are_few : (most : ℕ) (d : Data) (vs : List Value) → Some (items_view vs) ≡ as_array d
    → nat_le (length vs) most ≡ is_kind (Elements most) d
are_few most d vs is = grind (arith, count-view)

-- and each of them is a whole number up to a limit
pub are_small : (most high : ℕ) (d : Data) (vs : List Value) → Some (items_view vs) ≡ as_array d
    → (nat_le (length vs) most && list_all (λ v. is_whole 0 high (view v)) vs) ≡ is_kind (Numbers most high) d
are_small most high (array ds) vs is =
    let same : items_view vs ≡ ds = cc in
    (λ i. nat_le (sym (count-view vs) i) most && all_whole-view 0 high vs i)
    ∙ ap (λ (e : Items). nat_le (count_items e) most && all_whole 0 high e) same
are_small most high (string t) vs is = cc
are_small most high (integer t) vs is = cc
are_small most high (float t) vs is = cc
are_small most high (boolean t) vs is = cc
are_small most high (datetime t) vs is = cc
are_small most high (table t) vs is = cc

-- whether an array has exactly so many values, each of which is a whole number in a range
pub are_exactly : (count low high : ℕ) (d : Data) (vs : List Value) → Some (items_view vs) ≡ as_array d
    → ((length vs == count) && list_all (λ v. is_whole low high (view v)) vs) ≡ is_kind (Each count low high) d
are_exactly count low high d vs is = grind (arith, count-view, all_whole-view)

-- whether the values of an array stand for few enough
pub stand_for_few : (most : ℕ) (d : Data) (vs : List Value) → Some (items_view vs) ≡ as_array d
    → nat_le (count_made (items_view vs)) most ≡ is_kind (Repeated most) d
stand_for_few most d vs is = grind arith
