-- What is wrong with an element, from what is wrong with its table.
use Rattle.std.proofs.Common.{◌≡◌, ℕ, List, map, ap, refl, subst, Option, Some, None, Result, Ok, Err}
use Rattle.std.specs.Prelude.{IfOk, IfSome}
use Rattle.toml.specs.Data.{Data, Members, as_array, table, get_member}
use Rattle.toml.specs.View.{view, items_view}
use Rattle.toml.specs.declared.value.Value.{Value}
use Rattle.srm_scenario.specs.Described.{array_of}
use Rattle.srm_scenario.proofs.Tables.{array_found}
use Rattle.srm_scenario.specs.Keys.{name_of}
use Rattle.srm_scenario.specs.declared.fault.Part.{Part}
use Rattle.srm_scenario.specs.declared.file_key.FileKey.{FileKey}
use Rattle.srm_scenario.specs.declared.rule.Rule.{Rule}
use Rattle.srm_explain.specs.declared.finding.Finding.{Finding}
use Rattle.srm_explain.specs.declared.finding.Finding.TheVariants as finding
use Rattle.srm_explain.specs.Findings.{array_key, element_of, BreaksArray, BreaksKind, FindsAt, FindsIn}
use Rattle.srm_explain.specs.Findings.{IsBroken, IsFinding}

in_table : (rules : List Rule) (d : Data) (ms : Members) (f : Finding) → d ≡ table ms → IsFinding rules ms f → FindsIn rules d f
in_table rules d ms finding.NoTable is h = absurd h
in_table rules d ms (finding.Unknown key near) is h = (ms, is, h)
in_table rules d ms (finding.Missing r) is h = (ms, is, h)
in_table rules d ms (finding.Below r p i) is h = (ms, is, h)
in_table rules d ms (finding.Wrong r) is h = (ms, is, h)
in_table rules d ms (finding.Refused r) is h = (ms, is, h)
in_table rules d ms (finding.BadItem r i) is h = (ms, is, h)
in_table rules d ms (finding.BadLength r n) is h = (ms, is, h)
in_table rules d ms (finding.Passed r copy n) is h = (ms, is, h)

-- the same of the top table
pub found_at_top : {E : Type 0} (rules : List Rule) (p : Part) (place : ℕ) (top : Members) (r : Result (Option Finding) E)
    → array_key p ≡ None → IfOk r (λ o. IfSome o (IsFinding rules top)) → IfOk r (λ o. IfSome o (FindsAt rules p place top))
found_at_top rules p place top (Ok (Some f)) none h =
    (table top, ap (λ (k : Option FileKey). element_of k place top) none, in_table rules (table top) top f refl h)
found_at_top rules p place top (Ok None) none h = h
found_at_top rules p place top (Err e) none h = h

-- a rule is broken where the value at its key breaks the rule's kind
pub broken_at : (r : Rule) (ms : Members) (d : Data) (f : Finding) → get_member (name_of r.key) ms ≡ Some d → BreaksKind r d f
    → IsBroken r ms f
broken_at r ms d finding.NoTable at h = absurd h
broken_at r ms d (finding.Unknown key near) at h = absurd h
broken_at r ms d (finding.Missing s) at h = absurd h
broken_at r ms d (finding.Below s p i) at h = absurd h
broken_at r ms d (finding.Wrong s) at h = (d, at, h)
broken_at r ms d (finding.BadItem s i) at h = (d, at, h)
broken_at r ms d (finding.BadLength s n) at h = (d, at, h)
broken_at r ms d (finding.Refused s) at h = absurd h
broken_at r ms d (finding.Passed s copy n) at h = absurd h

-- a value breaks a rule's kind as the elements of its array do
in_array : (r : Rule) (d : Data) (f : Finding) → BreaksArray r (array_of (Some d)) f → BreaksKind r d f
in_array r d finding.NoTable h = absurd h
in_array r d (finding.Unknown key near) h = absurd h
in_array r d (finding.Missing s) h = absurd h
in_array r d (finding.Below s p i) h = absurd h
in_array r d (finding.Wrong s) h = absurd h
in_array r d (finding.BadItem s i) h = h
in_array r d (finding.BadLength s n) h = h
in_array r d (finding.Refused s) h = absurd h
in_array r d (finding.Passed s copy n) h = absurd h

pub array_breaks : (r : Rule) (d : Data) (vs : List Value) (o : Option Finding) → Some (items_view vs) ≡ as_array d
    → IfSome o (BreaksArray r (map view vs)) → IfSome o (BreaksKind r d)
array_breaks r d vs None is h = h
array_breaks r d vs (Some f) is h =
    in_array r d f (subst (λ (ds : List Data). BreaksArray r ds f) (array_found (Some d) d vs refl is) h)
