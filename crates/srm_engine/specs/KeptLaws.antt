-- How what sinks in memory keep composes over calls.
use Rattle.std.specs.Prelude.{List, [], ◌++◌, refl}
use Rattle.std.proofs.Common.{◌∙◌, ap, sym, append_assoc, append-nil}
use Rattle.srm_member.specs.declared.row.Row.{Row}
use Rattle.srm_engine.specs.declared.kept_rows.KeptRows.{KeptRows}
use Rattle.srm_engine.specs.Kept.{rows_kept, Keeps, KeepsFront}

pub keeps_none : (a : KeptRows) → Keeps a [] a
keeps_none a = sym (append-nil (rows_kept a))

pub keeps_more : (a b c : KeptRows) (xs ys : List Row) → Keeps a xs b → Keeps b ys c → Keeps a (xs ++ ys) c
keeps_more a b c xs ys h k = k ∙ ap (λ (l : List Row). l ++ ys) h ∙ append_assoc (rows_kept a) xs ys

pub front_kept_none : (a : KeptRows) → KeepsFront a [] a
front_kept_none a = ([], [], refl, keeps_none a)

pub front_kept_more : (a b c : KeptRows) (xs ys : List Row) → Keeps a xs b → KeepsFront b ys c
    → KeepsFront a (xs ++ ys) c
front_kept_more a b c xs ys h k =
    (xs ++ k.0, k.1, ap (λ (l : List Row). xs ++ l) k.2 ∙ sym (append_assoc xs k.0 k.1), keeps_more a b c xs k.0 h k.3)

pub front_kept_longer : (a b : KeptRows) (xs ys : List Row) → KeepsFront a xs b → KeepsFront a (xs ++ ys) b
front_kept_longer a b xs ys k = (k.0, k.1 ++ ys, ap (λ (l : List Row). l ++ ys) k.2 ∙ append_assoc k.0 k.1 ys, k.3)
