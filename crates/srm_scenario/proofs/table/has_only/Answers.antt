use Rattle.std.proofs.Common.{◌≡◌, ◌∷◌, false, true, arith, map, sym, ◌∙◌, ap, string_bytes}
use Rattle.std.proofs.lemmas.Grind.{common_steps}
use Rattle.std.specs.Str.{bytes_eq}
use Rattle.std.specs.List.{list_any}
use Rattle.toml.proofs.Views.{Entry}
use Rattle.toml.specs.View.{view, members_view}
use Rattle.srm_scenario.specs.Keys.{name_of}
use Rattle.srm_scenario.specs.Rules.{has_only}
use Rattle.srm_scenario.proofs.Tables.{list_any-map, has_only-step}
use Rattle.srm_scenario.proofs.table.has_only.Goals as goal

pub loop-key-preserved : goal.loop-key-preserved
loop-key-preserved c =
    let (can, finite, same) = c.loop-key.invariant in
    let e : Entry = (c.in-Some.key.now, c.in-Some._value.now) in
    let keys = map (λ r. name_of r.key) c.args.rules.now in
    let iter : c.loop-key.key-iterator ≡ e ∷ c.next.new.self = grind (arith, common_steps) in
    let tested : c.is_known.result ≡ list_any (λ r. bytes_eq (name_of r.key) (string_bytes e.0)) c.args.rules.now =
    rw (← c.as_str.ensures.value) c.is_known.ensures in
    let known : list_any (λ k. bytes_eq k (string_bytes e.0)) keys ≡ true = list_any-map _ (λ r. name_of r.key) c.args.rules.now
    ∙ sym tested ∙ c.if-not-is_known.false in
    let step = has_only-step keys (string_bytes e.0) (view e.1) (members_view c.next.new.self) true known in
    (tt, tt, sym step ∙ ap (λ es. has_only keys (members_view es)) (sym iter) ∙ same)

pub returns-then-not-is_known : goal.returns-then-not-is_known
returns-then-not-is_known c =
    let (can, finite, same) = c.loop-key.invariant in
    let e : Entry = (c.in-Some.key.now, c.in-Some._value.now) in
    let keys = map (λ r. name_of r.key) c.args.rules.now in
    let iter : c.loop-key.key-iterator ≡ e ∷ c.next.new.self = grind (arith, common_steps) in
    let tested : c.is_known.result ≡ list_any (λ r. bytes_eq (name_of r.key) (string_bytes e.0)) c.args.rules.now =
    rw (← c.as_str.ensures.value) c.is_known.ensures in
    let known : list_any (λ k. bytes_eq k (string_bytes e.0)) keys ≡ false = list_any-map _ (λ r. name_of r.key) c.args.rules.now
    ∙ sym tested ∙ c.if-not-is_known.true in
    let step = has_only-step keys (string_bytes e.0) (view e.1) (members_view c.next.new.self) false known in
    sym step ∙ ap (λ es. has_only keys (members_view es)) (sym iter) ∙ same
