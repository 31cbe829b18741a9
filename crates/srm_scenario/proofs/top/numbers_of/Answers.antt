use Rattle.std.proofs.Common.{◌∙◌, ap, sym, subst, arith}
use Rattle.std.specs.Prelude.{◌==◌, if◌then◌else◌}
use Rattle.toml.specs.View.{table_view}
use Rattle.srm_scenario.specs.declared.parts.Constants.{Constants}
use Rattle.srm_scenario.specs.declared.parts.Room.{Room}
use Rattle.srm_scenario.specs.declared.version.Version.TheVariants.{One, Two, Three, Four, Five}
use Rattle.srm_scenario.specs.Accepted.{AreConstants, IsRecovery}
use Rattle.srm_scenario.specs.Described.{room_of}
use Rattle.srm_scenario.proofs.TopFits.{until_fits, constants_fit, recovery_fits, scope_fits}
use Rattle.srm_scenario.proofs.top.numbers_of.Goals as goal

pub overflow_cast-result : goal.overflow_cast-result
overflow_cast-result c =
    let fits = scope_fits (table_view c.args.table.now) c.requires in
    omega (arith, fits, c.number-3.ensures)

pub returns : goal.returns
returns c =
    let ms = table_view c.args.table.now in
    let until = until_fits ms c.requires in
    record {
      version_is = sym (c.of.ensures ∙ ap (λ n.
          if n == 5 then Five else if n == 4 then Four else if n == 3 then Three else if n == 2 then Two else One)
          c.number.ensures);
      until_is = sym c.number-2.ensures;
      some_ticks = omega (arith, until.0, c.number-2.ensures);
      few_ticks = omega (arith, until.1, c.number-2.ensures);
      constants_are = sym c.constants_of.ensures;
      room_is = sym c.room_of.ensures;
      constants_fit = subst (λ (r : Room). AreConstants c.constants_of.result r) (sym c.room_of.ensures)
          (subst (λ (k : Constants). AreConstants k (room_of ms)) (sym c.constants_of.ensures) (constants_fit ms c.requires));
      scope_is = sym c.number-3.ensures;
      recovery_is = sym c.recovery_of.ensures;
      recovery_fits = subst IsRecovery (sym c.recovery_of.ensures) (recovery_fits ms c.requires);
    }
