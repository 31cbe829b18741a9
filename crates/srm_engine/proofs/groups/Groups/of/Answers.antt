use Rattle.std.proofs.Common.{◌∙◌, sym, ap, subst}
use Rattle.srm_engine.specs.Seen.{AreInOrder}
use Rattle.srm_engine.specs.Groups.{AreGrouped}
use Rattle.srm_engine.specs.Soonest.{soon_in}
use Rattle.srm_engine.specs.Starts.{setting_on}
use Rattle.srm_engine.proofs.groups.Groups.of.Goals as goal

pub returns-clause-kept : goal.returns-clause-kept
returns-clause-kept g c = λ seed h.
    let f = g.M.Participant.plain in
    let groups = c.in_ok-groups.groups.items in
    let grouped : AreGrouped f c.args.cut groups =
    record { order = subst (AreInOrder f) (sym c.in_ok-groups.ensures.same) h; cuts = c.in_ok-groups.ensures.cuts } in record {
      cut = c.requires.cut;
      grouped = grouped;
      soon = c.in_ok-soon.ensures seed (subst (AreGrouped f c.args.cut) (sym c.as_slice.ensures.value) grouped)
          ∙ ap (soon_in f (setting_on c.args.session seed)) c.as_slice.ensures.value;
    }
