use Rattle.std.proofs.Common.{◌∙◌, ◌+◌, ◌++◌, ◌∷◌, [], zero, suc, List, Option, None, length, sym, ap, subst}
use Rattle.std.proofs.lemmas.List.{length_push}
use Rattle.srm_team.specs.Tells.{AllNone}
use Rattle.srm_team.proofs.slots.empty_slots.Goals as goal

none_more : {D : Type 0} (slots : List (Option D)) → AllNone slots → AllNone (slots ++ None ∷ [])
none_more [] n zero d h = cc
none_more [] n (suc p) d h = cc
none_more (s ∷ slots) n zero d h = n zero d h
none_more (s ∷ slots) n (suc p) d h = none_more slots (λ q. n (suc q)) p d h

pub loop-preserved : goal.loop-preserved
loop-preserved g c = record {
  long = ap length c.in_ok-push.ensures.items ∙ length_push c.loop.slots.items None ∙ ap (λ n. n + 1) c.loop.invariant.long;
  none = subst AllNone (sym c.in_ok-push.ensures.items) (none_more c.loop.slots.items c.loop.invariant.none);
}
