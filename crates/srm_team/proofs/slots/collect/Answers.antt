use Rattle.std.proofs.Common.{◌≡◌, ◌∙◌, ◌++◌, ◌∷◌, [], List, Option, Some, map, refl, sym, ap, rules, arith}
use Rattle.std.proofs.lemmas.Grind.{common_steps}
use Rattle.std.specs.Vec.Iter.{into_iter_items}
use Rattle.srm_team.proofs.slots.collect.Goals as goal

moved : {A : Type 0} (xs : List A) (x : A) (ys : List (Option A)) → map Some (xs ++ x ∷ []) ++ ys ≡ map Some xs ++ Some x ∷ ys
moved [] x ys = refl
moved (y ∷ xs) x ys = ap (λ zs. Some y ∷ zs) (moved xs x ys)

pub loop-slot-preserved : goal.loop-slot-preserved
loop-slot-preserved g c =
    let all = c.loop-slot.all.items in
    let rest = into_iter_items c.next.new.self in
    let pushed : c.push.new.self.items ≡ all ++ c.in-Some-slot.result ∷ [] = search rules in (
      tt,
      tt,
      ap (λ ds. map Some ds ++ rest) pushed ∙ moved all c.in-Some-slot.result rest
          ∙ ap (λ ys. map Some all ++ ys) (ap (λ s. s ∷ rest) (sym c.in-Some-slot.is) ∙ sym c.in-Some.ensures.steps.0)
          ∙ c.loop-slot.invariant.2,
    )

pub returns-clause-held : goal.returns-clause-held
returns-clause-held g c = grind (arith, common_steps)
