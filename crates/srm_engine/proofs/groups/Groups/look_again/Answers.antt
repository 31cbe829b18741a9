use Rattle.std.proofs.Common.{◌≡◌, ◌∙◌, ◌++◌, [], List, ℕ, refl, sym, ap, subst, arith, length, get_or}
use Rattle.std.proofs.Common.{take, drop, append-nil, take_all, ◌∷◌}
use Rattle.srm_scenario.proofs.Members.{few_members}
use Rattle.srm_engine.specs.Starts.{setting_on}
use Rattle.srm_engine.specs.Groups.{AreCuts, AreGrouped, RanGroups, all_in, sizes}
use Rattle.srm_engine.specs.Soonest.{soon_in}
use Rattle.srm_engine.proofs.SoonGroups.{group_within, look_next, look_past, looked_through}
use Rattle.srm_engine.proofs.groups.Groups.look_again.Goals.{then-kept-index, else-kept-index}
use Rattle.srm_engine.proofs.groups.Groups.look_again.Goals as goal

-- a vector after what it holds was written
written : {A : Type 0} (n : ℕ) (xs new : List A) → n ≡ length xs → length new ≡ length xs → take n (new ++ drop (length new) xs) ≡ new
written n xs new long same =
    ap (λ k. take n (new ++ drop k xs)) same ∙ ap (λ l. take n (new ++ l)) (none xs) ∙ ap (take n) (append-nil new)
    ∙ take_all n new (omega arith)
  where
    none : {A : Type 0} (ys : List A) → drop (length ys) ys ≡ []
    none [] = refl
    none (y ∷ ys) = none ys

pub bounds-kept-index : goal.bounds-kept-index
bounds-kept-index g c =
    let many = c.requires.may.many in
    let all = ap length c.as_slice-all.ensures.value in
    let kept = ap length c.as_mut_slice-kept.ensures.value in
    let same = c.loop-index.auto.kept in
    let here = c.loop-index-test.true in
    omega arith

pub overflow_mul-index : goal.overflow_mul-index
overflow_mul-index g c =
    let may = c.requires.may in
    let same = c.as_slice-all.ensures.value in
    let cuts = subst (λ l. AreCuts c.args.self.cut (sizes l)) (sym same) may.cuts in
    let at = group_within c.args.self.cut c.as_slice-all.result.now c.loop-index.index c.index-all-index.result may.cut.0 cuts
    c.loop-index-test.true in
    let within = at.within in
    let few = few_members c.args.session.scenario.now c.until-until.ensures.accepted in
    let members = may.members in
    let all = ap (λ l. length (all_in l)) same in
    omega arith

pub soonest_in-requires-clause-members : goal.soonest_in-requires-clause-members
soonest_in-requires-clause-members g c =
    let may = c.requires.may in
    let same = c.as_slice-all.ensures.value in
    let cuts = subst (λ l. AreCuts c.args.self.cut (sizes l)) (sym same) may.cuts in
    let at = group_within c.args.self.cut c.as_slice-all.result.now c.loop-index.index c.index-all-index.result may.cut.0 cuts
    c.loop-index-test.true in
    let within = at.within in
    let members = may.members in
    let all = ap (λ l. length (all_in l)) same in
    let own : length c.as_slice.result.now
    ≡ length (get_or c.as_slice-all.result.now c.loop-index.index c.index-all-index.result).items =
    ap length c.as_slice.ensures.value ∙ ap (λ v. length v.items) c.index-all-index.is in
    omega arith

pub soonest_in-requires-clause-few : goal.soonest_in-requires-clause-few
soonest_in-requires-clause-few g c = let few = few_members c.args.session.scenario.now c.until-until.ensures.accepted in omega arith

pub loop-index-preserved : goal.loop-index-preserved
loop-index-preserved g c =
    let f = g.M.Participant.plain in
    let k = c.loop-index.index in
    let gs = c.as_slice-all.result.now in
    let group = c.index-all-index.result in
    let initial = c.as_mut_slice-kept.result.now in
    let cut = c.args.self.cut in
    let lt = c.loop-index-test.true in
    elim c.if-kept-index.branch [
      | then-kept-index w ↦ rw w.kept-is (
          λ seed. look_next f (setting_on c.args.session seed) c.args.till cut gs initial k c.loop-index.kept group w.as_slice.result.now
          w.soonest_in.result c.requires.may.cut.0 lt c.index-all-index.is w.as_slice.ensures.value (w.soonest_in.ensures seed)
          (c.loop-index.invariant seed)
          )
      | else-kept-index w ↦ rw w.kept-is (
          λ seed. look_past f (setting_on c.args.session seed) c.args.till cut gs initial k c.loop-index.kept group
          (record { time = 0; promise = 0 }) lt w.if-kept-index.false (c.loop-index.invariant seed)
          )
    ]

pub returns-clause-soon : goal.returns-clause-soon
returns-clause-soon g c = λ seed before ran was h.
    let f = g.M.Participant.plain in
    let s = setting_on c.args.session seed in
    let cut = c.args.self.cut in
    let same = sym c.as_slice-all.ensures.value in
    let kept = c.as_mut_slice-kept.ensures.value in
    let told = looked_through f s c.args.till cut c.as_slice-all.result.now c.as_mut_slice-kept.result.now c.loop-index.index
    c.loop-index.kept c.loop-index-test.false (c.loop-index.invariant seed) before (subst (RanGroups f c.args.till before) same ran)
    (kept ∙ was) (subst (AreGrouped f cut) same h) in
    record {
      cut = c.requires.may.cut;
      grouped = h;
      soon = written c.args.self.soon.len c.args.self.soon.items c.loop-index.kept c.args.self.soon.ok.0 (told.1 ∙ ap length kept)
          ∙ told.0 ∙ ap (soon_in f s) c.as_slice-all.ensures.value;
    }
