use Rattle.std.proofs.Common.{◌∙◌, ◌∷◌, ◌++◌, [], All, length, take, ap, sym, subst, add-one}
use Rattle.std.proofs.Math.Seq.{take-suc}
use Rattle.std.proofs.lemmas.List.{take_all, map-append}
use Rattle.std.proofs.lemmas.List.Elements.{All-append}
use Rattle.std.specs.Global.{Vec}
use Rattle.srm_engine.specs.Groups.{all_in, sizes}
use Rattle.srm_interfaces.proofs.GroupedLemmas.{all_in_push}
use Rattle.srm_engine.proofs.watched_groups.none_of_each.Goals as goal

pub loop-group-preserved : goal.loop-group-preserved
loop-group-preserved g c =
    let kept = c.loop-group.kept.items in
    let own = c.in_ok-own.own in
    let gs = c.args.groups.now in
    let i = c.loop-group.group-index in
    let many = c.in_ok-own.ensures.many ∙ c.len.ensures ∙ c.group-item.result.ok.0
    ∙ ap (λ (v : Vec _). length v.items) c.group-item.is in (
      ap sizes c.in_ok-push.ensures.items ∙ map-append (λ (v : Vec _). length v.items) kept (own ∷ [])
          ∙ ap (λ l. l ++ length own.items ∷ []) c.loop-group.invariant.0
          ∙ ap (λ n. sizes (take i gs) ++ n ∷ []) many
          ∙ sym (ap sizes (ap (λ k. take k gs) (add-one i) ∙ take-suc gs i c.group-item.result c.loop-group-test.true)
          ∙ map-append (λ (v : Vec _). length v.items) (take i gs) _),
      subst (All (λ k. g.W.Watch.keeps c.args.watch.now k [])) (sym (ap all_in c.in_ok-push.ensures.items ∙ all_in_push kept own))
          (All-append (λ k. g.W.Watch.keeps c.args.watch.now k []) (all_in kept) own.items c.loop-group.invariant.1
          c.in_ok-own.ensures.none),
    )

pub returns-clause-each : goal.returns-clause-each
returns-clause-each g c =
    c.loop-group.invariant.0 ∙ ap sizes (take_all c.loop-group.group-index c.args.groups.now c.loop-group-test.false)
