use Rattle.std.proofs.Common.{◌≡◌, ◌∙◌, ◌++◌, ◌∷◌, ◌≤◌, [], None, List, length, length-append, drop, refl, ap, sym, subst, arith}
use Rattle.std.proofs.lemmas.Grind.{common_steps}
use Rattle.std.specs.List.{All}
use Rattle.srm_team.specs.declared.batch.Batch.{Batch}
use Rattle.srm_team.specs.Relays.{IsAsked, RelayView}
use Rattle.srm_team.proofs.Relaying.{begun, get_last, on_ok}
use Rattle.srm_team.proofs.relay.Relay.begin.Goals as goal

pub invariant_of-self-in_default : goal.invariant_of-self-in_default
invariant_of-self-in_default g c =
    let self = c.self.inside in
    let back : c.pop.new.self.items ≡ self.slots.items = grind (arith, common_steps) in
    let same : c.ask.new.self ≡ self.ends.front = c.in_default.ensures in
    let was = c.self.invariant in (
      omega (arith, ap length back, was.0),
      subst (λ (l : List (Batch _ _)). self.given ≤ length l) (sym same) was.1,
      omega (arith, ap length same, was.2),
      subst (λ (l : List (Batch _ _)). All (IsAsked self.work) (drop self.given l)) (sym same) was.3,
      rw (same, back) was.4,
    )

pub send_all-requires-clause-asked : goal.send_all-requires-clause-asked
send_all-requires-clause-asked g c =
    let told = c.in-Some.ensures in
    rw (told.1, c.of-asked.ensures) (get_last c.self.inside.ends.front _ c.in-Some.number told.0)

pub invariant_of-self-2 : goal.invariant_of-self-2
invariant_of-self-2 g c =
    let self = c.self.inside in
    let pushed : c.push-else-is_err.new.self.items ≡ self.slots.items ++ None ∷ [] = grind (arith, common_steps) in
    let one : c.push.new.self.items ≡ c.args.item ∷ [] = grind (arith, common_steps) in
    let told = c.in-Some.ensures in
    let was = c.self.invariant in
    let now = begun self.work (λ x d. g.W.Work.gives self.work x d) self.ends.front c.ask.new.self self.given _ c.args.item
    self.slots.items was.1 was.3 was.4 told.1 refl one in (
      omega (arith, ap length pushed, length-append self.slots.items (None ∷ []), c.if-len-self.false, c.len.ensures),
      now.0,
      omega (arith, now.1, was.2),
      now.2,
      rw pushed now.3,
    )

pub returns-clause-begun : goal.returns-clause-begun
returns-clause-begun g c =
    let self = c.self.inside in
    let one : c.push.new.self.items ≡ c.args.item ∷ [] = grind (arith, common_steps) in
    let told = c.in-Some.ensures in
    let was = c.self.invariant in
    let now = begun self.work (λ x d. g.W.Work.gives self.work x d) self.ends.front c.ask.new.self self.given _ c.args.item
    self.slots.items was.1 was.3 was.4 told.1 refl one in
    on_ok c.send_all.result _ (now.4 ∙ ap (λ l. l ++ c.args.item ∷ []) (ap (λ (v : RelayView _ _). v.under_way) c.self.view_is))
