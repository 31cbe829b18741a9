use Rattle.std.proofs.Common.{◌≡◌, ◌∙◌, sym, ap, subst, refl, arith, ℕ, ◌+◌, ◌-◌, ◌<◌, ◌≤◌, length, get_or, slice_get, Some, true}
use Rattle.std.proofs.Common.{◌++◌, ◌∷◌, [], reverse, inl, inr, Vec, Global}
use Rattle.std.proofs.lemmas.Bool.{both_ways, cases_eq}
use Rattle.std.proofs.lemmas.List.{length_push}
use Rattle.srm_net.specs.declared.link.LinkSpec.{LinkSpec}
use Rattle.srm_net.specs.declared.attaching.Attaching.{Attaching}
use Rattle.srm_net.specs.Network.{Joins}
use Rattle.srm_net.specs.Paths.{is_in}
use Rattle.srm_net.specs.Tables.{far_from}
use Rattle.srm_net.specs.Adjacencies.{last_meeting}
use Rattle.srm_net.specs.Waiting.{targets, Wait}
use Rattle.srm_net.specs.Known.{is_known}
use Rattle.srm_net.proofs.Lists.{get_below, read_at}
use Rattle.srm_net.proofs.Adjacent.{turn_told, before_told, told_from, last_at_most, other_is, no_link}
use Rattle.srm_net.proofs.Walks.{same_link}
use Rattle.srm_net.proofs.Waits.{target_kept, target_new, waits_push}
use Rattle.srm_net.proofs.adjacency.Adjacency.push_steps.Goals as goal
use Rattle.srm_net.proofs.adjacency.Adjacency.push_steps.Goals.{then-not-known-from+in_ok-push, else-not-known-from}

pub loop-next-init : goal.loop-next-init
loop-next-init c =
    let links = c.args.links.now in
    let u = c.args.node in
    let told = c.requires.told in
    let next : c.index-next.result.now ≡ last_meeting links u (length links) =
    read_at c.args.self.now.last.items c.from.result u c.index-next.result.now c.from.ensures
    (let size : length c.args.self.now.last.items ≡ length c.args.known.now = told.last_long in let h = c.requires.node in omega arith)
    c.index-next.ensures ∙ told.last u c.requires.node in
    let most = last_at_most links u (length links) in
    record {
      next = (length links, omega arith, next);
      few = omega arith;
      kept = λ x h. h;
      each = λ m k x h g j n. absurd (let lt = get_below links m k g in
          let late = told_from links u c.index-next.result.now (length links) m k x next h g j in omega arith);
      wait = λ ss i w. w;
    }

pub bounds-links-from : goal.bounds-links-from
bounds-links-from c =
    let inv = c.loop-next.invariant in
    let t = turn_told c.args.links.now c.args.node inv.next.0 c.loop-next.next (c.loop-next.next - 1) inv.next.1 inv.next.2 (omega arith) in
    let below : c.loop-next.next - 1 < length c.args.links.now = t.below in
    omega arith

pub index-requires : goal.index-requires
index-requires c =
    let inv = c.loop-next.invariant in
    let t = turn_told c.args.links.now c.args.node inv.next.0 c.loop-next.next (c.loop-next.next - 1) inv.next.1 inv.next.2 (omega arith) in
    let below : c.loop-next.next - 1 < length c.args.links.now = t.below in
    omega (arith, c.args.self.now.earlier.ok.0, c.requires.told.earlier_long)

pub loop-next-smaller : goal.loop-next-smaller
loop-next-smaller c =
    let links = c.args.links.now in
    let u = c.args.node in
    let m = c.loop-next.next - 1 in
    let inv = c.loop-next.invariant in
    let t = turn_told links u inv.next.0 c.loop-next.next m inv.next.1 inv.next.2 (omega arith) in
    let before : c.at-next.result ≡ last_meeting links u m =
    before_told (length c.args.known.now) links u m c.from-in-loop-next.result c.from-in-loop-next-3.result c.args.self.now
    c.index.result.now
    c.at-next.result c.requires.told t c.from-in-loop-next.ensures c.from-in-loop-next-3.ensures c.index.ensures c.at-next.ensures in
    let most : last_meeting links u m ≤ m = last_at_most links u m in
    omega arith

pub loop-next-preserved : goal.loop-next-preserved
loop-next-preserved c =
    let links = c.args.links.now in
    let known = c.args.known.now in
    let u = c.args.node in
    let m = c.loop-next.next - 1 in
    let k = get_or links m no_link in
    let inv = c.loop-next.invariant in
    let ps = c.loop-next.pending.items in
    let some : 0 < c.loop-next.next = c.loop-next-test.true in
    let t = turn_told links u inv.next.0 c.loop-next.next m inv.next.1 inv.next.2 (omega arith) in
    let before : c.at-next.result ≡ last_meeting links u m =
    before_told (length known) links u m c.from-in-loop-next.result c.from-in-loop-next-3.result c.args.self.now c.index.result.now
    c.at-next.result c.requires.told t c.from-in-loop-next.ensures c.from-in-loop-next-3.ensures c.index.ensures c.at-next.ensures in
    let most : last_meeting links u m ≤ m = last_at_most links u m in
    let within : m < length links = t.below in
    let few : length ps + c.loop-next.next ≤ length c.args.pending.now.items + length links = inv.few in
    let far : c.far_from-other.result ≡ far_from k u =
    c.far_from-other.ensures ∙ ap (λ i. far_from (get_or links i no_link) u) c.from-in-loop-next.ensures in
    let there : (j : LinkSpec) (x : ℕ) → slice_get links m ≡ Some j → Joins j u x → c.far_from-other.result ≡ x =
    λ j x g h. far ∙ other_is k u x (subst (λ (i : LinkSpec). Joins i u x) (same_link links m m j k refl g t.link) h) in
    elim c.if-not-known-from.branch [
      | then-not-known-from+in_ok-push w ↦
          (let s : Attaching = record { node = c.far_from-other.result; parent = u; link = m } in
          let is : c.if-not-known-from.pending.items ≡ ps ++ s ∷ [] = ap (λ (v : Vec Attaching Global). v.items) w.pending-is
          ∙ w.in_ok-push.ensures.items in
          let long : length c.if-not-known-from.pending.items ≡ length ps + 1 = ap length is ∙ length_push ps s in
          record {
            next = (m, omega arith, before);
            few = omega arith;
            kept = λ x h. subst (λ qs. is_in (targets qs) x ≡ true) (sym is) (target_kept ps s x (inv.kept x h));
            each = λ l j x h g i n. subst (λ qs. is_in (targets qs) x ≡ true) (sym is) (elim (cases_eq l m) [
              | inl q ↦ target_new ps s x (there j x (subst (λ z. slice_get links z ≡ Some j) q g) i)
              | inr d ↦
                  (let late : m ≤ l = told_from links u c.at-next.result m l j x before h g i in
                  target_kept ps s x (inv.each l j x (omega arith) g i n))
            ]);
            wait = λ ss i v. subst (λ qs. Wait links ss u (reverse qs)) (sym is)
                (waits_push links ss u ps s refl (record {
                  spec = k;
                  link = t.link;
                  joins = subst (λ y. Joins k u y) (sym far) t.joins;
                  parent = i;
                }) (inv.wait ss i v));
          })
      | else-not-known-from w ↦
          (let is : c.if-not-known-from.pending.items ≡ ps = ap (λ (v : Vec Attaching Global). v.items) w.pending-is in
          let long : length c.if-not-known-from.pending.items ≡ length ps = ap length is in
          record {
            next = (m, omega arith, before);
            few = omega arith;
            kept = λ x h. subst (λ qs. is_in (targets qs) x ≡ true) (sym is) (inv.kept x h);
            each = λ l j x h g i n. subst (λ qs. is_in (targets qs) x ≡ true) (sym is) (elim (cases_eq l m) [
              | inl q ↦ absurd (both_ways _ n (subst (λ y. is_known known y ≡ true)
                  (c.from-in-loop-next-2.ensures ∙ there j x (subst (λ z. slice_get links z ≡ Some j) q g) i) w.if-not-known-from.false))
              | inr d ↦
                  (let late : m ≤ l = told_from links u c.at-next.result m l j x before h g i in inv.each l j x (omega arith) g i n)
            ]);
            wait = λ ss i v. subst (λ qs. Wait links ss u (reverse qs)) (sym is) (inv.wait ss i v);
          })
    ]
