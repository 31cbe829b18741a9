use Rattle.std.proofs.Common.{◌≡◌, ◌∙◌, sym, ap, subst, arith, ◌+◌, ◌<◌, length, get_or, slice_get, slice_set, Some, ◌++◌, ◌∷◌, []}
use Rattle.std.proofs.lemmas.List.{length-set, length_push}
use Rattle.srm_net.specs.declared.earlier.Earlier.{Earlier}
use Rattle.srm_net.specs.Network.{IsWithin}
use Rattle.srm_net.specs.Adjacencies.{last_meeting, TellsEarlier}
use Rattle.srm_net.proofs.Lists.{all_get, get_below, index_get, read_at}
use Rattle.srm_net.proofs.Adjacent.{LastTold, EarlierTold, last_set, earlier_push, no_link}
use Rattle.srm_net.proofs.adjacency.Adjacency.of.Goals as goal

pub loop-number-preserved : goal.loop-number-preserved
loop-number-preserved c =
    let links = c.args.links.now in
    let n = c.loop-number.number in
    let xs = c.loop-number.last.items in
    let es = c.loop-number.earlier.items in
    let k = get_or links n no_link in
    let g : slice_get links n ≡ Some k = index_get links n no_link c.loop-number-test.true in
    let ends = all_get (IsWithin c.args.nodes) links n k c.requires.ends g in
    let inv = c.loop-number.invariant in
    let size : length xs ≡ c.args.nodes = inv.nodes in
    let ha : k.a < length xs = (let h : k.a < c.args.nodes = ends.0 in omega arith) in
    let hb : k.b < length xs = (let h : k.b < c.args.nodes = ends.1 in omega arith) in
    let e : Earlier = record { a = c.index.result.now; b = c.index-in-loop-number.result.now } in
    let pushed : c.push.new.self.items ≡ es ++ e ∷ [] = c.in_ok-push.ensures.items in
    let told : TellsEarlier links n k e = record {
      a = read_at xs c.from-a.result k.a c.index.result.now c.from-a.ensures ha c.index.ensures ∙ inv.last k.a ha;
      b = read_at xs c.from-b.result k.b c.index-in-loop-number.result.now c.from-b.ensures hb c.index-in-loop-number.ensures
          ∙ inv.last k.b hb;
    } in
    record {
      nodes = length-set (slice_set xs c.from-a.result (n + 1)) c.from-b.result (n + 1) ∙ length-set xs c.from-a.result (n + 1) ∙ size;
      last = subst (λ b. LastTold links (n + 1) (slice_set (slice_set xs c.from-a.result (n + 1)) b (n + 1))) (sym c.from-b.ensures)
          (subst (λ a. LastTold links (n + 1) (slice_set (slice_set xs a (n + 1)) k.b (n + 1))) (sym c.from-a.ensures)
          (last_set links n k xs g ha hb inv.last));
      long = ap length pushed ∙ length_push es e ∙ ap (λ m. m + 1) inv.long;
      earlier = subst (EarlierTold links (n + 1)) (sym pushed) (earlier_push links n k es e inv.long g told inv.earlier);
    }

pub returns : goal.returns
returns c =
    let links = c.args.links.now in
    let inv = c.loop-number.invariant in
    let size : length c.loop-number.last.items ≡ c.args.nodes = inv.nodes in
    let all : c.loop-number.number ≡ length links = omega arith in
    record {
      last_long = size;
      last = λ u h. inv.last u (omega arith) ∙ ap (last_meeting links u) all;
      earlier_long = inv.long ∙ all;
      earlier = λ l k g. inv.earlier l k (let lt = get_below links l k g in omega arith) g;
    }
