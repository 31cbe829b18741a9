use Rattle.std.proofs.Common.{◌≡◌, ◌≢◌, ◌∙◌, ℕ, ◌+◌, ◌<◌, ◌≤◌, sym, ap, subst, arith, length, slice_index, slice_set}
use Rattle.std.proofs.lemmas.List.{length-set}
use Rattle.srm_net.specs.declared.nearest.Nearest.TheVariants.{One}
use Rattle.srm_net.specs.Limits.{most_nodes}
use Rattle.srm_net.proofs.OutLemmas.{at_own, IsHome, IsAlone, home_more, alone_more, home_sound}
use Rattle.srm_net.proofs.PathLaws.{few_members, host_below, hosts_apart}
use Rattle.srm_net.proofs.outs.at_home.Goals as goal

pub overflow_cast-own : goal.overflow_cast-own
overflow_cast-own c =
    let (w, n, tree, same) = c.requires in
    let few : length w.hosts ≤ most_nodes = few_members w n in
    let all : length w.hosts ≡ length c.args.hosts.now = ap length same in
    let lt : c.loop-member.member < length c.args.hosts.now = c.loop-member-test.true in
    omega arith

pub index_mut-requires : goal.index_mut-requires
index_mut-requires c =
    let (w, n, tree, same) = c.requires in
    let hosts = c.args.hosts.now in
    let i = c.loop-member.member in
    let below : slice_index hosts i < w.nodes = subst (λ hs. slice_index hs i < w.nodes) same
    (host_below w n i (subst (λ hs. i < length hs) (sym same) c.loop-member-test.true)) in
    let size : length c.loop-member.table.items ≡ length c.args.rooted.now.positions.items = c.loop-member.invariant.long in
    let long : length c.args.rooted.now.positions.items ≡ w.nodes = tree.rooted.long in
    omega (arith, c.loop-member.table.ok.0)

pub loop-member-preserved : goal.loop-member-preserved
loop-member-preserved c =
    let (w, n, tree, same) = c.requires in
    let hosts = c.args.hosts.now in
    let i = c.loop-member.member in
    let table = c.loop-member.table.items in
    let inv = c.loop-member.invariant in
    let there : (m : ℕ) → m < length hosts → m < length w.hosts = λ m h. subst (λ hs. m < length hs) (sym same) h in
    let lt : i < length hosts = c.loop-member-test.true in
    let below : slice_index hosts i < w.nodes = subst (λ hs. slice_index hs i < w.nodes) same (host_below w n i (there i lt)) in
    let size : length table ≡ length c.args.rooted.now.positions.items = inv.long in
    let long : length c.args.rooted.now.positions.items ≡ w.nodes = tree.rooted.long in
    let within : slice_index hosts i < length table = omega arith in
    let apart : (m : ℕ) → m < i → slice_index hosts m ≢ slice_index hosts i =
    λ m h. subst (λ hs. slice_index hs m ≢ slice_index hs i) same
    (hosts_apart w n m i (there m (omega arith)) (there i lt) (omega arith)) in
    record {
      long = length-set table c.from.result (One (at_own i)) ∙ size;
      home = subst (λ k. IsHome hosts (slice_set table k (One (at_own i))) (i + 1)) (sym c.from.ensures)
          (home_more hosts table i within apart inv.home);
      alone = subst (λ k. IsAlone hosts (slice_set table k (One (at_own i))) (i + 1)) (sym c.from.ensures)
          (alone_more hosts table i within inv.alone);
    }

pub returns-clause-sound : goal.returns-clause-sound
returns-clause-sound c w n tree same =
    let all : length w.hosts ≡ length c.args.hosts.now = ap length same in
    home_sound w c.loop-member.table.items c.loop-member.member (c.loop-member.invariant.long ∙ tree.rooted.long) (omega arith)
    (subst (λ hs. IsAlone hs c.loop-member.table.items c.loop-member.member) (sym same) c.loop-member.invariant.alone)
