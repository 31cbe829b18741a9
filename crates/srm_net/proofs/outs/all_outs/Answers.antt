use Rattle.std.proofs.Common.{◌≡◌, ◌∙◌, ◌+◌, ◌<◌, sym, ap, subst, arith, length, slice_index, slice_index_or}
use Rattle.std.proofs.lemmas.List.{length_push}
use Rattle.srm_net.specs.Least.{out}
use Rattle.srm_net.specs.Nearness.{second_ticks, IsSound, TellsOwn}
use Rattle.srm_net.specs.Paths.{host}
use Rattle.srm_net.proofs.OutLemmas.{out_is_second, outs_push, written_back, read_nearest}
use Rattle.srm_net.proofs.PathLaws.{host_below}
use Rattle.srm_net.proofs.ToldLemmas.{OutsBelow}
use Rattle.srm_net.proofs.outs.all_outs.Goals as goal

pub loop-host-preserved : goal.loop-host-preserved
loop-host-preserved c =
    let items = c.in_ok-table.table.items in
    let all = c.offer_all.new.table in
    let i = c.loop-host.host-index in
    let pushed = c.in_ok-push.ensures.items in
    record {
      long = ap length pushed ∙ length_push c.loop-host.outs.items c.second.result ∙ ap (λ m. m + 1) c.loop-host.invariant.long;
      told = λ w n tree same.
          let s : IsSound w items = c.in_ok-table.ensures.sound w n tree same in
          let s1 = subst (IsSound w) (sym c.as_mut_slice.ensures.value) s in
          let o1 = subst (TellsOwn w) (sym c.as_mut_slice.ensures.value) (c.in_ok-table.ensures.own w n tree same) in
          let sound : IsSound w all = c.offer_all.ensures.sound w n tree s1 o1 in
          let l0 : length items ≡ w.nodes = s.long in
          let l1 : length all ≡ w.nodes = sound.long in
          let back = written_back items all c.in_ok-table.table.len (omega (arith, c.in_ok-table.table.ok.0)) in
          let hm : i < length w.hosts = subst (λ hs. i < length hs) (sym same) c.loop-host-test.true in
          let node : c.from.result ≡ host w i = c.from.ensures ∙ ap (λ hs. slice_index hs i) (sym same) in
          let below : host w i < w.nodes = host_below w n i hm in
          let read = read_nearest all c.from.result (host w i) c.index.result.now node (omega arith)
          (c.index.ensures ∙ ap (λ t. slice_index_or t c.from.result c.index.result.now) back) in
          let is : c.second.result ≡ out w i = c.second.ensures ∙ ap second_ticks read
          ∙ out_is_second w all n sound (c.offer_all.ensures.nearest w n tree s1 o1) i hm in
          subst (OutsBelow w (i + 1)) (sym pushed)
          (outs_push w i c.loop-host.outs.items c.second.result c.loop-host.invariant.long (c.loop-host.invariant.told w n tree same) is);
    }
