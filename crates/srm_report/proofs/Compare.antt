-- The words of a `BTreeMap` for losses, which are compared by their numbers.
use Rattle.std.proofs.Common.{◌≡◌, List}
use Rattle.std.specs.FinMap.Entries.{put, find}
use Rattle.std.specs.Map.{lookup}
use Rattle.std.specs.BTreeMap.{insert_entry, is_at}
use Rattle.srm_member.proofs.Maps as maps
use Rattle.srm_report.specs.contracts.losses.loss.LossOrd.TheImpl as loss_order
use Rattle.srm_report.specs.declared.losses.loss.Loss.{Loss}
use Rattle.srm_report.specs.Losses.{loss_cmp}

pub loss_find : {V : Type 0} (k : Loss) (es : List (Loss × V)) → find loss_cmp k es ≡ lookup (is_at (loss_order.cmp-value.it k)) es
loss_find k es = maps.find-lookup loss_cmp k es

pub loss_put : {V : Type 0} (k : Loss) (v : V) (es : List (Loss × V)) → put loss_cmp k v es ≡ insert_entry loss_order.cmp-value.it es k v
loss_put k v es = maps.put-insert_entry loss_cmp k v es
