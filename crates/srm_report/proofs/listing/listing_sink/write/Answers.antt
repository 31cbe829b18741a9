use Rattle.std.proofs.Common.{◌≡◌, length, take, drop, sym, subst, refl, append-nil, take-append-drop, arith}
use Rattle.std.proofs.lemmas.List.{length-take-le}
use Rattle.srm_report.specs.Standings.{GrewBy}
use Rattle.srm_report.specs.SinkLaws.{count_cut}
use Rattle.srm_report.proofs.listing.listing_sink.write.Goals as goal

pub returns-in-Ok-clause-taken : goal.returns-in-Ok-clause-taken
returns-in-Ok-clause-taken g c = (
  c.args.text.now,
  sym (append-nil c.args.text.now),
  record {
    bytes = c.in-Ok.ensures.taken;
    counted = count_cut c.args.written.now (length c.args.text.now) c.saturating_add.result c.saturating_add.ensures;
  },
)

pub returns-in-Err-clause-taken : goal.returns-in-Err-clause-taken
returns-in-Err-clause-taken g c =
    let part = c.in-Err.ensures.part in
    let text = c.args.text.now in
    let n = c.in-Err.fault.written in
    let long : length (take n text) ≡ n = length-take-le n text (omega (arith, part)) in (
      refl,
      refl,
      drop n text,
      (
        take n text,
        sym (take-append-drop n text),
        record {
          bytes = c.in-Err.ensures.taken;
          counted = subst (λ k. GrewBy c.args.written.now k c.saturating_add-in-Err.result) (sym long)
              (count_cut c.args.written.now n c.saturating_add-in-Err.result c.saturating_add-in-Err.ensures);
        },
      ),
    )
