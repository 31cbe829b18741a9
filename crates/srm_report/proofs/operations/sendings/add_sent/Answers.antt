use Rattle.std.proofs.Common.{◌≡◌, ◌∙◌, ◌+◌, ◌<◌, None, length, get_or, map, subst, sym, ap, take, arith}
use Rattle.std.proofs.Math.Seq.{take-length}
use Rattle.std.proofs.lemmas.List.{get_or-map, length-map}
use Rattle.srm_net.specs.declared.packet.Name.{Name}
use Rattle.srm_report.specs.declared.operations.sent_for_name.SentForName.{SentForName}
use Rattle.std.specs.FinMap.Entries.{put}
use Rattle.srm_net.specs.Names.{name_cmp}
use Rattle.srm_report.specs.Sendings.{sending_in, together}
use Rattle.srm_report.proofs.KeptSendings.{all_added, HasAdded, none_added, one_added}
use Rattle.srm_report.proofs.operations.sendings.add_sent.Goals as goal

-- in place of an entry that is not there
abbrev none : Name × SentForName
none = (record { source = 0; page = 0; number = 0 }, record { asked = None; requests = 0; repairs = 0 })

pub loop-name-init : goal.loop-name-init
loop-name-init c rises more = none_added c.args.sent.now rises

pub loop-name-preserved : goal.loop-name-preserved
loop-name-preserved c rises more =
    let es = c.args.more.now in
    let i = c.loop-name.name-index in
    let names : c.as_slice-name-items.result.now ≡ map (λ e. e.0) es = c.as_slice-name-items.ensures ∙ c.in_ok-names.ensures in
    let many = ap length names ∙ length-map es (λ (e : Name × SentForName). e.0) in
    let lt : i < length es = (let l = c.loop-name-test.true in omega (arith, many)) in
    let own = ap (λ ns. get_or ns i none.0) names ∙ get_or-map (λ (e : Name × SentForName). e.0) es i none none.0 lt in
    let all = c.in-Some.ensures ∙ (λ k. together (c.sending.ensures k) (c.sending-in-loop-name.ensures k))
    ∙ ap (λ n. together (sending_in c.loop-name.sent n) (sending_in es n)) own in
    subst (HasAdded c.args.sent.now (take (i + 1) es)) (sym (c.in_ok-put.ensures.ok
    ∙ ap (λ n. put name_cmp n c.in-Some.all c.loop-name.sent) own))
    (one_added c.args.sent.now es c.loop-name.sent more i none lt (c.loop-name.invariant rises more) c.in-Some.all all)

pub returns : goal.returns
returns c xs ys was tell =
    let many = ap length (c.as_slice-name-items.ensures ∙ c.in_ok-names.ensures)
    ∙ length-map c.args.more.now (λ (e : Name × SentForName). e.0) in
    let whole : c.loop-name.name-index ≡ length c.args.more.now = omega (arith, many) in
    all_added xs ys c.args.sent.now c.args.more.now c.loop-name.sent was tell
    (subst (λ l. HasAdded c.args.sent.now l c.loop-name.sent)
    (ap (λ n. take n c.args.more.now) whole ∙ take-length c.args.more.now) (c.loop-name.invariant was.sorted tell.sorted))
