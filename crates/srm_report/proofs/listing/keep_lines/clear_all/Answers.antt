use Rattle.std.proofs.Common.{◌≡◌, ◌∙◌, ◌<◌, ◌∷◌, [], All, length, take, sym, subst, arith}
use Rattle.std.proofs.lemmas.List.{length-set, take_more_set}
use Rattle.std.proofs.lemmas.List.Elements.{All-append, All-cons, All-nil}
use Rattle.srm_report.proofs.listing.keep_lines.clear_all.Goals as goal

pub loop-own-preserved : goal.loop-own-preserved
loop-own-preserved c =
    let kept = c.loop-own.kept in
    let i = c.loop-own.own-index in
    let own = c.clear.new.self in
    let v = c.loop-own.invariant in
    let test = c.loop-own-test.true in
    let long = v.0 in
    let within : i < length kept = omega arith in (
      length-set kept i own ∙ v.0,
      subst (All (λ own. own ≡ [])) (sym (take_more_set kept i own within))
          (All-append (λ own. own ≡ []) (take i kept) (own ∷ []) v.1 (All-cons (λ own. own ≡ []) own [] c.clear.ensures (All-nil _))),
    )
