use Rattle.std.proofs.Common.{◌≡◌, ◌∙◌, ◌+◌, ◌++◌, ◌<◌, ◌∷◌, [], take, drop, get_or, length, sym, ap, append_assoc, arith}
use Rattle.std.proofs.lemmas.List.{drop_more, drop-set-lt, length-set, take_more}
use Rattle.srm_engine.proofs.merge.take_out.Goals as goal

pub loop-own-preserved : goal.loop-own-preserved
loop-own-preserved c =
    let i = c.loop-own.own-index in
    let old = c.args.group.now in
    let now = c.loop-own.group in
    let new = c.replace.new.dest in
    let d = c.own-item.result in
    let v = c.loop-own.invariant in
    let test = c.loop-own-test.true in
    let long = v.0 in
    let within : i < length now = omega arith in
    let before : i < length old = omega arith in
    let others : get_or now i d ∷ drop (i + 1) now ≡ get_or old i d ∷ drop (i + 1) old =
    sym (drop_more now i d within) ∙ v.1 ∙ drop_more old i d before in
    let own : get_or now i d ≡ get_or old i d = cc in
    let rest : drop (i + 1) now ≡ drop (i + 1) old = cc in (
      length-set now i new ∙ v.0,
      drop-set-lt (i + 1) now i new (omega arith) ∙ rest,
      c.in_ok-push.ensures.items ∙ ap (λ x. c.loop-own.lists.items ++ x ∷ []) (c.replace.ensures.value ∙ own)
          ∙ ap (λ l. l ++ get_or old i d ∷ []) v.2
          ∙ append_assoc c.args.lists.now.items (take i old) (get_or old i d ∷ [])
          ∙ ap (λ l. c.args.lists.now.items ++ l) (sym (take_more old i d before)),
    )
