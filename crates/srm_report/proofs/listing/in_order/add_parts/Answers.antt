use Rattle.std.proofs.Common.{◌≡◌, ◌∙◌, ◌++◌, ◌∷◌, [], ℕ, List, length, take, refl, ap, sym, arith, append-nil, append_assoc}
use Rattle.std.proofs.lemmas.List.{take_all}
use Rattle.std.specs.Global.{Vec}
use Rattle.srm_cell.specs.Crossings.{joined}
use Rattle.srm_report.specs.KeptLines.{parts_seen}
use Rattle.srm_report.proofs.TickLemmas.{joined_more}
use Rattle.srm_report.proofs.listing.in_order.add_parts.Goals.{then-len-gt0+in_ok-put_parts, else-len-gt0}
use Rattle.srm_report.proofs.listing.in_order.add_parts.Goals as goal

none_there : {A : Type 0} (xs : List A) → length xs ≡ 0 → xs ≡ []
none_there [] none = refl
none_there (x ∷ xs) none = absurd (omega arith)

pub loop-own-init : goal.loop-own-init
loop-own-init c = sym (append-nil (parts_seen c.args.parts.now.items))

pub loop-own-preserved : goal.loop-own-preserved
loop-own-preserved c =
    let own = c.own-item.result in
    let all = c.args.all.now in
    let i = c.loop-own.own-index in
    let before = parts_seen c.args.parts.now.items in
    let so_far = parts_seen c.loop-own.parts.items in
    let many = c.len.ensures in
    let put : parts_seen c.if-len-gt0.parts.items ≡ so_far ++ own = elim c.if-len-gt0.branch [
      | then-len-gt0+in_ok-put_parts w ↦ ap (λ (v : Vec _). parts_seen v.items) w.parts-is ∙ w.in_ok-put_parts.ensures
      | else-len-gt0 w ↦
          let none = w.if-len-gt0.false in
          ap (λ (v : Vec _). parts_seen v.items) w.parts-is ∙ sym (append-nil so_far)
          ∙ ap (λ l. so_far ++ l) (sym (none_there own (omega (arith, many, none))))
    ] in
    put ∙ ap (λ l. l ++ own) c.loop-own.invariant
    ∙ append_assoc before (joined (take i all)) own
    ∙ ap (λ l. before ++ l) (sym (joined_more all i own c.loop-own-test.true c.own-item.is))

pub returns : goal.returns
returns c =
    c.loop-own.invariant
    ∙ ap (λ l. parts_seen c.args.parts.now.items ++ joined l) (take_all c.loop-own.own-index c.args.all.now c.loop-own-test.false)
