use Rattle.std.proofs.Common.{◌≡◌, ◌∙◌, ◌++◌, ℕ, Bool, true, subst, sym, string_bytes}
use Rattle.srm_explain.specs.Remarks.{is_hardly_meant, remark_line, TellsIf}
use Rattle.srm_explain.proofs.remarks.remark_of.Goals as goal

pub returns : goal.returns
returns c =
    let n = c.number-constant.result in
    let told = string_bytes c.in_ok-told.told in
    let picture = string_bytes c.in_ok-picture.picture in
    let meant : is_hardly_meant n ≡ true = sym c.is_hardly_meant.ensures ∙ c.if-not-is_hardly_meant.false in
    let line = c.in_ok-told.ensures.ok ∙ (λ i. c.in_ok-line.ensures i ++ picture) in
    let tells = subst (λ (b : Bool). TellsIf b (remark_line c.args.key n) told) (sym meant) (picture, line) in
    subst (λ (m : ℕ). TellsIf (is_hardly_meant m) (remark_line c.args.key m) told) c.number-constant.ensures tells
