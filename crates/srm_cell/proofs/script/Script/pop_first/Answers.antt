use Rattle.std.proofs.Common.{◌≡◌, ◌≤◌, ◌+◌, ℕ, zero, suc, List, [], ◌∷◌, drop, length, ap, sym, ◌∙◌, add-one, arith}
use Rattle.std.proofs.lemmas.List.{drop_all}
use Rattle.srm_cell.proofs.script.Script.pop_first.Goals as goal

drop_step : {A : Type 0} (n : ℕ) (xs : List A) (k : A) (rest : List A) → drop n xs ≡ k ∷ rest → drop (suc n) xs ≡ rest
drop_step zero [] k rest h = cc
drop_step (suc n) [] k rest h = cc
drop_step zero (x ∷ xs) k rest h = cc
drop_step (suc n) (x ∷ xs) k rest h = drop_step n xs k rest h

-- the rest behind the first of it
behind : {A : Type 0} (n : ℕ) (xs all : List A) (k : A) (rest : List A) → drop n xs ≡ all → all ≡ k ∷ rest
    → all ≡ k ∷ drop (n + 1) xs
behind n xs all k rest is e = e ∙ ap (λ l. k ∷ l) (sym (rw add-one (drop_step n xs k rest (is ∙ e))))

pub returns-then-self-len : goal.returns-then-self-len
returns-then-self-len c =
    let marks = c.self.inside.marks in
    let e = c.in_ok-mark.ensures in
    let len = marks.ok.0 in
    let read = c.len.ensures in
    let end = c.if-self-len.true in
    let all : length marks.items ≤ c.self.inside.next + 1 = omega arith in
    behind c.self.inside.next marks.items c.args.self.now c.in_ok-mark.mark e.0 c.self.view_is e.1
    ∙ ap (λ l. c.in_ok-mark.mark ∷ l)
    (drop_all (c.self.inside.next + 1) marks.items all
    ∙ sym (c.drop.view_is ∙ c.new-then-self-len.ensures ∙ c.new.ensures.items))

pub returns-else-self-len : goal.returns-else-self-len
returns-else-self-len c =
    let e = c.in_ok-mark.ensures in
    behind c.self.inside.next c.self.inside.marks.items c.args.self.now c.in_ok-mark.mark e.0 c.self.view_is e.1
