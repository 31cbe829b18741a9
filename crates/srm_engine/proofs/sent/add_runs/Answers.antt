use Rattle.std.proofs.Common.{◌≡◌, ◌∙◌, ◌++◌, ◌∷◌, [], ℕ, List, length, refl, sym, ap, arith, append_assoc, append-nil}
use Rattle.std.specs.Global.{Vec}
use Rattle.std.specs.Vec.Iter.{into_iter_items}
use Rattle.srm_interfaces.specs.Grouped.{all_in}
use Rattle.srm_interfaces.proofs.GroupedLemmas.{all_in_push}
use Rattle.srm_engine.proofs.sent.add_runs.Goals.{then-ends+in_ok-push, else-ends}
use Rattle.srm_engine.proofs.sent.add_runs.Goals as goal

-- one more comes behind what was moved into a run, or begins the next
run_on : {A : Type 0} (old new run now rest more : List A) (x : A) → new ++ now ≡ old ++ run → rest ≡ x ∷ more
    → new ++ ((now ++ x ∷ []) ++ more) ≡ old ++ (run ++ rest)
run_on old new run now rest more x same is =
    ap (λ l. new ++ l) (append_assoc now (x ∷ []) more) ∙ sym (append_assoc new now (x ∷ more))
    ∙ ap (λ l. l ++ (x ∷ more)) same ∙ append_assoc old run (x ∷ more) ∙ ap (λ l. old ++ (run ++ l)) (sym is)

-- none are left where so many are
none_left : {A : Type 0} (n : ℕ) (xs : List A) → n ≡ length xs → n ≡ 0 → xs ≡ []
none_left n [] long zero = refl
none_left n (x ∷ xs) long zero = absurd (omega arith)

pub loop-one-preserved : goal.loop-one-preserved
loop-one-preserved c =
    let lists = c.loop-one.lists.items in
    let run = c.loop-one.run.items in
    let same : all_in c.if-ends.lists.items ++ c.if-ends.run.items ≡ all_in lists ++ run = elim c.if-ends.branch [
      | then-ends+in_ok-push w ↦
          ap (λ (r : Vec _). all_in c.if-ends.lists.items ++ r.items) w.run-is
          ∙ ap (λ l. all_in c.if-ends.lists.items ++ l) w.new-run-then-ends.ensures.items
          ∙ append-nil (all_in c.if-ends.lists.items)
          ∙ ap (λ (v : Vec _). all_in v.items) w.lists-is ∙ ap all_in w.in_ok-push.ensures.items
          ∙ all_in_push lists c.loop-one.run
      | else-ends w ↦ λ i. all_in (w.lists-is i).items ++ (w.run-is i).items
    ] in
    ap (λ l. all_in c.if-ends.lists.items ++ (l ++ into_iter_items c.next.new.self)) c.in_ok-push-2.ensures.items
    ∙ run_on (all_in lists) (all_in c.if-ends.lists.items) run c.if-ends.run.items (into_iter_items c.loop-one.one-iterator)
    (into_iter_items c.next.new.self) c.in-Some.one same c.in-Some.ensures.steps.0
    ∙ c.loop-one.invariant

pub returns-in_ok-push-3 : goal.returns-in_ok-push-3
returns-in_ok-push-3 c =
    let lists = c.loop-one.lists.items in
    let rest = c.loop-one.one-iterator in
    ap all_in c.in_ok-push-3.ensures.items ∙ all_in_push lists c.loop-one.run
    ∙ ap (λ l. all_in lists ++ l) (sym (append-nil c.loop-one.run.items))
    ∙ ap (λ l. all_in lists ++ (c.loop-one.run.items ++ l))
    (sym (none_left rest.rest.len (into_iter_items rest) rest.rest.ok.0 c.in-None.ensures.steps.0))
    ∙ c.loop-one.invariant
