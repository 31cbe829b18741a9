use Rattle.std.proofs.Common.{ℕ, rules}
use Rattle.std.proofs.lemmas.Result.{on_ok_weaker}
use Rattle.std.proofs.lemmas.List.Sorted.{answers_always}
use Rattle.srm_net.specs.declared.rank.Rank.{Rank}
use Rattle.srm_scenario.proofs.script.sort_marks.Goals as goal
use Rattle.srm_scenario.proofs.Marks.{marks-from_sort}
use Rattle.srm_scenario.specs.declared.mark.Mark.{Mark}

pub returns : goal.returns
returns c =
    let key : Mark → ℕ × Rank × ℕ = λ m. (m.at, m.rank, m.place) in
    on_ok_weaker c.sort_by_key.result
    (λ sorted. marks-from_sort c.args.marks.now.items c.sort_by_key.new.self.items
    (sorted key (answers_always _ _ _ (λ f a r f' k. search rules)))
    (c.sort_by_key.ensures.stable key (answers_always _ _ _ (λ f a r f' k. search rules))))
    c.sort_by_key.ensures.sorted
