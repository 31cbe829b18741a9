use Rattle.std.proofs.Common.{◌≡◌, ◌<◌, ◌∙◌, ◌*◌, ◌-◌, ◌/◌, List, ℕ, length, take, drop, ap, sym, subst, slice_index_or, arith}
use Rattle.std.specs.List.{concat}
use Rattle.std.proofs.lemmas.List.{length-drop, take_all}
use Rattle.srm_ledger.proofs.Joined.{chunks_joined, chunks_are_fives}
use Rattle.srm_ledger.proofs.totals.Totals.links.Goals as goal

pub returns-clause-numbers : goal.returns-clause-numbers
returns-clause-numbers c =
    let words = c.self.inside.words.items in
    let links = c.self.invariant.0 in
    let wide = c.self.invariant.1 in
    let lent : List ℕ = c.deref.result.now in
    let long : length lent ≡ length words = ap length c.deref.ensures.value in
    let behind = length-drop 1 lent in
    let numbers : List ℕ = take (length lent - 1) (drop 1 lent) in
    let same : numbers ≡ drop 1 lent = take_all (length lent - 1) (drop 1 lent) (omega arith) in
    let count = ap length same in
    let fives : length numbers ≡ 5 * (length numbers / 5) = omega arith in
    ap concat c.as_chunks.ensures.front
    ∙ chunks_joined (length numbers / 5) numbers fives
    ∙ same
    ∙ ap (drop 1) c.deref.ensures.value
    ∙ c.self.view_is

pub returns-clause-five : goal.returns-clause-five
returns-clause-five c = λ k d lt.
    let words = c.self.inside.words.items in
    let links = c.self.invariant.0 in
    let wide = c.self.invariant.1 in
    let lent : List ℕ = c.deref.result.now in
    let long : length lent ≡ length words = ap length c.deref.ensures.value in
    let behind = length-drop 1 lent in
    let numbers : List ℕ = take (length lent - 1) (drop 1 lent) in
    let same : numbers ≡ drop 1 lent = take_all (length lent - 1) (drop 1 lent) (omega arith) in
    let count = ap length same in
    let fives : length numbers ≡ 5 * (length numbers / 5) = omega arith in
    subst (λ (ls : List (List ℕ)). k < length ls → length (slice_index_or ls k d) ≡ 5) (sym c.as_chunks.ensures.front)
    (chunks_are_fives (length numbers / 5) numbers fives k d) lt
