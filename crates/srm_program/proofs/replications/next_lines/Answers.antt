use Rattle.std.proofs.Common.{◌≡◌, ◌∙◌, ◌+◌, ◌-◌, ◌≤◌, ◌++◌, ◌∷◌, ℕ, List, Ok, Err, ap, sym, arith}
use Rattle.std.specs.List.{range_with_len}
use Rattle.srm_program.proofs.ReplicationLemmas.{range_first, range_joined}
use Rattle.srm_program.proofs.replications.next_lines.Goals as goal

-- of the runs that are under way the first is that of this seed
first_run : (seed next end n x : ℕ) (old mid new : List ℕ) → seed ≤ next → next ≤ n → old ≡ range_with_len seed (next - seed)
    → mid ≡ old ++ range_with_len next (n - next) → mid ≡ x ∷ new
    → (x ≡ seed) × (seed + 1 ≤ n) × (new ≡ range_with_len (seed + 1) (n - (seed + 1)))
first_run seed next end n x old mid new le more was begun given =
    let all : mid ≡ range_with_len seed (n - seed) =
    begun ∙ ap (λ l. l ++ range_with_len next (n - next)) was
    ∙ range_joined seed (next - seed) next (n - next) (n - seed) (omega (arith, le)) (omega (arith, le, more)) in
    let first = range_first seed (n - seed) x new (sym all ∙ given) in
    let less : n - seed - 1 ≡ n - (seed + 1) = omega arith in
    (first.0, omega (arith, first.1), first.2 ∙ ap (range_with_len (seed + 1)) less)

pub returns-in-Ok-made-clause-under_way : goal.returns-in-Ok-made-clause-under_way
returns-in-Ok-made-clause-under_way g c =
    let begun = c.in-Ok.ensures.begun in
    let given = c.in-Ok-next.ensures.given in
    let first = first_run c.args.seed c.args.next c.args.end c.in-Ok.next given.0 c.args.relay.now.under_way
    c.begin_runs.new.relay.under_way c.next.new.self.under_way c.requires.order.0 begun.0 c.requires.under_way begun.2 given.1 in
    (first.1, begun.1, first.2)

pub returns-in-Ok-made-clause-lines : goal.returns-in-Ok-made-clause-lines
returns-in-Ok-made-clause-lines g c = λ p show each.
    let begun = c.in-Ok.ensures.begun in
    let given = c.in-Ok-next.ensures.given in
    let first = first_run c.args.seed c.args.next c.args.end c.in-Ok.next given.0 c.args.relay.now.under_way
    c.begin_runs.new.relay.under_way c.next.new.self.under_way c.requires.order.0 begun.0 c.requires.under_way begun.2 given.1 in
    each c.args.seed (Ok c.in-Ok-made.lines) (rw (← c.in-Ok-made.is, ← first.0, ← c.begin_runs.ensures.work) given.2)

pub returns-in-Err-made-clause-lines : goal.returns-in-Err-made-clause-lines
returns-in-Err-made-clause-lines g c = λ p show each.
    let begun = c.in-Ok.ensures.begun in
    let given = c.in-Ok-next.ensures.given in
    let first = first_run c.args.seed c.args.next c.args.end c.in-Ok.next given.0 c.args.relay.now.under_way
    c.begin_runs.new.relay.under_way c.next.new.self.under_way c.requires.order.0 begun.0 c.requires.under_way begun.2 given.1 in
    each c.args.seed (Err c.in-Err-made.fault) (rw (← c.in-Err-made.is, ← first.0, ← c.begin_runs.ensures.work) given.2)
