use Rattle.std.proofs.Common.{◌≡◌, ◌∙◌, ◌<◌, ◌≤◌, List, ℕ, length, inl, inr, subst, arith}
use Rattle.srm_scenario.proofs.Texts.{too_long}
use Rattle.srm_scenario.proofs.Texts as texts
use Rattle.std.specs.Io.KnownBytes.{Consumes}
use Rattle.srm_program.specs.Explained.{KeepsText}
use Rattle.srm_program.specs.Sessions.{TellsFeed, TellsTextRefusals}
use Rattle.srm_program.proofs.Texts.{keeps-itself, long_known, text_read, whole_read}
use Rattle.srm_program.proofs.session.simulate.Goals as goal

pub returns-in-Err-TooLong-clause-taken : goal.returns-in-Err-TooLong-clause-taken
returns-in-Err-TooLong-clause-taken g c =
    let taken = rw c.in-Err-TooLong.field-0-is at c.in-Err-TooLong.ensures.taken in
    let all : length taken.0 ≡ 1048577 = taken.2 in
    let few : length taken.0 ≤ 1048577 = omega arith in
    let many : 1048576 < length taken.0 = omega arith in
    (taken.0, taken.1, few, (inr (too_long taken.0 many), keeps-itself _), inl search)

pub returns-in-Err-TooLong-clause-report : goal.returns-in-Err-TooLong-clause-report
returns-in-Err-TooLong-clause-report g c =
    long_known (g.F.Feed.remaining c.args.feed.now) _ (keeps-itself (g.O.Outlet.taken c.args.outlet.now))
    (texts.long_known (g.F.Feed.remaining c.args.feed.now) (rw c.in-Err-TooLong.field-0-is at c.in-Err-TooLong.ensures.text))

pub returns-clause-read : goal.returns-clause-read
returns-clause-read g c =
    let few : length c.deref.result.now ≤ 1048576 = rw c.deref.ensures.value c.in-Ok.ensures.bound in
    c.in-Ok.ensures.failures ∙ text_read c.deref.result.now c.args.seed c.args.options _ _ c.simulate_text-done.result
    (g.F.Feed.failures c.args.feed.now) few c.simulate_text-done.ensures.report

pub returns-clause-taken : goal.returns-clause-taken
returns-clause-taken g c =
    let text = c.in-Ok.text.items in
    let old = g.O.Outlet.taken c.args.outlet.now in
    let new = g.O.Outlet.taken c.simulate_text-done.new.outlet in
    let done = c.simulate_text-done.result in
    let few : length c.deref.result.now ≤ 1048576 = rw c.deref.ensures.value c.in-Ok.ensures.bound in
    let read = whole_read c.deref.result.now c.args.seed c.args.options old new done few c.simulate_text-done.ensures.report in
    let kept = subst (λ (l : List ℕ). TellsFeed c.args.seed c.args.options l old new done × KeepsText done l l)
    c.deref.ensures.value read in
    let given = c.in-Ok.ensures.taken in
    let consumed = subst (λ (l : List ℕ). Consumes (g.F.Feed.remaining c.args.feed.now) (g.F.Feed.remaining c.read_text.new.feed) l)
    given.2.0 given.1 in
    let bound : length text ≤ 1048576 = c.in-Ok.ensures.bound in
    (text, consumed, omega arith, kept.0, kept.1)

pub returns-clause-refusals : goal.returns-clause-refusals
returns-clause-refusals g c =
    subst (λ (l : List ℕ). TellsTextRefusals c.args.seed c.args.options l (g.O.Outlet.taken c.args.outlet.now)
    (g.O.Outlet.taken c.simulate_text-done.new.outlet) c.simulate_text-done.result) c.deref.ensures.value
    c.simulate_text-done.ensures.refusals
