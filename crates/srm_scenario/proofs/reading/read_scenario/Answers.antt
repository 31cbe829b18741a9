use Rattle.std.proofs.Common.{◌≡◌, ◌<◌, ◌≤◌, length, ◌∙◌, arith}
use Rattle.srm_scenario.proofs.Texts.{count_stays, long_known, too_long}
use Rattle.srm_scenario.proofs.reading.read_scenario.Goals as goal

pub returns-in-Err-TooLong-clause-answer : goal.returns-in-Err-TooLong-clause-answer
returns-in-Err-TooLong-clause-answer g c =
    long_known (g.F.Feed.remaining c.args.feed.now) (rw c.in-Err-TooLong.field-0-is at c.in-Err-TooLong.ensures.text)

pub returns-clause-failures : goal.returns-clause-failures
returns-clause-failures g c =
    let few : length c.deref.result.now ≤ 1048576 = rw c.deref.ensures.value c.in-Ok.ensures.bound in
    c.in-Ok.ensures.failures ∙ count_stays c.deref.result.now c.scenario_of_text.result (g.F.Feed.failures c.args.feed.now) few
    c.scenario_of_text.ensures.fault

pub returns-in-Err-TooLong-clause-taken : goal.returns-in-Err-TooLong-clause-taken
returns-in-Err-TooLong-clause-taken g c =
    let taken = rw c.in-Err-TooLong.field-0-is at c.in-Err-TooLong.ensures.taken in
    let all : length taken.0 ≡ 1048577 = taken.2 in
    let few : length taken.0 ≤ 1048577 = omega arith in
    let many : 1048576 < length taken.0 = omega arith in
    (taken.0, taken.1, few, too_long taken.0 many)
