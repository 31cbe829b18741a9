use Rattle.std.proofs.Common.{rules, ◌≡◌, refl}
use Rattle.srm_program.proofs.by_watch.lead_beside.Goals as goal

pub join_mut-answer-requires-after_bounds : goal.join_mut-answer-requires-after_bounds
join_mut-answer-requires-after_bounds g c κs within = (
  search,
  (
    c.args.waiting,
    refl,
    c.requires.lead,
    c.requires.opening,
    c.requires.may,
  ),
)

pub returns : goal.returns
returns g c =
    let told = c.join_mut-answer.ensures.1.met.1 c.args.waiting refl in
    let same : c.join_mut-answer.new.g.4.now ≡ c.outlet-1.given.0 = search rules in
    rw same at told
