use Rattle.std.proofs.Common.{ap, ◌∙◌}
use Rattle.rayon.specs.Lists.{min_len_base, vec_items}
use Rattle.srm_crew.proofs.Gathering.{gathered}
use Rattle.srm_crew.proofs.pool.in_pool.Goals as goal

pub returns-in-Ok : goal.returns-in-Ok
returns-in-Ok g c =
    let h = c.in-Ok.ensures in
    let same = h.1.1 ∙ ap (λ it. vec_items (min_len_base it)) c.map.ensures.base ∙ ap vec_items c.with_min_len.ensures.base
    ∙ c.into_par_iter.ensures in
    gathered _ c.args.jobs.items h.0 c.in-Ok.done (rw (c.map.ensures.f, same) at h.1.2) h.2
