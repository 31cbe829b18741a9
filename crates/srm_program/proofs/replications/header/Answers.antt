use Rattle.std.proofs.Common.{◌∙◌, ◌++◌, sym}
use Rattle.srm_program.proofs.ReplicationLemmas.{seed_first}
use Rattle.srm_program.proofs.replications.header.Goals as goal

pub returns : goal.returns
returns c =
    c.in_ok-extend_from_slice.ensures.items ∙ (λ i. c.in_ok-text.ensures.items i ++ c.columns.ensures i) ∙ sym (seed_first c.args.show)
