use Rattle.srm_scenario.proofs.checks.is_taken.Goals as goal

pub returns : goal.returns
returns c = λ members marks. rw c.from.ensures (marks c.args.node)
