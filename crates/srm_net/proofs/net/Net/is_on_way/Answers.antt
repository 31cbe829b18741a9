use Rattle.srm_net.proofs.FateLemmas.{told_on_way}
use Rattle.srm_net.proofs.net.Net.is_on_way.Goals as goal

pub returns : goal.returns
returns c =
    let b = c.beyond-is_any_beyond in
    told_on_way c.args.self.now b.ensures.network c.args.link c.args.m c.host.result b.result.1 c.requires.link c.requires.member
    c.host.ensures.value b.ensures.any
