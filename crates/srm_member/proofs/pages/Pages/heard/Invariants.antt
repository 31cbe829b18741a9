use Rattle.std.proofs.Common.{◌≡◌, ◌++◌, map, drop}
use Rattle.srm_net.specs.declared.packet.PageId.{PageId}
use Rattle.srm_member.specs.Record.{Progress}
use Rattle.srm_member.specs.Fit.{heard_of}
use Rattle.srm_member.proofs.pages.Pages.heard.Given as goal

-- the pages still to come
abbrev pub invariant-loop-page : goal.invariant-loop-page
invariant-loop-page l = l.heard ++ map (λ (e : PageId × Progress). heard_of e.0 e.1) (drop l.page-index l.self)
    ≡ map (λ (e : PageId × Progress). heard_of e.0 e.1) l.self
