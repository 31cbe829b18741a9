-- How far packets go.
use Rattle.std.specs.Prelude.{ℕ, Option, None}
use Rattle.std.specs.Option.{option_map}
use Rattle.srm_net.specs.declared.packet.Body.{Body}
use Rattle.srm_net.specs.declared.packet.Body.TheVariants.{Drawop, Request, Repair, Session}
use Rattle.srm_net.specs.declared.packet.Local.{Local}

-- the scope of a packet that carries this, in hops, or none where it goes to all
abbrev pub scope_of : Body → Option ℕ
scope_of (Drawop n ink) = None
scope_of (Request n scope) = scope
scope_of (Repair n ink local) = option_map (λ (l : Local). l.scope) local
scope_of (Session hs) = None
