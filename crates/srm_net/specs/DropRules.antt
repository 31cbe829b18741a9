-- The rules by which links drop packets.
use Rattle.std.specs.Prelude.{ℕ, Bool, ◌&&◌, ◌||◌, ◌==◌, List, nat_le, nat_lt}
use Rattle.std.specs.List.{list_any}
use Rattle.srm_net.specs.declared.link.DropSpec.{DropSpec}
use Rattle.srm_net.specs.declared.link.OutageSpec.{OutageSpec}
use Rattle.srm_net.specs.declared.link.LossSpec.{LossSpec}
use Rattle.srm_net.specs.declared.packet.PacketId.{PacketId}
use Rattle.srm_net.specs.Listed.{is_listed_somewhere}
use Rattle.srm_net.specs.Losses.{some_goes_on_after}

-- the packets that links are configured to drop, the outages of links, and their losses with the seed of their words
pub record DropRules : Type 0 where
  pub listed : List DropSpec
  pub outages : List OutageSpec
  pub losses : List LossSpec
  pub seed : ℕ

-- the same with another seed
abbrev pub with_seed : DropRules → ℕ → DropRules
with_seed rules seed = record { listed = rules.listed; outages = rules.outages; losses = rules.losses; seed = seed }

-- whether link l is out at tick t: an outage of it is on, as it is from its tick `from` up to below its tick `to`
abbrev pub is_out : List OutageSpec → ℕ → ℕ → Bool
is_out outages l t = list_any (λ o. (o.link == l) && (nat_le o.from t && nat_lt t o.to)) outages

-- whether some outage, of whichever link, ends after tick t
abbrev pub some_ends_after : List OutageSpec → ℕ → Bool
some_ends_after outages t = list_any (λ o. nat_lt t o.to) outages

-- whether some link is listed for packet p, or an outage ends or a loss goes on after tick `sent`, at which the packet
-- is sent: any other packet goes everywhere
abbrev pub may_drop : DropRules → PacketId → ℕ → Bool
may_drop rules p sent =
    is_listed_somewhere rules.listed p
    || (some_ends_after rules.outages sent || some_goes_on_after rules.losses sent)
