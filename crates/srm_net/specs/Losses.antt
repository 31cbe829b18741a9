-- The losses of links, and the words that decide which packets they take.
use Rattle.std.specs.Prelude.{ℕ, ◌+◌, ◌*◌, ◌/◌, ◌%◌, ◌^◌, Bool, true, ◌&&◌, ◌==◌, List, Option, Some, None, nat_le}
use Rattle.std.specs.Prelude.{nat_lt, bit_xor}
use Rattle.std.specs.List.{list_any}
use Rattle.srm_net.specs.declared.link.LossSpec.{LossSpec}
use Rattle.srm_net.specs.declared.packet.PacketId.{PacketId}
use Rattle.srm_net.specs.Limits.{most_nodes}

-- z with its high bits folded down by k places, times m, on words of 64 bits
abbrev pub folded : ℕ → ℕ → ℕ → ℕ
folded z k m = bit_xor z (z / 2 ^ k) * m % 2 ^ 64

-- the output function of SplitMix64 (Steele, Lea and Flood 2014), on words of 64 bits
unfoldable pub mix : ℕ → ℕ
mix z =
    let y = folded (folded z 30 0xbf58476d1ce4e5b9) 27 0x94d049bb133111eb in
    bit_xor y (y / 2 ^ 31)

-- the word of 32 bits that decides, for a seed and a stream, what becomes of packet p at link l
unfoldable pub loss_word : ℕ → ℕ → ℕ → PacketId → ℕ
loss_word seed stream l p =
    mix (bit_xor
    (mix (bit_xor (mix (bit_xor (mix ((seed + 0x9e3779b97f4a7c15) % 2 ^ 64)) stream)) (l * 65536 + p.sender)))
    p.count) / 2 ^ 32

-- whose word decides of packet p, which comes to the link at tick t: its own or, with slots of so many ticks, that of
-- the slot of t, as of a packet of a sender that no network has
abbrev pub deciding : Option ℕ → PacketId → ℕ → PacketId
deciding None p t = p
deciding (Some burst) p t = record { sender = most_nodes; count = t / burst }

-- so many of the words take a packet, at a rate in millionths
abbrev pub words_taking : ℕ → ℕ
words_taking rate = rate * 2 ^ 32 / 1000000

-- whether tick t is before an end, if there is one
abbrev pub is_before_end : Option ℕ → ℕ → Bool
is_before_end None t = true
is_before_end (Some to) t = nat_lt t to

-- whether a loss is on at tick t
abbrev pub is_on : LossSpec → ℕ → Bool
is_on o t = nat_le o.from t && is_before_end o.to t

-- whether a loss takes packet p, which comes to its link at tick t
abbrev pub takes : ℕ → PacketId → ℕ → LossSpec → Bool
takes seed p t o =
    is_on o t && nat_lt (loss_word seed o.stream o.link (deciding o.burst p t)) (words_taking o.rate)

-- whether link l loses packet p, which comes to it at tick t: a loss of the link takes it
abbrev pub is_lost : List LossSpec → ℕ → PacketId → ℕ → ℕ → Bool
is_lost losses seed p l t = list_any (λ o. (o.link == l) && takes seed p t o) losses

-- whether some loss, of whichever link, goes on after tick t
abbrev pub some_goes_on_after : List LossSpec → ℕ → Bool
some_goes_on_after losses t = list_any (λ o. is_before_end o.to t) losses
