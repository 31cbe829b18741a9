-- Losses that take every packet, and what decides of packets that are lost.
use Rattle.std.proofs.Common.{◌≡◌, ℕ, ◌*◌, ◌/◌, ◌^◌, ◌<◌, Bool, true, ◌&&◌, ◌||◌, ◌==◌, List, Option, refl, sym, ap, ◌∙◌, arith}
use Rattle.std.proofs.Common.{bit_xor, nat_lt, nat_le, eq-eqb}
use Rattle.std.proofs.lemmas.Bool.{lt-ltb, le-leb}
use Rattle.std.proofs.lemmas.Nat.{xor_lt, shr_below, mod_below, shr_le}
use Rattle.srm_net.specs.declared.link.LossSpec.{LossSpec}
use Rattle.srm_net.specs.declared.packet.PacketId.{PacketId}
use Rattle.srm_net.specs.DropRules.{is_out}
use Rattle.srm_net.specs.Paths.{is_listed}
use Rattle.srm_net.specs.Losses.{folded, mix, loss_word, deciding, is_on, words_taking, is_lost}
use Rattle.srm_net.specs.Limits.{most_nodes}
use Rattle.srm_net.specs.Laws.{SureLossIsOutage, SureLossDropsAll, SlotsHaveOneFate, PacketsHaveTheirOwn, SeedDecidesLossesAlone}
use Rattle.srm_net.specs.Laws.{OthersDecideNothing}

-- ---- words have 32 bits

folded_below : (z k m : ℕ) → folded z k m < 2 ^ 64
folded_below z k m = mod_below (bit_xor z (z / 2 ^ k) * m) (2 ^ 64) (omega arith)

turned_below : (y : ℕ) → y < 2 ^ 64 → bit_xor y (y / 2 ^ 31) < 2 ^ 64
turned_below y h = xor_lt 64 y (y / 2 ^ 31) h (let k = shr_le y 31 in omega arith)

mix_below : (z : ℕ) → mix z < 2 ^ 64
unfolding mix
mix_below z = turned_below (folded (folded z 30 0xbf58476d1ce4e5b9) 27 0x94d049bb133111eb)
    (folded_below (folded z 30 0xbf58476d1ce4e5b9) 27 0x94d049bb133111eb)

word_below : (seed stream l : ℕ) (p : PacketId) → loss_word seed stream l p < 2 ^ 32
unfolding loss_word
word_below seed stream l p = shr_below _ 32 32 (mix_below _)

always : (seed stream l : ℕ) (p : PacketId) → nat_lt (loss_word seed stream l p) (2 ^ 32) ≡ true
always seed stream l p = lt-ltb _ _ (word_below seed stream l p)

-- ---- a rate of 1,000,000

pub sure_loss_is_outage : SureLossIsOutage
sure_loss_is_outage rules l stream from to burst p s =
    let word = nat_lt (loss_word rules.seed stream l (deciding burst p s.at)) (2 ^ 32) in
    let sure : word ≡ true = always rules.seed stream l (deciding burst p s.at) in
    ap (λ b. is_listed rules.listed p s.link || b)
    (turned (is_out rules.outages s.link s.at) (l == s.link) (nat_le from s.at && nat_lt s.at to)
    word (is_lost rules.losses rules.seed p s.link s.at) sure)
  where
    turned : (out here on word lost : Bool) → word ≡ true → (out || ((here && (on && word)) || lost)) ≡ (((here && on) || out) || lost)
    turned out here on word lost h = grind arith

pub sure_loss_drops_all : SureLossDropsAll
sure_loss_drops_all rules l stream burst p t =
    all (is_listed rules.listed p l) (is_out rules.outages l t) (l == l) (nat_le 0 t)
    (nat_lt (loss_word rules.seed stream l (deciding burst p t)) (2 ^ 32)) (is_lost rules.losses rules.seed p l t)
    (eq-eqb l l refl) (le-leb 0 t (omega arith)) (always rules.seed stream l (deciding burst p t))
  where
    all : (listed out here on word lost : Bool) → here ≡ true → on ≡ true → word ≡ true
        → (listed || (out || ((here && ((on && true) && word)) || lost))) ≡ true
    all listed out here on word lost h j k = grind arith

-- ---- what decides

-- what a word decides, by the slots of a loss
abbrev decided : ℕ → LossSpec → Option ℕ → PacketId → ℕ → Bool
decided seed o slots p t = nat_lt (loss_word seed o.stream o.link (deciding slots p t)) (words_taking o.rate)

pub slots_have_one_fate : SlotsHaveOneFate
slots_have_one_fate o burst slots t u slot on_then on_now seed p q =
    ap (λ b. b && decided seed o o.burst p t) (on_then ∙ sym on_now)
    ∙ ap (λ b. is_on o u && b)
    (ap (λ s. decided seed o s p t) slots
    ∙ ap (λ k. nat_lt (loss_word seed o.stream o.link (record { sender = most_nodes; count = k })) (words_taking o.rate)) slot
    ∙ sym (ap (λ s. decided seed o s q u) slots))

pub packets_have_their_own : PacketsHaveTheirOwn
packets_have_their_own o none seed t p = ap (λ s. is_on o t && decided seed o s p t) none

pub seed_decides_losses_alone : SeedDecidesLossesAlone
seed_decides_losses_alone rules none seed p s =
    ap (λ (os : List LossSpec). is_listed rules.listed p s.link || (is_out rules.outages s.link s.at || is_lost os seed p s.link s.at)) none
    ∙ sym (ap (λ (os : List LossSpec). is_listed rules.listed p s.link
    || (is_out rules.outages s.link s.at || is_lost os rules.seed p s.link s.at)) none)

pub others_decide_nothing : OthersDecideNothing
others_decide_nothing listed others outages losses seed p h s =
    ap (λ b. b || (is_out outages s.link s.at || is_lost losses seed p s.link s.at)) (h s.link)
