-- Keys, names, pages and drops are ordered by their numbers: totally, and what ties is one.
use Rattle.std.proofs.Common.{arith}
use Rattle.std.proofs.Common.{◌≡◌, ℕ, ◌+◌, ◌*◌, ◌<◌, ◌^◌, [], ◌∷◌, Ordering, Less, Equal, Greater, ap, sym, ◌∙◌, nat_cmp}
use Rattle.std.specs.Cmp.{IsTotalOrder, on_total, ranks, nat_cmp_is}
use Rattle.std.specs.Cmp.Lexicographic.{nat_list_cmp_total}
use Rattle.std.specs.Ordering.{ordering_then, MatchOrdering}
use Rattle.std.proofs.lemmas.Cmp.{tied_itself}
use Rattle.srm_net.specs.contracts.key.KeyOrd.TheImpl as key_order
use Rattle.srm_net.specs.contracts.rank.RankOrd.TheImpl as rank_order
use Rattle.srm_net.specs.declared.key.Key.{Key}
use Rattle.srm_net.specs.declared.link.DropSpec.{DropSpec}
use Rattle.srm_net.specs.declared.packet.Name.{Name}
use Rattle.srm_net.specs.declared.packet.PageId.{PageId}
use Rattle.srm_net.specs.declared.rank.Rank.{Rank}
use Rattle.srm_net.specs.Keys.{rank_number, key_cmp, numbers_of_key}
use Rattle.srm_net.specs.Names.{numbers_of_name, name_cmp, page_cmp}
use Rattle.srm_net.specs.Paths.{drop_cmp}

-- ranks of one number are one
pub one_rank : (r q : Rank) → rank_number r ≡ rank_number q → r ≡ q
unfolding rank_number
one_rank r q e = grind arith

pub key_total : IsTotalOrder key_cmp
key_total = on_total numbers_of_key nat_list_cmp_total

pub tied_keys : (k l : Key) → key_cmp k l ≡ Equal → k ≡ l
tied_keys k l e = grind (arith, one_rank)

-- the derived order of ranks is that of their numbers
pub ranks_compared : (r q : Rank) → rank_order.ghosts.cmp r q ≡ nat_cmp (rank_number r) (rank_number q)
unfolding rank_number
ranks_compared r q = grind arith

numbers_compared : (k l : Key) → ordering_then (nat_cmp k.time l.time) (ordering_then (nat_cmp k.member l.member) (ordering_then
    (nat_cmp (rank_number k.rank) (rank_number l.rank))
    (ordering_then (nat_cmp k.a l.a) (ordering_then (nat_cmp k.b l.b) (nat_cmp k.c l.c))))) ≡ key_cmp k l
numbers_compared k l = grind arith

-- the derived order of keys is that of their numbers
pub keys_compared : (k l : Key) → key_order.ghosts.cmp k l ≡ key_cmp k l
keys_compared k l =
    ap (λ r. ordering_then (nat_cmp k.time l.time) (ordering_then (nat_cmp k.member l.member) (ordering_then r
    (ordering_then (nat_cmp k.a l.a) (ordering_then (nat_cmp k.b l.b) (nat_cmp k.c l.c)))))) (ranks_compared k.rank l.rank)
    ∙ numbers_compared k l

pub name_total : IsTotalOrder name_cmp
name_total = on_total numbers_of_name nat_list_cmp_total

pub name_self : (n : Name) → name_cmp n n ≡ Equal
name_self n = tied_itself name_total n

pub tied_names : (n o : Name) → name_cmp n o ≡ Equal → n ≡ o
tied_names n o e = grind arith

-- how two numbers of three parts each are ordered, by the orders of these
by_parts : (a b c d x y : ℕ) → c < 2 ^ 16 → d < 2 ^ 16 → x < 2 ^ 32 → y < 2 ^ 32 → (r q s : Ordering)
    → MatchOrdering r (a < b) (a ≡ b) (b < a) → MatchOrdering q (c < d) (c ≡ d) (d < c) → MatchOrdering s (x < y) (x ≡ y) (y < x)
    → MatchOrdering (ordering_then r (ordering_then q (ordering_then s Equal)))
    ((a * 2 ^ 16 + c) * 2 ^ 32 + x < (b * 2 ^ 16 + d) * 2 ^ 32 + y) ((a * 2 ^ 16 + c) * 2 ^ 32 + x ≡ (b * 2 ^ 16 + d) * 2 ^ 32 + y)
    ((b * 2 ^ 16 + d) * 2 ^ 32 + y < (a * 2 ^ 16 + c) * 2 ^ 32 + x)
by_parts a b c d x y g h i j Less q s e f k = let lt : a < b = e in omega arith
by_parts a b c d x y g h i j Greater q s e f k = let lt : b < a = e in omega arith
by_parts a b c d x y g h i j Equal Less s e f k = let same : a ≡ b = e in let lt : c < d = f in omega arith
by_parts a b c d x y g h i j Equal Greater s e f k = let same : a ≡ b = e in let lt : d < c = f in omega arith
by_parts a b c d x y g h i j Equal Equal Less e f k =
    let same : a ≡ b = e in let level : c ≡ d = f in let lt : x < y = k in omega arith
by_parts a b c d x y g h i j Equal Equal Greater e f k =
    let same : a ≡ b = e in let level : c ≡ d = f in let lt : y < x = k in omega arith
by_parts a b c d x y g h i j Equal Equal Equal e f k =
    let same : a ≡ b = e in let level : c ≡ d = f in let even : x ≡ y = k in omega arith

-- names are compared as one number, whose lower parts have room
pub as_one_number : (n o : Name) → n.page < 2 ^ 16 → o.page < 2 ^ 16 → n.number < 2 ^ 32 → o.number < 2 ^ 32
    → nat_cmp ((n.source * 2 ^ 16 + n.page) * 2 ^ 32 + n.number) ((o.source * 2 ^ 16 + o.page) * 2 ^ 32 + o.number) ≡ name_cmp n o
as_one_number n o g h i j = sym (nat_cmp_is _ _ (name_cmp n o)
    (by_parts n.source o.source n.page o.page n.number o.number g h i j _ _ _ (ranks n.source o.source) (ranks n.page o.page)
    (ranks n.number o.number)))

pub page_total : IsTotalOrder page_cmp
page_total = on_total (λ (p : PageId). p.source ∷ p.page ∷ []) nat_list_cmp_total

pub tied_pages : (p q : PageId) → page_cmp p q ≡ Equal → p ≡ q
tied_pages p q e = grind arith

pub drop_total : IsTotalOrder drop_cmp
drop_total = on_total (λ (d : DropSpec). d.link ∷ d.id.sender ∷ d.id.count ∷ []) nat_list_cmp_total
