-- Steps of the losses of a page, and of the entries of a session message; data in turn, by which nothing is lost.
use Rattle.std.proofs.Common.{◌≡◌, ℕ, suc, ◌+◌, ◌-◌, ◌<◌, ◌≤◌, Bool, true, false, nat_lt, nat_le, if◌then◌else◌, List, [], ◌∷◌, ◌++◌}
use Rattle.std.proofs.Common.{length, drop, get_or, refl, sym, ap, subst, ◌∙◌, arith}
use Rattle.std.proofs.lemmas.List.{drop_more, drop_all}
use Rattle.srm_net.specs.declared.packet.Name.{Name}
use Rattle.srm_net.specs.declared.packet.PageId.{PageId}
use Rattle.srm_net.specs.declared.packet.Heard.{Heard}
use Rattle.srm_net.specs.Names.{name_in, page_of}
use Rattle.srm_member.specs.Intervals.{begin_period}
use Rattle.srm_member.specs.Record.{MemberState, Progress}
use Rattle.srm_member.specs.React.{lose_one, lose_from, names_from, hear_session, after_entry, lost_by_entry, quietly}
use Rattle.srm_member.specs.React.{meet, with_progress, with_losses_begun, lose_below, lost_below, with_held, hear_data}
use Rattle.srm_member.specs.declared.told.Told.TheVariants.{Fresh, Heard as Informed}

one_more : (k to : ℕ) → k < to → to - k ≡ suc (to - (k + 1))
one_more k to h = omega arith

next_one : (k : ℕ) → suc k ≡ k + 1
next_one k = omega arith

none_left : (k to : ℕ) → to ≤ k → to - k ≡ 0
none_left k to h = omega arith

pub lose_from-next : (at : ℕ) (p : PageId) (k to : ℕ) (m : MemberState) → k < to → lose_from at p (to - k) k m
    ≡ lose_from at p (to - (k + 1)) (k + 1) (lose_one at (name_in p k) m)
unfolding lose_from
lose_from-next at p k to m h = ap (λ c. lose_from at p c k m) (one_more k to h)
    ∙ ap (λ j. lose_from at p (to - (k + 1)) j (lose_one at (name_in p k) m)) (next_one k)

pub lose_from-end : (at : ℕ) (p : PageId) (k to : ℕ) (m : MemberState) → to ≤ k → lose_from at p (to - k) k m ≡ m
unfolding lose_from
lose_from-end at p k to m h = ap (λ c. lose_from at p c k m) (none_left k to h)

-- nothing is lost below the next number
lose_none : (at : ℕ) (p : PageId) (k next : ℕ) (s : Progress) (m : MemberState) → k ≡ s.next
    → lose_below at p k next s [] m ≡ with_progress p (record { floor = s.floor; next = next }) m
unfolding lose_below lose_from
lose_none at p k next s m e =
    let none : k - s.next ≡ 0 = omega arith in
    let not_before : nat_lt s.next k ≡ false = grind arith in
    ap (λ c. with_progress p (record { floor = s.floor; next = next }) (lose_from at p c s.next (with_losses_begun [] k s m))) none
    ∙ ap (λ b. with_progress p (record { floor = s.floor; next = next })
    (record m { request_interval = if b then begin_period m.fixed.c1 m.fixed.c2 m.request_interval else m.request_interval }))
    not_before

second : {A : Type 0} (a b : Bool) (x y z : A) → a ≡ false → b ≡ true → (if a then x else if b then y else z) ≡ y
second true b x y z h g = cc
second false true x y z h g = refl
second false false x y z h g = cc

in_turn : (at : ℕ) (n : Name) (ink : ℕ) (repaired : Bool) (m : MemberState) → (meet m (page_of n) n.number).floor ≤ n.number
    → n.number ≡ (meet m (page_of n) n.number).next
    → hear_data at n ink repaired m
    ≡ quietly (with_held n ink (with_progress (page_of n)
    (record { floor = (meet m (page_of n) n.number).floor; next = n.number + 1 }) m)) Fresh []
unfolding hear_data
in_turn at n ink repaired m from next =
    let s = meet m (page_of n) n.number in
    let none : n.number - s.next ≡ 0 = omega arith in
    let kept : nat_lt n.number s.floor ≡ false = grind arith in
    let fresh : nat_le s.next n.number ≡ true = grind arith in
    let lost : lost_below (page_of n) n.number s ≡ [] = ap (λ c. names_from (page_of n) c s.next) none in
    let state = lose_none at (page_of n) n.number (n.number + 1) s m next in
    second (nat_lt n.number s.floor) (nat_le s.next n.number) _ _ _ kept fresh
    ∙ (λ i. quietly (with_held n ink (state i)) Fresh (lost i))

-- data of the number of a page that is next: nothing is lost, and the page is followed by one number more
pub hear_data-next : (at : ℕ) (n : Name) (ink : ℕ) (repaired : Bool) (m : MemberState) (s : Progress) → s ≡ meet m (page_of n) n.number
    → s.floor ≤ n.number → n.number ≡ s.next
    → hear_data at n ink repaired m
    ≡ quietly (with_held n ink (with_progress (page_of n) (record { floor = s.floor; next = n.number + 1 }) m)) Fresh []
hear_data-next at n ink repaired m s is =
    subst (λ (t : Progress). t.floor ≤ n.number → n.number ≡ t.next → hear_data at n ink repaired m
    ≡ quietly (with_held n ink (with_progress (page_of n) (record { floor = t.floor; next = n.number + 1 }) m)) Fresh []) (sym is)
    (in_turn at n ink repaired m)

pub names_from-next : (p : PageId) (k to : ℕ) → k < to → names_from p (to - k) k ≡ name_in p k ∷ names_from p (to - (k + 1)) (k + 1)
names_from-next p k to h = ap (λ c. names_from p c k) (one_more k to h) ∙ ap (λ j. name_in p k ∷ names_from p (to - (k + 1)) j) (next_one k)

pub hear_session-turn : (at : ℕ) (hs : List Heard) (i : ℕ) (d : Heard) (m m2 : MemberState) (lost lost2 : List Name) → i < length hs → m2
    ≡ after_entry at (get_or hs i d) lost m → lost2 ≡ lost ++ lost_by_entry (get_or hs i d) m
    → hear_session at (drop (i + 1) hs) m2 lost2 ≡ hear_session at (drop i hs) m lost
unfolding hear_session
hear_session-turn at hs i d m m2 lost lost2 h e f =
    (λ j. hear_session at (drop (i + 1) hs) (e j) (f j)) ∙ sym (ap (λ l. hear_session at l m lost) (drop_more hs i d h))

pub hear_session-end : (at : ℕ) (hs : List Heard) (i : ℕ) (m : MemberState) (lost : List Name) → length hs ≤ i
    → hear_session at (drop i hs) m lost
    ≡ quietly m Informed lost
unfolding hear_session
hear_session-end at hs i m lost h = ap (λ l. hear_session at l m lost) (drop_all i hs h)
