-- What was kept of each member for the table of scopes, put together, is what all rows tell.
use Rattle.std.proofs.Common.{◌≡◌, ◌∙◌, ℕ, suc, ◌+◌, ◌<◌, ◌≤◌, Bool, true, false, cond, not, ◌&&◌, ◌||◌, List, [], ◌∷◌, ◌++◌, length}
use Rattle.std.proofs.Common.{map, filter, Option, Some, None, IfSome, refl, ap, sym, subst, append-nil, take, get_or, ◌==◌}
use Rattle.std.proofs.Common.{eq-eqb}
use Rattle.std.proofs.Common.{true≢false, Ordering, Less, Equal, Greater, is_lt, arith}
use Rattle.std.proofs.Math.Nat.{add-zero}
use Rattle.std.specs.Cmp.{IsStrictWeakOrder}
use Rattle.std.specs.List.{cons_option, count_by, filter_map, flat_map}
use Rattle.std.specs.List.Sorted.{ties, IsSortedBy, IsStableBy}
use Rattle.std.specs.Option.{option_map_or, unwrap_or}
use Rattle.std.specs.Ordering.{nat_cmp, ordering_reverse, ordering_then, eq_by_cmp}
use Rattle.std.specs.FinMap.Entries.{put, find, find-put}
use Rattle.std.specs.Map.{lookup}
use Rattle.std.specs.BTreeMap.{insert_entry, is_at}
use Rattle.std.proofs.lemmas.Grind.{flat_map-append}
use Rattle.std.proofs.lemmas.List.{take_more}
use Rattle.std.proofs.lemmas.List.Elements.{filter_map-append}
use Rattle.std.proofs.lemmas.List.Sorted.{ranks_by}
use Rattle.std.proofs.lemmas.List.Sums.{sum_by-append, sum_by-cons}
use Rattle.srm_net.specs.contracts.key.KeyOrd.TheImpl as key_order
use Rattle.srm_net.specs.contracts.packet.PacketIdOrd.TheImpl as id_order
use Rattle.srm_net.specs.declared.packet.Packet.{Packet}
use Rattle.srm_net.specs.declared.packet.PacketId.{PacketId}
use Rattle.srm_net.specs.Keys.{key_cmp}
use Rattle.srm_net.specs.Names.{id_cmp}
use Rattle.srm_net.specs.Orders.{AllAfter, Ascends, NoneBelow, Rises}
use Rattle.srm_net.proofs.Basics.{is_Equal}
use Rattle.srm_net.proofs.LawProofs.{identities_ordered}
use Rattle.srm_net.proofs.TotalOrders.{key_total, keys_compared, tied_keys}
use Rattle.srm_scenario.proofs.Sorting.{Rises-from_sort, same_from_alike}
use Rattle.srm_member.specs.ByMember.{rows_of_member, AreAlike}
use Rattle.srm_member.specs.Kinds.{is_ask, is_answer, is_sent}
use Rattle.srm_member.specs.Orderly.{IsOrderly}
use Rattle.srm_member.specs.declared.row.About.{About}
use Rattle.srm_member.specs.declared.row.About.TheVariants.{Nothing, Of, Named}
use Rattle.srm_member.specs.declared.row.Row.{Row}
use Rattle.srm_member.proofs.ByMemberLemmas.{same_of_alike}
use Rattle.srm_member.proofs.Maps as maps
use Rattle.srm_member.proofs.OrderLemmas.{lt-asym}
use Rattle.srm_cell.specs.Crossings.{joined}
use Rattle.srm_interfaces.specs.Watches.{KeepMembers}
use Rattle.srm_model.specs.Laws.{by_member}
use Rattle.srm_model.proofs.StandAlike.{listed_alike}
use Rattle.srm_report.specs.declared.scopes.member_scopes.MemberScopes.{MemberScopes}
use Rattle.srm_report.specs.declared.scopes.scope_entry.ScopeEntry.{ScopeEntry}
use Rattle.srm_report.specs.KeptScopes.{count_in, HearMore, KeepsScopes}
use Rattle.srm_report.specs.Scopes.{entry_about, entry_of, heard_in, hears, scope_columns, scope_fields}
use Rattle.srm_report.specs.Scopes.{scopes_table}
use Rattle.srm_report.specs.Tables.{table_lines}
use Rattle.srm_report.proofs.KeptLossLemmas.{all_few}
use Rattle.srm_report.proofs.SendingLemmas.{count_within}

-- ---- packets are compared by their numbers

compared_last : (m n : ℕ) → nat_cmp m n ≡ ordering_then (nat_cmp m n) Equal
compared_last m n = sym (then_equal (nat_cmp m n))
  where
    then_equal : (o : Ordering) → ordering_then o Equal ≡ o
    then_equal o = grind arith

ids_compared : id_order.cmp-value.it ≡ id_cmp
ids_compared i a b = ap (λ o. ordering_then (nat_cmp a.sender b.sender) o) (compared_last a.count b.count) i

pub id_find : {V : Type 0} (p : PacketId) (es : List (PacketId × V)) → find id_cmp p es ≡ lookup (is_at (id_order.cmp-value.it p)) es
id_find p es = ap (λ R. find R p es) (sym ids_compared) ∙ maps.find-lookup id_order.cmp-value.it p es

pub id_put : {V : Type 0} (p : PacketId) (v : V) (es : List (PacketId × V)) → put id_cmp p v es ≡ insert_entry id_order.cmp-value.it es p v
id_put p v es = ap (λ R. put R p v es) (sym ids_compared) ∙ maps.put-insert_entry id_order.cmp-value.it p v es

-- ---- one packet more is heard

same_packet : (p q : PacketId) → eq_by_cmp id_cmp p q ≡ true → p ≡ q
same_packet p q h = identities_ordered.1 p q (is_Equal _ h)

pub hear_one : (es : List (PacketId × ℕ)) (q : PacketId) → HearMore es (q ∷ []) (put id_cmp q (count_in es q + 1) es)
hear_one es q p =
    ap (λ o. unwrap_or o 0) (find-put id_cmp identities_ordered.0 p q (count_in es q + 1) es) ∙ by (eq_by_cmp id_cmp p q) refl
    ∙ ap (λ n. count_in es p + n)
    (sym (sum_by-cons (λ r. cond (eq_by_cmp id_cmp p r) 1 0) q [] ∙ add-zero (cond (eq_by_cmp id_cmp p q) 1 0)))
  where
    by : (b : Bool) → eq_by_cmp id_cmp p q ≡ b
        → unwrap_or (cond b (Some (count_in es q + 1)) (find id_cmp p es)) 0 ≡ count_in es p + cond b 1 0
    by true e = ap (λ r. count_in es r + 1) (sym (same_packet p q e))
    by false e = sym (add-zero (count_in es p))

pub hear_none : (es : List (PacketId × ℕ)) → HearMore es [] es
hear_none es p = sym (add-zero (count_in es p))

-- what is counted from nothing is counted of these packets alone
pub hear_all : (ps : List PacketId) (es : List (PacketId × ℕ)) → HearMore [] ps es → (p : PacketId)
    → count_in es p ≡ count_by (eq_by_cmp id_cmp p) ps
hear_all ps es h p = let first : count_in es p ≡ 0 + count_by (eq_by_cmp id_cmp p) ps = h p in omega (arith, first)

pub hear_more : (xs ys : List PacketId) (a b c : List (PacketId × ℕ)) → HearMore a xs b → HearMore b ys c → HearMore a (xs ++ ys) c
hear_more xs ys a b c h k p =
    let first = h p in
    let second = k p in
    let both = sum_by-append (λ r. cond (eq_by_cmp id_cmp p r) 1 0) xs ys in
    omega (arith, both)

-- ---- how often rows tell that a packet is heard

pub count_heard : (p : PacketId) (rows : List Row) → count_by (eq_by_cmp id_cmp p) (filter_map heard_in rows) ≡ count_by (hears p) rows
count_heard p [] = refl
count_heard p (r ∷ rows) =
    by (heard_in r) ∙ ap (λ n. cond (hears p r) 1 0 + n) (count_heard p rows) ∙ sym (sum_by-cons (λ q. cond (hears p q) 1 0) r rows)
  where
    by : (o : Option PacketId) → count_by (eq_by_cmp id_cmp p) (cons_option o (filter_map heard_in rows))
        ≡ cond (option_map_or (eq_by_cmp id_cmp p) o false) 1 0 + count_by (eq_by_cmp id_cmp p) (filter_map heard_in rows)
    by None = omega arith
    by (Some q) = sum_by-cons (λ x. cond (eq_by_cmp id_cmp p x) 1 0) q (filter_map heard_in rows)

heard_alike : (p : PacketId) (xs ys : List Row) → AreAlike xs ys → count_by (hears p) xs ≡ count_by (hears p) ys
heard_alike p =
    same_of_alike (λ rows. count_by (hears p) rows) (λ r n. cond (hears p r) (n + 1) n) (λ pre x post. count_within (hears p) pre x post)

-- ---- entries in the order of their keys

abbrev entry_cmp : ScopeEntry → ScopeEntry → Ordering
entry_cmp x y = key_cmp x.key y.key

-- the order of the keys by which the code sorts
abbrev keyed : ScopeEntry → ScopeEntry → Ordering
keyed x y = key_order.ghosts.cmp x.key y.key

abbrev alike : ScopeEntry → ScopeEntry → Bool
alike = ties (λ x y. is_lt (entry_cmp x y))

entry_order : IsStrictWeakOrder (λ x y. is_lt (entry_cmp x y))
entry_order = ranks_by key_total (λ (e : ScopeEntry). e.key)

same_test : ◌≡◌ {A = ScopeEntry → ScopeEntry → Bool} (λ x y. is_lt (keyed x y)) (λ x y. is_lt (entry_cmp x y))
same_test = λ i x y. is_lt (keys_compared x.key y.key i)

-- what a row tells has the row's key
abbrev HasKey : Row → Option ScopeEntry → Type 0
HasKey r o = IfSome o (λ e. e.key ≡ r.key)

has_key : (r : Row) → HasKey r (entry_of r)
has_key r = by ((is_ask r.cause || is_answer r.cause) && is_sent r.told) (about r.about r.sent)
  where
    about : (a : About) (o : Option Packet) → HasKey r (entry_about r a o)
    about Nothing o = tt
    about (Of p) o = tt
    about (Named n) None = tt
    about (Named n) (Some p) = refl

    by : (b : Bool) → HasKey r (entry_about r r.about r.sent) → HasKey r (cond b (entry_about r r.about r.sent) None)
    by true h = h
    by false h = tt

none_below : (k : Row) (e : ScopeEntry) → e.key ≡ k.key → (rows : List Row) → AllAfter (λ (q r : Row). key_cmp q.key r.key) k rows
    → NoneBelow entry_cmp e (filter_map entry_of rows)
none_below k e is [] h = tt
none_below k e is (r ∷ rows) h = by (entry_of r) (has_key r) (none_below k e is rows h.1)
  where
    by : (o : Option ScopeEntry) → HasKey r o → NoneBelow entry_cmp e (filter_map entry_of rows)
        → NoneBelow entry_cmp e (cons_option o (filter_map entry_of rows))
    by None g rest = rest
    by (Some x) g rest = ((λ i. is_lt (key_cmp (g i) (is i))) ∙ lt-asym key_cmp key_total k.key r.key (ap is_lt h.0), rest)

entries_rise : (rows : List Row) → Ascends (λ (q r : Row). key_cmp q.key r.key) rows → Rises entry_cmp (filter_map entry_of rows)
entries_rise [] h = tt
entries_rise (r ∷ rows) h = by (entry_of r) (has_key r) (entries_rise rows h.1)
  where
    by : (o : Option ScopeEntry) → HasKey r o → Rises entry_cmp (filter_map entry_of rows)
        → Rises entry_cmp (cons_option o (filter_map entry_of rows))
    by None g rest = rest
    by (Some x) g rest = (none_below r x g rows h.0, rest)

-- what ties has one key
one_key : (x e : ScopeEntry) → alike x e ≡ true → x.key ≡ e.key
one_key x e h = by (key_cmp x.key e.key) refl
  where
    no_second : (a : Bool) → (a && false) ≡ false
    no_second true = refl
    no_second false = refl

    by : (o : Ordering) → key_cmp x.key e.key ≡ o → x.key ≡ e.key
    by Less q = absurd (true≢false (sym h ∙ ap (λ o. not (is_lt o) && not (is_lt (key_cmp e.key x.key))) q))
    by Equal q = tied_keys x.key e.key q
    by Greater q = absurd (true≢false (sym h
        ∙ ap (λ o. not (is_lt (key_cmp x.key e.key)) && not (is_lt o)) (key_total.antisymm e.key x.key ∙ ap ordering_reverse q)
        ∙ no_second (not (is_lt (key_cmp x.key e.key)))))

-- those that tie with an entry are told by the rows of its member
of_member : (x : ScopeEntry) (rows : List Row)
    → filter (alike x) (filter_map entry_of rows) ≡ filter (alike x) (filter_map entry_of (rows_of_member x.key.member rows))
of_member x [] = refl
of_member x (r ∷ rows) = by (r.key.member == x.key.member) refl (entry_of r) (has_key r) refl (of_member x rows)
  where
    skip : (e : ScopeEntry) → e.key ≡ r.key → (r.key.member == x.key.member) ≡ false → (b : Bool) → alike x e ≡ b
        → cond b (e ∷ filter (alike x) (filter_map entry_of rows)) (filter (alike x) (filter_map entry_of rows))
        ≡ filter (alike x) (filter_map entry_of rows)
    skip e is far true t = absurd (true≢false (sym (eq-eqb _ _ (ap (λ k. k.member) (sym is ∙ sym (one_key x e t)))) ∙ far))
    skip e is far false t = refl

    by : (b : Bool) → (r.key.member == x.key.member) ≡ b → (o : Option ScopeEntry) → HasKey r o → entry_of r ≡ o
        → filter (alike x) (filter_map entry_of rows) ≡ filter (alike x) (filter_map entry_of (rows_of_member x.key.member rows))
        → filter (alike x) (cons_option o (filter_map entry_of rows))
        ≡ filter (alike x) (filter_map entry_of (cond b (r ∷ rows_of_member x.key.member rows) (rows_of_member x.key.member rows)))
    by true near None g e rest =
        rest ∙ ap (λ o. filter (alike x) (cons_option o (filter_map entry_of (rows_of_member x.key.member rows)))) (sym e)
    by true near (Some f) g e rest =
        ap (λ l. cond (alike x f) (f ∷ l) l) rest
        ∙ ap (λ o. filter (alike x) (cons_option o (filter_map entry_of (rows_of_member x.key.member rows)))) (sym e)
    by false far None g e rest = rest
    by false far (Some f) g e rest = skip f g far (alike x f) refl ∙ rest

-- the entries of alike rows, sorted by their keys, are those of rows whose keys rise
sorted_entries : (xs ys : List Row) → AreAlike xs ys → Ascends (λ (q r : Row). key_cmp q.key r.key) ys → (sorted : List ScopeEntry)
    → IsSortedBy (λ x y. is_lt (entry_cmp x y)) sorted → IsStableBy (λ x y. is_lt (entry_cmp x y)) (filter_map entry_of xs) sorted
    → sorted ≡ filter_map entry_of ys
sorted_entries xs ys same rise sorted up stable =
    same_from_alike entry_cmp entry_order sorted (filter_map entry_of ys) (Rises-from_sort entry_cmp entry_order sorted up)
    (entries_rise ys rise)
    (λ x. stable x ∙ of_member x xs ∙ ap (λ l. filter (alike x) (filter_map entry_of l)) (same x.key.member) ∙ sym (of_member x ys))

-- ---- all members

abbrev Kept : MemberScopes → List Row → Type 0
Kept k own = KeepsScopes own k

-- what all these members sent, and what they heard, one member after the other
abbrev pub sent_of : List MemberScopes → List ScopeEntry
sent_of ks = flat_map (λ (k : MemberScopes). k.sent.items) ks

abbrev pub heard_of : List MemberScopes → List PacketId
heard_of ks = flat_map (λ (k : MemberScopes). k.heard.items) ks

-- those of one member more
pub one_more : {A : Type 0} (f : MemberScopes → List A) (ks : List MemberScopes) (i : ℕ) (k : MemberScopes) → i < length ks
    → k ≡ get_or ks i k → flat_map f (take (i + 1) ks) ≡ flat_map f (take i ks) ++ f k
one_more f ks i k lt here =
    ap (flat_map f) (take_more ks i k lt ∙ ap (λ q. take i ks ++ q ∷ []) (sym here))
    ∙ flat_map-append f (take i ks) (k ∷ []) ∙ ap (λ l. flat_map f (take i ks) ++ l) (append-nil (f k))

sent_joined : (rows : List Row) (i : ℕ) (ks : List MemberScopes) → KeepMembers Kept i ks rows
    → sent_of ks ≡ filter_map entry_of (joined (by_member i (length ks) rows))
sent_joined rows i [] h = refl
sent_joined rows i (k ∷ ks) h =
    (λ j. h.0.sent j ++ sent_joined rows (suc i) ks h.1 j)
    ∙ sym (filter_map-append entry_of (rows_of_member i rows) (joined (by_member (suc i) (length ks) rows)))

heard_joined : (rows : List Row) (i : ℕ) (ks : List MemberScopes) → KeepMembers Kept i ks rows
    → heard_of ks ≡ filter_map heard_in (joined (by_member i (length ks) rows))
heard_joined rows i [] h = refl
heard_joined rows i (k ∷ ks) h =
    (λ j. h.0.heard j ++ heard_joined rows (suc i) ks h.1 j)
    ∙ sym (filter_map-append heard_in (rows_of_member i rows) (joined (by_member (suc i) (length ks) rows)))

-- the table of entries in order, and of counts
pub table_of : (rows : List Row) (es : List ScopeEntry) (heard : List (PacketId × ℕ)) → es ≡ filter_map entry_of rows
    → ((p : PacketId) → count_in heard p ≡ count_by (hears p) rows)
    → table_lines scope_columns (map (λ e. scope_fields e (count_in heard e.sent)) es) ≡ scopes_table rows
unfolding scopes_table
table_of rows es heard is counts i = table_lines scope_columns (map (λ e. scope_fields e (counts e.sent i)) (is i))

module _ (ks : List MemberScopes) (rows : List Row) (members : ℕ) (o : IsOrderly members rows) (all : members ≤ length ks)
    (h : KeepMembers Kept 0 ks rows) where
  abbrev lists : List Row
  lists = joined (by_member 0 (length ks) rows)

  same : AreAlike lists rows
  same = listed_alike (length ks) rows (all_few rows members (length ks) o all)

  pub kept_entries : (xs sorted : List ScopeEntry) → xs ≡ sent_of ks → IsSortedBy (λ x y. is_lt (keyed x y)) sorted
      → IsStableBy (λ x y. is_lt (keyed x y)) xs sorted → sorted ≡ filter_map entry_of rows
  kept_entries xs sorted is up stable =
      sorted_entries lists rows same o.rise sorted
      (subst (λ (lt : ScopeEntry → ScopeEntry → Bool). IsSortedBy lt sorted) same_test up)
      (subst (λ l. IsStableBy (λ x y. is_lt (entry_cmp x y)) l sorted) (is ∙ sent_joined rows 0 ks h)
      (subst (λ (lt : ScopeEntry → ScopeEntry → Bool). IsStableBy lt xs sorted) same_test stable))

  pub kept_heard : (heard : List (PacketId × ℕ)) → HearMore [] (heard_of ks) heard → (p : PacketId)
      → count_in heard p ≡ count_by (hears p) rows
  kept_heard heard counts p =
      hear_all (heard_of ks) heard counts p ∙ ap (count_by (eq_by_cmp id_cmp p)) (heard_joined rows 0 ks h) ∙ count_heard p lists
      ∙ heard_alike p lists rows same
