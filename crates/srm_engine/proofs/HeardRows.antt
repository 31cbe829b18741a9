-- Cells that hear the packets of rows, as cells that hear packets.
use Rattle.std.proofs.Common.{◌≡◌, ℕ, suc, ◌+◌, List, [], ◌∷◌, ◌++◌, length, map, get_or, IsPermutation}
use Rattle.std.proofs.Common.{Option, Some, None, option_map, refl, sym, ap, ◌∙◌, subst, arith, slice_get, zero-add}
use Rattle.std.proofs.lemmas.List.Sorted.{IsPermutation-refl, length_permutation}
use Rattle.std.proofs.lemmas.List.Elements.{All-head}
use Rattle.std.proofs.lemmas.Option.{slice_get-get_or}
use Rattle.std.specs.List.{AllZip, cons_option}
use Rattle.std.specs.Global.{Vec}
use Rattle.srm_net.specs.declared.packet.Packet.{Packet}
use Rattle.srm_member.specs.declared.row.Row.{Row}
use Rattle.srm_member.specs.Record.{Record}
use Rattle.srm_cell.specs.declared.cell.Cell.{Cell}
use Rattle.srm_cell.specs.Setting.{Traffic, Setting}
use Rattle.srm_cell.specs.Cells.{OwnCell, PlainCell, hear}
use Rattle.srm_cell.specs.Views.{IsSoundCell, plain_cell}
use Rattle.srm_cell.specs.OwnRuns.{hear_rows, told_to}
use Rattle.srm_cell.specs.Crossings.{packets_of, joined}
use Rattle.srm_cell.specs.Hearing.{hear_all, AreNewTo, MayHearAll, HearsAll, AllMayHear, EachHearsAll}
use Rattle.srm_model.specs.Hearing.{IsUnheard}
use Rattle.srm_model.specs.WindowRuns.{each_hears, AreNewInTurn}
use Rattle.srm_model.proofs.WindowRows.{packets_are_heard_in_turn, get_heard}
use Rattle.srm_interfaces.specs.Hearers.{GroupsMayHear, GroupsHear}
use Rattle.srm_interfaces.proofs.InPieces.{all_each}
use Rattle.srm_net.proofs.Basics.{zip_append}
use Rattle.srm_engine.specs.Seen.{AreFrom, AreInOrder, plain_cells}
use Rattle.srm_engine.specs.Groups.{all_in, sizes}
use Rattle.srm_engine.proofs.CellLists.{first_from, more_from}
use Rattle.srm_engine.proofs.SeenLemmas.{map_get, number_is, sound_at}

one_hears : (t : Traffic) (m : ℕ) (xs ys : List Row) (c : PlainCell) → hear_rows t m (xs ++ ys) c ≡ hear_rows t m ys (hear_rows t m xs c)
one_hears t m [] ys c = refl
one_hears t m (x ∷ xs) ys c = one_hears t m xs ys (told_to t x.sent m c)

-- some rows are heard, and then others
pub hears_both : (t : Traffic) (i : ℕ) (xs ys : List Row) (cs : List PlainCell) → each_hears t i (xs ++ ys) cs
    ≡ each_hears t i ys (each_hears t i xs cs)
hears_both t i xs ys [] = refl
hears_both t i xs ys (c ∷ cs) =
    let first = one_hears t i xs ys c in
    let more = hears_both t (suc i) xs ys cs in
    λ j. first j ∷ more j

-- ---- the packets of rows

-- a cell that hears rows hears their packets
rows_heard : (t : Traffic) (m : ℕ) (rows : List Row) (c : PlainCell) → hear_rows t m rows c ≡ hear_all t m (packets_of rows) c
rows_heard t m [] c = refl
rows_heard t m (r ∷ rows) c = by r.sent (λ d. rows_heard t m rows d)
  where
    by : (o : Option Packet) → ((d : PlainCell) → hear_rows t m rows d ≡ hear_all t m (packets_of rows) d)
        → hear_rows t m rows (told_to t o m c) ≡ hear_all t m (cons_option o (packets_of rows)) c
    by None h = h c
    by (Some p) h = h (hear t p m c)

module _ (s : Setting) where
  -- after the first row the others are new in turn
  others_new : (r : Row) (rows : List Row) (cs : List PlainCell) → AreNewInTurn s.traffic (r ∷ rows) cs
      → AreNewInTurn s.traffic rows (each_hears s.traffic 0 (r ∷ []) cs)
  others_new r rows cs h = λ before after q p e sent.
      let n = h (r ∷ before) after q p (ap (λ l. r ∷ l) e) sent in
      (subst (λ ds. IsUnheard p.id ds) (hears_both s.traffic 0 (r ∷ []) before cs) n.0, n.1, n.2)

  -- so packets that are new in turn are new to each member
  new_to : (rows : List Row) (cs : List PlainCell) → AreNewInTurn s.traffic rows cs → (m : ℕ) (c : PlainCell) → slice_get cs m ≡ Some c
      → AreNewTo s.traffic m (packets_of rows) c
  new_to [] cs h m c at = tt
  new_to (r ∷ rows) cs h m c at =
      let next : slice_get (each_hears s.traffic 0 (r ∷ []) cs) m ≡ Some (told_to s.traffic r.sent m c) =
      get_heard s 0 m (r ∷ []) cs ∙ ap (option_map (hear_rows s.traffic (0 + m) (r ∷ []))) at
      ∙ ap (λ k. Some (told_to s.traffic r.sent k c)) (zero-add m) in
      by r.sent refl (new_to rows (each_hears s.traffic 0 (r ∷ []) cs) (others_new r rows cs h) m (told_to s.traffic r.sent m c) next)
    where
      by : (o : Option Packet) → r.sent ≡ o → AreNewTo s.traffic m (packets_of rows) (told_to s.traffic r.sent m c)
          → AreNewTo s.traffic m (cons_option o (packets_of rows)) c
      by None e rest = subst (λ o. AreNewTo s.traffic m (packets_of rows) (told_to s.traffic o m c)) e rest
      by (Some p) e rest =
          let new = (h [] rows r p refl e).0 in (
            subst (λ ds. IsUnheard p.id ds) (packets_are_heard_in_turn s cs).0 new m c at,
            subst (λ o. AreNewTo s.traffic m (packets_of rows) (told_to s.traffic o m c)) e rest,
          )

-- ---- packets in another order

-- rows that send these packets, in all else like one row
abbrev sending_rows : Row → List Packet → List Row
sending_rows r ps = map (λ (p : Packet). record r { sent = Some p }) ps

their_packets : (r : Row) (ps : List Packet) → packets_of (sending_rows r ps) ≡ ps
their_packets r [] = refl
their_packets r (p ∷ ps) = ap (λ l. p ∷ l) (their_packets r ps)

no_packets : (ps : List Packet) → length ps ≡ 0 → [] ≡ ps
no_packets [] e = refl
no_packets (p ∷ ps) e = absurd (omega arith)

-- where packets are those of rows in another order, there are rows that send them so
pub rows_that_send : (rows : List Row) (ps : List Packet) → IsPermutation (packets_of rows) ps
    → (others : List Row) × IsPermutation (packets_of rows) (packets_of others) × (packets_of others ≡ ps)
rows_that_send [] ps h = let none = no_packets ps (length_permutation [] ps h) in ([], IsPermutation-refl [], none)
rows_that_send (r ∷ rows) ps h =
    let is = their_packets r ps in (
      sending_rows r ps,
      subst (IsPermutation (packets_of (r ∷ rows))) (sym is) h,
      is,
    )

-- ---- cells

zip_long : {A B : Type 0} (R : A → B → Type 0) (xs : List A) (ys : List B) → AllZip R xs ys → length xs ≡ length ys
zip_long R [] [] z = refl
zip_long R [] (b ∷ ys) z = absurd z
zip_long R (a ∷ xs) [] z = absurd z
zip_long R (a ∷ xs) (b ∷ ys) z = ap suc (zip_long R xs ys z.1)

module _ {M : Type 0} (f : M → Record) where
  -- the cells of all members may hear packets that are new in turn
  cells_may : (s : Setting) (rows : List Row) (cs : List (Cell M)) → AreInOrder f cs → length cs ≡ s.traffic.members
      → AreNewInTurn s.traffic rows (plain_cells f cs) → AllMayHear f s.traffic (packets_of rows) cs
  cells_may s rows cs h many new = λ j d lt.
      let c = get_or cs j d in
      let at = slice_get-get_or cs j d lt in
      let is = number_is f cs j c h at in
      record {
        sound = sound_at f 0 cs j c h at;
        member = omega (arith, is, many);
        new = subst (λ m. AreNewTo s.traffic m (packets_of rows) (plain_cell f c)) (sym is)
            (new_to s rows (plain_cells f cs) new j (plain_cell f c) (map_get (plain_cell f) cs j c at));
      }

  -- cells that heard the packets of rows are those of members that did
  cells_heard : (t : Traffic) (rows : List Row) (i : ℕ) (cs ds : List (Cell M)) → EachHearsAll f t (packets_of rows) cs ds → AreFrom f i cs
      → AreFrom f i ds × (plain_cells f ds ≡ each_hears t i rows (plain_cells f cs))
  cells_heard t rows i [] [] z h = (h, refl)
  cells_heard t rows i [] (d ∷ ds) z h = absurd z
  cells_heard t rows i (c ∷ cs) [] z h = absurd z
  cells_heard t rows i (c ∷ cs) (d ∷ ds) z h =
      let r = first_from f i c cs h in
      let one = z.0 (All-head (IsSoundCell f) c cs h.sound) in
      let more = cells_heard t rows (suc i) cs ds z.1 r.1 in
      let heard = ap (λ (q : OwnCell). q.cell) one.is ∙ sym (rows_heard t c.number rows (plain_cell f c))
      ∙ ap (λ m. hear_rows t m rows (plain_cell f c)) r.0 in (
        more_from f i d ds one.sound (ap (λ (q : OwnCell). q.member) one.is ∙ r.0) more.0,
        λ k. heard k ∷ more.1 k,
      )

  -- ---- groups

  all_joined : (gs : List (Vec (Cell M))) → all_in gs ≡ joined (map (λ (g : Vec (Cell M)). g.items) gs)
  all_joined [] = refl
  all_joined (g ∷ gs) = ap (λ l. g.items ++ l) (all_joined gs)

  pub groups_may : (s : Setting) (rows : List Row) (gs : List (Vec (Cell M))) → AreInOrder f (all_in gs)
      → length (all_in gs) ≡ s.traffic.members → AreNewInTurn s.traffic rows (plain_cells f (all_in gs))
      → GroupsMayHear f s.traffic (packets_of rows) gs
  groups_may s rows gs h many new =
      all_each (λ c. MayHearAll f s.traffic (packets_of rows) c) gs
      (subst (AllMayHear f s.traffic (packets_of rows)) (all_joined gs) (cells_may s rows (all_in gs) h many new))

  pub groups_long : (t : Traffic) (ps : List Packet) (gs hs : List (Vec (Cell M))) → GroupsHear f t ps gs hs → sizes gs ≡ sizes hs
  groups_long t ps [] [] z = refl
  groups_long t ps [] (h ∷ hs) z = absurd z
  groups_long t ps (g ∷ gs) [] z = absurd z
  groups_long t ps (g ∷ gs) (h ∷ hs) z =
      let first = zip_long (λ c d. HearsAll f t ps c d) g.items h.items z.0 in
      let more = groups_long t ps gs hs z.1 in
      λ i. first i ∷ more i

  all_hear : (t : Traffic) (ps : List Packet) (gs hs : List (Vec (Cell M))) → GroupsHear f t ps gs hs
      → EachHearsAll f t ps (all_in gs) (all_in hs)
  all_hear t ps [] [] z = tt
  all_hear t ps [] (h ∷ hs) z = absurd z
  all_hear t ps (g ∷ gs) [] z = absurd z
  all_hear t ps (g ∷ gs) (h ∷ hs) z =
      zip_append (λ c d. HearsAll f t ps c d) g.items h.items (all_in gs) (all_in hs) z.0 (all_hear t ps gs hs z.1)

  pub groups_heard : (t : Traffic) (rows : List Row) (gs hs : List (Vec (Cell M))) → GroupsHear f t (packets_of rows) gs hs
      → AreInOrder f (all_in gs)
      → AreInOrder f (all_in hs) × (plain_cells f (all_in hs) ≡ each_hears t 0 rows (plain_cells f (all_in gs)))
  groups_heard t rows gs hs z h = cells_heard t rows 0 (all_in gs) (all_in hs) (all_hear t (packets_of rows) gs hs z) h
