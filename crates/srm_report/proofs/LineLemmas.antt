-- The law of a line none of whose fields calls for quotes: it is the fields with commas between, and a line feed.
use Rattle.std.proofs.Common.{◌≡◌, ◌∙◌, ℕ, zero, suc, ◌-◌, ◌/◌, ◌%◌, ◌<◌, ◌==◌, true, false, ◌||◌, List, [], ◌∷◌, ◌++◌, Option, Some, None}
use Rattle.std.proofs.Common.{refl, ap, sym, append_assoc, codes, decimal, drop, arith}
use Rattle.std.specs.Prelude.{if◌then◌else◌}
use Rattle.std.specs.Fmt.{digits, digits_onto, digit_glyph}
use Rattle.std.proofs.lemmas.List.{drop-drop}
use Rattle.std.proofs.lemmas.List.Folds.{list_any-append}
use Rattle.csv.specs.Machine.{line_feed}
use Rattle.csv.specs.Writing.{comma, default_writer, fields_text, is_blank, needs_byte, needs_quotes, quoted, row_text}
use Rattle.srm_net.specs.declared.packet.Local.{Local}
use Rattle.srm_net.specs.declared.packet.Name.{Name}
use Rattle.srm_net.specs.declared.packet.Packet.{Packet}
use Rattle.srm_net.specs.declared.packet.PacketId.{PacketId}
use Rattle.srm_net.specs.declared.role.Role.{Role}
use Rattle.srm_net.specs.Network.{Network}
use Rattle.srm_net.specs.Paths.{round}
use Rattle.srm_member.specs.declared.told.Told.{Told}
use Rattle.srm_member.specs.declared.row.Word.{Word}
use Rattle.srm_member.specs.declared.row.About.{About}
use Rattle.srm_report.specs.declared.listing.line_buffer.LineBuffer.{LineBuffer}
use Rattle.srm_report.specs.declared.losses.mended_loss.MendedLoss.{MendedLoss}
use Rattle.srm_report.specs.Lines.{buffer_text, buffer_written}
use Rattle.srm_report.specs.Losses.{delay_of}
use Rattle.srm_report.specs.Members.{role_word}
pub use Rattle.srm_report.specs.Seeds.{IsPlain, ArePlain}
use Rattle.srm_report.specs.Trace.{cause_word, name_text, packet_text, ref_text, told_word}
use Rattle.srm_report.specs.Rows.{or_dash}

-- ---- lines

-- each field after a comma, and a line feed
abbrev pub after_commas : List (List ℕ) → List ℕ
after_commas [] = line_feed ∷ []
after_commas (f ∷ fs) = comma ∷ (f ++ after_commas fs)

-- the fields after the first, and the end of the record
fields_joined : (fs : List (List ℕ)) → ArePlain fs → fields_text default_writer fs ++ line_feed ∷ [] ≡ after_commas fs
unfolding fields_text
fields_joined [] h = refl
fields_joined (f ∷ fs) h =
    ap (λ b. comma ∷ ((if b then quoted default_writer f else f) ++ fields_text default_writer fs ++ line_feed ∷ [])) h.0
    ∙ ap (λ l. comma ∷ l) (append_assoc f (fields_text default_writer fs) (line_feed ∷ []) ∙ ap (λ l. f ++ l) (fields_joined fs h.1))

pub row_joined : (f g : List ℕ) (fs : List (List ℕ)) → ArePlain (f ∷ g ∷ fs)
    → row_text default_writer (f ∷ g ∷ fs) ≡ f ++ after_commas (g ∷ fs)
unfolding is_blank
row_joined f g fs h = grind (arith, append_assoc, fields_joined)

-- these fields are written before other lines, none of which calls for quotes
pub record HasFields (written : List ℕ) (fields : List (List ℕ)) (others : List ℕ) : Type 0 where
  pub text : written ≡ after_commas fields ++ others
  pub plain : ArePlain fields

-- the line feed alone
pub no_field : {written others : List ℕ} → written ≡ line_feed ∷ others → HasFields written [] others
no_field e = record { text = e; plain = tt }

-- one field more is written after a comma, before the others
pub field : {fs : List (List ℕ)} {others : List ℕ} (f : List ℕ) → IsPlain f → {g old new : List ℕ} → new ≡ comma ∷ (g ++ old) → g ≡ f
    → HasFields old fs others → HasFields new (f ∷ fs) others
field {fs} {others} f h written is old = record {
  text = written ∙ (λ i. comma ∷ (is i ++ old.text i)) ∙ ap (λ l. comma ∷ l) (sym (append_assoc f (after_commas fs) others));
  plain = (h, old.plain);
}

-- a line of two fields at least
pub line_is_row : {f g : List ℕ} {fs : List (List ℕ)} {others : List ℕ} (b : LineBuffer)
    → HasFields (buffer_written b) (f ∷ g ∷ fs) others → buffer_text b ≡ row_text default_writer (f ∷ g ∷ fs) ++ others
line_is_row {f} {g} {fs} {others} b h =
    sym (drop-drop 1 b.start b.bytes) ∙ ap (λ w. drop 1 w) h.text ∙ ap (λ l. l ++ others) (sym (row_joined f g fs h.plain))

-- ---- fields

digit_is_plain : (n : ℕ) → needs_byte default_writer (digit_glyph false (n % 10)) ≡ false
digit_is_plain n = let lt : n % 10 < 10 = omega arith in grind (arith)

onto_is_plain : (k n : ℕ) (acc : List ℕ) → IsPlain acc → IsPlain (digits_onto k 10 false n acc)
onto_is_plain zero n acc h = h
onto_is_plain (suc k) n acc h =
    let one : IsPlain (digit_glyph false (n % 10) ∷ acc) = ap (λ b. b || needs_quotes default_writer acc) (digit_is_plain n) ∙ h in
    elim (n / 10 == 0) as (λ b. IsPlain (if b then digit_glyph false (n % 10) ∷ acc else digits_onto k 10 false (n / 10)
    (digit_glyph false (n % 10) ∷ acc))) [
      | true ↦ one
      | false ↦ onto_is_plain k (n / 10) (digit_glyph false (n % 10) ∷ acc) one
    ]

pub decimal_is_plain : (n : ℕ) → IsPlain (decimal n)
unfolding digits
decimal_is_plain n = onto_is_plain 64 n [] refl

joined_is_plain : (xs ys : List ℕ) → IsPlain xs → IsPlain ys → IsPlain (xs ++ ys)
joined_is_plain xs ys h k = list_any-append (needs_byte default_writer) xs ys ∙ ap (λ b. b || needs_quotes default_writer ys) h ∙ k

-- two numbers with a mark between
pair_is_plain : (m n : ℕ) (mark : List ℕ) → IsPlain mark → IsPlain (decimal m ++ mark ++ decimal n)
pair_is_plain m n mark h = joined_is_plain (decimal m ++ mark) (decimal n) (joined_is_plain (decimal m) mark (decimal_is_plain m) h)
    (decimal_is_plain n)

ratio_is_plain : (took way : ℕ) → IsPlain (decimal took ++ codes "/" ++ decimal way)
ratio_is_plain took way = pair_is_plain took way (codes "/") refl

pub packet_is_plain : (p : PacketId) → IsPlain (packet_text p)
packet_is_plain p = pair_is_plain p.sender p.count (codes ":") refl

pub name_is_plain : (n : Name) → IsPlain (name_text n)
name_is_plain n = grind (arith, joined_is_plain, decimal_is_plain)

pub ref_is_plain : (a : About) → IsPlain (ref_text a)
ref_is_plain a = grind (arith, packet_is_plain, name_is_plain)

pub sent_is_plain : (o : Option Packet) → IsPlain (or_dash (λ p. packet_text p.id) o)
sent_is_plain None = refl
sent_is_plain (Some packet) = packet_is_plain packet.id

pub time_is_plain : (o : Option ℕ) → IsPlain (or_dash decimal o)
time_is_plain None = refl
time_is_plain (Some at) = decimal_is_plain at

pub last_is_plain : (o : Option MendedLoss) → IsPlain (or_dash (λ r. decimal r.member) o)
last_is_plain None = refl
last_is_plain (Some r) = decimal_is_plain r.member

pub delay_is_plain : (net : Network) (source : ℕ) (o : Option MendedLoss) → IsPlain (or_dash (delay_of net source) o)
delay_is_plain net source None = refl
delay_is_plain net source (Some r) = ratio_is_plain (r.recovered - r.detected) (round net r.member source)

pub local_is_plain : (number : Local → ℕ) (o : Option Local) → IsPlain (or_dash (λ l. decimal (number l)) o)
local_is_plain number None = refl
local_is_plain number (Some l) = decimal_is_plain (number l)

pub role_is_plain : (r : Role) → IsPlain (role_word r)
role_is_plain r = grind arith

pub cause_is_plain : (w : Word) → IsPlain (cause_word w)
cause_is_plain w = grind arith

pub told_is_plain : (t : Told) → IsPlain (told_word t)
told_is_plain t = grind arith
