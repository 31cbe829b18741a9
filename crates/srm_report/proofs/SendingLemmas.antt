-- What was sent for names, row by row.
use Rattle.std.proofs.Common.{◌≡◌, ◌∙◌, ℕ, ◌+◌, Bool, true, false, cond, ◌&&◌, List, [], ◌∷◌, ◌++◌, map, Option, Some, None}
use Rattle.std.proofs.Common.{refl, ap, sym, append-nil, arith, ◌⊎◌, inl, inr, Result, Ok, Err, OnOk}
use Rattle.std.specs.List.{count_by, fold}
use Rattle.std.specs.Option.{unwrap_or}
use Rattle.std.specs.FinMap.Entries.{put, find, find-put, is_sorted-put}
use Rattle.std.proofs.lemmas.List.Sums.{sum_by-append, sum_by-cons}
use Rattle.srm_net.specs.declared.packet.Name.{Name}
use Rattle.srm_net.specs.Names.{name_cmp}
use Rattle.srm_net.proofs.TotalOrders.{name_total}
use Rattle.srm_member.specs.ByMember.{AreAlike}
use Rattle.srm_member.specs.declared.row.About.{About}
use Rattle.srm_member.specs.declared.row.About.TheVariants.{Nothing, Of, Named}
use Rattle.srm_member.specs.declared.row.Row.{Row}
use Rattle.srm_member.specs.declared.row.Word.{Word}
use Rattle.srm_member.specs.declared.row.Word.TheVariants.{Ask, Answer}
use Rattle.srm_member.specs.declared.told.Told.TheVariants.{Sent}
use Rattle.srm_member.specs.Kinds.{is_ask, is_answer, is_sent}
use Rattle.srm_member.proofs.ByMemberLemmas.{same_of_alike}
use Rattle.srm_member.proofs.TableChanges.{same_names}
use Rattle.srm_report.specs.declared.operations.sent_for_name.SentForName.{SentForName}
use Rattle.srm_report.specs.Operations.{is_about, sending_of, sends_for, sooner}
use Rattle.srm_report.specs.Rows.{is_name}
use Rattle.srm_report.specs.Sendings.{repaired, requested, sending_in, TellSent, asked_in}

-- ---- a row anywhere

sooner_swap : (a b c : Option ℕ) → sooner (sooner a b) c ≡ sooner (sooner a c) b
sooner_swap None None None = refl
sooner_swap None None (Some c) = refl
sooner_swap None (Some b) None = refl
sooner_swap None (Some b) (Some c) = ap Some (omega arith)
sooner_swap (Some a) None None = refl
sooner_swap (Some a) None (Some c) = refl
sooner_swap (Some a) (Some b) None = refl
sooner_swap (Some a) (Some b) (Some c) = ap Some (omega arith)

pub sooner_out : (a t : Option ℕ) (ts : List (Option ℕ)) → fold sooner (sooner a t) ts ≡ sooner (fold sooner a ts) t
sooner_out a t [] = refl
sooner_out a t (u ∷ ts) = ap (λ s. fold sooner s ts) (sooner_swap a t u) ∙ sooner_out (sooner a u) t ts

sooner_within : (f : Row → Option ℕ) (a : Option ℕ) (pre : List Row) (x : Row) (post : List Row)
    → fold sooner a (map f (pre ++ x ∷ post)) ≡ sooner (fold sooner a (map f (pre ++ post))) (f x)
sooner_within f a [] x post = sooner_out a (f x) (map f post)
sooner_within f a (p ∷ pre) x post = sooner_within f (sooner a (f p)) pre x post

if_one : (b : Bool) (n : ℕ) → n + cond b 1 0 ≡ cond b (n + 1) n
if_one true n = refl
if_one false n = omega arith

one_between : (a p b c q d : ℕ) → a ≡ p + b → b ≡ c + q → d ≡ p + q → a ≡ d + c
one_between a p b c q d e f g = omega arith

abbrev one : (Row → Bool) → Row → ℕ
one t r = cond (t r) 1 0

pub count_within : (t : Row → Bool) (pre : List Row) (x : Row) (post : List Row)
    → count_by t (pre ++ x ∷ post) ≡ cond (t x) (count_by t (pre ++ post) + 1) (count_by t (pre ++ post))
count_within t pre x post =
    one_between _ _ _ _ _ _ (sum_by-append (one t) pre (x ∷ post)) (sum_by-cons (one t) x post) (sum_by-append (one t) pre post)
    ∙ if_one (t x) (count_by t (pre ++ post))

-- what was sent, with a row that asks, or answers
abbrev after : Bool → Bool → ℕ → SentForName → SentForName
after a b at s = record {
  asked = sooner s.asked (cond a (Some at) None);
  requests = cond a (s.requests + 1) s.requests;
  repairs = cond b (s.repairs + 1) s.repairs;
}

sent_within : (m : Name) (pre : List Row) (r : Row) (post : List Row)
    → sending_of (pre ++ r ∷ post) m ≡ after (sends_for is_ask m r) (sends_for is_answer m r) r.key.time (sending_of (pre ++ post) m)
sent_within m pre r post i = record {
  asked = sooner_within (asked_in m) None pre r post i;
  requests = count_within (sends_for is_ask m) pre r post i;
  repairs = count_within (sends_for is_answer m) pre r post i;
}

grown : (rows : List Row) (r : Row) (m : Name)
    → sending_of (rows ++ r ∷ []) m ≡ after (sends_for is_ask m r) (sends_for is_answer m r) r.key.time (sending_of rows m)
grown rows r m =
    sent_within m rows r []
    ∙ ap (λ l. after (sends_for is_ask m r) (sends_for is_answer m r) r.key.time (sending_of l m)) (append-nil rows)

-- the same in rows that are alike
sent_alike : (n : Name) (xs ys : List Row) → AreAlike xs ys → sending_of xs n ≡ sending_of ys n
sent_alike n = same_of_alike (λ rows. sending_of rows n) (λ r. after (sends_for is_ask n r) (sends_for is_answer n r) r.key.time)
    (sent_within n)

pub tell_sent_alike : (xs ys : List Row) (es : List (Name × SentForName)) → AreAlike xs ys → TellSent xs es → TellSent ys es
tell_sent_alike xs ys es alike t = record { sorted = t.sorted; sent = λ n. t.sent n ∙ sent_alike n xs ys alike }

-- ---- a row more

-- the row sends nothing for any name
pub sent_none : (rows : List Row) (r : Row) (es : List (Name × SentForName)) → TellSent rows es
    → ((m : Name) → (sends_for is_ask m r ≡ false) × (sends_for is_answer m r ≡ false)) → TellSent (rows ++ r ∷ []) es
sent_none rows r es was none = record {
  sorted = was.sorted;
  sent = λ m. was.sent m ∙ sym (grown rows r m ∙ (λ i. after ((none m).0 i) ((none m).1 i) r.key.time (sending_of rows m)));
}

module _ (rows : List Row) (r : Row) (es : List (Name × SentForName)) (was : TellSent rows es) (n : Name) (v : SentForName) where
  -- the row sends for this name alone
  sent_one : (a b : Bool) → ((m : Name) → sends_for is_ask m r ≡ (a && is_name m n)) → ((m : Name)
      → sends_for is_answer m r ≡ (b && is_name m n))
      → v ≡ after a b r.key.time (sending_in es n) → TellSent (rows ++ r ∷ []) (put name_cmp n v es)
  sent_one a b asks answers is = record {
    sorted = is_sorted-put name_cmp name_total n v es was.sorted;
    sent = λ m. by m (is_name m n) refl;
  }
    where
      put_find : (m : Name) → find name_cmp m (put name_cmp n v es) ≡ cond (is_name m n) (Some v) (find name_cmp m es)
      put_find m = find-put name_cmp name_total m n v es

      told : (m : Name) → sending_of (rows ++ r ∷ []) m ≡ after (a && is_name m n) (b && is_name m n) r.key.time (sending_of rows m)
      told m = grown rows r m ∙ (λ i. after (asks m i) (answers m i) r.key.time (sending_of rows m))

      both : (c : Bool) → (c && true) ≡ c
      both true = refl
      both false = refl

      neither : (c : Bool) → (c && false) ≡ false
      neither true = refl
      neither false = refl

      by : (m : Name) (t : Bool) → is_name m n ≡ t → sending_in (put name_cmp n v es) m ≡ sending_of (rows ++ r ∷ []) m
      by m true e =
          let same : m ≡ n = same_names m n e in
          ap (λ o. unwrap_or o (sending_of [] m)) (put_find m ∙ ap (λ t. cond t (Some v) (find name_cmp m es)) e)
          ∙ is ∙ ap (λ k. after a b r.key.time (sending_in es k)) (sym same) ∙ ap (after a b r.key.time) (was.sent m)
          ∙ sym (told m ∙ (λ i. after ((ap (λ t. a && t) e ∙ both a) i) ((ap (λ t. b && t) e ∙ both b) i) r.key.time (sending_of rows m)))
      by m false e =
          ap (λ o. unwrap_or o (sending_of [] m)) (put_find m ∙ ap (λ t. cond t (Some v) (find name_cmp m es)) e)
          ∙ was.sent m
          ∙ sym (told m ∙ (λ i. after ((ap (λ t. a && t) e ∙ neither a) i) ((ap (λ t. b && t) e
          ∙ neither b) i) r.key.time (sending_of rows m)))

-- a request was sent
pub sent_request : (rows : List Row) (r : Row) (es : List (Name × SentForName)) → TellSent rows es → (n : Name)
    → r.cause ≡ Ask → r.told ≡ Sent
    → r.about ≡ Named n → TellSent (rows ++ r ∷ []) (put name_cmp n (requested r.key.time (sending_in es n)) es)
sent_request rows r es was n cause sent about =
    sent_one rows r es was n (requested r.key.time (sending_in es n)) true false
    (λ m i. is_ask (cause i) && (is_sent (sent i) && is_about m (about i)))
    (λ m i. is_answer (cause i) && (is_sent (sent i) && is_about m (about i))) refl

-- a repair was sent
pub sent_repair : (rows : List Row) (r : Row) (es : List (Name × SentForName)) → TellSent rows es → (n : Name) → r.cause ≡ Answer
    → r.told ≡ Sent
    → r.about ≡ Named n → TellSent (rows ++ r ∷ []) (put name_cmp n (repaired (sending_in es n)) es)
sent_repair rows r es was n cause sent about =
    sent_one rows r es was n (repaired (sending_in es n)) false true
    (λ m i. is_ask (cause i) && (is_sent (sent i) && is_about m (about i)))
    (λ m i. is_answer (cause i) && (is_sent (sent i) && is_about m (about i))) refl

-- rows that send for no name

unnamed : (r : Row) → ((n : Name) → r.about ≡ Named n → ⊥) → (m : Name) → is_about m r.about ≡ false
unnamed r h m = by r.about h
  where
    by : (a : About) → ((n : Name) → a ≡ Named n → ⊥) → is_about m a ≡ false
    by Nothing h = refl
    by (Of p) h = refl
    by (Named n) h = absurd (h n refl)

-- where one of the tests fails, nothing is sent
fails : (is_kind : Word → Bool) (m : Name) (r : Row) → (is_kind r.cause ≡ false) ⊎ ((is_sent r.told ≡ false) ⊎ (is_about m r.about ≡ false))
    → sends_for is_kind m r ≡ false
fails is_kind m r (inl h) = ap (λ b. b && (is_sent r.told && is_about m r.about)) h
fails is_kind m r (inr (inl h)) = ap (λ b. is_kind r.cause && (b && is_about m r.about)) h ∙ and_no (is_kind r.cause)
  where
    and_no : (b : Bool) → (b && false) ≡ false
    and_no true = refl
    and_no false = refl
fails is_kind m r (inr (inr h)) = ap (λ b. is_kind r.cause && (is_sent r.told && b)) h ∙ two (is_kind r.cause) (is_sent r.told)
  where
    two : (a b : Bool) → (a && (b && false)) ≡ false
    two true true = refl
    two true false = refl
    two false b = refl

pub about_none : (rows : List Row) (r : Row) (es : List (Name × SentForName)) → TellSent rows es → ((n : Name) → r.about ≡ Named n → ⊥)
    → TellSent (rows ++ r ∷ []) es
about_none rows r es was h = sent_none rows r es was
    (λ m. (fails is_ask m r (inr (inr (unnamed r h m))), fails is_answer m r (inr (inr (unnamed r h m)))))

pub told_other : (rows : List Row) (r : Row) (es : List (Name × SentForName)) → TellSent rows es → is_sent r.told ≡ false
    → TellSent (rows ++ r ∷ []) es
told_other rows r es was h = sent_none rows r es was (λ m. (fails is_ask m r (inr (inl h)), fails is_answer m r (inr (inl h))))

pub caused_other : (rows : List Row) (r : Row) (es : List (Name × SentForName)) → TellSent rows es → is_ask r.cause ≡ false
    → is_answer r.cause ≡ false → TellSent (rows ++ r ∷ []) es
caused_other rows r es was h k = sent_none rows r es was (λ m. (fails is_ask m r (inl h), fails is_answer m r (inl k)))

pub on_ok : {A E : Type 0} (r : Result A E) (P Q : Type 0) → OnOk r P → (P → Q) → OnOk r Q
on_ok (Ok v) P Q p f = f p
on_ok (Err e) P Q p f = tt
