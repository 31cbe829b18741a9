-- A sink that keeps of rows what a watch keeps of them.
use Rattle.std.specs.Prelude.{◌≡◌, List, [], ◌++◌, length}
use Rattle.std.proofs.Common.{◌∙◌, refl, sym, subst, append_assoc, append-nil}
use Rattle.srm_member.specs.declared.row.Row.{Row}
use Rattle.srm_interfaces.specs.declared.sink.Stage.{Stage}
use Rattle.srm_interfaces.specs.declared.watch_sink.WatchSink.{WatchSink}
use Rattle.srm_interfaces.specs.Watches.{KeepMembers, KeepOn}

module _ {K W : Type 0} where
  abbrev pub stage_of : WatchSink K W → Stage
  stage_of s = s.stage

  abbrev pub watch_in : WatchSink K W → W
  watch_in s = s.watch

  -- what it keeps of each member, in order of their numbers
  abbrev pub kept_in : WatchSink K W → List K
  kept_in s = s.kept.items

  module _ (keeps : W → K → List Row → Type 0) where
    -- between these two values exactly these rows were taken in, after those before
    pub record TakesIn (a : WatchSink K W) (rows : List Row) (b : WatchSink K W) : Type 0 where
      pub watch : watch_in b ≡ watch_in a
      pub many : length (kept_in b) ≡ length (kept_in a)
      pub kept : KeepOn (keeps (watch_in a)) (kept_in a) rows (kept_in b)

    pub takes_none : (a : WatchSink K W) → TakesIn a [] a
    takes_none a = record {
      watch = refl;
      many = refl;
      kept = λ before h.
          subst (λ (l : List Row). KeepMembers (keeps (watch_in a)) 0 (kept_in a) l) (sym (append-nil before)) h;
    }

    pub takes_more :
        (a b c : WatchSink K W) (xs ys : List Row) → TakesIn a xs b → TakesIn b ys c → TakesIn a (xs ++ ys) c
    takes_more a b c xs ys h k = record {
      watch = k.watch ∙ h.watch;
      many = k.many ∙ h.many;
      kept = λ before was.
          subst (λ (l : List Row). KeepMembers (keeps (watch_in a)) 0 (kept_in c) l) (append_assoc before xs ys)
          (subst (λ (w : W). KeepOn (keeps w) (kept_in b) ys (kept_in c)) h.watch k.kept (before ++ xs)
          (h.kept before was));
    }
