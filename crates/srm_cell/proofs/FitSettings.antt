-- The setting of an accepted scenario is fit.
use Rattle.std.proofs.Common.{◌≡◌, ℕ, ◌<◌, List, [], ◌∷◌, refl, sym, subst, arith, Some, None}
use Rattle.std.proofs.Common.{length, slice_get, Less}
use Rattle.std.proofs.lemmas.List.{length-map}
use Rattle.std.proofs.lemmas.Option.{slice_get-get_or}
use Rattle.srm_net.specs.declared.rank.Rank.TheVariants.{Leave}
use Rattle.srm_net.specs.Keys.{rank_number}
use Rattle.srm_net.specs.Orders.{Ascends, AllAfter}
use Rattle.srm_net.proofs.PathLaws.{distance_apart}
use Rattle.srm_scenario.specs.declared.mark.Mark.{Mark}
use Rattle.srm_scenario.specs.declared.parts.MemberSpec.{MemberSpec}
use Rattle.srm_scenario.specs.Plain.{PlainScenario, network_of, mark_cmp, script_of}
use Rattle.srm_scenario.specs.Accepted.{IsAccepted}
use Rattle.srm_scenario.specs.Scripts.{IsMark, IsScript}
use Rattle.srm_scenario.proofs.ScriptLemmas.{scripts_fit}
use Rattle.srm_member.proofs.AllIn.{AllIn, AllIn-at_places}
use Rattle.srm_cell.specs.Setting.{HasOwnRanks, EndsAtLeave, cause_of_mark, member_at}
use Rattle.srm_cell.specs.Laws.{SettingsAreFit}

-- ---- a member's script

module _ (until : ℕ) (k : MemberSpec) where
  -- a mark without a cause is a leave
  leave_rank : (x : Mark) → IsMark until k x → cause_of_mark x.rank x ≡ None → x.rank ≡ Leave
  leave_rank x h none = grind arith

  ranks_of : (xs : List Mark) → AllIn (IsMark until k) xs → HasOwnRanks xs
  ranks_of [] h = tt
  ranks_of (x ∷ xs) h = (h.0.rank, ranks_of xs h.1)

  -- no mark of the member comes after its leave
  after_leave : (x y : Mark) → IsMark until k x → IsMark until k y → x.rank ≡ Leave → mark_cmp x y ≡ Less → ⊥
  unfolding rank_number
  after_leave x y h g leave less = grind arith

  nothing_after : (x : Mark) (ys : List Mark) → IsMark until k x → AllIn (IsMark until k) ys → x.rank ≡ Leave → AllAfter mark_cmp x ys
      → ys ≡ []
  nothing_after x [] h g leave after = refl
  nothing_after x (y ∷ ys) h g leave after = absurd (after_leave x y h g.0 leave after.0)

  ends_of : (xs : List Mark) → AllIn (IsMark until k) xs → Ascends mark_cmp xs → EndsAtLeave k.leave xs
  ends_of [] h a = tt
  ends_of (x ∷ xs) h a = (
    λ none. let leave = leave_rank x h.0 none in ((h.0.leave leave).0, nothing_after x xs h.0 h.1 leave a.0),
    ends_of xs h.1 a.1,
  )

-- ---- the members of a scenario

module _ (s : PlainScenario) (a : IsAccepted s) where
  pub present : (m : ℕ) → m < length s.members → slice_get s.members m ≡ Some (member_at s m)
  present m lt =
      let e = slice_get-get_or s.members m (member_at s m) lt in rw e refl

  script_is : (m : ℕ) → m < length s.members → IsScript s.until (member_at s m) (script_of s m)
  script_is m lt = scripts_fit s a m (member_at s m) (present m lt)

  marks_are : (m : ℕ) → m < length s.members → AllIn (IsMark s.until (member_at s m)) (script_of s m)
  marks_are m lt = AllIn-at_places (IsMark s.until (member_at s m)) (script_of s m) (script_is m lt).marks

  hosts : length (network_of s).hosts ≡ length s.members
  hosts = length-map s.members (λ (k : MemberSpec). k.node)

  host_below : (m : ℕ) → m < length s.members → m < length (network_of s).hosts
  host_below m lt = subst (λ n. m < n) (sym hosts) lt

pub settings_are_fit : SettingsAreFit
settings_are_fit s seed a = record {
  numbers = λ m lt. refl;
  scripts = λ m lt. (script_is s a m lt).ascends;
  ranks = λ m lt. ranks_of s.until (member_at s m) (script_of s m) (marks_are s a m lt);
  leaves = λ m lt. ends_of s.until (member_at s m) (script_of s m) (marks_are s a m lt) (script_is s a m lt).ascends;
  apart = λ x y lx ly ne. distance_apart (network_of s) a.network x y (host_below s a x lx) (host_below s a y ly) ne;
}
