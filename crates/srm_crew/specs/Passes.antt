-- What a contract sees of a bag and of a pass, and what the bag's calls tell.
use Rattle.std.specs.Prelude.{◌≡◌, ◌<◌, ℕ, List, [], ◌∷◌, ◌++◌, length, slice_get, Option, Some, None}
use Rattle.std.specs.Prelude.{Result, Ok, Err}
use Rattle.atomic_table.specs.Seated.{TableId}
use Rattle.srm_ledger.specs.Weights.{whole_weight, first_weight, second_weight, joined_weight}
use Rattle.srm_crew.specs.declared.bag_fault.PutFault.{PutFault}
use Rattle.srm_crew.specs.declared.bag_fault.PutFault.TheVariants as put
use Rattle.srm_crew.specs.declared.bag_fault.EmptyFault.{EmptyFault}
use Rattle.srm_crew.specs.declared.bag_fault.EmptyFault.TheVariants as empty
use Rattle.srm_crew.specs.declared.taken.Taken.{Taken}
use Rattle.srm_crew.specs.Indices.{EachOnce, EachAtMostOnce, AllBelow}

pub record BagView : Type 0 where
  pub name : TableId
  -- how many items may be put in all
  pub room : ℕ

pub record PassView (T : Type 0) : Type 0 where
  pub bag : TableId
  pub weight : ℕ
  -- the items that were put, each at its index
  pub put : List T
  -- the indices of the items that this pass took
  pub taken : List ℕ

module _ {T : Type 0} where
  abbrev pub fresh_pass : TableId → PassView T
  fresh_pass name = record { bag = name; weight = whole_weight; put = []; taken = [] }

  abbrev pub with_put : PassView T → T → PassView T
  with_put p x = record { bag = p.bag; weight = p.weight; put = p.put ++ x ∷ []; taken = p.taken }

  abbrev pub with_taken : PassView T → ℕ → PassView T
  with_taken p k = record { bag = p.bag; weight = p.weight; put = p.put; taken = p.taken ++ k ∷ [] }

  abbrev pub half_with_list : PassView T → PassView T
  half_with_list p = record { bag = p.bag; weight = first_weight p.weight; put = p.put; taken = p.taken }

  abbrev pub half_without_list : PassView T → PassView T
  half_without_list p = record { bag = p.bag; weight = second_weight p.weight; put = p.put; taken = [] }

  abbrev pub both_passes : PassView T → PassView T → PassView T
  both_passes p q = record {
    bag = p.bag;
    weight = joined_weight p.weight q.weight;
    put = p.put;
    taken = p.taken ++ q.taken;
  }

  -- the list of the pass ends with this index
  abbrev pub IsLastTaken : ℕ → PassView T → Type 0
  IsLastTaken index p = (before : List ℕ) × (p.taken ≡ before ++ index ∷ [])

  -- the pass took no index twice, and none at which nothing was put
  abbrev pub TookEachAtMostOnce : PassView T → Type 0
  TookEachAtMostOnce p = EachAtMostOnce p.taken (length p.put)

  -- why nothing more is put
  abbrev pub RefusesPut : ℕ → PassView T → PutFault → Type 0
  RefusesPut room p put.NotWhole = p.weight < whole_weight
  RefusesPut room p put.Full = (p.weight ≡ whole_weight) × (length p.put ≡ room)

  -- what a put tells: the item has the next index; or the item back, and the pass as it was
  abbrev pub TellsPut : ℕ → PassView T → T → Result (Unit {0}) (T × PutFault) → PassView T → Type 0
  TellsPut room old x (Ok u) new = (old.weight ≡ whole_weight) × (length old.put < room) × (new ≡ with_put old x)
  TellsPut room old x (Err e) new = (e.0 ≡ x) × (new ≡ old) × RefusesPut room old e.1

  -- what a take tells: the item put at an index, greater than all in the list, to which it goes; at nothing, a whole
  -- pass took all
  abbrev pub TellsTake : PassView T → Option T → PassView T → Type 0
  TellsTake old None new = (new ≡ old) × (old.weight ≡ whole_weight → EachOnce old.taken (length old.put))
  TellsTake old (Some x) new = (index : ℕ) × (new ≡ with_taken old index) × (slice_get old.put index ≡ Some x)
      × AllBelow old.taken index × TookEachAtMostOnce new

  -- why a bag is not emptied
  abbrev pub RefusesEmpty : PassView T → EmptyFault → Type 0
  RefusesEmpty p empty.NotWhole = p.weight < whole_weight
  RefusesEmpty p empty.NotEmpty = (p.weight ≡ whole_weight) × (length p.taken < length p.put)

  -- what emptying a bag tells: the list, with the index of each item put once; or bag and pass back as they were
  abbrev pub TellsEmpty : BagView → PassView T → Result Taken (BagView × PassView T × EmptyFault) → Type 0
  TellsEmpty b p (Ok t) = (p.weight ≡ whole_weight) × (t.indices ≡ p.taken) × (length p.taken ≡ length p.put)
      × EachOnce p.taken (length p.put)
  TellsEmpty b p (Err e) = (e.0 ≡ b) × (e.1 ≡ p) × RefusesEmpty p e.2
