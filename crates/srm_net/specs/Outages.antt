-- Outages in the order of links and first ticks.
use Rattle.std.specs.Prelude.{◌≡◌, ℕ, zero, suc, ◌≤◌, Bool, false, ◌&&◌, ◌||◌, ◌==◌, List, nat_le, nat_lt}
use Rattle.std.specs.Prelude.{slice_index_or}
use Rattle.srm_net.specs.declared.link.OutageSpec.{OutageSpec}

-- in place of an outage that is not there
abbrev pub no_outage : OutageSpec
no_outage = record { link = 0; from = 0; to = 0 }

-- the outage at a place of the list
abbrev pub outage_at : List OutageSpec → ℕ → OutageSpec
outage_at outages i = slice_index_or outages i no_outage

-- whether an outage is of an earlier link than l, or of l and begins at tick t or before
abbrev pub begins_by : ℕ → ℕ → OutageSpec → Bool
begins_by l t o = nat_lt o.link l || ((o.link == l) && nat_le o.from t)

-- whether the last of the first n outages is of link l and ends after tick t
abbrev pub last_lasts : List OutageSpec → ℕ → ℕ → ℕ → Bool
last_lasts outages zero l t = false
last_lasts outages (suc n) l t = ((outage_at outages n).link == l) && nat_lt t (outage_at outages n).to

-- the span at place i is of the link of the outage there, begins as it does, and has the latest end of the outages of
-- that link that stand there or earlier
pub record LastsLongest (outages spans : List OutageSpec) (i : ℕ) : Type 0 where
  pub link : (outage_at spans i).link ≡ (outage_at outages i).link
  pub from : (outage_at spans i).from ≡ (outage_at outages i).from
  pub latest : (j : ℕ) → j ≤ i → (outage_at outages j).link ≡ (outage_at outages i).link
      → (outage_at outages j).to ≤ (outage_at spans i).to
  pub one : (j : ℕ) × (j ≤ i) × ((outage_at outages j).link ≡ (outage_at outages i).link)
      × ((outage_at outages j).to ≡ (outage_at spans i).to)
