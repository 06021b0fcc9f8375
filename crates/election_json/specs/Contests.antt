-- The contests of a definition.
use Rattle.std.specs.Prelude.{ℕ, List, map, codes, Result, Ok}
use Rattle.lat_base.specs.declared.limits.TheConstants.{MOST_IN_CONTEST, MOST_VOTES}
use Rattle.serde_json.specs.Data.{Data}
use Rattle.election_json.specs.declared.place.Place.TheVariants as at
use Rattle.election_json.specs.declared.fault.DefFault.{DefFault}
use Rattle.election_json.specs.declared.contest_entry.ContestEntry.{ContestEntry}
use Rattle.lat_base.specs.FirstFault.{◌>>=◌}
use Rattle.election_json.specs.Member.{member, object, number, array, new_id}
use Rattle.election_json.specs.Entry.{each}

-- the ids of contests, in order
abbrev pub ids_of : List ContestEntry → List (List ℕ)
ids_of contests = map (λ c. c.id) contests

-- target number j of contest number i, which no earlier target of that contest is
abbrev pub target_entry : ℕ → ℕ → List (List ℕ) → Data → Result (List ℕ) DefFault
target_entry i j earlier value = new_id earlier (at.Target i j) value

-- contest number i, whose id is none of the earlier ids
unfoldable pub contest_entry : List (List ℕ) → ℕ → Data → Result ContestEntry DefFault
contest_entry earlier i value = do
  contest ← object (at.Contest i) value
  id ← member (codes "id") (at.ContestId i) contest >>= new_id earlier (at.ContestId i)
  limit ← member (codes "limit") (at.Limit i) contest >>= number 1 MOST_VOTES (at.Limit i)
  values ← member (codes "targets") (at.Targets i) contest
      >>= array 1 MOST_IN_CONTEST (at.Targets i)
  targets ← each (target_entry i) values
  Ok (record { id = id; limit = limit; targets = targets })

-- contest number i, after the earlier contests
abbrev pub next_contest : ℕ → List ContestEntry → Data → Result ContestEntry DefFault
next_contest i earlier value = contest_entry (ids_of earlier) i value

-- the member `contests` of a definition
unfoldable pub contests_of : Data → Result (List ContestEntry) DefFault
contests_of top = do
  values ← member (codes "contests") at.Contests top >>= array 1 4096 at.Contests
  each next_contest values
