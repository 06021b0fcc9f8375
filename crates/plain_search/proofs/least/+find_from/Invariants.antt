use Rattle.std.proofs.Common.{◌*◌, ◌-◌, length}
use Rattle.lat_base.specs.Shape.{target_count}
use Rattle.plain_search.proofs.least.+find_from.Given as goal

-- the places that are left
abbrev pub decreases-find_from : goal.decreases-find_from
decreases-find_from l = length l.deck.now.ballots * target_count l.shape.now - l.place
