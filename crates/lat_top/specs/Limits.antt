-- The limits on words and files.
use Rattle.std.specs.Prelude.{ℕ}
use Rattle.lat_base.specs.declared.limits.TheConstants.{MOST_BALLOTS}

-- how many bytes a definition or a table may have
abbrev pub file_limit : ℕ
file_limit = 8388608

-- how many bytes a certificate or an open file may have
abbrev pub cert_limit : ℕ
cert_limit = 67108864

-- how many bytes a file name may have
abbrev pub most_name_bytes : ℕ
most_name_bytes = 1024

-- how many ballots a size cap may allow
abbrev pub most_ballots : ℕ
most_ballots = MOST_BALLOTS

-- the least and the greatest budget, in nodes of a search tree
abbrev pub least_budget : ℕ
least_budget = 1000

abbrev pub most_budget : ℕ
most_budget = 1000000000000

-- how many styles `sample` may generate
abbrev pub most_samples : ℕ
most_samples = 1000

-- the greatest number from which the generator of `sample` may start
abbrev pub most_seed : ℕ
most_seed = 2147483647
