use Rattle.lat_top.specs.Asked.{kept_sample}
use Rattle.lat_top.specs.Counted.{HoldsDrawn}
use Rattle.lat_top.proofs.sampling.plan_samples.Given as goal

-- as many of the first styles are planned as turns were made
abbrev pub invariant-loop : goal.invariant-loop
invariant-loop l = HoldsDrawn (kept_sample l.asked) l.counter l.samples l.county
