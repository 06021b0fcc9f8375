use Rattle.std.specs.Prelude.{◌≡◌}
use Rattle.worked_rows.proofs.drawing.drawn.Given as goal

-- as many styles are drawn as turns were made
abbrev pub invariant-loop : goal.invariant-loop
invariant-loop l = l.samples.made ≡ l.counter
