use Rattle.std.proofs.Common.{◌∙◌, ℕ, ap, arith, length, map, set}
use Rattle.lat_base.specs.Shape.{contest_of}
use Rattle.evade_space.specs.Sources.{with_source}
use Rattle.evade_space.specs.Counts.{Counts, taken_in}
use Rattle.evade_space.proofs.MovedMarks.{rows_few, row_at, rows_then, rows_come}
use Rattle.evade_space.proofs.counts.KeptCounts.take_marks.Goals as goal

pub index_mut-row-requires : goal.index_mut-row-requires
index_mut-row-requires c =
    omega (arith, c.contest_of.ensures.within, rows_few c.self.inside.taken.items (taken_in c.args.space.now.contests c.args.space.now.deck c.args.sources.now) (length c.args.space.now.contests) (ap (λ (x : Counts). x.taken) (c.self.view_is ∙ c.requires.kept)))

pub take_row-self-inside-requires-clause-row : goal.take_row-self-inside-requires-clause-row
take_row-self-inside-requires-clause-row c =
    row_at c.self.inside.taken.items (taken_in c.args.space.now.contests c.args.space.now.deck c.args.sources.now) (length c.args.space.now.contests) c.contest_of.result c.index_mut-row.result.now
    (ap (λ (x : Counts). x.taken) (c.self.view_is ∙ c.requires.kept)) c.contest_of.ensures.within c.index_mut-row.ensures.value
    ∙ ap (taken_in c.args.space.now.contests c.args.space.now.deck c.args.sources.now) c.contest_of.ensures.value

pub returns : goal.returns
returns c =
    let rows = rows_then c.self.inside.taken.items (taken_in c.args.space.now.contests c.args.space.now.deck c.args.sources.now) (taken_in c.args.space.now.contests c.args.space.now.deck (with_source c.args.sources.now c.args.u c.args.t)) (length c.args.space.now.contests) (contest_of c.args.space.now.contests c.args.u) c.take_row-self-inside.new.row
    (ap (λ (x : Counts). x.taken) (c.self.view_is ∙ c.requires.kept)) c.take_row-self-inside.ensures.row (rows_come c.args.space.now c.args.sources.now c.args.u c.args.t c.requires.giving) in
    ap (λ (k : ℕ). record { taken = map (λ row. row.items) (set c.self.inside.taken.items k c.take_row-self-inside.new.row); free = c.take_row-self-inside.new.free.items; may = c.self.inside.may.items; must = c.self.inside.must.items; lost = c.take_row-self-inside.result }) c.contest_of.ensures.value
    ∙ (λ i. record { taken = rows i; free = c.take_row-self-inside.ensures.free i; may = (c.self.view_is i).may; must = (c.self.view_is i).must; lost = c.take_row-self-inside.ensures.lost i })
