use Rattle.std.proofs.Common.{sym}
use Rattle.std.specs.declared.num.ParseIntError.{ParseIntError}
use Rattle.numerals.proofs.NumberFacts.{numeral_is_text, too_large, no_number, parses_same}
use Rattle.numerals.proofs.number.number_in.Goals as goal

pub returns-in_default-clause-said : goal.returns-in_default-clause-said
returns-in_default-clause-said c = absurd (c.in_default.ensures.cases.0 (numeral_is_text c.args.text.now (sym c.if-not-is_numeral.ensures)))

pub returns-in-Err-clause-said : goal.returns-in-Err-clause-said
returns-in-Err-clause-said c =
    let h = parses_same c.in-Ok.text.now c.args.text.now c.in-Err.field-0 c.in-Ok.ensures.cases.0 c.in-Err.ensures.value.0 in
    sym (no_number c.args.low c.args.high c.args.text.now c.ranges.high.fits (too_large {E = ParseIntError} c.args.text.now c.in-Err.field-0 h (sym c.if-not-is_numeral.ensures)))
