use Rattle.deck_text.proofs.Places.{names_count}
use Rattle.std.proofs.Common.{sym, ◌∙◌}
use Rattle.lat_top.proofs.plan_files.deck_files.Goals as goal

pub deck_csv-requires : goal.deck_csv-requires
deck_csv-requires c =
    names_count c.args.style.now.names.contests c.args.style.now.shape c.requires.fits
    ∙ sym c.requires.targets
