use Rattle.std.proofs.Common.{◌%◌, ◌-◌, ◌/◌, ◌^◌, ℕ, bit_and, ap, ◌∙◌, refl}
use Rattle.lat_ballots.proofs.Slices.{slice_bits, mask_is}
use Rattle.lat_ballots.proofs.words.bits_between.Goals as goal

-- src/words.rt:16:1
pub returns : goal.returns
returns c =
    ap (λ (m : ℕ). bit_and (c.join_words.result / 2 ^ (c.args.first % 64)) m) (mask_is (c.args.last - c.args.first) c.requires.few)
    ∙ slice_bits c.args.words.now c.args.first c.args.last _ (c.args.first % 64) c.join_words.result c.requires.some c.requires.few c.requires.within refl refl c.join_words.ensures.both c.join_words.ensures.low
