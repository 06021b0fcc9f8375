use Rattle.std.proofs.Common.{◌<◌, ℕ, ◌∙◌, arith}
use Rattle.std.proofs.lemmas.List.{length-set}
use Rattle.evade_space.specs.Masks.{is_within, has_room, is_sure, is_sure_with}
use Rattle.lat_ballots.proofs.Pages.{set_more}
use Rattle.evade_space.proofs.contest_sets.ContestSets.new.Goals as goal

pub loop-i-preserved : goal.loop-i-preserved
loop-i-preserved c =
    let inv = c.loop-i.invariant in
    let lt : c.loop-i.i < 16 = omega (arith, c.loop-i-test.true, c.pages-pages.ensures.few) in
    record {
      within = set_more c.loop-i.i (is_within c.args.space.now.contests c.args.state.now.sources c.args.c) c.loop-i.within c.page_words-words.result.within c.args.space.now.deck (omega (arith, lt, inv.long)) inv.within c.page_words-words.ensures.within;
      room = set_more c.loop-i.i (has_room c.args.space.now.contests c.args.state.now.sources c.args.c) c.loop-i.room c.page_words-words.result.room c.args.space.now.deck (omega (arith, lt, inv.long_room)) inv.room c.page_words-words.ensures.room;
      sure = set_more c.loop-i.i (is_sure c.args.space.now.contests c.args.state.now.sources c.args.c c.args.places) c.loop-i.sure c.page_words-words.result.sure c.args.space.now.deck (omega (arith, lt, inv.long_sure)) inv.sure c.page_words-words.ensures.sure;
      sure_with = set_more c.loop-i.i (is_sure_with c.args.space.now.contests c.args.state.now.sources c.args.c c.args.places) c.loop-i.sure_with c.page_words-words.result.sure_with c.args.space.now.deck (omega (arith, lt, inv.long_sure_with)) inv.sure_with c.page_words-words.ensures.sure_with;
      long = length-set c.loop-i.within c.loop-i.i c.page_words-words.result.within ∙ inv.long;
      long_room = length-set c.loop-i.room c.loop-i.i c.page_words-words.result.room ∙ inv.long_room;
      long_sure = length-set c.loop-i.sure c.loop-i.i c.page_words-words.result.sure ∙ inv.long_sure;
      long_sure_with = length-set c.loop-i.sure_with c.loop-i.i c.page_words-words.result.sure_with ∙ inv.long_sure_with;
    }

pub returns : goal.returns
returns c =
    let inv = c.loop-i.invariant in
    let all : (k : ℕ) → k < c.pages-pages.result → k < c.loop-i.i = λ k lt. omega (arith, lt, c.loop-i-test.false) in
    record {
      pages = c.pages-pages.ensures.few;
      all = c.pages-pages.ensures.all;
      within = λ k lt. inv.within k (all k lt);
      room = λ k lt. inv.room k (all k lt);
      sure = λ k lt. inv.sure k (all k lt);
      sure_with = λ k lt. inv.sure_with k (all k lt);
    }
