use Rattle.std.proofs.Common.{◌≡◌, ◌<◌, ◌++◌, ◌∷◌, [], ◌∙◌, sym, subst, ℕ, List, Bool, rules, length, take, arith}
use borrow.Author.Count.{below_more}
use Rattle.std.proofs.lemmas.List.{take_all, length-take-le}
use Rattle.std.specs.Prelude.{MatchBool, not}
use Rattle.plain_search.specs.Trying.{RobustFrom, EvadesFrom}
use Rattle.plain_search.proofs.Fronts.{front_set, front_kept}
use Rattle.plain_search.proofs.Tried.{evades_less, robust_all, leaf}
use Rattle.plain_search.proofs.robust.+is_robust_from.Goals as goal

pub returns-then-u-n-clause-robust : goal.returns-then-u-n-clause-robust
returns-then-u-n-clause-robust t c =
    let whole : take c.args.u c.args.sources.now ≡ c.args.sources.now = take_all c.args.u c.args.sources.now (omega arith) in
    subst (λ (f : List ℕ). MatchBool (not c.in_ok-evades.field-0) (RobustFrom c.args.shape.now c.args.deck.now.ballots f) (EvadesFrom c.args.shape.now c.args.deck.now.ballots f)) (sym whole)
    (leaf c.args.shape.now c.args.deck.now.ballots c.args.sources.now c.in_ok-evades.field-0 c.requires.long c.in_ok-evades.ensures)

pub returns-then-not-branch-clause-kept : goal.returns-then-not-branch-clause-kept
returns-then-not-branch-clause-kept t c =
    let lt : c.args.u < length c.loop-t.sources = omega arith in
    front_kept c.is_robust_from.new.sources c.args.sources.now c.args.u c.loop-t.t (omega arith) (c.in_ok-is_robust_from.ensures.kept ∙ front_set c.loop-t.sources c.args.sources.now c.args.u c.loop-t.t lt c.loop-t.invariant.kept)

pub returns-then-not-branch-clause-robust : goal.returns-then-not-branch-clause-robust
returns-then-not-branch-clause-robust t c =
    let lt : c.args.u < length c.loop-t.sources = omega arith in
    let cs = c.args.shape.now in
    let deck = c.args.deck.now.ballots in
    let front = front_set c.loop-t.sources c.args.sources.now c.args.u c.loop-t.t lt c.loop-t.invariant.kept in
    evades_less cs deck (take c.args.u c.args.sources.now) c.loop-t.t
    (subst (λ (b : Bool). MatchBool b (RobustFrom cs deck (take c.args.u c.args.sources.now ++ c.loop-t.t ∷ [])) (EvadesFrom cs deck (take c.args.u c.args.sources.now ++ c.loop-t.t ∷ []))) c.if-not-branch.true
    (subst (λ (f : List ℕ). MatchBool c.in_ok-is_robust_from.field-0 (RobustFrom cs deck f) (EvadesFrom cs deck f)) front c.in_ok-is_robust_from.ensures.robust))

pub loop-t-preserved : goal.loop-t-preserved
loop-t-preserved t c =
    let lt : c.args.u < length c.loop-t.sources = omega arith in
    let cs = c.args.shape.now in
    let deck = c.args.deck.now.ballots in
    let front = front_set c.loop-t.sources c.args.sources.now c.args.u c.loop-t.t lt c.loop-t.invariant.kept in
    record {
      kept = front_kept c.is_robust_from.new.sources c.args.sources.now c.args.u c.loop-t.t (omega arith) (c.in_ok-is_robust_from.ensures.kept ∙ front);
      long = search rules;
      tried = below_more (λ (x : ℕ). RobustFrom cs deck (take c.args.u c.args.sources.now ++ x ∷ [])) c.loop-t.t c.loop-t.invariant.tried
          (subst (λ (b : Bool). MatchBool b (RobustFrom cs deck (take c.args.u c.args.sources.now ++ c.loop-t.t ∷ [])) (EvadesFrom cs deck (take c.args.u c.args.sources.now ++ c.loop-t.t ∷ []))) c.if-not-branch.false
          (subst (λ (f : List ℕ). MatchBool c.in_ok-is_robust_from.field-0 (RobustFrom cs deck f) (EvadesFrom cs deck f)) front c.in_ok-is_robust_from.ensures.robust));
    }

pub returns-clause-robust : goal.returns-clause-robust
returns-clause-robust t c =
    robust_all c.args.shape.now c.args.deck.now.ballots (take c.args.u c.args.sources.now) c.args.u (length-take-le c.args.u c.args.sources.now (omega arith)) (omega arith)
    (λ x h. c.loop-t.invariant.tried x (omega arith))
