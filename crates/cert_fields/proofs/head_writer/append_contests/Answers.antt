use Rattle.std.proofs.Common.{◌≡◌, ◌<◌, ◌∙◌, ◌+◌, ◌++◌, ◌∷◌, [], ap, sym, ℕ, List, take, length, get_or, append_assoc, arith}
use Rattle.std.proofs.lemmas.List.{take_more, length-take-le}
use Rattle.lat_base.specs.declared.contest.Contest.{Contest}
use Rattle.lat_base.specs.declared.contest_names.ContestNames.{ContestNames}
use Rattle.lat_base.specs.Shape.{no_contest}
use Rattle.cert_fields.specs.Head.{contest_text, contests_text}
use Rattle.cert_fields.proofs.HeadParts.{contests_push, named_push}
use Rattle.cert_fields.proofs.head_writer.append_contests.Goals as goal

pub loop-c-preserved : goal.loop-c-preserved
loop-c-preserved c =
    let names = c.args.names.now in
    let shape = c.args.shape.now in
    let i = c.loop-c.c in
    let n = c.index-names-c.result in
    let d = c.contest.result in
    let within : i < length shape = omega (arith, c.contests-c-end.ensures.count, c.loop-c-test.true) in
    let there : i < length names = omega (arith, within, c.requires.count) in
    let one : n ≡ get_or names i n = c.index-names-c.is in
    let other : d ≡ get_or shape i no_contest = c.contest.ensures in
    let ns : take (i + 1) names ≡ take i names ++ n ∷ [] = take_more names i n there ∙ ap (λ (x : ContestNames). take i names ++ x ∷ []) (sym one) in
    let ds : take (i + 1) shape ≡ take i shape ++ d ∷ [] = take_more shape i no_contest within ∙ ap (λ (x : Contest). take i shape ++ x ∷ []) (sym other) in
    let long : length (take i names) ≡ length (take i shape) = omega (arith, length-take-le i names (omega (arith, there)), length-take-le i shape (omega (arith, within))) in
    record {
      text = c.in_ok-append_contest.ensures.ok ∙ ap (λ (r : List ℕ). r ++ contest_text n d) c.loop-c.invariant.text
          ∙ append_assoc c.args.out.now.items (contests_text (take i names) (take i shape)) (contest_text n d)
          ∙ ap (λ (r : List ℕ). c.args.out.now.items ++ r) (sym (contests_push (take i names) (take i shape) n d long))
          ∙ ap (λ (r : List ContestNames). c.args.out.now.items ++ contests_text r (take i shape ++ d ∷ [])) (sym ns)
          ∙ ap (λ (r : List Contest). c.args.out.now.items ++ contests_text (take (i + 1) names) r) (sym ds);
      spelled = rw (ns, ds) (named_push (take i names) (take i shape) n d long c.loop-c.invariant.spelled c.in_ok-append_contest.ensures.spelled);
    }
