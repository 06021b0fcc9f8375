use Rattle.std.proofs.Common.{◌≡◌, ◌<◌, ℕ, List, length, get_or, subst}
use Rattle.election_json.specs.Kept.{entry_at}
use Rattle.election_json.proofs.NamesOnce.{next_is_new}
use Rattle.election_json.proofs.style_names.names_of.Goals as goal

pub add_contest-requires : goal.add_contest-requires
add_contest-requires c =
    let contests = c.args.contests.now in
    let k = c.loop-number.number-index in
    let lt = subst (λ (ns : List ℕ). k < length ns) c.deref-number-items.ensures.value c.loop-number-test.true in
    let same = subst (λ (ns : List ℕ). c.entry.result.now ≡ entry_at contests (get_or ns k 0)) c.deref-number-items.ensures.value c.entry.ensures.entry in
    rw c.loop-number.invariant.contests (next_is_new contests c.args.style.now.contests.items k c.entry.result.now c.requires.style.named lt same)
