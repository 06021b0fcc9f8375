-- The contests that are read are within the limits.
use Rattle.std.proofs.Common.{◌≡◌, ◌≤◌, ℕ, false, List, [], length, codes, Ok, refl, subst, arith}
use Rattle.std.specs.Prelude.{All}
use Rattle.std.proofs.lemmas.List.Elements.{All-push, All-nil}
use Rattle.serde_json.specs.Data.{Data}
use Rattle.lat_base.specs.Names.{has_twice}
use Rattle.lat_base.proofs.NamesFacts.{twice_more}
use Rattle.election_json.specs.declared.place.Place.TheVariants as at
use Rattle.election_json.specs.declared.contest_entry.ContestEntry.{ContestEntry}
use Rattle.lat_base.specs.FirstFault.{◌>>=◌}
use Rattle.election_json.specs.Member.{member, object, number, array, new_id}
use Rattle.election_json.specs.Entry.{each}
use Rattle.election_json.specs.Contests.{ids_of, target_entry, contest_entry, next_contest}
use Rattle.election_json.specs.Limits.{IsContest, AreContests}
use Rattle.election_json.proofs.Steps.{bind_ok, ok_is, number_range, array_range, new_id_fresh, each_keeps}

targets_once : (i : ℕ) (values : List Data) (ids : List (List ℕ))
    → each (target_entry i) values ≡ Ok ids → (has_twice ids ≡ false) × (length ids ≡ length values)
targets_once i values ids e =
    let kept = each_keeps (target_entry i) (λ (ts : List (List ℕ)). has_twice ts ≡ false) (λ j earlier value id q h. twice_more earlier id q (new_id_fresh earlier (at.Target i j) value id h)) 0 [] values ids refl e in
    (kept.0, omega (arith, kept.1))

contest_limits : (earlier : List (List ℕ)) (i : ℕ) (value : Data) (c : ContestEntry)
    → contest_entry earlier i value ≡ Ok c → IsContest c
unfolding contest_entry
contest_limits earlier i value c e =
    let a = bind_ok (object (at.Contest i) value) _ c e in
    let b = bind_ok (member (codes "id") (at.ContestId i) a.0 >>= new_id earlier (at.ContestId i)) _ c a.2 in
    let d = bind_ok (member (codes "limit") (at.Limit i) a.0 >>= number 1 64 (at.Limit i)) _ c b.2 in
    let f = bind_ok (member (codes "targets") (at.Targets i) a.0 >>= array 1 64 (at.Targets i)) _ c d.2 in
    let g = bind_ok (each (target_entry i) f.0) _ c f.2 in
    let limit-value = bind_ok (member (codes "limit") (at.Limit i) a.0) (number 1 64 (at.Limit i)) d.0 d.1 in
    let targets-value = bind_ok (member (codes "targets") (at.Targets i) a.0) (array 1 64 (at.Targets i)) f.0 f.1 in
    let range = array_range 1 64 (at.Targets i) targets-value.0 f.0 targets-value.2 in
    let once = targets_once i f.0 g.0 g.1 in
    subst IsContest (ok_is _ c g.2) (record { limited = number_range 1 64 (at.Limit i) limit-value.0 d.0 limit-value.2; counted = (omega (arith, range.0, once.1), omega (arith, range.1, once.1)); once = once.0 })

pub contests_limits : (values : List Data) (contests : List ContestEntry) → length values ≤ 4096
    → each next_contest values ≡ Ok contests → AreContests contests
contests_limits values contests few e =
    let kept = each_keeps next_contest (λ (cs : List ContestEntry). All IsContest cs) (λ i earlier value c q h. All-push IsContest earlier c q (contest_limits (ids_of earlier) i value c h)) 0 [] values contests (All-nil IsContest) e in
    record { few = omega (arith, kept.1); all = kept.0 }
