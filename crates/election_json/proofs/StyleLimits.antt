-- The styles that are read are within the limits.
use Rattle.std.proofs.Common.{◌≡◌, ◌<◌, ◌≤◌, ◌++◌, ◌∷◌, ℕ, Bool, true, false, List, [], Option, Some, None, Ok, Err, length, map, nat_lt, codes, cond, find, refl, sym, subst, ◌∙◌, arith}
use Rattle.std.specs.Prelude.{All}
use Rattle.std.specs.List.{list_any, AllByRecursion}
use Rattle.std.specs.Str.{bytes_eq}
use Rattle.std.proofs.lemmas.Bool.{ltb-false, or_from}
use Rattle.std.proofs.lemmas.List.{length-map, get_or-map, map_push}
use Rattle.std.proofs.lemmas.List.Elements.{All-push, All-nil, All-map, recursion_from_All}
use Rattle.std.proofs.lemmas.Slice.Eq.{bytes_eq-Decides}
use Rattle.serde_json.specs.Data.{Data}
use Rattle.lat_base.specs.declared.contest.Contest.{Contest}
use Rattle.lat_base.specs.declared.contest_names.ContestNames.{ContestNames}
use Rattle.lat_base.specs.Names.{AreNames, NamesFit, has_twice, no_names}
use Rattle.lat_base.specs.Rules.{RuleSet, IsRuleSet}
use Rattle.lat_base.specs.Shape.{target_count, no_contest}
use Rattle.lat_base.proofs.NamesFacts.{names_more, twice_more}
use Rattle.election_json.specs.declared.place.Place.{Place}
use Rattle.election_json.specs.declared.place.Place.TheVariants as at
use Rattle.election_json.specs.declared.fault.DefFault.{DefFault}
use Rattle.election_json.specs.declared.fault.DefFault.TheVariants.{Repeated, UnknownContest, TooManyTargets}
use Rattle.election_json.specs.declared.contest_entry.ContestEntry.{ContestEntry}
use Rattle.lat_base.specs.FirstFault.{◌>>=◌, or_fault}
use Rattle.election_json.specs.Member.{member, object, array, id_text, new_id}
use Rattle.election_json.specs.Entry.{each}
use Rattle.election_json.specs.Contests.{ids_of}
use Rattle.election_json.specs.Styles.{DefinedStyle, contest_names, contest_shape, style_with, style_ids, next_chosen, of_few_targets, style_entry, next_style, styles_of}
use Rattle.election_json.specs.Limits.{IsContest, AreContests, IsStyle}
use Rattle.election_json.specs.Definition.{IsDefinition}
use Rattle.election_json.specs.Kept.{no_entry}
use Rattle.election_json.proofs.Lists.{any_map}
use Rattle.election_json.proofs.Steps.{bind_ok, guard_ok, array_range, new_id_fresh, each_keeps}

found_step : (P : ContestEntry → Type 0) (p : ContestEntry → Bool) (y x : ContestEntry)
    (rest : Option ContestEntry) (b : Bool) → p y ≡ b → P y → (rest ≡ Some x → P x × (p x ≡ true))
    → cond b (Some y) rest ≡ Some x → P x × (p x ≡ true)
found_step P p y x rest true e here more h =
    let same : y ≡ x = cc in (subst P same here, subst (λ (z : ContestEntry). p z ≡ true) same e)
found_step P p y x rest false e here more h = more h

-- what is found passes the test, and is one of the list
found_holds : (P : ContestEntry → Type 0) (p : ContestEntry → Bool) (xs : List ContestEntry)
    (x : ContestEntry) → AllByRecursion P xs → find p xs ≡ Some x → P x × (p x ≡ true)
found_holds P p [] x all h = absurd cc
found_holds P p (y ∷ xs) x all h =
    found_step P p y x (find p xs) (p y) refl all.0 (λ k. found_holds P p xs x all.1 k) h

there : {A : Type 0} (o : Option A) (d : DefFault) (x : A) → or_fault o d ≡ Ok x → o ≡ Some x
there None d x h = absurd cc
there (Some y) d x h = cc

-- a chosen contest is one of the contests, and isn't chosen twice
chosen_limits : (contests : List ContestEntry) (i j : ℕ) (earlier : List ContestEntry)
    (value : Data) (c : ContestEntry) → AreContests contests
    → next_chosen contests i j earlier value ≡ Ok c
    → IsContest c × (list_any (bytes_eq c.id) (ids_of earlier) ≡ false)
chosen_limits contests i j earlier value c are e =
    let place = at.StyleContest i j in
    let a = bind_ok (id_text place value) (λ (t : List ℕ). or_fault (find (λ x. bytes_eq t x.id) contests) (UnknownContest place) >>= λ x. cond (list_any (bytes_eq t) (ids_of earlier)) (Err (Repeated place)) (Ok x)) c e in
    let b = bind_ok (or_fault (find (λ x. bytes_eq a.0 x.id) contests) (UnknownContest place)) (λ (x : ContestEntry). cond (list_any (bytes_eq a.0) (ids_of earlier)) (Err (Repeated place)) (Ok x)) c a.2 in
    let g = guard_ok (list_any (bytes_eq a.0) (ids_of earlier)) (Repeated place) b.0 c b.2 in
    let found = there (find (λ x. bytes_eq a.0 x.id) contests) (UnknownContest place) b.0 b.1 in
    let h = found_holds IsContest (λ x. bytes_eq a.0 x.id) contests b.0 (recursion_from_All IsContest contests are.all) found in
    let same : a.0 ≡ b.0.id = (bytes_eq-Decides a.0 b.0.id).0 h.1 in
    let fresh = subst (λ (t : List ℕ). list_any (bytes_eq t) (ids_of earlier) ≡ false) same g.0 in
    subst (λ (x : ContestEntry). IsContest x × (list_any (bytes_eq x.id) (ids_of earlier) ≡ false)) g.1 (h.0, fresh)

names_push : (earlier : List ContestEntry) (c : ContestEntry) → AreNames (map contest_names earlier)
    → list_any (bytes_eq c.id) (ids_of earlier) ≡ false → has_twice c.targets ≡ false
    → AreNames (map contest_names (earlier ++ c ∷ []))
names_push earlier c named fresh once =
    let other = any_map (λ (n : ContestNames). bytes_eq c.id n.id) contest_names earlier ∙ sym (any_map (bytes_eq c.id) (λ (x : ContestEntry). x.id) earlier) ∙ fresh in
    subst AreNames (sym (map_push contest_names earlier c)) (names_more (map contest_names earlier) (contest_names c) named (or_from _ (has_twice c.targets) other once))

pub record AreChosen (chosen : List ContestEntry) : Type 0 where
  pub all : All IsContest chosen
  pub named : AreNames (map contest_names chosen)

chosen_push : (contests : List ContestEntry) (i j : ℕ) (earlier : List ContestEntry) (value : Data)
    (c : ContestEntry) → AreContests contests → AreChosen earlier
    → next_chosen contests i j earlier value ≡ Ok c → AreChosen (earlier ++ c ∷ [])
chosen_push contests i j earlier value c are so_far e =
    let h = chosen_limits contests i j earlier value c are e in
    record { all = All-push IsContest earlier c so_far.all h.0; named = names_push earlier c so_far.named h.1 h.0.once }

none_chosen : AreChosen []
none_chosen = record { all = All-nil IsContest; named = record { ids = refl; targets = All-nil _ } }

-- names and shape are of the same contests
names_fit : (chosen : List ContestEntry)
    → NamesFit (map contest_names chosen) (map contest_shape chosen)
names_fit chosen = record {
  count = simp length-map;
  targets = λ k lt.
      let inside : k < length chosen = simp length-map at lt in
      rw (get_or-map contest_names chosen k no_entry no_names inside, get_or-map contest_shape chosen k no_entry no_contest inside) refl;
}

style_is : (id : List ℕ) (chosen : List ContestEntry) → AreChosen chosen
    → (1 ≤ length chosen) × (length chosen ≤ 128) → target_count (map contest_shape chosen) ≤ 256
    → IsStyle (style_with id chosen)
style_is id chosen are range few = record {
  shaped = record {
    some = rw length-map range.0;
    few = rw length-map range.1;
    limits = All-map (λ (x : Contest). (1 ≤ x.limit) × (x.limit ≤ 64)) contest_shape chosen (λ k d lt. (are.all k d lt).limited);
    counts = All-map (λ (x : Contest). (1 ≤ x.targets) × (x.targets ≤ 64)) contest_shape chosen (λ k d lt. (are.all k d lt).counted);
    few_targets = few;
  };
  named = are.named;
  fits = names_fit chosen;
}

few_limits : (place : Place) (style s : DefinedStyle) → of_few_targets place style ≡ Ok s
    → (target_count style.shape ≤ 256) × (style ≡ s)
few_limits place style s e =
    let g = guard_ok (nat_lt 256 (target_count style.shape)) (TooManyTargets place (target_count style.shape)) style s e in
    (ltb-false _ _ g.0, g.1)

style_limits : (contests : List ContestEntry) (earlier : List (List ℕ)) (i : ℕ) (value : Data)
    (s : DefinedStyle) → AreContests contests → style_entry contests earlier i value ≡ Ok s
    → IsStyle s × (list_any (bytes_eq s.names.style) earlier ≡ false)
unfolding style_entry
style_limits contests earlier i value s are e =
    let a = bind_ok (object (at.Style i) value) _ s e in
    let b = bind_ok (member (codes "id") (at.StyleId i) a.0 >>= new_id earlier (at.StyleId i)) _ s a.2 in
    let d = bind_ok (member (codes "contests") (at.StyleContests i) a.0 >>= array 1 128 (at.StyleContests i)) _ s b.2 in
    let f = bind_ok (each (next_chosen contests i) d.0) _ s d.2 in
    let g = few_limits (at.Style i) (style_with b.0 f.0) s f.2 in
    let id-value = bind_ok (member (codes "id") (at.StyleId i) a.0) (new_id earlier (at.StyleId i)) b.0 b.1 in
    let contests-value = bind_ok (member (codes "contests") (at.StyleContests i) a.0) (array 1 128 (at.StyleContests i)) d.0 d.1 in
    let range = array_range 1 128 (at.StyleContests i) contests-value.0 d.0 contests-value.2 in
    let kept = each_keeps (next_chosen contests i) AreChosen (λ j so_far v c q h. chosen_push contests i j so_far v c are q h) 0 [] d.0 f.0 none_chosen f.1 in
    let style = style_is b.0 f.0 kept.0 (omega (arith, kept.1, range.0), omega (arith, kept.1, range.1)) g.0 in
    subst (λ (t : DefinedStyle). IsStyle t × (list_any (bytes_eq t.names.style) earlier ≡ false)) g.1 (style, new_id_fresh earlier (at.StyleId i) id-value.0 b.0 id-value.2)

pub record AreStyles (styles : List DefinedStyle) : Type 0 where
  pub all : All IsStyle styles
  pub once : has_twice (style_ids styles) ≡ false

style_push : (contests : List ContestEntry) (i : ℕ) (earlier : List DefinedStyle) (value : Data)
    (s : DefinedStyle) → AreContests contests → AreStyles earlier
    → next_style contests i earlier value ≡ Ok s → AreStyles (earlier ++ s ∷ [])
style_push contests i earlier value s are so_far e =
    let h = style_limits contests (style_ids earlier) i value s are e in
    record { all = All-push IsStyle earlier s so_far.all h.0; once = rw (map_push (λ (t : DefinedStyle). t.names.style) earlier s) (twice_more (style_ids earlier) s.names.style so_far.once h.1) }

-- a definition is within the limits
pub definition_limits : (rules : RuleSet) (contests : List ContestEntry) (top : Data) (styles : List DefinedStyle) → IsRuleSet rules → AreContests contests → styles_of contests top ≡ Ok styles → IsDefinition (record { rules = rules; styles = styles })
unfolding styles_of
definition_limits rules contests top styles ruled are e =
    let a = bind_ok (member (codes "styles") at.Styles top >>= array 1 4096 at.Styles) _ styles e in
    let value = bind_ok (member (codes "styles") at.Styles top) (array 1 4096 at.Styles) a.0 a.1 in
    let range = array_range 1 4096 at.Styles value.0 a.0 value.2 in
    let kept = each_keeps (next_style contests) AreStyles (λ i earlier v s q h. style_push contests i earlier v s are q h) 0 [] a.0 styles (record { all = All-nil IsStyle; once = refl }) a.2 in
    record { ruled = ruled; some = omega (arith, kept.1, range.0); few = omega (arith, kept.1, range.1); all = kept.0.all; once = kept.0.once }
