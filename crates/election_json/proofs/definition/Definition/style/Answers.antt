use Rattle.std.proofs.Common.{Some, None, refl, sym}
use Rattle.election_json.specs.Kept.{kept_styles}
use Rattle.election_json.proofs.StylePlace.{place_is, found_style, none_style, some_style}
use Rattle.election_json.proofs.definition.Definition.style.Goals as goal

pub returns-in-Some-clause-place : goal.returns-in-Some-clause-place
returns-in-Some-clause-place c =
    let place = place_is c.self.inside.contests c.self.inside.styles.items c.as_slice.result.now c.as_bytes.result.now c.args.id.now (Some c.in-Some.i) c.in-Some.ensures c.as_slice.ensures.value c.as_bytes.ensures.value in
    rw (← c.self.view_is) place

pub returns-in-Some-clause-found : goal.returns-in-Some-clause-found
returns-in-Some-clause-found c =
    let styles = kept_styles c.self.inside.contests c.self.inside.styles.items in
    let place = place_is c.self.inside.contests c.self.inside.styles.items c.as_slice.result.now c.as_bytes.result.now c.args.id.now (Some c.in-Some.i) c.in-Some.ensures c.as_slice.ensures.value c.as_bytes.ensures.value in
    rw (← c.self.view_is) (found_style styles c.args.id.now c.in-Some.i (sym place))

pub returns-in-Some-clause-none : goal.returns-in-Some-clause-none
returns-in-Some-clause-none c =
    let styles = kept_styles c.self.inside.contests c.self.inside.styles.items in
    let place = place_is c.self.inside.contests c.self.inside.styles.items c.as_slice.result.now c.as_bytes.result.now c.args.id.now (Some c.in-Some.i) c.in-Some.ensures c.as_slice.ensures.value c.as_bytes.ensures.value in
    rw (← c.self.view_is) (λ h. absurd cc, λ all. absurd (some_style styles c.args.id.now c.in-Some.i (sym place) all))

pub returns-in-None-clause-place : goal.returns-in-None-clause-place
returns-in-None-clause-place c =
    let place = place_is c.self.inside.contests c.self.inside.styles.items c.as_slice.result.now c.as_bytes.result.now c.args.id.now None c.in-None.ensures c.as_slice.ensures.value c.as_bytes.ensures.value in
    rw (← c.self.view_is) place

pub returns-in-None-clause-none : goal.returns-in-None-clause-none
returns-in-None-clause-none c =
    let styles = kept_styles c.self.inside.contests c.self.inside.styles.items in
    let place = place_is c.self.inside.contests c.self.inside.styles.items c.as_slice.result.now c.as_bytes.result.now c.args.id.now None c.in-None.ensures c.as_slice.ensures.value c.as_bytes.ensures.value in
    rw (← c.self.view_is) (λ h. none_style styles c.args.id.now (sym place), λ all. refl)
