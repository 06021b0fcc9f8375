-- The places on a way, as Forks are left and entered.
use Rattle.std.proofs.Common.{◌≡◌, ℕ, zero, suc, ◌+◌, ◌≤◌, List, [], ◌∷◌, ◌++◌, length, take, map, refl, ap, sym, ◌∙◌, subst, arith, length-append}
use Rattle.std.proofs.lemmas.List.{take_all, take-append-le, length-take, length-map, map_push}
use Rattle.tree_core.specs.declared.walk.Entry.{Entry}
use Rattle.tree_core.specs.Walk.{places_of}

fewer : (xs all : List ℕ) (x : ℕ) → xs ++ x ∷ [] ≡ take (suc (length xs)) all
    → xs ≡ take (length xs) all
fewer [] all x e = refl
fewer (y ∷ xs) [] x e = absurd (cc)
fewer (y ∷ xs) (a ∷ all) x e =
    let head : y ≡ a = cc in
    let tail : xs ++ x ∷ [] ≡ take (suc (length xs)) all = cc in
    rw (← head) (ap (λ (r : List ℕ). y ∷ r) (fewer xs all x tail))

-- the way that ends with an entry
pub places_last : (way up : List Entry) (e : Entry) (all : List ℕ) → way ≡ up ++ e ∷ []
    → places_of way ≡ take (length way) all
    → places_of up ++ e.node ∷ [] ≡ take (suc (length (places_of up))) all
places_last way up e all w h =
    let n : length way ≡ suc (length (places_of up)) = omega (arith, ap length w, length-append {A = Entry}, length-map {A = Entry} {B = ℕ}) in
    sym (ap places_of w ∙ map_push (λ (i : Entry). i.node) up e) ∙ h ∙ ap (λ (i : ℕ). take i all) n

pub places_up : (way up : List Entry) (e : Entry) (all : List ℕ) → way ≡ up ++ e ∷ []
    → places_of way ≡ take (length way) all → places_of up ≡ take (length up) all
places_up way up e all w h =
    let n : length (places_of up) ≡ length up = length-map up (λ (i : Entry). i.node) in
    fewer (places_of up) all e.node (places_last way up e all w h) ∙ ap (λ (i : ℕ). take i all) n

pub places_back : (up new : List Entry) (e f : Entry) (all : List ℕ) → new ≡ up ++ f ∷ []
    → f.node ≡ e.node → places_of up ++ e.node ∷ [] ≡ take (suc (length (places_of up))) all
    → places_of new ≡ take (length new) all
places_back up new e f all w same h =
    let n : suc (length (places_of up)) ≡ length new = omega (arith, ap length w, length-append {A = Entry}, length-map {A = Entry} {B = ℕ}) in
    ap places_of w ∙ map_push (λ (i : Entry). i.node) up f ∙ ap (λ (i : ℕ). places_of up ++ i ∷ []) same ∙ h ∙ ap (λ (i : ℕ). take i all) n

pub places_first : (old new : List Entry) (place next : ℕ) → new ≡ old ++ record { node = place; next = next } ∷ [] → places_of new ≡ take (length new) (places_of old ++ place ∷ [])
places_first old new place next w =
    let e : places_of new ≡ places_of old ++ place ∷ [] = ap places_of w ∙ map_push (λ (i : Entry). i.node) old (record { node = place; next = next }) in
    e ∙ sym (take_all (length new) (places_of old ++ place ∷ []) (omega (arith, ap length (sym e), length-map new (λ (i : Entry). i.node))))

pub places_more : (old new : List Entry) (place : ℕ)
    → places_of new ≡ take (length new) (places_of old)
    → places_of new ≡ take (length new) (places_of old ++ place ∷ [])
places_more old new place h =
    let few : length new ≤ length (places_of old) = omega (arith, ap length h, length-take (length new) (places_of old), length-map new (λ (i : Entry). i.node)) in
    h ∙ sym (take-append-le (length new) (places_of old) (place ∷ []) few)
