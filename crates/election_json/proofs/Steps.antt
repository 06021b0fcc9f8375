-- What a read that came to its end says of each of its steps.
use Rattle.std.proofs.Common.{◌≡◌, ◌+◌, ◌<◌, ◌≤◌, ◌++◌, ℕ, Bool, true, false, cond, List, [], ◌∷◌, length, map, drop, get_or, nat_lt, Result, Ok, Err, refl, sym, ap, subst, ◌∙◌, arith, add-one, drop-cons, length-append}
use Rattle.std.specs.List.{list_any}
use Rattle.std.specs.Prelude.{option_and_then}
use Rattle.std.specs.Str.{bytes_eq}
use Rattle.std.proofs.lemmas.Bool.{ltb-false, or_parts}
use Rattle.std.proofs.lemmas.List.{drop_all}
use Rattle.serde_json.specs.Data.{Data}
use Rattle.serde_json.specs.Find.{as_number, as_u64}
use Rattle.election_json.specs.declared.place.Place.{Place}
use Rattle.election_json.specs.declared.fault.DefFault.{DefFault}
use Rattle.election_json.specs.declared.fault.DefFault.TheVariants.{Repeated, OutOfRange, WrongKind}
use Rattle.lat_base.specs.FirstFault.{◌>>=◌, or_fault}
use Rattle.election_json.specs.Member.{is_outside, number, values, array, id_text, new_id}
use Rattle.election_json.specs.Entry.{each_from}

-- the value of a step that did not fail
pub bind_ok : {A B : Type 0} (r : Result A DefFault) (f : A → Result B DefFault) (y : B)
    → (r >>= f) ≡ Ok y → (x : A) × (r ≡ Ok x) × (f x ≡ Ok y)
bind_ok (Ok x) f y e = (x, refl, e)
bind_ok (Err d) f y e = absurd cc

-- a test that did not fail
pub guard_ok : {A : Type 0} (b : Bool) (d : DefFault) (x y : A) → cond b (Err d) (Ok x) ≡ Ok y
    → (b ≡ false) × (x ≡ y)
guard_ok true d x y e = absurd cc
guard_ok false d x y e = (refl, cc)

abbrev done : {A : Type 0} → A → Result A DefFault
done x = Ok x

pub ok_is : {A : Type 0} (x y : A) → done x ≡ done y → x ≡ y
ok_is x y e = cc

pub inside : (low high n : ℕ) → is_outside low high n ≡ false → (low ≤ n) × (n ≤ high)
inside low high n h = let parts = or_parts (nat_lt n low) (nat_lt high n) h in (ltb-false _ _ parts.0, ltb-false _ _ parts.1)

pub number_range : (low high : ℕ) (place : Place) (value : Data) (n : ℕ)
    → number low high place value ≡ Ok n → (low ≤ n) × (n ≤ high)
number_range low high place value n e =
    let a = bind_ok (or_fault (option_and_then as_u64 (as_number value)) (WrongKind place)) (λ m. cond (is_outside low high m) (Err (OutOfRange place m)) (Ok m)) n e in
    let g = guard_ok (is_outside low high a.0) (OutOfRange place a.0) a.0 n a.2 in
    inside low high n (subst (λ (m : ℕ). is_outside low high m ≡ false) g.1 g.0)

pub array_range : (low high : ℕ) (place : Place) (value : Data) (vs : List Data)
    → array low high place value ≡ Ok vs → (low ≤ length vs) × (length vs ≤ high)
array_range low high place value vs e =
    let a = bind_ok (values place value) (λ (ws : List Data). cond (is_outside low high (length ws)) (Err (OutOfRange place (length ws))) (Ok ws)) vs e in
    let g = guard_ok (is_outside low high (length a.0)) (OutOfRange place (length a.0)) a.0 vs a.2 in
    inside low high (length vs) (subst (λ (ws : List Data). is_outside low high (length ws) ≡ false) g.1 g.0)

pub new_id_fresh : (earlier : List (List ℕ)) (place : Place) (value : Data) (text : List ℕ)
    → new_id earlier place value ≡ Ok text → list_any (bytes_eq text) earlier ≡ false
new_id_fresh earlier place value text e =
    let a = bind_ok (id_text place value) (λ (t : List ℕ). cond (list_any (bytes_eq t) earlier) (Err (Repeated place)) (Ok t)) text e in
    let g = guard_ok (list_any (bytes_eq a.0) earlier) (Repeated place) a.0 text a.2 in
    subst (λ (t : List ℕ). list_any (bytes_eq t) earlier ≡ false) g.1 g.0

-- what holds of no entries, and goes on with each entry, holds of all; and each value gives one
pub each_keeps : {X : Type 0} (entry : ℕ → List X → Data → Result X DefFault) (Q : List X → Type 0)
    (goes_on : (i : ℕ) (earlier : List X) (value : Data) (x : X) → Q earlier
    → entry i earlier value ≡ Ok x → Q (earlier ++ x ∷ []))
    (i : ℕ) (earlier : List X) (values : List Data) (xs : List X) → Q earlier → each_from entry i earlier values ≡ Ok xs → Q xs × (length xs ≡ length earlier + length values)
unfolding each_from
each_keeps entry Q goes_on i earlier [] xs q e =
    let same = ok_is earlier xs e in (subst Q same q, omega (arith, ap length same))
each_keeps {X = X} entry Q goes_on i earlier (value ∷ values) xs q e =
    let a = bind_ok (entry i earlier value) (λ (x : X). each_from entry (i + 1) (earlier ++ x ∷ []) values) xs e in
    let more = each_keeps entry Q goes_on (i + 1) (earlier ++ a.0 ∷ []) values xs (goes_on i earlier value a.0 q a.1) a.2 in
    (more.0, omega (arith, more.1, length-append earlier (a.0 ∷ [])))

-- where no value is left, the entries so far are what all values give
pub all_read : {X V : Type 0} (entry : ℕ → List X → Data → Result X DefFault) (seen : V → Data)
    (i : ℕ) (xs : List X) (vs : List V) → length vs ≤ i
    → each_from entry i xs (map seen (drop i vs)) ≡ each_from entry 0 [] (map seen vs)
    → each_from entry 0 [] (map seen vs) ≡ Ok xs
unfolding each_from
all_read entry seen i xs vs past rest = sym rest ∙ rw (drop_all i vs past) refl

-- an entry more, and a value fewer, give the same
pub goes_on : {X V : Type 0} (entry : ℕ → List X → Data → Result X DefFault) (seen : V → Data)
    (i : ℕ) (xs : List X) (vs : List V) (v : V) (x : X) (total : Result (List X) DefFault)
    → i < length vs → get_or vs i v ≡ v
    → entry i xs (seen v) ≡ Ok x → each_from entry i xs (map seen (drop i vs)) ≡ total
    → each_from entry (i + 1) (xs ++ x ∷ []) (map seen (drop (i + 1) vs)) ≡ total
unfolding each_from
goes_on entry seen i xs vs v x total lt here h rest =
    let left : drop i vs ≡ v ∷ drop (i + 1) vs = rw (add-one, drop-cons vs i v lt, here) refl in
    let one : each_from entry i xs (map seen (drop i vs)) ≡ each_from entry (i + 1) (xs ++ x ∷ []) (map seen (drop (i + 1) vs)) = rw (left, h) refl in
    sym one ∙ rest
