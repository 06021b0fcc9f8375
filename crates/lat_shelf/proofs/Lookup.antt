-- How a name is looked up among what is stored.
use Rattle.std.proofs.Common.{◌≡◌, ◌+◌, ◌<◌, ◌≤◌, List, ℕ, ◌∷◌, Some, None, cond, length, drop, get_or, true, false, ap, sym, ◌∙◌, add-one, drop-cons, refl}
use Rattle.std.proofs.lemmas.List.{drop_all}
use Rattle.std.specs.Prelude.{string_bytes, slice_get, option_map}
use Rattle.std.proofs.lemmas.Option.{slice_get_read}
use Rattle.std.specs.Str.{bytes_eq}
use Rattle.std.specs.Ordering.{nat_cmp}
use Rattle.std.specs.Cmp.Lexicographic.{slice_cmp, nat_list_cmp_total}
use Rattle.std.specs.Cmp.{eq_by_cmp_equiv}
use Rattle.std.specs.FinMap.{get, get-insert, get-empty}
use Rattle.std.proofs.lemmas.Map.Text.{is_eq-slice_cmp}
use Rattle.lat_shelf.specs.declared.stored.Stored.{Stored}
use Rattle.lat_shelf.specs.Stored.{files_of}

-- a name is that of the file at this place, or is looked up after it
pub get_at : (stored : List Stored) (i : ℕ) (file : Stored) (name : List ℕ) → i < length stored
    → file ≡ get_or stored i file
    → get (files_of (drop i stored)) name
    ≡ cond (bytes_eq (string_bytes file.name) name) (Some file.bytes.items)
    (get (files_of (drop (i + 1) stored)) name)
get_at stored i file name h is =
    let split : drop i stored ≡ file ∷ drop (i + 1) stored = drop-cons stored i file h ∙ (λ j. sym is j ∷ drop (sym (add-one i) j) stored) in
    ap (λ (fs : List Stored). get (files_of fs) name) split
    ∙ get-insert nat_list_cmp_total (files_of (drop (i + 1) stored)) (string_bytes file.name) file.bytes.items name
    ∙ ap (λ b. cond b (Some file.bytes.items) (get (files_of (drop (i + 1) stored)) name))
    ((eq_by_cmp_equiv nat_list_cmp_total).symm name (string_bytes file.name) ∙ is_eq-slice_cmp (string_bytes file.name) name)

-- where no file before this place has the name, and the one here has it, it is found
pub get_here : (stored : List Stored) (i : ℕ) (file : Stored) (name text : List ℕ)
    → i < length stored → file ≡ get_or stored i file
    → get (files_of (drop i stored)) name ≡ get (files_of stored) name
    → text ≡ string_bytes file.name → true ≡ bytes_eq text name
    → get (files_of stored) name ≡ option_map (λ f. f.bytes.items) (slice_get stored i)
get_here stored i file name text h is before same eq =
    sym before ∙ get_at stored i file name h is
    ∙ ap (λ b. cond b (Some file.bytes.items) (get (files_of (drop (i + 1) stored)) name)) (ap (λ (xs : List ℕ). bytes_eq xs name) (sym same) ∙ sym eq)
    ∙ sym (ap (option_map (λ (f : Stored). f.bytes.items)) (slice_get_read stored (length stored) i file refl h is))

pub get_after : (stored : List Stored) (i : ℕ) (file : Stored) (name text : List ℕ)
    → i < length stored → file ≡ get_or stored i file
    → get (files_of (drop i stored)) name ≡ get (files_of stored) name
    → text ≡ string_bytes file.name → false ≡ bytes_eq text name
    → get (files_of (drop (i + 1) stored)) name ≡ get (files_of stored) name
get_after stored i file name text h is before same eq =
    sym (get_at stored i file name h is
    ∙ ap (λ b. cond b (Some file.bytes.items) (get (files_of (drop (i + 1) stored)) name)) (ap (λ (xs : List ℕ). bytes_eq xs name) (sym same) ∙ sym eq)) ∙ before

pub get_past : (stored : List Stored) (i : ℕ) (name : List ℕ) → length stored ≤ i
    → get (files_of (drop i stored)) name ≡ None
get_past stored i name h = ap (λ (fs : List Stored). get (files_of fs) name) (drop_all i stored h) ∙ get-empty (slice_cmp nat_cmp) name
