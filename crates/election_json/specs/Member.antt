-- A member of a JSON object and its kind: an object, true or false, a whole number, an array, an
-- id.
use Rattle.std.specs.Prelude.{◌||◌, ℕ, Bool, List, [], ◌∷◌, length, nat_lt, is_some, if◌then◌else◌, option_and_then, Result, Ok, Err}
use Rattle.std.specs.List.{list_any}
use Rattle.std.specs.Option.{option_map}
use Rattle.std.specs.Str.{bytes_eq}
use Rattle.serde_json.specs.Data.{Data, Items, no_items, item}
use Rattle.serde_json.specs.Find.{get, as_bool, as_number, as_u64, as_str, as_array, as_object}
use Rattle.lat_base.specs.Id.{is_id}
use Rattle.election_json.specs.declared.place.Place.{Place}
use Rattle.election_json.specs.declared.fault.DefFault.{DefFault}
use Rattle.election_json.specs.declared.fault.DefFault.TheVariants.{Missing, WrongKind, BadId, Repeated, OutOfRange}
use Rattle.lat_base.specs.FirstFault.{◌>>=◌, or_fault}

-- the member of that name, which must be there
abbrev pub member : List ℕ → Place → Data → Result Data DefFault
member name place value = or_fault (get name value) (Missing place)

-- the value, which must be an object
abbrev pub object : Place → Data → Result Data DefFault
object place value = if is_some (as_object value) then Ok value else Err (WrongKind place)

-- true or false
abbrev pub boolean : Place → Data → Result Bool DefFault
boolean place value = or_fault (as_bool value) (WrongKind place)

-- whether n lies outside the range from low to high
abbrev pub is_outside : ℕ → ℕ → ℕ → Bool
is_outside low high n = nat_lt n low || nat_lt high n

-- a whole number of that range. A JSON number is whole where it is read as an unsigned 64-bit
-- integer
abbrev pub number : ℕ → ℕ → Place → Data → Result ℕ DefFault
number low high place value = do
  n ← or_fault (option_and_then as_u64 (as_number value)) (WrongKind place)
  if is_outside low high n then Err (OutOfRange place n) else Ok n

-- the items of an array, as a list
abbrev pub values_of : Items → List Data
values_of no_items = []
values_of (item value items) = value ∷ values_of items

-- the values of an array
abbrev pub values : Place → Data → Result (List Data) DefFault
values place value = or_fault (option_map values_of (as_array value)) (WrongKind place)

-- the values of an array whose length lies in that range
abbrev pub array : ℕ → ℕ → Place → Data → Result (List Data) DefFault
array low high place value = do
  entries ← values place value
  if is_outside low high (length entries) then Err (OutOfRange place (length entries))
      else Ok entries

-- a string that is an id
abbrev pub id_text : Place → Data → Result (List ℕ) DefFault
id_text place value = do
  text ← or_fault (as_str value) (WrongKind place)
  if is_id text then Ok text else Err (BadId place)

-- an id that is none of the earlier ones
abbrev pub new_id : List (List ℕ) → Place → Data → Result (List ℕ) DefFault
new_id earlier place value = do
  text ← id_text place value
  if list_any (bytes_eq text) earlier then Err (Repeated place) else Ok text
