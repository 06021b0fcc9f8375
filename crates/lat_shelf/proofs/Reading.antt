-- One piece of a file more.
use Rattle.std.proofs.Common.{◌≡◌, ◌++◌, ◌∙◌, ℕ, List, Option, Some, None, take, drop, ap, sym, subst, append_assoc}
use Rattle.std.proofs.lemmas.List.{take-append-drop}
use Rattle.lat_shelf.specs.Shelf.{Files, TakesKnown}
use Rattle.lat_shelf.specs.Read.{ReadSoFar, TookIn}

-- the bytes that were left are those of the piece and those left now
pub file_more : (files : Option Files) (name bytes : List ℕ) (left after : Option (List ℕ))
    (buf : List ℕ) (n : ℕ) → ReadSoFar files name bytes left → TakesKnown left after buf n
    → ReadSoFar files name (bytes ++ take n buf) after
file_more None name bytes left after buf n so_far takes = tt
file_more (Some files) name bytes left None buf n so_far takes = tt
file_more (Some files) name bytes None (Some rest) buf n so_far takes = absurd cc
file_more (Some files) name bytes (Some whole) (Some rest) buf n so_far takes =
    so_far ∙ ap (λ (xs : List ℕ). Some (bytes ++ xs)) (sym (take-append-drop n whole))
    ∙ ap (λ (xs : List ℕ). Some (bytes ++ (xs ++ drop n whole))) (sym takes.front)
    ∙ ap (λ (xs : List ℕ). Some (bytes ++ (take n buf ++ xs))) (sym takes.rest)
    ∙ ap Some (sym (append_assoc bytes (take n buf) rest))

-- what took bytes in and then a piece took both in
pub took_more : (stood stands after : List ℕ → Type 0) (bytes given piece : List ℕ)
    → given ≡ piece → TookIn stood stands bytes
    → ((front : List ℕ) → stands front → after (front ++ given))
    → TookIn stood after (bytes ++ piece)
took_more stood stands after bytes given piece same took more = record {
  behind = λ front s.
      subst after (ap (λ (xs : List ℕ). front ++ bytes ++ xs) same ∙ append_assoc front bytes piece)
      (more (front ++ bytes) (took.behind front s));
}
