-- Files that are put behind others.
use Rattle.std.proofs.Common.{◌≡◌, ◌≤◌, ◌<◌, ◌+◌, ◌++◌, ℕ, List, [], ◌∷◌, Option, length, take, refl, ap, sym, ◌∙◌, subst, arith}
use Rattle.std.proofs.lemmas.List.{get_or-append-add, length-append}
use Rattle.std.proofs.Math.Seq.{take-append-add, take-length}
use Rattle.std.specs.Prelude.{option_map}
use Rattle.std.specs.FinMap.{insert}
use Rattle.lat_shelf.specs.Shelf.{Files, SameBut}
use Rattle.lat_top.specs.Writing.{FailedAt, StoppedAt, files_after, name_at}

-- some files are put, and then others
pub files_after-join : (first later : List (List ℕ × List ℕ)) (files : Option Files)
    → files_after (first ++ later) files ≡ files_after later (files_after first files)
files_after-join [] later files = refl
files_after-join (put ∷ puts) later files =
    files_after-join puts later (option_map (λ fs. insert fs put.0 put.1) files)

-- the files after the first of several lists and a front of the next
front_files : (first later : List (List ℕ × List ℕ)) (i : ℕ) (before middle : Option Files)
    → middle ≡ files_after first before
    → files_after (take i later) middle
    ≡ files_after (take (length first + i) (first ++ later)) before
front_files first later i before middle is =
    ap (files_after (take i later)) is
    ∙ sym (files_after-join first (take i later) before)
    ∙ ap (λ (puts : List (List ℕ × List ℕ)). files_after puts before) (sym (take-append-add first later i))

within_both : (first later : List (List ℕ × List ℕ)) (i : ℕ) → i < length later
    → length first + i < length (first ++ later)
within_both first later i lt = subst (λ (n : ℕ). length first + i < n)
    (sym (length-append first later)) (omega arith)

within_all : (first later : List (List ℕ × List ℕ)) (i : ℕ) → i ≤ length later
    → length first + i ≤ length (first ++ later)
within_all first later i le = subst (λ (n : ℕ). length first + i ≤ n)
    (sym (length-append first later)) (omega arith)

-- a put of the later files failed
pub failed_later : (first later : List (List ℕ × List ℕ)) (before middle after : Option Files)
    → middle ≡ files_after first before → FailedAt later middle after
    → FailedAt (first ++ later) before after
failed_later first later before middle after is h = record {
  i = length first + h.i;
  within = within_both first later h.i h.within;
  others = subst (λ (fs : Option Files). SameBut (name_at (first ++ later) (length first + h.i)) fs after)
      (front_files first later h.i before middle is)
      (subst (λ (put : List ℕ × List ℕ). SameBut put.0 (files_after (take h.i later) middle) after)
      (sym (get_or-append-add first later h.i ([], []))) h.others);
}

-- some of the later files were put
pub stopped_later : (first later : List (List ℕ × List ℕ)) (before middle after : Option Files)
    → middle ≡ files_after first before → StoppedAt later middle after
    → StoppedAt (first ++ later) before after
stopped_later first later before middle after is h = record {
  i = length first + h.i;
  within = within_all first later h.i h.within;
  files = h.files ∙ front_files first later h.i before middle is;
}

-- all files were put, and no other
pub stopped_whole : (puts : List (List ℕ × List ℕ)) (before after : Option Files)
    → after ≡ files_after puts before → StoppedAt puts before after
stopped_whole puts before after is = record {
  i = length puts;
  within = omega arith;
  files = is ∙ ap (λ (ps : List (List ℕ × List ℕ)). files_after ps before) (sym (take-length puts));
}
