-- The files of a plan.
use Rattle.std.specs.Prelude.{◌++◌, ℕ, List, [], ◌∷◌, codes, Option, Some, None}
use Rattle.cert_format.specs.Files.{cert_text, open_text}
use Rattle.cert_types.specs.declared.proved.Proved.{Proved}
use Rattle.deck_text.specs.DeckText.{deck_text}
use Rattle.deck_text.specs.TotalsText.{totals_text}
use Rattle.planner.specs.declared.answer.Answer.{Answer}
use Rattle.planner.specs.declared.answer.Answer.TheVariants.{Least, NoneWithin, Spent}
use Rattle.lat_top.specs.declared.asked_style.AskedStyle.{AskedStyle}
use Rattle.lat_top.specs.PlanAnswer.{answer_deck, answer_cert, kept_open}

abbrev pub deck_name : List ℕ → List ℕ
deck_name prefix = prefix ++ codes ".deck.csv"

abbrev pub totals_name : List ℕ → List ℕ
totals_name prefix = prefix ++ codes ".totals.csv"

abbrev pub cert_name : List ℕ → List ℕ
cert_name prefix = prefix ++ codes ".cert"

abbrev pub open_name : List ℕ → List ℕ
open_name prefix = prefix ++ codes ".open"

-- the files of a deck, if there is one: its ballots, and its totals
abbrev pub deck_files : List ℕ → AskedStyle → Option Proved → List (List ℕ × List ℕ)
deck_files prefix style None = []
deck_files prefix style (Some proved) =
    (deck_name prefix, deck_text style.names.contests proved.deck.ballots)
    ∷ (totals_name prefix, totals_text style.shape style.names.contests proved.deck.ballots) ∷ []

-- the open file of an answer that leaves sizes open
abbrev pub open_files : List ℕ → AskedStyle → ℕ → Answer → List (List ℕ × List ℕ)
open_files prefix style max (Least proved lower) = []
open_files prefix style max (NoneWithin lower) = []
open_files prefix style max (Spent kept) =
    (open_name prefix, open_text (kept_open max style kept)) ∷ []

-- the files of an answer: those of its deck, its certificate, and its open file
abbrev pub plan_files : List ℕ → AskedStyle → ℕ → Answer → List (List ℕ × List ℕ)
plan_files prefix style max answer = deck_files prefix style (answer_deck answer)
    ++ ((cert_name prefix, cert_text (answer_cert max style answer))
    ∷ open_files prefix style max answer)
