-- The job of `verify`: what an attack on the deck of a file comes to.
use Rattle.std.specs.Prelude.{◌≡◌, ◌≤◌, ◌*◌, ◌++◌, ℕ, List, [], ◌∷◌, length, codes}
use Rattle.std.specs.Prelude.{None, Result, Ok, Err}
use Rattle.cert_format.specs.Files.{EvadeValue, evade_of, evade_text, IsEvade}
use Rattle.evade_space.specs.declared.skipped.Skipped.{Skipped}
use Rattle.tree_core.specs.declared.node.Node.{Node}
use Rattle.lat_ballots.specs.Deck.{Ballots}
use Rattle.adversary.specs.declared.attacking.Attacked.{Attacked}
use Rattle.adversary.specs.declared.attacking.Attacked.TheVariants as attacked
use Rattle.adversary.specs.Attack.{IsAttack, IsEnded}
use Rattle.evade_space.specs.Trees.{factorial}
use Rattle.lat_base.specs.Shape.{target_count}
use Rattle.deck_text.specs.declared.fault.CsvFault.{CsvFault}
use Rattle.deck_text.specs.Rows.{file_records}
use Rattle.deck_text.specs.DeckRead.{deck_read}
use Rattle.deck_text.specs.VerifyText.{verify_text}
use Rattle.lat_top.specs.declared.asked_style.AskedStyle.{AskedStyle}
use Rattle.lat_top.specs.declared.attackable.Attackable.{Attackable}
use Rattle.lat_top.specs.declared.refusal.Refusal.{Refusal}
use Rattle.lat_top.specs.declared.refusal.Refusal.TheVariants as r
use Rattle.lat_top.specs.declared.status.Status.{Status}
use Rattle.lat_top.specs.declared.status.Status.TheVariants as s
use Rattle.lat_top.specs.Words.{Verify}
use Rattle.lat_top.specs.Script.{Script, Give, ◌>>=◌, read, judge}
use Rattle.lat_top.specs.Job.{Job, job}
use Rattle.lat_top.specs.Limits.{file_limit}
use Rattle.lat_top.specs.AskedStyle.{style_in_file}
use Rattle.lat_top.specs.Written.{Texts}

-- a table's deck, or its first fault
abbrev pub or_csv : Result Ballots CsvFault → Result Ballots Refusal
or_csv (Ok deck) = Ok deck
or_csv (Err fault) = Err (r.Csv fault)

-- the deck that a file's bytes are in a style, or the first fault
abbrev pub table_deck : AskedStyle → List ℕ → Result Ballots Refusal
table_deck style bytes = or_csv (deck_read style.shape style.names.contests (file_records bytes))

-- the deck of a file in a style; the first fault of the file is refused
abbrev pub deck_in_file : AskedStyle → List ℕ → Script Ballots
deck_in_file style name = do
  table ← read name file_limit
  judge (table_deck style table)

-- the definition is read and the style found, and then the deck's file is read
abbrev pub attackable : List ℕ → List ℕ → List ℕ → Script Attackable
attackable definition id name = do
  style ← style_in_file definition id
  deck ← deck_in_file style name
  Give (record { style = style; deck = deck })

-- how an attack on a deck of n ballots ends the call
abbrev pub attack_status : ℕ → Attacked → Status
attack_status n (attacked.Evaded evader) = s.Evaded
attack_status n (attacked.Robust tree) = s.Done
attack_status n (attacked.Spent tree) = s.Spent n None

-- an attack that was spent, as an evade file
abbrev pub attacked_file : Attackable → List (Node ℕ Skipped) → EvadeValue
attacked_file inputs tree = let style = inputs.style in
    evade_of style.names style.shape style.rules inputs.deck tree

-- the file of an attack that was spent
abbrev pub attack_files : List ℕ → Attackable → Attacked → List (List ℕ × List ℕ)
attack_files name inputs (attacked.Evaded evader) = []
attack_files name inputs (attacked.Robust tree) = []
attack_files name inputs (attacked.Spent tree) =
    (name ++ codes ".open", evade_text (attacked_file inputs tree)) ∷ []

-- the bytes of that file spell one
abbrev pub AttackSpelled : Attackable → Attacked → Type 0
AttackSpelled inputs (attacked.Evaded evader) = Unit {0}
AttackSpelled inputs (attacked.Robust tree) = Unit {0}
AttackSpelled inputs (attacked.Spent tree) = IsEvade (attacked_file inputs tree)

-- the status, the file and the summary of an attack on the deck
pub record IsVerify (verify : Verify) (inputs : Attackable) (status : Status) (texts : Texts) :
    Type 0 where
  pub attack : Attacked
  pub shows : IsAttack inputs.style.shape inputs.deck.ballots verify.budget attack
  -- an ample budget isn't spent
  pub ends : 3 * factorial (target_count inputs.style.shape) ≤ verify.budget → IsEnded attack
  pub status_is : status ≡ attack_status (length inputs.deck.ballots) attack
  pub puts : texts.puts ≡ attack_files verify.deck inputs attack
  pub spelled : AttackSpelled inputs attack
  pub summary : let style = inputs.style in texts.summary
      ≡ verify_text style.shape style.names style.rules inputs.deck.ballots attack

abbrev pub verify_job : Verify → Job
verify_job verify = job Attackable
    (attackable verify.definition verify.style verify.deck) (IsVerify verify)
