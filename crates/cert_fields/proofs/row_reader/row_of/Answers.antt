use Rattle.std.proofs.Common.{[], ap, sym, List, Bool}
use Rattle.std.proofs.lemmas.List.{set-get_or}
use Rattle.cert_fields.proofs.row_reader.row_of.Goals as goal

pub returns-then-bytes-size-clause-deck : goal.returns-then-bytes-size-clause-deck
returns-then-bytes-size-clause-deck c = ap (λ (bs : List (List Bool)). record { targets = c.args.deck.now.targets; ballots = bs }) (sym (set-get_or c.args.deck.now.ballots c.args.j []))
