use Rattle.std.proofs.Common.{◌≡◌, ◌++◌, ℕ, List, [], ◌∷◌, ap, ◌∙◌}
use Rattle.std.proofs.lemmas.List.{map-append}
use Rattle.cert_format.specs.Files.{open_text}
use Rattle.lat_top.specs.PlanFiles.{open_name}
use Rattle.lat_top.specs.declared.put.Put.{Put}
use Rattle.lat_top.specs.Writing.{entry, entries}
use Rattle.lat_top.proofs.plan_files.push_open.Goals as goal

pub returns-clause-added : goal.returns-clause-added
returns-clause-added c =
    let name = open_name c.args.prefix.now in
    let same : entry c.in_ok-put.put ≡ (name, open_text c.args.file.now) = c.in_ok-put.ensures
    ∙ ap (λ (bytes : List ℕ). (name, bytes)) c.in_ok-bytes.ensures.text in
    ap (λ (puts : List Put). entries puts) c.in_ok-push.ensures.items
    ∙ map-append entry c.args.puts.now.items (c.in_ok-put.put ∷ [])
    ∙ ap (λ (e : List ℕ × List ℕ). entries c.args.puts.now.items ++ e ∷ []) same
