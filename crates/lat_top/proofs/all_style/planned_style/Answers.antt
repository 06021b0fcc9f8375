use Rattle.std.proofs.Common.{◌++◌, ℕ, List, ap, ◌∙◌, subst}
use Rattle.lat_top.specs.declared.put.Put.{Put}
use Rattle.lat_top.specs.County.{found}
use Rattle.lat_top.specs.Manifest.{manifest}
use Rattle.lat_top.specs.Said.{SaysMore}
use Rattle.lat_top.specs.Writing.{entries}
use Rattle.lat_top.proofs.Says.{says_listed}
use Rattle.lat_top.proofs.all_style.planned_style.Goals as goal

pub returns : goal.returns
returns c =
    let max = c.args.asked.now.max in
    let before = c.args.county.now in
    let mid = c.add_answer.new.self in
    let after = c.add_files.new.self in
    let style = c.in_ok-style.style in
    let answer = c.in_ok-answer.answer in
    let listed = c.in_ok-add_files.ensures in
    let says = subst (λ (id : List ℕ). SaysMore max (found id answer) before mid)
    c.style.ensures c.in_ok-add_answer.ensures.says in
    record {
      next = record { style = style; answer = answer };
      style = c.in_ok-style.ensures.style;
      planned = record {
        answered = record {
          is_answer = c.in_ok-answer.ensures.answer;
          searched = c.in_ok-answer.ensures.searched;
          decided = c.in_ok-answer.ensures.ample;
        };
        puts_hold = c.in_ok-puts.ensures.hold;
      };
      files = c.in_ok-puts.ensures.puts;
      says = says_listed max (found style.names.style answer) before mid after says
          listed.lines listed.counts listed.status;
      manifest = listed.manifest
          ∙ ap (λ (puts : List Put). mid.manifest.items ++ manifest (entries puts)) c.deref.ensures.value
          ∙ ap (λ (lines : List ℕ). lines ++ manifest (entries c.in_ok-puts.puts.items)) c.in_ok-add_answer.ensures.manifest;
    }
