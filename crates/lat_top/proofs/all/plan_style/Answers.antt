use Rattle.std.proofs.Common.{List, sym, subst}
use Rattle.std.proofs.lemmas.Result.{on_ok_weaker}
use Rattle.lat_top.specs.declared.put.Put.{Put}
use Rattle.lat_top.specs.Asked.{kept_all}
use Rattle.lat_top.specs.Counted.{Adds}
use Rattle.lat_top.proofs.Counted.{breaks_at, holds_more, stops_at, stops_before}
use Rattle.lat_top.proofs.all.plan_style.Goals as goal

pub returns-in-Ok-clause-ok : goal.returns-in-Ok-clause-ok
returns-in-Ok-clause-ok g c = λ begin holds.
    let all = kept_all c.args.asked.now in
    let definition = c.args.definition.now in
    let before = c.args.county.now in
    let after = c.planned_style.new.county in
    let adds = subst (λ (puts : List Put). Adds all definition c.args.i before after puts)
    (sym c.deref.ensures.value) c.in-Ok.ensures in
    on_ok_weaker c.put_all.result
    (λ put. holds_more all definition c.args.i before after c.deref.result.now begin
    (g.H.Shelf.files c.args.shelf.now) (g.H.Shelf.files c.put_all.new.shelf)
    c.requires.within holds adds put)
    c.put_all.ensures.ok

pub returns-in-Ok-clause-failed : goal.returns-in-Ok-clause-failed
returns-in-Ok-clause-failed g c = λ begin holds failed.
    let all = kept_all c.args.asked.now in
    let definition = c.args.definition.now in
    let before = c.args.county.now in
    let after = c.planned_style.new.county in
    let adds = subst (λ (puts : List Put). Adds all definition c.args.i before after puts)
    (sym c.deref.ensures.value) c.in-Ok.ensures in
    breaks_at all definition c.args.i before after c.deref.result.now begin
    (g.H.Shelf.files c.args.shelf.now) (g.H.Shelf.files c.put_all.new.shelf)
    c.requires.within holds adds (c.put_all.ensures.failed failed)

pub returns-in-Ok-clause-memory : goal.returns-in-Ok-clause-memory
returns-in-Ok-clause-memory g c = λ begin holds memory.
    let all = kept_all c.args.asked.now in
    let definition = c.args.definition.now in
    let before = c.args.county.now in
    let after = c.planned_style.new.county in
    let adds = subst (λ (puts : List Put). Adds all definition c.args.i before after puts)
    (sym c.deref.ensures.value) c.in-Ok.ensures in
    stops_at all definition c.args.i before after c.deref.result.now begin
    (g.H.Shelf.files c.args.shelf.now) (g.H.Shelf.files c.put_all.new.shelf)
    c.requires.within holds adds (c.put_all.ensures.memory memory)

pub returns-in-Err-clause-memory : goal.returns-in-Err-clause-memory
returns-in-Err-clause-memory g c = λ begin holds memory.
    stops_before (kept_all c.args.asked.now) c.args.definition.now c.args.i c.args.county.now
    begin (g.H.Shelf.files c.args.shelf.now) holds
