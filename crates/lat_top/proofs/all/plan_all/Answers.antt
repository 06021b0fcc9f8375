use Rattle.std.proofs.Common.{Err, length, refl, ap}
use Rattle.lat_top.specs.Asked.{kept_all}
use Rattle.lat_top.specs.Outside.{outside}
use Rattle.lat_top.specs.Written.{texts_of}
use Rattle.lat_top.proofs.AllEnds.{all_broke, all_stopped, all_wrote}
use Rattle.lat_top.proofs.Counted.{stops_before}
use Rattle.lat_top.proofs.all.plan_all.Goals as goal

pub returns-in-Err-Failed : goal.returns-in-Err-Failed
returns-in-Err-Failed g c =
    let seen = outside g.H.Shelf.files g.H.Shelf.faults g.K.Sink.given g.K.Sink.faults in
    let out = c.args.out.now in
    all_broke (kept_all c.args.asked.now) c.in-Ok.definition (seen c.args.shelf.now out)
    (seen c.read_definition_file.new.shelf out) (seen c.plan_styles.new.shelf out)
    c.in-Ok.ensures (c.in-Err-Failed.ensures.failed (ap Err c.in-Err-Failed.field-0-is)) refl
    (c.in-Err-Failed.ensures.rose (ap Err c.in-Err-Failed.field-0-is))

pub returns-in-Err-Memory : goal.returns-in-Err-Memory
returns-in-Err-Memory g c =
    let seen = outside g.H.Shelf.files g.H.Shelf.faults g.K.Sink.given g.K.Sink.faults in
    let out = c.args.out.now in
    all_stopped (kept_all c.args.asked.now) c.in-Ok.definition (seen c.args.shelf.now out)
    (seen c.read_definition_file.new.shelf out) (seen c.plan_styles.new.shelf out)
    c.in-Ok.ensures (c.in-Err-Memory.ensures.memory (ap Err c.in-Err-Memory.field-0-is)) refl

pub returns-in-Ok-last_output : goal.returns-in-Ok-last_output
returns-in-Ok-last_output g c =
    let seen = outside g.H.Shelf.files g.H.Shelf.faults g.K.Sink.given g.K.Sink.faults in
    let out = c.args.out.now in
    let output = c.in-Ok-last_output.output in
    all_wrote (kept_all c.args.asked.now) c.in-Ok.definition (seen c.args.shelf.now out)
    (seen c.read_definition_file.new.shelf out) (seen c.plan_styles.new.shelf out)
    (seen c.write_output.new.shelf c.write_output.new.out) c.in-Ok-plan_styles.county
    output.status c.write_output.result (texts_of output) c.in-Ok.ensures
    c.in-Ok-plan_styles.ensures.ok refl c.in-Ok-plan_styles.ensures.faults refl
    c.in-Ok-last_output.ensures.status c.in-Ok-last_output.ensures.puts
    c.in-Ok-last_output.ensures.summary c.write_output.ensures

pub returns : goal.returns
returns g c =
    let seen = outside g.H.Shelf.files g.H.Shelf.faults g.K.Sink.given g.K.Sink.faults in
    let out = c.args.out.now in
    let all = kept_all c.args.asked.now in
    let mid = seen c.read_definition_file.new.shelf out in
    let later = seen c.plan_styles.new.shelf out in
    all_stopped all c.in-Ok.definition (seen c.args.shelf.now out) mid later c.in-Ok.ensures
    (stops_before all c.in-Ok.definition (length c.in-Ok.definition.styles)
    c.in-Ok-plan_styles.county mid.files later.files c.in-Ok-plan_styles.ensures.ok) refl
