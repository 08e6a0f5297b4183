use Rattle.std.proofs.Common.{ap}
use Rattle.std.specs.Prelude.{option_copied}
use Rattle.run_commands.proofs.Recordings.{object_comes, object_long, object_unloaded}
use Rattle.run_commands.proofs.recording.record_object.Goals as goal

pub returns-in-Ok-Whole : goal.returns-in-Ok-Whole
returns-in-Ok-Whole g c =
    object_comes g.O.Outside.view c.args.outside.now c.find_file.new.outside c.record_given-in-Ok-Whole.new.outside c.args.request.now c.args.object.now c.in-Some.name.now c.in-Ok-Whole.input c.into_vec.result.items c.record_given-in-Ok-Whole.result
    (ap (λ t. option_copied t) c.in-Some.is) c.into_vec.ensures (rw c.in-Ok-Whole.field-0-is at c.in-Ok-Whole.ensures) c.record_given-in-Ok-Whole.ensures

pub returns-in-Ok-TooLong : goal.returns-in-Ok-TooLong
returns-in-Ok-TooLong g c =
    object_long g.O.Outside.view c.args.outside.now c.find_file.new.outside c.refuse_long.new.outside c.args.request.now c.args.object.now c.in-Some.name.now c.refuse_long.result
    (ap (λ t. option_copied t) c.in-Some.is) (rw c.in-Ok-TooLong.field-0-is at c.in-Ok-TooLong.ensures) c.refuse_long.ensures

pub returns-in-Err : goal.returns-in-Err
returns-in-Err g c =
    object_unloaded g.O.Outside.view c.args.outside.now c.find_file.new.outside c.args.request.now c.args.object.now c.in-Some.name.now c.in-Err.fault (ap (λ t. option_copied t) c.in-Some.is) c.in-Err.ensures
