use Rattle.run_commands.proofs.Recordings.{record_comes, record_long, record_unloaded}
use Rattle.run_commands.proofs.recording.record.Goals as goal

pub returns-in-Ok-Whole : goal.returns-in-Ok-Whole
returns-in-Ok-Whole g c =
    record_comes g.O.Outside.view c.args.outside.now c.find_file.new.outside c.record_object.new.outside c.args.request c.in-Ok-Whole.object c.as_slice.result.now c.record_object.result c.as_slice.ensures (rw c.in-Ok-Whole.field-0-is at c.in-Ok-Whole.ensures) c.record_object.ensures

pub returns-in-Ok-TooLong : goal.returns-in-Ok-TooLong
returns-in-Ok-TooLong g c =
    record_long g.O.Outside.view c.args.outside.now c.find_file.new.outside c.refuse_long.new.outside c.args.request c.refuse_long.result (rw c.in-Ok-TooLong.field-0-is at c.in-Ok-TooLong.ensures) c.refuse_long.ensures

pub returns : goal.returns
returns g c = record_unloaded g.O.Outside.view c.args.outside.now c.find_file.new.outside c.args.request c.in-Err.fault c.in-Err.ensures
