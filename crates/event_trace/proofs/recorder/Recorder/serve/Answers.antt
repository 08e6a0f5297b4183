use Rattle.std.proofs.Common.{slice_index, ◌≤◌, Ok, sym, subst}
use Rattle.paged_mem.specs.Memory.{byte_of}
use Rattle.event_trace.specs.Recorder.{RecorderState, next_count}
use Rattle.event_trace.proofs.Recording.{rising_by, served_is}
use Rattle.event_trace.proofs.SetBack.{adds_false, refused_is_before, refused_by_limits}
use Rattle.event_trace.proofs.recorder.Recorder.serve.Goals as goal

pub returns-in-Ok-true-clause-rising : goal.returns-in-Ok-true-clause-rising
returns-in-Ok-true-clause-rising c =
    let P : RecorderState → Type 0 = λ v. next_count 0 v.trace.records ≤ c.args.icnt in
    rising_by c.in-Ok-serve.call _ c.add.new.self (Ok c.in-Ok-true.field-0) c.args.icnt
    (served_is c.self.inside.world c.serve.new.self c.args.icnt c.args.pc (slice_index c.args.regs.now) (byte_of c.args.mem.now) c.in-Ok-serve.call c.in-Ok-serve.ensures.ok)
    (subst P (sym c.self.view_is) c.requires.rising) c.in-Ok-true.ensures.adds

pub returns-in-Ok-false-clause-served : goal.returns-in-Ok-false-clause-served
returns-in-Ok-false-clause-served c =
    let old = c.args.self.now in
    let w = c.self.inside.world in
    let v = c.serve.new.self in
    let t = c.self.inside.trace in
    let regs = slice_index c.args.regs.now in
    let mem = byte_of c.args.mem.now in
    let adds = adds_false c.in-Ok-serve.call _ c.add.new.self c.in-Ok-false.field-0 c.in-Ok-false.field-0-test c.in-Ok-false.ensures.adds in (
      refused_is_before old c.add.new.self w v c.self-2.inside.world c.set_back.new.self t c.self-2.inside.trace c.in-Ok.before c.args.icnt c.args.pc regs mem c.in-Ok-serve.call
          c.self.view_is c.in-Ok.ensures c.in-Ok-serve.ensures.ok c.self-2.view_is adds.0 c.set_back.ensures,
      refused_by_limits old w v t c.args.icnt c.args.pc regs mem c.in-Ok-serve.call c.self.view_is c.in-Ok-serve.ensures.ok adds.1,
    )

pub returns-in-Err-add-clause-served : goal.returns-in-Err-add-clause-served
returns-in-Err-add-clause-served c =
    refused_is_before c.args.self.now c.add.new.self c.self.inside.world c.serve.new.self c.self-2.inside.world c.set_back-in-Err-add.new.self c.self.inside.trace c.self-2.inside.trace c.in-Ok.before
    c.args.icnt c.args.pc (slice_index c.args.regs.now) (byte_of c.args.mem.now) c.in-Ok-serve.call
    c.self.view_is c.in-Ok.ensures c.in-Ok-serve.ensures.ok c.self-2.view_is c.in-Err-add.ensures.adds c.set_back-in-Err-add.ensures
