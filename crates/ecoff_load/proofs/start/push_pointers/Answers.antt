use Rattle.std.proofs.Common.{map, arith}
use Rattle.std.specs.Prelude.{string_bytes}
use Rattle.ecoff_load.proofs.Block.{text_at, ended_strings-more, ended_strings-within, pointers-more}
use Rattle.ecoff_load.proofs.start.push_pointers.Goals as goal

pub overflow_cast-pointer-in-loop-arg : goal.overflow_cast-pointer-in-loop-arg
overflow_cast-pointer-in-loop-arg c =
    let text = text_at c.args.args.now c.loop-arg.arg-index c.arg-item.result c.loop-arg-test.true c.arg-item.is in
    omega (arith, ended_strings-within (map string_bytes c.args.args.now) c.loop-arg.arg-index (string_bytes c.arg-item.result) text.0 text.1, c.len.ensures)

pub overflow_add-pointer-in-loop-arg : goal.overflow_add-pointer-in-loop-arg
overflow_add-pointer-in-loop-arg c =
    let text = text_at c.args.args.now c.loop-arg.arg-index c.arg-item.result c.loop-arg-test.true c.arg-item.is in
    omega (arith, ended_strings-within (map string_bytes c.args.args.now) c.loop-arg.arg-index (string_bytes c.arg-item.result) text.0 text.1, c.len.ensures)

pub overflow_add-pointer-in-loop-arg-2 : goal.overflow_add-pointer-in-loop-arg-2
overflow_add-pointer-in-loop-arg-2 c =
    let text = text_at c.args.args.now c.loop-arg.arg-index c.arg-item.result c.loop-arg-test.true c.arg-item.is in
    omega (arith, ended_strings-within (map string_bytes c.args.args.now) c.loop-arg.arg-index (string_bytes c.arg-item.result) text.0 text.1, c.len.ensures, c.loop-arg.invariant.next)

pub loop-arg-preserved : goal.loop-arg-preserved
loop-arg-preserved c =
    let text = text_at c.args.args.now c.loop-arg.arg-index c.arg-item.result c.loop-arg-test.true c.arg-item.is in
    record {
      written = pointers-more c.args.big (map string_bytes c.args.args.now) _ _ _ c.loop-arg.arg-index _ c.loop-arg.invariant.written c.loop-arg.invariant.next c.in_ok-push_word.ensures;
      next = omega (arith, ended_strings-more (map string_bytes c.args.args.now) c.loop-arg.arg-index (string_bytes c.arg-item.result) text.0 text.1, c.len.ensures, c.loop-arg.invariant.next);
    }
