use Rattle.std.proofs.Common.{ℕ, ◌+◌, List, length, ap, arith}
use Rattle.ecoff_load.proofs.Written.{part_header_is, headers_go, next_within}
use Rattle.ecoff_load.proofs.writing.put_part_headers.Goals as goal

pub overflow_cast-at : goal.overflow_cast-at
overflow_cast-at c =
    omega (arith, next_within c.args.parts.now c.loop-part.part-index c.part-item.result c.loop-part-test.true c.part-item.is, ap length c.as_slice.ensures)

pub overflow_add-at : goal.overflow_add-at
overflow_add-at c =
    omega (arith, next_within c.args.parts.now c.loop-part.part-index c.part-item.result c.loop-part-test.true c.part-item.is, ap length c.as_slice.ensures, c.loop-part.invariant.place)

pub loop-part-preserved : goal.loop-part-preserved
loop-part-preserved c =
    let header = part_header_is c.args.big c.loop-part.at c.part-item.result c.name.result c.pointer.result c.flags.result c.loop-part.bytes.items c.put_section_header.new.bytes.items c.name.ensures c.pointer.ensures c.flags.ensures c.in_ok-put_section_header.ensures in
    headers_go c.args.big c.args.at c.args.parts.now c.loop-part.part-index c.loop-part.at _ c.part-item.result _ _ _ c.loop-part-test.true c.part-item.is (ap (λ (l : List ℕ). c.loop-part.at + length l) c.as_slice.ensures) header c.loop-part.invariant
