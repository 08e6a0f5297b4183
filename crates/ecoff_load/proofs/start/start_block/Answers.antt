use Rattle.std.proofs.Common.{map, arith}
use Rattle.std.specs.Prelude.{string_bytes}
use Rattle.ecoff_load.proofs.Block.{length-block}
use Rattle.ecoff_load.proofs.start.start_block.Goals as goal

pub returns-then-length-gt-MOST-clause-fault : goal.returns-then-length-gt-MOST-clause-fault
returns-then-length-gt-MOST-clause-fault c =
    let size = length-block c.args.big (map string_bytes c.args.args.now) in
    (omega (arith, c.block_length-length.ensures, size), rw size c.block_length-length.ensures)

pub returns-in-Ok-clause-fits : goal.returns-in-Ok-clause-fits
returns-in-Ok-clause-fits c =
    let size = length-block c.args.big (map string_bytes c.args.args.now) in
    omega (arith, c.block_length-length.ensures, size)

pub returns-in-Err-clause-fault : goal.returns-in-Err-clause-fault
returns-in-Err-clause-fault c =
    let size = length-block c.args.big (map string_bytes c.args.args.now) in
    omega (arith, c.block_length-length.ensures, size)
