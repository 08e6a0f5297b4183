use Rattle.std.proofs.Common.{arith}
use Rattle.ecoff_load.proofs.Described.{is_read, is_image}
use Rattle.ecoff_load.proofs.Exact.{is_only}
use Rattle.ecoff_load.proofs.Places.{is_placed}
use Rattle.ecoff_load.proofs.reading.read.Goals as goal

pub returns-clause-exact : goal.returns-clause-exact
returns-clause-exact c = is_read c.args.bytes.now c.read_judged.result (λ i. omega (arith, c.type_inv.bytes i)) c.read_judged.ensures

pub returns-clause-only : goal.returns-clause-only
returns-clause-only c = λ image is. is_only c.args.bytes.now c.read_judged.result image c.read_judged.ensures is

pub returns-clause-image : goal.returns-clause-image
returns-clause-image c = is_image c.args.bytes.now c.read_judged.result (is_read c.args.bytes.now c.read_judged.result (λ i. omega (arith, c.type_inv.bytes i)) c.read_judged.ensures)

pub returns-clause-place : goal.returns-clause-place
returns-clause-place c = is_placed c.args.bytes.now c.read_judged.result (is_read c.args.bytes.now c.read_judged.result (λ i. omega (arith, c.type_inv.bytes i)) c.read_judged.ensures)
