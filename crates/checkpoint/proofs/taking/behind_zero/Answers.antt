use Rattle.std.proofs.Common.{◌≡◌, length, arith}
use Rattle.checkpoint.proofs.Registers.{behind_zero, below}
use Rattle.checkpoint.proofs.taking.behind_zero.Goals as goal

pub returns-clause-same : goal.returns-clause-same
returns-clause-same c =
    let count : length c.args.all.now ≡ 32 = omega (arith, c.told-all) in
    behind_zero c.args.all.now c.copy_from_slice.new.self count c.copy_from_slice.ensures.after

pub returns-clause-below : goal.returns-clause-below
returns-clause-below c =
    let count : length c.args.all.now ≡ 32 = omega (arith, c.told-all) in
    below c.args.all.now c.copy_from_slice.new.self (behind_zero c.args.all.now c.copy_from_slice.new.self count c.copy_from_slice.ensures.after) c.fits-all
