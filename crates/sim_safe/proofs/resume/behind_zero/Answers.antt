use Rattle.std.proofs.Common.{◌≡◌, length, arith}
use Rattle.sim_safe.proofs.Resuming.{behind_zero}
use Rattle.sim_safe.proofs.resume.behind_zero.Goals as goal

pub returns : goal.returns
returns c =
    let count : length c.args.regs.now ≡ 32 = omega (arith, c.told-regs) in
    behind_zero c.args.regs.now c.copy_from_slice.new.self count c.requires c.copy_from_slice.ensures.after
