use Rattle.std.proofs.Common.{ap, arith, inr, refl, length}
use Rattle.ecoff_load.specs.declared.image.Text.{Text}
use Rattle.checkpoint.proofs.taking.head.Goals as goal

pub returns-clause-fits : goal.returns-clause-fits
returns-clause-fits c = record {
  version = inr refl;
  pc = c.pc.type_inv;
  count = c.registers-regs.ensures.count;
  regs = c.registers-regs.ensures.below;
  hi = c.hi.type_inv;
  lo = c.lo.type_inv;
  used = c.used.type_inv;
  code = c.exit_code.ensures.fits;
  text_start = c.start.type_inv;
  text_length = omega (arith, ap length c.as_slice.ensures, ap (λ (t : Text). length t.bytes) c.text-text.ensures.same, c.text-text.ensures.fits.greatest_size);
}
