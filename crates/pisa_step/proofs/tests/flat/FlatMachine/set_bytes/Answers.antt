use Rattle.std.proofs.Common.{◌≡◌, ◌-◌, ◌≤◌, ℕ, Bool, List, nat_lt, slice_index, if◌then◌else◌, ap, arith}
use Rattle.std.proofs.Math.Path.{fun_ext}
use Rattle.std.proofs.lemmas.Bool.Decides.{nat_tests}
use Rattle.pisa_step.specs.Reader.{Reader, bytes_with}
use Rattle.pisa_step.proofs.tests.flat.FlatMachine.set_bytes.Goals as goal

abbrev reader : (ℕ → ℕ) → ℕ → ℕ → (ℕ → ℕ) → Bool → Reader
reader regs hi lo bytes big = record { regs = regs; hi = hi; lo = lo; bytes = bytes; big = big }

-- what is read is the same where each byte is
same : (regs : ℕ → ℕ) (hi lo : ℕ) (f g : ℕ → ℕ) (big : Bool) → ((a : ℕ) → f a ≡ g a) → reader regs hi lo f big ≡ reader regs hi lo g big
same regs hi lo f g big each = ap (λ bytes. reader regs hi lo bytes big) (fun_ext each)

moved : (old new content : List ℕ) (addr : ℕ) → 268435456 ≤ addr → ((k : ℕ) → slice_index new k ≡ bytes_with (λ j. slice_index old j) (addr - 268435456) content k) → (a : ℕ) → (if nat_lt a 268435456 then 0 else slice_index new (a - 268435456)) ≡ bytes_with (λ b. if nat_lt b 268435456 then 0 else slice_index old (b - 268435456)) addr content a
moved old new content addr above each a = let at = each (a - 268435456) in grind (arith, nat_tests, at)

pub returns-clause-reads : goal.returns-clause-reads
returns-clause-reads c = same _ _ _ _ _ _ (moved _ _ _ c.args.addr c.requires.room.0 c.paste.ensures)
