-- A program's memory while its parts are written, and its registers.
use Rattle.std.proofs.Common.{◌≡◌, ℕ, zero, suc, ◌+◌, ◌<◌, ◌≤◌, List, [], ◌∷◌, length, drop, get_or, sym, ap, subst, ◌∙◌, refl, arith, ◌≢◌}
use Rattle.std.specs.Prelude.{Bool, true, false, None, replicate, slice_index, nat_eq, if◌then◌else◌}
use Rattle.std.proofs.lemmas.Bool.Decides.{nat_tests}
use Rattle.std.proofs.lemmas.List.{get_or-set_other}
use borrow.Author.Tests.{eqb-true, eqb-false}
use Rattle.std.proofs.Math.Path.{fun_ext}
use Rattle.std.proofs.Math.ListN.{drop_of_length-le, set}
use Rattle.ecoff_load.specs.declared.image.Part.{Part}
use Rattle.ecoff_load.specs.declared.image.Image.{Image}
use Rattle.ecoff_load.specs.Start.{block}
use Rattle.pisa_step.specs.Reader.{bytes_with}
use Rattle.paged_mem.specs.Memory.{Pages, byte_of, IsReserved, IsRangeReserved, Meets}
use Rattle.sim_safe.specs.State.{State, laid, ArePartsReserved, image_memory, start_regs, start_state}
use Rattle.sim_safe.proofs.Lists.{rest_at}

-- a memory became another while parts were written, of which some are left
pub record IsLaying (was now : Pages) (parts rest : List Part) : Type 0 where
  pub bytes : laid (byte_of now) rest ≡ laid (byte_of was) parts
  pub held : (pages : Pages) → ((n : ℕ) → IsReserved now n → IsReserved pages n) → ArePartsReserved pages rest → ArePartsReserved pages parts
  pub kept : (n : ℕ) → IsReserved was n → IsReserved now n

pub laying_begins : (was : Pages) (parts : List Part) → IsLaying was was parts parts
laying_begins was parts = record { bytes = refl; held = λ pages keeps all. all; kept = λ n h. h }

laying_step : (was now next : Pages) (parts rest : List Part) (p : Part) → IsLaying was now parts (p ∷ rest) → byte_of next ≡ bytes_with (byte_of now) p.addr p.bytes → IsRangeReserved next p.addr (length p.bytes) → ((n : ℕ) → IsReserved now n → IsReserved next n) → IsLaying was next parts rest
laying_step was now next parts rest p so written held kept = record {
  bytes = ap (λ m. laid m rest) written ∙ so.bytes;
  held = λ pages keeps all. so.held pages (λ n h. keeps n (kept n h)) ((λ n (m : Meets p.addr (length p.bytes) n). keeps n (held n m)), all);
  kept = λ n h. kept n (so.kept n h);
}

pub laying_goes_on : (was now next : Pages) (parts : List Part) (k : ℕ) (p : Part) → k < length parts → p ≡ get_or parts k p → IsLaying was now parts (drop k parts) → byte_of next ≡ bytes_with (byte_of now) p.addr p.bytes → IsRangeReserved next p.addr (length p.bytes) → ((n : ℕ) → IsReserved now n → IsReserved next n) → IsLaying was next parts (drop (k + 1) parts)
laying_goes_on was now next parts k p lt is so written held kept =
    laying_step was now next parts (drop (k + 1) parts) p (subst (IsLaying was now parts) (rest_at parts k p lt is) so) written held kept

at_the_end : (was now : Pages) (parts : List Part) (k : ℕ) → length parts ≤ k → IsLaying was now parts (drop k parts) → IsLaying was now parts []
at_the_end was now parts k le so = subst (IsLaying was now parts) (drop_of_length-le parts le) so

pub laid_bytes : (was now : Pages) (parts : List Part) (k : ℕ) → length parts ≤ k → IsLaying was now parts (drop k parts) → byte_of now ≡ laid (byte_of was) parts
laid_bytes was now parts k le so = let done = at_the_end was now parts k le so in done.bytes

pub laid_held : (was now : Pages) (parts : List Part) (k : ℕ) → length parts ≤ k → IsLaying was now parts (drop k parts) → ArePartsReserved now parts
laid_held was now parts k le so = let done = at_the_end was now parts k le so in done.held now (λ n h. h) tt

-- pages of parts stay reserved
pub parts_kept : (was now : Pages) (parts : List Part) → ((n : ℕ) → IsReserved was n → IsReserved now n) → ArePartsReserved was parts → ArePartsReserved now parts
parts_kept was now [] kept all = tt
parts_kept was now (p ∷ ps) kept all = ((λ n (m : Meets p.addr (length p.bytes) n). kept n (all.0 n m)), parts_kept was now ps kept all.1)

-- ---- registers

-- registers 1 to 31 at the start
abbrev first_regs : List ℕ
first_regs = set (replicate 31 0) 28 0x7fff8000

zeros : (n r : ℕ) → slice_index (replicate n 0) r ≡ 0
zeros zero r = refl
zeros (suc n) zero = refl
zeros (suc n) (suc r) = zeros n r

regs_if : (r : ℕ) (test : Bool) → nat_eq r 28 ≡ test → slice_index first_regs r ≡ (if test then 0x7fff8000 else 0)
regs_if r true is =
    let P : ℕ → Type 0 = λ k. slice_index first_regs k ≡ 0x7fff8000 in
    subst P (sym (eqb-true r 28 is)) refl
regs_if r false is =
    let other : r ≢ 28 = eqb-false r 28 is in
    get_or-set_other (replicate 31 0) 28 r 0x7fff8000 0 other ∙ zeros 31 r

moved_test : (r : ℕ) → nat_eq (suc r) 29 ≡ nat_eq r 28
moved_test r = grind (arith, nat_tests)

each_reg : (r : ℕ) → slice_index (0 ∷ first_regs) r ≡ start_regs r
each_reg zero = refl
each_reg (suc r) =
    let P : Bool → Type 0 = λ test. slice_index first_regs r ≡ (if test then 0x7fff8000 else 0) in
    subst P (sym (moved_test r)) (regs_if r (nat_eq r 28) refl)

abbrev begun : Image → (ℕ → ℕ) → (ℕ → ℕ) → State
begun image regs bytes = record {
  pc = image.entry;
  reads = record { regs = regs; hi = 0; lo = 0; bytes = bytes; big = image.text.big };
  icnt = 0;
  used = 0;
  ended = None;
  text = image.text;
}

-- the state at a program's entry over a memory
pub state_at_entry : (image : Image) (mem : Pages) (args : List (List ℕ)) → byte_of mem ≡ bytes_with (image_memory image) 0x7fff8000 (block image.text.big args)
    → begun image (slice_index (0 ∷ first_regs)) (byte_of mem) ≡ start_state image args
unfolding start_state
state_at_entry image mem args e =
    ap (λ regs. begun image regs (byte_of mem)) (fun_ext each_reg) ∙ ap (λ bytes. begun image start_regs bytes) e
