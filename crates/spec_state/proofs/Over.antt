-- What is read where nothing was written, and walks over writes from the newest on.
use Rattle.std.proofs.Common.{◌≡◌, ◌+◌, ◌-◌, ◌<◌, ◌≤◌, ℕ, zero, suc, List, [], ◌∷◌, ◌++◌, Option, None, Some, length, reverse, take, replicate, slice_index_or, unwrap_or, Bool, refl, ap, sym, ◌∙◌, subst, arith}
use Rattle.std.proofs.Math.Path.{fun_ext}
use Rattle.std.proofs.lemmas.List.{reverse-append, take_more}
use Rattle.pisa_step.specs.declared.changes.Changes.{Changes}
use Rattle.pisa_step.specs.declared.changes.MemWrite.{MemWrite}
use Rattle.arrayvec.specs.ArrayVec.{ArrayVec}
use Rattle.pisa_step.specs.Reader.{Reader, bytes_with, with_hi, with_lo, with_regs}
use Rattle.pisa_step.specs.Effect.{changed, with_write}
use Rattle.spec_state.specs.Overlay.{Overlaid, Writes, bytes_over, regs_over, seen}

abbrev nones : ℕ → List (Option ℕ)
nones n = replicate n None

none_at : (n q : ℕ) → slice_index_or (nones n) q None ≡ None
none_at zero q = refl
none_at (suc n) zero = refl
none_at (suc n) (suc q) = none_at n q

-- registers of which none was written
regs_stay : (regs : ℕ → ℕ) → regs_over regs (nones 31) ≡ regs
regs_stay regs = fun_ext (λ q. ap (λ (o : Option ℕ). unwrap_or o (regs q)) (none_at 32 q))

-- under an overlay on which nothing is written the machine is read
pub seen_bare : (s : Reader) (size applied : ℕ) (writes : List MemWrite) → writes ≡ [] → seen s (record { size = size; applied = applied; writes = reverse writes; regs = replicate 31 None; hi = None; lo = None }) ≡ s
seen_bare s size applied writes none =
    ap (λ (ws : List MemWrite). seen s (record { size = size; applied = applied; writes = reverse ws; regs = replicate 31 None; hi = None; lo = None })) none
    ∙ ap (λ (regs : ℕ → ℕ). record s { regs = regs }) (regs_stay s.regs)

-- the newest of the first writes
pub newest : (writes : List MemWrite) (k : ℕ) (w : MemWrite) → 0 < k → k ≤ length writes → reverse (take k writes) ≡ slice_index_or writes (k - 1) w ∷ reverse (take (k - 1) writes)
newest writes k w some within =
    let less : k - 1 < length writes = omega arith in
    let same : k ≡ (k - 1) + 1 = omega arith in
    ap (λ n. reverse (take n writes)) same
    ∙ (ap reverse (take_more writes (k - 1) w less) ∙ reverse-append (take (k - 1) writes) (slice_index_or writes (k - 1) w ∷ []))

-- a byte of the newest of the first writes, where that one writes it, and else of those before it
pub newest_byte : (writes : List MemWrite) (k a : ℕ) (w : MemWrite) (found : Option ℕ) → 0 < k → k ≤ length writes → w ≡ slice_index_or writes (k - 1) w → ((bytes : ℕ → ℕ) → bytes_with bytes w.addr w.bytes.items a ≡ unwrap_or found (bytes a)) → (bytes : ℕ → ℕ) → bytes_over bytes (reverse (take k writes)) a ≡ unwrap_or found (bytes_over bytes (reverse (take (k - 1) writes)) a)
newest_byte writes k a w found some within is at bytes =
    ap (λ (ws : List MemWrite). bytes_over bytes ws a) (newest writes k w some within)
    ∙ (ap (λ (x : MemWrite). bytes_with (bytes_over bytes (reverse (take (k - 1) writes))) x.addr x.bytes.items a) (sym is)
    ∙ at (bytes_over bytes (reverse (take (k - 1) writes))))

-- the changes of an instruction are its write, then HI and LO, then registers
in_order : (s : Reader) (next : ℕ) (taken : Bool) (regs : ArrayVec (ℕ × ℕ)) (hi lo : Option ℕ) (mem : Option MemWrite) (access : Option ℕ) → with_regs (with_lo (with_hi (with_write s mem) (unwrap_or hi (with_write s mem).hi)) (unwrap_or lo (with_write s mem).lo)) regs.items ≡ changed s (record { next = next; taken = taken; regs = regs; hi = hi; lo = lo; mem = mem; access = access })
in_order s next taken regs hi lo None access = refl
in_order s next taken regs hi lo (Some w) access = refl

pub writes_in_order : (o a b d p : Overlaid) (e : Changes) (regs : List (ℕ × ℕ)) → regs ≡ e.regs.items → Writes (λ s. with_write s e.mem) 1 o a → Writes (λ s. with_hi s (unwrap_or e.hi s.hi)) 0 a b → Writes (λ s. with_lo s (unwrap_or e.lo s.lo)) 0 b d → Writes (λ s. with_regs s regs) 0 d p → Writes (λ s. changed s e) 1 o p
writes_in_order o a b d p e regs same write high low all = record {
  reads = λ s. all.reads s
      ∙ (ap (λ (ws : List (ℕ × ℕ)). with_regs (seen s d) ws) same
      ∙ (ap (λ (r : Reader). with_regs r e.regs.items)
      (low.reads s
      ∙ ap (λ (r : Reader). with_lo r (unwrap_or e.lo r.lo))
      (high.reads s ∙ ap (λ (r : Reader). with_hi r (unwrap_or e.hi r.hi)) (write.reads s)))
      ∙ in_order (seen s o) e.next e.taken e.regs e.hi e.lo e.mem e.access));
  applied = omega (arith, write.applied, high.applied, low.applied, all.applied);
  size = all.size ∙ (low.size ∙ (high.size ∙ write.size));
}
