-- The pages of a range, reserved one after the other.
use Rattle.std.proofs.Common.{◌≡◌, ℕ, ◌+◌, ◌<◌, ◌≤◌, ◌⊎◌, ◌∙◌, inl, inr, refl, arith}
use Rattle.std.proofs.lemmas.Bool.{cases_eq}
use Rattle.paged_mem.specs.Memory.{Pages, byte_of, IsReserved, Meets}

-- the pages that the range meets below `next` are reserved, and nothing else has changed
pub record Reserving (old now : Pages) (address len next : ℕ) : Type 0 where
  pub bytes : byte_of now ≡ byte_of old
  pub kept : (n : ℕ) → IsReserved old n → IsReserved now n
  pub only : (n : ℕ) → IsReserved now n → IsReserved old n ⊎ Meets address len n
  pub held : (n : ℕ) → Meets address len n → n < next → IsReserved now n

pub reserving_start : (memory : Pages) (address len first : ℕ) → ((n : ℕ) → Meets address len n → first ≤ n) → Reserving memory memory address len first
reserving_start memory address len first least = record {
  bytes = refl;
  kept = λ n h. h;
  only = λ n h. inl h;
  held = λ n meets low. absurd (omega (arith, least n meets));
}

-- one more page, as far as that went: it may have been refused
pub record OneMore (now new : Pages) (number : ℕ) : Type 0 where
  pub bytes : byte_of new ≡ byte_of now
  pub kept : (n : ℕ) → IsReserved now n → IsReserved new n
  pub only : (n : ℕ) → IsReserved new n → IsReserved now n ⊎ (n ≡ number)

pub only_more : (old now new : Pages) (address len number : ℕ) → Reserving old now address len number → OneMore now new number → Meets address len number → (n : ℕ) → IsReserved new n → IsReserved old n ⊎ Meets address len n
only_more old now new address len number r m meets n h = each (m.only n h)
  where
    each : IsReserved now n ⊎ (n ≡ number) → IsReserved old n ⊎ Meets address len n
    each (inl before) = r.only n before
    each (inr e) = inr (rw e meets)

pub reserving_next : (old now new : Pages) (address len number : ℕ) → Reserving old now address len number → OneMore now new number → Meets address len number → IsReserved new number → Reserving old new address len (number + 1)
reserving_next old now new address len number r m meets there = record {
  bytes = m.bytes ∙ r.bytes;
  kept = λ n h. m.kept n (r.kept n h);
  only = only_more old now new address len number r m meets;
  held = λ n met low. each n met low (cases_eq n number);
}
  where
    each : (n : ℕ) → Meets address len n → n < number + 1 → (n ≡ number) ⊎ (n ≡ number → ⊥) → IsReserved new n
    each n met low (inl e) = rw e there
    each n met low (inr apart) = m.kept n (r.held n met (omega arith))
