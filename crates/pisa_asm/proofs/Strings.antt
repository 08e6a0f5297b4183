-- Reading a string byte by byte.
use Rattle.std.proofs.Common.{◌≡◌, ◌++◌, ℕ, List, [], ◌∷◌, Result, Ok, Err, refl, append_assoc}
use Rattle.ss_base.specs.declared.text_fault.TextWhy.{TextWhy}
use Rattle.pisa_asm.specs.Statements.{onto}

-- bytes that were read before, and those that follow
abbrev pub with_front : List ℕ → Result (List ℕ) TextWhy → Result (List ℕ) TextWhy
with_front front (Ok bs) = Ok (front ++ bs)
with_front front (Err w) = Err w

pub front_onto : (front : List ℕ) (b : ℕ) (r : Result (List ℕ) TextWhy) → with_front front (onto b r) ≡ with_front (front ++ b ∷ []) r
front_onto front b (Ok bs) = simp append_assoc
front_onto front b (Err w) = refl
