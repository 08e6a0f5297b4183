-- Lemmas on a write of all bytes, by parts.
use Rattle.std.proofs.Common.{◌≡◌, ◌+◌, ◌-◌, ◌≤◌, ◌<◌, ◌++◌, ◌∙◌, ℕ, List, [], ◌∷◌, Bool, IsTrue, ◌↔◌, Option, Some, None, refl, sym, ap, arith, subst, length, take, drop, append_assoc, false, true}
use Rattle.std.proofs.Math.Seq.{take-append_seam, take-add}
use Rattle.std.proofs.lemmas.List.{take_all, take-append-drop, length-append, length-take, length-drop, drop-drop}
use Rattle.std.specs.Io.KnownBytes.{Appends, Keeps}
use Rattle.ss_base.specs.Outside.{BeginsWith}
use Rattle.ss_base.specs.Known.{WritesWhole}

-- a part and the next part are one part
pub Appends-more : (old now new : Option (List ℕ)) (bytes : List ℕ) (k n : ℕ) → Appends old now (take k bytes) → Appends now new (take n (drop k bytes)) → Appends old new (take (k + n) bytes)
Appends-more None now new bytes k n p q = tt
Appends-more (Some x) None new bytes k n p q = absurd p
Appends-more (Some x) (Some y) None bytes k n p q = absurd q
Appends-more (Some x) (Some y) (Some z) bytes k n p q =
    q ∙ ap (λ l. l ++ take n (drop k bytes)) p ∙ append_assoc x (take k bytes) (take n (drop k bytes)) ∙ ap (λ l. x ++ l) (sym (take-add k n bytes))

-- what was kept after a part is that part
pub Appends-kept : (old now new : Option (List ℕ)) (bytes : List ℕ) (k : ℕ) → Appends old now (take k bytes) → Keeps now new → Appends old new (take k bytes)
Appends-kept None now new bytes k p q = tt
Appends-kept (Some x) None new bytes k p q = absurd p
Appends-kept (Some x) (Some y) None bytes k p q = absurd q
Appends-kept (Some x) (Some y) (Some z) bytes k p q = q ∙ p

-- bytes that grew by a part are the front of those that grew by all
front_of_part : (x bytes : List ℕ) (k : ℕ) → BeginsWith (x ++ bytes) (x ++ take k bytes)
front_of_part x bytes k =
    subst (λ b. BeginsWith (x ++ b) (x ++ take k bytes)) (take-append-drop k bytes)
    (rw (← append_assoc x (take k bytes) (drop k bytes)) (take-append_seam (x ++ take k bytes) (drop k bytes)))

-- a part that ended early
pub written_part : (old new : Option (List ℕ)) (bytes : List ℕ) (k : ℕ) → k < length bytes → Appends old new (take k bytes) → WritesWhole old new bytes false
written_part None new bytes k h p = tt
written_part (Some x) None bytes k h p = absurd p
written_part (Some x) (Some z) bytes k h p =
    let shorter : length (x ++ take k bytes) < length x + length bytes = omega (arith, h, length-append x (take k bytes), length-take k bytes) in
    rw p (take-append_seam x (take k bytes), front_of_part x bytes k, shorter)

-- a part that is all
pub written_all : (old new : Option (List ℕ)) (bytes : List ℕ) (k : ℕ) → length bytes ≤ k → Appends old new (take k bytes) → WritesWhole old new bytes true
written_all None new bytes k h p = tt
written_all (Some x) None bytes k h p = absurd p
written_all (Some x) (Some z) bytes k h p = p ∙ ap (λ l. x ++ l) (take_all k bytes h)

-- at the end all was written where nothing is left, and a part where something is
pub written_end : (old new : Option (List ℕ)) (bytes rest : List ℕ) (whole : Bool) → (IsTrue whole ↔ (length rest ≡ 0)) → length rest ≤ length bytes
    → Appends old new (take (length bytes - length rest) bytes) → WritesWhole old new bytes whole
written_end old new bytes rest true h le p =
    written_all old new bytes (length bytes - length rest) (omega (arith, h.0 refl, le)) p
written_end old new bytes [] false h le p = absurd (let bad : false ≡ true = h.1 refl in cc)
written_end old new bytes (b ∷ bs) false h le p =
    written_part old new bytes (length bytes - length (b ∷ bs)) (omega (arith, le)) p

-- what is left after n bytes more, and how much was written by then
pub rest_after : (rest : List ℕ) (n : ℕ) → take (length rest - n) (drop n rest) ≡ drop n rest
rest_after rest n = take_all (length rest - n) (drop n rest) (omega (arith, length-drop n rest))

pub rest_shorter : (rest bytes : List ℕ) (n : ℕ) → length rest ≤ length bytes → length (drop n rest) ≤ length bytes
rest_shorter rest bytes n h = omega (arith, length-drop n rest)

pub rest_place : (rest bytes : List ℕ) (n : ℕ) → n ≤ length rest → length rest ≤ length bytes → length bytes - length (drop n rest) ≡ (length bytes - length rest) + n
rest_place rest bytes n k h = omega (arith, length-drop n rest)

pub rest_left : (rest bytes : List ℕ) (n : ℕ) → n ≤ length rest → length rest ≤ length bytes → rest ≡ drop (length bytes - length rest) bytes → drop n rest ≡ drop (length bytes - length (drop n rest)) bytes
rest_left rest bytes n k h e =
    rw (rest_place rest bytes n k h) (ap (drop n) e ∙ drop-drop n (length bytes - length rest) bytes)

pub rest_grown : (old now new : Option (List ℕ)) (rest bytes : List ℕ) (n : ℕ) → n ≤ length rest → length rest ≤ length bytes → rest ≡ drop (length bytes - length rest) bytes
    → Appends old now (take (length bytes - length rest) bytes) → Appends now new (take n rest) → Appends old new (take (length bytes - length (drop n rest)) bytes)
rest_grown old now new rest bytes n k h e p q =
    rw (rest_place rest bytes n k h) (Appends-more old now new bytes (length bytes - length rest) n p (subst (λ r. Appends now new (take n r)) e q))
