-- Laws of bytes that begin with a front.
use Rattle.std.specs.Prelude.{◌≤◌, ◌++◌, ℕ, List, length, take}
use Rattle.std.proofs.Common.{sym, ◌∙◌, ap, arith}
use Rattle.std.proofs.lemmas.List.{take-take, length-take, take-append-le}
use Rattle.std.proofs.Math.Seq.{take-append_seam}
use Rattle.ss_base.specs.Outside.{BeginsWith}

-- a front of a front is a front
pub begins_trans : (new mid old : List ℕ) → BeginsWith new mid → BeginsWith mid old → BeginsWith new old
begins_trans new mid old h k =
    let shorter : length old ≤ length mid = omega (arith, length-take (length old) mid, ap length k) in
    sym (take-take (length old) (length mid) new shorter) ∙ ap (take (length old)) h ∙ k

-- what begins with two lists joined begins with the first
pub begins_front : (new old xs : List ℕ) → BeginsWith new (old ++ xs) → BeginsWith new old
begins_front new old xs h = begins_trans new (old ++ xs) old h (take-append_seam old xs)

-- a front stays a front where bytes are added at the end
pub begins_more : (xs front ys : List ℕ) → BeginsWith xs front → BeginsWith (xs ++ ys) front
begins_more xs front ys h =
    let shorter : length front ≤ length xs = omega (arith, length-take (length front) xs, ap length h) in
    take-append-le (length front) xs ys shorter ∙ h
