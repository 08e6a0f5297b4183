-- Registers and blocks are read as they were written.
use Rattle.std.proofs.Common.{◌≡◌, ℕ, ◌+◌, ◌^◌, ◌≤◌, cond, ltb, List, ◌++◌, length, take, drop, Result, Ok, Err, refl, sym, ap, subst, ◌∙◌, append_assoc, arith}
use Rattle.std.specs.Int.{w32, to_le_bytes}
use Rattle.std.proofs.lemmas.Bool.{ltb-false, le-ltb}
use Rattle.std.proofs.lemmas.List.{take_at, drop_at, take-append-drop, length-append, length-take}
use Rattle.ss_base.specs.Text.{word_at}
use Rattle.event_trace.specs.declared.trace.Block.{Block}
use Rattle.event_trace.specs.declared.fault.TraceWhy.TheVariants as why
use Rattle.event_trace.specs.Grammar.{register_bytes, block_bytes, IsRegister, IsBlock}
use Rattle.event_trace.specs.Reading.{Refusal, register_at, block_at}
use Rattle.event_trace.proofs.Fields.{IsBytes, IsBytes-drop, passed, at_least, ok_is, Takes, word_parts, word_below, word_again}

-- two words in front
pub words_parts : (bytes : List ℕ) → IsBytes bytes → 8 ≤ length bytes → bytes ≡ (to_le_bytes w32 (word_at bytes 0) ++ to_le_bytes w32 (word_at bytes 4)) ++ drop 8 bytes
words_parts bytes fits le =
    word_parts bytes 0 fits (omega arith)
    ∙ ap (λ (x : List ℕ). to_le_bytes w32 (word_at bytes 0) ++ x) (word_parts bytes 4 fits (omega arith))
    ∙ sym (append_assoc (to_le_bytes w32 (word_at bytes 0)) (to_le_bytes w32 (word_at bytes 4)) (drop 8 bytes))

pub register_takes : (least : ℕ) (bytes : List ℕ) (x : ℕ × ℕ) (rest : List ℕ) → IsBytes bytes → register_at least bytes ≡ Ok (x, rest) → Takes bytes (register_bytes x) rest × IsRegister least x
unfolding register_at
register_takes least bytes x rest fits e =
    let p0 = passed _ _ _ _ e in
    let p1 = passed _ _ _ _ p0.1 in
    let p2 = passed _ _ _ _ p1.1 in
    let p3 = passed _ _ _ _ p2.1 in
    let made : (ℕ × ℕ) × List ℕ = ((word_at bytes 0, word_at bytes 4), drop 8 bytes) in
    subst (λ (y : (ℕ × ℕ) × List ℕ). Takes bytes (register_bytes y.0) y.1 × IsRegister least y.0) (ok_is made (x, rest) p3.1) (
      record { parts = words_parts bytes fits (ltb-false _ _ p3.0); rest_fits = IsBytes-drop 8 bytes fits },
      record { rising = ltb-false _ _ p1.0; number = ltb-false _ _ p2.0; value = word_below bytes 4 fits },
    )

register_ok : (least a b : ℕ) (bytes rest : List ℕ) → 8 ≤ length bytes → word_at bytes 0 ≡ a → word_at bytes 4 ≡ b → drop 8 bytes ≡ rest → least ≤ a → a ≤ 31 → register_at least bytes ≡ Ok ((a, b), rest)
unfolding register_at
register_ok least a b bytes rest len is-a is-b is-rest low high =
    rw (le-ltb (length bytes) 4 (omega arith), is-a, is-b, is-rest, le-ltb a least low, le-ltb 31 a high, le-ltb (length bytes) 8 len) refl

pub register_again : (least : ℕ) (x : ℕ × ℕ) (rest : List ℕ) → IsRegister least x → register_at least (register_bytes x ++ rest) ≡ Ok (x, rest)
register_again least x rest fits =
    register_ok least x.0 x.1 (register_bytes x ++ rest) rest (omega (arith, length-append (register_bytes x) rest)) (word_again x.0 (omega (arith, fits.number))) (word_again x.1 fits.value) refl fits.rising fits.number

regrouped : (a b c d : List ℕ) → (a ++ b) ++ (c ++ d) ≡ (a ++ (b ++ c)) ++ d
regrouped a b c d = simp append_assoc

pub block_takes : (least : ℕ) (bytes : List ℕ) (x : Block) (rest : List ℕ) → IsBytes bytes → block_at least bytes ≡ Ok (x, rest) → Takes bytes (block_bytes x) rest × IsBlock least x
unfolding block_at
block_takes least bytes x rest fits e =
    let addr = word_at bytes 0 in
    let size = word_at bytes 4 in
    let tail = drop 8 bytes in
    let first = take size tail in
    let bad : Refusal = record { left = length bytes; why = why.Block } in
    let cut : Refusal = record { left = 0; why = why.Short } in
    let made : Block × List ℕ = (record { addr = addr; bytes = first }, drop size tail) in
    let r3 : Result (Block × List ℕ) Refusal = cond (ltb (length tail) size) (Err cut) (Ok made) in
    let r2 : Result (Block × List ℕ) Refusal = cond (ltb (2 ^ 32) (addr + size)) (Err bad) r3 in
    let r1 : Result (Block × List ℕ) Refusal = cond (ltb 65536 size) (Err bad) r2 in
    let r0 : Result (Block × List ℕ) Refusal = cond (ltb size 1) (Err bad) r1 in
    let p0 = at_least (length bytes) 8 cut r0 (x, rest) e in
    let p1 = at_least size 1 bad r1 (x, rest) p0.1 in
    let p2 = at_least 65536 size bad r2 (x, rest) p1.1 in
    let p3 = at_least (2 ^ 32) (addr + size) bad r3 (x, rest) p2.1 in
    let p4 = at_least (length tail) size cut (Ok made) (x, rest) p3.1 in
    let len : length first ≡ size = omega (arith, length-take size tail, p4.0) in
    let whole : bytes ≡ (to_le_bytes w32 (word_at bytes 0) ++ (to_le_bytes w32 (length first) ++ first)) ++ drop size tail =
    words_parts bytes fits p0.0
    ∙ ap (λ (k : ℕ). (to_le_bytes w32 (word_at bytes 0) ++ to_le_bytes w32 k) ++ tail) (sym len)
    ∙ ap (λ (t : List ℕ). (to_le_bytes w32 (word_at bytes 0) ++ to_le_bytes w32 (length first)) ++ t) (sym (take-append-drop size tail))
    ∙ regrouped (to_le_bytes w32 (word_at bytes 0)) (to_le_bytes w32 (length first)) first (drop size tail) in
    subst (λ (y : Block × List ℕ). Takes bytes (block_bytes y.0) y.1 × IsBlock least y.0) (ok_is made (x, rest) p4.1) (
      record { parts = whole; rest_fits = IsBytes-drop size tail (IsBytes-drop 8 bytes fits) },
      record { some = omega (arith, len, p1.0); most = omega (arith, len, p2.0); end = omega (arith, len, p3.0) },
    )

block_ok : (least a size : ℕ) (text bytes rest : List ℕ) → 8 ≤ length bytes → word_at bytes 0 ≡ a → word_at bytes 4 ≡ size → drop 8 bytes ≡ text ++ rest → length text ≡ size → 1 ≤ size → size ≤ 65536 → a + size ≤ 2 ^ 32 → block_at least bytes ≡ Ok (record { addr = a; bytes = text }, rest)
unfolding block_at
block_ok least a size text bytes rest len is-a is-size is-rest is-text some most end =
    rw (le-ltb (length bytes) 8 len, is-a, is-size, is-rest, le-ltb size 1 some, le-ltb 65536 size most, le-ltb (2 ^ 32) (a + size) end, le-ltb (length (text ++ rest)) size (omega (arith, length-append text rest)), take_at text rest size is-text, drop_at text rest size is-text) refl

pub block_again : (least : ℕ) (x : Block) (rest : List ℕ) → IsBlock least x → block_at least (block_bytes x ++ rest) ≡ Ok (x, rest)
block_again least x rest fits =
    block_ok least x.addr (length x.bytes) x.bytes (block_bytes x ++ rest) rest (omega (arith, length-append (block_bytes x) rest)) (word_again x.addr (omega (arith, fits.some, fits.end))) (word_again (length x.bytes) (omega (arith, fits.most))) refl refl fits.some fits.most fits.end
