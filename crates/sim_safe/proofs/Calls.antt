-- The comparison of a call with its record.
use Rattle.std.proofs.Common.{◌≡◌, ℕ, zero, suc, ◌+◌, ◌<◌, ◌≤◌, ◌^◌, List, [], ◌∷◌, ◌++◌, length, drop, get_or, sym, ap, subst, ◌∙◌, refl, arith}
use Rattle.std.specs.Prelude.{Bool, true, false, Option, Some, None, nat_eq, if◌then◌else◌, slice_index_or}
use Rattle.std.specs.List.{flat_map}
use Rattle.pisa_step.specs.declared.cause.Cause.{Cause}
use Rattle.pisa_step.specs.declared.cause.Cause.TheVariants as cause
use Rattle.pisa_step.specs.Reader.{Reader}
use Rattle.event_trace.specs.declared.trace.Block.{Block}
use Rattle.event_trace.specs.Grammar.{InTurn, IsRegister, next_register, IsBlock, next_block}
use Rattle.sim_safe.specs.Call.{Comparison, block_compared, bytes_compared, mismatch}
use Rattle.sim_safe.proofs.Lists.{rest_at, in_turn_at}

-- a register of a record is one of the machine's
pub register_below : (least : ℕ) (xs : List (ℕ × ℕ)) (k : ℕ) → InTurn IsRegister next_register least xs → k < length xs → (slice_index_or xs k (0, 0)).0 < 32
register_below least [] k h lt = absurd (omega arith)
register_below least (x ∷ xs) zero h lt = omega (arith, h.0.number)
register_below least (x ∷ xs) (suc k) h lt = register_below (next_register x) xs k h.1 (omega arith)

-- a block of a record ends at or below 2^32
pub block_ends : (blocks : List Block) (k : ℕ) (x : Block) (bytes : List ℕ) → InTurn IsBlock next_block 0 blocks → k < length blocks → x ≡ get_or blocks k x → bytes ≡ x.bytes → x.addr + length bytes ≤ 2 ^ 32
block_ends blocks k x bytes h lt e is =
    let P : List ℕ → Type 0 = λ xs. x.addr + length xs ≤ 2 ^ 32 in
    subst P (sym is) ((in_turn_at IsBlock next_block 0 blocks k x h lt e).1.end)

-- and its length is a number of 32 bits
pub block_fits : (blocks : List Block) (k : ℕ) (x : Block) (bytes : List ℕ) → InTurn IsBlock next_block 0 blocks → k < length blocks → x ≡ get_or blocks k x → bytes ≡ x.bytes → length bytes < 2 ^ 32
block_fits blocks k x bytes h lt e is =
    let P : List ℕ → Type 0 = λ xs. length xs < 2 ^ 32 in
    let b = in_turn_at IsBlock next_block 0 blocks k x h lt e in
    subst P (sym is) (omega (arith, b.1.most))

-- the first difference of two lists together is that of the first, and else that of the second
abbrev pub or_else : Option Cause → Option Cause → Option Cause
or_else None other = other
or_else (Some c) other = Some c

append_if : (test : Bool) (d : Cause) (xs ys : List Comparison) → mismatch (xs ++ ys) ≡ or_else (mismatch xs) (mismatch ys) → (if test then mismatch (xs ++ ys) else Some d) ≡ or_else (if test then mismatch xs else Some d) (mismatch ys)
append_if true d xs ys h = h
append_if false d xs ys h = refl

pub mismatch_append : (xs ys : List Comparison) → mismatch (xs ++ ys) ≡ or_else (mismatch xs) (mismatch ys)
mismatch_append [] ys = refl
mismatch_append (x ∷ xs) ys = append_if (nat_eq x.kept x.found) (cause.TraceMismatch x.field x.kept x.found) xs ys (mismatch_append xs ys)

mismatch_first : (c : Cause) (xs ys : List Comparison) → Some c ≡ mismatch xs → Some c ≡ mismatch (xs ++ ys)
mismatch_first c xs ys e = ap (λ (d : Option Cause). or_else d (mismatch ys)) e ∙ sym (mismatch_append xs ys)

mismatch_second : (xs ys : List Comparison) → None ≡ mismatch xs → mismatch ys ≡ mismatch (xs ++ ys)
mismatch_second xs ys e = ap (λ (d : Option Cause). or_else d (mismatch ys)) e ∙ sym (mismatch_append xs ys)

-- one more block
pub blocks_differ : (s : Reader) (blocks : List Block) (k : ℕ) (x : Block) (bytes : List ℕ) (c : Cause) (total : Option Cause) → k < length blocks → x ≡ get_or blocks k x → bytes ≡ x.bytes
    → mismatch (flat_map (block_compared s) (drop k blocks)) ≡ total → Some c ≡ mismatch (bytes_compared s x.addr bytes) → Some c ≡ total
blocks_differ s blocks k x bytes c total lt e is so d =
    let rest = drop (k + 1) blocks in
    let d2 : Some c ≡ mismatch (block_compared s x) = d ∙ ap (λ (bs : List ℕ). mismatch (bytes_compared s x.addr bs)) is in
    let here : Some c ≡ mismatch (flat_map (block_compared s) (x ∷ rest)) = mismatch_first c (block_compared s x) (flat_map (block_compared s) rest) d2 in
    here ∙ ap (λ (bs : List Block). mismatch (flat_map (block_compared s) bs)) (sym (rest_at blocks k x lt e)) ∙ so

pub blocks_go_on : (s : Reader) (blocks : List Block) (k : ℕ) (x : Block) (bytes : List ℕ) (total : Option Cause) → k < length blocks → x ≡ get_or blocks k x → bytes ≡ x.bytes
    → mismatch (flat_map (block_compared s) (drop k blocks)) ≡ total → None ≡ mismatch (bytes_compared s x.addr bytes) → mismatch (flat_map (block_compared s) (drop (k + 1) blocks)) ≡ total
blocks_go_on s blocks k x bytes total lt e is so d =
    let rest = drop (k + 1) blocks in
    let d2 : None ≡ mismatch (block_compared s x) = d ∙ ap (λ (bs : List ℕ). mismatch (bytes_compared s x.addr bs)) is in
    mismatch_second (block_compared s x) (flat_map (block_compared s) rest) d2 ∙ ap (λ (bs : List Block). mismatch (flat_map (block_compared s) bs)) (sym (rest_at blocks k x lt e)) ∙ so
