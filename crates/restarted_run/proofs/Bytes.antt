-- Lists of bytes, and what reads after writes of them.
use Rattle.std.proofs.Common.{◌≡◌, ℕ, zero, suc, ◌+◌, ◌-◌, ◌^◌, ◌<◌, ◌≤◌, Bool, true, false, List, [], ◌∷◌, ◌++◌, length, take, drop, replicate, refl, ◌∙◌, arith}
use Rattle.std.specs.Prelude.{slice_index, nat_lt, nat_eq, if◌then◌else◌}
use Rattle.std.specs.Int.{byte_at, bytes_low_first, bytes_high_first}
use Rattle.std.specs.List.{AllByRecursion}
use Rattle.std.proofs.lemmas.Bool.Decides.{nat_tests}
use Rattle.paged_mem.proofs.Overlaid.{overlaid-past}
use Rattle.pisa_step.specs.Reader.{regs_with, regs_after, bytes_with}
use Rattle.event_trace.specs.declared.trace.Block.{Block}
use Rattle.event_trace.specs.Grammar.{InTurn, IsRegister, IsBlock, next_register, next_block}
use Rattle.sim_safe.specs.Call.{blocks_written}
use Rattle.restarted_run.specs.Within.{AreBytes}

-- ---- lists

pub no_bytes : AreBytes []
no_bytes k = omega arith

pub more_bytes : (x : ℕ) (xs : List ℕ) → x < 2 ^ 8 → AreBytes xs → AreBytes (x ∷ xs)
more_bytes x xs first rest zero = first
more_bytes x xs first rest (suc k) = rest k

rest_bytes : (x : ℕ) (xs : List ℕ) → AreBytes (x ∷ xs) → AreBytes xs
rest_bytes x xs h k = h (suc k)

pub joined_bytes : (xs ys : List ℕ) → AreBytes xs → AreBytes ys → AreBytes (xs ++ ys)
joined_bytes [] ys h g = g
joined_bytes (x ∷ xs) ys h g = more_bytes x (xs ++ ys) (h zero) (joined_bytes xs ys (rest_bytes x xs h) g)

pub front_bytes : (xs ys : List ℕ) → AreBytes (xs ++ ys) → AreBytes xs
front_bytes [] ys h = no_bytes
front_bytes (x ∷ xs) ys h = more_bytes x xs (h zero) (front_bytes xs ys (rest_bytes x (xs ++ ys) h))

pub back_bytes : (xs ys : List ℕ) → AreBytes (xs ++ ys) → AreBytes ys
back_bytes [] ys h = h
back_bytes (x ∷ xs) ys h = back_bytes xs ys (rest_bytes x (xs ++ ys) h)

pub taken_bytes : (n : ℕ) (xs : List ℕ) → AreBytes xs → AreBytes (take n xs)
taken_bytes zero xs h = no_bytes
taken_bytes (suc n) [] h = no_bytes
taken_bytes (suc n) (x ∷ xs) h = more_bytes x (take n xs) (h zero) (taken_bytes n xs (rest_bytes x xs h))

pub left_bytes : (n : ℕ) (xs : List ℕ) → AreBytes xs → AreBytes (drop n xs)
left_bytes zero xs h = h
left_bytes (suc n) [] h = no_bytes
left_bytes (suc n) (x ∷ xs) h = left_bytes n xs (rest_bytes x xs h)

pub zero_bytes : (n : ℕ) → AreBytes (replicate n 0)
zero_bytes zero = no_bytes
zero_bytes (suc n) = more_bytes 0 (replicate n 0) (omega arith) (zero_bytes n)

byte_below : (i n : ℕ) → byte_at i n < 2 ^ 8
byte_below zero n = omega arith
byte_below (suc i) n = omega arith

pub low_bytes : (i count n : ℕ) → AreBytes (bytes_low_first i count n)
low_bytes i zero n = no_bytes
low_bytes i (suc k) n = more_bytes (byte_at i n) (bytes_low_first (suc i) k n) (byte_below i n) (low_bytes (suc i) k n)

pub high_bytes : (count n : ℕ) → AreBytes (bytes_high_first count n)
high_bytes zero n = no_bytes
high_bytes (suc k) n = more_bytes (byte_at k n) (bytes_high_first k n) (byte_below k n) (high_bytes k n)

-- ---- registers

-- one of two values, by two tests
one_of : (most : ℕ) (b c : Bool) (x y : ℕ) → x < most → y < most → (if b then x else if c then y else x) < most
one_of most true c x y h g = h
one_of most false true x y h g = g
one_of most false false x y h g = h

pub regs_words : (ws : List (ℕ × ℕ)) (regs : ℕ → ℕ) → AllByRecursion (λ w. w.1 < 2 ^ 32) ws → ((n : ℕ) → regs n < 2 ^ 32) → (n : ℕ) → regs_after regs ws n < 2 ^ 32
regs_words [] regs all h n = h n
regs_words (w ∷ ws) regs all h n =
    regs_words ws (regs_with regs w.0 w.1) all.1 (λ q. one_of (2 ^ 32) (nat_eq w.0 0) (nat_eq q w.0) (regs q) w.1 (h q) all.0) n

zero_with : (regs : ℕ → ℕ) (r value : ℕ) → regs_with regs r value 0 ≡ regs 0
zero_with regs r value = grind (arith, nat_tests)

pub regs_zero : (ws : List (ℕ × ℕ)) (regs : ℕ → ℕ) → regs_after regs ws 0 ≡ regs 0
regs_zero [] regs = refl
regs_zero (w ∷ ws) regs = regs_zero ws (regs_with regs w.0 w.1) ∙ zero_with regs w.0 w.1

above_with : (regs : ℕ → ℕ) (r value n : ℕ) → r < 32 → 32 ≤ n → regs_with regs r value n ≡ regs n
above_with regs r value n low high = grind (arith, nat_tests)

pub regs_above : (ws : List (ℕ × ℕ)) (regs : ℕ → ℕ) (n : ℕ) → AllByRecursion (λ w. w.0 < 32) ws → 32 ≤ n → regs_after regs ws n ≡ regs n
regs_above [] regs n all high = refl
regs_above (w ∷ ws) regs n all high = regs_above ws (regs_with regs w.0 w.1) n all.1 high ∙ above_with regs w.0 w.1 n all.0 high

pub registers_fit : (least : ℕ) (ws : List (ℕ × ℕ)) → InTurn IsRegister next_register least ws → AllByRecursion (λ w. w.0 < 32) ws × AllByRecursion (λ w. w.1 < 2 ^ 32) ws
registers_fit least [] h = (tt, tt)
registers_fit least (w ∷ ws) h =
    let rest = registers_fit (next_register w) ws h.1 in
    ((omega (arith, h.0.number), rest.0), (h.0.value, rest.1))

-- ---- memory

pub memory_bytes : (f : ℕ → ℕ) (addr : ℕ) (content : List ℕ) → ((a : ℕ) → f a < 2 ^ 8) → AreBytes content → (a : ℕ) → bytes_with f addr content a < 2 ^ 8
memory_bytes f addr content h g a = one_of (2 ^ 8) (nat_lt a addr) (nat_lt a (addr + length content)) (f a) (slice_index content (a - addr)) (h a) (g (a - addr))

pub memory_above : (f : ℕ → ℕ) (addr : ℕ) (content : List ℕ) (a : ℕ) → addr + length content ≤ 2 ^ 32 → 2 ^ 32 ≤ a → bytes_with f addr content a ≡ f a
memory_above f addr content a end high = overlaid-past f addr content a (omega (arith, end, high))

pub blocks_bytes : (bs : List Block) (f : ℕ → ℕ) → AllByRecursion (λ b. AreBytes b.bytes) bs → ((a : ℕ) → f a < 2 ^ 8) → (a : ℕ) → blocks_written f bs a < 2 ^ 8
blocks_bytes [] f all h a = h a
blocks_bytes (b ∷ bs) f all h a = blocks_bytes bs (bytes_with f b.addr b.bytes) all.1 (memory_bytes f b.addr b.bytes h all.0) a

pub blocks_above : (least : ℕ) (bs : List Block) (f : ℕ → ℕ) (a : ℕ) → InTurn IsBlock next_block least bs → 2 ^ 32 ≤ a → blocks_written f bs a ≡ f a
blocks_above least [] f a h high = refl
blocks_above least (b ∷ bs) f a h high = blocks_above (next_block b) bs (bytes_with f b.addr b.bytes) a h.1 high ∙ memory_above f b.addr b.bytes a h.0.end high
