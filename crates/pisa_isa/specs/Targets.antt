-- Where branches and jumps go, from the address at which they stand.
use Rattle.std.specs.Prelude.{ℕ, ◌+◌, ◌-◌, ◌*◌, ◌/◌, ◌%◌, ◌^◌, nat_lt, if◌then◌else◌}

-- a branch goes on from the instruction behind it by four times its immediate value, which is
-- signed: from 2^15 on it stands for 2^16 less; sums are modulo 2^32
abbrev pub branch_target : ℕ → ℕ → ℕ
branch_target pc imm =
    if nat_lt imm (2 ^ 15) then (pc + 8 + 4 * imm) % 2 ^ 32
    else (pc + 8 + 4 * imm + (2 ^ 32 - 4 * 2 ^ 16)) % 2 ^ 32

-- a jump goes to four times its target in the region of 2^28 bytes where it stands
abbrev pub jump_target : ℕ → ℕ → ℕ
jump_target pc target = pc / 2 ^ 28 * 2 ^ 28 + 4 * target
