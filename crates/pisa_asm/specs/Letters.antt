-- The bytes of a line of a source: strings, comments and operands.
use Rattle.std.specs.Prelude.{◌+◌, ◌-◌, ℕ, List, [], ◌∷◌, Bool, false, length, map, take, slice_index, nat_eq, if◌then◌else◌, Option, Some, None}
use Rattle.std.specs.List.{slice_split, list_all}
use Rattle.text_lines.specs.Lines.{is_blank, trim_start}
use Rattle.pisa_asm.specs.declared.letters.Quoting.{Quoting}
use Rattle.pisa_asm.specs.declared.letters.Quoting.TheVariants.{Outside, Inside, Escaped}

-- a quote begins a string, and the next one that no backslash precedes ends it
abbrev pub after_byte : Quoting → ℕ → Quoting
after_byte Outside b = if nat_eq b 34 then Inside else Outside
after_byte Inside b = if nat_eq b 34 then Outside else (if nat_eq b 92 then Escaped else Inside)
after_byte Escaped b = Inside

-- `#` outside a string begins a comment
abbrev pub begins_comment : Quoting → ℕ → Bool
begins_comment Outside b = nat_eq b 35
begins_comment _ b = false

-- how many bytes stand before the comment
abbrev pub code_length : Quoting → List ℕ → ℕ
code_length q [] = 0
code_length q (b ∷ bs) = if begins_comment q b then 0 else 1 + code_length (after_byte q b) bs

-- a line without its comment
abbrev pub code_of : List ℕ → List ℕ
code_of line = take (code_length Outside line) line

-- the bytes up to the last one that is no blank
abbrev pub trim_end : List ℕ → List ℕ
trim_end [] = []
trim_end (b ∷ bs) = if list_all is_blank (b ∷ bs) then [] else b ∷ trim_end bs

-- the bytes without the blanks round them
abbrev pub trim : List ℕ → List ℕ
trim bytes = trim_end (trim_start bytes)

-- what stands before a `)` at the end; None where none stands there
abbrev pub closed : List ℕ → Option (List ℕ)
closed bytes = if nat_eq (slice_index bytes (length bytes - 1)) 41 then Some (take (length bytes - 1) bytes) else None

-- the operands of a text: what stands between its commas, without the blanks round it; none where
-- there are only blanks
abbrev pub operands_in : List ℕ → List (List ℕ)
operands_in bytes = if list_all is_blank bytes then [] else map trim (slice_split (λ b. nat_eq b 44) bytes)
