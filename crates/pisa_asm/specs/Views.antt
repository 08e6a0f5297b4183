-- What is seen of the code's records, in which tokens are borrowed.
use Rattle.std.specs.Prelude.{◌≡◌, ℕ, List, Option, Some, None, Result, Ok, Err, option_map}
use Rattle.ss_base.specs.declared.text_fault.TextWhy.{TextWhy}
use Rattle.pisa_asm.specs.declared.operands.Filled.{Filled}
use Rattle.pisa_asm.specs.declared.operands.Judge.{Judge}
use Rattle.pisa_asm.specs.declared.statements.Line.{Line}
use Rattle.pisa_asm.specs.declared.statements.Stop.{Stop}
use Rattle.pisa_asm.specs.declared.statements.Stop.TheVariants as stops
use Rattle.pisa_asm.specs.declared.statements.Statement.{Statement}
use Rattle.pisa_asm.specs.Statements.{Words, Stated}
use Rattle.pisa_asm.specs.Operands.{Said, beside, say}

abbrev pub said_of : Filled → Said
said_of f = record { instr = f.instr; number = f.number; label = option_map (λ l. l.now) f.label }

abbrev pub seen : Result Filled TextWhy → Result Said TextWhy
seen (Ok f) = Ok (said_of f)
seen (Err w) = Err w

-- what was found before, beside what is found from here on
abbrev pub combined : Option TextWhy → Result Said TextWhy → Result Said TextWhy
combined None said = said
combined (Some w) said = beside w said

-- what a list of operands says in the end, of which those before these tokens were judged
abbrev pub going : Judge → Option ℕ → List (List ℕ) → Result Said TextWhy
going j pc tokens = combined j.worst (say pc j.slots.now tokens (said_of j.filled))

abbrev pub words_seen : Line → Words
words_seen l = record { label = option_map (λ t. t.now) l.label; name = l.name.now; operands = l.operands.now }

-- what a function returned, seen by view, is what the definition gives, unless memory ran out
abbrev pub Fails : {Y : Type 0} → Stop → Result Y TextWhy → Type 0
Fails stops.NoMemory answer = Unit {0}
Fails (stops.Wrong w) answer = answer ≡ Err w

abbrev pub Gives : {X Y : Type 0} → (X → Y) → Result X Stop → Result Y TextWhy → Type 0
Gives view (Ok x) answer = answer ≡ Ok (view x)
Gives view (Err e) answer = Fails e answer

abbrev pub stated_of : Statement → Stated
stated_of s = record { command = s.command; said = said_of s.filled; string = s.string.items }
