-- How a run ended, in words.
use Rattle.std.specs.Prelude.{◌++◌, ℕ, List, codes, decimal}
use Rattle.ss_base.specs.Text.{hex8}
use Rattle.pisa_step.specs.declared.cause.Cause.{Cause}
use Rattle.pisa_step.specs.declared.cause.Cause.TheVariants as cause
use Rattle.pisa_step.specs.declared.cause.Field.{Field}
use Rattle.pisa_step.specs.declared.cause.Field.TheVariants as field
use Rattle.sim_safe.specs.declared.observer.RunEnd.{RunEnd}
use Rattle.sim_safe.specs.declared.observer.RunEnd.TheVariants as ends

abbrev pub field_text : Field → List ℕ
field_text field.Count = codes "count"
field_text field.Pc = codes "pc"
field_text (field.Reg register) = codes "r" ++ decimal register
field_text (field.Byte addr) = codes "[" ++ hex8 addr ++ codes "]"

-- the cause of a stop
abbrev pub cause_text : Cause → List ℕ
cause_text (cause.Exited code) = codes "exited " ++ decimal code
cause_text cause.BadFetch = codes "bad-fetch"
cause_text cause.Illegal = codes "illegal"
cause_text (cause.FloatingPoint opcode) = codes "floating-point " ++ hex8 opcode
cause_text (cause.Misaligned addr) = codes "misaligned " ++ hex8 addr
cause_text cause.Overflow = codes "overflow"
cause_text cause.DivideByZero = codes "divide-by-zero"
cause_text (cause.TextWrite addr) = codes "text-write " ++ hex8 addr
cause_text cause.Break = codes "break"
cause_text (cause.TraceEnd used) = codes "trace-end " ++ decimal used
cause_text (cause.TraceMismatch f kept found) = codes "trace-mismatch " ++ field_text f ++ codes " " ++ decimal kept ++ codes " " ++ decimal found

-- a stop at an address after some instructions; an exit is told by its code alone
abbrev pub stop_text : Cause → ℕ → ℕ → List ℕ
stop_text (cause.Exited code) pc icnt = cause_text (cause.Exited code)
stop_text why pc icnt = codes "stopped " ++ hex8 pc ++ codes " " ++ decimal icnt ++ codes " " ++ cause_text why

abbrev pub end_text : RunEnd → ℕ → ℕ → List ℕ
end_text ends.Limit pc icnt = codes "budget"
end_text (ends.Stop why) pc icnt = stop_text why pc icnt
