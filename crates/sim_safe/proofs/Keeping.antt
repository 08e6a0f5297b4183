-- What each step that is done keeps.
use Rattle.std.proofs.Common.{◌≡◌, ◌<◌, ◌≤◌, ◌%◌, ℕ, List, [], ◌∷◌, length, refl, subst, ◌∙◌, arith}
use Rattle.std.specs.Prelude.{Bool, true, false, Option, Some, None, Result, Ok, Err, IfOk, slice_get, if◌then◌else◌}
use Rattle.std.specs.Option.{ForSome}
use Rattle.std.proofs.lemmas.Bool.Decides.{nat_tests}
use Rattle.pisa_isa.specs.declared.instr.Instr.{Instr}
use Rattle.pisa_isa.specs.Coding.{decoded}
use Rattle.pisa_isa.specs.Targets.{branch_target}
use Rattle.pisa_step.specs.declared.action.Action.{Action}
use Rattle.pisa_step.specs.declared.action.Action.TheVariants as action
use Rattle.pisa_step.specs.declared.action.Half.{Half}
use Rattle.pisa_step.specs.declared.action.Half.TheVariants as half
use Rattle.pisa_step.specs.declared.action.Address.TheVariants as address
use Rattle.pisa_step.specs.declared.cause.Cause.{Cause}
use Rattle.pisa_step.specs.declared.cause.Cause.TheVariants as cause
use Rattle.pisa_step.specs.declared.changes.Changes.{Changes}
use Rattle.pisa_step.specs.declared.changes.MemWrite.{MemWrite}
use Rattle.pisa_step.specs.declared.changes.TextRange.{TextRange}
use Rattle.pisa_step.specs.Actions.{action_of}
use Rattle.pisa_step.specs.Reader.{Reader, bytes_with, regs_with, regs_after}
use Rattle.pisa_step.specs.Arithmetic.{is_taken}
use Rattle.pisa_step.specs.Memory.{address_of, loaded_size, stored_of, part_stored, part_start, meets}
use Rattle.pisa_step.specs.Effect.{aligned, branches, effect_of, going_on, loads, moves_to, outcome_of, stores, vec_of, with_write, writes_both, writes_reg}
use Rattle.ecoff_load.specs.Fetch.{fetch}
use Rattle.event_trace.specs.declared.trace.Block.{Block}
use Rattle.event_trace.specs.declared.trace.Record.{Record}
use Rattle.event_trace.specs.declared.trace.Trace.{Trace}
use Rattle.sim_safe.specs.State.{State, range_of}
use Rattle.sim_safe.specs.Call.{comparisons, mismatch, block_in_text, blocks_written}
use Rattle.sim_safe.specs.Step.{Next, call_recorded, called, executed, exit_asked, is_call, moved, replayed_next, served, step_decoded, step_fetched, step_of, step_running, unless, unrecorded_as}
use Rattle.sim_safe.specs.Laws.{KeepsOn, StepKeeps}

-- ---- writes meet no text

abbrev Misses : TextRange → Changes → Type 0
Misses text e = ForSome e.mem (λ w. meets text w.addr (length w.bytes.items) ≡ false)

unwritten : (text : TextRange) (e : Changes) → e.mem ≡ None → Misses text e
unwritten text e none = λ w is. cc

some_is : (x y : MemWrite) → Some x ≡ Some y → x ≡ y
some_is x y same = cc

stores_if : (text : TextRange) (pc a start : ℕ) (content : List ℕ) (test : Bool) → meets text start (length content) ≡ test
    → IfOk (if test then Err (cause.TextWrite start) else Ok (record (going_on pc) { mem = Some (record { addr = start; bytes = vec_of content }); access = Some a })) (Misses text)
stores_if text pc a start content true is = tt
stores_if text pc a start content false is = λ w same. subst (λ (x : MemWrite). meets text x.addr (length x.bytes.items) ≡ false) (some_is _ _ same) is

stores_miss : (text : TextRange) (pc a start : ℕ) (content : List ℕ) → IfOk (stores text pc a start content) (Misses text)
stores_miss text pc a start content = stores_if text pc a start content (meets text start (length content)) refl

aligned_if : (text : TextRange) (a : ℕ) (next : Result Changes Cause) (test : Bool) → IfOk next (Misses text) → IfOk (if test then next else Err (cause.Misaligned a)) (Misses text)
aligned_if text a next true h = h
aligned_if text a next false h = tt

exactly_if : (text : TextRange) (pc r word : ℕ) (test : Bool) → IfOk (if test then Ok (writes_reg pc r word) else Err cause.Overflow) (Misses text)
exactly_if text pc r word true = unwritten text (writes_reg pc r word) refl
exactly_if text pc r word false = tt

divides_if : (text : TextRange) (pc high low : ℕ) (test : Bool) → IfOk (if test then Err cause.DivideByZero else Ok (writes_both pc high low)) (Misses text)
divides_if text pc high low true = tt
divides_if text pc high low false = unwritten text (writes_both pc high low) refl

branches_miss : (text : TextRange) (test : Bool) (pc next : ℕ) → Misses text (branches test pc next)
branches_miss text true pc next = unwritten text (branches true pc next) refl
branches_miss text false pc next = unwritten text (branches false pc next) refl

moves_miss : (text : TextRange) (part : Half) (pc value : ℕ) → Misses text (moves_to part pc value)
moves_miss text half.High pc value = unwritten text (moves_to half.High pc value) refl
moves_miss text half.Low pc value = unwritten text (moves_to half.Low pc value) refl

loads_miss : (text : TextRange) (pc size a : ℕ) (regs : List (ℕ × ℕ)) → IfOk (aligned size a (Ok (loads pc a regs))) (Misses text)
loads_miss text pc size a regs = aligned_if text a (Ok (loads pc a regs)) _ (unwritten text (loads pc a regs) refl)

outcome_misses : (does : Action) (s : Reader) (i : Instr) (pc : ℕ) (text : TextRange) → IfOk (outcome_of does s i pc text) (Misses text)
outcome_misses action.Nothing s i pc text = λ w is. cc
outcome_misses action.Float s i pc text = tt
outcome_misses action.Break s i pc text = tt
outcome_misses (action.Jump keeps) s i pc text = λ w is. cc
outcome_misses (action.JumpRegister keeps) s i pc text = λ w is. cc
outcome_misses (action.Branch test) s i pc text = branches_miss text (is_taken test (s.regs i.rs) (s.regs i.rt)) pc (branch_target pc i.imm)
outcome_misses (action.Compute f form) s i pc text = λ w is. cc
outcome_misses (action.Exact f form) s i pc text = exactly_if text _ _ _ _
outcome_misses (action.Multiply sign) s i pc text = λ w is. cc
outcome_misses (action.Divide sign) s i pc text = divides_if text _ _ _ _
outcome_misses (action.MoveFrom part) s i pc text = λ w is. cc
outcome_misses (action.MoveTo part) s i pc text = moves_miss text part pc _
outcome_misses (action.Load kind form) s i pc text = loads_miss text pc (loaded_size kind) (address_of form s i) _
outcome_misses (action.LoadPair form) s i pc text = loads_miss text pc 8 (address_of form s i) _
outcome_misses (action.LoadPart part) s i pc text = λ w is. cc
outcome_misses (action.Store kind form) s i pc text =
    let a : ℕ = address_of form s i in
    aligned_if text a (stores text pc a a (stored_of kind s i.rt)) _ (stores_miss text pc a a (stored_of kind s i.rt))
outcome_misses (action.StorePart part) s i pc text =
    let a : ℕ = address_of address.Offset s i in
    stores_miss text pc a (part_start part s.big a) (part_stored part s.big (a % 4) (s.regs i.rt))

effect_misses : (s : Reader) (i : Instr) (pc : ℕ) (text : TextRange) → IfOk (effect_of s i pc text) (Misses text)
unfolding effect_of
effect_misses s i pc text = outcome_misses (action_of i.op) s i pc text

-- ---- what is read

-- a byte of text reads the same after a write that misses it
byte_kept : (f : ℕ → ℕ) (addr : ℕ) (content : List ℕ) (start end a : ℕ) → meets (record { start = start; end = end }) addr (length content) ≡ false → start ≤ a → a < end → bytes_with f addr content a ≡ f a
byte_kept f addr content start end a misses low high = grind (arith, nat_tests)

write_kept : (s : Reader) (mem : Option MemWrite) (text : TextRange) (a : ℕ) → ForSome mem (λ w. meets text w.addr (length w.bytes.items) ≡ false) → text.start ≤ a → a < text.end → (with_write s mem).bytes a ≡ s.bytes a
write_kept s None text a misses low high = refl
write_kept s (Some w) text a misses low high = byte_kept s.bytes w.addr w.bytes.items text.start text.end a (misses w refl) low high

blocks_if : (text : TextRange) (f : ℕ → ℕ) (b : Block) (bs : List Block) (a : ℕ) (test : Bool) → meets text b.addr (length b.bytes) ≡ test → (if test then Some (cause.TextWrite b.addr) else block_in_text text bs) ≡ None
    → text.start ≤ a → a < text.end → ((g : ℕ → ℕ) → block_in_text text bs ≡ None → blocks_written g bs a ≡ g a) → blocks_written f (b ∷ bs) a ≡ f a
blocks_if text f b bs a true is none low high rest = cc
blocks_if text f b bs a false is none low high rest =
    rest (bytes_with f b.addr b.bytes) none ∙ byte_kept f b.addr b.bytes text.start text.end a is low high

-- and after blocks that miss it
blocks_kept : (text : TextRange) (blocks : List Block) (a : ℕ) → text.start ≤ a → a < text.end → (f : ℕ → ℕ) → block_in_text text blocks ≡ None → blocks_written f blocks a ≡ f a
blocks_kept text [] a low high f none = refl
blocks_kept text (b ∷ bs) a low high f none = blocks_if text f b bs a (meets text b.addr (length b.bytes)) refl none low high (blocks_kept text bs a low high)

zero_with : (regs : ℕ → ℕ) (r value : ℕ) → regs_with regs r value 0 ≡ regs 0
zero_with regs r value = grind (arith, nat_tests)

zero_kept : (regs : ℕ → ℕ) (ws : List (ℕ × ℕ)) → regs_after regs ws 0 ≡ regs 0
zero_kept regs [] = refl
zero_kept regs (w ∷ ws) = zero_kept (regs_with regs w.0 w.1) ws ∙ zero_with regs w.0 w.1

-- ---- steps

moved_keeps : (s : State) (e : Changes) → Misses (range_of s.text) e → KeepsOn s (moved s e)
moved_keeps s e misses = record {
  icnt = refl;
  text = refl;
  big = refl;
  used = omega arith;
  in_text = λ a low high. write_kept s.reads e.mem (range_of s.text) a misses low high;
  zero = λ h. zero_kept s.reads.regs e.regs.items ∙ h;
}

executed_keeps : (s : State) (i : Instr) (e : Result Changes Cause) → IfOk e (Misses (range_of s.text)) → StepKeeps s (executed s i e)
executed_keeps s i (Ok e) misses = moved_keeps s e misses
executed_keeps s i (Err why) misses = tt

unrecorded_keeps : (s : State) (i : Instr) (asked : Option ℕ) → StepKeeps s (unrecorded_as s i asked)
unrecorded_keeps s i None = tt
unrecorded_keeps s i (Some code) = record {
  icnt = refl;
  text = refl;
  big = refl;
  used = omega arith;
  in_text = λ a low high. refl;
  zero = λ h. h;
}

served_keeps : (s : State) (r : Record) → block_in_text (range_of s.text) r.out_blocks ≡ None → KeepsOn s (served s r)
served_keeps s r misses = record {
  icnt = refl;
  text = refl;
  big = refl;
  used = omega arith;
  in_text = λ a low high. blocks_kept (range_of s.text) r.out_blocks a low high s.reads.bytes misses;
  zero = λ h. zero_kept s.reads.regs r.outs ∙ h;
}

replayed_if : (s : State) (i : Instr) (r : Record) (m b : Option Cause) → block_in_text (range_of s.text) r.out_blocks ≡ b
    → StepKeeps s (unless m (unless b (Next (call_recorded s i (record { used = s.used; kind = r.kind; code = r.code }) r.outs) (served s r))))
replayed_if s i r (Some why) b is = tt
replayed_if s i r None (Some why) is = tt
replayed_if s i r None None is = served_keeps s r is

next_keeps : (s : State) (i : Instr) (next : Option Record) → StepKeeps s (replayed_next s i next)
next_keeps s i None = tt
next_keeps s i (Some r) = replayed_if s i r (mismatch (comparisons s r)) (block_in_text (range_of s.text) r.out_blocks) refl

called_if : (trace : Trace) (s : State) (i : Instr) (file : Bool) → StepKeeps s (if file then replayed_next s i (slice_get trace.records s.used) else unrecorded_as s i (exit_asked s))
called_if trace s i true = next_keeps s i (slice_get trace.records s.used)
called_if trace s i false = unrecorded_keeps s i (exit_asked s)

at_if : (trace : Trace) (s : State) (i : Instr) (call : Bool) → StepKeeps s (if call then called trace s i else executed s i (effect_of s.reads i s.pc (range_of s.text)))
at_if trace s i true = called_if trace s i trace.file
at_if trace s i false = executed_keeps s i (effect_of s.reads i s.pc (range_of s.text)) (effect_misses s.reads i s.pc (range_of s.text))

decoded_keeps : (trace : Trace) (s : State) (i : Option Instr) → StepKeeps s (step_decoded trace s i)
decoded_keeps trace s None = tt
decoded_keeps trace s (Some i) = at_if trace s i (is_call i.op)

fetched_keeps : (trace : Trace) (s : State) (words : Option (ℕ × ℕ)) → StepKeeps s (step_fetched trace s words)
fetched_keeps trace s None = tt
fetched_keeps trace s (Some words) = decoded_keeps trace s (decoded words.0 words.1)

running_keeps : (trace : Trace) (s : State) (ended : Option ℕ) → StepKeeps s (step_running trace s ended)
running_keeps trace s (Some code) = tt
running_keeps trace s None = fetched_keeps trace s (fetch s.text s.pc)

pub steps_keep : (trace : Trace) (s : State) → StepKeeps s (step_of trace s)
unfolding step_of
steps_keep trace s = running_keeps trace s s.ended
