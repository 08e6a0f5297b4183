-- What a step that is done says of its instruction, and what a look ahead says of the step.
use Rattle.std.proofs.Common.{◌≡◌, ℕ, ◌+◌, Bool, true, false, cond, List, Option, Some, None, Ok, Err, Result, refl, sym, ap, ◌∙◌, subst}
use Rattle.std.specs.Prelude.{◌&&◌, ◌||◌, not, is_some, slice_get, unwrap_or}
use Rattle.pisa_isa.specs.declared.instr.Instr.{Instr}
use Rattle.pisa_isa.specs.declared.instr.Op.{Op}
use Rattle.pisa_isa.specs.declared.instr.Op.TheVariants as op
use Rattle.pisa_isa.specs.declared.classes.AccessKind.{AccessKind}
use Rattle.pisa_isa.specs.declared.classes.AccessKind.TheVariants as access
use Rattle.pisa_isa.specs.Classes.{access_of}
use Rattle.pisa_isa.specs.Coding.{IsWellFormed, decoded}
use Rattle.pisa_isa.specs.CodingLaws.{decoded_well_formed}
use Rattle.pisa_step.specs.declared.cause.Cause.{Cause}
use Rattle.pisa_step.specs.declared.changes.Changes.{Changes}
use Rattle.pisa_step.specs.Dependence.{Accesses, effective_address}
use Rattle.pisa_step.specs.Effect.{effect_of}
use Rattle.pisa_step.proofs.Going.{accesses}
use Rattle.ecoff_load.specs.Fetch.{fetch}
use Rattle.event_trace.specs.declared.trace.Record.{Record}
use Rattle.event_trace.specs.declared.trace.Trace.{Trace}
use Rattle.sim_safe.specs.declared.record.CallNote.{CallNote}
use Rattle.sim_safe.specs.declared.record.CommitRecord.{CommitRecord}
use Rattle.sim_safe.specs.declared.record.Peek.TheVariants as peek
use Rattle.sim_safe.specs.State.{State, range_of, state_of}
use Rattle.sim_safe.specs.Call.{comparisons, mismatch, block_in_text}
use Rattle.sim_safe.specs.Step.{Outcome, Next, Halt, call_recorded, called, executed, exit_asked, is_call, peek_of, peeked_at, replayed_next, served, step_at, step_decoded, step_fetched, step_of, step_running, unless, unrecorded_as}
use Rattle.ruu_core.specs.Window.{is_load_kind, is_store_kind}
use Rattle.ooo_table.specs.Execution.{is_load, is_store, uses_memory, address}
use Rattle.ooo_table.specs.Machine.{memory_use}
use Rattle.core_parts.specs.declared.parts.Parts.{Parts}
use Rattle.core_dispatch.specs.declared.verdict.Verdict.TheVariants as verdict
use Rattle.core_dispatch.specs.Verdict.{has_access, has_place, is_empty, right_verdict}

-- ---- accesses

-- a load or store has an address
abbrev pub HasUse : AccessKind → Option ℕ → Type 0
HasUse access.Nothing a = Unit {0}
HasUse access.Load a = is_some a ≡ true
HasUse access.Store a = is_some a ≡ true

pub use_load : (k : AccessKind) (a : Option ℕ) → HasUse k a → is_load_kind k ≡ is_load (memory_use k a)
use_load access.Nothing None h = refl
use_load access.Nothing (Some a) h = refl
use_load access.Load None h = absurd cc
use_load access.Load (Some a) h = refl
use_load access.Store None h = absurd cc
use_load access.Store (Some a) h = refl

pub use_store : (k : AccessKind) (a : Option ℕ) → HasUse k a → is_store_kind k ≡ is_store (memory_use k a)
use_store access.Nothing None h = refl
use_store access.Nothing (Some a) h = refl
use_store access.Load None h = absurd cc
use_store access.Load (Some a) h = refl
use_store access.Store None h = absurd cc
use_store access.Store (Some a) h = refl

pub use_memory : (k : AccessKind) (a : Option ℕ) → HasUse k a → (is_load_kind k || is_store_kind k) ≡ uses_memory (memory_use k a)
use_memory access.Nothing None h = refl
use_memory access.Nothing (Some a) h = refl
use_memory access.Load None h = absurd cc
use_memory access.Load (Some a) h = refl
use_memory access.Store None h = absurd cc
use_memory access.Store (Some a) h = refl

pub use_address : (k : AccessKind) (a : Option ℕ) → uses_memory (memory_use k a) ≡ true → address (memory_use k a) ≡ unwrap_or a 0
use_address access.Nothing None h = absurd cc
use_address access.Nothing (Some a) h = absurd cc
use_address access.Load None h = absurd cc
use_address access.Load (Some a) h = refl
use_address access.Store None h = absurd cc
use_address access.Store (Some a) h = refl

access_has : (k : AccessKind) (a : ℕ) (e : Changes) → Accesses k a e → HasUse k e.access
access_has access.Nothing a e h = tt
access_has access.Load a e h = ap is_some h.0
access_has access.Store a e h = ap is_some h.0

pub effect_uses : (s : State) (i : Instr) (e : Changes) → effect_of s.reads i s.pc (range_of s.text) ≡ Ok e → HasUse (access_of i.op) e.access
effect_uses s i e is = access_has (access_of i.op) (effective_address s.reads i) e (accesses s.reads i s.pc (range_of s.text) e is)

pub call_accesses : (o : Op) → is_call o ≡ true → access_of o ≡ access.Nothing
call_accesses op.Syscall e = refl
call_accesses _ e = let n : false ≡ true = e in cc

call_uses : (o : Op) (a : Option ℕ) → is_call o ≡ true → HasUse (access_of o) a
call_uses o a e = subst (λ k. HasUse k a) (sym (call_accesses o e)) tt

-- ---- steps

-- a step that did this
pub record Performs (s : State) (did : CommitRecord) (after : State) : Type 0 where
  pub ended : s.ended ≡ None
  pub words : ℕ × ℕ
  pub fetched : fetch s.text s.pc ≡ Some words
  pub codes : decoded words.0 words.1 ≡ Some did.instr
  pub call : is_some did.call ≡ is_call did.instr.op
  pub uses : HasUse (access_of did.instr.op) did.access
  pub text : after.text ≡ s.text
  pub count : after.icnt ≡ s.icnt + 1

-- what it did, by its instruction
pub record Is (i : Instr) (s : State) (did : CommitRecord) (after : State) : Type 0 where
  pub instr : did.instr ≡ i
  pub call : is_some did.call ≡ is_call i.op
  pub uses : HasUse (access_of i.op) did.access
  pub text : after.text ≡ s.text
  pub count : after.icnt ≡ s.icnt + 1

-- where an outcome is a step, it is of the instruction
abbrev pub IfNext : Instr → State → Outcome → Type 0
IfNext i s (Next did after) = Is i s did after
IfNext i s (Halt why) = Unit {0}

call_is : (s : State) (i : Instr) (note : CallNote) (regs : List (ℕ × ℕ)) (after : State) → is_call i.op ≡ true → after.text ≡ s.text → after.icnt ≡ s.icnt + 1 → Is i s (call_recorded s i note regs) after
call_is s i note regs after e same more = record { instr = refl; call = sym e; uses = call_uses i.op None e; text = same; count = more }

unrecorded_is : (s : State) (i : Instr) (asked : Option ℕ) → is_call i.op ≡ true → IfNext i s (unrecorded_as s i asked)
unrecorded_is s i None e = tt
unrecorded_is s i (Some code) e = call_is s i _ _ _ e refl refl

replayed_if : (s : State) (i : Instr) (r : Record) (m b : Option Cause) → is_call i.op ≡ true
    → IfNext i s (unless m (unless b (Next (call_recorded s i (record { used = s.used; kind = r.kind; code = r.code }) r.outs) (served s r))))
replayed_if s i r (Some why) b e = tt
replayed_if s i r None (Some why) e = tt
replayed_if s i r None None e = call_is s i (record { used = s.used; kind = r.kind; code = r.code }) r.outs (served s r) e refl refl

replayed_is : (s : State) (i : Instr) (r : Option Record) → is_call i.op ≡ true → IfNext i s (replayed_next s i r)
replayed_is s i None e = tt
replayed_is s i (Some r) e = replayed_if s i r (mismatch (comparisons s r)) (block_in_text (range_of s.text) r.out_blocks) e

pub called_is : (trace : Trace) (s : State) (i : Instr) → is_call i.op ≡ true → IfNext i s (called trace s i)
called_is trace s i e = by_file trace.file
  where
    by_file : (b : Bool) → IfNext i s (cond b (replayed_next s i (slice_get trace.records s.used)) (unrecorded_as s i (exit_asked s)))
    by_file true = replayed_is s i (slice_get trace.records s.used) e
    by_file false = unrecorded_is s i (exit_asked s) e

executed_is : (s : State) (i : Instr) (e : Result Changes Cause) → is_call i.op ≡ false → effect_of s.reads i s.pc (range_of s.text) ≡ e → IfNext i s (executed s i e)
executed_is s i (Ok e) no_call is = record { instr = refl; call = sym no_call; uses = effect_uses s i e is; text = refl; count = refl }
executed_is s i (Err why) no_call is = tt

pub step_is : (trace : Trace) (s : State) (i : Instr) → IfNext i s (step_at trace s i)
step_is trace s i = by_call (is_call i.op) refl
  where
    by_call : (b : Bool) → is_call i.op ≡ b → IfNext i s (cond b (called trace s i) (executed s i (effect_of s.reads i s.pc (range_of s.text))))
    by_call true e = called_is trace s i e
    by_call false e = executed_is s i (effect_of s.reads i s.pc (range_of s.text)) e refl

pub performs : (trace : Trace) (s : State) (did : CommitRecord) (after : State) → step_of trace s ≡ Next did after → Performs s did after
unfolding step_of
performs trace s did after e = running s.ended refl e
  where
    at : (words : ℕ × ℕ) (i : Instr) (o : Outcome) → s.ended ≡ None → fetch s.text s.pc ≡ Some words → decoded words.0 words.1 ≡ Some i → o ≡ Next did after → IfNext i s o → Performs s did after
    at words i (Halt why) a b d e k = absurd cc
    at words i (Next did' after') a b d e k =
        let same : did' ≡ did = cc in
        let later : after' ≡ after = cc in
        subst (λ d. Performs s d after) same (subst (Performs s did') later (record { ended = a; words = words; fetched = b; codes = d ∙ ap Some (sym k.instr); call = k.call ∙ ap (λ (x : Instr). is_call x.op) (sym k.instr); uses = subst (λ (x : Instr). HasUse (access_of x.op) did'.access) (sym k.instr) k.uses; text = k.text; count = k.count }))

    by_code : (words : ℕ × ℕ) (m : Option Instr) → decoded words.0 words.1 ≡ m → s.ended ≡ None → fetch s.text s.pc ≡ Some words → step_decoded trace s m ≡ Next did after → Performs s did after
    by_code words None d a b e = absurd cc
    by_code words (Some i) d a b e = at words i (step_at trace s i) a b d e (step_is trace s i)

    by_words : (m : Option (ℕ × ℕ)) → fetch s.text s.pc ≡ m → s.ended ≡ None → step_fetched trace s m ≡ Next did after → Performs s did after
    by_words None b a e = absurd cc
    by_words (Some words) b a e = by_code words (decoded words.0 words.1) refl a b e

    running : (m : Option ℕ) → s.ended ≡ m → step_running trace s m ≡ Next did after → Performs s did after
    running (Some code) a e = absurd cc
    running None a e = by_words (fetch s.text s.pc) refl a e

pub performed_formed : (s : State) (did : CommitRecord) (after : State) → Performs s did after → IsWellFormed did.instr
performed_formed s did after p = decoded_well_formed p.words.0 p.words.1 did.instr p.codes

-- ---- looks ahead

pub peeked_stop : (o : Outcome) (why : Cause) → peek.Stop why ≡ peek_of o → o ≡ Halt why
peeked_stop (Halt w) why e = let same : w ≡ why = cc in ap Halt same
peeked_stop (Next did after) why e = absurd (by_note did.call e)
  where
    by_note : (m : Option CallNote) → peek.Stop why ≡ peeked_at did.instr m → ⊥
    by_note None e = cc
    by_note (Some note) e = cc

pub record PeekedPlain (i : Instr) (did : CommitRecord) : Type 0 where
  pub instr : did.instr ≡ i
  pub call : did.call ≡ None

pub peeked_plain : (o : Outcome) (i : Instr) → peek.Plain i ≡ peek_of o → (did : CommitRecord) × (after : State) × (o ≡ Next did after) × PeekedPlain i did
peeked_plain (Halt w) i e = absurd cc
peeked_plain (Next did after) i e = (did, after, refl, by_note did.call refl e)
  where
    by_note : (m : Option CallNote) → did.call ≡ m → peek.Plain i ≡ peeked_at did.instr m → PeekedPlain i did
    by_note None f e = let same : did.instr ≡ i = cc in record { instr = same; call = f }
    by_note (Some note) f e = absurd cc

pub peeked_call : (o : Outcome) (note : CallNote) → peek.Call note ≡ peek_of o → (did : CommitRecord) × (after : State) × (o ≡ Next did after) × (is_some did.call ≡ true)
peeked_call (Halt w) note e = absurd cc
peeked_call (Next did after) note e = (did, after, refl, by_note did.call refl e)
  where
    by_note : (m : Option CallNote) → did.call ≡ m → peek.Call note ≡ peeked_at did.instr m → is_some did.call ≡ true
    by_note None f e = absurd cc
    by_note (Some n) f e = ap is_some f

-- ---- verdicts by looks ahead

module _ (trace : Trace) (n : ℕ) (called : Bool) (parts : Parts) where
  pub stop_verdict : (why : Cause) → peek.Stop why ≡ peek_of (step_of trace (state_of parts.arch))
      → right_verdict n called parts (step_of trace (state_of parts.arch)) ≡ cond (is_empty parts) (verdict.Stops why) verdict.Stays
  stop_verdict why e = ap (right_verdict n called parts) (peeked_stop (step_of trace (state_of parts.arch)) why e)

  pub plain_verdict : (i : Instr) → peek.Plain i ≡ peek_of (step_of trace (state_of parts.arch))
      → right_verdict n called parts (step_of trace (state_of parts.arch)) ≡ cond (has_place n called parts (has_access i)) verdict.Right verdict.Stays
  plain_verdict i e =
      let (did, after, is, p) = peeked_plain (step_of trace (state_of parts.arch)) i e in
      let no_call : is_call did.instr.op ≡ false = sym (performs trace (state_of parts.arch) did after is).call ∙ ap is_some p.call in
      ap (right_verdict n called parts) is
      ∙ (ap (λ b. cond (has_place n called parts (has_access did.instr) && (not b || is_empty parts)) verdict.Right verdict.Stays) no_call
      ∙ (ap (λ b. cond b verdict.Right verdict.Stays) (and_true (has_place n called parts (has_access did.instr)))
      ∙ ap (λ (x : Instr). cond (has_place n called parts (has_access x)) verdict.Right verdict.Stays) p.instr))
    where
      and_true : (b : Bool) → (b && true) ≡ b
      and_true true = refl
      and_true false = refl

  pub call_verdict : (note : CallNote) → peek.Call note ≡ peek_of (step_of trace (state_of parts.arch))
      → right_verdict n called parts (step_of trace (state_of parts.arch)) ≡ cond (has_place n called parts false && is_empty parts) verdict.Right verdict.Stays
  call_verdict note e =
      let (did, after, is, some) = peeked_call (step_of trace (state_of parts.arch)) note e in
      let calls : is_call did.instr.op ≡ true = sym (performs trace (state_of parts.arch) did after is).call ∙ some in
      ap (right_verdict n called parts) is
      ∙ (ap (λ b. cond (has_place n called parts (has_access did.instr) && (not b || is_empty parts)) verdict.Right verdict.Stays) calls
      ∙ ap (λ k. cond (has_place n called parts (is_load_kind k || is_store_kind k) && is_empty parts) verdict.Right verdict.Stays) (call_accesses did.instr.op calls))
