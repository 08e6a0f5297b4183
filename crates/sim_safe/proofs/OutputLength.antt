-- The bytes that a call of a trace emits are few.
use Rattle.std.specs.Prelude.{◌≡◌, ◌<◌, ◌≤◌, ◌+◌, ◌*◌, ◌^◌, ℕ, zero, suc, List, [], ◌∷◌, length, Option, Some, None, slice_get, ◌++◌, drop, get_or}
use Rattle.std.specs.List.{flat_map}
use Rattle.std.proofs.Common.{refl, ap, ◌∙◌, subst, inl, inr, arith, length-append, drop-cons}
use Rattle.event_trace.specs.declared.trace.CallKind.{CallKind}
use Rattle.event_trace.specs.declared.trace.CallKind.TheVariants as kind
use Rattle.event_trace.specs.declared.trace.Block.{Block}
use Rattle.event_trace.specs.declared.trace.Record.{Record}
use Rattle.event_trace.specs.declared.trace.Trace.{Trace}
use Rattle.event_trace.specs.Grammar.{InTurn, IsBlock, IsRecord, next_block, next_record}
use Rattle.sim_safe.specs.declared.record.CallNote.{CallNote}
use Rattle.sim_safe.specs.declared.record.CommitRecord.{CommitRecord}
use Rattle.sim_safe.specs.Record.{IsRunTrace, call_by, item_of}
use Rattle.sim_safe.specs.Commit.{block_bytes, blocks_by, blocks_from, output_of}

-- blocks that fit have at most 65,536 bytes each
blocks_length : (least : ℕ) (blocks : List Block) → InTurn IsBlock next_block least blocks → length (flat_map block_bytes blocks) ≤ 65536 * length blocks
blocks_length least [] h = omega arith
blocks_length least (b ∷ bs) h = omega (arith, h.0.most, blocks_length (next_block b) bs h.1, length-append b.bytes (flat_map block_bytes bs))

record_length : (least : ℕ) (r : Record) → IsRecord least r → length (flat_map block_bytes r.in_blocks) ≤ 1048576
record_length least r h = omega (arith, h.in_blocks.0, blocks_length 0 r.in_blocks h.in_blocks.1)

none_is : {A : Type 0} (x : A) → None ≡ Some x → ⊥
none_is x e = cc

some_is : {A : Type 0} (x y : A) → Some x ≡ Some y → x ≡ y
some_is x y e = cc

records_length : (least : ℕ) (records : List Record) (k : ℕ) (r : Record) → InTurn IsRecord next_record least records → slice_get records k ≡ Some r → length (flat_map block_bytes r.in_blocks) ≤ 1048576
records_length least [] k r h e = absurd (none_is r e)
records_length least (x ∷ xs) zero r h e = record_length least r (subst (λ y. IsRecord least y) (some_is x r e) h.0)
records_length least (x ∷ xs) (suc k) r h e = records_length (next_record x) xs k r h.1 e

blocks_by_length : (k : CallKind) (by : Option Record) → ((r : Record) → by ≡ Some r → length (flat_map block_bytes r.in_blocks) ≤ 1048576) → length (flat_map block_bytes (blocks_by k by)) ≤ 1048576
blocks_by_length kind.Plain by f = omega arith
blocks_by_length kind.Exit by f = omega arith
blocks_by_length kind.Emit None f = omega arith
blocks_by_length kind.Emit (Some r) f = f r refl

called_length : (trace : Trace) (note : CallNote) (r : Record) → IsRunTrace trace → call_by trace (Some note) ≡ Some r → length (flat_map block_bytes r.in_blocks) ≤ 1048576
called_length trace note r (inl e) g = absurd (none_is r (subst (λ t. call_by t (Some note) ≡ Some r) e g))
called_length trace note r (inr t) g = records_length 0 trace.records note.used r t.records (rw t.file at g)

blocks_from_length : (trace : Trace) (call : Option CallNote) → IsRunTrace trace → length (flat_map block_bytes (blocks_from call (call_by trace call))) ≤ 1048576
blocks_from_length trace None h = omega arith
blocks_from_length trace (Some note) h = blocks_by_length note.kind (call_by trace (Some note)) (λ r g. called_length trace note r h g)

-- what an instruction emits has fewer bytes than a count can say
pub emitted_fits : (trace : Trace) (r : CommitRecord) → IsRunTrace trace → length (output_of (item_of trace r)) < 2 ^ 64
emitted_fits trace r h = omega (arith, blocks_from_length trace r.call h)

-- so have the bytes of the first blocks, with those of the next one
pub count_fits : (blocks : List Block) (k count : ℕ) (block : Block) (bytes : List ℕ)
    → count + length (flat_map block_bytes (drop k blocks)) ≡ length (flat_map block_bytes blocks) → length (flat_map block_bytes blocks) < 2 ^ 64
    → k < length blocks → block ≡ get_or blocks k block → bytes ≡ block.bytes → count + length bytes < 2 ^ 64
count_fits blocks k count block bytes all fits h next same =
    let this : List ℕ = (get_or blocks k block).bytes in
    let rest : List ℕ = flat_map block_bytes (drop (suc k) blocks) in
    let cut : length (flat_map block_bytes (drop k blocks)) ≡ length (this ++ rest) = ap (λ xs. length (flat_map block_bytes xs)) (drop-cons blocks k block h) in
    let here : length bytes ≡ length this = ap length same ∙ ap (λ (b : Block). length b.bytes) next in
    omega (arith, all, fits, cut, here, length-append this rest)
