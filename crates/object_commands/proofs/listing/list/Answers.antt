use Rattle.std.proofs.Common.{◌≡◌, ◌+◌, ◌-◌, ◌*◌, ◌/◌, ◌≤◌, length, refl, ap, ◌∙◌, arith}
use Rattle.journal.specs.declared.fault.Fault.TheVariants as fault
use Rattle.journal.specs.Write.{Output}
use Rattle.journal.specs.Laws.{gave_up_none}
use Rattle.object_commands.specs.Listing.{instruction_count, lines_from, lines_in, piece_of}
use Rattle.object_commands.proofs.Putting.{put_none, put_next, put_given_up}
use Rattle.object_commands.proofs.listing.list.Goals as goal

pub loop-k-init : goal.loop-k-init
loop-k-init g c = put_none _ _ c.args.text.now

pub loop-k-preserved : goal.loop-k-preserved
loop-k-preserved g c =
    let text = c.args.text.now in
    let k = c.loop-k.k in
    let bytes : length c.as_slice.result.now ≡ length text.bytes = ap length c.as_slice.ensures in
    let count : c.min.result - 1024 * k ≡ lines_in text (k + 1) - 1024 * k = omega (arith, bytes, c.min.ensures) in
    let piece : c.as_slice-in-Ok.result.now ≡ piece_of text k = c.as_slice-in-Ok.ensures.value ∙ c.in-Ok.ensures ∙ ap (λ n. lines_from text (1024 * k) n) count in
    put_next _ _ c.loop-k.outside _ text k c.as_slice-in-Ok.result.now piece c.loop-k.invariant c.in-Ok-put_output.ensures

pub returns-in-Err-put_output : goal.returns-in-Err-put_output
returns-in-Err-put_output g c =
    let text = c.args.text.now in
    let k = c.loop-k.k in
    let bytes : length c.as_slice.result.now ≡ length text.bytes = ap length c.as_slice.ensures in
    let count : c.min.result - 1024 * k ≡ lines_in text (k + 1) - 1024 * k = omega (arith, bytes, c.min.ensures) in
    let piece : c.as_slice-in-Ok.result.now ≡ piece_of text k = c.as_slice-in-Ok.ensures.value ∙ c.in-Ok.ensures ∙ ap (λ n. lines_from text (1024 * k) n) count in
    let within : k + 1 ≤ (instruction_count text + 1023) / 1024 = omega (arith, bytes, c.loop-k-test.true, c.div_ceil-k-end.ensures) in
    put_given_up _ _ c.loop-k.outside _ text k _ c.as_slice-in-Ok.result.now c.in-Err-put_output.fault within piece c.loop-k.invariant c.in-Err-put_output.ensures

pub returns-in-Err : goal.returns-in-Err
returns-in-Err g c =
    let text = c.args.text.now in
    let k = c.loop-k.k in
    let bytes : length c.as_slice.result.now ≡ length text.bytes = ap length c.as_slice.ensures in
    let within : k + 1 ≤ (instruction_count text + 1023) / 1024 = omega (arith, bytes, c.loop-k-test.true, c.div_ceil-k-end.ensures) in
    put_given_up _ _ c.loop-k.outside _ text k _ (piece_of text k) fault.OutOfMemory within refl c.loop-k.invariant (gave_up_none _ _ (Output (piece_of text k)) _)
