use Rattle.std.proofs.Common.{◌≡◌, ◌<◌, ◌≤◌, List, ℕ, Some, length, map, get_or, ap, sym, ◌∙◌, arith}
use Rattle.std.specs.Prelude.{string_bytes}
use Rattle.std.proofs.lemmas.List.{length-map, get_or-map}
use Rattle.sim_opts.specs.declared.table.Slot.TheVariants as slot
use Rattle.sim_opts.specs.Words.{values_fault, wrong}
use Rattle.sim_opts.proofs.Judged.{values_next, values_hit, values_missing}
use Rattle.sim_opts.proofs.words.values_fault.Goals as goal

pub returns-then-words-place-clause-value : goal.returns-then-words-place-clause-value
returns-then-words-place-clause-value c =
    let texts : List (List ℕ) = map string_bytes c.args.words.now in
    let past : length texts ≤ c.loop-place.place = omega (arith, length-map c.args.words.now string_bytes, c.if-words-place.true) in
    values_missing c.args.slots.now texts c.loop-place.place slot.File (values_fault c.args.slots.now texts) c.loop-place-test.true past c.loop-place.invariant.0

pub returns-in-Some-clause-value : goal.returns-in-Some-clause-value
returns-in-Some-clause-value c =
    let texts : List (List ℕ) = map string_bytes c.args.words.now in
    let item = c.index-words-place.result in
    let text = c.as_str.result.now in
    let inside : c.loop-place.place < length texts = omega (arith, length-map c.args.words.now string_bytes, c.if-words-place.false) in
    let here : text ≡ get_or texts c.loop-place.place text =
    c.as_str.ensures.value ∙ ap string_bytes c.index-words-place.is ∙ sym (get_or-map string_bytes c.args.words.now c.loop-place.place item text c.if-words-place.false) in
    ap (λ reason. Some (wrong c.loop-place.place reason)) c.reason_of.ensures
    ∙ values_hit c.args.slots.now texts c.loop-place.place _ text c.in-Some.why (values_fault c.args.slots.now texts) c.loop-place-test.true inside here
    (sym c.value_fault.ensures ∙ c.in-Some.is) c.loop-place.invariant.0

pub loop-place-preserved : goal.loop-place-preserved
loop-place-preserved c =
    let texts : List (List ℕ) = map string_bytes c.args.words.now in
    let item = c.index-words-place.result in
    let text = c.as_str.result.now in
    let inside : c.loop-place.place < length texts = omega (arith, length-map c.args.words.now string_bytes, c.if-words-place.false) in
    let here : text ≡ get_or texts c.loop-place.place text =
    c.as_str.ensures.value ∙ ap string_bytes c.index-words-place.is ∙ sym (get_or-map string_bytes c.args.words.now c.loop-place.place item text c.if-words-place.false) in (
      values_next c.args.slots.now texts c.loop-place.place _ text (values_fault c.args.slots.now texts) c.loop-place-test.true inside here
          (sym c.value_fault.ensures ∙ c.in_default.is) c.loop-place.invariant.0,
      omega (arith, c.if-words-place.false),
    )
