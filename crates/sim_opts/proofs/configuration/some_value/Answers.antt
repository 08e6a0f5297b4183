use Rattle.std.proofs.Common.{◌≡◌, ◌<◌, ◌≤◌, List, ℕ, length, map, get_or, ap, sym, ◌∙◌, arith}
use Rattle.std.specs.Prelude.{string_bytes}
use Rattle.std.proofs.lemmas.List.{length-map, get_or-map}
use Rattle.sim_opts.specs.declared.table.Slot.TheVariants as slot
use Rattle.sim_opts.specs.Configuration.{is_reason, some_value}
use Rattle.sim_opts.proofs.LineWords.{some_next, some_hit, some_missing}
use Rattle.sim_opts.proofs.configuration.some_value.Goals as goal

pub returns-then-values-place : goal.returns-then-values-place
returns-then-values-place c =
    let texts : List (List ℕ) = map string_bytes c.args.values.now in
    let past : length texts ≤ c.loop-place.place = omega (arith, length-map c.args.values.now string_bytes, c.if-values-place.true) in
    some_missing c.args.reason c.args.slots.now texts c.loop-place.place slot.File (some_value c.args.reason c.args.slots.now texts) c.loop-place-test.true past c.loop-place.invariant.0

pub returns-then-is_reason : goal.returns-then-is_reason
returns-then-is_reason c =
    let texts : List (List ℕ) = map string_bytes c.args.values.now in
    let item = c.index-values-place.result in
    let text = c.as_str.result.now in
    let inside : c.loop-place.place < length texts = omega (arith, length-map c.args.values.now string_bytes, c.if-values-place.false) in
    let here : text ≡ get_or texts c.loop-place.place text =
    c.as_str.ensures.value ∙ ap string_bytes c.index-values-place.is ∙ sym (get_or-map string_bytes c.args.values.now c.loop-place.place item text c.if-values-place.false) in
    some_hit c.args.reason c.args.slots.now texts c.loop-place.place _ text (some_value c.args.reason c.args.slots.now texts) c.loop-place-test.true inside here
    (sym (c.is_reason.ensures ∙ ap (is_reason c.args.reason) c.value_fault.ensures) ∙ c.if-is_reason.true) c.loop-place.invariant.0

pub loop-place-preserved : goal.loop-place-preserved
loop-place-preserved c =
    let texts : List (List ℕ) = map string_bytes c.args.values.now in
    let item = c.index-values-place.result in
    let text = c.as_str.result.now in
    let inside : c.loop-place.place < length texts = omega (arith, length-map c.args.values.now string_bytes, c.if-values-place.false) in
    let here : text ≡ get_or texts c.loop-place.place text =
    c.as_str.ensures.value ∙ ap string_bytes c.index-values-place.is ∙ sym (get_or-map string_bytes c.args.values.now c.loop-place.place item text c.if-values-place.false) in (
      some_next c.args.reason c.args.slots.now texts c.loop-place.place _ text (some_value c.args.reason c.args.slots.now texts) c.loop-place-test.true inside here
          (sym (c.is_reason.ensures ∙ ap (is_reason c.args.reason) c.value_fault.ensures) ∙ c.if-is_reason.false) c.loop-place.invariant.0,
      omega (arith, c.if-values-place.false),
    )
