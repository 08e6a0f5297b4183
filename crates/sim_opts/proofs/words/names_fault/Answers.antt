use Rattle.std.proofs.Common.{◌≡◌, ◌<◌, ◌≤◌, List, ℕ, length, map, get_or, ap, sym, ◌∙◌, arith}
use Rattle.std.specs.Prelude.{string_bytes}
use Rattle.std.proofs.lemmas.List.{length-map, get_or-map}
use Rattle.sim_opts.specs.Words.{names_fault}
use Rattle.sim_opts.proofs.Judged.{names_next, names_form, names_missing, names_extra, file, not_file}
use Rattle.sim_opts.proofs.words.names_fault.Goals as goal

pub returns-then-operands-place : goal.returns-then-operands-place
returns-then-operands-place c =
    let texts : List (List ℕ) = map string_bytes c.args.operands.now in
    let past : length texts ≤ c.loop-place.place = omega (arith, length-map c.args.operands.now string_bytes, c.if-operands-place.true) in
    names_missing c.args.names texts c.loop-place.place (names_fault c.args.names texts) c.loop-place-test.true past c.loop-place.invariant.0

pub returns-then-is_empty : goal.returns-then-is_empty
returns-then-is_empty c =
    let texts : List (List ℕ) = map string_bytes c.args.operands.now in
    let item = c.index-operands-place.result in
    let text = c.as_str.result.now in
    let inside : c.loop-place.place < length texts = omega (arith, length-map c.args.operands.now string_bytes, c.if-operands-place.false) in
    let here : text ≡ get_or texts c.loop-place.place text =
    c.as_str.ensures.value ∙ ap string_bytes c.index-operands-place.is ∙ sym (get_or-map string_bytes c.args.operands.now c.loop-place.place item text c.if-operands-place.false) in
    names_form c.args.names texts c.loop-place.place text (names_fault c.args.names texts) c.loop-place-test.true inside here
    (not_file text c.is_empty.result c.is_empty.ensures c.if-is_empty.true) c.loop-place.invariant.0

pub loop-place-preserved : goal.loop-place-preserved
loop-place-preserved c =
    let texts : List (List ℕ) = map string_bytes c.args.operands.now in
    let item = c.index-operands-place.result in
    let text = c.as_str.result.now in
    let inside : c.loop-place.place < length texts = omega (arith, length-map c.args.operands.now string_bytes, c.if-operands-place.false) in
    let here : text ≡ get_or texts c.loop-place.place text =
    c.as_str.ensures.value ∙ ap string_bytes c.index-operands-place.is ∙ sym (get_or-map string_bytes c.args.operands.now c.loop-place.place item text c.if-operands-place.false) in (
      names_next c.args.names texts c.loop-place.place text (names_fault c.args.names texts) c.loop-place-test.true inside here
          (file text c.is_empty.result c.is_empty.ensures c.if-is_empty.false) c.loop-place.invariant.0,
      omega arith,
    )

pub returns-else-operands-names : goal.returns-else-operands-names
returns-else-operands-names c =
    let texts : List (List ℕ) = map string_bytes c.args.operands.now in
    let many : c.args.names < length texts = omega (arith, length-map c.args.operands.now string_bytes, c.if-operands-names.false) in
    names_extra c.args.names texts c.loop-place.place (names_fault c.args.names texts) c.loop-place-test.false c.loop-place.invariant.1 many c.loop-place.invariant.0
