use Rattle.std.proofs.Common.{ℕ, List, ◌≡◌, ◌<◌, ◌∙◌, ap, subst, length, string_bytes, slice_index_or, String, Global, below_more, arith}
use Rattle.std.proofs.lemmas.List.{get_or_default}
use Rattle.ss_base.specs.Memory.{files_of}
use Rattle.pisa_cases.specs.Expected.{IsSame}
use Rattle.pisa_cases.proofs.case.are_held.Goals as goal

-- the file of this turn is held as it must be, and so are those before it
pub loop-name-preserved : goal.loop-name-preserved
loop-name-preserved c k d less =
    let At : List ℕ → Type 0 = λ name. IsSame (files_of c.args.shelf.now.files) (files_of c.args.held.now.files) name in
    let name : String Global → ℕ → List ℕ = λ e i. string_bytes {Z = Global} (slice_index_or c.args.names.now i e) in
    let Before : ℕ → Type 0 = λ i. (e : String Global) → At (name e i) in
    let small : c.loop-name.name-index < length c.args.names.now = omega arith in
    let held : At c.as_str.result.now = c.is_held.ensures c.if-not-is_held.false in
    let is : (e : String Global) → c.as_str.result.now ≡ name e c.loop-name.name-index = λ e. c.as_str.ensures.value
    ∙ ap (string_bytes {Z = Global}) (c.name-item.is ∙ get_or_default c.args.names.now c.loop-name.name-index c.name-item.result e small) in
    below_more Before c.loop-name.name-index (λ i before e. c.loop-name.invariant i e before) (λ e. subst At (is e) held) k less d
