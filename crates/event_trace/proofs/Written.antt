-- What is written, piece by piece.
use Rattle.std.proofs.Common.{◌≡◌, ℕ, zero, suc, ◌+◌, ◌<◌, List, [], ◌∷◌, ◌++◌, length, get_or, take, sym, ap, subst, ◌∙◌, append_assoc, arith}
use Rattle.std.specs.Int.{w32, w64, to_le_bytes}
use Rattle.std.specs.List.{flat_map}
use Rattle.std.proofs.lemmas.List.{append-nil, take_more}
use Rattle.std.proofs.lemmas.List.Concat.{flat_map-append}
use Rattle.event_trace.specs.declared.trace.Block.{Block}
use Rattle.event_trace.specs.declared.trace.Record.{Record}
use Rattle.event_trace.specs.declared.trace.Trace.{Trace}
use Rattle.event_trace.specs.Grammar.{magic, order_bytes, start_bytes, counts_bytes, head_bytes, register_bytes, block_bytes, record_bytes, InTurn}

-- an item of a list, with the least number that it was judged by
pub in_turn_at : {A : Type 0} (Fits : ℕ → A → Type 0) (next : A → ℕ) (least : ℕ) (xs : List A) (k : ℕ) (x : A) → InTurn Fits next least xs → k < length xs → x ≡ get_or xs k x → (l : ℕ) × Fits l x
in_turn_at Fits next least [] k x h lt e = absurd (omega arith)
in_turn_at Fits next least (y ∷ ys) zero x h lt e = (least, subst (Fits least) (sym e) h.0)
in_turn_at Fits next least (y ∷ ys) (suc k) x h lt e = in_turn_at Fits next (next y) ys k x h.1 (omega arith) e

five : (x a b c z d : List ℕ) → ((((x ++ a) ++ b) ++ c) ++ z) ++ d ≡ x ++ ((((a ++ b) ++ c) ++ z) ++ d)
five x a b c z d = simp append_assoc

pub head_laid : (call : Record) (x x1 x2 x3 x4 t0 t1 t2 : List ℕ) → t0 ≡ to_le_bytes w64 call.icnt → t1 ≡ to_le_bytes w32 call.pc → t2 ≡ to_le_bytes w32 call.code → x1 ≡ x ++ t0 → x2 ≡ x1 ++ t1 → x3 ≡ x2 ++ counts_bytes call ++ (0 ∷ 0 ∷ 0 ∷ []) → x4 ≡ x3 ++ t2 → x4 ≡ x ++ head_bytes call
head_laid call x x1 x2 x3 x4 t0 t1 t2 e0 e1 e2 w1 w2 w3 w4 =
    let zeros = 0 ∷ 0 ∷ 0 ∷ [] in
    let counts = counts_bytes call in
    w4 ∙ ap (λ (t : List ℕ). x3 ++ t) e2
    ∙ ap (λ (t : List ℕ). t ++ to_le_bytes w32 call.code) (w3 ∙ ap (λ (t : List ℕ). (t ++ counts) ++ zeros) (w2 ∙ ap (λ (t : List ℕ). x1 ++ t) e1 ∙ ap (λ (t : List ℕ). t ++ to_le_bytes w32 call.pc) (w1 ∙ ap (λ (t : List ℕ). x ++ t) e0)))
    ∙ five x (to_le_bytes w64 call.icnt) (to_le_bytes w32 call.pc) counts zeros (to_le_bytes w32 call.code)

pub record_laid : (call : Record) (x x1 x2 x3 x4 x5 : List ℕ) (ins outs : List (ℕ × ℕ)) (in_blocks out_blocks : List Block) → ins ≡ call.ins → in_blocks ≡ call.in_blocks → outs ≡ call.outs → out_blocks ≡ call.out_blocks → x1 ≡ x ++ head_bytes call → x2 ≡ x1 ++ flat_map register_bytes ins → x3 ≡ x2 ++ flat_map block_bytes in_blocks → x4 ≡ x3 ++ flat_map register_bytes outs → x5 ≡ x4 ++ flat_map block_bytes out_blocks → x5 ≡ x ++ record_bytes call
record_laid call x x1 x2 x3 x4 x5 ins outs in_blocks out_blocks e1 e2 e3 e4 w1 w2 w3 w4 w5 =
    w5 ∙ ap (λ (l : List Block). x4 ++ flat_map block_bytes l) e4
    ∙ ap (λ (t : List ℕ). t ++ flat_map block_bytes call.out_blocks) (w4 ∙ ap (λ (l : List (ℕ × ℕ)). x3 ++ flat_map register_bytes l) e3
    ∙ ap (λ (t : List ℕ). t ++ flat_map register_bytes call.outs) (w3 ∙ ap (λ (l : List Block). x2 ++ flat_map block_bytes l) e2
    ∙ ap (λ (t : List ℕ). t ++ flat_map block_bytes call.in_blocks) (w2 ∙ ap (λ (l : List (ℕ × ℕ)). x1 ++ flat_map register_bytes l) e1
    ∙ ap (λ (t : List ℕ). t ++ flat_map register_bytes call.ins) w1)))
    ∙ five x (head_bytes call) (flat_map register_bytes call.ins) (flat_map block_bytes call.in_blocks) (flat_map register_bytes call.outs) (flat_map block_bytes call.out_blocks)

four : (x a b c d : List ℕ) → (((x ++ a) ++ b) ++ c) ++ d ≡ x ++ (((a ++ b) ++ c) ++ d)
four x a b c d = simp append_assoc

pub start_laid : (trace : Trace) (x x1 x2 x3 x4 t : List ℕ) (records : List Record) → records ≡ trace.records → t ≡ to_le_bytes w32 (length records) → x1 ≡ x ++ magic → x2 ≡ x1 ++ ((48 + trace.version) ∷ []) → x3 ≡ x2 ++ t → x4 ≡ x3 ++ order_bytes trace.version trace.big → x4 ≡ x ++ start_bytes trace
start_laid trace x x1 x2 x3 x4 t records e0 e1 w1 w2 w3 w4 =
    let digit : List ℕ = (48 + trace.version) ∷ [] in
    let count : t ≡ to_le_bytes w32 (length trace.records) = e1 ∙ ap (λ (l : List Record). to_le_bytes w32 (length l)) e0 in
    w4 ∙ ap (λ (y : List ℕ). y ++ order_bytes trace.version trace.big) (w3 ∙ ap (λ (y : List ℕ). x2 ++ y) count
    ∙ ap (λ (y : List ℕ). y ++ to_le_bytes w32 (length trace.records)) (w2 ∙ ap (λ (y : List ℕ). y ++ digit) w1))
    ∙ four x magic digit (to_le_bytes w32 (length trace.records)) (order_bytes trace.version trace.big)

-- one item more of a list
pub one_more : {A : Type 0} (text : A → List ℕ) (xs : List A) (k : ℕ) (x : A) (before now new : List ℕ) → k < length xs → x ≡ get_or xs k x → now ≡ before ++ flat_map text (take k xs) → new ≡ now ++ text x → new ≡ before ++ flat_map text (take (k + 1) xs)
one_more {A = A} text xs k x before now new lt e written put =
    put ∙ ap (λ (t : List ℕ). t ++ text x) written
    ∙ append_assoc before (flat_map text (take k xs)) (text x)
    ∙ ap (λ (t : List ℕ). before ++ t) (sym (
    ap (flat_map text) (take_more xs k x lt ∙ ap (λ (y : A). take k xs ++ y ∷ []) (sym e))
    ∙ flat_map-append text (take k xs) (x ∷ [])
    ∙ ap (λ (t : List ℕ). flat_map text (take k xs) ++ t) (append-nil (text x))))
