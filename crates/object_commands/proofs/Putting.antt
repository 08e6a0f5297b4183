-- Lemmas on pieces of a listing that are put one after the other.
use Rattle.std.proofs.Common.{◌≡◌, ℕ, ◌+◌, ◌-◌, ◌≤◌, List, [], ◌∷◌, ◌++◌, sym, ap, ◌∙◌, subst, arith, add-one}
use Rattle.ecoff_load.specs.declared.image.Text.{Text}
use Rattle.journal.specs.declared.fault.Fault.{Fault}
use Rattle.journal.specs.Write.{Output}
use Rattle.journal.specs.View.{View, Wrote, GaveUp}
use Rattle.journal.specs.Laws.{wrote_none, wrote_next, gave_up_next, gave_up_within}
use Rattle.object_commands.specs.Listing.{piece_of, pieces_put}
use Rattle.object_commands.proofs.Listed.{no_pieces, next_piece, pieces_more}

-- before the first piece
pub put_none : {O : Type 0} (v : View O) (a : O) (text : Text) → Wrote v a (pieces_put text 0) a
put_none v a text = subst (λ h. Wrote v a h a) (sym (no_pieces text)) (wrote_none v a)

one_more : (text : Text) (k : ℕ) (piece : List ℕ) → piece ≡ piece_of text k → Output piece ∷ pieces_put text k ≡ pieces_put text (k + 1)
one_more text k piece e = ap (λ x. Output x ∷ pieces_put text k) e ∙ sym (next_piece text k) ∙ ap (λ n. pieces_put text n) (sym (add-one k))

-- a piece was put behind those before it
pub put_next : {O : Type 0} (v : View O) (a b c : O) (text : Text) (k : ℕ) (piece : List ℕ) → piece ≡ piece_of text k
    → Wrote v a (pieces_put text k) b → Wrote v b (Output piece ∷ []) c → Wrote v a (pieces_put text (k + 1)) c
put_next v a b c text k piece e h w = subst (λ x. Wrote v a x c) (one_more text k piece e) (wrote_next v a b c (Output piece) (pieces_put text k) h w)

-- a piece that wasn't put whole leaves all n pieces given up
pub put_given_up : {O : Type 0} (v : View O) (a b c : O) (text : Text) (k n : ℕ) (piece : List ℕ) (f : Fault) → k + 1 ≤ n → piece ≡ piece_of text k
    → Wrote v a (pieces_put text k) b → GaveUp v b (Output piece ∷ []) f c → GaveUp v a (pieces_put text n) f c
put_given_up v a b c text k n piece f l e h g =
    let more = pieces_more text (k + 1) (n - (k + 1)) in
    let sum : n - (k + 1) + (k + 1) ≡ n = omega (arith, l) in
    let all : more.0 ++ pieces_put text (k + 1) ≡ pieces_put text n = sym more.1 ∙ ap (λ x. pieces_put text x) sum in
    let cut : GaveUp v a (pieces_put text (k + 1)) f c = subst (λ x. GaveUp v a x f c) (one_more text k piece e) (gave_up_next v a b c (Output piece) (pieces_put text k) f h g) in
    subst (λ x. GaveUp v a x f c) all (gave_up_within v a c (pieces_put text (k + 1)) more.0 f cut)
