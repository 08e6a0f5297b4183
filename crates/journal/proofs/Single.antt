-- Journals of one write that wasn't done.
use Rattle.std.proofs.Common.{◌≡◌, List, [], ◌∷◌, ℕ, Bool, true, false, refl, sym, append-nil, subst, ap}
use Rattle.std.proofs.Math.Path.{fun_ext}
use Rattle.ss_base.specs.Outside.{Files, OthersStay}
use Rattle.journal.specs.Write.{Write, fault_of, PartOfFiles, PartOfOutput, PartOfReport}
use Rattle.journal.specs.View.{View, Stays, Holds, Untouched, Failed, LeftOut, Raised, IsCalm, counts}
use Rattle.std.proofs.lemmas.Slice.Eq.{bytes_eq-Decides}
use Rattle.std.specs.Prelude.{bytes_eq}

differs : false ≡ true → ⊥
differs e = cc

same_by_name : (old : Files) (name : List ℕ) (new : Files) → OthersStay old name new → new name ≡ old name → (b : Bool) (other : List ℕ) → (b ≡ true → other ≡ name) → (other ≡ name → b ≡ true) → new other ≡ old other
same_by_name old name new others same true other is only = subst (λ n. new n ≡ old n) (sym (is refl)) same
same_by_name old name new others same false other is only = others other (λ e. differs (only e))

-- the named file and all others, as one function
pub same_files : (old : Files) (name : List ℕ) (new : Files) → OthersStay old name new → new name ≡ old name → new ≡ old
same_files old name new others same =
    fun_ext (λ other. same_by_name old name new others same (bytes_eq other name) other (bytes_eq-Decides other name).0 (bytes_eq-Decides other name).1)

-- three counts that differ at most in the first, which doesn't
pub same_counts : (m n p q : ℕ) → m ≡ n → let x : ℕ × ℕ × ℕ = (m, p, q) in let y : ℕ × ℕ × ℕ = (n, p, q) in x ≡ y
same_counts m n p q e = ap (λ (k : ℕ). let x : ℕ × ℕ × ℕ = (k, p, q) in x) e

-- no memory
pub none_done : {O : Type 0} (v : View O) (a : O) (w : Write) (b : O) → Holds v a [] b → Untouched v a (w ∷ []) b → LeftOut v a (w ∷ []) b
none_done v a w b holds untouched = record { done = []; next = w; later = []; all = refl; holds = holds; untouched = untouched }

-- a fault
pub one_failed : {O : Type 0} (v : View O) (a : O) (w : Write) (b : O) → Stays v a b → Raised (fault_of w) (counts v a) (counts v b) → (IsCalm v (fault_of w) a → ⊥)
    → (v.tells a → PartOfFiles w (v.files a) (v.files b)) → (v.prog.tells a → PartOfOutput w (v.prog.contents a) (v.prog.contents b)) → (v.stat.tells a → PartOfReport w (v.stat.contents a) (v.stat.contents b))
    → Untouched v a (w ∷ []) b → Failed v a (w ∷ []) (fault_of w) b
one_failed v a w b stays raised calm files output report untouched = record {
  done = [];
  next = w;
  later = [];
  all = refl;
  by = refl;
  stays = stays;
  counts = raised;
  calm = calm;
  files = files;
  output = λ t. subst (λ l. PartOfOutput w l (v.prog.contents b)) (sym (append-nil (v.prog.contents a))) (output t);
  report = λ t. subst (λ l. PartOfReport w l (v.stat.contents b)) (sym (append-nil (v.stat.contents a))) (report t);
  untouched = untouched;
}
