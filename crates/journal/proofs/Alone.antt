-- A single write to a file, as a shelf tells of it.
use Rattle.std.proofs.Common.{Bool, true, false, ◌≡◌, ◌≢◌, ◌++◌, ℕ, List, [], ◌∷◌, Some, Result, Ok, Err, refl, sym, ap, ◌∙◌, subst}
use Rattle.std.specs.Prelude.{bytes_eq, if◌then◌else◌}
use Rattle.std.proofs.lemmas.Slice.Eq.{bytes_eq-Decides}
use Rattle.ss_base.specs.Outside.{Files, bytes_at, PutCounts, Starts, Appends, OthersStay}
use Rattle.ss_base.specs.declared.fault.PutFault.TheVariants as put
use Rattle.journal.specs.declared.fault.Fault.{Fault}
use Rattle.journal.specs.declared.fault.Fault.TheVariants as fault
use Rattle.journal.specs.Write.{Write, Start, Append, Journal, fault_of, with_file, PartOfFiles, files_after}
use Rattle.journal.specs.View.{View, Stays, Failed, GaveUp, Writes}
use Rattle.journal.specs.Shelf.{put_result}
use Rattle.journal.specs.Fronts.{same_name}

-- ---- a journal of one write

not_longer : (later : Journal) (next : Write) (done : Journal) → [] ≡ later ++ next ∷ done → ⊥
not_longer [] next done e = cc
not_longer (x ∷ later) next done e = cc

pub alone : (w : Write) (later : Journal) (next : Write) (done : Journal) → w ∷ [] ≡ later ++ next ∷ done → (done ≡ []) × (next ≡ w)
alone w [] next done e = (cc, cc)
alone w (x ∷ later) next done e = absurd (not_longer later next done (cc))

-- a write of a file fails as the shelf
pub file_fault : {O : Type 0} (v : View O) (a b : O) (w : Write) (f : Fault) → fault_of w ≡ fault.Shelf → Failed v a (w ∷ []) f b → f ≡ fault.Shelf
file_fault v a b w f shelf q = q.by ∙ ap fault_of (alone w q.later q.next q.done q.all).1 ∙ shelf

failed_part : {O : Type 0} (v : View O) (a b : O) (w : Write) (f : Fault) → Failed v a (w ∷ []) f b → v.tells a → PartOfFiles w (v.files a) (v.files b)
failed_part v a b w f q t =
    let one = alone w q.later q.next q.done q.all in
    subst (λ x. PartOfFiles x (v.files a) (v.files b)) one.1 (subst (λ h. PartOfFiles q.next (files_after h (v.files a)) (v.files b)) one.0 (q.files t))

left_same : {O : Type 0} (v : View O) (a b : O) (w : Write) → GaveUp v a (w ∷ []) fault.OutOfMemory b → v.tells a → v.files b ≡ v.files a
left_same v a b w q t =
    let one = alone w q.later q.next q.done q.all in
    subst (λ h. v.files b ≡ files_after h (v.files a)) one.0 (q.holds.files t)

-- ---- what stays

pub alone_stays : {O T : Type 0} (v : View O) (a b : O) (w : Write) (r : Result T Fault) → Writes v a (w ∷ []) b r → Stays v a b
alone_stays v a b w (Ok x) h = h.holds.stays
alone_stays v a b w (Err fault.Shelf) h = h.stays
alone_stays v a b w (Err fault.Prog) h = h.stays
alone_stays v a b w (Err fault.Stat) h = h.stays
alone_stays v a b w (Err fault.OutOfMemory) h = h.holds.stays

shelf_is_prog : fault.Prog ≡ fault.Shelf → ⊥
shelf_is_prog e = cc

shelf_is_stat : fault.Stat ≡ fault.Shelf → ⊥
shelf_is_stat e = cc

pub alone_counts : {O T : Type 0} (v : View O) (a b : O) (w : Write) (r : Result T Fault) → fault_of w ≡ fault.Shelf → Writes v a (w ∷ []) b r → PutCounts (v.faults a) (v.faults b) (put_result r)
alone_counts v a b w (Ok x) s h = ap (λ (c : ℕ × ℕ × ℕ). c.0) h.holds.counts
alone_counts v a b w (Err fault.Shelf) s h = h.counts.0
alone_counts v a b w (Err fault.Prog) s h = absurd (shelf_is_prog (file_fault v a b w fault.Prog s h))
alone_counts v a b w (Err fault.Stat) s h = absurd (shelf_is_stat (file_fault v a b w fault.Stat s h))
alone_counts v a b w (Err fault.OutOfMemory) s h = ap (λ (c : ℕ × ℕ × ℕ). c.0) h.holds.counts

not_failed : {T : Type 0} (x : T) → Ok x ≡ Err put.Failed → ⊥
not_failed x e = cc

wanting : {T : Type 0} → let r : Result T _ = Err put.OutOfMemory in r ≡ Err put.Failed → ⊥
wanting e = cc

pub alone_calm : {O T : Type 0} (v : View O) (a b : O) (w : Write) (r : Result T Fault) → fault_of w ≡ fault.Shelf → v.calm a → Writes v a (w ∷ []) b r → put_result r ≢ Err put.Failed
alone_calm v a b w (Ok x) s k h = not_failed x
alone_calm v a b w (Err fault.Shelf) s k h = λ e. h.calm k
alone_calm v a b w (Err fault.Prog) s k h = absurd (shelf_is_prog (file_fault v a b w fault.Prog s h))
alone_calm v a b w (Err fault.Stat) s k h = absurd (shelf_is_stat (file_fault v a b w fault.Stat s h))
alone_calm v a b w (Err fault.OutOfMemory) s k h = wanting

-- ---- what the files hold

put_at : (name x : List ℕ) (files : Files) → with_file name x files name ≡ Some x
put_at name x files = ap (λ (b : Bool). if b then Some x else files name) (same_name name)

differs : (name other : List ℕ) → other ≢ name → bytes_eq other name ≡ false
differs name other d = elim (bytes_eq other name) as (λ (b : Bool). (b ≡ true → other ≡ name) → b ≡ false) [ true ↦ λ f. absurd (d (f refl)) | false ↦ λ f. refl ] ((bytes_eq-Decides other name).0)

put_others : (name x : List ℕ) (files : Files) → OthersStay files name (with_file name x files)
put_others name x files other d = ap (λ (b : Bool). if b then Some x else files other) (differs name other d)

same_others : (old new : Files) (name : List ℕ) → new ≡ old → OthersStay old name new
same_others old new name e other d = ap (λ (f : Files). f other) e

pub start_others : {O T : Type 0} (v : View O) (a b : O) (name : List ℕ) (r : Result T Fault) → v.tells a → Writes v a (Start name ∷ []) b r → OthersStay (v.files a) name (v.files b)
start_others v a b name (Ok x) t h = subst (λ f. OthersStay (v.files a) name f) (sym (h.holds.files t)) (put_others name [] (v.files a))
start_others v a b name (Err fault.Shelf) t h = (failed_part v a b (Start name) fault.Shelf h t).0
start_others v a b name (Err fault.Prog) t h = (failed_part v a b (Start name) fault.Prog h t).0
start_others v a b name (Err fault.Stat) t h = (failed_part v a b (Start name) fault.Stat h t).0
start_others v a b name (Err fault.OutOfMemory) t h = same_others (v.files a) (v.files b) name (left_same v a b (Start name) h t)

pub start_file : {O T : Type 0} (v : View O) (a b : O) (name : List ℕ) (r : Result T Fault) → v.tells a → Writes v a (Start name ∷ []) b r → Starts (v.files a) name (v.files b) (put_result r)
start_file v a b name (Ok x) t h = ap (λ (f : Files). f name) (h.holds.files t) ∙ put_at name [] (v.files a)
start_file v a b name (Err fault.Shelf) t h = (failed_part v a b (Start name) fault.Shelf h t).1
start_file v a b name (Err fault.Prog) t h = (failed_part v a b (Start name) fault.Prog h t).1
start_file v a b name (Err fault.Stat) t h = (failed_part v a b (Start name) fault.Stat h t).1
start_file v a b name (Err fault.OutOfMemory) t h = ap (λ (f : Files). f name) (left_same v a b (Start name) h t)

pub append_others : {O T : Type 0} (v : View O) (a b : O) (name bytes : List ℕ) (r : Result T Fault) → v.tells a → Writes v a (Append name bytes ∷ []) b r → OthersStay (v.files a) name (v.files b)
append_others v a b name bytes (Ok x) t h = subst (λ f. OthersStay (v.files a) name f) (sym (h.holds.files t)) (put_others name (bytes_at (v.files a) name ++ bytes) (v.files a))
append_others v a b name bytes (Err fault.Shelf) t h = (failed_part v a b (Append name bytes) fault.Shelf h t).0
append_others v a b name bytes (Err fault.Prog) t h = (failed_part v a b (Append name bytes) fault.Prog h t).0
append_others v a b name bytes (Err fault.Stat) t h = (failed_part v a b (Append name bytes) fault.Stat h t).0
append_others v a b name bytes (Err fault.OutOfMemory) t h = same_others (v.files a) (v.files b) name (left_same v a b (Append name bytes) h t)

pub append_file : {O T : Type 0} (v : View O) (a b : O) (name bytes : List ℕ) (r : Result T Fault) → v.tells a → Writes v a (Append name bytes ∷ []) b r → Appends (v.files a) name bytes (v.files b) (put_result r)
append_file v a b name bytes (Ok x) t h = ap (λ (f : Files). f name) (h.holds.files t) ∙ put_at name (bytes_at (v.files a) name ++ bytes) (v.files a)
append_file v a b name bytes (Err fault.Shelf) t h = (failed_part v a b (Append name bytes) fault.Shelf h t).1
append_file v a b name bytes (Err fault.Prog) t h = (failed_part v a b (Append name bytes) fault.Prog h t).1
append_file v a b name bytes (Err fault.Stat) t h = (failed_part v a b (Append name bytes) fault.Stat h t).1
append_file v a b name bytes (Err fault.OutOfMemory) t h = ap (λ (f : Files). f name) (left_same v a b (Append name bytes) h t)
