-- Walks over the ring from the oldest slot on.
use Rattle.std.proofs.Common.{◌≡◌, ℕ, ◌+◌, ◌<◌, ◌≤◌, Some, None, cond, Bool, true, false, List, [], ◌∷◌, ◌++◌, length, take, refl, sym, ap, ◌∙◌, arith}
use Rattle.std.specs.Prelude.{map, slice_get, Option, Result, ◌==◌, ◌||◌, nat_le, if◌then◌else◌}
use Rattle.std.specs.List.{list_any}
use Rattle.std.proofs.lemmas.List.{reverse-append, take_more}
use Rattle.std.proofs.lemmas.Option.{slice_get_within, get_or_from_slice_get}
use Rattle.lsq_core.specs.declared.slots.Slot.{Slot}
use Rattle.lsq_core.specs.Queue.{Entry, load_answer, answer, answer_after, oldest, forbids, forwards, or_else}
use Rattle.lsq_core.specs.Slots.{entry_of, entries_of, block_of, answer_for, up_to, is_of, holds_of}

pub one_more : (xs : List Slot) (i : ℕ) (x : Slot) → slice_get xs i ≡ Some x → entries_of (take (i + 1) xs) ≡ entry_of x ∷ entries_of (take i xs)
one_more xs i x e =
    let inside : i < length xs = slice_get_within xs i x e in
    ap entries_of (take_more xs i x inside)
    ∙ (ap (λ y. entries_of (take i xs ++ y ∷ [])) (get_or_from_slice_get xs i x x e)
    ∙ ap (map entry_of) (reverse-append (take i xs) (x ∷ [])))

-- the steps of the walks
pub block_next : (row block new i : ℕ) (xs : List Slot) (x : Slot) → slice_get xs i ≡ Some x
    → block ≡ block_of row (entries_of (take i xs)) → new ≡ (if x.row == row then x.block else block)
    → new ≡ block_of row (entries_of (take (i + 1) xs))
block_next row block new i xs x e h is =
    is ∙ (ap (λ b. cond (x.row == row) x.block b) h ∙ sym (ap (block_of row) (one_more xs i x e)))

pub forbidding_next : (c block i : ℕ) (old new : Option ℕ) (xs : List Slot) (x : Slot) → slice_get xs i ≡ Some x
    → old ≡ oldest (forbids c block) (entries_of (take i xs)) → new ≡ or_else old (if forbids c block (entry_of x) then Some x.row else None)
    → new ≡ oldest (forbids c block) (entries_of (take (i + 1) xs))
forbidding_next c block i old new xs x e h is =
    is ∙ (ap (λ o. or_else o (cond (forbids c block (entry_of x)) (Some x.row) None)) h ∙ sym (ap (oldest (forbids c block)) (one_more xs i x e)))

pub forwarded_next : (block i : ℕ) (old new : Bool) (xs : List Slot) (x : Slot) → slice_get xs i ≡ Some x
    → old ≡ list_any (forwards block) (entries_of (take i xs)) → new ≡ (forwards block (entry_of x) || old)
    → new ≡ list_any (forwards block) (entries_of (take (i + 1) xs))
forwarded_next block i old new xs x e h is =
    is ∙ (ap (λ b. forwards block (entry_of x) || b) h ∙ sym (ap (list_any (forwards block)) (one_more xs i x e)))

pub answer_next : (c block row i : ℕ) (forbidding : Option ℕ) (forwarded : Bool) (old new : Result Bool ℕ) (xs : List Slot) (x : Slot) → slice_get xs i ≡ Some x
    → forbidding ≡ oldest (forbids c block) (entries_of (take i xs)) → forwarded ≡ list_any (forwards block) (entries_of (take i xs))
    → old ≡ answer_for c block row (entries_of (take i xs)) → new ≡ (if x.row == row then answer forbidding forwarded else old)
    → new ≡ answer_for c block row (entries_of (take (i + 1) xs))
answer_next c block row i forbidding forwarded old new xs x e f g h is =
    is
    ∙ (ap (λ o. cond (x.row == row) (answer o forwarded) old) f
    ∙ (ap (λ b. cond (x.row == row) (answer (oldest (forbids c block) (entries_of (take i xs))) b) old) g
    ∙ (ap (λ a. cond (x.row == row) (answer_after c block (entries_of (take i xs))) a) h ∙ sym (ap (answer_for c block row) (one_more xs i x e)))))

pub count_next : (row i count new : ℕ) (xs : List Slot) (x : Slot) → slice_get xs i ≡ Some x → count ≤ i
    → entries_of (take count xs) ≡ up_to row (entries_of (take i xs)) → new ≡ (if nat_le x.row row then i + 1 else count)
    → (new ≤ i + 1) × (entries_of (take new xs) ≡ up_to row (entries_of (take (i + 1) xs)))
count_next row i count new xs x e le h is =
    let (fits, shows) = by_test (nat_le x.row row) is in (fits, shows ∙ sym (ap (up_to row) (one_more xs i x e)))
  where
    by_test : (b : Bool) → new ≡ cond b (i + 1) count
        → (new ≤ i + 1) × (entries_of (take new xs) ≡ cond b (entry_of x ∷ entries_of (take i xs)) (up_to row (entries_of (take i xs))))
    by_test true k = (omega arith, ap (λ n. entries_of (take n xs)) k ∙ one_more xs i x e)
    by_test false k = (omega arith, ap (λ n. entries_of (take n xs)) k ∙ h)

-- the block that is looked up is that of the load
pub load_looks_up : (c row : ℕ) (entries : List Entry) → answer_for c (block_of row entries) row entries ≡ load_answer c row entries
load_looks_up c row [] = refl
load_looks_up c row (e ∷ older) = by_row (e.row == row) (load_looks_up c row older)
  where
    by_row : (b : Bool) → answer_for c (block_of row older) row older ≡ load_answer c row older
        → cond b (answer_after c (cond b e.block (block_of row older)) older) (answer_for c (cond b e.block (block_of row older)) row older)
        ≡ cond b (answer_after c e.block older) (load_answer c row older)
    by_row true ih = refl
    by_row false ih = ih

pub held_next : (store : Bool) (row i : ℕ) (old new : Bool) (xs : List Slot) (x : Slot) → slice_get xs i ≡ Some x
    → old ≡ holds_of store row (entries_of (take i xs)) → new ≡ (is_of store row (entry_of x) || old)
    → new ≡ holds_of store row (entries_of (take (i + 1) xs))
held_next true row i old new xs x e h is =
    is ∙ (ap (λ b. is_of true row (entry_of x) || b) h ∙ sym (ap (holds_of true row) (one_more xs i x e)))
held_next false row i old new xs x e h is =
    is ∙ (ap (λ b. is_of false row (entry_of x) || b) h ∙ sym (ap (holds_of false row) (one_more xs i x e)))

pub none_held : (store : Bool) (row : ℕ) → false ≡ holds_of store row []
none_held true row = refl
none_held false row = refl
