-- The laws of the order of memory.
use Rattle.std.proofs.Common.{◌≡◌, ◌≢◌, ℕ, ◌+◌, ◌<◌, ◌≤◌, Some, None, cond, Bool, true, false, List, [], ◌∷◌, ◌++◌, refl, sym, ap, ◌∙◌, arith, eq-eqb}
use Rattle.std.specs.Prelude.{map, Option, Result, Ok, Err, ◌==◌, ◌&&◌, ◌||◌, not, nat_le, All, if◌then◌else◌}
use Rattle.std.specs.List.{list_any}
use Rattle.std.proofs.lemmas.List.Elements.{All-cons, All-nil}
use Rattle.std.proofs.lemmas.Bool.{eqb-true, ltb-true, leb-true, le-leb}
use Rattle.lsq_core.specs.Queue.{Entry, Queue, is_by, forbids, forwards, or_else, oldest, answer, answer_after, load_answer, set_once, at_row, falls_below, rises_to}
use Rattle.lsq_core.specs.Slots.{up_to}
use Rattle.lsq_core.specs.Laws.{IsOldestForbidding, NamesTheOldest, StaysAllowed, IgnoresYounger, StandsAt}
use Rattle.lsq_core.proofs.Rises.{up_to_kept, and_left, and_right}

-- ---- the oldest store is named

none_pass : (p : Entry → Bool) (es : List Entry) → oldest p es ≡ None → All (λ e. p e ≡ false) es
none_pass p [] h = All-nil (λ e. p e ≡ false)
none_pass p (e ∷ older) h = by_older (oldest p older) (p e) refl refl h (none_pass p older)
  where
    by_older : (o : Option ℕ) (b : Bool) → oldest p older ≡ o → p e ≡ b → or_else o (cond b (Some e.row) None) ≡ None
        → (oldest p older ≡ None → All (λ x. p x ≡ false) older) → All (λ x. p x ≡ false) (e ∷ older)
    by_older (Some r) b f g k ih = absurd cc
    by_older None true f g k ih = absurd cc
    by_older None false f g k ih = All-cons (λ x. p x ≡ false) e older g (ih f)

first_passes : (c block row : ℕ) (es : List Entry) → oldest (forbids c block) es ≡ Some row → IsOldestForbidding c block es row
first_passes c block row [] h = absurd cc
first_passes c block row (e ∷ older) h = by_older (oldest (forbids c block) older) (forbids c block e) refl refl h (first_passes c block row older)
  where
    by_older : (o : Option ℕ) (b : Bool) → oldest (forbids c block) older ≡ o → forbids c block e ≡ b → or_else o (cond b (Some e.row) None) ≡ Some row
        → (oldest (forbids c block) older ≡ Some row → IsOldestForbidding c block older row) → IsOldestForbidding c block (e ∷ older) row
    by_older (Some r) b f g k ih =
        let (newer, x, before, is, named, passes, free) = ih (f ∙ k) in
        (e ∷ newer, x, before, ap (λ l. e ∷ l) is, named, passes, free)
    by_older None true f g k ih =
        let named : e.row ≡ row = cc in
        ([], e, older, refl, named, g, none_pass (forbids c block) older f)
    by_older None false f g k ih = absurd cc

answer_err : (o : Option ℕ) (forwarded : Bool) (row : ℕ) → answer o forwarded ≡ Err row → o ≡ Some row
answer_err (Some r) forwarded row h = cc
answer_err None forwarded row h = absurd cc

answer_none : (o : Option ℕ) (forwarded x : Bool) → answer o forwarded ≡ Ok x → o ≡ None
answer_none (Some r) forwarded x h = absurd cc
answer_none None forwarded x h = refl

answer_forwarded : (o : Option ℕ) (forwarded x : Bool) → answer o forwarded ≡ Ok x → forwarded ≡ x
answer_forwarded (Some r) forwarded x h = absurd cc
answer_forwarded None forwarded x h = cc

pub names_the_oldest : (c block : ℕ) (older : List Entry) → NamesTheOldest c block older
names_the_oldest c block older =
    record {
      named = λ row h. first_passes c block row older (answer_err _ _ row h);
      free = λ forwarded h. none_pass (forbids c block) older (answer_none _ _ forwarded h);
    }

-- ---- a load stays allowed

forbid_step : (store address address' same done done' : Bool) → (address ≡ true → address' ≡ true) → (done ≡ true → done' ≡ true)
    → (store && (not address || (same && not (address && done)))) ≡ false → (store && (not address' || (same && not (address' && done')))) ≡ false
forbid_step false address address' same done done' f g h = refl
forbid_step true false address' same done done' f g h = absurd cc
forbid_step true true address' same done done' f g h =
    ap (λ a. not a || (same && not (a && done'))) (f refl) ∙ by_same same done g h
  where
    by_same : (same done : Bool) → (done ≡ true → done' ≡ true) → (same && not done) ≡ false → (same && not done') ≡ false
    by_same false done g h = refl
    by_same true true g h = ap not (g refl)
    by_same true false g h = absurd cc

by_later : (c d : ℕ) (m : Option ℕ) → c ≤ d → is_by c m ≡ true → is_by d m ≡ true
by_later c d None le h = h
by_later c d (Some t) le h = let k : t ≤ c = leb-true t c h in le-leb t d (omega arith)

by_set : (c at : ℕ) (m : Option ℕ) → is_by c m ≡ true → is_by c (set_once at m) ≡ true
by_set c at None h = absurd cc
by_set c at (Some t) h = h

-- a change of entries and of the cycle under which no more is forbidden
record Eases (c d : ℕ) (f : Entry → Entry) : Type 0 where
  row : (e : Entry) → (f e).row ≡ e.row
  block : (e : Entry) → (f e).block ≡ e.block
  forwards' : (b : ℕ) (e : Entry) → forwards b (f e) ≡ forwards b e
  forbids' : (b : ℕ) (e : Entry) → forbids c b e ≡ false → forbids d b (f e) ≡ false

none_eased : (c d b : ℕ) (f : Entry → Entry) → Eases c d f → (es : List Entry) → oldest (forbids c b) es ≡ None → oldest (forbids d b) (map f es) ≡ None
none_eased c d b f eases [] h = refl
none_eased c d b f eases (e ∷ older) h = by_older (oldest (forbids c b) older) (forbids c b e) refl refl h (none_eased c d b f eases older)
  where
    by_older : (o : Option ℕ) (t : Bool) → oldest (forbids c b) older ≡ o → forbids c b e ≡ t → or_else o (cond t (Some e.row) None) ≡ None
        → (oldest (forbids c b) older ≡ None → oldest (forbids d b) (map f older) ≡ None)
        → or_else (oldest (forbids d b) (map f older)) (cond (forbids d b (f e)) (Some (f e).row) None) ≡ None
    by_older (Some r) t g k h ih = absurd cc
    by_older None true g k h ih = absurd cc
    by_older None false g k h ih =
        ap (λ o. or_else o (cond (forbids d b (f e)) (Some (f e).row) None)) (ih g)
        ∙ ap (λ t. cond t (Some (f e).row) None) (eases.forbids' b e k)

any_eased : (c d b : ℕ) (f : Entry → Entry) → Eases c d f → (es : List Entry) → list_any (forwards b) (map f es) ≡ list_any (forwards b) es
any_eased c d b f eases [] = refl
any_eased c d b f eases (e ∷ older) =
    ap (λ t. t || list_any (forwards b) (map f older)) (eases.forwards' b e) ∙ ap (λ t. forwards b e || t) (any_eased c d b f eases older)

eased : (c d row : ℕ) (f : Entry → Entry) (x : Bool) → Eases c d f → (es : List Entry) → load_answer c row es ≡ Ok x → load_answer d row (map f es) ≡ Ok x
eased c d row f x eases [] h = h
eased c d row f x eases (e ∷ older) h =
    ap (λ r. cond (r == row) (answer_after d (f e).block (map f older)) (load_answer d row (map f older))) (eases.row e)
    ∙ by_row (e.row == row) h (eased c d row f x eases older)
  where
    by_row : (t : Bool) → cond t (answer_after c e.block older) (load_answer c row older) ≡ Ok x
        → (load_answer c row older ≡ Ok x → load_answer d row (map f older) ≡ Ok x)
        → cond t (answer_after d (f e).block (map f older)) (load_answer d row (map f older)) ≡ Ok x
    by_row true h ih =
        ap (λ b. answer_after d b (map f older)) (eases.block e)
        ∙ (ap (λ o. answer o (list_any (forwards e.block) (map f older))) (none_eased c d e.block f eases older (answer_none _ _ x h))
        ∙ ap (λ t. let r : Result Bool ℕ = Ok t in r) (any_eased c d e.block f eases older ∙ answer_forwarded _ _ x h))
    by_row false h ih = ih h

map_same : (es : List Entry) → map (λ e. e) es ≡ es
map_same [] = refl
map_same (e ∷ es) = ap (λ l. e ∷ l) (map_same es)

time_eases : (c d : ℕ) → c ≤ d → Eases c d (λ e. e)
time_eases c d le =
    record {
      row = λ e. refl;
      block = λ e. refl;
      forwards' = λ b e. refl;
      forbids' = λ b e h. forbid_step e.store (is_by c e.address) (is_by d e.address) (e.block == b) (is_by c e.data_done) (is_by d e.data_done) (by_later c d e.address le) (by_later c d e.data_done le) h;
    }

-- a change at one row
record KeepsAll (c : ℕ) (change : Entry → Entry) : Type 0 where
  row : (e : Entry) → (change e).row ≡ e.row
  block : (e : Entry) → (change e).block ≡ e.block
  forwards' : (b : ℕ) (e : Entry) → forwards b (change e) ≡ forwards b e
  forbids' : (b : ℕ) (e : Entry) → forbids c b e ≡ false → forbids c b (change e) ≡ false

row_eases : (c store : ℕ) (change : Entry → Entry) → KeepsAll c change → Eases c c (λ e. if e.row == store then change e else e)
row_eases c store change keeps =
    record {
      row = λ e. row' e (e.row == store);
      block = λ e. block' e (e.row == store);
      forwards' = λ b e. same' b e (e.row == store);
      forbids' = λ b e h. less' b e h (e.row == store);
    }
  where
    row' : (e : Entry) (t : Bool) → (cond t (change e) e).row ≡ e.row
    row' e true = keeps.row e
    row' e false = refl

    block' : (e : Entry) (t : Bool) → (cond t (change e) e).block ≡ e.block
    block' e true = keeps.block e
    block' e false = refl

    same' : (b : ℕ) (e : Entry) (t : Bool) → forwards b (cond t (change e) e) ≡ forwards b e
    same' b e true = keeps.forwards' b e
    same' b e false = refl

    less' : (b : ℕ) (e : Entry) → forbids c b e ≡ false → (t : Bool) → forbids c b (cond t (change e) e) ≡ false
    less' b e h true = keeps.forbids' b e h
    less' b e h false = h

address_keeps : (c at : ℕ) → KeepsAll c (λ e. record e { address = set_once at e.address })
address_keeps c at =
    record {
      row = λ e. refl;
      block = λ e. refl;
      forwards' = λ b e. refl;
      forbids' = λ b e h. forbid_step e.store (is_by c e.address) (is_by c (set_once at e.address)) (e.block == b) (is_by c e.data_done) (is_by c e.data_done) (by_set c at e.address) (λ k. k) h;
    }

data_keeps : (c at : ℕ) → KeepsAll c (λ e. record e { data_done = set_once at e.data_done })
data_keeps c at =
    record {
      row = λ e. refl;
      block = λ e. refl;
      forwards' = λ b e. refl;
      forbids' = λ b e h. forbid_step e.store (is_by c e.address) (is_by c e.address) (e.block == b) (is_by c e.data_done) (is_by c (set_once at e.data_done)) (λ k. k) (by_set c at e.data_done) h;
    }

pub stays_allowed : (c row : ℕ) (q : Queue) (forwarded : Bool) → load_answer c row q.entries ≡ Ok forwarded → StaysAllowed c row q forwarded
stays_allowed c row q forwarded h =
    record {
      later = λ d le. ap (load_answer d row) (sym (map_same q.entries)) ∙ eased c d row (λ e. e) forwarded (time_eases c d le) q.entries h;
      address = λ store at. eased c c row (λ e. if e.row == store then record e { address = set_once at e.address } else e) forwarded (row_eases c store (λ e. record e { address = set_once at e.address }) (address_keeps c at)) q.entries h;
      data_done = λ store at. eased c c row (λ e. if e.row == store then record e { data_done = set_once at e.data_done } else e) forwarded (row_eases c store (λ e. record e { data_done = set_once at e.data_done }) (data_keeps c at)) q.entries h;
    }

-- ---- younger rows

passed_over : (c row : ℕ) (e : Entry) (es : List Entry) → e.row ≢ row → load_answer c row (e ∷ es) ≡ load_answer c row es
passed_over c row e es other = by_row (e.row == row) refl
  where
    by_row : (t : Bool) → (e.row == row) ≡ t → cond t (answer_after c e.block es) (load_answer c row es) ≡ load_answer c row es
    by_row true is = absurd (other (eqb-true e.row row is))
    by_row false is = refl

cut_over : (c row last : ℕ) (es : List Entry) → row ≤ last → load_answer c row (up_to last es) ≡ load_answer c row es
cut_over c row last [] le = refl
cut_over c row last (e ∷ older) le = by_test (nat_le e.row last) refl (cut_over c row last older le)
  where
    by_test : (t : Bool) → nat_le e.row last ≡ t → load_answer c row (up_to last older) ≡ load_answer c row older
        → load_answer c row (cond t (e ∷ older) (up_to last older)) ≡ load_answer c row (e ∷ older)
    by_test true is ih = refl
    by_test false is ih = ih ∙ sym (passed_over c row e older (λ same. apart (le-leb e.row last (omega arith)) is))
      where
        apart : {b : Bool} → b ≡ true → b ≡ false → ⊥
        apart f g = cc

pub ignores_younger : (c row : ℕ) (q : Queue) → IgnoresYounger c row q
ignores_younger c row q =
    record {
      entry = λ e other. passed_over c row e q.entries other;
      squash = λ last rises le. ap (load_answer c row) (sym (up_to_kept last q.last q.entries rises)) ∙ cut_over c row last q.entries le;
    }

-- ---- entries by their numbers

above_mid : (m : ℕ) (younger older : List Entry) (e : Entry) → falls_below m (younger ++ e ∷ older) ≡ true → e.row < m
above_mid m [] older e h = ltb-true e.row m (and_left _ _ h)
above_mid m (y ∷ ys) older e h =
    let here : y.row < m = ltb-true y.row m (and_left _ _ h) in
    let behind : e.row < y.row = above_mid y.row ys older e (and_right _ _ h) in
    omega arith

apart_rows : (a b : ℕ) → a ≢ b → (a == b) ≡ false
apart_rows a b other = by_test (a == b) refl
  where
    by_test : (t : Bool) → (a == b) ≡ t → t ≡ false
    by_test true e = absurd (other (eqb-true a b e))
    by_test false e = refl

own_row : (e : Entry) → (e.row == e.row) ≡ true
own_row e = eq-eqb e.row e.row refl

answer_at : (c m : ℕ) (younger older : List Entry) (e : Entry) → falls_below m (younger ++ e ∷ older) ≡ true
    → load_answer c e.row (younger ++ e ∷ older) ≡ answer_after c e.block older
answer_at c m [] older e h = ap (λ b. cond b (answer_after c e.block older) (load_answer c e.row older)) (own_row e)
answer_at c m (y ∷ ys) older e h =
    let behind : e.row < y.row = above_mid y.row ys older e (and_right _ _ h) in
    ap (λ b. cond b (answer_after c y.block (ys ++ e ∷ older)) (load_answer c e.row (ys ++ e ∷ older))) (apart_rows y.row e.row (λ same. absurd (omega arith)))
    ∙ answer_at c y.row ys older e (and_right _ _ h)

older_stay : (k m : ℕ) (f : Entry → Entry) (es : List Entry) → m ≤ k → falls_below m es ≡ true → at_row k f es ≡ es
older_stay k m f [] le h = refl
older_stay k m f (e ∷ es) le h =
    let here : e.row < m = ltb-true e.row m (and_left _ _ h) in
    ap (λ b. cond b (f e) e ∷ at_row k f es) (apart_rows e.row k (λ same. absurd (omega arith)))
    ∙ ap (λ l. e ∷ l) (older_stay k e.row f es (omega arith) (and_right _ _ h))

change_at : (f : Entry → Entry) (m : ℕ) (younger older : List Entry) (e : Entry) → falls_below m (younger ++ e ∷ older) ≡ true
    → at_row e.row f (younger ++ e ∷ older) ≡ younger ++ f e ∷ older
change_at f m [] older e h =
    ap (λ b. cond b (f e) e ∷ at_row e.row f older) (own_row e) ∙ ap (λ l. f e ∷ l) (older_stay e.row e.row f older (omega arith) (and_right _ _ h))
change_at f m (y ∷ ys) older e h =
    let behind : e.row < y.row = above_mid y.row ys older e (and_right _ _ h) in
    ap (λ b. cond b (f y) y ∷ at_row e.row f (ys ++ e ∷ older)) (apart_rows y.row e.row (λ same. absurd (omega arith)))
    ∙ ap (λ l. y ∷ l) (change_at f y.row ys older e (and_right _ _ h))

falls : (last : Option ℕ) (es : List Entry) → rises_to last es ≡ true → (m : ℕ) × (falls_below m es ≡ true)
falls (Some m) es r = (m + 1, r)
falls None [] r = (0, refl)
falls None (y ∷ es) r = absurd cc

pub stands_at : (younger older : List Entry) (e : Entry) (q : Queue) → q.entries ≡ younger ++ e ∷ older → rises_to q.last q.entries ≡ true → StandsAt younger older e q
stands_at younger older e q is h =
    let (m, below) = falls q.last q.entries h in
    let below' : falls_below m (younger ++ e ∷ older) ≡ true = ap (falls_below m) (sym is) ∙ below in
    record {
      answer = λ c. ap (load_answer c e.row) is ∙ answer_at c m younger older e below';
      change = λ f. ap (at_row e.row f) is ∙ change_at f m younger older e below';
    }
