-- The events of the rows, one after another.
use Rattle.std.proofs.Common.{◌≡◌, ℕ, suc, List, [], ◌∷◌, ◌++◌, length, Result, Ok, Err, refl, sym, ap, ◌∙◌, subst}
use Rattle.std.specs.Prelude.{map, OnOk, IfOk}
use Rattle.ooo_table.specs.declared.event.Event.{Event}
use Rattle.ooo_table.specs.Row as table
use Rattle.ooo_table.specs.Table.{Setting}
use Rattle.ooo_table.specs.Events.{by_row}
use Rattle.ooo_plain.specs.Kept.{kept}
use Rattle.plain_machine.specs.Events.{events_over}

pub on_ok : {T E A B : Type 0} (r : Result T E) → (A → B) → OnOk r A → OnOk r B
on_ok (Ok x) f h = f h
on_ok (Err x) f h = h

pub if_ok : {T E : Type 0} (r : Result T E) (P Q : T → Type 0) → ((x : T) → P x → Q x) → IfOk r P → IfOk r Q
if_ok (Ok x) P Q f h = f x h
if_ok (Err x) P Q f h = h

pub assoc : {X : Type 0} (xs ys zs : List X) → (xs ++ ys) ++ zs ≡ xs ++ (ys ++ zs)
assoc [] ys zs = refl
assoc (x ∷ xs) ys zs = ap (λ l. x ∷ l) (assoc xs ys zs)

pub map_length : (set : Setting) (xs : List table.Row) → length (map (kept set) xs) ≡ length xs
map_length set [] = refl
map_length set (x ∷ xs) = ap suc (map_length set xs)

-- the events of the older rows, and then those of this one
pub next_row : (f : ℕ → table.Row → List Event) (old mid new : List Event) (olds others : List table.Row) (r : table.Row) (n : ℕ) → olds ≡ r ∷ others → n ≡ length others
    → mid ≡ old ++ by_row f others → new ≡ mid ++ f n r → new ≡ old ++ by_row f olds
next_row f old mid new olds others r n is en e1 e2 =
    e2 ∙ (ap (λ l. l ++ f n r) e1 ∙ (assoc old (by_row f others) (f n r) ∙ (ap (λ k. old ++ (by_row f others ++ f k r)) en ∙ ap (λ l. old ++ by_row f l) (sym is))))

-- all six kinds
pub all_kinds : (a b c d e f s1 s2 s3 s4 s5 s6 : List Event) → s1 ≡ a → s2 ≡ s1 ++ b → s3 ≡ s2 ++ c → s4 ≡ s3 ++ d → s5 ≡ s4 ++ e → s6 ≡ s5 ++ f
    → s6 ≡ a ++ (b ++ (c ++ (d ++ (e ++ f))))
all_kinds a b c d e f s1 s2 s3 s4 s5 s6 h1 h2 h3 h4 h5 h6 =
    let k2 : s2 ≡ a ++ b = h2 ∙ ap (λ l. l ++ b) h1 in
    let k3 : s3 ≡ a ++ (b ++ c) = h3 ∙ (ap (λ l. l ++ c) k2 ∙ assoc a b c) in
    let k4 : s4 ≡ a ++ (b ++ (c ++ d)) = h4 ∙ (ap (λ l. l ++ d) k3 ∙ (assoc a (b ++ c) d ∙ ap (λ l. a ++ l) (assoc b c d))) in
    let k5 : s5 ≡ a ++ (b ++ (c ++ (d ++ e))) =
    h5 ∙ (ap (λ l. l ++ e) k4 ∙ (assoc a (b ++ (c ++ d)) e ∙ ap (λ l. a ++ l) (assoc b (c ++ d) e ∙ ap (λ l. b ++ l) (assoc c d e)))) in
    h6 ∙ (ap (λ l. l ++ f) k5 ∙ (assoc a (b ++ (c ++ (d ++ e))) f ∙ ap (λ l. a ++ l) (assoc b (c ++ (d ++ e)) f ∙ ap (λ l. b ++ l) (assoc c (d ++ e) f ∙ ap (λ l. c ++ l) (assoc d e f)))))

pub shown_as : {E : Type 0} (result : Result (List Event) E) (set : Setting) (rows : List table.Row) (n m x y : ℕ) → n ≡ m → x ≡ y
    → IfOk result (λ events. events ≡ events_over set n x rows) → IfOk result (λ events. events ≡ events_over set m y rows)
shown_as result set rows n m x y en ex h =
    subst (λ k. IfOk result (λ events. events ≡ events_over set m k rows)) ex (subst (λ k. IfOk result (λ events. events ≡ events_over set k x rows)) en h)
