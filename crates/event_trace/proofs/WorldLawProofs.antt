-- Reads go on where the one before ended, and closed descriptors stay closed.
use Rattle.std.proofs.Common.{◌≡◌, ◌≢◌, ℕ, zero, suc, ◌+◌, ◌-◌, ◌%◌, ◌^◌, ◌<◌, ◌≤◌, Bool, true, false, Option, Some, None, List, [], ◌∷◌, ◌++◌, length, take, drop, nat_eq, nat_lt, if◌then◌else◌, slice_get, slice_set, refl, sym, ap, ◌∙◌, subst, arith}
use Rattle.std.specs.Prelude.{option_map, position, flat_map}
use Rattle.std.proofs.lemmas.Bool.{ltb-false, le-ltb, eqb-true, eq-eqb}
use Rattle.std.proofs.lemmas.List.{length-set, length-append, drop_all, take-append-drop, append-nil}
use Rattle.event_trace.specs.declared.trace.CallKind.TheVariants.{Plain}
use Rattle.event_trace.specs.declared.trace.Block.{Block}
use Rattle.event_trace.specs.declared.trace.Record.{Record}
use Rattle.event_trace.specs.World.{File, Opened, WorldState, answered, refused, blocks_of, reads_number, reads_three, still_open, open_at, bytes_of, left_of, left_at, moved, changed, advanced, count_of, read_left, read_call, open_answer, open_bytes, open_call, path_bytes, file_named, shut, close_open, close_call, break_call, exit_record, write_record, with_opens, served}
use Rattle.event_trace.specs.WorldLaws.{bytes_written, ReadsOn, Keeps}

-- ---- lists

get_set_other : {X : Type 0} (xs : List X) (i j : ℕ) (y : X) → i ≢ j → slice_get (slice_set xs i y) j ≡ slice_get xs j
get_set_other [] i j y n = refl
get_set_other (x ∷ xs) zero zero y n = absurd (n refl)
get_set_other (x ∷ xs) zero (suc j) y n = refl
get_set_other (x ∷ xs) (suc i) zero y n = refl
get_set_other (x ∷ xs) (suc i) (suc j) y n = get_set_other xs i j y (λ e. n (ap suc e))

get_set_same : {X : Type 0} (xs : List X) (i : ℕ) (x y : X) → slice_get xs i ≡ Some x → slice_get (slice_set xs i y) i ≡ Some y
get_set_same [] i x y e = cc
get_set_same (z ∷ xs) zero x y e = refl
get_set_same (z ∷ xs) (suc i) x y e = get_set_same xs i x y e

get_append : {X : Type 0} (xs ys : List X) (j : ℕ) → j < length xs → slice_get (xs ++ ys) j ≡ slice_get xs j
get_append [] ys j h = absurd (omega (arith, h))
get_append (x ∷ xs) ys zero h = refl
get_append (x ∷ xs) ys (suc j) h = get_append xs ys j (omega (arith, h))

drop_more : {X : Type 0} (a b : ℕ) (xs : List X) → drop (a + b) xs ≡ drop b (drop a xs)
drop_more zero b xs = let e : 0 + b ≡ b = omega arith in ap (λ k. drop k xs) e
drop_more {X = X} (suc a) b [] =
    let none : List X = [] in
    drop_all (suc a + b) none (omega arith) ∙ sym (ap (λ ys. drop b ys) (drop_all (suc a) none (omega arith)) ∙ drop_all b none (omega arith))
drop_more (suc a) b (x ∷ xs) = let e : suc a + b ≡ suc (a + b) = omega arith in ap (λ k. drop k (x ∷ xs)) e ∙ drop_more a b xs

-- ---- descriptors

-- what an open descriptor is
record IsOpen (opens : List Opened) (d : ℕ) (o : Opened) : Type 0 where
  given : 3 ≤ d
  held : slice_get opens (d - 3) ≡ Some o
  live : o.is_open ≡ true

abbrev is_live : Option Opened → Bool
is_live None = true
is_live (Some o) = o.is_open

still_by : (b : Bool) (x o : Opened) → x.is_open ≡ b → (if b then Some x else None) ≡ Some o → (Some x ≡ Some o) × (o.is_open ≡ true)
still_by true x o i e =
    let P : Option Opened → Type 0 = λ y. is_live y ≡ true in
    (e, subst P e i)
still_by false x o i e = cc

still_is : (g : Option Opened) (o : Opened) → still_open g ≡ Some o → (g ≡ Some o) × (o.is_open ≡ true)
still_is None o e = cc
still_is (Some x) o e = still_by x.is_open x o refl e

open_below : (b : Bool) (opens : List Opened) (d : ℕ) (o : Opened) → nat_lt d 3 ≡ b → (if b then None else still_open (slice_get opens (d - 3))) ≡ Some o → IsOpen opens d o
open_below true opens d o t e = cc
open_below false opens d o t e =
    let s : (slice_get opens (d - 3) ≡ Some o) × (o.is_open ≡ true) = still_is (slice_get opens (d - 3)) o e in
    record { given = ltb-false d 3 t; held = s.0; live = s.1 }

open_is : (opens : List Opened) (d : ℕ) (o : Opened) → open_at opens d ≡ Some o → IsOpen opens d o
unfolding open_at
open_is opens d o e = open_below (nat_lt d 3) opens d o refl e

open_from : (opens : List Opened) (d : ℕ) (o : Opened) → IsOpen opens d o → open_at opens d ≡ Some o
unfolding open_at
open_from opens d o i =
    let t : nat_lt d 3 ≡ false = le-ltb d 3 i.given in
    let f : Bool → Option Opened = λ b. if b then None else still_open (slice_get opens (d - 3)) in
    let g : Bool → Option Opened = λ b. if b then Some o else None in
    ap f t ∙ ap still_open i.held ∙ ap g i.live

open_by : (b : Bool) (opens other : List Opened) (d : ℕ) → nat_lt d 3 ≡ b → (3 ≤ d → slice_get other (d - 3) ≡ slice_get opens (d - 3)) → open_at other d ≡ open_at opens d
unfolding open_at
open_by true opens other d t e =
    let f : Bool → Option Opened = λ b. if b then None else still_open (slice_get other (d - 3)) in
    let g : Bool → Option Opened = λ b. if b then None else still_open (slice_get opens (d - 3)) in
    ap f t ∙ sym (ap g t)
open_by false opens other d t e =
    let f : Option Opened → Option Opened = λ x. if nat_lt d 3 then None else still_open x in
    ap f (e (ltb-false d 3 t))

apart : (d e : ℕ) → 3 ≤ d → 3 ≤ e → d - 3 ≡ e - 3 → e ≡ d
apart d e g h q = omega (arith, g, h, q)

-- where one open was changed, every other descriptor is as it was
set_other : (opens : List Opened) (d e : ℕ) (o p : Opened) → IsOpen opens d o → e ≢ d → open_at (slice_set opens (d - 3) p) e ≡ open_at opens e
set_other opens d e o p i n =
    open_by (nat_lt e 3) opens (slice_set opens (d - 3) p) e refl
    (λ h. get_set_other opens (d - 3) (e - 3) p (λ q. n (apart d e i.given h q)))

within : (opens : List Opened) (d : ℕ) → d < 3 + length opens → 3 ≤ d → d - 3 < length opens
within opens d h g = omega (arith, h, g)

-- where one was added, every descriptor that was given is as it was
append_same : (opens more : List Opened) (d : ℕ) → d < 3 + length opens → open_at (opens ++ more) d ≡ open_at opens d
append_same opens more d h = open_by (nat_lt d 3) opens (opens ++ more) d refl (λ g. get_append opens more (d - 3) (within opens d h g))

-- ---- reads

left_input : (w : WorldState) (d : ℕ) → nat_eq d 0 ≡ true → left_at w d ≡ Some (drop w.position w.input)
unfolding left_at
left_input w d e =
    let f : Bool → Option (List ℕ) = λ b. if b then Some (drop w.position w.input) else option_map (left_of w.files) (open_at w.opens d) in
    ap f e

left_file : (w : WorldState) (d : ℕ) → nat_eq d 0 ≡ false → left_at w d ≡ option_map (left_of w.files) (open_at w.opens d)
unfolding left_at
left_file w d e =
    let f : Bool → Option (List ℕ) = λ b. if b then Some (drop w.position w.input) else option_map (left_of w.files) (open_at w.opens d) in
    ap f e

-- the same is left where the same stands at a descriptor
left_same_file : (w v : WorldState) (d : ℕ) → nat_eq d 0 ≡ false → v.files ≡ w.files → open_at v.opens d ≡ open_at w.opens d → left_at v d ≡ left_at w d
left_same_file w v d z f o =
    let g : List File → Option (List ℕ) = λ x. option_map (left_of x) (open_at v.opens d) in
    let h : Option Opened → Option (List ℕ) = λ x. option_map (left_of w.files) x in
    left_file v d z ∙ ap g f ∙ ap h o ∙ sym (left_file w d z)

-- what a read leaves
record Leaves (w v : WorldState) (d k : ℕ) (left : List ℕ) : Type 0 where
  own : left_at v d ≡ Some (drop k left)
  others : (e : ℕ) → e ≢ d → left_at v e ≡ left_at w e

abbrev unwrap : Option (List ℕ) → List ℕ
unwrap None = []
unwrap (Some x) = x

abbrev input_moved : WorldState → ℕ → WorldState
input_moved w k = record w { position = w.position + k }

abbrev file_moved : WorldState → ℕ → ℕ → Opened → WorldState
file_moved w d k o = record w { opens = slice_set w.opens (d - 3) (moved k o) }

neq_by : (c : Bool) (a b : ℕ) → nat_eq a b ≡ c → a ≢ b → nat_eq a b ≡ false
neq_by true a b e n = absurd (n (eqb-true a b e))
neq_by false a b e n = e

neq-eqb : (a b : ℕ) → a ≢ b → nat_eq a b ≡ false
neq-eqb a b n = neq_by (nat_eq a b) a b refl n

not_zero : (d e : ℕ) → d ≡ 0 → e ≢ d → e ≢ 0
not_zero d e z n = λ q. n (q ∙ sym z)

leaves_input : (w : WorldState) (d k : ℕ) (left : List ℕ) → nat_eq d 0 ≡ true → left_at w d ≡ Some left → Leaves w (input_moved w k) d k left
leaves_input w d k left z e =
    let l : drop w.position w.input ≡ left = ap unwrap (sym (left_input w d z) ∙ e) in
    let f : List ℕ → Option (List ℕ) = λ x. Some (drop k x) in
    let g : List ℕ → Option (List ℕ) = λ x. Some x in
    record {
      own = left_input (input_moved w k) d z ∙ ap g (drop_more w.position k w.input) ∙ ap f l;
      others = λ x n. left_same_file w (input_moved w k) x (neq-eqb x 0 (not_zero d x (eqb-true d 0 z) n)) refl refl;
    }

other_left : (b : Bool) (w : WorldState) (d x k : ℕ) (o : Opened) → nat_eq x 0 ≡ b → IsOpen w.opens d o → x ≢ d → left_at (file_moved w d k o) x ≡ left_at w x
other_left true w d x k o z i n = left_input (file_moved w d k o) x z ∙ sym (left_input w x z)
other_left false w d x k o z i n = left_same_file w (file_moved w d k o) x z refl (set_other w.opens d x o (moved k o) i n)

leaves_file : (w : WorldState) (d k : ℕ) (left : List ℕ) (o : Opened) → nat_eq d 0 ≡ false → open_at w.opens d ≡ Some o → left_at w d ≡ Some left → Leaves w (file_moved w d k o) d k left
leaves_file w d k left o z a e =
    let i : IsOpen w.opens d o = open_is w.opens d o a in
    let h : Option Opened → Option (List ℕ) = λ x. option_map (left_of w.files) x in
    let l : left_of w.files o ≡ left = ap unwrap (sym (left_file w d z ∙ ap h a) ∙ e) in
    let j : IsOpen (slice_set w.opens (d - 3) (moved k o)) d (moved k o) = record { given = i.given; held = get_set_same w.opens (d - 3) o (moved k o) i.held; live = i.live } in
    let f : List ℕ → Option (List ℕ) = λ x. Some (drop k x) in
    let g : List ℕ → Option (List ℕ) = λ x. Some x in
    record {
      own = left_file (file_moved w d k o) d z ∙ ap h (open_from (slice_set w.opens (d - 3) (moved k o)) d (moved k o) j) ∙ ap g (drop_more o.position k (bytes_of (slice_get w.files o.file))) ∙ ap f l;
      others = λ x n. other_left (nat_eq x 0) w d x k o refl i n;
    }

no_left : (left : List ℕ) → ◌≡◌ {A = Option (List ℕ)} None (Some left) → ⊥
no_left left e = cc

no_open : (o : Opened) → ◌≡◌ {A = Option Opened} None (Some o) → ⊥
no_open o e = cc

no_length : (bytes : List ℕ) → length bytes ≤ 0 → bytes ≡ []
no_length [] h = refl
no_length (x ∷ xs) h = absurd (omega (arith, h))

not_both : (b : Bool) → b ≡ true → b ≡ false → ⊥
not_both true p q = cc
not_both false p q = cc

eqb-apart : (a b : ℕ) → nat_eq a b ≡ false → a ≢ b
eqb-apart a b e = λ q. not_both (nat_eq a b) (eq-eqb a b q) e

-- advancing is one of the two
advanced_input : (w : WorldState) (d k : ℕ) → nat_eq d 0 ≡ true → advanced w d k ≡ input_moved w k
unfolding advanced
advanced_input w d k z =
    let f : Bool → WorldState = λ b. if b then input_moved w k else with_opens w (changed (moved k) w.opens (d - 3) (open_at w.opens d)) in
    ap f z

advanced_file : (w : WorldState) (d k : ℕ) (o : Opened) → nat_eq d 0 ≡ false → open_at w.opens d ≡ Some o → advanced w d k ≡ file_moved w d k o
unfolding advanced
advanced_file w d k o z a =
    let f : Bool → WorldState = λ b. if b then input_moved w k else with_opens w (changed (moved k) w.opens (d - 3) (open_at w.opens d)) in
    let g : Option Opened → WorldState = λ x. with_opens w (changed (moved k) w.opens (d - 3) x) in
    ap f z ∙ ap g a

leaves_open : (found : Option Opened) (w : WorldState) (d k : ℕ) (left : List ℕ) → nat_eq d 0 ≡ false → open_at w.opens d ≡ found → left_at w d ≡ Some left → Leaves w (advanced w d k) d k left
leaves_open None w d k left z a e =
    let h : Option Opened → Option (List ℕ) = λ x. option_map (left_of w.files) x in
    let n : None ≡ Some left = sym (left_file w d z ∙ ap h a) ∙ e in
    absurd (no_left left n)
leaves_open (Some o) w d k left z a e =
    let P : WorldState → Type 0 = λ v. Leaves w v d k left in
    subst P (sym (advanced_file w d k o z a)) (leaves_file w d k left o z a e)

leaves : (b : Bool) (w : WorldState) (d k : ℕ) (left : List ℕ) → nat_eq d 0 ≡ b → left_at w d ≡ Some left → Leaves w (advanced w d k) d k left
leaves true w d k left z e =
    let P : WorldState → Type 0 = λ v. Leaves w v d k left in
    subst P (sym (advanced_input w d k z)) (leaves_input w d k left z e)
leaves false w d k left z e = leaves_open (open_at w.opens d) w d k left z refl e

-- ---- the law of reads

written_by : (b : Bool) (address : ℕ) (bytes : List ℕ) → nat_lt 0 (length bytes) ≡ b → flat_map (λ (x : Block). x.bytes) (if b then record { addr = address; bytes = bytes } ∷ [] else []) ≡ bytes
written_by true address bytes e = append-nil bytes
written_by false address bytes e = sym (no_length bytes (ltb-false 0 (length bytes) e))

abbrev Reads : WorldState → ℕ → Record × WorldState → Type 0
Reads w d x = ReadsOn w x.1 d (bytes_written x.0)

reads_nothing : (w : WorldState) (d : ℕ) (left : Option (List ℕ)) → left_at w d ≡ left → ReadsOn w w d []
reads_nothing w d None e =
    let f : Option (List ℕ) → Option (List ℕ) = λ x. option_map (λ l. [] ++ l) x in
    record { own = e ∙ sym (ap f e); others = λ x n. refl }
reads_nothing w d (Some left) e =
    let f : Option (List ℕ) → Option (List ℕ) = λ x. option_map (λ l. [] ++ l) x in
    record { own = e ∙ sym (ap f e); others = λ x n. refl }

reads_some : (w v : WorldState) (d k address : ℕ) (left : List ℕ) → left_at w d ≡ Some left → Leaves w v d k left → ReadsOn w v d (flat_map (λ (x : Block). x.bytes) (blocks_of address (take k left)))
reads_some w v d k address left e l =
    let b : flat_map (λ (x : Block). x.bytes) (blocks_of address (take k left)) ≡ take k left = written_by (nat_lt 0 (length (take k left))) address (take k left) refl in
    let P : List ℕ → Type 0 = λ x. ReadsOn w v d x in
    let f : Option (List ℕ) → Option (List ℕ) = λ x. option_map (λ y. take k left ++ y) x in
    let g : List ℕ → Option (List ℕ) = λ x. Some x in
    subst P (sym b) (record { own = e ∙ sym (ap f l.own ∙ ap g (take-append-drop k left)); others = l.others })

read_count_reads : (b : Bool) (w : WorldState) (icnt pc : ℕ) (regs : ℕ → ℕ) (left : List ℕ) (k : ℕ) → left_at w (regs 4) ≡ Some left
    → Reads w (regs 4) (if b then (refused icnt pc (reads_three regs) 14, w) else (answered icnt pc Plain (reads_three regs) [] k 0 (blocks_of (regs 5) (take k left)), advanced w (regs 4) k))
read_count_reads true w icnt pc regs left k e = reads_nothing w (regs 4) (Some left) e
read_count_reads false w icnt pc regs left k e = reads_some w (advanced w (regs 4) k) (regs 4) k (regs 5) left e (leaves (nat_eq (regs 4) 0) w (regs 4) k left refl e)

read_left_reads : (w : WorldState) (icnt pc : ℕ) (regs : ℕ → ℕ) (left : Option (List ℕ)) → left_at w (regs 4) ≡ left → Reads w (regs 4) (read_left w icnt pc regs left)
read_left_reads w icnt pc regs None e = reads_nothing w (regs 4) None e
read_left_reads w icnt pc regs (Some left) e = read_count_reads (nat_lt (2 ^ 32) (regs 5 + count_of (regs 6) left)) w icnt pc regs left (count_of (regs 6) left) e

served_read : (w : WorldState) (icnt pc : ℕ) (regs mem : ℕ → ℕ) → regs 2 ≡ 3 → served w icnt pc regs mem ≡ read_call w icnt pc regs
unfolding served
served_read w icnt pc regs mem e =
    let f : ℕ → Record × WorldState = λ n.
    if nat_eq n 1 then (exit_record icnt pc regs, w) else
    if nat_eq n 3 then read_call w icnt pc regs else
    if nat_eq n 4 then (write_record icnt pc regs mem, w) else
    if nat_eq n 5 then open_call w icnt pc regs mem else
    if nat_eq n 6 then close_call w icnt pc regs else
    if nat_eq n 17 then break_call w icnt pc regs else
    (refused icnt pc (reads_number regs) 22, w) in
    ap f e

pub reads_on : (w : WorldState) (icnt pc : ℕ) (regs mem : ℕ → ℕ) → regs 2 ≡ 3 → ReadsOn w (served w icnt pc regs mem).1 (regs 4) (bytes_written (served w icnt pc regs mem).0)
unfolding read_call
reads_on w icnt pc regs mem e =
    let P : Record × WorldState → Type 0 = λ x. ReadsOn w x.1 (regs 4) (bytes_written x.0) in
    subst P (sym (served_read w icnt pc regs mem e)) (read_left_reads w icnt pc regs (left_at w (regs 4)) refl)

-- ---- what no call changes

keeps_same : (w : WorldState) → Keeps w w
keeps_same w = record { input = refl; files = refl; start_break = refl; opens = omega arith; closed = λ d h e. e }

keeps_opens : (w v : WorldState) → v.input ≡ w.input → v.files ≡ w.files → v.start_break ≡ w.start_break → v.opens ≡ w.opens → Keeps w v
keeps_opens w v i f s o =
    let P : List Opened → Type 0 = λ x. length w.opens ≤ length x in
    let Q : List Opened → Type 0 = λ x. (d : ℕ) → d < 3 + length w.opens → open_at w.opens d ≡ None → open_at x d ≡ None in
    record { input = i; files = f; start_break = s; opens = subst P (sym o) (omega arith); closed = subst Q (sym o) (λ d h e. e) }

closed_other : (b : Bool) (opens : List Opened) (d e : ℕ) (o p : Opened) → nat_eq e d ≡ b → IsOpen opens d o → open_at opens d ≡ Some o → open_at opens e ≡ None → open_at (slice_set opens (d - 3) p) e ≡ None
closed_other true opens d e o p t i a n =
    let f : ℕ → Option Opened = λ x. open_at opens x in
    let c : None ≡ Some o = sym n ∙ ap f (eqb-true e d t) ∙ a in
    absurd (no_open o c)
closed_other false opens d e o p t i a n = set_other opens d e o p i (eqb-apart e d t) ∙ n

keeps_set : (w : WorldState) (d : ℕ) (o p : Opened) → open_at w.opens d ≡ Some o → Keeps w (with_opens w (slice_set w.opens (d - 3) p))
keeps_set w d o p a =
    let n : length (slice_set w.opens (d - 3) p) ≡ length w.opens = length-set w.opens (d - 3) p in
    record {
      input = refl;
      files = refl;
      start_break = refl;
      opens = omega (arith, n);
      closed = λ e h c. closed_other (nat_eq e d) w.opens d e o p refl (open_is w.opens d o a) a c;
    }

keeps_add : (w : WorldState) (o : Opened) → Keeps w (with_opens w (w.opens ++ o ∷ []))
keeps_add w o =
    let n : length (w.opens ++ o ∷ []) ≡ length w.opens + 1 = length-append w.opens (o ∷ []) in
    record {
      input = refl;
      files = refl;
      start_break = refl;
      opens = omega (arith, n);
      closed = λ d h c. append_same w.opens (o ∷ []) d h ∙ c;
    }

either_keeps : (w : WorldState) (b : Bool) (x y : Record × WorldState) → Keeps w x.1 → Keeps w y.1 → Keeps w (if b then x else y).1
either_keeps w true x y p q = p
either_keeps w false x y p q = q

keeps_found : (w : WorldState) (d k : ℕ) (found : Option Opened) → open_at w.opens d ≡ found → Keeps w (with_opens w (changed (moved k) w.opens (d - 3) found))
keeps_found w d k None e = keeps_same w
keeps_found w d k (Some o) e = keeps_set w d o (moved k o) e

keeps_if : (w : WorldState) (b : Bool) (x y : WorldState) → Keeps w x → Keeps w y → Keeps w (if b then x else y)
keeps_if w true x y p q = p
keeps_if w false x y p q = q

keeps_advanced : (w : WorldState) (d k : ℕ) → Keeps w (advanced w d k)
unfolding advanced
keeps_advanced w d k =
    keeps_if w (nat_eq d 0) (input_moved w k) (with_opens w (changed (moved k) w.opens (d - 3) (open_at w.opens d)))
    (keeps_opens w (input_moved w k) refl refl refl refl)
    (keeps_found w d k (open_at w.opens d) refl)

keeps_left : (w : WorldState) (icnt pc : ℕ) (regs : ℕ → ℕ) (left : Option (List ℕ)) → Keeps w (read_left w icnt pc regs left).1
keeps_left w icnt pc regs None = keeps_same w
keeps_left w icnt pc regs (Some left) =
    either_keeps w (nat_lt (2 ^ 32) (regs 5 + count_of (regs 6) left)) _ _ (keeps_same w) (keeps_advanced w (regs 4) (count_of (regs 6) left))

keeps_read : (w : WorldState) (icnt pc : ℕ) (regs : ℕ → ℕ) → Keeps w (read_call w icnt pc regs).1
unfolding read_call
keeps_read w icnt pc regs = keeps_left w icnt pc regs (left_at w (regs 4))

abbrev answer_if : Bool → WorldState → ℕ → ℕ → ℕ × ℕ × List Opened
answer_if b w file value = if b then (value, 0, w.opens ++ record { file = file; position = 0; is_open = true } ∷ []) else (24, 1, w.opens)

keeps_answer : (b : Bool) (w : WorldState) (file value : ℕ) → Keeps w (with_opens w (answer_if b w file value).2)
keeps_answer true w file value = keeps_add w (record { file = file; position = 0; is_open = true })
keeps_answer false w file value = keeps_same w

keeps_named : (w : WorldState) (found : Option ℕ) → Keeps w (with_opens w (open_answer w.opens found).2)
keeps_named w None = keeps_same w
keeps_named w (Some file) = keeps_answer (nat_lt (length w.opens) 16) w file (3 + length w.opens)

keeps_bytes : (w : WorldState) (icnt pc : ℕ) (regs : ℕ → ℕ) (bytes : List ℕ) (zero_place : Option ℕ) → Keeps w (open_bytes w icnt pc regs bytes zero_place).1
keeps_bytes w icnt pc regs bytes None = keeps_same w
keeps_bytes w icnt pc regs bytes (Some n) = keeps_named w (file_named w.files (take n bytes))

keeps_open : (w : WorldState) (icnt pc : ℕ) (regs mem : ℕ → ℕ) → Keeps w (open_call w icnt pc regs mem).1
unfolding open_call
keeps_open w icnt pc regs mem =
    either_keeps w (nat_lt 0 (regs 5 % 4)) _ _ (keeps_same w)
    (keeps_bytes w icnt pc regs (path_bytes mem (regs 4)) (position (λ b. nat_eq b 0) (path_bytes mem (regs 4))))

keeps_shut : (w : WorldState) (icnt pc : ℕ) (regs : ℕ → ℕ) (found : Option Opened) → open_at w.opens (regs 4) ≡ found → Keeps w (close_open w icnt pc regs found).1
keeps_shut w icnt pc regs None e = keeps_same w
keeps_shut w icnt pc regs (Some o) e = keeps_set w (regs 4) o (shut o) e

keeps_close : (w : WorldState) (icnt pc : ℕ) (regs : ℕ → ℕ) → Keeps w (close_call w icnt pc regs).1
unfolding close_call
keeps_close w icnt pc regs = keeps_shut w icnt pc regs (open_at w.opens (regs 4)) refl

keeps_break : (w : WorldState) (icnt pc : ℕ) (regs : ℕ → ℕ) → Keeps w (break_call w icnt pc regs).1
unfolding break_call
keeps_break w icnt pc regs =
    either_keeps w (nat_lt (regs 4) w.start_break) _ _ (keeps_same w)
    (either_keeps w (nat_lt 0x7f000000 (regs 4)) _ _ (keeps_same w)
    (keeps_opens w (record w { program_break = regs 4 }) refl refl refl refl))

pub keeps : (w : WorldState) (icnt pc : ℕ) (regs mem : ℕ → ℕ) → Keeps w (served w icnt pc regs mem).1
unfolding served
keeps w icnt pc regs mem =
    either_keeps w (nat_eq (regs 2) 1) _ _ (keeps_same w)
    (either_keeps w (nat_eq (regs 2) 3) _ _ (keeps_read w icnt pc regs)
    (either_keeps w (nat_eq (regs 2) 4) _ _ (keeps_same w)
    (either_keeps w (nat_eq (regs 2) 5) _ _ (keeps_open w icnt pc regs mem)
    (either_keeps w (nat_eq (regs 2) 6) _ _ (keeps_close w icnt pc regs)
    (either_keeps w (nat_eq (regs 2) 17) _ _ (keeps_break w icnt pc regs)
    (keeps_same w))))))
