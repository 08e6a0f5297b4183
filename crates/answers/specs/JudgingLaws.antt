-- Laws of chains of judgements.
use Rattle.std.proofs.Common.{◌≡◌, ◌≢◌, ◌⊎◌, ◌<◌, ◌-◌, ◌++◌, ℕ, zero, suc, Bool, true, false, List, [], ◌∷◌, length, get_or, Option, Some, None, Result, Ok, Err, refl, sym, ap, ◌∙◌, subst, ⊎_elim, inl, inr, arith}
use Rattle.std.specs.Prelude.{map, String, Vec, slice_index, nat_eq, not, if◌then◌else◌}
use Rattle.ecoff_load.specs.declared.fault.Refusal.{Refusal as Misfit}
use Rattle.ecoff_load.specs.declared.image.Image.{Image}
use Rattle.ecoff_load.specs.declared.image.Text.{Text}
use Rattle.ecoff_load.specs.Object.{IsObject}
use Rattle.ecoff_load.specs.Checks.{refusal}
use Rattle.ecoff_load.proofs.Described.{image_of}
use Rattle.ecoff_load.proofs.Exact.{read_as, is_only}
use Rattle.checkpoint.specs.declared.fault.PointFault.{PointFault}
use Rattle.checkpoint.specs.declared.fault.PointFault.TheVariants as point_fault
use Rattle.checkpoint.specs.State.{PointState}
use Rattle.checkpoint.specs.declared.fault.PointWhy.{PointWhy}
use Rattle.checkpoint.specs.declared.fault.PointWhy.TheVariants as point_why
use Rattle.checkpoint.specs.declared.point.Head.{Head}
use Rattle.checkpoint.specs.Held.{state_held, order_place as point_order, stands, head_fit, text_fit, first_refusal, fit}
use Rattle.paged_mem.specs.Memory.{byte_of}
use Rattle.checkpoint.specs.Reading.{placed as placed_point, point_at, Refusal as PointStop}
use Rattle.sim_safe.specs.State.{State, start_state}
use Rattle.event_trace.specs.declared.fault.TraceFault.{TraceFault}
use Rattle.event_trace.specs.declared.fault.TraceFault.TheVariants as trace_fault
use Rattle.event_trace.specs.declared.trace.Trace.{Trace}
use Rattle.event_trace.specs.Grammar.{absent_trace, order_number}
use Rattle.event_trace.specs.declared.fault.TraceWhy.TheVariants as why
use Rattle.event_trace.specs.Reading.{checked, placed, trace_at, Refusal as Stop}
use Rattle.event_trace.specs.World.{File, files_of}
use Rattle.journal.specs.declared.fault.Fault.{Fault}
use Rattle.journal.specs.declared.loading.Found.{Found}
use Rattle.journal.specs.declared.loading.Found.TheVariants as found
use Rattle.journal.specs.View.{View}
use Rattle.journal.specs.Load.{Input, found_of, name_of, IsFirstLong}
use Rattle.journal.specs.Outcome.{Outcome, Comes}
use Rattle.journal.specs.Loading.{comes_now, comes_wanting}
use Rattle.answers.specs.declared.answer.Answer.{Answer}
use Rattle.answers.specs.declared.answer.Answer.TheVariants as answer
use Rattle.answers.specs.declared.refusal.Refusal.{Refusal}
use Rattle.answers.specs.declared.refusal.Refusal.TheVariants as refusals
use Rattle.answers.specs.Answer.{refused}
use Rattle.answers.specs.Judging.{held_beside, held_by, state_at, JudgesHeld, JudgesPoint, JudgesStart, IsStart, order_place, LoadsFile, LoadsNamed, LoadsEach, JudgesObject, JudgesOrder, JudgesRead, JudgesTrace, JudgesGiven, IsTraceOf, IsGiven, RefusesBy, Refuses}

-- ---- what comes next may be said otherwise

pub file_map : (name : List ℕ) (loaded : List Found) (o : Outcome Answer) (N M : List ℕ → List Found → Type 0)
    → ((bytes : List ℕ) (others : List Found) → N bytes others → M bytes others) → LoadsFile name loaded o N → LoadsFile name loaded o M
file_map name [] o N M f x = x
file_map name (found.TooLong ∷ others) o N M f x = x
file_map name (found.Whole bytes ∷ others) o N M f x = f bytes others x

pub named_map : (name : Option (List ℕ)) (loaded : List Found) (o : Outcome Answer) (N M : Option (List ℕ) → List Found → Type 0)
    → ((bytes : Option (List ℕ)) (others : List Found) → N bytes others → M bytes others) → LoadsNamed name loaded o N → LoadsNamed name loaded o M
named_map None loaded o N M f x = f None loaded x
named_map (Some name) loaded o N M f x = file_map name loaded o (λ bytes others. N (Some bytes) others) (λ bytes others. M (Some bytes) others) (λ bytes others. f (Some bytes) others) x

pub each_map : (names : List (List ℕ)) (loaded : List Found) (o : Outcome Answer) (N M : List File → List Found → Type 0)
    → ((files : List File) (others : List Found) → N files others → M files others) → LoadsEach names loaded o N → LoadsEach names loaded o M
each_map [] loaded o N M f x = f [] loaded x
each_map (name ∷ names) loaded o N M f x =
    let first : List ℕ → List File → List File = λ bytes files. record { name = name; bytes = bytes } ∷ files in
    file_map name loaded o (λ bytes others. LoadsEach names others o (λ files rest. N (first bytes files) rest)) (λ bytes others. LoadsEach names others o (λ files rest. M (first bytes files) rest))
    (λ bytes others. each_map names others o (λ files rest. N (first bytes files) rest) (λ files rest. M (first bytes files) rest) (λ files. f (first bytes files)))
    x

pub object_map : (bytes : List ℕ) (o : Outcome Answer) (N M : Image → Type 0) → ((image : Image) → N image → M image) → JudgesObject bytes o N → JudgesObject bytes o M
object_map bytes o N M f x = ⊎_elim (λ h. inl h) (λ h. inr (h.0, h.1, f h.0 h.2)) x

-- an object that is refused is so whatever comes next
pub object_never : (bytes : List ℕ) (o : Outcome Answer) (M : Image → Type 0) → JudgesObject bytes o (λ _. ⊥) → JudgesObject bytes o M
object_never bytes o M x = object_map bytes o (λ _. ⊥) M (λ image h. absurd h) x

held_map : (held : Result State PointFault) (o : Outcome Answer) (N M : State → Type 0) → ((s : State) → N s → M s) → JudgesHeld held o N → JudgesHeld held o M
held_map (Ok s) o N M f x = f s x
held_map (Err (point_fault.Bad at reason)) o N M f x = x
held_map (Err point_fault.OutOfMemory) o N M f x = x

pub start_map : (point : Option (List ℕ)) (image : Image) (args : List (List ℕ)) (o : Outcome Answer) (N M : State → Type 0) → ((s : State) → N s → M s) → JudgesStart point image args o N → JudgesStart point image args o M
start_map None image args o N M f x = f (start_state image args) x
start_map (Some bytes) image args o N M f x = held_map (state_at bytes image.text) o N M f x

pub order_map : (trace : Trace) (big : Bool) (o : Outcome Answer) (N M : Trace → Type 0) → ((t : Trace) → N t → M t) → JudgesOrder trace big o N → JudgesOrder trace big o M
order_map trace big o N M f x = ⊎_elim (λ h. inl h) (λ h. inr (h.0, f trace h.1)) x

read_map : (read : Result Trace TraceFault) (big : Bool) (o : Outcome Answer) (N M : Trace → Type 0) → ((t : Trace) → N t → M t) → JudgesRead read big o N → JudgesRead read big o M
read_map (Err (trace_fault.Bad at reason)) big o N M f x = x
read_map (Err trace_fault.OutOfMemory) big o N M f x = x
read_map (Ok trace) big o N M f x = order_map trace big o N M f x

pub trace_map : (bytes : List ℕ) (big : Bool) (o : Outcome Answer) (N M : Trace → Type 0) → ((t : Trace) → N t → M t) → JudgesTrace bytes big o N → JudgesTrace bytes big o M
trace_map bytes big o N M f x = read_map (checked bytes) big o N M f x

pub given_map : (calls : Option (List ℕ)) (big : Bool) (o : Outcome Answer) (N M : Trace → Type 0) → ((t : Trace) → N t → M t) → JudgesGiven calls big o N → JudgesGiven calls big o M
given_map None big o N M f x = f absent_trace x
given_map (Some bytes) big o N M f x = trace_map bytes big o N M f x

-- a trace that is refused is so whatever comes next
pub given_never : (calls : Option (List ℕ)) (big : Bool) (o : Outcome Answer) (M : Trace → Type 0) → JudgesGiven calls big o (λ _. ⊥) → JudgesGiven calls big o M
given_never calls big o M x = given_map calls big o (λ _. ⊥) M (λ t h. absurd h) x

-- ---- what was judged

pub object_judged : (bytes : List ℕ) (o : Outcome Answer) (N : Image → Type 0) (image : Image) → IsObject bytes image → N image → JudgesObject bytes o N
object_judged bytes o N image h x = inr (image, h, x)

pub start_judged : (point : Option (List ℕ)) (image : Image) (args : List (List ℕ)) (o : Outcome Answer) (N : State → Type 0) (s : State) → IsStart point image args s → N s → JudgesStart point image args o N
start_judged None image args o N s e x = subst N e x
start_judged (Some bytes) image args o N s e x = let P : Result State PointFault → Type 0 = λ r. JudgesHeld r o N in subst P (sym e) x

pub trace_judged : (bytes : List ℕ) (big : Bool) (o : Outcome Answer) (N : Trace → Type 0) (trace : Trace) → IsTraceOf bytes big trace → N trace → JudgesTrace bytes big o N
trace_judged bytes big o N trace e x = let P : Result Trace TraceFault → Type 0 = λ r. JudgesRead r big o N in subst P (sym e.0) (inr (e.1, x))

pub given_judged : (calls : Option (List ℕ)) (big : Bool) (o : Outcome Answer) (N : Trace → Type 0) (trace : Trace) → IsGiven calls big trace → N trace → JudgesGiven calls big o N
given_judged None big o N trace e x = subst N e x
given_judged (Some bytes) big o N trace e x = trace_judged bytes big o N trace e x

-- ---- files that were loaded one after the other

-- all of them, with their names
pub each_loaded : {A B : Type 0} (files : List (String A × Vec ℕ B)) (names : List (List ℕ)) (rest : List Found) (o : Outcome Answer) (N : List File → List Found → Type 0)
    → map name_of files ≡ names → N (files_of files) rest → LoadsEach names (map found_of files ++ rest) o N
each_loaded [] [] rest o N e x = x
each_loaded [] (name ∷ names) rest o N e x = cc
each_loaded (f ∷ files) [] rest o N e x = cc
each_loaded (f ∷ files) (name ∷ names) rest o N e x =
    let first : name_of f ≡ name = cc in
    let M : List File → List Found → Type 0 = λ opened others. N (record { name = name; bytes = f.1.items } ∷ opened) others in
    each_loaded files names rest o M (cc) (subst (λ (n : List ℕ). N (record { name = n; bytes = f.1.items } ∷ files_of files) rest) first x)

-- or a file that is too long, after others
pub each_long : (names : List (List ℕ)) (loaded rest : List Found) (k : ℕ) (N : List File → List Found → Type 0)
    → IsFirstLong loaded k → k < length names → LoadsEach names (loaded ++ rest) (refused (answer.TooLong (get_or names k []))) N
each_long [] loaded rest k N long l = absurd (omega arith)
each_long (name ∷ names) [] rest k N long l = absurd long
each_long (name ∷ names) (found.TooLong ∷ fs) rest zero N long l = refl
each_long (name ∷ names) (found.TooLong ∷ fs) rest (suc k) N long l = absurd long
each_long (name ∷ names) (found.Whole bytes ∷ fs) rest zero N long l = absurd long
each_long (name ∷ names) (found.Whole bytes ∷ fs) rest (suc k) N long l = each_long names fs rest k (λ opened others. N (record { name = name; bytes = bytes } ∷ opened) others) long (omega arith)

-- ---- refusals

-- a refusal of which an outcome speaks comes to it, without loading further files
pub comes_refused : {O : Type 0} (v : View O) (a : O) (inputs : List Input) (b : O) (Has : List Found → Outcome Answer → Type 0) (x : Refusal) (r : Result Answer Fault)
    → ((fs : List Found) → RefusesBy x (Has fs)) → Refuses v a x b r → Comes v a inputs Has b r
comes_refused v a inputs b Has (refusals.Answer x) r has ends = comes_now v a inputs b Has (refused x) r has ends
comes_refused v a inputs b Has refusals.OutOfMemory r has wanting = comes_wanting v a inputs b Has r wanting.0 wanting.1

-- a refusal may be told of a weaker fact
pub refuses_map : (x : Refusal) (N M : Outcome Answer → Type 0) → ((o : Outcome Answer) → N o → M o) → RefusesBy x N → RefusesBy x M
refuses_map (refusals.Answer a) N M f h = f (refused a) h
refuses_map refusals.OutOfMemory N M f h = tt

-- ---- whatever is found, there is an outcome

-- what is found are bytes
abbrev pub AreBytes : List ℕ → Type 0
AreBytes bytes = (i : ℕ) → slice_index bytes i < 256

abbrev pub FoundBytes : List Found → Type 0
FoundBytes [] = Unit {0}
FoundBytes (found.TooLong ∷ fs) = FoundBytes fs
FoundBytes (found.Whole bytes ∷ fs) = AreBytes bytes × FoundBytes fs

-- there is an outcome of which a fact holds
abbrev pub SomeOutcome : (Outcome Answer → Type 0) → Type 0
SomeOutcome Has = (o : Outcome Answer) × Has o

pub file_some : (name : List ℕ) (f : Found) (fs : List Found) (N : Outcome Answer → List ℕ → List Found → Type 0)
    → FoundBytes (f ∷ fs) → ((bytes : List ℕ) → AreBytes bytes → FoundBytes fs → SomeOutcome (λ o. N o bytes fs)) → SomeOutcome (λ o. LoadsFile name (f ∷ fs) o (N o))
file_some name found.TooLong fs N h some = (refused (answer.TooLong name), refl)
file_some name (found.Whole bytes) fs N h some = some bytes h.0 h.1

told_or_not : (told : Option Misfit) → ((bad : Misfit) × (told ≡ Some bad)) ⊎ (told ≡ None)
told_or_not None = inr refl
told_or_not (Some bad) = inl (bad, refl)

pub object_some : (bytes : List ℕ) (N : Outcome Answer → Image → Type 0) → AreBytes bytes → ((image : Image) → IsObject bytes image → SomeOutcome (λ o. N o image)) → SomeOutcome (λ o. JudgesObject bytes o (N o))
object_some bytes N h some = elim (told_or_not (refusal bytes)) as (λ _. SomeOutcome (λ o. JudgesObject bytes o (N o))) [
  | inl bad ↦ (refused (answer.Object bad.0.at bad.0.why), inl (bad.0, bad.1, refl))
  | inr good ↦ let read = image_of bytes h good in let s = some read.0 read.1 in (s.0, inr (read.0, read.1, s.1))
]

-- a check of a point fails at a place, or none does
abbrev AnswersBad : Result (Unit {0}) PointFault → Type 0
AnswersBad (Ok x) = Unit {0}
AnswersBad (Err (point_fault.Bad at reason)) = Unit {0}
AnswersBad (Err point_fault.OutOfMemory) = ⊥

first_bad : (x y : Result (Unit {0}) PointFault) → AnswersBad x → AnswersBad y → AnswersBad (first_refusal x y)
first_bad (Ok x) y h k = k
first_bad (Err e) y h k = h

three_bad : (a b c : Bool) (i j k : ℕ) (x y z : PointWhy)
    → AnswersBad (if a then Err (point_fault.Bad i x) else if b then Err (point_fault.Bad j y) else if c then Err (point_fault.Bad k z) else Ok tt)
three_bad true b c i j k x y z = tt
three_bad false true c i j k x y z = tt
three_bad false false true i j k x y z = tt
three_bad false false false i j k x y z = tt

head_bad : (h : Head) (text : Text) → AnswersBad (head_fit h text)
unfolding head_fit
head_bad h text =
    three_bad (not (nat_eq (order_number h.big) (order_number text.big))) (not (nat_eq h.text_start text.start)) (not (nat_eq h.text_length (length text.bytes)))
    (point_order h.version) 168 172 point_why.OtherOrder point_why.Text point_why.Text

one_bad : (a : Bool) (k : ℕ) (z : PointWhy) → AnswersBad (if a then Ok tt else Err (point_fault.Bad k z))
one_bad true k z = tt
one_bad false k z = tt

text_bad : (memory : ℕ → ℕ) (text : Text) → AnswersBad (text_fit memory text)
unfolding text_fit
text_bad memory text = one_bad (stands memory text.start text.bytes) 176 point_why.OtherText

fit_bad : (p : PointState) (text : Text) → AnswersBad (fit p text)
fit_bad p text = first_bad (head_fit p.head text) (text_fit (byte_of p.pages) text) (head_bad p.head text) (text_bad (byte_of p.pages) text)

beside_some : (checks : Result (Unit {0}) PointFault) (p : PointState) (text : Text) (N : Outcome Answer → State → Type 0) → AnswersBad checks → ((s : State) → SomeOutcome (λ o. N o s)) → SomeOutcome (λ o. JudgesHeld (held_beside checks p text) o (N o))
beside_some (Ok x) p text N h some = some (state_held p text)
beside_some (Err (point_fault.Bad at reason)) p text N h some = (refused (answer.Point at reason), refl)
beside_some (Err point_fault.OutOfMemory) p text N h some = absurd h

held_some : (total : ℕ) (read : Result PointState PointStop) (text : Text) (N : Outcome Answer → State → Type 0) → ((s : State) → SomeOutcome (λ o. N o s)) → SomeOutcome (λ o. JudgesHeld (held_by (placed_point total read) text) o (N o))
held_some total (Err e) text N some = (refused (answer.Point (total - e.left) e.why), refl)
held_some total (Ok p) text N some = beside_some (fit p text) p text N (fit_bad p text) some

pub start_some : (point : Option (List ℕ)) (image : Image) (args : List (List ℕ)) (N : Outcome Answer → State → Type 0) → ((s : State) → SomeOutcome (λ o. N o s)) → SomeOutcome (λ o. JudgesStart point image args o (N o))
start_some None image args N some = some (start_state image args)
start_some (Some bytes) image args N some = held_some (length bytes) (point_at bytes) image.text N some

same_order : (a b : Bool) → (a ≡ b) ⊎ (a ≢ b)
same_order true true = inl refl
same_order true false = inr (λ e. cc)
same_order false true = inr (λ e. cc)
same_order false false = inl refl

-- a reading that is complete has an outcome
read_some : (total : ℕ) (read : Result Trace Stop) (big : Bool) (N : Outcome Answer → Trace → Type 0) → ((t : Trace) → SomeOutcome (λ o. N o t)) → SomeOutcome (λ o. JudgesRead (placed total read) big o (N o))
read_some total (Err e) big N some = (refused (answer.Trace (total - e.left) e.why), refl)
read_some total (Ok trace) big N some = elim (same_order trace.big big) as (λ _. SomeOutcome (λ o. JudgesOrder trace big o (N o))) [
  | inl e ↦ let s = some trace in (s.0, inr (e, s.1))
  | inr d ↦ (refused (answer.Trace (order_place trace) why.OtherOrder), inl (d, refl))
]

pub given_some : (calls : Option (List ℕ)) (big : Bool) (N : Outcome Answer → Trace → Type 0) → ((trace : Trace) → SomeOutcome (λ o. N o trace)) → SomeOutcome (λ o. JudgesGiven calls big o (N o))
given_some None big N some = some absent_trace
given_some (Some bytes) big N some = read_some (length bytes) (trace_at bytes) big N some

-- ---- of the same files there is at most one outcome

pub file_once : (name : List ℕ) (loaded : List Found) (o p : Outcome Answer) (N M : List ℕ → List Found → Type 0)
    → ((bytes : List ℕ) (others : List Found) → N bytes others → M bytes others → o ≡ p) → LoadsFile name loaded o N → LoadsFile name loaded p M → o ≡ p
file_once name [] o p N M f x y = absurd x
file_once name (found.TooLong ∷ others) o p N M f x y = x ∙ sym y
file_once name (found.Whole bytes ∷ others) o p N M f x y = f bytes others x y

pub named_once : (name : Option (List ℕ)) (loaded : List Found) (o p : Outcome Answer) (N M : Option (List ℕ) → List Found → Type 0)
    → ((bytes : Option (List ℕ)) (others : List Found) → N bytes others → M bytes others → o ≡ p) → LoadsNamed name loaded o N → LoadsNamed name loaded p M → o ≡ p
named_once None loaded o p N M f x y = f None loaded x y
named_once (Some name) loaded o p N M f x y = file_once name loaded o p (λ bytes others. N (Some bytes) others) (λ bytes others. M (Some bytes) others) (λ bytes others. f (Some bytes) others) x y

pub each_once : (names : List (List ℕ)) (loaded : List Found) (o p : Outcome Answer) (N M : List File → List Found → Type 0)
    → ((files : List File) (others : List Found) → N files others → M files others → o ≡ p) → LoadsEach names loaded o N → LoadsEach names loaded p M → o ≡ p
each_once [] loaded o p N M f x y = f [] loaded x y
each_once (name ∷ names) loaded o p N M f x y =
    let first : List ℕ → List File → List File = λ bytes files. record { name = name; bytes = bytes } ∷ files in
    file_once name loaded o p (λ bytes others. LoadsEach names others o (λ files rest. N (first bytes files) rest)) (λ bytes others. LoadsEach names others p (λ files rest. M (first bytes files) rest))
    (λ bytes others. each_once names others o p (λ files rest. N (first bytes files) rest) (λ files rest. M (first bytes files) rest) (λ files. f (first bytes files)))
    x y

one_refusal : (told : Option Misfit) (a b : Misfit) → told ≡ Some a → told ≡ Some b → a ≡ b
one_refusal None a b h k = absurd cc
one_refusal (Some r) a b h k = let e : Some a ≡ Some b = sym h ∙ k in cc

not_refused : {X : Type 0} (told : Option Misfit) (a : Misfit) → told ≡ None → told ≡ Some a → X
not_refused told a h k = let e : None ≡ Some a = sym h ∙ k in absurd cc

-- bytes are an object of at most one image
one_image : (bytes : List ℕ) (i j : Image) → IsObject bytes i → IsObject bytes j → i ≡ j
one_image bytes i j h k =
    let read = read_as bytes i h in
    is_only bytes (Ok i) j (read.holds, read.text, read.found, read.same) k

pub object_once : (bytes : List ℕ) (o p : Outcome Answer) (N M : Image → Type 0) → ((image : Image) → N image → M image → o ≡ p) → JudgesObject bytes o N → JudgesObject bytes p M → o ≡ p
object_once bytes o p N M f (inl a) (inl b) =
    let e : a.0 ≡ b.0 = one_refusal (refusal bytes) a.0 b.0 a.1 b.1 in
    a.2 ∙ ap (λ (r : Misfit). refused (answer.Object r.at r.why)) e ∙ sym b.2
object_once bytes o p N M f (inl a) (inr b) = not_refused (refusal bytes) a.0 (read_as bytes b.0 b.1).holds a.1
object_once bytes o p N M f (inr a) (inl b) = not_refused (refusal bytes) b.0 (read_as bytes a.0 a.1).holds b.1
object_once bytes o p N M f (inr a) (inr b) = f b.0 (subst N (one_image bytes a.0 b.0 a.1 b.1) a.2) b.2

held_once : (held : Result State PointFault) (o p : Outcome Answer) (N M : State → Type 0) → ((s : State) → N s → M s → o ≡ p) → JudgesHeld held o N → JudgesHeld held p M → o ≡ p
held_once (Ok s) o p N M f x y = f s x y
held_once (Err (point_fault.Bad at reason)) o p N M f x y = x ∙ sym y
held_once (Err point_fault.OutOfMemory) o p N M f x y = absurd x

pub start_once : (point : Option (List ℕ)) (image : Image) (args : List (List ℕ)) (o p : Outcome Answer) (N M : State → Type 0) → ((s : State) → N s → M s → o ≡ p) → JudgesStart point image args o N → JudgesStart point image args p M → o ≡ p
start_once None image args o p N M f x y = f (start_state image args) x y
start_once (Some bytes) image args o p N M f x y = held_once (state_at bytes image.text) o p N M f x y

order_once : (trace : Trace) (big : Bool) (o p : Outcome Answer) (N M : Trace → Type 0) → ((t : Trace) → N t → M t → o ≡ p) → JudgesOrder trace big o N → JudgesOrder trace big p M → o ≡ p
order_once trace big o p N M f (inl a) (inl b) = a.1 ∙ sym b.1
order_once trace big o p N M f (inl a) (inr b) = absurd (a.0 b.0)
order_once trace big o p N M f (inr a) (inl b) = absurd (b.0 a.0)
order_once trace big o p N M f (inr a) (inr b) = f trace a.1 b.1

read_once : (read : Result Trace TraceFault) (big : Bool) (o p : Outcome Answer) (N M : Trace → Type 0) → ((t : Trace) → N t → M t → o ≡ p) → JudgesRead read big o N → JudgesRead read big p M → o ≡ p
read_once (Err (trace_fault.Bad at reason)) big o p N M f x y = x ∙ sym y
read_once (Err trace_fault.OutOfMemory) big o p N M f x y = absurd x
read_once (Ok trace) big o p N M f x y = order_once trace big o p N M f x y

pub given_once : (calls : Option (List ℕ)) (big : Bool) (o p : Outcome Answer) (N M : Trace → Type 0) → ((t : Trace) → N t → M t → o ≡ p) → JudgesGiven calls big o N → JudgesGiven calls big p M → o ≡ p
given_once None big o p N M f x y = f absent_trace x y
given_once (Some bytes) big o p N M f x y = read_once (checked bytes) big o p N M f x y
