-- A watch that takes one event more, and one that is finished.
use Rattle.std.proofs.Common.{◌≡◌, ◌++◌, ◌∙◌, ◌+◌, ◌<◌, ℕ, Bool, true, false, cond, List, [], ◌∷◌, Option, Some, None, Result, Ok, Err, refl, sym, ap, subst, append_assoc, append-nil, length, arith}
use Rattle.std.specs.Prelude.{unwrap_or}
use Rattle.std.proofs.Math.Seq.{take-append_seam}
use Rattle.std.proofs.lemmas.Bool.Decides.{nat_tests}
use Rattle.ss_base.specs.declared.fault.PutFault.{PutFault}
use Rattle.ss_base.specs.declared.fault.PutFault.TheVariants as put
use Rattle.ss_base.specs.Outside.{Appends, BeginsWith, Files, OthersStay, bytes_at}
use Rattle.ooo_table.specs.declared.event.Event.{Event}
use Rattle.ooo_table.specs.declared.event.EndWord.{EndWord}
use Rattle.pipetrace.specs.declared.watch.TextWatch.{TextWatch}
use Rattle.pipetrace.specs.Text.{end_line, event_text, events_text}
use Rattle.pipetrace.specs.Watch.{Pends, WritesPiece, WritesText, file_of, is_short, last_of, left_of, pending_of}
use Rattle.pipetrace.specs.Watched.{HasTaken, TakesOrIsCut, last_cycle}

last_more : (es : List Event) (b : Option ℕ) (e : Event) → last_cycle b (es ++ e ∷ []) ≡ Some e.cycle
last_more [] b e = refl
last_more (d ∷ es) b e = last_more es (Some d.cycle) e

text_more : (es : List Event) (b : Option ℕ) (e : Event) → events_text b (es ++ e ∷ []) ≡ events_text b es ++ event_text (last_cycle b es) e
text_more [] b e = append-nil (event_text b e)
text_more (d ∷ es) b e =
    ap (λ l. event_text b d ++ l) (text_more es (Some d.cycle) e)
    ∙ sym (append_assoc (event_text b d) (events_text (Some d.cycle) es) (event_text (last_cycle (Some d.cycle) es) e))

-- what the file holds and what is to be written are the text of all
whole : (held before pending text : List ℕ) (es : List Event) (e : Event) (last : Option ℕ) → last ≡ last_cycle None es → held ++ pending ≡ before ++ events_text None es → text ≡ pending ++ event_text last e
    → held ++ text ≡ before ++ events_text None (es ++ e ∷ [])
whole held before pending text es e last is so_far t =
    ap (λ l. held ++ l) (t ∙ ap (λ x. pending ++ event_text x e) is)
    ∙ sym (append_assoc held pending (event_text (last_cycle None es) e))
    ∙ ap (λ l. l ++ event_text (last_cycle None es) e) so_far
    ∙ append_assoc before (events_text None es) (event_text (last_cycle None es) e)
    ∙ ap (λ l. before ++ l) (sym (text_more es None e))

stay_twice : (a b c : Files) (name : List ℕ) → OthersStay a name b → OthersStay b name c → OthersStay a name c
stay_twice a b c name h k = λ other ne. k other ne ∙ h other ne

front_of : (held text all : List ℕ) → held ++ text ≡ all → BeginsWith all held
front_of held text all e = subst (λ l. BeginsWith l held) e (take-append_seam held text)

held_same : (a b : Files) (name : List ℕ) → b name ≡ a name → bytes_at b name ≡ bytes_at a name
held_same a b name e = ap (λ o. unwrap_or o []) e

short_told : (text : List ℕ) → is_short text ≡ true → length text < 65536
short_told text e = grind (arith, nat_tests)

-- where the piece stays pending
kept_text : {T : Type 0} (start : Files) (name : List ℕ) (es : List Event) (v w : TextWatch) (a b : Files) (text : List ℕ) (e : Event) (r : Result T PutFault) → HasTaken start name es v a
    → is_short text ≡ true → text ≡ pending_of v ++ event_text (last_of v) e → b ≡ a → Pends v text (Some e.cycle) w r → TakesOrIsCut start name (es ++ e ∷ []) w b r
kept_text start name es v w a b text e (Ok x) h short t same p = record {
  name_is = p.0 ∙ h.name_is;
  last = p.2 ∙ sym (last_more es None e);
  short = subst (λ l. length l < 65536) (sym p.1) (short_told text short);
  text = ap (λ l. bytes_at b name ++ l) p.1 ∙ ap (λ (f : Files). bytes_at f name ++ text) same ∙ whole (bytes_at a name) (bytes_at start name) (pending_of v) text es e (last_of v) h.last h.text t;
  others = subst (λ (f : Files). OthersStay start name f) (sym same) h.others;
}
kept_text start name es v w a b text e (Err f) h short t same p = record {
  front = subst (λ (g : Files). BeginsWith (bytes_at start name ++ events_text None (es ++ e ∷ [])) (bytes_at g name)) (sym same)
      (front_of (bytes_at a name) text (bytes_at start name ++ events_text None (es ++ e ∷ [])) (whole (bytes_at a name) (bytes_at start name) (pending_of v) text es e (last_of v) h.last h.text t));
  others = subst (λ (g : Files). OthersStay start name g) (sym same) h.others;
}

-- what an append leaves of a file that was to get the rest of a text
after_append : (T : Type 0) (a b : Files) (name text all : List ℕ) (f : PutFault) → bytes_at a name ++ text ≡ all → Appends {T = T} a name text b (Err f) → BeginsWith all (bytes_at b name)
after_append T a b name text all put.Failed e h = subst (λ l. BeginsWith l (bytes_at b name)) e h.1
after_append T a b name text all put.OutOfMemory e h = subst (λ l. BeginsWith all l) (sym (held_same a b name h)) (front_of (bytes_at a name) text all e)

-- where it is written
written_text : {T : Type 0} (start : Files) (name : List ℕ) (es : List Event) (v w : TextWatch) (a b : Files) (text : List ℕ) (e : Event) (r : Result T PutFault) → HasTaken start name es v a
    → text ≡ pending_of v ++ event_text (last_of v) e → WritesText a name text b r → Pends v [] (Some e.cycle) w r → TakesOrIsCut start name (es ++ e ∷ []) w b r
written_text start name es v w a b text e (Ok x) h t wrote p = record {
  name_is = p.0 ∙ h.name_is;
  last = p.2 ∙ sym (last_more es None e);
  short = subst (λ l. length l < 65536) (sym p.1) (omega arith);
  text = ap (λ l. bytes_at b name ++ l) p.1 ∙ append-nil (bytes_at b name) ∙ ap (λ o. unwrap_or o []) wrote.file ∙ whole (bytes_at a name) (bytes_at start name) (pending_of v) text es e (last_of v) h.last h.text t;
  others = stay_twice start a b name h.others wrote.others;
}
written_text {T} start name es v w a b text e (Err f) h t wrote p = record {
  front = after_append T a b name text (bytes_at start name ++ events_text None (es ++ e ∷ [])) f (whole (bytes_at a name) (bytes_at start name) (pending_of v) text es e (last_of v) h.last h.text t) wrote.file;
  others = stay_twice start a b name h.others wrote.others;
}

takes_by : {T : Type 0} (start : Files) (name : List ℕ) (es : List Event) (v w : TextWatch) (a b : Files) (text : List ℕ) (e : Event) (r : Result T PutFault) (short : Bool) → HasTaken start name es v a
    → is_short text ≡ short → text ≡ pending_of v ++ event_text (last_of v) e → WritesPiece short a name text b r → Pends v (cond short text []) (Some e.cycle) w r → TakesOrIsCut start name (es ++ e ∷ []) w b r
takes_by start name es v w a b text e r true h s t wrote p = kept_text start name es v w a b text e r h s t wrote p
takes_by start name es v w a b text e r false h s t wrote p = written_text start name es v w a b text e r h t wrote p

pub takes_event : {T : Type 0} (start : Files) (name : List ℕ) (es : List Event) (v w : TextWatch) (a b : Files) (e : Event) (r : Result T PutFault) → HasTaken start name es v a
    → WritesPiece (is_short (pending_of v ++ event_text (last_of v) e)) a (file_of v) (pending_of v ++ event_text (last_of v) e) b r
    → Pends v (left_of (pending_of v ++ event_text (last_of v) e)) (Some e.cycle) w r → TakesOrIsCut start name (es ++ e ∷ []) w b r
takes_event start name es v w a b e r h wrote p =
    let text = pending_of v ++ event_text (last_of v) e in
    takes_by start name es v w a b text e r (is_short text) h refl refl (subst (λ n. WritesPiece (is_short text) a n text b r) h.name_is wrote) p

-- the end
pub finishes : {T : Type 0} (start : Files) (name : List ℕ) (es : List Event) (v : TextWatch) (a b : Files) (n : ℕ) (end : EndWord) (x : T) → HasTaken start name es v a
    → WritesText {T = T} a (file_of v) (pending_of v ++ end_line n end) b (Ok x) → (bytes_at b name ≡ bytes_at start name ++ (events_text None es ++ end_line n end)) × OthersStay start name b
finishes {T} start name es v a b n end x h wrote =
    let w = subst (λ m. WritesText {T = T} a m (pending_of v ++ end_line n end) b (Ok x)) h.name_is wrote in (
      ap (λ o. unwrap_or o []) w.file
          ∙ sym (append_assoc (bytes_at a name) (pending_of v) (end_line n end))
          ∙ ap (λ l. l ++ end_line n end) h.text
          ∙ append_assoc (bytes_at start name) (events_text None es) (end_line n end),
      stay_twice start a b name h.others w.others,
    )
