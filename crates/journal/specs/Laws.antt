-- Laws of journals that are written one behind the other.
use Rattle.std.specs.Prelude.{◌≡◌, ◌++◌, ℕ, List, [], ◌∷◌, Result, Ok, Err}
use Rattle.std.proofs.Common.{refl, sym, ap, ◌∙◌, subst, inl, inr, append_assoc, append-nil}
use Rattle.ss_base.specs.Outside.{Files}
use Rattle.journal.specs.declared.fault.Fault.{Fault}
use Rattle.journal.specs.declared.fault.Fault.TheVariants as fault
use Rattle.journal.specs.Write.{Write, Start, Append, Output, Report, Journal, Lacks, files_after, files_with, output_of, report_of, PartOfFiles, PartOfOutput, PartOfReport}
use Rattle.journal.specs.Outcome.{Outcome, Ends, behind}
use Rattle.journal.specs.View.{View, Stays, Holds, Untouched, Wrote, Failed, RanOut, LeftOut, Cut, GaveUp, Raised, IsCalm, counts}

-- ---- two journals as one

pub lacks_later : (f : Fault) (k h : Journal) → Lacks f (k ++ h) → Lacks f k
lacks_later f [] h l = tt
lacks_later f (w ∷ k) h l = (l.0, lacks_later f k h l.1)

pub lacks_earlier : (f : Fault) (k h : Journal) → Lacks f (k ++ h) → Lacks f h
lacks_earlier f [] h l = l
lacks_earlier f (w ∷ k) h l = lacks_earlier f k h l.1

pub files_more : (k h : Journal) (files : Files) → files_after (k ++ h) files ≡ files_after k (files_after h files)
files_more [] h files = refl
files_more (w ∷ k) h files = ap (files_with w) (files_more k h files)

pub output_more : (k h : Journal) → output_of (k ++ h) ≡ output_of h ++ output_of k
output_more [] h = sym (append-nil (output_of h))
output_more (Start name ∷ k) h = output_more k h
output_more (Append name bytes ∷ k) h = output_more k h
output_more (Output bytes ∷ k) h = ap (λ x. x ++ bytes) (output_more k h) ∙ append_assoc (output_of h) (output_of k) bytes
output_more (Report bytes ∷ k) h = output_more k h

pub report_more : (k h : Journal) → report_of (k ++ h) ≡ report_of h ++ report_of k
report_more [] h = sym (append-nil (report_of h))
report_more (Start name ∷ k) h = report_more k h
report_more (Append name bytes ∷ k) h = report_more k h
report_more (Output bytes ∷ k) h = report_more k h
report_more (Report bytes ∷ k) h = ap (λ x. x ++ bytes) (report_more k h) ∙ append_assoc (report_of h) (report_of k) bytes

-- ---- whole journals

pub stays_none : {O : Type 0} (v : View O) (a : O) → Stays v a a
stays_none v a = record { place = refl; tells = λ t. t; calm = λ t. t; prog = λ t. t; stat = λ t. t; prog_calm = λ t. t; stat_calm = λ t. t }

pub stays_more : {O : Type 0} (v : View O) (a b c : O) → Stays v a b → Stays v b c → Stays v a c
stays_more v a b c p q = record {
  place = q.place ∙ p.place;
  tells = λ t. q.tells (p.tells t);
  calm = λ t. q.calm (p.calm t);
  prog = λ t. q.prog (p.prog t);
  stat = λ t. q.stat (p.stat t);
  prog_calm = λ t. q.prog_calm (p.prog_calm t);
  stat_calm = λ t. q.stat_calm (p.stat_calm t);
}

-- what is calm stays so
pub calm_more : {O : Type 0} (v : View O) (f : Fault) (a b : O) → Stays v a b → IsCalm v f a → IsCalm v f b
calm_more v fault.Shelf a b s c = s.calm c
calm_more v fault.Prog a b s c = s.prog_calm c
calm_more v fault.Stat a b s c = s.stat_calm c
calm_more v fault.OutOfMemory a b s c = c

pub holds_none : {O : Type 0} (v : View O) (a : O) → Holds v a [] a
holds_none v a = record {
  stays = stays_none v a;
  counts = refl;
  files = λ t. refl;
  output = λ t. sym (append-nil (v.prog.contents a));
  report = λ t. sym (append-nil (v.stat.contents a));
}

-- bytes of one stream, added in two steps
joined : (x y z p q r : List ℕ) → y ≡ x ++ p → z ≡ y ++ q → r ≡ p ++ q → z ≡ x ++ r
joined x y z p q r d e f = e ∙ ap (λ l. l ++ q) d ∙ append_assoc x p q ∙ ap (λ l. x ++ l) (sym f)

pub holds_more : {O : Type 0} (v : View O) (a b c : O) (h k : Journal) → Holds v a h b → Holds v b k c → Holds v a (k ++ h) c
holds_more v a b c h k p q = record {
  stays = stays_more v a b c p.stays q.stays;
  counts = q.counts ∙ p.counts;
  files = λ t. q.files (p.stays.tells t) ∙ ap (files_after k) (p.files t) ∙ sym (files_more k h (v.files a));
  output = λ t. joined (v.prog.contents a) (v.prog.contents b) (v.prog.contents c) (output_of h) (output_of k) (output_of (k ++ h)) (p.output t) (q.output (p.stays.prog t)) (output_more k h);
  report = λ t. joined (v.stat.contents a) (v.stat.contents b) (v.stat.contents c) (report_of h) (report_of k) (report_of (k ++ h)) (p.report t) (q.report (p.stays.stat t)) (report_more k h);
}

pub untouched_none : {O : Type 0} (v : View O) (a : O) (h : Journal) → Untouched v a h a
untouched_none v a h = record { prog = λ l. refl; stat = λ l. refl }

pub untouched_more : {O : Type 0} (v : View O) (a b c : O) (h k : Journal) → Untouched v a h b → Untouched v b k c → Untouched v a (k ++ h) c
untouched_more v a b c h k p q = record {
  prog = λ l. q.prog (lacks_later fault.Prog k h l) ∙ p.prog (lacks_earlier fault.Prog k h l);
  stat = λ l. q.stat (lacks_later fault.Stat k h l) ∙ p.stat (lacks_earlier fault.Stat k h l);
}

pub untouched_within : {O : Type 0} (v : View O) (a b : O) (h k : Journal) → Untouched v a h b → Untouched v a (k ++ h) b
untouched_within v a b h k p = record { prog = λ l. p.prog (lacks_earlier fault.Prog k h l); stat = λ l. p.stat (lacks_earlier fault.Stat k h l) }

-- an empty journal is written by doing nothing
pub wrote_none : {O : Type 0} (v : View O) (a : O) → Wrote v a [] a
wrote_none v a = record { holds = holds_none v a; untouched = untouched_none v a [] }

-- two journals that were written are one that was
pub wrote_more : {O : Type 0} (v : View O) (a b c : O) (h k : Journal) → Wrote v a h b → Wrote v b k c → Wrote v a (k ++ h) c
wrote_more v a b c h k p q = record { holds = holds_more v a b c h k p.holds q.holds; untouched = untouched_more v a b c h k p.untouched q.untouched }

-- ---- cut journals

pub raised_more : (f : Fault) (a b c : ℕ × ℕ × ℕ) → b ≡ a → Raised f b c → Raised f a c
raised_more f a b c e r = subst (λ x. Raised f x c) e r

longer : (x y p q r : List ℕ) → y ≡ x ++ p → r ≡ p ++ q → y ++ q ≡ x ++ r
longer x y p q r d f = ap (λ l. l ++ q) d ∙ append_assoc x p q ∙ ap (λ l. x ++ l) (sym f)

failed_more : {O : Type 0} (v : View O) (a b c : O) (h k : Journal) (f : Fault) → Wrote v a h b → Failed v b k f c → Failed v a (k ++ h) f c
failed_more v a b c h k f p q = record {
  done = q.done ++ h;
  next = q.next;
  later = q.later;
  all = ap (λ l. l ++ h) q.all ∙ append_assoc q.later (q.next ∷ q.done) h;
  by = q.by;
  stays = stays_more v a b c p.holds.stays q.stays;
  counts = raised_more f (counts v a) (counts v b) (counts v c) p.holds.counts q.counts;
  calm = λ t. q.calm (calm_more v f a b p.holds.stays t);
  files = λ t. subst (λ x. PartOfFiles q.next x (v.files c)) (ap (files_after q.done) (p.holds.files t) ∙ sym (files_more q.done h (v.files a))) (q.files (p.holds.stays.tells t));
  output = λ t. subst (λ x. PartOfOutput q.next x (v.prog.contents c)) (longer (v.prog.contents a) (v.prog.contents b) (output_of h) (output_of q.done) (output_of (q.done ++ h)) (p.holds.output t) (output_more q.done h)) (q.output (p.holds.stays.prog t));
  report = λ t. subst (λ x. PartOfReport q.next x (v.stat.contents c)) (longer (v.stat.contents a) (v.stat.contents b) (report_of h) (report_of q.done) (report_of (q.done ++ h)) (p.holds.report t) (report_more q.done h)) (q.report (p.holds.stays.stat t));
  untouched = untouched_more v a b c h (q.next ∷ q.done) p.untouched q.untouched;
}

left_out_more : {O : Type 0} (v : View O) (a b c : O) (h k : Journal) → Wrote v a h b → LeftOut v b k c → LeftOut v a (k ++ h) c
left_out_more v a b c h k p q = record {
  done = q.done ++ h;
  next = q.next;
  later = q.later;
  all = ap (λ l. l ++ h) q.all ∙ append_assoc q.later (q.next ∷ q.done) h;
  holds = holds_more v a b c h q.done p.holds q.holds;
  untouched = untouched_more v a b c h (q.next ∷ q.done) p.untouched q.untouched;
}

ran_out_more : {O : Type 0} (v : View O) (a b c : O) (h k : Journal) → Wrote v a h b → RanOut v b k c → RanOut v a (k ++ h) c
ran_out_more v a b c h k p (inl q) = inl (wrote_more v a b c h k p q)
ran_out_more v a b c h k p (inr q) = inr (left_out_more v a b c h k p q)

-- a cut behind a whole journal
pub cut_more : {O : Type 0} (v : View O) (a b c : O) (h k : Journal) (f : Fault) → Wrote v a h b → Cut v b k f c → Cut v a (k ++ h) f c
cut_more v a b c h k fault.Shelf p q = failed_more v a b c h k fault.Shelf p q
cut_more v a b c h k fault.Prog p q = failed_more v a b c h k fault.Prog p q
cut_more v a b c h k fault.Stat p q = failed_more v a b c h k fault.Stat p q
cut_more v a b c h k fault.OutOfMemory p q = ran_out_more v a b c h k p q

failed_within : {O : Type 0} (v : View O) (a b : O) (h k : Journal) (f : Fault) → Failed v a h f b → Failed v a (k ++ h) f b
failed_within v a b h k f q = record {
  done = q.done;
  next = q.next;
  later = k ++ q.later;
  all = ap (λ l. k ++ l) q.all ∙ sym (append_assoc k q.later (q.next ∷ q.done));
  by = q.by;
  stays = q.stays;
  counts = q.counts;
  calm = q.calm;
  files = q.files;
  output = q.output;
  report = q.report;
  untouched = q.untouched;
}

left_out_within : {O : Type 0} (v : View O) (a b : O) (h k : Journal) → LeftOut v a h b → LeftOut v a (k ++ h) b
left_out_within v a b h k q = record {
  done = q.done;
  next = q.next;
  later = k ++ q.later;
  all = ap (λ l. k ++ l) q.all ∙ sym (append_assoc k q.later (q.next ∷ q.done));
  holds = q.holds;
  untouched = q.untouched;
}

-- a list of missing writes that ends with its oldest one
pub oldest : (w : Write) (later done : Journal) → (next : Write) × (more : Journal) × (w ∷ later ++ done ≡ more ++ next ∷ done)
oldest w [] done = (w, [], refl)
oldest w (x ∷ later) done = let q = oldest x later done in (q.0, w ∷ q.1, ap (λ l. w ∷ l) q.2)

-- a whole journal is given up where further writes were to come
wrote_left : {O : Type 0} (v : View O) (a b : O) (h : Journal) (w : Write) (k : Journal) → Wrote v a h b → LeftOut v a (w ∷ k ++ h) b
wrote_left v a b h w k q =
    let p = oldest w k h in
    record { done = h; next = p.0; later = p.1; all = p.2; holds = q.holds; untouched = untouched_within v a b h (p.0 ∷ []) q.untouched }

ran_out_within : {O : Type 0} (v : View O) (a b : O) (h k : Journal) → RanOut v a h b → RanOut v a (k ++ h) b
ran_out_within v a b h [] q = q
ran_out_within v a b h (w ∷ k) (inl q) = inr (wrote_left v a b h w k q)
ran_out_within v a b h (w ∷ k) (inr q) = inr (left_out_within v a b h (w ∷ k) q)

-- a cut stays one where further writes were to come
pub cut_within : {O : Type 0} (v : View O) (a b : O) (h k : Journal) (f : Fault) → Cut v a h f b → Cut v a (k ++ h) f b
cut_within v a b h k fault.Shelf q = failed_within v a b h k fault.Shelf q
cut_within v a b h k fault.Prog q = failed_within v a b h k fault.Prog q
cut_within v a b h k fault.Stat q = failed_within v a b h k fault.Stat q
cut_within v a b h k fault.OutOfMemory q = ran_out_within v a b h k q

-- without memory nothing need be written
pub cut_none : {O : Type 0} (v : View O) (a : O) (h : Journal) → Cut v a h fault.OutOfMemory a
cut_none v a [] = inl (wrote_none v a)
cut_none v a (w ∷ h) = inr (subst (λ l. LeftOut v a (w ∷ l) a) (append-nil h) (wrote_left v a a [] w h (wrote_none v a)))

-- ---- journals that were given up

-- giving up behind a whole journal
pub gave_up_more : {O : Type 0} (v : View O) (a b c : O) (h k : Journal) (f : Fault) → Wrote v a h b → GaveUp v b k f c → GaveUp v a (k ++ h) f c
gave_up_more v a b c h k fault.Shelf p q = failed_more v a b c h k fault.Shelf p q
gave_up_more v a b c h k fault.Prog p q = failed_more v a b c h k fault.Prog p q
gave_up_more v a b c h k fault.Stat p q = failed_more v a b c h k fault.Stat p q
gave_up_more v a b c h k fault.OutOfMemory p q = left_out_more v a b c h k p q

-- further writes that were to come are given up with it
pub gave_up_within : {O : Type 0} (v : View O) (a b : O) (h k : Journal) (f : Fault) → GaveUp v a h f b → GaveUp v a (k ++ h) f b
gave_up_within v a b h k fault.Shelf q = failed_within v a b h k fault.Shelf q
gave_up_within v a b h k fault.Prog q = failed_within v a b h k fault.Prog q
gave_up_within v a b h k fault.Stat q = failed_within v a b h k fault.Stat q
gave_up_within v a b h k fault.OutOfMemory q = left_out_within v a b h k q

-- giving up is a cut
pub gave_up_cut : {O : Type 0} (v : View O) (a b : O) (h : Journal) (f : Fault) → GaveUp v a h f b → Cut v a h f b
gave_up_cut v a b h fault.Shelf q = q
gave_up_cut v a b h fault.Prog q = q
gave_up_cut v a b h fault.Stat q = q
gave_up_cut v a b h fault.OutOfMemory q = inr q

left_out_before : {O : Type 0} (v : View O) (a b : O) (w : Write) (h : Journal) → RanOut v a h b → LeftOut v a (w ∷ h) b
left_out_before v a b w h (inl q) = wrote_left v a b h w [] q
left_out_before v a b w h (inr q) = left_out_within v a b h (w ∷ []) q

-- a cut is giving up where one more write was to come
pub cut_gave_up : {O : Type 0} (v : View O) (a b : O) (w : Write) (h : Journal) (f : Fault) → Cut v a h f b → GaveUp v a (w ∷ h) f b
cut_gave_up v a b w h fault.Shelf q = failed_within v a b h (w ∷ []) fault.Shelf q
cut_gave_up v a b w h fault.Prog q = failed_within v a b h (w ∷ []) fault.Prog q
cut_gave_up v a b w h fault.Stat q = failed_within v a b h (w ∷ []) fault.Stat q
cut_gave_up v a b w h fault.OutOfMemory q = left_out_before v a b w h q

-- ---- the same for a single write
pub wrote_next : {O : Type 0} (v : View O) (a b c : O) (w : Write) (h : Journal) → Wrote v a h b → Wrote v b (w ∷ []) c → Wrote v a (w ∷ h) c
wrote_next v a b c w h p q = wrote_more v a b c h (w ∷ []) p q

pub gave_up_next : {O : Type 0} (v : View O) (a b c : O) (w : Write) (h : Journal) (f : Fault) → Wrote v a h b → GaveUp v b (w ∷ []) f c → GaveUp v a (w ∷ h) f c
gave_up_next v a b c w h f p q = gave_up_more v a b c h (w ∷ []) f p q

pub gave_up_before : {O : Type 0} (v : View O) (a b : O) (w : Write) (h : Journal) (f : Fault) → GaveUp v a h f b → GaveUp v a (w ∷ h) f b
gave_up_before v a b w h f q = gave_up_within v a b h (w ∷ []) f q

-- without memory a journal that isn't empty is given up at its start
pub gave_up_none : {O : Type 0} (v : View O) (a : O) (w : Write) (h : Journal) → GaveUp v a (w ∷ h) fault.OutOfMemory a
gave_up_none v a w h = cut_gave_up v a a w h fault.OutOfMemory (cut_none v a h)

-- ---- outcomes

-- an outcome behind a whole journal
pub ends_more : {O E : Type 0} (v : View O) (a b c : O) (h : Journal) (o : Outcome E) (r : Result E Fault) → Wrote v a h b → Ends v b o c r → Ends v a (behind h o) c r
ends_more v a b c h o (Ok e) p q = (q.0, wrote_more v a b c h o.writes p q.1)
ends_more v a b c h o (Err f) p q = gave_up_more v a b c h o.writes f p q
