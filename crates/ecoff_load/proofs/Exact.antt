-- At an object of an image no check fails, and the steps of reading give that image.
use Rattle.std.proofs.Common.{◌≡◌, ℕ, ◌+◌, ◌*◌, ◌%◌, ◌≤◌, Bool, true, false, cond, eqb, leb, List, [], ◌∷◌, ◌++◌, length, Option, Some, None, Result, Ok, Err, refl, sym, ap, subst, ◌∙◌, arith, inl, inr}
use Rattle.std.specs.Prelude.{◌||◌, ◌&&◌, is_some}
use Rattle.std.specs.List.{AllByRecursion, AllZip, filter, filter_map, find, cons_option}
use Rattle.std.proofs.lemmas.Bool.{eq-eqb, ne_eqb, le-leb, and_from, or_left, or_right}
use Rattle.std.proofs.lemmas.List.{nil_from_length}
use Rattle.ecoff_load.specs.declared.section.Section.{Section}
use Rattle.ecoff_load.specs.declared.image.Kind.{Kind}
use Rattle.ecoff_load.specs.declared.image.Kind.TheVariants.{Data, Rdata, Sdata, Bss, Sbss}
use Rattle.ecoff_load.specs.declared.image.Part.{Part}
use Rattle.ecoff_load.specs.declared.image.Text.{Text}
use Rattle.ecoff_load.specs.declared.image.Image.{Image}
use Rattle.ecoff_load.specs.declared.fault.ObjectWhy.TheVariants as why
use Rattle.ecoff_load.specs.declared.fault.Refusal.{Refusal}
use Rattle.ecoff_load.specs.declared.fault.ObjectFault.{ObjectFault}
use Rattle.ecoff_load.specs.declared.fault.ObjectFault.TheVariants as faults
use Rattle.ecoff_load.specs.Words.{half_in, word_in}
use Rattle.ecoff_load.specs.Sections.{sections, part_kind, kind_flags, brings_bytes, is_text, is_part}
use Rattle.ecoff_load.specs.Object.{IsApart, IsPart, magic, HasHeaders, section_bytes, HasContent, IsPartOf, IsObject}
use Rattle.ecoff_load.specs.Checks.{Check, check, first_failing, is_big, is_little, header_checks, sections_checks, text_check, overlap_checks, checks, refusal, Gives}
use Rattle.ecoff_load.specs.Reading.{part_of_kind, part_of, image_with, ReadsBySteps}
use Rattle.ecoff_load.proofs.FirstFailing.{holds_first, behind_none}
use Rattle.ecoff_load.proofs.Passed.{TextPassed, KindPassed, AllPassed, sections_pass, LiesBeside, KindBeside, IsBeside, overlaps_pass}
use Rattle.ecoff_load.proofs.Described.{length-content}

-- ---- the headers

pub order_is : (big : Bool) (bytes : List ℕ) → half_in big bytes 0 ≡ magic big → is_big bytes ≡ big
order_is true bytes e = eq-eqb (half_in true bytes 0) (magic true) e
order_is false bytes e = ne_eqb (half_in true bytes 0) (magic true) (λ f. omega (arith, e, f))

magic_holds : (bytes : List ℕ) (b : Bool) → is_big bytes ≡ b → half_in b bytes 0 ≡ magic b → (is_little bytes || b) ≡ true
magic_holds bytes true e h = or_right (is_little bytes) true refl
magic_holds bytes false e h = or_left (is_little bytes) false (eq-eqb (half_in false bytes 0) (magic false) h)

pub headers_pass : (bytes : List ℕ) → HasHeaders (is_big bytes) bytes → first_failing (header_checks bytes) ≡ None
unfolding header_checks
headers_pass bytes h =
    let size = length bytes in
    let big = is_big bytes in
    let count = half_in big bytes 2 in
    let l4 : List Check = check (leb (76 + 40 * count) size) size why.Short ∷ [] in
    let l3 : List Check = check (eqb (half_in big bytes 16) 56) 16 why.OptHeader ∷ l4 in
    let l2 : List Check = check (leb 1 count && leb count 16) 2 why.Sections ∷ l3 in
    let l1 : List Check = check (is_little bytes || big) 0 why.Magic ∷ l2 in
    holds_first (check (leb 20 size) size why.Short) l1 (le-leb 20 size h.file_header)
    (holds_first (check (is_little bytes || big) 0 why.Magic) l2 (magic_holds bytes big refl h.magic_number)
    (holds_first (check (leb 1 count && leb count 16) 2 why.Sections) l3 (and_from (leb 1 count) (leb count 16) (le-leb 1 count h.some_sections) (le-leb count 16 h.most_sections))
    (holds_first (check (eqb (half_in big bytes 16) 56) 16 why.OptHeader) l4 (eq-eqb (half_in big bytes 16) 56 h.optional_size)
    (holds_first (check (leb (76 + 40 * count) size) size why.Short) [] (le-leb (76 + 40 * count) size h.headers) refl))))

-- ---- texts

-- at most one text is left, and none where one was seen
record OneLeft (size : ℕ) (seen : Bool) (texts : List Section) : Type 0 where
  none : seen ≡ true → texts ≡ []
  one : length texts ≤ 1
  each : AllByRecursion (TextPassed size false) texts

not_empty : {X : Type 0} (s : Section) (ss : List Section) → s ∷ ss ≡ [] → X
not_empty s ss e = absurd cc

true_is_false : {X : Type 0} → false ≡ true → X
true_is_false e = absurd cc

text_step : (size : ℕ) (s : Section) (seen b : Bool) (rest : List Section) → OneLeft size seen (cond b (s ∷ rest) rest) → (b ≡ true → TextPassed size seen s) × OneLeft size (seen || b) rest
text_step size s true true rest h = not_empty s rest (h.none refl)
text_step size s false true rest h =
    (λ _. h.each.0, record { none = λ _. nil_from_length rest (omega (arith, h.one)); one = omega (arith, h.one); each = h.each.1 })
text_step size s true false rest h = (λ e. true_is_false e, record { none = h.none; one = h.one; each = h.each })
text_step size s false false rest h = (λ e. true_is_false e, record { none = h.none; one = h.one; each = h.each })

-- ---- parts

kind_again : (kind : Kind) → part_kind (kind_flags kind) ≡ Some kind
kind_again Data = refl
kind_again Rdata = refl
kind_again Sdata = refl
kind_again Bss = refl
kind_again Sbss = refl

some_kind : (a b : Kind) → Some a ≡ Some b → a ≡ b
some_kind a b e = cc

same_part : (p : Part) (kind : Kind) (addr size : ℕ) (bytes : List ℕ) → p.kind ≡ kind → p.addr ≡ addr → p.size ≡ size → p.bytes ≡ bytes → p ≡ record { kind = kind; addr = addr; size = size; bytes = bytes }
same_part p kind addr size bytes e0 e1 e2 e3 =
    ap (λ (k : Kind). record { kind = k; addr = p.addr; size = p.size; bytes = p.bytes }) e0
    ∙ ap (λ (n : ℕ). record { kind = kind; addr = n; size = p.size; bytes = p.bytes }) e1
    ∙ ap (λ (n : ℕ). record { kind = kind; addr = addr; size = n; bytes = p.bytes }) e2
    ∙ ap (λ (l : List ℕ). record { kind = kind; addr = addr; size = size; bytes = l }) e3

content_is : (bytes : List ℕ) (s : Section) (p : Part) (b : Bool) → HasContent b bytes s p → p.bytes ≡ cond b (section_bytes bytes s) []
content_is bytes s p true h = h.1
content_is bytes s p false h = h

content_in_file : (bytes : List ℕ) (s : Section) (p : Part) (b : Bool) → HasContent b bytes s p → b ≡ true → s.pointer + s.size ≤ length bytes
content_in_file bytes s p true h e = h.0
content_in_file bytes s p false h e = true_is_false e

beside_by : (t s : Section) (text : Text) (p : Part) (b : Bool) → p.addr ≡ s.addr → p.size ≡ s.size → text.start ≡ t.addr → length text.bytes ≡ t.size → length p.bytes ≡ cond b p.size 0 → IsApart text p → b ≡ true → LiesBeside t s
beside_by t s text p false ea es start size bytes apart e = true_is_false e
beside_by t s text p true ea es start size bytes (inl h) e = inl (omega (arith, es, bytes, h))
beside_by t s text p true ea es start size bytes (inr (inl h)) e = inr (inl (omega (arith, ea, es, start, h)))
beside_by t s text p true ea es start size bytes (inr (inr h)) e = inr (inr (omega (arith, ea, start, size, h)))

-- what a section and the parts from it on say: its checks hold, and they are its part and the others
record Step (bytes : List ℕ) (text : Text) (t s : Section) (k : Option Kind) (others : List Section) (parts : List Part) : Type 0 where
  passed : KindPassed (length bytes) s k
  beside : KindBeside t s k
  rest : List Part
  described : AllZip (IsPartOf bytes) others rest
  fit : AllByRecursion (IsPart text) rest
  same : parts ≡ cons_option (part_of_kind bytes s k) rest

part_step : (bytes : List ℕ) (text : Text) (t s : Section) (k : Option Kind) (others : List Section) (parts : List Part) → part_kind s.flags ≡ k → text.start ≡ t.addr → length text.bytes ≡ t.size
    → AllZip (IsPartOf bytes) (cond (is_some k) (s ∷ others) others) parts → AllByRecursion (IsPart text) parts → Step bytes text t s k others parts
part_step bytes text t s None others parts e start size h fit = record { passed = tt; beside = tt; rest = parts; described = h; fit = fit; same = refl }
part_step bytes text t s (Some kind) others [] e start size h fit = absurd h
part_step bytes text t s (Some kind) others (p ∷ ps) e start size h fit =
    let is = h.0 in
    let same_kind : p.kind ≡ kind = some_kind p.kind kind (sym (kind_again p.kind) ∙ ap part_kind (sym is.kind) ∙ e) in
    record {
      passed = (omega (arith, fit.0.range, is.addr, is.size), λ b. content_in_file bytes s p (brings_bytes p.kind) is.content (ap brings_bytes same_kind ∙ b));
      beside = λ b. beside_by t s text p (brings_bytes p.kind) is.addr is.size start size fit.0.bytes fit.0.apart (ap brings_bytes same_kind ∙ b);
      rest = ps;
      described = h.1;
      fit = fit.1;
      same = ap (λ (x : Part). x ∷ ps) (same_part p kind s.addr s.size (cond (brings_bytes kind) (section_bytes bytes s) []) same_kind is.addr is.size
          (content_is bytes s p (brings_bytes p.kind) is.content ∙ ap (λ (x : Kind). cond (brings_bytes x) (section_bytes bytes s) []) same_kind));
    }

-- what all sections say
record Steps (bytes : List ℕ) (t : Section) (seen : Bool) (ss : List Section) (parts : List Part) : Type 0 where
  passed : AllPassed (length bytes) seen ss
  beside : AllByRecursion (IsBeside t) ss
  same : parts ≡ filter_map (part_of bytes) ss

steps : (bytes : List ℕ) (text : Text) (t : Section) (seen : Bool) (ss : List Section) (parts : List Part) → text.start ≡ t.addr → length text.bytes ≡ t.size → OneLeft (length bytes) seen (filter is_text ss)
    → AllZip (IsPartOf bytes) (filter is_part ss) parts → AllByRecursion (IsPart text) parts → Steps bytes t seen ss parts
steps bytes text t seen [] [] start size one h fit = record { passed = tt; beside = tt; same = refl }
steps bytes text t seen [] (p ∷ ps) start size one h fit = absurd h
steps bytes text t seen (s ∷ ss) parts start size one h fit =
    let a = text_step (length bytes) s seen (is_text s) (filter is_text ss) one in
    let b = part_step bytes text t s (part_kind s.flags) (filter is_part ss) parts refl start size h fit in
    let more = steps bytes text t (seen || is_text s) ss b.rest start size a.1 b.described b.fit in
    record {
      passed = (record { text = a.0; part = b.passed }, more.passed);
      beside = (b.beside, more.beside);
      same = b.same ∙ ap (cons_option (part_of_kind bytes s (part_kind s.flags))) more.same;
    }

-- ---- the whole

first_is : (s t : Section) (a b : List Section) → s ∷ a ≡ t ∷ b → s ≡ t
first_is s t a b e = cc

find_by : (b : Bool) (s t : Section) (rest others : List Section) (found : Option Section) → cond b (s ∷ rest) rest ≡ t ∷ others → (rest ≡ t ∷ others → found ≡ Some t) → cond b (Some s) found ≡ Some t
find_by true s t rest others found e more = ap (λ (x : Section). Some x) (first_is s t rest others e)
find_by false s t rest others found e more = more e

find_first : (test : Section → Bool) (ss : List Section) (t : Section) (others : List Section) → filter test ss ≡ t ∷ others → find test ss ≡ Some t
find_first test [] t others e = absurd cc
find_first test (s ∷ ss) t others e = find_by (test s) s t (filter test ss) others (find test ss) e (find_first test ss t others)

same_image : (i : Image) (entry start : ℕ) (big : Bool) (bytes : List ℕ) (parts : List Part) → i.entry ≡ entry → i.text.start ≡ start → i.text.big ≡ big → i.text.bytes ≡ bytes → i.parts ≡ parts
    → i ≡ record { entry = entry; text = record { start = start; big = big; bytes = bytes }; parts = parts }
same_image i entry start big bytes parts e0 e1 e2 e3 e4 =
    ap (λ (n : ℕ). record { entry = n; text = i.text; parts = i.parts }) e0
    ∙ ap (λ (n : ℕ). record { entry = entry; text = record { start = n; big = i.text.big; bytes = i.text.bytes }; parts = i.parts }) e1
    ∙ ap (λ (b : Bool). record { entry = entry; text = record { start = start; big = b; bytes = i.text.bytes }; parts = i.parts }) e2
    ∙ ap (λ (l : List ℕ). record { entry = entry; text = record { start = start; big = big; bytes = l }; parts = i.parts }) e3
    ∙ ap (λ (l : List Part). record { entry = entry; text = record { start = start; big = big; bytes = bytes }; parts = l }) e4

-- what reading gives at an object of an image
pub record ReadAs (bytes : List ℕ) (image : Image) : Type 0 where
  pub holds : refusal bytes ≡ None
  pub text : Section
  pub found : find is_text (sections (is_big bytes) bytes) ≡ Some text
  pub same : image ≡ image_with (is_big bytes) bytes text

pub read_as : (bytes : List ℕ) (image : Image) → IsObject bytes image → ReadAs bytes image
unfolding checks image_with
read_as bytes image is =
    let big = is_big bytes in
    let size = length bytes in
    let all = sections big bytes in
    let order : image.text.big ≡ big = sym (order_is image.text.big bytes is.headers.magic_number) in
    let headers : HasHeaders big bytes = subst (λ (b : Bool). HasHeaders b bytes) order is.headers in
    let t = is.text.0 in
    let of_text = is.text.2 in
    let texts : filter is_text all ≡ t ∷ [] = ap (λ (b : Bool). filter is_text (sections b bytes)) (sym order) ∙ is.text.1 in
    let described : AllZip (IsPartOf bytes) (filter is_part all) image.parts = subst (λ (b : Bool). AllZip (IsPartOf bytes) (filter is_part (sections b bytes)) image.parts) order is.parts in
    let text_size : length image.text.bytes ≡ t.size = ap length of_text.content ∙ length-content bytes t of_text.in_file in
    let limits = is.limits.text in
    let passed : TextPassed size false t = record {
      first = refl;
      align = ap (λ (n : ℕ). n % 8) (sym of_text.start) ∙ limits.alignment;
      least = omega (arith, text_size, limits.least_size);
      most = omega (arith, text_size, limits.greatest_size);
      range = omega (arith, text_size, of_text.start, limits.range);
      file = of_text.in_file;
    } in
    let one : OneLeft size false (t ∷ []) = record { none = λ e. true_is_false e; one = omega arith; each = (passed, tt) } in
    let all_steps = steps bytes image.text t false all image.parts of_text.start text_size (subst (OneLeft size false) (sym texts) one) described is.limits.parts in
    let found : find is_text all ≡ Some t = find_first is_text all t [] texts in
    let behind : first_failing (text_check (find is_text all) ∷ overlap_checks (find is_text all) all) ≡ None =
    ap (λ (o : Option Section). first_failing (text_check o ∷ overlap_checks o all)) found ∙ overlaps_pass t all all_steps.beside in
    record {
      holds = behind_none (header_checks bytes) (sections_checks size false all ++ text_check (find is_text all) ∷ overlap_checks (find is_text all) all) (headers_pass bytes headers)
          ∙ behind_none (sections_checks size false all) (text_check (find is_text all) ∷ overlap_checks (find is_text all) all) (sections_pass size false all all_steps.passed)
          ∙ behind;
      text = t;
      found = found;
      same = same_image image (word_in big bytes 36) t.addr big (section_bytes bytes t) (filter_map (part_of bytes) all) (is.entry ∙ ap (λ (b : Bool). word_in b bytes 36) order) of_text.start order of_text.content all_steps.same;
    }

some_section : (s t : Section) → Some s ≡ Some t → s ≡ t
some_section s t e = cc

some_is_none : {X : Type 0} (r : Refusal) → Some r ≡ None → X
some_is_none r e = absurd cc

not_both : {X : Type 0} (o : Option Refusal) (r : Refusal) → o ≡ None → o ≡ Some r → X
not_both o r e f = some_is_none r (sym f ∙ e)

pub is_only : (bytes : List ℕ) (result : Result Image ObjectFault) (image : Image) → ReadsBySteps bytes result → IsObject bytes image → Gives result image
is_only bytes (Ok given) image h is =
    let read = read_as bytes image is in
    let same : h.1 ≡ read.text = some_section h.1 read.text (sym h.2 ∙ read.found) in
    h.3 ∙ ap (image_with (is_big bytes) bytes) same ∙ sym read.same
is_only bytes (Err (faults.Bad at reason)) image h is = not_both (refusal bytes) (record { at = at; why = reason }) (read_as bytes image is).holds h
is_only bytes (Err faults.OutOfMemory) image h is = tt

pub same_object : (bytes : List ℕ) (one other : Image) → IsObject bytes one → IsObject bytes other → one ≡ other
same_object bytes one other is-one is-other =
    let a = read_as bytes one is-one in
    let b = read_as bytes other is-other in
    a.same ∙ ap (image_with (is_big bytes) bytes) (some_section a.text b.text (sym a.found ∙ b.found)) ∙ sym b.same
