-- A point is read as it was written.
use Rattle.std.proofs.Common.{◌≡◌, ℕ, ◌+◌, ◌≤◌, List, [], ◌∷◌, ◌++◌, length, Result, Ok, Err, refl, sym, ap, subst, ◌∙◌, arith}
use Rattle.std.specs.Prelude.{IfOk}
use Rattle.std.specs.List.{flat_map}
use Rattle.std.proofs.lemmas.List.{append-nil, nil_from_length}
use Rattle.event_trace.proofs.Fields.{IsBytes, Takes-then}
use Rattle.paged_mem.specs.Memory.{Pages}
use Rattle.checkpoint.specs.declared.fault.PointWhy.TheVariants as why
use Rattle.checkpoint.specs.declared.fault.PointFault.{PointFault}
use Rattle.checkpoint.specs.declared.point.Head.{Head}
use Rattle.checkpoint.specs.State.{PointState}
use Rattle.checkpoint.specs.Grammar.{head_bytes, page_bytes, point_bytes, ArePages, IsHead, IsPoint}
use Rattle.checkpoint.specs.Reading.{Refusal, ◌>>=◌, start_at, pages_at, point_at, placed, checked, Answers}
use Rattle.checkpoint.proofs.Checks.{bind_ok, at_least, ok_is}
use Rattle.checkpoint.proofs.Pages.{pages_take, pages_again}
use Rattle.checkpoint.proofs.Heads.{start_takes}
use Rattle.checkpoint.proofs.HeadsAgain.{start_again}

-- what was read is fit to be a point
pub parts_fit : (bytes : List ℕ) (h : Head) (count : ℕ) (rest : List ℕ) (pages : Pages) (more : List ℕ) → IsBytes bytes → start_at bytes ≡ Ok (record { head = h; count = count }, rest) → pages_at count 0 rest ≡ Ok (pages, more) → IsHead h × ArePages pages
parts_fit bytes h count rest pages more fits e f =
    let s = start_takes bytes (record { head = h; count = count }) rest fits e in
    (s.head, (pages_take count 0 rest pages more s.takes.rest_fits f).2)

pub point_takes : (bytes : List ℕ) (p : PointState) → IsBytes bytes → point_at bytes ≡ Ok p → IsPoint p × (bytes ≡ point_bytes p)
unfolding point_at
point_takes bytes p fits e =
    let a = bind_ok (start_at bytes) _ _ e in
    let s = a.0.0 in
    let b = bind_ok (pages_at s.count 0 a.0.1) _ _ a.2 in
    let made : PointState = record { head = s.head; pages = b.0.0 } in
    let q = at_least 0 (length b.0.1) (record { left = length b.0.1; why = why.Extra }) (Ok made) p b.2 in
    let t0 = start_takes bytes s a.0.1 fits a.1 in
    let t1 = pages_take s.count 0 a.0.1 b.0.0 b.0.1 t0.takes.rest_fits b.1 in
    let whole = (Takes-then bytes (head_bytes s.head s.count) a.0.1 (flat_map page_bytes b.0.0) b.0.1 t0.takes t1.0).parts in
    let nothing : b.0.1 ≡ [] = nil_from_length b.0.1 (omega (arith, q.0)) in
    let text = λ (n : ℕ). head_bytes s.head n ++ flat_map page_bytes b.0.0 in
    let same : bytes ≡ point_bytes made = whole ∙ ap (λ (r : List ℕ). text s.count ++ r) nothing ∙ append-nil (text s.count) ∙ ap text (sym t1.1) in
    subst (λ (y : PointState). IsPoint y × (bytes ≡ point_bytes y)) (ok_is made p q.1)
    (record { head = t0.head; pages = t1.2; icnt = t0.icnt; count = omega (arith, t1.1, t0.count) }, same)

point_ok : (h : Head) (count : ℕ) (pages : Pages) (b0 b1 : List ℕ) → start_at b0 ≡ Ok (record { head = h; count = count }, b1) → pages_at count 0 b1 ≡ Ok (pages, []) → point_at b0 ≡ Ok (record { head = h; pages = pages })
unfolding point_at
point_ok h count pages b0 b1 e0 e1 = rw (e0, e1) refl

pub point_again : (p : PointState) → IsPoint p → point_at (point_bytes p) ≡ Ok p
point_again p fits =
    let tail = flat_map page_bytes p.pages in
    let rest : pages_at (length p.pages) 0 tail ≡ Ok (p.pages, []) = ap (pages_at (length p.pages) 0) (sym (append-nil tail)) ∙ pages_again 0 p.pages [] fits.pages in
    point_ok p.head (length p.pages) p.pages (point_bytes p) tail (start_again p.head (length p.pages) tail fits.head fits.icnt fits.count) rest

abbrev fine : PointState → Result PointState PointFault
fine x = Ok x

point_is : (x y : PointState) → fine x ≡ fine y → x ≡ y
point_is x y e = cc

placed_ok : (total : ℕ) (r : Result PointState Refusal) (p : PointState) → placed total r ≡ Ok p → r ≡ Ok p
placed_ok total (Ok x) p e = ap (λ (y : PointState). Ok y) (point_is x p e)
placed_ok total (Err d) p e = absurd cc

pub is_found : (bytes : List ℕ) (r : Result PointState PointFault) → IsBytes bytes → Answers r (checked bytes) → IfOk r (λ p. IsPoint p × (bytes ≡ point_bytes p))
is_found bytes (Ok p) fits given = point_takes bytes p fits (placed_ok (length bytes) (point_at bytes) p given)
is_found bytes (Err e) fits given = tt

pub is_only : (bytes : List ℕ) (p : PointState) → IsPoint p → bytes ≡ point_bytes p → checked bytes ≡ Ok p
is_only bytes p fits e = ap (placed (length bytes)) (ap point_at e ∙ point_again p fits)

pub same_point : (p q : PointState) → IsPoint p → IsPoint q → point_bytes p ≡ point_bytes q → p ≡ q
same_point p q fp fq e = ok_is p q (sym (point_again p fp) ∙ ap point_at e ∙ point_again q fq)
