-- A record is read as it was written.
use Rattle.std.proofs.Common.{◌≡◌, ℕ, List, ◌++◌, length, Ok, refl, ap, subst, ◌∙◌, append_assoc, arith}
use Rattle.std.specs.List.{flat_map}
use Rattle.std.proofs.lemmas.List.{nil_from_length}
use Rattle.event_trace.specs.declared.trace.CallKind.{CallKind}
use Rattle.event_trace.specs.declared.trace.CallKind.TheVariants.{Plain, Emit, Exit}
use Rattle.event_trace.specs.declared.trace.Block.{Block}
use Rattle.event_trace.specs.declared.trace.Record.{Record}
use Rattle.event_trace.specs.declared.record_reading.Head.{Head}
use Rattle.event_trace.specs.Grammar.{register_bytes, block_bytes, head_bytes, record_bytes, IsRegister, next_register, IsBlock, next_block, FitsKind, IsRecord}
use Rattle.event_trace.specs.Reading.{items_at, register_at, block_at, head_at, record_at}
use Rattle.event_trace.proofs.Fields.{IsBytes, bind_ok, ok_is, Takes, Takes-then, items_take, items_again}
use Rattle.event_trace.proofs.Items.{register_takes, register_again, block_takes, block_again}
use Rattle.event_trace.proofs.Heads.{KindFits, HeadFits, head_cells, head_text, head_takes, head_again}

fits_kind : (k : CallKind) (r : Record) (outs out_blocks code : ℕ) → length r.outs ≡ outs → length r.out_blocks ≡ out_blocks → r.code ≡ code → KindFits k outs out_blocks code → FitsKind k r
fits_kind Exit r outs out_blocks code e0 e1 e2 fits = (nil_from_length r.outs (e0 ∙ fits.0), nil_from_length r.out_blocks (e1 ∙ fits.1))
fits_kind Plain r outs out_blocks code e0 e1 e2 fits = e2 ∙ fits
fits_kind Emit r outs out_blocks code e0 e1 e2 fits = e2 ∙ fits

kind_fits : (k : CallKind) (r : Record) → FitsKind k r → KindFits k (length r.outs) (length r.out_blocks) r.code
kind_fits Exit r fits = (ap length fits.0, ap length fits.1)
kind_fits Plain r fits = fits
kind_fits Emit r fits = fits

same_cells : (icnt pc : ℕ) (kind : CallKind) (a b c d i j k l code : ℕ) → i ≡ a → j ≡ b → k ≡ c → l ≡ d → head_cells icnt pc kind a b c d code ≡ head_cells icnt pc kind i j k l code
same_cells icnt pc kind a b c d i j k l code e0 e1 e2 e3 = rw (e0, e1, e2, e3) refl

lists_behind : (h a b c d : List ℕ) → h ++ (a ++ (b ++ (c ++ d))) ≡ (((h ++ a) ++ b) ++ c) ++ d
lists_behind h a b c d = simp append_assoc

pub record_takes : (least : ℕ) (bytes : List ℕ) (x : Record) (rest : List ℕ) → IsBytes bytes → record_at least bytes ≡ Ok (x, rest) → Takes bytes (record_bytes x) rest × IsRecord least x
unfolding record_at
record_takes least bytes x rest fits e =
    let a = bind_ok (head_at least bytes) _ _ e in
    let h = a.0.0 in
    let b = bind_ok (items_at register_at next_register h.ins 1 a.0.1) _ _ a.2 in
    let c = bind_ok (items_at block_at next_block h.in_blocks 0 b.0.1) _ _ b.2 in
    let d = bind_ok (items_at register_at next_register h.outs 1 c.0.1) _ _ c.2 in
    let f = bind_ok (items_at block_at next_block h.out_blocks 0 d.0.1) _ _ d.2 in
    let t0 = head_takes least bytes h a.0.1 fits a.1 in
    let t1 = items_take register_at next_register register_bytes IsRegister register_takes h.ins 1 a.0.1 b.0.0 b.0.1 t0.0.rest_fits b.1 in
    let t2 = items_take block_at next_block block_bytes IsBlock block_takes h.in_blocks 0 b.0.1 c.0.0 c.0.1 t1.0.rest_fits c.1 in
    let t3 = items_take register_at next_register register_bytes IsRegister register_takes h.outs 1 c.0.1 d.0.0 d.0.1 t2.0.rest_fits d.1 in
    let t4 = items_take block_at next_block block_bytes IsBlock block_takes h.out_blocks 0 d.0.1 f.0.0 f.0.1 t3.0.rest_fits f.1 in
    let w3 = Takes-then c.0.1 (flat_map register_bytes d.0.0) d.0.1 (flat_map block_bytes f.0.0) f.0.1 t3.0 t4.0 in
    let w2 = Takes-then b.0.1 (flat_map block_bytes c.0.0) c.0.1 (flat_map register_bytes d.0.0 ++ flat_map block_bytes f.0.0) f.0.1 t2.0 w3 in
    let w1 = Takes-then a.0.1 (flat_map register_bytes b.0.0) b.0.1 (flat_map block_bytes c.0.0 ++ (flat_map register_bytes d.0.0 ++ flat_map block_bytes f.0.0)) f.0.1 t1.0 w2 in
    let lists = flat_map register_bytes b.0.0 ++ (flat_map block_bytes c.0.0 ++ (flat_map register_bytes d.0.0 ++ flat_map block_bytes f.0.0)) in
    let w0 = Takes-then bytes (head_text h) a.0.1 lists f.0.1 t0.0 w1 in
    let r : Record = record { icnt = h.icnt; pc = h.pc; kind = h.kind; code = h.code; ins = b.0.0; in_blocks = c.0.0; outs = d.0.0; out_blocks = f.0.0 } in
    let same : head_text h ≡ head_bytes r = same_cells h.icnt h.pc h.kind h.ins h.in_blocks h.outs h.out_blocks (length b.0.0) (length c.0.0) (length d.0.0) (length f.0.0) h.code t1.1 t2.1 t3.1 t4.1 in
    let text : head_text h ++ lists ≡ record_bytes r = ap (λ (t : List ℕ). t ++ lists) same ∙ lists_behind (head_bytes r) (flat_map register_bytes b.0.0) (flat_map block_bytes c.0.0) (flat_map register_bytes d.0.0) (flat_map block_bytes f.0.0) in
    let whole : Takes bytes (record_bytes r) f.0.1 = subst (λ (t : List ℕ). Takes bytes t f.0.1) text w0 in
    let made : Record × List ℕ = (r, f.0.1) in
    subst (λ (y : Record × List ℕ). Takes bytes (record_bytes y.0) y.1 × IsRecord least y.0) (ok_is made (x, rest) f.2) (
      whole,
      record {
        rising = t0.1.rising;
        icnt = t0.1.icnt;
        pc = t0.1.pc;
        code = t0.1.code;
        kind = fits_kind h.kind r h.outs h.out_blocks h.code t3.1 t4.1 refl t0.1.kind;
        ins = (omega (arith, t1.1, t0.1.ins), t1.2);
        in_blocks = (omega (arith, t2.1, t0.1.in_blocks), t2.2);
        outs = (omega (arith, t3.1, t0.1.outs), t3.2);
        out_blocks = (omega (arith, t4.1, t0.1.out_blocks), t4.2);
      },
    )

record_ok : (least : ℕ) (h : Head) (ins outs : List (ℕ × ℕ)) (in_blocks out_blocks : List Block) (b0 b1 b2 b3 b4 b5 : List ℕ) → head_at least b0 ≡ Ok (h, b1) → items_at register_at next_register h.ins 1 b1 ≡ Ok (ins, b2) → items_at block_at next_block h.in_blocks 0 b2 ≡ Ok (in_blocks, b3) → items_at register_at next_register h.outs 1 b3 ≡ Ok (outs, b4) → items_at block_at next_block h.out_blocks 0 b4 ≡ Ok (out_blocks, b5)
    → record_at least b0 ≡ Ok (record { icnt = h.icnt; pc = h.pc; kind = h.kind; code = h.code; ins = ins; in_blocks = in_blocks; outs = outs; out_blocks = out_blocks }, b5)
unfolding record_at
record_ok least h ins outs in_blocks out_blocks b0 b1 b2 b3 b4 b5 e0 e1 e2 e3 e4 = rw (e0, e1, e2, e3, e4) refl

in_order : (h a b c d rest : List ℕ) → ((((h ++ a) ++ b) ++ c) ++ d) ++ rest ≡ h ++ (a ++ (b ++ (c ++ (d ++ rest))))
in_order h a b c d rest = simp append_assoc

pub record_again : (least : ℕ) (r : Record) (rest : List ℕ) → IsRecord least r → record_at least (record_bytes r ++ rest) ≡ Ok (r, rest)
record_again least r rest fits =
    let h : Head = record { icnt = r.icnt; pc = r.pc; kind = r.kind; ins = length r.ins; in_blocks = length r.in_blocks; outs = length r.outs; out_blocks = length r.out_blocks; code = r.code } in
    let ins = flat_map register_bytes r.ins in
    let in_blocks = flat_map block_bytes r.in_blocks in
    let outs = flat_map register_bytes r.outs in
    let out_blocks = flat_map block_bytes r.out_blocks in
    let head_fits : HeadFits least h = record {
      rising = fits.rising;
      icnt = fits.icnt;
      pc = fits.pc;
      code = fits.code;
      ins = fits.ins.0;
      in_blocks = fits.in_blocks.0;
      outs = fits.outs.0;
      out_blocks = fits.out_blocks.0;
      kind = kind_fits r.kind r fits.kind;
    } in
    ap (record_at least) (in_order (head_bytes r) ins in_blocks outs out_blocks rest)
    ∙ record_ok least h r.ins r.outs r.in_blocks r.out_blocks _ _ _ _ _ rest
    (head_again least h (ins ++ (in_blocks ++ (outs ++ (out_blocks ++ rest)))) head_fits)
    (items_again register_at next_register register_bytes IsRegister register_again 1 r.ins (in_blocks ++ (outs ++ (out_blocks ++ rest))) fits.ins.1)
    (items_again block_at next_block block_bytes IsBlock block_again 0 r.in_blocks (outs ++ (out_blocks ++ rest)) fits.in_blocks.1)
    (items_again register_at next_register register_bytes IsRegister register_again 1 r.outs (out_blocks ++ rest) fits.outs.1)
    (items_again block_at next_block block_bytes IsBlock block_again 0 r.out_blocks rest fits.out_blocks.1)
