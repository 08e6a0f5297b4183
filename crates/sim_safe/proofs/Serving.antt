-- A call that is done by its record.
use Rattle.std.proofs.Common.{◌≡◌, ℕ, ◌+◌, ◌<◌, ◌≤◌, List, [], ◌∷◌, length, drop, get_or, sym, ap, subst, ◌∙◌}
use Rattle.std.proofs.Math.ListN.{drop_of_length-le}
use Rattle.event_trace.specs.declared.trace.Block.{Block}
use Rattle.std.specs.Prelude.{Bool, IsTrue}
use Rattle.pisa_step.specs.Reader.{Reader, with_bytes}
use Rattle.paged_mem.specs.Memory.{Pages, is_reserved, IsReserved, IsRangeReserved, Meets}
use Rattle.sim_safe.specs.State.{Storage, state_of, reader_of, Agrees}
use Rattle.sim_safe.specs.Agreement.{agrees_trans}
use Rattle.sim_safe.specs.Call.{with_blocks}
use Rattle.sim_safe.specs.Step.{AreBlocksReserved}
use Rattle.sim_safe.proofs.Lists.{rest_at}

-- a machine became another while pages of blocks were reserved, of which some are left
pub record IsReserving (was now : Storage) (blocks rest : List Block) : Type 0 where
  pub state : state_of now ≡ state_of was
  pub kept : (n : ℕ) → IsReserved was.pages n → IsReserved now.pages n
  pub done : (pages : Pages) → ((n : ℕ) → IsReserved now.pages n → IsReserved pages n) → AreBlocksReserved pages rest → AreBlocksReserved pages blocks
  pub held : AreBlocksReserved was.pages blocks → AreBlocksReserved was.pages rest

pub reserving_goes_on : (was now next : Storage) (blocks : List Block) (k : ℕ) (x : Block) (bytes : List ℕ) → k < length blocks → x ≡ get_or blocks k x → bytes ≡ x.bytes
    → IsReserving was now blocks (drop k blocks) → state_of next ≡ state_of now → ((n : ℕ) → IsReserved now.pages n → IsReserved next.pages n) → IsRangeReserved next.pages x.addr (length bytes)
    → IsReserving was next blocks (drop (k + 1) blocks)
reserving_goes_on was now next blocks k x bytes lt e is so state kept here =
    let so2 : IsReserving was now blocks (x ∷ drop (k + 1) blocks) = subst (IsReserving was now blocks) (rest_at blocks k x lt e) so in
    let here2 : IsRangeReserved next.pages x.addr (length x.bytes) = subst (λ (bs : List ℕ). IsRangeReserved next.pages x.addr (length bs)) is here in
    record {
      state = state ∙ so2.state;
      kept = λ n h. kept n (so2.kept n h);
      done = λ pages keeps all. so2.done pages (λ n h. keeps n (kept n h)) ((λ n (m : Meets x.addr (length x.bytes) n). keeps n (here2 n m)), all);
      held = λ all. (so2.held all).1;
    }

pub reserving_done : (was now : Storage) (blocks : List Block) (k : ℕ) → length blocks ≤ k → IsReserving was now blocks (drop k blocks) → AreBlocksReserved now.pages blocks
reserving_done was now blocks k le so =
    let done : IsReserving was now blocks [] = subst (IsReserving was now blocks) (drop_of_length-le blocks le) so in
    done.done now.pages (λ n h. h) tt

-- where all pages were reserved before, so are those of the next block
pub next_held : (was now : Storage) (blocks : List Block) (k : ℕ) (x : Block) (bytes : List ℕ) → k < length blocks → x ≡ get_or blocks k x → bytes ≡ x.bytes
    → IsReserving was now blocks (drop k blocks) → AreBlocksReserved was.pages blocks → IsRangeReserved now.pages x.addr (length bytes)
next_held was now blocks k x bytes lt e is so all =
    let so2 : IsReserving was now blocks (x ∷ drop (k + 1) blocks) = subst (IsReserving was now blocks) (rest_at blocks k x lt e) so in
    let there : IsRangeReserved was.pages x.addr (length x.bytes) = (so2.held all).0 in
    let here : IsRangeReserved was.pages x.addr (length bytes) = subst (λ (bs : List ℕ). IsRangeReserved was.pages x.addr (length bs)) (sym is) there in
    λ n m. so2.kept n (here n m)

-- a machine became another while blocks were written, of which some are left
pub record IsWriting (was now : Storage) (blocks rest : List Block) : Type 0 where
  pub reads : with_blocks (reader_of now) rest ≡ with_blocks (reader_of was) blocks
  pub agrees : Agrees was now
  pub held : AreBlocksReserved was.pages rest

-- the same pages are reserved
pub same_reserved : (was now : Pages) → is_reserved now ≡ is_reserved was → (n : ℕ) → IsReserved was n → IsReserved now n
same_reserved was now e n h = subst (λ (held : ℕ → Bool). IsTrue (held n)) (sym e) h

pub writing_goes_on : (was now next : Storage) (blocks : List Block) (k : ℕ) (x : Block) (bytes : List ℕ) → k < length blocks → x ≡ get_or blocks k x → bytes ≡ x.bytes
    → IsWriting was now blocks (drop k blocks) → reader_of next ≡ with_bytes (reader_of now) x.addr bytes → Agrees now next
    → IsWriting was next blocks (drop (k + 1) blocks)
writing_goes_on was now next blocks k x bytes lt e is so reads agrees =
    let rest = drop (k + 1) blocks in
    let so2 : IsWriting was now blocks (x ∷ rest) = subst (IsWriting was now blocks) (rest_at blocks k x lt e) so in
    let reads2 : reader_of next ≡ with_bytes (reader_of now) x.addr x.bytes = reads ∙ ap (λ (bs : List ℕ). with_bytes (reader_of now) x.addr bs) is in
    record {
      reads = ap (λ (s : Reader). with_blocks s rest) reads2 ∙ so2.reads;
      agrees = agrees_trans was now next so2.agrees agrees;
      held = so2.held.1;
    }

pub writing_held : (was now : Storage) (blocks : List Block) (k : ℕ) (x : Block) (bytes : List ℕ) → k < length blocks → x ≡ get_or blocks k x → bytes ≡ x.bytes
    → IsWriting was now blocks (drop k blocks) → IsRangeReserved now.pages x.addr (length bytes)
writing_held was now blocks k x bytes lt e is so =
    let so2 : IsWriting was now blocks (x ∷ drop (k + 1) blocks) = subst (IsWriting was now blocks) (rest_at blocks k x lt e) so in
    let here : IsRangeReserved was.pages x.addr (length bytes) = subst (λ (bs : List ℕ). IsRangeReserved was.pages x.addr (length bs)) (sym is) so2.held.0 in
    λ n m. same_reserved was.pages now.pages so2.agrees.reserved n (here n m)

pub writing_done : (was now : Storage) (blocks : List Block) (k : ℕ) → length blocks ≤ k → IsWriting was now blocks (drop k blocks) → reader_of now ≡ with_blocks (reader_of was) blocks
writing_done was now blocks k le so =
    let done : IsWriting was now blocks [] = subst (IsWriting was now blocks) (drop_of_length-le blocks le) so in
    done.reads

-- reserved blocks stay reserved
pub blocks_kept : (was now : Pages) (blocks : List Block) → ((n : ℕ) → IsReserved was n → IsReserved now n) → AreBlocksReserved was blocks → AreBlocksReserved now blocks
blocks_kept was now [] kept all = tt
blocks_kept was now (b ∷ bs) kept all = ((λ n (m : Meets b.addr (length b.bytes) n). kept n (all.0 n m)), blocks_kept was now bs kept all.1)
