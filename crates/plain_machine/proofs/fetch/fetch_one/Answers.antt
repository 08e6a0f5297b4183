use Rattle.std.proofs.Common.{refl}
use Rattle.plain_machine.proofs.Fetched.{fetched_on}
use Rattle.plain_machine.proofs.fetch.fetch_one.Goals as goal

pub returns-clause-stands : goal.returns-clause-stands
returns-clause-stands c = λ g t e st.
    fetched_on g c.args.cycle t c.args.plain.now c.settle-f.new.plain c.perform.new.plain _ c.settle-f.result c.in_ok-row.row
    st (c.settle-f.ensures.settles g t st) c.settle-f.ensures.keeps (λ s i. c.in_ok-row.ensures.row g s e i) c.in_ok-row.ensures.keeps
    refl c.in_ok-insert.ensures.items refl refl refl refl c.top_behind-plain.ensures (λ set r i. c.next_fetch_after-plain.ensures set r i)
