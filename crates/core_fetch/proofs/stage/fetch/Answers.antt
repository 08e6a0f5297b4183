use Rattle.core_fetch.proofs.Whole.{fetches_so}
use Rattle.core_fetch.proofs.stage.fetch.Goals as goal

-- the rows that were fetched are the table's
pub returns-clause-stands : goal.returns-clause-stands
returns-clause-stands c =
    λ g sound st.
    fetches_so g c.args.cycle c.args.parts.now c.fetch_cycle.new.self c.fetch_cycle.new.hier c.fetch_cycle.new.pred c.fetch_cycle.result.items c.text-text.result.now
    c.requires.fits.sizes c.text-text.ensures.same c.fetch_cycle.ensures.fetched c.fetch_cycle.ensures.rows st
