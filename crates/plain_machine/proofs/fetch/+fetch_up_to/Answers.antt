use Rattle.std.proofs.Common.{◌-◌, sym, ◌∙◌, subst, arith}
use Rattle.ooo_table.specs.Fetch.{fetch_one}
use Rattle.ooo_table.specs.Machine.{setting_of}
use Rattle.plain_machine.specs.Standing.{StandsWithin}
use Rattle.plain_machine.proofs.Fetched.{fetch_stops, fetch_goes, positive, fits_as}
use Rattle.plain_machine.proofs.Shown.{on_ok}
use Rattle.plain_machine.proofs.fetch.+fetch_up_to.Goals as goal

pub returns-then-not-may_fetch-clause-stands : goal.returns-then-not-may_fetch-clause-stands
returns-then-not-may_fetch-clause-stands t c = λ g u e st.
    subst (λ x. StandsWithin g c.args.cycle x c.args.plain.now)
    (sym (fetch_stops (setting_of g) c.args.most c.args.cycle u (sym (c.may_fetch.ensures (setting_of g) u st.config_is (c.as_slice.ensures.value ∙ st.kept_rows) st.kept_to_fetch) ∙ c.if-not-may_fetch.true)))
    st

pub fetch_up_to-requires : goal.fetch_up_to-requires
fetch_up_to-requires t c = (
  omega (arith, c.decreases, positive c.args.most c.if-most-eq0.false),
  (
    (
      omega (arith, c.requires.fits.0),
      fits_as c.args.cycle _ _ _ _ c.fetch_one.new.plain (omega (arith, c.requires.fits.0, positive c.args.most c.if-most-eq0.false)) (omega (arith, c.requires.fits.0, positive c.args.most c.if-most-eq0.false))
          (c.in_ok-fetch_one.ensures.fits (4294967295 - c.args.most) (32 - c.args.most) c.requires.fits.1),
    ),
    c.requires.trace,
  ),
)

pub returns-clause-stands : goal.returns-clause-stands
returns-clause-stands t c =
    on_ok c.fetch_up_to.result
    (λ all. λ g u e st.
    subst (λ x. StandsWithin g c.args.cycle x c.fetch_up_to.new.plain)
    (sym (fetch_goes (setting_of g) c.args.most c.args.cycle u c.if-most-eq0.false
    (sym (c.may_fetch.ensures (setting_of g) u st.config_is (c.as_slice.ensures.value ∙ st.kept_rows) st.kept_to_fetch) ∙ c.if-not-may_fetch.false)))
    (all g (fetch_one (setting_of g) c.args.cycle u) e (c.in_ok-fetch_one.ensures.stands g u e st)))
    c.fetch_up_to.ensures.stands
