use Rattle.std.proofs.Common.{ap, subst}
use Rattle.ooo_table.specs.declared.config.OooConfig.{OooConfig}
use Rattle.ooo_table.specs.Fetch.{fetch_up_to}
use Rattle.ooo_table.specs.Machine.{setting_of}
use Rattle.plain_machine.specs.Standing.{StandsWithin}
use Rattle.plain_machine.proofs.Shown.{on_ok}
use Rattle.plain_machine.proofs.fetch.fetch.Goals as goal

pub returns-clause-stands : goal.returns-clause-stands
returns-clause-stands c =
    on_ok c.fetch_up_to.result
    (λ all. λ g t e st.
    subst (λ n. StandsWithin g c.args.cycle (fetch_up_to (setting_of g) n c.args.cycle t) c.fetch_up_to.new.plain) (ap (λ (x : OooConfig). x.decode) st.config_is) (all g t e st))
    c.fetch_up_to.ensures.stands
