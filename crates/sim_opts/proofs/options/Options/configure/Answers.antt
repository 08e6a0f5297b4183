use Rattle.std.proofs.Common.{ap, ap₂, sym, ◌∙◌, nat_eq, rules}
use Rattle.std.specs.List.{list_any}
use Rattle.sim_opts.specs.Options.{said_in, said_with}
use Rattle.sim_opts.specs.Kept.{setting_in}
use Rattle.sim_opts.proofs.Configured.{one_left, one_given}
use Rattle.sim_opts.proofs.options.Options.configure.Goals as goal

pub returns-then-stands : goal.returns-then-stands
returns-then-stands c = one_given (said_in c.args.self.now) (setting_in c.args.setting.now) (sym (c.stands.ensures ∙ ap (list_any (λ n. nat_eq n c.args.setting.now.option.number)) (search rules)) ∙ c.if-stands.true)

pub returns : goal.returns
returns c =
    c.in_ok-set.ensures ∙ ap₂ (λ w n. said_with c.args.setting.now.option.number w n (said_in c.args.self.now)) c.first_value.ensures c.last_number.ensures
    ∙ one_left (said_in c.args.self.now) (setting_in c.args.setting.now) (sym (c.stands.ensures ∙ ap (list_any (λ n. nat_eq n c.args.setting.now.option.number)) (search rules)) ∙ c.if-stands.false)
