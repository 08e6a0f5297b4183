-- What the parts of the top call say of each other.
use Rattle.std.specs.Prelude.{ℕ, List, [], Option, Result}
use Rattle.journal.specs.declared.fault.Fault.{Fault}
use Rattle.journal.specs.declared.loading.Found.{Found}
use Rattle.journal.specs.View.{View}
use Rattle.journal.specs.Load.{AreFound}
use Rattle.journal.specs.Outcome.{Comes}
use Rattle.answers.specs.declared.answer.Answer.{Answer}
use Rattle.run_commands.specs.Program.{named_input}
use Rattle.sim_opts.specs.Options.{Said}
use Rattle.sim_opts.specs.Request.{Request, configured}
use Rattle.sim_main.specs.Outcome.{Asks, config_limit, asked_by, inputs_of, ComesBy, behind_config}

-- a request came to an answer or a fault
abbrev pub ComesByRequest : {O : Type 0} → View O → O → Request → O → Result Answer Fault → Type 0
ComesByRequest v a request b came = Comes v a (inputs_of (Asks request)) (ComesBy (Asks request) came) b came

-- so did what is asked for with a configuration of this name, which is looked for first
pub record ComesOver {O : Type 0} (v : View O) (a : O) (name : Option (List ℕ)) (request_of : Option (List ℕ) → Request) (b : O) (came : Result Answer Fault) : Type 0 where
  pub config : List Found
  pub are : AreFound (v.tells a) (v.files a) (named_input config_limit name []) config
  pub comes : Comes v a (named_input config_limit name (inputs_of (asked_by name request_of config))) (λ found o. ComesBy (asked_by name request_of config) came (behind_config name found) o) b came

-- so did options that so many words say
abbrev pub ComesBySaid : {O : Type 0} → View O → O → ℕ → Said → O → Result Answer Fault → Type 0
ComesBySaid v a words said b came = ComesOver v a said.config (configured words said) b came
