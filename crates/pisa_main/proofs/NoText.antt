-- Words that are no text are refused at once.
use Rattle.std.proofs.Common.{◌≡◌, ℕ, List, Option, refl}
use Rattle.sim_opts.specs.declared.words.WordWhy.TheVariants as why
use Rattle.sim_opts.specs.Table.{tool_named, is_unbuilt_name}
use Rattle.sim_opts.specs.Request.{Words, request_with}
use Rattle.pisa_main.specs.Performs.{no_text}

pub refused_at_once : (text : Option (List ℕ)) → request_with no_text text ≡ Words 0 why.Command
unfolding request_with tool_named is_unbuilt_name
refused_at_once text = refl
