-- Laws from the place in its writes at which a command gave up to how far it came.
use Rattle.std.specs.Prelude.{◌≡◌, ℕ, List, None, Result}
use Rattle.std.proofs.Common.{inl, inr}
use Rattle.ss_base.specs.Outside.{Files}
use Rattle.journal.specs.declared.fault.Fault.{Fault}
use Rattle.journal.specs.declared.loading.Found.{Found}
use Rattle.journal.specs.View.{View}
use Rattle.journal.specs.Outcome.{Outcome}
use Rattle.journal.specs.Clauses.{answer_in, CameTo}
use Rattle.journal.specs.Clauses as clauses
use Rattle.journal.specs.ClauseLaws.{comes_far}
use Rattle.answers.specs.declared.answer.Answer.{Answer}
use Rattle.run_commands.specs.Far.{CameToFront}
use Rattle.run_commands.specs.FarLaws.{came_to_front, sim_safe_far, record_far}
use Rattle.sim_opts.specs.Request.{SimSafe, Record, Asm, Dis, Words, Text, NotBuilt, config_of}
use Rattle.sim_main.specs.Outcome.{Asked, Asks, LongConfig, HasOutcome, behind_config, asked_in, inputs_in, OutcomeIn}
use Rattle.sim_main.specs.Answer.{CameFar, ComesByWords, ComesAsFar}
use Rattle.sim_main.specs.Apart.{FilesApart, apart_in}
use Rattle.sim_main.specs.OutcomeLaws.{starts_files_of}
use Rattle.sim_main.specs.EndingLaws.{plainly_in}

to_front : (asked : Asked) (found : List Found) (o : Outcome Answer) (old new : Files) (before now : List ℕ) → FilesApart asked → HasOutcome asked found o → CameTo o.writes old new before now → CameToFront (HasOutcome asked found) old new before now
to_front asked found o old new before now apart h q = came_to_front (HasOutcome asked found) o old new before now h (starts_files_of asked found o apart h) q

far_of : (asked : Asked) (found : List Found) (o : Outcome Answer) (old new : Files) (before now : List ℕ) → FilesApart asked → HasOutcome asked found o → CameTo o.writes old new before now → CameFar asked found old new before now
far_of (Asks (SimSafe r)) found o old new before now apart h q = sim_safe_far r found o old new before now apart h q
far_of (Asks (Record out given files max_inst object args)) found o old new before now apart h q = record_far out given files max_inst object args found o old new before now h q
far_of (Asks (Asm source object)) found o old new before now apart h q = to_front (Asks (Asm source object)) found o old new before now apart h q
far_of (Asks (Dis object)) found o old new before now apart h q = to_front (Asks (Dis object)) found o old new before now apart h q
far_of (Asks (Words place reason)) found o old new before now apart h q = to_front (Asks (Words place reason)) found o old new before now apart h q
far_of (Asks (Text line reason)) found o old new before now apart h q = to_front (Asks (Text line reason)) found o old new before now apart h q
far_of (Asks NotBuilt) found o old new before now apart h q = to_front (Asks NotBuilt) found o old new before now apart h q
far_of (LongConfig name) found o old new before now apart h q = to_front (LongConfig name) found o old new before now apart h q

far_from : (words : List (List ℕ)) (old new : Files) (before now : List ℕ) → clauses.ComesAsFar (inputs_in words old) (OutcomeIn words old) old new before now → ComesAsFar words old new before now
far_from words old new before now (inl same) = inl same
far_from words old new before now (inr q) = inr (record { found = q.found; are = q.are; far = far_of (asked_in words old) (behind_config (config_of words) q.found) q.outcome old new before now (apart_in words old) q.has q.holds })

-- a command that gave up came as far as one number of instructions, where it runs a program
pub far_by : {O : Type 0} (v : View O) (a b : O) (words : List (List ℕ)) (came : Result Answer Fault) → v.tells a → v.prog.tells a → answer_in came ≡ None → ComesByWords v a words b came
    → ComesAsFar words (v.files a) (v.files b) (v.prog.contents a) (v.prog.contents b)
far_by v a b words came t u none p =
    far_from words (v.files a) (v.files b) (v.prog.contents a) (v.prog.contents b)
    (comes_far v a b (inputs_in words (v.files a)) (OutcomeIn words (v.files a)) came t u none (plainly_in v a b words came p t))
