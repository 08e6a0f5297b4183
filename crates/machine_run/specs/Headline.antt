-- A run of sim-outorder's machine, and sim-safe's run from the same start that skips the same steps.
use Rattle.std.specs.Prelude.{◌≡◌, ◌≢◌, ◌≤◌, ◌++◌, ℕ, List, [], Some}
use Rattle.event_trace.specs.declared.trace.Trace.{Trace}
use Rattle.journal.specs.Write.{Journal, output_of}
use Rattle.journal.specs.Texts.{text_in}
use Rattle.sim_safe.specs.State.{State}
use Rattle.sim_safe.specs.Record.{Item}
use Rattle.sim_safe.specs.Run.{items_of}
use Rattle.sim_safe.specs.Commit.{text_of as commit_text, outputs_of}
use Rattle.cut_run.specs.Plan.{to_skip, timed_start, to_do, timed_items, cut_end, cut_state}
use Rattle.ooo_table.specs.declared.event.EndWord.TheVariants as told
use Rattle.ooo_table.specs.declared.event.Log.{Log}
use Rattle.ooo_table.specs.Events.{all_events}
use Rattle.ooo_table.specs.Machine.{setting_of}
use Rattle.ooo_table.specs.RunLaws.{commits_among}
use Rattle.pipetrace.specs.Text.{text_of as pipetrace_text}
use Rattle.shown_run.specs.Headline.{KeepsHeadline, cycles_taken, last_rows}
use Rattle.machine_run.specs.declared.plan.MachineConfig.{MachineConfig}
use Rattle.machine_run.specs.Plan.{Asked, functionally, plainly, word_for, machine_given, machine_finish, machine_end, machine_journal}

module _ (c : MachineConfig) (trace : Trace) (s : State) (asked : Asked) where
  -- so many instructions commit
  abbrev pub commits : ℕ
  commits = commits_among (last_rows (machine_given c trace s asked) (machine_finish c trace s asked))

  -- as many first steps of the functional run behind the skipped ones
  abbrev pub first_steps : List Item
  first_steps = items_of trace commits (timed_start trace s (plainly asked))

  -- what the table says of the run
  abbrev pub machine_log : Log
  machine_log =
      record {
        events = all_events (setting_of (machine_given c trace s asked)) (machine_finish c trace s asked).extent (machine_finish c trace s asked).passed;
        cycles = cycles_taken (machine_given c trace s asked) (machine_finish c trace s asked);
        end = machine_end c trace s asked;
      }

  -- with this budget sim-safe does no more than what commits, and its end is told the same
  pub record IsAllOf (most : ℕ) : Type 0 where
    pub items : timed_items trace s (functionally asked most) ≡ first_steps
    pub end : word_for (cut_state trace s (functionally asked most)) (cut_end trace s (functionally asked most)) ≡ machine_end c trace s asked

  pub record RunKeepsHeadline : Type 0 where
    -- the file of the commit text, made empty before, gets that of the first steps
    pub commit_text : (file : List ℕ) (before : Journal) → asked.names.commits ≡ Some file → asked.names.ptrace ≢ Some file → text_in before file ≡ Some []
        → text_in (machine_journal c trace s asked ++ before) file ≡ Some (commit_text first_steps)
    -- their output is put out behind that of the skipped steps
    pub output : output_of (machine_journal c trace s asked) ≡ outputs_of (items_of trace (to_skip trace s (plainly asked)) s) ++ outputs_of first_steps
    -- they are the first that sim-safe does with this budget or a greater one
    pub front : (most : ℕ) → asked.most ≤ most → (more : List Item) × (timed_items trace s (functionally asked most) ≡ first_steps ++ more)
    -- and all of them, with the same end, where the run stops by itself
    pub whole : (most : ℕ) → asked.most ≤ most → machine_end c trace s asked ≢ told.Budget → IsAllOf most
    -- the file of the pipetrace gets the text of the table
    pub pipetrace : (file : List ℕ) (before : Journal) → asked.names.ptrace ≡ Some file → asked.names.commits ≢ Some file → text_in before file ≡ Some []
        → text_in (machine_journal c trace s asked ++ before) file ≡ Some (pipetrace_text machine_log)
    -- the machine keeps the headline behind the skipped steps: its events are legal, and in every K cycles one commits
    pub machine : KeepsHeadline (machine_given c trace s asked) (machine_finish c trace s asked) (to_do trace s (plainly asked)) asked.cycles
