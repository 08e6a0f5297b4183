-- The texts and the output of a run.
use Rattle.std.specs.Prelude.{◌≡◌, ◌≢◌, ◌++◌, ℕ, List, [], ◌∷◌, Option, Some}
use Rattle.std.proofs.Common.{refl, ap, ◌∙◌, append_assoc}
use Rattle.std.specs.List.{flat_map}
use Rattle.event_trace.specs.declared.trace.Trace.{Trace}
use Rattle.event_trace.specs.declared.trace.Block.{Block}
use Rattle.journal.specs.Write.{Journal, Output, output_of}
use Rattle.journal.specs.Texts.{text_in}
use Rattle.journal.specs.Laws.{output_more}
use Rattle.sim_safe.specs.State.{State}
use Rattle.sim_safe.specs.Record.{Item}
use Rattle.sim_safe.specs.Run.{items_of, after}
use Rattle.sim_safe.specs.Commit.{text_of as commit_text, outputs_of, records_between}
use Rattle.sim_watch.specs.Watch.{puts_of}
use Rattle.sim_watch.specs.Skip.{record_blocks, skip_journal}
use Rattle.cut_run.specs.Plan.{to_skip, to_do}
use Rattle.ooo_table.specs.declared.event.EndWord.{EndWord}
use Rattle.ooo_table.specs.declared.event.Log.{Log}
use Rattle.core_watch.specs.Shown.{Shown}
use Rattle.core_watch.specs.Items.{events_among}
use Rattle.pipetrace.specs.Text.{text_of as pipetrace_text}
use Rattle.shown_run.specs.Headline.{KeepsHeadline, shown_in, cycles_taken}
use Rattle.machine_watch.specs.Watch.{Names, run_journal}
use Rattle.machine_watch.specs.Texts as watch
use Rattle.machine_run.specs.declared.plan.MachineConfig.{MachineConfig}
use Rattle.machine_run.specs.Plan.{Asked, plainly, machine_given, machine_finish, machine_end, machine_journal}
use Rattle.machine_run.specs.Headline.{first_steps, machine_log}
use Rattle.machine_run.proofs.Commits.{shown_commits}

-- ---- what is known of journals of runs

abbrev SkipsPutOut : Type 0
SkipsPutOut = (trace : Trace) (n : ℕ) (s : State) → output_of (skip_journal trace n s) ≡ outputs_of (items_of trace n s)

abbrev RunsPutOut : Type 0
RunsPutOut = (names : Names) (shown : List Shown) (cycles : ℕ) (end : EndWord) → output_of (run_journal names shown cycles end) ≡ outputs_of (watch.commits_among shown)

abbrev WritesCommits : Type 0
WritesCommits =
    (file : List ℕ) (ptrace : Option (List ℕ)) (before : Journal) (text : List ℕ) (shown : List Shown) (cycles : ℕ) (end : EndWord) → ptrace ≢ Some file → text_in before file ≡ Some text
    → text_in (run_journal (record { commits = Some file; ptrace = ptrace }) shown cycles end ++ before) file ≡ Some (text ++ commit_text (watch.commits_among shown))

abbrev WritesPipetrace : Type 0
WritesPipetrace =
    (file : List ℕ) (commits : Option (List ℕ)) (before : Journal) (text : List ℕ) (shown : List Shown) (log : Log) → commits ≢ Some file → text_in before file ≡ Some text → events_among shown ≡ log.events
    → text_in (run_journal (record { commits = commits; ptrace = Some file }) shown log.cycles log.end ++ before) file ≡ Some (text ++ pipetrace_text log)

-- ---- what is skipped writes to no file

text_puts : (file : List ℕ) (blocks : List Block) (h : Journal) → text_in (puts_of blocks ++ h) file ≡ text_in h file
text_puts file [] h = refl
text_puts file (b ∷ bs) h = ap (λ x. text_in x file) (append_assoc (puts_of bs) (Output b.bytes ∷ []) h) ∙ text_puts file bs (Output b.bytes ∷ h)

text_skip : (file : List ℕ) (trace : Trace) (n : ℕ) (s : State) (h : Journal) → text_in (skip_journal trace n s ++ h) file ≡ text_in h file
unfolding skip_journal
text_skip file trace n s h = text_puts file (flat_map record_blocks (records_between s.used (after trace n s).used trace.records)) h

-- ---- the run

module _ (c : MachineConfig) (trace : Trace) (s : State) (asked : Asked)
    (machine : KeepsHeadline (machine_given c trace s asked) (machine_finish c trace s asked) (to_do trace s (plainly asked)) asked.cycles) where
  abbrev skip : Journal
  skip = skip_journal trace (to_skip trace s (plainly asked)) s

  abbrev shown : List Shown
  shown = shown_in (machine_given c trace s asked) (machine_finish c trace s asked)

  abbrev cycles : ℕ
  cycles = cycles_taken (machine_given c trace s asked) (machine_finish c trace s asked)

  abbrev timed : Journal
  timed = run_journal asked.names shown cycles (machine_end c trace s asked)

  -- a text of the timed part is that of the run
  text_timed : (file : List ℕ) (before : Journal) → text_in (machine_journal c trace s asked ++ before) file ≡ text_in (timed ++ (skip ++ before)) file
  unfolding machine_journal
  text_timed file before = ap (λ h. text_in h file) (append_assoc timed skip before)

  text_before : (file : List ℕ) (before : Journal) → text_in before file ≡ Some [] → text_in (skip ++ before) file ≡ Some []
  text_before file before e = text_skip file trace (to_skip trace s (plainly asked)) s before ∙ e

  pub commits_written : WritesCommits → (file : List ℕ) (before : Journal) → asked.names.commits ≡ Some file → asked.names.ptrace ≢ Some file → text_in before file ≡ Some []
      → text_in (machine_journal c trace s asked ++ before) file ≡ Some (commit_text (first_steps c trace s asked))
  commits_written law file before named other empty =
      text_timed file before
      ∙ (ap (λ (x : Option (List ℕ)). text_in (run_journal (record { commits = x; ptrace = asked.names.ptrace }) shown cycles (machine_end c trace s asked) ++ (skip ++ before)) file) named
      ∙ (law file asked.names.ptrace (skip ++ before) [] shown cycles (machine_end c trace s asked) other (text_before file before empty)
      ∙ ap (λ (is : List Item). Some (commit_text is)) (shown_commits c trace s asked machine)))

  pub pipetrace_written : WritesPipetrace → (file : List ℕ) (before : Journal) → asked.names.ptrace ≡ Some file → asked.names.commits ≢ Some file → text_in before file ≡ Some []
      → text_in (machine_journal c trace s asked ++ before) file ≡ Some (pipetrace_text (machine_log c trace s asked))
  pipetrace_written law file before named other empty =
      text_timed file before
      ∙ (ap (λ (x : Option (List ℕ)). text_in (run_journal (record { commits = asked.names.commits; ptrace = x }) shown cycles (machine_end c trace s asked) ++ (skip ++ before)) file) named
      ∙ law file asked.names.commits (skip ++ before) [] shown (machine_log c trace s asked) other (text_before file before empty) machine.events)

  pub outputs_written : SkipsPutOut → RunsPutOut → output_of (machine_journal c trace s asked) ≡ outputs_of (items_of trace (to_skip trace s (plainly asked)) s) ++ outputs_of (first_steps c trace s asked)
  unfolding machine_journal
  outputs_written skips runs =
      output_more timed skip
      ∙ (ap (λ x. x ++ output_of timed) (skips trace (to_skip trace s (plainly asked)) s)
      ∙ ap (λ x. outputs_of (items_of trace (to_skip trace s (plainly asked)) s) ++ x) (runs asked.names shown cycles (machine_end c trace s asked) ∙ ap outputs_of (shown_commits c trace s asked machine)))
