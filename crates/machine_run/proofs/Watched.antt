-- What a run under a watch that was shown nothing writes: the whole journal, or a part of it where it is given up.
use Rattle.std.specs.Prelude.{◌≡◌, ◌≤◌, ◌++◌, ◌^◌, ℕ, List, [], ◌∷◌, Option, Result, unwrap_or}
use Rattle.std.proofs.Common.{sym, ap, ◌∙◌, subst, arith, inl, inr, append-nil}
use Rattle.journal.specs.declared.fault.Fault.{Fault}
use Rattle.journal.specs.declared.fault.Fault.TheVariants as fault
use Rattle.journal.specs.Write.{Journal}
use Rattle.journal.specs.View.{View, Cut}
use Rattle.journal.specs.Laws.{cut_within}
use Rattle.sim_watch.specs.Watch.{WritesOrCut}
use Rattle.ooo_table.specs.declared.event.EndWord.{EndWord}
use Rattle.ooo_table.specs.Finish.{Finish}
use Rattle.ooo_table.specs.Machine.{Given, setting_of}
use Rattle.core_watch.specs.Shown.{Shown, behind, CutWithin}
use Rattle.core_watch.specs.ShownLaws.{behind_append}
use Rattle.core_statistics.specs.declared.stats.CoreStats.{CoreStats}
use Rattle.core_statistics.specs.Standing.{HasStats}
use Rattle.shown_run.specs.Headline.{cycles_taken}
use Rattle.machine_watch.specs.declared.watch.MachineWatch.{MachineWatch}
use Rattle.machine_watch.specs.Watch.{Names, Pending, names_of, pending_of, nothing_pending, written_of, last_writes, finished, run_journal, Taken, CutByKept}
use Rattle.machine_watch.specs.Laws.{written_grow, run_finished, cut_as, run_cut_by_kept}

-- a watch that writes was cut within the newest of a history
abbrev pub was_cut : {O : Type 0} → View O → MachineWatch O → List Shown → MachineWatch O → Type 0
was_cut v a h b = record {
  outside_same : b.outside.ghost_name ≡ a.outside.ghost_name;
  cut : CutByKept v (names_of a) a.outside.now (pending_of a) h b.fault b.outside.now;
}

module _ {O : Type 0} (v : View O) (names : Names) (a b : O) (xs : List Shown) (cycles : ℕ) (end : EndWord) where
  -- the watch couldn't go on
  pub watch_cut : {S : Type 0} (cut : S → List Shown → S → Type 0) (start now : S) (kept : Option Fault) (other f : Fault)
      → CutWithin cut start [] xs now → ((front : List Shown) → cut start front now → CutByKept v names a nothing_pending front kept b) → f ≡ unwrap_or kept other
      → Cut v a (run_journal names xs cycles end) f b
  watch_cut cut start now kept other f k shows e =
      subst (λ (x : Fault). Cut v a (run_journal names xs cycles end) x b) (sym e)
      (subst (λ (l : List Shown). Cut v a (run_journal names l cycles end) (unwrap_or kept other) b) (append-nil xs)
      (run_cut_by_kept v a b names xs [] cycles end kept other (cut_as cut (λ start h now. CutByKept v names start nothing_pending h kept now) start now a b xs [] shows k)))

  -- memory was wanted behind the first of what was to be shown
  pub watch_wants : (now : Pending) (front more : List Shown) → xs ≡ front ++ more → Taken v names a nothing_pending (behind front []) b now → Cut v a (run_journal names xs cycles end) fault.OutOfMemory b
  watch_wants now front more e t =
      let done : Journal = (written_of names nothing_pending (behind front [])).journal in
      let whole = written_of names nothing_pending (behind more (behind front [])) in
      let later = written_grow names nothing_pending more (behind front []) in
      let first : Cut v a done fault.OutOfMemory b = inl t.wrote in
      let all : Cut v a whole.journal fault.OutOfMemory b = subst (λ (l : Journal). Cut v a l fault.OutOfMemory b) (sym later.1) (cut_within v a b done later.0 fault.OutOfMemory first) in
      let last : Cut v a (finished names whole cycles end) fault.OutOfMemory b = cut_within v a b whole.journal (last_writes names whole.pending cycles end) fault.OutOfMemory all in
      subst (λ (l : List Shown). Cut v a (run_journal names l cycles end) fault.OutOfMemory b) (sym e)
      (subst (λ (h : List Shown). Cut v a (finished names (written_of names nothing_pending h) cycles end) fault.OutOfMemory b) (sym (behind_append front more [])) last)

  -- all was shown, and then the watch was finished
  pub watch_finished : {T : Type 0} (d : O) (other : Names) (now : Pending) (n : ℕ) (word : EndWord) (r : Result T Fault) → other ≡ names → n ≡ cycles → word ≡ end
      → Taken v names a nothing_pending (behind xs []) b now → WritesOrCut v b (last_writes other now n word) d r → WritesOrCut v a (run_journal names xs cycles end) d r
  watch_finished d other now n word r same e is t w =
      run_finished v a b d names nothing_pending now (behind xs []) cycles end r t
      (subst (λ (x : EndWord). WritesOrCut v b (last_writes names now cycles x) d r) is
      (subst (λ (x : ℕ). WritesOrCut v b (last_writes names now x word) d r) e (subst (λ (x : Names). WritesOrCut v b (last_writes x now n word) d r) same w)))

-- what holds of a watch wherever it was cut
pub where_cut : {S : Type 0} (cut : S → List Shown → S → Type 0) (start now : S) (xs h : List Shown) → CutWithin cut start h xs now → (P : Type 0) → ((front : List Shown) → cut start front now → P) → P
where_cut cut start now [] h k P holds = absurd k
where_cut cut start now (x ∷ xs) h (inl k) P holds = holds (x ∷ h) k
where_cut cut start now (x ∷ xs) h (inr k) P holds = where_cut cut start now xs (x ∷ h) k P holds

-- the cycles that a core has counted
pub cycles_counted : (g : Given) (f : Finish) (n : ℕ) (o : CoreStats) → HasStats (setting_of g) f.extent f.passed o → cycles_taken g f ≤ n → n ≤ 10 ^ 13 → o.cycles ≡ cycles_taken g f
cycles_counted g f n o has within few = ap (λ (x : CoreStats). x.cycles) has ∙ omega (arith, within, few)
