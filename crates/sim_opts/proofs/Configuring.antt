-- Reading lines, one line after the other.
use Rattle.std.proofs.Common.{◌≡◌, ◌+◌, ◌<◌, ◌≤◌, ◌∙◌, ℕ, List, [], ◌∷◌, ◌++◌, length, filter, Some, None, Result, Ok, Err, refl, sym, ap, arith}
use Rattle.std.proofs.lemmas.List.{map-append}
use Rattle.ss_base.specs.declared.text_fault.AsmFault.{AsmFault}
use Rattle.ss_base.specs.declared.text_fault.AsmFault.TheVariants as faults
use Rattle.text_lines.specs.Lines.{lines_of}
use Rattle.sim_opts.specs.declared.configuration.LineStop.{LineStop}
use Rattle.sim_opts.specs.declared.configuration.LineStop.TheVariants as stops
use Rattle.sim_opts.specs.Settings.{Setting}
use Rattle.sim_opts.specs.Options.{Said}
use Rattle.sim_opts.specs.Configuration.{is_left, line_fault, line_settings, line_or, read_lines, configuration, with_configuration, Configures}
use Rattle.sim_opts.specs.Lines.{numbers, TakesLine, fault_at}
use Rattle.sim_opts.proofs.Configured.{configured_more}
use Rattle.sim_opts.proofs.Saying.{tool_stays}

-- the lines from one on are read as in the whole text
pub record Going (old now : Said) (stood : List ℕ) (n : ℕ) (rest text : List ℕ) : Type 0 where
  pub before : List Setting
  pub said : now ≡ with_configuration old before
  pub notes : numbers before ≡ stood
  pub so_far : read_lines old.tool n before (lines_of rest) ≡ configuration old.tool text
  pub counted : n + length rest ≤ length text + 1

pub starts : (old : Said) (stood : List ℕ) (text : List ℕ) → stood ≡ [] → Going old old stood 1 text text
starts old stood text none = record { before = []; said = refl; notes = sym none; so_far = refl; counted = omega arith }

same_tool : (old now : Said) (before : List Setting) → now ≡ with_configuration old before → now.tool ≡ old.tool
same_tool old now before said = ap (λ (a : Said). a.tool) said ∙ tool_stays old (filter (is_left old.given) before)

-- where a line is right, reading goes on behind it
pub goes_on : (old now next : Said) (stood later : List ℕ) (n : ℕ) (rest text line others : List ℕ) → Going old now stood n rest text → lines_of rest ≡ line ∷ lines_of others → length others < length rest
    → ((before : List Setting) → numbers before ≡ stood → TakesLine before line now next later (Ok tt)) → Going old next later (n + 1) others text
goes_on old now next stood later n rest text line others v lines shorter step =
    let s = step v.before v.notes in
    let right : line_fault old.tool v.before line ≡ None = ap (λ t. line_fault t v.before line) (sym (same_tool old now v.before v.said)) ∙ s.0 in
    record {
      before = v.before ++ line_settings line;
      said = s.1 ∙ ap (λ a. with_configuration a (line_settings line)) v.said ∙ configured_more old v.before (line_settings line);
      notes = map-append (λ (t : Setting). t.option.number) v.before (line_settings line) ∙ sym s.2;
      so_far = sym (ap (read_lines old.tool n v.before) lines ∙ ap (λ o. line_or n o (read_lines old.tool (n + 1) (v.before ++ line_settings line) (lines_of others))) right) ∙ v.so_far;
      counted = omega (arith, v.counted);
    }

fails : (old now next : Said) (later : List ℕ) (stop : LineStop) (n : ℕ) (before : List Setting) (line others : List ℕ) (total : Result (List Setting) AsmFault) → now.tool ≡ old.tool → TakesLine before line now next later (Err stop)
    → read_lines old.tool n before (line ∷ lines_of others) ≡ total → Configures total old next (Err (fault_at n stop))
fails old now next later stops.NoMemory n before line others total tool h so_far = wanting total
  where
    wanting : (r : Result (List Setting) AsmFault) → Configures r old next (Err faults.OutOfMemory)
    wanting (Ok settings) = tt
    wanting (Err fault) = tt
fails old now next later (stops.Wrong w) n before line others total tool h so_far =
    let wrong : line_fault old.tool before line ≡ Some w = ap (λ t. line_fault t before line) (sym tool) ∙ h in
    told total (sym so_far ∙ ap (λ o. line_or n o (read_lines old.tool (n + 1) (before ++ line_settings line) (lines_of others))) wrong)
  where
    told : (r : Result (List Setting) AsmFault) → r ≡ Err (faults.Bad n w) → Configures r old next (Err (faults.Bad n w))
    told (Ok settings) e = cc
    told (Err fault) e = ap (fault_or fault) e
      where
        fault_or : AsmFault → Result (List Setting) AsmFault → AsmFault
        fault_or d (Ok settings) = d
        fault_or d (Err f) = f

-- where it is wrong, reading ends with it
pub ends_wrong : (old now next : Said) (stood later : List ℕ) (stop : LineStop) (n : ℕ) (rest text line others : List ℕ) → Going old now stood n rest text → lines_of rest ≡ line ∷ lines_of others
    → ((before : List Setting) → numbers before ≡ stood → TakesLine before line now next later (Err stop)) → Configures (configuration old.tool text) old next (Err (fault_at n stop))
ends_wrong old now next stood later stop n rest text line others v lines step =
    fails old now next later stop n v.before line others (configuration old.tool text) (same_tool old now v.before v.said) (step v.before v.notes) (sym (ap (read_lines old.tool n v.before) lines) ∙ v.so_far)

no_bytes : (xs : List ℕ) → length xs ≤ 0 → xs ≡ []
no_bytes [] h = refl
no_bytes (x ∷ xs) h = absurd (omega arith)

done : (old now : Said) (before : List Setting) (r : Result (List Setting) AsmFault) → Ok before ≡ r → now ≡ with_configuration old before → Configures r old now (Ok tt)
done old now before (Ok settings) e said = said ∙ ap (with_configuration old) (ap (settings_or before) e)
  where
    settings_or : List Setting → Result (List Setting) AsmFault → List Setting
    settings_or d (Ok s) = s
    settings_or d (Err f) = d
done old now before (Err fault) e said = cc

-- where no line is left, the configuration is read
pub is_done : (old now : Said) (stood : List ℕ) (n : ℕ) (rest text : List ℕ) → Going old now stood n rest text → length rest ≤ 0 → Configures (configuration old.tool text) old now (Ok tt)
is_done old now stood n rest text v h =
    done old now v.before (configuration old.tool text) (sym (ap (λ (bytes : List ℕ). read_lines old.tool n v.before (lines_of bytes)) (no_bytes rest h)) ∙ v.so_far) v.said
