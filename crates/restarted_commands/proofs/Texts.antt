-- What a run writes to the file of its commit text and to the first stream.
use Rattle.std.proofs.Common.{◌≡◌, ◌++◌, ℕ, Bool, true, false, List, [], ◌∷◌, Option, Some, None, refl, sym, ap, ◌∙◌, subst}
use Rattle.std.specs.Prelude.{bytes_eq, if◌then◌else◌}
use Rattle.event_trace.specs.declared.trace.Trace.{Trace}
use Rattle.sim_safe.specs.State.{State}
use Rattle.sim_safe.specs.Commit.{text_of, outputs_of}
use Rattle.cut_run.specs.Plan.{timed_items, is_too_long, cut_journal, PointElsewhere}
use Rattle.journal.specs.Write.{Journal, Write, Start, output_of}
use Rattle.journal.specs.Texts.{text_in, text_with}
use Rattle.journal.specs.Laws.{output_more}
use Rattle.run_commands.specs.Outcome.{AreApart, point_file, start_of, starts_of, ran}
use Rattle.run_commands.specs.OutcomeLaws.{start_output}
use Rattle.restarted_commands.proofs.Below.{Below}
use Rattle.restarted_commands.proofs.Plans.{unskipped, skipped_output}

-- what a journal adds to a file follows from what the file had before
pub text_below : (j h k : Journal) (file : List ℕ) → text_in h file ≡ text_in k file → text_in (j ++ h) file ≡ text_in (j ++ k) file
text_below [] h k file e = e
text_below (w ∷ j) h k file e = ap (λ t. text_with w file t) (text_below j h k file e)

-- the file of the commit text is empty before the run
starts_named : (file : List ℕ) (point : Option (List ℕ × ℕ)) → PointElsewhere file point → text_in (start_of (point_file point) ++ start_of (Some file)) file ≡ text_in (Start file ∷ []) file
starts_named file None e = refl
starts_named file (Some p) e = ap (λ (b : Bool). if b then Some (let none : List ℕ = [] in none) else text_in (Start file ∷ []) file) e

starts_text : (commits : Option (List ℕ)) (file : List ℕ) (point : Option (List ℕ × ℕ)) → commits ≡ Some file → PointElsewhere file point → text_in (start_of (point_file point) ++ start_of commits) file ≡ text_in (Start file ∷ []) file
starts_text commits file point e elsewhere = ap (λ (c : Option (List ℕ)). text_in (start_of (point_file point) ++ start_of c) file) e ∙ starts_named file point elsewhere

-- its text is that of the instructions
pub commit_text : Below → (trace : Trace) (s : State) (most : ℕ) (commits : Option (List ℕ)) (point : Option (List ℕ × ℕ)) (file : List ℕ) → commits ≡ Some file → AreApart commits point → is_too_long trace s (unskipped most commits point) ≡ false
    → text_in (ran trace (unskipped most commits point) s).writes file ≡ Some (text_of (timed_items trace s (unskipped most commits point)))
commit_text below trace s most commits point file e apart fits =
    let asked = unskipped most commits point in
    let elsewhere : PointElsewhere file point = subst (λ (c : Option (List ℕ)). AreApart c point) e apart in
    text_below (cut_journal trace s asked) (starts_of asked) (Start file ∷ []) file (starts_text commits file point e elsewhere) ∙ below.text trace s asked file e elsewhere fits

-- the output is theirs too
starts_output : (commits : Option (List ℕ)) (point : Option (List ℕ × ℕ)) → output_of (start_of (point_file point) ++ start_of commits) ≡ []
starts_output commits point =
    output_more (start_of (point_file point)) (start_of commits) ∙ ap (λ x. x ++ output_of (start_of (point_file point))) (start_output commits) ∙ start_output (point_file point)

pub run_output : Below → (trace : Trace) (s : State) (most : ℕ) (commits : Option (List ℕ)) (point : Option (List ℕ × ℕ)) → is_too_long trace s (unskipped most commits point) ≡ false
    → output_of (ran trace (unskipped most commits point) s).writes ≡ outputs_of (timed_items trace s (unskipped most commits point))
run_output below trace s most commits point fits =
    let asked = unskipped most commits point in
    output_more (cut_journal trace s asked) (starts_of asked) ∙ ap (λ x. x ++ output_of (cut_journal trace s asked)) (starts_output commits point) ∙ below.output trace s asked fits
    ∙ ap (λ x. x ++ outputs_of (timed_items trace s asked)) (skipped_output trace s most commits point)
