-- Lemmas on files that may be named, and on traces that are added to a file.
use Rattle.std.proofs.Common.{◌≡◌, ℕ, List, [], ◌∷◌, Option, Some, Result, Ok, Err, refl, sym, ap, ◌∙◌, subst}
use Rattle.event_trace.specs.declared.trace.Trace.{Trace}
use Rattle.event_trace.specs.Grammar.{trace_bytes}
use Rattle.journal.specs.declared.fault.Fault.{Fault}
use Rattle.journal.specs.declared.loading.Found.{Found}
use Rattle.journal.specs.declared.loading.Found.TheVariants as found
use Rattle.journal.specs.Write.{Append}
use Rattle.journal.specs.View.{View, Writes}
use Rattle.journal.specs.Load.{Input, input, Finds}
use Rattle.journal.specs.Outcome.{Outcome, Ends, Comes}
use Rattle.journal.specs.Loading.{comes_after, comes_too_long, comes_unloaded}
use Rattle.answers.specs.declared.answer.Answer.{Answer}
use Rattle.answers.specs.declared.answer.Answer.TheVariants as answer
use Rattle.answers.specs.Answer.{refused}
use Rattle.answers.specs.Judging.{LoadsNamed}
use Rattle.run_commands.specs.Program.{named_input}
use Rattle.run_commands.specs.Outcome.{trace_text}

-- a file that is named was found
pub named_found : {O : Type 0} (v : View O) (a b c : O) (limit : ℕ) (t : Option (List ℕ)) (name bytes : List ℕ) (others : List Input) (Next : Option (List ℕ) → List Found → Outcome Answer → Type 0) (r : Result Answer Fault) → t ≡ Some name
    → Finds v a (input name limit) b (Ok (found.Whole bytes)) → Comes v b others (Next (Some bytes)) c r → Comes v a (named_input limit t others) (λ fs o. LoadsNamed t fs o (λ x rest. Next x rest o)) c r
named_found v a b c limit t name bytes others Next r e finds rest =
    let P : Option (List ℕ) → Type 0 = λ x. Comes v a (named_input limit x others) (λ fs o. LoadsNamed x fs o (λ y more. Next y more o)) c r in
    subst P (sym e) (comes_after v a b c (input name limit) others bytes (λ fs o. LoadsNamed (Some name) fs o (λ y more. Next y more o)) r finds rest)

-- or it is too long
pub named_long : {O : Type 0} (v : View O) (a b c : O) (limit : ℕ) (t : Option (List ℕ)) (name : List ℕ) (others : List Input) (Next : Option (List ℕ) → List Found → Outcome Answer → Type 0) (r : Result Answer Fault) → t ≡ Some name
    → Finds v a (input name limit) b (Ok found.TooLong) → Ends v b (refused (answer.TooLong name)) c r → Comes v a (named_input limit t others) (λ fs o. LoadsNamed t fs o (λ x rest. Next x rest o)) c r
named_long v a b c limit t name others Next r e finds rest =
    let P : Option (List ℕ) → Type 0 = λ x. Comes v a (named_input limit x others) (λ fs o. LoadsNamed x fs o (λ y more. Next y more o)) c r in
    subst P (sym e) (comes_too_long v a b c (input name limit) others (λ fs o. LoadsNamed (Some name) fs o (λ y more. Next y more o)) (refused (answer.TooLong name)) r finds (λ fs. refl) rest)

-- or it wasn't loaded
pub named_unloaded : {O : Type 0} (v : View O) (a b : O) (limit : ℕ) (t : Option (List ℕ)) (name : List ℕ) (others : List Input) (Next : Option (List ℕ) → List Found → Outcome Answer → Type 0) (f : Fault) → t ≡ Some name
    → Finds v a (input name limit) b (Err f) → Comes v a (named_input limit t others) (λ fs o. LoadsNamed t fs o (λ x rest. Next x rest o)) b (Err f)
named_unloaded v a b limit t name others Next f e finds =
    let P : Option (List ℕ) → Type 0 = λ x. Comes v a (named_input limit x others) (λ fs o. LoadsNamed x fs o (λ y more. Next y more o)) b (Err f) in
    subst P (sym e) (comes_unloaded v a b (input name limit) others (λ fs o. LoadsNamed (Some name) fs o (λ y more. Next y more o)) f finds)

-- the bytes of a trace are added to a file
pub trace_added : {O T : Type 0} (v : View O) (a b : O) (out bytes whole : List ℕ) (t u : Trace) (r : Result T Fault) → bytes ≡ whole → whole ≡ trace_bytes t → t ≡ u
    → Writes v a (Append out bytes ∷ []) b r → Writes v a (Append out (trace_text u) ∷ []) b r
unfolding trace_text
trace_added v a b out bytes whole t u r e f k q = subst (λ x. Writes v a (Append out x ∷ []) b r) (e ∙ f ∙ ap trace_bytes k) q
