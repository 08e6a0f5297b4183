-- Text that is added in parts.
use Rattle.std.specs.Prelude.{◌≡◌, ◌++◌, ℕ, List, Result, Ok, Err, OnOk, codes, decimal}
use Rattle.std.proofs.Common.{refl, ap, ◌∙◌, append_assoc}
use Rattle.ss_base.specs.Text.{hex8}
use Rattle.pisa_step.specs.declared.cause.Cause.{Cause}
use Rattle.pisa_step.specs.declared.cause.Cause.TheVariants as cause
use Rattle.sim_safe.specs.Ends.{cause_text, stop_text}

-- one part more
pub with_part : (old mid new xs ys : List ℕ) → mid ≡ old ++ xs → new ≡ mid ++ ys → new ≡ old ++ (xs ++ ys)
with_part old mid new xs ys e h = h ∙ ap (λ z. z ++ ys) e ∙ append_assoc old xs ys

-- the last part, where it was added
pub with_last : {T E : Type 0} (r : Result T E) (old mid new xs ys : List ℕ) → mid ≡ old ++ xs → OnOk r (new ≡ mid ++ ys) → OnOk r (new ≡ old ++ (xs ++ ys))
with_last (Ok _) old mid new xs ys e h = with_part old mid new xs ys e h
with_last (Err _) old mid new xs ys e h = h

-- a stop that is no exit
pub stop_text_is : (why : Cause) (pc icnt : ℕ) → ((code : ℕ) → why ≡ cause.Exited code → ⊥) → stop_text why pc icnt ≡ codes "stopped " ++ hex8 pc ++ codes " " ++ decimal icnt ++ codes " " ++ cause_text why
stop_text_is (cause.Exited code) pc icnt h = absurd (h code refl)
stop_text_is cause.BadFetch pc icnt h = refl
stop_text_is cause.Illegal pc icnt h = refl
stop_text_is (cause.FloatingPoint opcode) pc icnt h = refl
stop_text_is (cause.Misaligned addr) pc icnt h = refl
stop_text_is cause.Overflow pc icnt h = refl
stop_text_is cause.DivideByZero pc icnt h = refl
stop_text_is (cause.TextWrite addr) pc icnt h = refl
stop_text_is cause.Break pc icnt h = refl
stop_text_is (cause.TraceEnd used) pc icnt h = refl
stop_text_is (cause.TraceMismatch f kept found) pc icnt h = refl
