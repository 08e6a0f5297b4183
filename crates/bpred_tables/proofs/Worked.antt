-- Values worked out by hand, computed from the definitions.
use Rattle.std.proofs.Common.{◌≡◌, Bool, true, false, List, [], ◌∷◌, refl}
use Rattle.std.specs.Prelude.{map}
use Rattle.bpred_tables.specs.Updates.{Update, Levels, counter, predicted, Bimodal, history}
use Rattle.bpred_tables.specs.Stack.{Push, Pop, SetTop, pushes, pops, popped, top_after}

-- the branch at 0 with these outcomes, the newest first
abbrev at_zero : List Bool → List Update
at_zero [] = []
at_zero (newest ∷ older) = record { pc = 0; taken = newest } ∷ at_zero older

-- taken, taken, taken, not, not
after_one : counter (true ∷ []) ≡ 2
after_one = refl

after_two : counter (true ∷ true ∷ []) ≡ 3
after_two = refl

after_three : counter (true ∷ true ∷ true ∷ []) ≡ 3
after_three = refl

after_four : counter (false ∷ true ∷ true ∷ true ∷ []) ≡ 2
after_four = refl

after_five : counter (false ∷ false ∷ true ∷ true ∷ true ∷ []) ≡ 1
after_five = refl

then_not_taken : predicted (Bimodal 1) (at_zero (false ∷ false ∷ true ∷ true ∷ true ∷ [])) 0 ≡ false
then_not_taken = refl

-- one history of two outcomes, and four counters by history and instruction
abbrev small : Levels
small = record { first = 1; second = 4; width = 2; xored = false }

first_history : history small 0 (at_zero []) ≡ 0
first_history = refl

second_history : history small 0 (at_zero (true ∷ [])) ≡ 1
second_history = refl

third_history : history small 0 (at_zero (true ∷ true ∷ [])) ≡ 3
third_history = refl

-- a stack of eight cells after nine pushes: eight pops give the last eight, the ninth the newest again
nine_pushes : map (λ i. popped 8 (pops i (pushes (9 ∷ 8 ∷ 7 ∷ 6 ∷ 5 ∷ 4 ∷ 3 ∷ 2 ∷ 1 ∷ []) []))) (0 ∷ 1 ∷ 2 ∷ 3 ∷ 4 ∷ 5 ∷ 6 ∷ 7 ∷ 8 ∷ [])
    ≡ 9 ∷ 8 ∷ 7 ∷ 6 ∷ 5 ∷ 4 ∷ 3 ∷ 2 ∷ 9 ∷ []
nine_pushes = refl

-- a recovery to the top of the first of two pushes, and then to that of the second
to_the_first : popped 8 (SetTop (top_after 8 (Push 16 ∷ [])) ∷ Push 24 ∷ Push 16 ∷ []) ≡ 16
to_the_first = refl

to_the_second : popped 8 (SetTop (top_after 8 (Push 24 ∷ Push 16 ∷ [])) ∷ Pop ∷ SetTop 1 ∷ Push 24 ∷ Push 16 ∷ []) ≡ 24
to_the_second = refl
