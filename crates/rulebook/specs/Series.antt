-- A series of controls, judged one after the other.
-- Assumes nothing.
use Rattle.std.specs.Prelude.{ℕ, List, [], ◌∷◌, map, reverse, ℤ}
use Rattle.tolerance.specs.Deviations.{deviation_of}
use Rattle.rulebook.specs.declared.verdict.Verdict.{Verdict}
use Rattle.rulebook.specs.Meanings.{Meaning}

-- deviations and verdicts go newest first: each control is judged with all older ones behind it in the window
abbrev pub series : Meaning → ℕ → List ℤ → List Verdict
series m unit [] = []
series m unit (newest ∷ older) = m unit (newest ∷ older) ∷ series m unit older

-- values in the order in which they were measured: their deviations from the target, newest first, and their verdicts in the
-- same order as the values
abbrev pub deviations_of : ℕ → List ℕ → List ℤ
deviations_of target values = map (λ value. deviation_of value target) (reverse values)

abbrev pub verdicts_of : Meaning → ℕ → ℕ → List ℕ → List Verdict
verdicts_of m unit target values = reverse (series m unit (deviations_of target values))

-- written over the places, as many as there are; what stands behind stays
abbrev pub over : {X : Type 0} → List X → List X → List X
over [] places = places
over (x ∷ xs) [] = []
over (x ∷ xs) (place ∷ places) = x ∷ over xs places
