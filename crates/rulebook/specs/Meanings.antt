-- The meaning of a rulebook: a verdict for each unit and window of deviations, newest first.
-- A unit is an unsigned number of 32 bits, a deviation a signed one of 32 bits; nothing is said of other numbers.
-- Assumes nothing.
use Rattle.std.specs.Prelude.{◌≡◌, ℕ, ◌^◌, ◌<◌, ◌≤◌, List, ℤ, All, FitsSigned}
use Rattle.std.specs.Int.{w32}
use Rattle.rulebook.specs.declared.verdict.Verdict.{Verdict}
use Rattle.rulebook.specs.Verdicts.{severity}

abbrev pub Meaning : Type 0
Meaning = ℕ → List ℤ → Verdict

-- an unsigned number of 32 bits
abbrev pub Unit32 : ℕ → Type 0
Unit32 unit = unit < 2 ^ 32

-- signed numbers of 32 bits, as many as there may be
abbrev pub Window32 : List ℤ → Type 0
Window32 window = All (FitsSigned w32) window

-- two meanings give the same verdict for every unit and window
abbrev pub SameMeaning : Meaning → Meaning → Type 0
SameMeaning m n = (unit : ℕ) (window : List ℤ) → Unit32 unit → Window32 window → m unit window ≡ n unit window

-- the verdicts of the first are at least as high as those of the second, for every unit and window
abbrev pub NeverMilder : Meaning → Meaning → Type 0
NeverMilder m n = (unit : ℕ) (window : List ℤ) → Unit32 unit → Window32 window → severity (n unit window) ≤ severity (m unit window)

-- a layer on a rulebook: never milder than it, nor than anything that it is never milder than, down to the base of a pile
abbrev pub LiesOn : Meaning → Meaning → Type 0
LiesOn layer below = NeverMilder layer below × ((base : Meaning) → NeverMilder below base → NeverMilder layer base)
