-- The numbers below n, in their order: whether one of them passes, and what is found at the first at which something is found.
-- Assumes nothing.
use Rattle.std.specs.Prelude.{ℕ, zero, suc, Bool, false, ◌||◌, None, Option}
use Rattle.std.specs.Option.{option_or}

-- the test passes at some number below n
abbrev pub some_below : (ℕ → Bool) → ℕ → Bool
some_below test zero = false
some_below test (suc n) = some_below test n || test n

-- what is found at the first number below n at which something is found
abbrev pub first_below : {X : Type 0} → (ℕ → Option X) → ℕ → Option X
first_below find zero = None
first_below find (suc n) = option_or (first_below find n) (find n)
