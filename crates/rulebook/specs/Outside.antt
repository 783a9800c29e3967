-- The newest deviations outside k units.
-- Assumes nothing.
use Rattle.std.specs.Prelude.{ℕ, Bool, false, if◌then◌else◌, ◌&&◌, List, [], ◌∷◌, ℤ, ◌==◌}
use Rattle.tolerance.specs.Deviations.{outside}

-- a unit of 0 is read as 1
abbrev pub as_read : ℕ → ℕ
as_read unit = if unit == 0 then 1 else unit

-- the newest deviation is outside k units: its size exceeds k times the unit
abbrev pub newest_outside : ℕ → ℕ → List ℤ → Bool
newest_outside k unit [] = false
newest_outside k unit (newest ∷ older) = outside k newest (as_read unit)

-- the newest two are both outside k units, each on either side
abbrev pub newest_two_outside : ℕ → ℕ → List ℤ → Bool
newest_two_outside k unit [] = false
newest_two_outside k unit (newest ∷ older) = outside k newest (as_read unit) && newest_outside k unit older
