-- The deviation of a value from its target, and "outside k standard deviations".
-- Assumes nothing.
use Rattle.std.specs.Prelude.{ℕ, ◌*◌, Bool, ℤ, pos, ◌-ℤ◌, ◌*ℤ◌, nat_lt, unsigned_abs}

-- 3,000 times the value minus the target, signed
abbrev pub deviation_of : ℕ → ℕ → ℤ
deviation_of value target = pos 3000 *ℤ (pos value -ℤ pos target)

-- the size of the deviation exceeds k times the limit
abbrev pub outside : ℕ → ℤ → ℕ → Bool
outside k e limit = nat_lt (k * limit) (unsigned_abs e)
