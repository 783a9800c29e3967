-- From the target to the limit. A limit is in thousandths of a hundredth of the unit and stands for three standard deviations.
-- Assumes nothing.
use Rattle.std.specs.Prelude.{ℕ, ◌+◌, ◌-◌, ◌*◌, min, Some, None, Option}
use Rattle.tolerance.specs.declared.table.ToleranceRow.{ToleranceRow}
use Rattle.tolerance.specs.Table.{tolerance_for}

-- how far two numbers lie apart (a difference of naturals stops at 0)
abbrev pub distance : ℕ → ℕ → ℕ
distance a b = (a - b) + (b - a)

-- from the target to the nearer end of the insert's range
abbrev pub nearer_end : ℕ → ℕ → ℕ → ℕ
nearer_end target lower upper = min (distance target lower) (distance target upper)

-- the smaller of the table's share of the target and what the range allows; with no row in the table, what the range allows
abbrev pub smaller_of : Option ToleranceRow → ℕ → ℕ → ℕ
smaller_of None target by_range = by_range
smaller_of (Some row) target by_range = min by_range (row.permille * target)

-- the limit for a table number, a target, and the two ends of the insert's range
abbrev pub limit_of : ℕ → ℕ → ℕ → ℕ → ℕ
limit_of number target lower upper = smaller_of (tolerance_for number target) target (1000 * nearer_end target lower upper)
