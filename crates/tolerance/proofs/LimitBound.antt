-- No limit passes what the insert's range allows, at either end.
-- Assumes nothing.
use Rattle.std.proofs.Common.{ℕ, ◌*◌, ◌≤◌, Some, None, Option, arith}
use Rattle.tolerance.specs.declared.table.ToleranceRow.{ToleranceRow}
use Rattle.tolerance.specs.Table.{tolerance_for}
use Rattle.tolerance.specs.Limits.{nearer_end, smaller_of, limit_of}

smaller_bounded : (o : Option ToleranceRow) (target by_range : ℕ) → smaller_of o target by_range ≤ by_range
smaller_bounded None t r = omega arith
smaller_bounded (Some row) t r = omega arith

pub limit_bounded : (number target lower upper : ℕ) → limit_of number target lower upper ≤ 1000 * nearer_end target lower upper
limit_bounded n t a b = smaller_bounded (tolerance_for n t) t (1000 * nearer_end t a b)
