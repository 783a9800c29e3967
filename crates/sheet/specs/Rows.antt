-- A row as it is handed out: what its fields say of the assay, and the limit that follows.
-- Assumes nothing.
use Rattle.std.specs.Prelude.{ℕ, ◌<◌, ◌≤◌}
use Rattle.tolerance.specs.Limits.{limit_of}
use Rattle.sheet.specs.declared.rows.Row.{Row}
use Rattle.sheet.specs.declared.fields.Fields.{Fields}

-- the ends enclose the target, and lie in the range of values
abbrev pub Enclosed : ℕ → ℕ → ℕ → Type 0
Enclosed lower target upper = (lower < target) × (target < upper) × (upper ≤ 99999)

abbrev pub InRange : Fields → Type 0
InRange f = Enclosed f.lower f.target f.upper

-- the same of a row; so its limit is at most 1,000 times the highest value
abbrev pub RowInRange : Row → Type 0
RowInRange row = Enclosed row.lower row.target row.upper × (row.limit ≤ 99999000)

-- what the fields say of an assay, and the limit that follows
abbrev pub row_from : Fields → Row
row_from f =
    record {
      table = f.table;
      target = f.target;
      lower = f.lower;
      upper = f.upper;
      last_minute = f.last_minute;
      limit = limit_of f.table f.target f.lower f.upper;
    }
