-- Where the rows and the names lie in the sheet, and when that is refused.
-- Assumes nothing.
use Rattle.std.specs.Prelude.{ℕ, ◌+◌, ◌*◌, Bool, not, ◌||◌, nat_le, nat_lt}
use Rattle.sheet.specs.declared.header.Header.{Header}
use Rattle.std.specs.declared.ops.Range.{Range}

abbrev pub rows_block : Header → Range ℕ
rows_block h = record { start = h.rows_offset; end = h.rows_offset + 21 * h.row_count }

abbrev pub names_block : Header → Range ℕ
names_block h = record { start = h.names_offset; end = h.names_offset + h.names_length }

-- it starts below 10 or ends beyond the sheet
abbrev pub misplaced : Range ℕ → ℕ → Bool
misplaced b size = nat_lt b.start 10 || nat_lt size b.end

-- one of the two ends at or before the other's start
abbrev pub apart : Range ℕ → Range ℕ → Bool
apart a b = nat_le a.end b.start || nat_le b.end a.start

abbrev pub wrong_layout : Header → ℕ → Bool
wrong_layout h size = misplaced (rows_block h) size || (misplaced (names_block h) size || not (apart (rows_block h) (names_block h)))
