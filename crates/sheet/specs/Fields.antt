-- The fields of a row, read from the 21 bytes at the front of a list.
-- Assumes nothing.
use Rattle.std.specs.Prelude.{ℕ, ◌+◌, ◌*◌, List, drop, slice_index}
use Rattle.sheet.specs.declared.fields.Fields.{Fields}
use Rattle.sheet.specs.declared.header.Header.{Header}
use Rattle.sheet.specs.Numbers.{number16, number32}

unfoldable pub fields_of : List ℕ → Fields
fields_of s =
    record {
      table = number16 s 0;
      target = number32 s 2;
      lower = number32 s 6;
      upper = number32 s 10;
      last_minute = number32 s 14;
      name_length = slice_index s 18;
      name_offset = number16 s 19;
    }

-- where row k starts: rows of 21 bytes follow one another
abbrev pub row_place : Header → ℕ → ℕ
row_place h k = h.rows_offset + 21 * k

-- the fields of row k of a sheet with that header
abbrev pub row_fields : List ℕ → Header → ℕ → Fields
row_fields s h k = fields_of (drop (row_place h k) s)
