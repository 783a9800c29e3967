-- The header of a sheet: length of the sheet, count of rows, offset of the first row, length and offset of the name block.
-- Assumes nothing.
use Rattle.std.specs.Prelude.{ℕ, List}
use Rattle.sheet.specs.declared.header.Header.{Header}
use Rattle.sheet.specs.Numbers.{number16}

unfoldable pub header_of : List ℕ → Header
header_of s =
    record {
      sheet_length = number16 s 0;
      row_count = number16 s 2;
      rows_offset = number16 s 4;
      names_length = number16 s 6;
      names_offset = number16 s 8;
    }
