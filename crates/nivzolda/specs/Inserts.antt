-- What `nivzolda sheet` says of an accepted sheet: how many rows it has, and a line for each.
-- Assumes nothing.
use Rattle.std.specs.Prelude.{ℕ, zero, suc, List, [], ◌++◌, codes, decimal}
use Rattle.sheet.specs.Header.{header_of}
use Rattle.sheet.specs.Names.{name_of}
use Rattle.sheet.specs.Reader.{row_count, row_of, name_place_of}
use Rattle.nivzolda.specs.Lines.{row_line}

-- the line of row k: its number, its name, what it says, and where the name stands
abbrev pub line_of_row : List ℕ → ℕ → List ℕ
line_of_row s k = row_line k (name_of s (header_of s) k) (row_of s k) (name_place_of s k)

-- the lines of the first n rows
abbrev pub lines_of_rows : List ℕ → ℕ → List ℕ
lines_of_rows s zero = []
lines_of_rows s (suc n) = lines_of_rows s n ++ line_of_row s n

abbrev pub accepted_text : List ℕ → List ℕ
accepted_text s = (codes "accepted, " ++ (decimal (row_count s) ++ codes " rows\n")) ++ lines_of_rows s (row_count s)
