-- One test for each thing that can be wrong with a sheet; Blocks has that of the layout.
-- Assumes nothing.
use Rattle.std.specs.Prelude.{ℕ, ◌+◌, Bool, not, ◌||◌, List, ◌==◌, nat_lt}
use Rattle.tolerance.specs.Table.{listed}
use Rattle.sheet.specs.declared.header.Header.{Header}
use Rattle.sheet.specs.declared.fields.Fields.{Fields}
use Rattle.sheet.specs.Names.{name_bytes, has_other_byte, same_name_before}

-- under 10 or over 4,096 bytes, or not the stated length
abbrev pub wrong_length : Header → ℕ → Bool
wrong_length h size = nat_lt size 10 || (nat_lt 4096 size || not (h.sheet_length == size))

-- no rows, or more than 16
abbrev pub wrong_row_count : Header → Bool
wrong_row_count h = h.row_count == 0 || nat_lt 16 h.row_count

-- a table number neither 0 nor in the table
abbrev pub unknown_table : Fields → Bool
unknown_table f = not (f.table == 0 || listed f.table)

-- target 0, lower end not below it, upper end not above it or over 99,999
abbrev pub wrong_range : Fields → Bool
wrong_range f = f.target == 0 || (not (nat_lt f.lower f.target) || (not (nat_lt f.target f.upper) || nat_lt 99999 f.upper))

-- name length not 1 to 12, name outside its block, or a byte other than A to Z and 0 to 9
abbrev pub wrong_name : List ℕ → Header → Fields → Bool
wrong_name s h f =
    nat_lt f.name_length 1
    || (nat_lt 12 f.name_length || (nat_lt h.names_length (f.name_offset + f.name_length) || has_other_byte (name_bytes s h f)))

-- an earlier row has that name
abbrev pub repeated_name : List ℕ → Header → Fields → ℕ → Bool
repeated_name s h f k = same_name_before s h k (name_bytes s h f)
