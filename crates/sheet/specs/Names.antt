-- The names of the assays, as parts of the name block.
-- Assumes nothing.
use Rattle.std.specs.Prelude.{ℕ, ◌+◌, Bool, not, ◌&&◌, ◌||◌, List, take, drop, nat_le}
use Rattle.std.specs.List.{list_any, range_with_len}
use Rattle.std.specs.Str.{bytes_eq}
use Rattle.sheet.specs.declared.header.Header.{Header}
use Rattle.sheet.specs.declared.fields.Fields.{Fields}
use Rattle.sheet.specs.Fields.{row_fields}

-- where the name of a row starts, from the sheet's first byte
abbrev pub name_place : Header → Fields → ℕ
name_place h f = h.names_offset + f.name_offset

abbrev pub name_bytes : List ℕ → Header → Fields → List ℕ
name_bytes s h f = take f.name_length (drop (name_place h f) s)

-- the name of row k of a sheet with that header
abbrev pub name_of : List ℕ → Header → ℕ → List ℕ
name_of s h k = name_bytes s h (row_fields s h k)

-- a byte other than A to Z and 0 to 9
abbrev pub other_byte : ℕ → Bool
other_byte b = not ((nat_le 65 b && nat_le b 90) || (nat_le 48 b && nat_le b 57))

abbrev pub has_other_byte : List ℕ → Bool
has_other_byte = list_any other_byte

-- one of the first n rows has that name
abbrev pub same_name_before : List ℕ → Header → ℕ → List ℕ → Bool
same_name_before s h n name = list_any (λ k. bytes_eq (name_of s h k) name) (range_with_len 0 n)
