-- Which row of the sheet an argument means.
-- Assumes nothing.
use Rattle.std.specs.Prelude.{ℕ, Bool, cond, ◌&&◌, List, [], ◌∷◌, Some, None, Option, find, option_map, option_and_then, ◌==◌, nat_lt}
use Rattle.std.specs.List.{range_with_len}
use Rattle.std.specs.Str.{bytes_eq}
use Rattle.text.specs.Numbers.{number_in}
use Rattle.sheet.specs.declared.rows.Row.{Row}
use Rattle.sheet.specs.Header.{header_of}
use Rattle.sheet.specs.Names.{name_of}
use Rattle.sheet.specs.Reader.{row_count, row_of}

-- there is a row k, and it has that name
abbrev pub is_named : List ℕ → List ℕ → ℕ → Bool
is_named s name k = nat_lt k (row_count s) && bytes_eq (name_of s (header_of s) k) name

-- the first row of that name
abbrev pub row_named : List ℕ → List ℕ → Option ℕ
row_named s name = find (is_named s name) (range_with_len 0 (row_count s))

-- the row of that number, where there is one
abbrev pub row_numbered : List ℕ → List ℕ → Option ℕ
row_numbered s digits = option_and_then (λ k. cond (nat_lt k (row_count s)) (Some k) None) (number_in digits)

-- `@`, which is 64, and a row number; else a name
abbrev pub row_meant : List ℕ → List ℕ → Option ℕ
row_meant s [] = row_named s []
row_meant s (b ∷ bs) = cond (b == 64) (row_numbered s bs) (row_named s (b ∷ bs))

-- what the sheet says in that row
abbrev pub assay_row : List ℕ → List ℕ → Option Row
assay_row s assay = option_map (row_of s) (row_meant s assay)
