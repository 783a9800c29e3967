-- Which refusal a sheet gets: the first that applies. 1 to 3 are of the whole sheet, 4 to 7 are tested row by row.
-- Assumes nothing.
use Rattle.std.specs.Prelude.{ℕ, Bool, cond, List, [], ◌∷◌, length, Some, None, Option}
use Rattle.std.specs.Option.{option_or}
use Rattle.sheet.specs.declared.header.Header.{Header}
use Rattle.sheet.specs.declared.fields.Fields.{Fields}
use Rattle.sheet.specs.Header.{header_of}
use Rattle.sheet.specs.Fields.{row_fields}
use Rattle.sheet.specs.Below.{first_below}
use Rattle.sheet.specs.Blocks.{wrong_layout}
use Rattle.sheet.specs.Checks.{wrong_length, wrong_row_count, unknown_table, wrong_range, wrong_name, repeated_name}

-- the number beside the first test that holds
abbrev pub first_of : List (Bool × ℕ) → Option ℕ
first_of [] = None
first_of (t ∷ ts) = cond t.0 (Some t.1) (first_of ts)

-- the tests of the sheet as a whole, in their order
abbrev pub whole_tests : List ℕ → Header → List (Bool × ℕ)
whole_tests s h = (wrong_length h (length s), 1) ∷ (wrong_row_count h, 2) ∷ (wrong_layout h (length s), 3) ∷ []

-- the tests of row k with those fields, in their order
abbrev pub row_tests : List ℕ → Header → Fields → ℕ → List (Bool × ℕ)
row_tests s h f k = (unknown_table f, 4) ∷ (wrong_range f, 5) ∷ (wrong_name s h f, 6) ∷ (repeated_name s h f k, 7) ∷ []

unfoldable pub whole_refusal : List ℕ → Header → Option ℕ
whole_refusal s h = first_of (whole_tests s h)

unfoldable pub row_refusal : List ℕ → Header → Fields → ℕ → Option ℕ
row_refusal s h f k = first_of (row_tests s h f k)

abbrev pub at_row : ℕ → Option ℕ → Option (ℕ × ℕ)
at_row k None = None
at_row k (Some n) = Some (n, k)

-- the refusal of row k, with the row
abbrev pub refusal_at : List ℕ → Header → ℕ → Option (ℕ × ℕ)
refusal_at s h k = at_row k (row_refusal s h (row_fields s h k) k)

-- the number and the row of the first refusal that applies
abbrev pub refusal_of : List ℕ → Option (ℕ × ℕ)
refusal_of s =
    option_or (at_row 0 (whole_refusal s (header_of s))) (first_below (refusal_at s (header_of s)) (header_of s).row_count)
