-- What a reader hands out of an accepted sheet: rows with their limits, and names with their places.
-- Assumes nothing.
use Rattle.std.specs.Prelude.{◌≡◌, ℕ, ◌<◌, ◌≤◌, List, None, Option, MatchOption}
use Rattle.sheet.specs.declared.reader.Sheet.{Sheet}
use Rattle.sheet.specs.declared.rows.Row.{Row}
use Rattle.sheet.specs.declared.rows.Name.{Name}
use Rattle.sheet.specs.declared.fields.Fields.{Fields}
use Rattle.sheet.specs.Header.{header_of}
use Rattle.sheet.specs.Fields.{row_fields}
use Rattle.sheet.specs.Names.{name_place, name_of}
use Rattle.sheet.specs.Rows.{row_from}
use Rattle.sheet.specs.Acceptance.{refusal_of}

-- the bytes that a reader borrows
abbrev pub sheet_bytes : Sheet → List ℕ
sheet_bytes x = x.layout.bytes.now

-- no refusal applies to them
abbrev pub Accepted : Sheet → Type 0
Accepted x = refusal_of (sheet_bytes x) ≡ None

-- an assay is known by its row number, which is below this
abbrev pub row_count : List ℕ → ℕ
row_count s = (header_of s).row_count

-- row k of a sheet
abbrev pub row_of : List ℕ → ℕ → Row
row_of s k = row_from (row_fields s (header_of s) k)

-- where the name of row k starts, from the sheet's first byte
abbrev pub name_place_of : List ℕ → ℕ → ℕ
name_place_of s k = name_place (header_of s) (row_fields s (header_of s) k)

abbrev pub RightFields : List ℕ → ℕ → Fields → Type 0
RightFields s k fields = fields ≡ row_fields s (header_of s) k

abbrev pub RightRow : List ℕ → ℕ → Row → Type 0
RightRow s k row = row ≡ row_of s k

abbrev pub RightName : List ℕ → ℕ → Name → Type 0
RightName s k name = (name.place ≡ name_place_of s k) × (name.bytes.now ≡ name_of s (header_of s) k)

-- the answer of a sheet for row k: there is one exactly where there is such a row, and then it is right
abbrev pub HandsOut : {X : Type 0} → (List ℕ → ℕ → X → Type 0) → Sheet → ℕ → Option X → Type 0
HandsOut Right x k r = MatchOption r (row_count (sheet_bytes x) ≤ k) (λ v. (k < row_count (sheet_bytes x)) × Right (sheet_bytes x) k v)
