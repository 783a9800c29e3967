-- The line of one row more.
-- Assumes nothing.
use Rattle.std.proofs.Common.{◌≡◌, ℕ, ◌+◌, List, ◌++◌, add-one}
use Rattle.std.proofs.lemmas.List.{append_assoc}
use Rattle.sheet.specs.declared.rows.Row.{Row}
use Rattle.sheet.specs.Header.{header_of}
use Rattle.sheet.specs.Names.{name_of}
use Rattle.sheet.specs.Reader.{row_of, name_place_of}
use Rattle.nivzolda.specs.Lines.{row_line}
use Rattle.nivzolda.specs.Inserts.{lines_of_rows}

pub one_more : (s start text next name : List ℕ) (row : Row) (place k : ℕ) → text ≡ start ++ lines_of_rows s k → next ≡ text ++ row_line k name row place
    → name ≡ name_of s (header_of s) k → row ≡ row_of s k → place ≡ name_place_of s k → next ≡ start ++ lines_of_rows s (k + 1)
one_more s start text next name row place k kept e n r p = rw (e, kept, n, r, p, add-one, append_assoc)
