-- What `nivzolda judge` says of an accepted sheet: the verdicts, or that there is no such row.
-- Assumes nothing.
use Rattle.std.specs.Prelude.{ℕ, List, Some, None, codes, Option}
use Rattle.sheet.specs.declared.rows.Row.{Row}
use Rattle.rulebook.specs.Meanings.{Meaning}
use Rattle.rulebook.specs.Series.{verdicts_of}
use Rattle.nivzolda.specs.Assays.{assay_row}
use Rattle.nivzolda.specs.Lines.{judged_lines}

-- each value with its verdict, by the row's limit and target
abbrev pub judged_row : Meaning → Row → List ℕ → List ℕ
judged_row m row values = judged_lines values (verdicts_of m row.limit row.target values)

abbrev pub no_such_row : List ℕ
no_such_row = codes "refused 8: no such row\n"

abbrev pub judged_there : Option Row → Meaning → List ℕ → List ℕ
judged_there None m values = no_such_row
judged_there (Some row) m values = judged_row m row values

-- the same for the assay that an argument means
abbrev pub judged_assay : List ℕ → List ℕ → Meaning → List ℕ → List ℕ
judged_assay s assay = judged_there (assay_row s assay)
