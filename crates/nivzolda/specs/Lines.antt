-- What the program's lines hold.
-- Assumes nothing.
use Rattle.std.specs.Prelude.{ℕ, ◌/◌, ◌%◌, List, ◌++◌, codes, decimal}
use Rattle.std.specs.List.{flat_map, zip}
use Rattle.sheet.specs.declared.rows.Row.{Row}
use Rattle.rulebook.specs.declared.verdict.Verdict.{Verdict}
use Rattle.rulebook.specs.Verdicts.{verdict_word}

-- a number of hundredths: the whole part, a point and two digits
abbrev pub two_decimals : ℕ → List ℕ
two_decimals n = decimal (n / 100) ++ (codes "." ++ (decimal (n / 10 % 10) ++ decimal (n % 10)))

-- the number and the row of a refusal, and the reason in words
abbrev pub refused_line : ℕ × ℕ → List ℕ → List ℕ
refused_line told reason =
    codes "refused " ++ (decimal told.0 ++ (codes " at row " ++ (decimal told.1 ++ (codes ": " ++ (reason ++ codes "\n")))))

-- a row of the sheet: its number, the assay's name, what the row says, and where the name stands
abbrev pub row_start : ℕ → List ℕ → Row → List ℕ
row_start number label row =
    codes "row "
    ++ (decimal number
    ++ (codes " " ++ (label ++ (codes " table " ++ (decimal row.table ++ (codes " target " ++ two_decimals row.target))))))

abbrev pub row_end : Row → ℕ → List ℕ
row_end row place =
    codes " ends "
    ++ (two_decimals row.lower
    ++ (codes " "
    ++ (two_decimals row.upper
    ++ (codes " last minute "
    ++ (decimal row.last_minute
    ++ (codes " limit " ++ (decimal row.limit ++ (codes " name at " ++ (decimal place ++ codes "\n")))))))))

abbrev pub row_line : ℕ → List ℕ → Row → ℕ → List ℕ
row_line number label row place = row_start number label row ++ row_end row place

-- a value and its verdict
abbrev pub judged_line : ℕ → Verdict → List ℕ
judged_line value verdict = two_decimals value ++ (codes " " ++ (verdict_word verdict ++ codes "\n"))

-- such a line for each value, with the verdict beside it
abbrev pub judged_lines : List ℕ → List Verdict → List ℕ
judged_lines values verdicts = flat_map (λ pair. judged_line pair.0 pair.1) (zip values verdicts)
