-- The line of the count, and the lines of the rows so far.
use Rattle.std.proofs.Common.{◌≡◌, ◌++◌, codes, decimal, string_bytes}
use Rattle.sheet.specs.Reader.{sheet_bytes, row_count}
use Rattle.nivzolda.specs.Inserts.{lines_of_rows}
use Rattle.nivzolda.proofs.insert.accepted.Given as goal

abbrev pub invariant-loop-number : goal.invariant-loop-number
invariant-loop-number l =
    string_bytes l.text ≡ (codes "accepted, " ++ (decimal (row_count (sheet_bytes l.sheet)) ++ codes " rows\n")) ++ lines_of_rows (sheet_bytes l.sheet) l.number
