-- The table of tolerances, and how it is looked up.
-- Targets are in hundredths of the analyte's unit; the permille is of the target, for a single value.
-- Assumes nothing.
use Rattle.std.specs.Prelude.{◌≡◌, ℕ, Bool, true, not, ◌&&◌, ◌||◌, List, [], ◌∷◌, Some, Option, find, All, ◌==◌, nat_le, nat_lt}
use Rattle.std.specs.List.{list_all, list_any}
use Rattle.tolerance.specs.declared.table.ToleranceRow.{ToleranceRow}

-- number, first target, last target, permille
abbrev pub row : ℕ → ℕ → ℕ → ℕ → ToleranceRow
row n a b p = record { number = n; first = a; last = b; permille = p }

-- 13 chloride, 19 digoxin, 22 ethanol, 25 glucose, 27 haemoglobin, 35 potassium, 36 creatinine, 43 sodium
abbrev pub tolerances : List ToleranceRow
tolerances =
    row 13 7000 15000 45
    ∷ row 19 50 100 175
    ∷ row 19 101 500 140
    ∷ row 22 20 60 150
    ∷ row 22 61 500 90
    ∷ row 25 4000 40000 110
    ∷ row 27 200 2000 40
    ∷ row 35 200 800 45
    ∷ row 36 50 1000 115
    ∷ row 43 11000 18000 30
    ∷ []

-- the row is for that number, and its range holds the target, both ends included
abbrev pub holds_for : ToleranceRow → ℕ → ℕ → Bool
holds_for r n t = r.number == n && (nat_le r.first t && nat_le t r.last)

-- the row of the table that holds for a number and a target, if there is one
abbrev pub tolerance_for : ℕ → ℕ → Option ToleranceRow
tolerance_for n t = find (λ r. holds_for r n t) tolerances

-- two rows are for different numbers, or the range of one ends before the other's begins
abbrev pub apart : ToleranceRow → ToleranceRow → Bool
apart r q = not (r.number == q.number) || (nat_lt r.last q.first || nat_lt q.last r.first)

abbrev pub all_apart : List ToleranceRow → Bool
all_apart [] = true
all_apart (r ∷ rs) = list_all (apart r) rs && all_apart rs

-- no other row could be meant: each one that holds for the number and the target is the answer
unfoldable pub OnlyRow : List ToleranceRow → ℕ → ℕ → Option ToleranceRow → Type 0
OnlyRow rows n t r = All (λ row. holds_for row n t ≡ true → r ≡ Some row) rows

-- the table has a row of that number
abbrev pub listed : ℕ → Bool
listed n = list_any (λ r. r.number == n) tolerances
