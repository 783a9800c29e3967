-- What each refusal of a sheet tells: its number and its row, and what it says in words.
-- Assumes nothing.
use Rattle.std.specs.Prelude.{ℕ, List, codes, Some, None, Ok, Err, Option, Result}
use Rattle.sheet.specs.declared.refusals.Refusal.{Refusal}
use Rattle.sheet.specs.declared.refusals.Refusal.TheVariants.{WrongLength, WrongRowCount, WrongLayout, UnknownTable, WrongRange, WrongName, RepeatedName}

-- what each case tells: its number, and its row, which is 0 for 1 to 3
abbrev pub told : Refusal → ℕ × ℕ
told WrongLength = (1, 0)
told WrongRowCount = (2, 0)
told WrongLayout = (3, 0)
told (UnknownTable row) = (4, row)
told (WrongRange row) = (5, row)
told (WrongName row) = (6, row)
told (RepeatedName row) = (7, row)

-- what is wrong, in words
abbrev pub refusal_words : Refusal → List ℕ
refusal_words WrongLength = codes "under 10 or over 4096 bytes, or not the stated length"
refusal_words WrongRowCount = codes "no rows, or more than 16"
refusal_words WrongLayout = codes "rows or names start in the header, end beyond the sheet, or overlap"
refusal_words (UnknownTable row) = codes "the table number is neither 0 nor in the table"
refusal_words (WrongRange row) = codes "the target is 0, the ends do not enclose it, or the upper end is over 999.99"
refusal_words (WrongName row) =
    codes "the name is not 1 to 12 bytes, lies outside its block, or has a byte other than A to Z and 0 to 9"
refusal_words (RepeatedName row) = codes "an earlier row has that name"

-- what an answer tells of a refusal
abbrev pub refused_with : {T : Type 0} → Result T Refusal → Option (ℕ × ℕ)
refused_with (Ok x) = None
refused_with (Err e) = Some (told e)
