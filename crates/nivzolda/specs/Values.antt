-- A value of a control, in hundredths of the assay's unit, and how it is written.
-- Assumes nothing.
use Rattle.std.specs.Prelude.{ℕ, cond, List, codes, Some, None, Option, option_and_then, nat_le}
use Rattle.text.specs.Numbers.{hundredths_in}

-- a value goes from 0 to 99,999
abbrev pub value_of : ℕ → Option ℕ
value_of n = cond (nat_le n 99999) (Some n) None

-- the value that a text says: a number with at most two decimals, in range
abbrev pub value_in : List ℕ → Option ℕ
value_in text = option_and_then value_of (hundredths_in text)

-- what is said of a word that says no value
abbrev pub no_value_words : List ℕ
no_value_words = codes "no value from 0 to 999.99 with at most two decimals"
