-- Numbers in decimal digits, and values with up to two decimals.
-- Assumes nothing.
use Rattle.std.specs.Prelude.{ℕ, ◌+◌, ◌-◌, ◌*◌, ◌^◌, if◌then◌else◌, ◌&&◌, List, [], ◌∷◌, codes, Some, None, Option, option_and_then, nat_lt}
use Rattle.std.specs.Char.{is_ascii_digit}
use Rattle.text.specs.Parts.{parts}

-- one digit behind a number; none where the byte is no digit, or the number would pass 32 bits
abbrev pub with_digit : ℕ → ℕ → Option ℕ
with_digit n b = if is_ascii_digit b && nat_lt (10 * n + (b - 48)) (2 ^ 32) then Some (10 * n + (b - 48)) else None

-- the digits behind a number, one after the other
abbrev pub with_digits : ℕ → List ℕ → Option ℕ
with_digits n [] = Some n
with_digits n (b ∷ bs) = option_and_then (λ m. with_digits m bs) (with_digit n b)

-- a number of 32 bits: decimal digits and nothing else, at least one
abbrev pub number_in : List ℕ → Option ℕ
number_in [] = None
number_in (b ∷ bs) = with_digits 0 (b ∷ bs)

-- up to two decimals, filled up with zeros
abbrev pub two_decimals_on : ℕ → List ℕ → Option ℕ
two_decimals_on n [] = None
two_decimals_on n (a ∷ []) = with_digits n (a ∷ codes "0")
two_decimals_on n (a ∷ (b ∷ [])) = with_digits n (a ∷ (b ∷ []))
two_decimals_on n (a ∷ (b ∷ (c ∷ more))) = None

-- a value in hundredths: a number, or a number, a point and one or two digits
abbrev pub hundredths_from : List (List ℕ) → Option ℕ
hundredths_from [] = None
hundredths_from (whole ∷ []) = option_and_then (λ n. with_digits n (codes "00")) (number_in whole)
hundredths_from (whole ∷ (decimals ∷ [])) = option_and_then (λ n. two_decimals_on n decimals) (number_in whole)
hundredths_from (whole ∷ (decimals ∷ (third ∷ more))) = None

-- `.` is 46
abbrev pub hundredths_in : List ℕ → Option ℕ
hundredths_in text = hundredths_from (parts 46 text)
