-- What `{:02}` writes of a number below 100: its tens and its ones.
-- Assumes nothing.
use Rattle.std.proofs.Common.{◌≡◌, ℕ, ◌^◌, ◌-◌, ◌<◌, ◌+◌, ◌/◌, ◌%◌, false, [], ◌∷◌, ◌++◌, inl, inr, arith}
use Rattle.std.specs.Fmt.{format_spec, char_count, decimal, padded_integral, styled_decimal}
use Rattle.std.proofs.lemmas.Bool.{cases_lt}
use Rattle.std.proofs.lemmas.Fmt.{decimal_digit, decimal_step}

-- as bytes
two_bytes : (n : ℕ) → n < 100 → padded_integral (format_spec 32 0 4 2 (2 ^ 64 - 1)) false [] (decimal n) ≡ (48 + n / 10) ∷ (48 + n % 10) ∷ []
unfolding padded_integral char_count
two_bytes n small = elim (cases_lt n 10) [
  | inl one ↦ let high : n / 10 ≡ 0 = omega arith in let low : n % 10 ≡ n = omega arith in rw (decimal_digit n one, high, low)
  | inr two ↦ rw (decimal_step n two (omega arith), decimal_digit (n / 10) (omega arith))
]

pub two_digits : (n : ℕ) → styled_decimal (format_spec 32 0 4 2 (2 ^ 64 - 1)) (n % 100) ≡ decimal (n / 10 % 10) ++ decimal (n % 10)
two_digits n =
    let tens : n % 100 / 10 ≡ n / 10 % 10 = omega arith in
    let ones : n % 100 % 10 ≡ n % 10 = omega arith in
    rw (two_bytes (n % 100) (omega arith), decimal_digit (n / 10 % 10) (omega arith), decimal_digit (n % 10) (omega arith), tens, ones)
