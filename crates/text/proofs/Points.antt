-- Where a second point stands among the decimals, there is no value.
-- Assumes nothing.
use Rattle.std.proofs.Common.{◌≡◌, ◌⊎◌, inl, inr, ℕ, zero, suc, ◌<◌, ◌≤◌, true, eqb, List, [], ◌∷◌, length, get_or, None, Some, Option, refl, sym, ap, ◌∙◌, subst, option_and_then, arith}
use Rattle.std.specs.List.{position_or_len, before_first, after_first, slice_split}
use Rattle.std.proofs.lemmas.Bool.{cases_lt, eqb-true}
use Rattle.std.proofs.lemmas.List.Splits.{length-slice_split, slice_split_first, slice_split_none}
use Rattle.std.proofs.lemmas.List.Sums.{fails_before_first, passes_at_first}
use Rattle.text.specs.Parts.{parts}
use Rattle.text.specs.Numbers.{with_digit, number_in, two_decimals_on, hundredths_from}

none_then : (f : ℕ → Option ℕ) (o : Option ℕ) → ((m : ℕ) → f m ≡ None) → option_and_then f o ≡ None
none_then f None h = refl
none_then f (Some m) h = h m

-- a point is no digit
no_digit : (n b : ℕ) → eqb b 46 ≡ true → with_digit n b ≡ None
no_digit n b e = let P : ℕ → Type 0 = λ d. with_digit n d ≡ None in subst P (sym (eqb-true b 46 e)) refl

point_among : (n : ℕ) (decimals : List ℕ) (k : ℕ) → k < length decimals → eqb (get_or decimals k 0) 46 ≡ true → two_decimals_on n decimals ≡ None
point_among n [] k h e = refl
point_among n (a ∷ []) zero h e = ap (option_and_then _) (no_digit n a e)
point_among n (a ∷ []) (suc k) h e = absurd (omega arith)
point_among n (a ∷ (b ∷ [])) zero h e = ap (option_and_then _) (no_digit n a e)
point_among n (a ∷ (b ∷ [])) (suc zero) h e = none_then _ (with_digit n a) (λ m. ap (option_and_then _) (no_digit m b e))
point_among n (a ∷ (b ∷ [])) (suc (suc k)) h e = absurd (omega arith)
point_among n (a ∷ (b ∷ (c ∷ more))) k h e = refl

module _ (n : ℕ) (whole : List ℕ) (told : number_in whole ≡ Some n) where
  third_part : (decimals : List ℕ) (more : List (List ℕ)) → 0 < length more → hundredths_from (whole ∷ (decimals ∷ more)) ≡ None
  third_part decimals [] h = absurd (omega arith)
  third_part decimals (third ∷ more) h = refl

  point_or_none : (decimals : List ℕ) → (position_or_len (λ b. eqb b 46) decimals < length decimals) ⊎ (length decimals ≤ position_or_len (λ b. eqb b 46) decimals)
      → hundredths_from (whole ∷ parts 46 decimals) ≡ two_decimals_on n decimals
  point_or_none decimals (inl h) =
      let is_point = λ (b : ℕ). eqb b 46 in
      let more = length-slice_split is_point (after_first is_point decimals) in
      ap (λ p. hundredths_from (whole ∷ p)) (slice_split_first is_point decimals 0 h)
      ∙ third_part (before_first is_point decimals) (slice_split is_point (after_first is_point decimals)) (omega arith)
      ∙ sym (point_among n decimals _ h (passes_at_first is_point decimals 0 h))
  point_or_none decimals (inr h) =
      ap (λ p. hundredths_from (whole ∷ p)) (slice_split_none (λ b. eqb b 46) decimals (λ k d l. fails_before_first (λ b. eqb b 46) decimals k d (omega arith)))
      ∙ ap (option_and_then _) told

  -- the parts behind the first point are the decimals
  pub decimals_behind : (decimals : List ℕ) → hundredths_from (whole ∷ parts 46 decimals) ≡ two_decimals_on n decimals
  decimals_behind decimals = point_or_none decimals (cases_lt _ _)
