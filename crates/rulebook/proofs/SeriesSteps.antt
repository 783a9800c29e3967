-- The loop that judges a series from its oldest control to its newest: at `place`, what lies before is as it was, and from
-- there on the verdicts stand.
-- Assumes nothing.
use Rattle.std.proofs.Common.{◌≡◌, ℕ, zero, suc, ◌-◌, ◌<◌, ◌≤◌, min, List, [], ◌∷◌, ◌++◌, length, take, drop, set, ℤ, refl, sym, ap, ◌∙◌, not-suc-le-zero, arith}
use Rattle.std.proofs.lemmas.List.{take-append-drop}
use Rattle.rulebook.specs.declared.verdict.Verdict.{Verdict}
use Rattle.rulebook.specs.Meanings.{Meaning, Unit32, Window32, SameMeaning}
use Rattle.rulebook.specs.Lawful.{Lawful}
use Rattle.rulebook.specs.Series.{series, over}

-- what a lawful rulebook answers of the newest twelve, where it still means m, is what m says of the whole window
pub answered : (m now : Meaning) (unit : ℕ) (window newest : List ℤ) (v : Verdict) → SameMeaning m now → Lawful now → Unit32 unit → Window32 window
    → newest ≡ take 12 window → v ≡ now unit newest → v ≡ m unit window
answered m now unit window newest v same lawful u w n e = e ∙ ap (now unit) n ∙ sym (lawful.newest_twelve unit window u w) ∙ sym (same unit window u w)

over_none : (xs : List Verdict) → over xs [] ≡ []
over_none [] = refl
over_none (x ∷ xs) = refl

module _ (m : Meaning) (unit : ℕ) where
  abbrev pub judged_from : ℕ → List ℤ → List Verdict → List Verdict
  judged_from place es vs = take place vs ++ over (series m unit (drop place es)) (drop place vs)

  -- where the deviations or the places have ended, all is as it was
  pub judged_none : (place : ℕ) (es : List ℤ) (vs : List Verdict) → min (length es) (length vs) ≤ place → vs ≡ judged_from place es vs
  judged_none zero [] vs h = refl
  judged_none zero (e ∷ es) [] h = refl
  judged_none zero (e ∷ es) (v ∷ vs) h = absurd (omega arith)
  judged_none (suc place) [] vs h = sym (take-append-drop (suc place) vs)
  judged_none (suc place) (e ∷ es) [] h = sym (over_none (series m unit (drop place es)))
  judged_none (suc place) (e ∷ es) (v ∷ vs) h = ap (λ t. v ∷ t) (judged_none place es vs (omega arith))

  judged_more : (place : ℕ) (es : List ℤ) (vs : List Verdict) → place < length es → place < length vs
      → set (judged_from (suc place) es vs) place (m unit (drop place es)) ≡ judged_from place es vs
  judged_more zero (e ∷ es) (v ∷ vs) h k = refl
  judged_more (suc place) (e ∷ es) (v ∷ vs) h k = ap (λ t. v ∷ t) (judged_more place es vs (omega arith) (omega arith))
  judged_more place [] vs h k = absurd (not-suc-le-zero h)
  judged_more place (e ∷ es) [] h k = absurd (not-suc-le-zero k)

  -- a turn of the loop
  pub judged_turn : (place : ℕ) (es : List ℤ) (vs written : List Verdict) (v : Verdict) → 0 < place → place ≤ length es → place ≤ length vs
      → written ≡ judged_from place es vs → v ≡ m unit (drop (place - 1) es) → set written (place - 1) v ≡ judged_from (place - 1) es vs
  judged_turn zero es vs written v p b n i e = absurd (omega arith)
  judged_turn (suc place) es vs written v p b n i e =
      let down : suc place - 1 ≡ place = omega arith in
      rw (i, e, down) (judged_more place es vs (omega arith) (omega arith))
