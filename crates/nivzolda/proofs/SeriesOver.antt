-- Verdicts written over as many places.
-- Assumes nothing.
use Rattle.std.proofs.Common.{◌≡◌, ℕ, suc, List, [], ◌∷◌, ◌++◌, length, take, ℤ, refl, ap, arith}
use Rattle.std.proofs.lemmas.List.{take_at}
use Rattle.rulebook.specs.Meanings.{Meaning}
use Rattle.rulebook.specs.Series.{series, over}

-- as many as places take all of them
over_all : {X : Type 0} (xs places : List X) → length xs ≡ length places → over xs places ≡ xs
over_all [] [] h = refl
over_all [] (p ∷ ps) h = absurd (omega arith)
over_all (x ∷ xs) [] h = absurd (omega arith)
over_all (x ∷ xs) (p ∷ ps) h = ap (λ t. x ∷ t) (over_all xs ps (omega arith))

-- so they are what the places hold
pub take_over : {X : Type 0} (xs places rest : List X) (n : ℕ) → length xs ≡ length places → n ≡ length places → take n (over xs places ++ rest) ≡ xs
take_over xs places rest n e m = rw (over_all xs places e) (take_at xs rest n (omega arith))

pub length-series : (m : Meaning) (unit : ℕ) (es : List ℤ) → length (series m unit es) ≡ length es
length-series m unit [] = refl
length-series m unit (e ∷ es) = ap suc (length-series m unit es)
