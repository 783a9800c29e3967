-- Parts with their places are the parts.
-- Assumes nothing.
use Rattle.std.proofs.Common.{◌≡◌, ℕ, ◌+◌, List, [], ◌∷◌, length, map, refl, sym, ap, ◌∙◌, arith}
use Rattle.std.proofs.lemmas.List.Splits.{length-slice_split}
use Rattle.std.specs.Bool.{◌==◌}
use Rattle.text.specs.Parts.{parts, placed}

pub texts_of_placed : (place : ℕ) (texts : List (List ℕ)) → map (λ part. part.1) (placed place texts) ≡ texts
texts_of_placed place [] = refl
texts_of_placed place (text ∷ more) = ap (λ others. text ∷ others) (texts_of_placed (place + length text + 1) more)

-- each text has a first part
pub some_part : (sep place : ℕ) (text : List ℕ) → placed place (parts sep text) ≡ [] → ⊥
some_part sep place text none =
    let no_part : length (parts sep text) ≡ 0 = ap length (sym (texts_of_placed place (parts sep text)) ∙ ap (map (λ part. part.1)) none) in
    omega (arith, length-slice_split (λ b. b == sep) text)
