-- The parts of a text between separators.
-- Assumes nothing.
use Rattle.std.specs.Prelude.{◌≡◌, ℕ, ◌+◌, min, List, [], ◌∷◌, length, drop, Option, MatchOption, position, unwrap_or, ◌==◌}
use Rattle.std.specs.Borrow.{Bor}
use Rattle.std.specs.List.{slice_split}

-- what stands between the separators: one part more than there are separators
abbrev pub parts : ℕ → List ℕ → List (List ℕ)
parts sep text = slice_split (λ b. b == sep) text

-- cut at the first separator: the first part, and the rest with all other parts; nothing where there is one part only
abbrev pub SplitOnce : ℕ → List ℕ → Option (Bor (List ℕ) × Bor (List ℕ)) → Type 0
SplitOnce sep text r = MatchOption r (parts sep text ≡ (text ∷ [])) (λ x. parts sep text ≡ (x.0.now ∷ parts sep x.1.now))

-- the parts, each with its place: the first stands at a place, each other one behind the separator that ends the one before
abbrev pub placed : ℕ → List (List ℕ) → List (ℕ × List ℕ)
placed place [] = []
placed place (part ∷ more) = (place, part) ∷ placed (place + length part + 1) more

-- how many bytes stand before the first separator; all of them where there is none
abbrev pub before : ℕ → List ℕ → ℕ
before sep text = unwrap_or (position (λ b. b == sep) text) (length text)

-- where the part that starts at a place ends: at the next separator, or where the text ends
abbrev pub part_end : ℕ → List ℕ → ℕ → ℕ
part_end sep text start = min start (length text) + before sep (drop (min start (length text)) text)
