-- What an iterator over the parts of a text has left to give.
-- Assumes nothing.
use Rattle.std.specs.Prelude.{ℕ, List, []}
use Rattle.std.specs.Option.{option_map_or}
use Rattle.text.specs.declared.parts.Part.{Part}
use Rattle.text.specs.declared.parts.Parts.{Parts}
use Rattle.text.specs.Parts.{parts, placed}

-- a part and its place
abbrev pub place_and_bytes : Part → ℕ × List ℕ
place_and_bytes part = (part.place, part.bytes.now)

-- the parts of what is left of the text, each with its place; none where the last part is given
abbrev pub parts_left : Parts → List (ℕ × List ℕ)
parts_left p = option_map_or (λ rest. placed p.place (parts p.separator rest.now)) p.rest []
