-- What the program says of a sheet: of an accepted one a text of its own, of a refused one its refusal.
-- Assumes nothing.
use Rattle.std.specs.Prelude.{◌≡◌, ℕ, List, MatchOption}
use Rattle.sheet.specs.declared.refusals.Refusal.{Refusal}
use Rattle.sheet.specs.Refusals.{told, refusal_words}
use Rattle.sheet.specs.Acceptance.{refusal_of}
use Rattle.nivzolda.specs.Lines.{refused_line}

-- the text is the line of the refusal with that number and row
abbrev pub TellsRefusal : List ℕ → ℕ × ℕ → Type 0
TellsRefusal text refused = (e : Refusal) × ((told e ≡ refused) × (text ≡ refused_line refused (refusal_words e)))

-- the text that is printed of a sheet, with what is said where it is accepted
abbrev pub Reports : List ℕ → List ℕ → List ℕ → Type 0
Reports s accepted text = MatchOption (refusal_of s) (text ≡ accepted) (TellsRefusal text)
