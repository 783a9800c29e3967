-- A pile named by a text: a guideline and layers on top, lowest first, joined by `+`. A layer is its name, its k and its level,
-- joined by `:`.
-- Assumes nothing.
use Rattle.std.specs.Prelude.{◌≡◌, ℕ, if◌then◌else◌, List, [], ◌∷◌, ◌++◌, Some, None, Ok, Err, vec_items, codes, Option, Result}
use Rattle.std.specs.Str.{bytes_eq}
use Rattle.text.specs.Parts.{parts, placed}
use Rattle.text.specs.Numbers.{number_in}
use Rattle.pile.specs.declared.guideline.Guideline.{Guideline}
use Rattle.pile.specs.declared.guideline.Guideline.TheVariants.{Swiss, German}
use Rattle.pile.specs.declared.choice.LayerKind.{LayerKind}
use Rattle.pile.specs.declared.choice.LayerKind.TheVariants.{Side, Drift}
use Rattle.pile.specs.declared.choice.LayerChoice.{LayerChoice}
use Rattle.pile.specs.declared.pile.Pile.{Pile}
use Rattle.pile.specs.declared.reasons.RulesError.{RulesError}
use Rattle.pile.specs.declared.reasons.RulesError.TheVariants.{Wrong, NoMemory}
use Rattle.pile.specs.declared.reasons.Reason.{Reason}
use Rattle.pile.specs.declared.reasons.Reason.TheVariants.{UnknownGuideline, WrongFields, UnknownLayer, WrongK, WrongLevel}

abbrev pub guideline_named : List ℕ → Option Guideline
guideline_named name =
    if bytes_eq name (codes "swiss") then Some Swiss
    else if bytes_eq name (codes "german") then Some German
    else None

abbrev pub kind_named : List ℕ → Option LayerKind
kind_named name =
    if bytes_eq name (codes "side") then Some Side
    else if bytes_eq name (codes "drift") then Some Drift
    else None

-- a kind, a k and a level; the first that is missing is told
abbrev pub chosen : Option LayerKind → Option ℕ → Option ℕ → Result LayerChoice Reason
chosen None n l = Err UnknownLayer
chosen (Some d) None l = Err WrongK
chosen (Some d) (Some n) None = Err WrongLevel
chosen (Some d) (Some n) (Some l) = Ok (record { kind = d; k = n; level = l })

-- a layer has just three fields
abbrev pub layer_from : List (List ℕ) → Result LayerChoice Reason
layer_from [] = Err WrongFields
layer_from (name ∷ []) = Err WrongFields
layer_from (name ∷ (n ∷ [])) = Err WrongFields
layer_from (name ∷ (n ∷ (l ∷ []))) = chosen (kind_named name) (number_in n) (number_in l)
layer_from (name ∷ (n ∷ (l ∷ (fourth ∷ more)))) = Err WrongFields

-- `:` is 58
abbrev pub layer_in : List ℕ → Result LayerChoice Reason
layer_in part = layer_from (parts 58 part)

-- what a text names: a guideline and the layers on it, lowest first; or the place of the first part that is wrong, and why
abbrev pub Rules : Type 0
Rules = Result (Guideline × List LayerChoice) (ℕ × Reason)

abbrev pub laid : Result LayerChoice Reason → ℕ → (LayerChoice → Rules) → Rules
laid (Ok layer) place on = on layer
laid (Err reason) place on = Err (place, reason)

-- the layers that the parts name, on those that are there
abbrev pub layers_on : Guideline → List LayerChoice → List (ℕ × List ℕ) → Rules
layers_on base layers [] = Ok (base, layers)
layers_on base layers ((place, part) ∷ more) = laid (layer_in part) place (λ layer. layers_on base (layers ++ (layer ∷ [])) more)

abbrev pub on_base : Option Guideline → ℕ → List (ℕ × List ℕ) → Rules
on_base None place more = Err (place, UnknownGuideline)
on_base (Some base) place more = layers_on base [] more

abbrev pub rules_from : List (ℕ × List ℕ) → Rules
rules_from [] = Err (0, UnknownGuideline)
rules_from ((place, first) ∷ more) = on_base (guideline_named first) place more

-- `+` is 43
abbrev pub rules_in : List ℕ → Rules
rules_in text = rules_from (placed 0 (parts 43 text))

-- the answer is what the text names; of want of memory nothing is said
abbrev pub ReadAs : Rules → Result (Pile Guideline) RulesError → Type 0
ReadAs rules (Ok pile) = rules ≡ Ok (pile.base, vec_items pile.layers)
ReadAs rules (Err (Wrong place reason)) = rules ≡ Err (place, reason)
ReadAs rules (Err NoMemory) = Unit {0}
