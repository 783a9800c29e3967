-- Layers on a base, one on the other.
-- Assumes nothing.
use Rattle.std.specs.Prelude.{List, fold, ℤ, vec_items}
use Rattle.rulebook.specs.declared.verdict.Verdict.{Verdict}
use Rattle.rulebook.specs.Meanings.{Meaning}
use Rattle.pile.specs.declared.choice.LayerChoice.{LayerChoice}
use Rattle.pile.specs.declared.pile.Pile.{Pile}
use Rattle.pile.specs.Choices.{chosen_layer, raised_by}

-- the layers lie on the base, the first of them lowest
abbrev pub piled : List LayerChoice → Meaning → Meaning
piled layers base = fold (λ below layer. chosen_layer layer below) base layers

-- what the layers make of a verdict below them, one after the other
abbrev pub raised_by_all : List LayerChoice → List ℤ → Verdict → Verdict
raised_by_all layers window below = fold (λ verdict layer. raised_by layer window verdict) below layers

-- what a pile that is held in a value means, by what its base means
abbrev pub pile_meaning : {B : Type 0} → (B → Meaning) → Pile B → Meaning
pile_meaning meaning p = piled (vec_items p.layers) (meaning p.base)
