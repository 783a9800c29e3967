-- A layer chosen at run time means what the static layer of its kind means.
-- Assumes nothing.
use Rattle.std.specs.Prelude.{ℕ, Bool, List, ℤ}
use Rattle.rulebook.specs.declared.verdict.Verdict.{Verdict}
use Rattle.rulebook.specs.Conditions.{one_sided, drifting}
use Rattle.rulebook.specs.HouseRules.{counted_level, raised}
use Rattle.rulebook.specs.Layers.{side_layer, drift_layer}
use Rattle.rulebook.specs.Meanings.{Meaning}
use Rattle.pile.specs.declared.choice.LayerKind.{LayerKind}
use Rattle.pile.specs.declared.choice.LayerKind.TheVariants.{Side, Drift}
use Rattle.pile.specs.declared.choice.LayerChoice.{LayerChoice}

-- which kind, with which k and level, on which rulebook
abbrev pub layer_of_kind : LayerKind → ℕ → ℕ → Meaning → Meaning
layer_of_kind Side = side_layer
layer_of_kind Drift = drift_layer

abbrev pub chosen_layer : LayerChoice → Meaning → Meaning
chosen_layer c = layer_of_kind c.kind c.k c.level

-- the same, of one verdict below
abbrev pub condition_of_kind : LayerKind → List ℤ → Bool
condition_of_kind Side = one_sided
condition_of_kind Drift = drifting

abbrev pub raised_by : LayerChoice → List ℤ → Verdict → Verdict
raised_by c = raised (condition_of_kind c.kind) c.k (counted_level c.level)
