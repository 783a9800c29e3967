-- A layer on a rulebook.
-- Assumes nothing.
use Rattle.std.specs.Prelude.{ℕ, Bool, List, ℤ}
use Rattle.rulebook.specs.declared.verdict.Verdict.{Verdict}
use Rattle.rulebook.specs.declared.layer.Layer.{Layer}
use Rattle.rulebook.specs.Meanings.{Meaning}
use Rattle.rulebook.specs.Conditions.{one_sided, drifting}
use Rattle.rulebook.specs.HouseRules.{counted_level, raised, raised_by}

-- a layer with a condition, a k and a level, on a rulebook of the meaning `below`
abbrev pub layered : (List ℤ → Bool) → ℕ → Verdict → Meaning → Meaning
layered condition k level below unit window = raised condition k level window (below unit window)

-- when the newest k deviations are all above 0 or all below 0
abbrev pub side_layer : ℕ → ℕ → Meaning → Meaning
side_layer k level = layered one_sided k (counted_level level)

-- when the newest k, read from oldest to newest, rise strictly or fall strictly
abbrev pub drift_layer : ℕ → ℕ → Meaning → Meaning
drift_layer k level = layered drifting k (counted_level level)

-- what a layer that is held in a value means, by what its condition and the rulebook below it mean
abbrev pub layer_meaning : {C B : Type 0} → (C → List ℤ → Bool) → (B → Meaning) → Layer C B → Meaning
layer_meaning found meaning s unit window = raised_by found s.rule window (meaning s.below unit window)
