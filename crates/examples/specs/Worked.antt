-- Worked examples: what an insert states of an assay, what is measured and by which rules, and what follows.
-- Assumes nothing.
use Rattle.std.specs.Prelude.{ℕ, List, [], ◌∷◌, ◌++◌, map}
use Rattle.tolerance.specs.declared.examples.WorkedLimit.{WorkedLimit}
use Rattle.tolerance.specs.Examples.{worked_limits}
use Rattle.tolerance.specs.Limits.{limit_of}
use Rattle.rulebook.specs.Verdicts.{severity}
use Rattle.rulebook.specs.Meanings.{Meaning}
use Rattle.rulebook.specs.Swiss.{swiss}
use Rattle.rulebook.specs.German.{german}
use Rattle.rulebook.specs.Layers.{side_layer}
use Rattle.rulebook.specs.Series.{verdicts_of}

-- table number, target, and the two ends of the range
pub record Assay : Type 0 where
  pub table : ℕ
  pub target : ℕ
  pub lower : ℕ
  pub upper : ℕ

abbrev pub assay : ℕ → ℕ → ℕ → ℕ → Assay
assay n t a b = record { table = n; target = t; lower = a; upper = b }

abbrev pub limit_for : Assay → ℕ
limit_for a = limit_of a.table a.target a.lower a.upper

pub data Example : Type 0 where
  -- the assay has that limit
  limit_is : Assay → ℕ → Example
  -- by those rules, these values, one after the other, have those verdicts: 0 fit, 1 warning, 2 alarm
  verdicts_are : Assay → Meaning → List ℕ → List ℕ → Example

abbrev pub stated : Example → List ℕ
stated (limit_is a limit) = limit ∷ []
stated (verdicts_are a rules values verdicts) = verdicts

abbrev pub by_rule : Example → List ℕ
by_rule (limit_is a limit) = limit_for a ∷ []
by_rule (verdicts_are a rules values verdicts) = map severity (verdicts_of rules (limit_for a) a.target values)

-- a worked limit, as an example
abbrev pub limit_example : WorkedLimit → Example
limit_example e = limit_is (assay e.number e.target e.lower e.upper) e.limit

abbrev pub potassium : Assay
potassium = assay 35 400 350 450

abbrev pub worked_examples : List Example
worked_examples =
    -- the limits
    map limit_example worked_limits
    -- a first control, on both sides of two and of three standard deviations
    ++ verdicts_are potassium swiss (412 ∷ []) (0 ∷ [])
    ∷ verdicts_are potassium swiss (413 ∷ []) (1 ∷ [])
    ∷ verdicts_are potassium swiss (418 ∷ []) (1 ∷ [])
    ∷ verdicts_are potassium swiss (419 ∷ []) (2 ∷ [])
    -- two in a row outside two standard deviations, on either side
    ∷ verdicts_are potassium swiss (413 ∷ (387 ∷ [])) (1 ∷ (2 ∷ []))
    ∷ verdicts_are potassium german (413 ∷ (387 ∷ [])) (0 ∷ (0 ∷ []))
    -- five on one side
    ∷ verdicts_are potassium (side_layer 5 2 german) (401 ∷ (401 ∷ (401 ∷ (401 ∷ (401 ∷ []))))) (0 ∷ (0 ∷ (0 ∷ (0 ∷ (2 ∷ [])))))
    ∷ []
