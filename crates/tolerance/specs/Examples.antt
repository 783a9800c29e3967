-- Worked examples of the limit: what an insert states of an assay, with the limit that follows.
-- Assumes nothing.
use Rattle.std.specs.Prelude.{ℕ, List, [], ◌∷◌}
use Rattle.tolerance.specs.declared.examples.WorkedLimit.{WorkedLimit}
use Rattle.tolerance.specs.Limits.{limit_of}

-- table number, target, lower end, upper end, limit
abbrev pub example : ℕ → ℕ → ℕ → ℕ → ℕ → WorkedLimit
example n t a b l = record { number = n; target = t; lower = a; upper = b; limit = l }

abbrev pub worked_limits : List WorkedLimit
worked_limits =
    example 35 400 350 450 18000
    ∷ example 19 100 50 200 17500
    ∷ example 19 101 50 200 14140
    ∷ example 13 6999 6900 7200 99000
    ∷ example 13 7000 6900 7200 100000
    ∷ []

abbrev pub stated_limit : WorkedLimit → ℕ
stated_limit e = e.limit

abbrev pub limit_by_rule : WorkedLimit → ℕ
limit_by_rule e = limit_of e.number e.target e.lower e.upper
