-- The German rule.
-- Assumes nothing.
use Rattle.std.specs.Prelude.{ℕ, if◌then◌else◌, List, ℤ}
use Rattle.rulebook.specs.declared.verdict.Verdict.{Verdict}
use Rattle.rulebook.specs.declared.verdict.Verdict.TheVariants.{Fit, Alarm}
use Rattle.rulebook.specs.Outside.{newest_outside}

-- alarm when the newest is outside three units, else fit
abbrev pub german : ℕ → List ℤ → Verdict
german unit window = if newest_outside 3 unit window then Alarm else Fit
