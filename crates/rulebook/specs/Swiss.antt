-- The Swiss rule.
-- Assumes nothing.
use Rattle.std.specs.Prelude.{ℕ, if◌then◌else◌, ◌||◌, List, ℤ}
use Rattle.rulebook.specs.declared.verdict.Verdict.{Verdict}
use Rattle.rulebook.specs.declared.verdict.Verdict.TheVariants.{Fit, Warning, Alarm}
use Rattle.rulebook.specs.Outside.{newest_outside, newest_two_outside}

-- alarm when the newest is outside three units, or the newest two are both outside two, on either side;
-- else warning when the newest is outside two; else fit
abbrev pub swiss : ℕ → List ℤ → Verdict
swiss unit window =
    if newest_outside 3 unit window || newest_two_outside 2 unit window then Alarm else (if newest_outside 2 unit window then Warning else Fit)
