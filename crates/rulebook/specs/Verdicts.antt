-- The three verdicts, their numbers and their words.
-- Assumes nothing.
use Rattle.std.specs.Prelude.{ℕ, if◌then◌else◌, nat_lt, List, codes}
use Rattle.rulebook.specs.declared.verdict.Verdict.{Verdict}
use Rattle.rulebook.specs.declared.verdict.Verdict.TheVariants.{Fit, Warning, Alarm}

-- the number of a verdict: the higher, the graver
abbrev pub severity : Verdict → ℕ
severity Fit = 0
severity Warning = 1
severity Alarm = 2

abbrev pub higher : Verdict → Verdict → Verdict
higher a b = if nat_lt (severity a) (severity b) then b else a

-- how a verdict is printed
abbrev pub verdict_word : Verdict → List ℕ
verdict_word Fit = codes "fit"
verdict_word Warning = codes "warning"
verdict_word Alarm = codes "alarm"
