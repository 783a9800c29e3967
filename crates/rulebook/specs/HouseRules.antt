-- A rule of the house's own, with a condition, a k and a level: what it makes of the verdict below it.
-- Assumes nothing.
use Rattle.std.specs.Prelude.{ℕ, min, max, Bool, if◌then◌else◌, ◌&&◌, List, length, take, ℤ, ◌==◌, nat_le}
use Rattle.rulebook.specs.declared.verdict.Verdict.{Verdict}
use Rattle.rulebook.specs.declared.verdict.Verdict.TheVariants.{Warning, Alarm}
use Rattle.rulebook.specs.declared.house_rule.HouseRule.{HouseRule}
use Rattle.rulebook.specs.Verdicts.{higher}

-- a k below 5 counts as 5, above 12 as 12
abbrev pub counted_k : ℕ → ℕ
counted_k k = min 12 (max 5 k)

-- a level is 1 or 2; any other number counts as 1
abbrev pub counted_level : ℕ → Verdict
counted_level level = if level == 2 then Alarm else Warning

-- there are k deviations, and the condition holds of the newest k
abbrev pub holds_of_newest : (List ℤ → Bool) → ℕ → List ℤ → Bool
holds_of_newest condition k window = nat_le k (length window) && condition (take k window)

-- the level, or the verdict below when that is higher;
-- with fewer than k deviations, or when the condition fails, the verdict below
abbrev pub raised : (List ℤ → Bool) → ℕ → Verdict → List ℤ → Verdict → Verdict
raised condition k level window below = if holds_of_newest condition (counted_k k) window then higher level below else below

abbrev pub house_rule : {C : Type 0} → C → ℕ → ℕ → HouseRule C
house_rule c n level = record { condition = c; k = n; level = counted_level level }

-- the same, of a rule that is held in a value; `found` is what its condition means
abbrev pub raised_by : {C : Type 0} → (C → List ℤ → Bool) → HouseRule C → List ℤ → Verdict → Verdict
raised_by found rule = raised (found rule.condition) rule.k rule.level
