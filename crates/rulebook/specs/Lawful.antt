-- What a rulebook owes, over units and deviations of 32 bits.
-- Assumes nothing.
use Rattle.std.specs.Prelude.{◌≡◌, ℕ, true, List, [], take, ℤ}
use Rattle.rulebook.specs.declared.verdict.Verdict.TheVariants.{Fit, Alarm}
use Rattle.rulebook.specs.Meanings.{Meaning, Unit32, Window32}
use Rattle.rulebook.specs.Outside.{newest_outside}

pub record Lawful (m : Meaning) : Type 0 where
  -- only the newest twelve deviations count
  pub newest_twelve : (unit : ℕ) (window : List ℤ) → Unit32 unit → Window32 window → m unit window ≡ m unit (take 12 window)
  -- an empty window is fit
  pub empty_fit : (unit : ℕ) → Unit32 unit → m unit [] ≡ Fit
  -- a unit of 0 is read as 1
  pub zero_unit : (window : List ℤ) → Window32 window → m 0 window ≡ m 1 window
  -- when the newest deviation is outside three units, the verdict is alarm
  pub outside_alarm : (unit : ℕ) (window : List ℤ) → Unit32 unit → Window32 window → newest_outside 3 unit window ≡ true → m unit window ≡ Alarm
