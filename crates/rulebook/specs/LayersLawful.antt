-- A layer on a lawful meaning is lawful. It stands in specs/, since a ghost member takes nothing else of its crate.
-- Assumes nothing.
use Rattle.std.specs.Prelude.{◌≡◌, ℕ, ◌≤◌, Bool, false, List, [], length, take, ℤ, nat_le}
use Rattle.std.proofs.Common.{ap, ◌∙◌, arith}
use Rattle.std.proofs.lemmas.List.{take-take, length-take}
use Rattle.std.proofs.lemmas.Bool.Decides.{nat_tests}
use Rattle.rulebook.specs.declared.verdict.Verdict.{Verdict}
use Rattle.rulebook.specs.declared.verdict.Verdict.TheVariants.{Alarm}
use Rattle.rulebook.specs.Verdicts.{higher}
use Rattle.rulebook.specs.Meanings.{Meaning}
use Rattle.rulebook.specs.Lawful.{Lawful}
use Rattle.rulebook.specs.HouseRules.{counted_k, holds_of_newest, raised}
use Rattle.rulebook.specs.Layers.{layered}

-- nothing is higher than an alarm
higher_alarm : (level : Verdict) → higher level Alarm ≡ Alarm
higher_alarm level = grind (arith, nat_tests)

module _ (condition : List ℤ → Bool) (k : ℕ) (level : Verdict) where
  -- a k counts as at most 12, so that what stands behind the newest twelve is not looked at
  within_twelve : (window : List ℤ) → holds_of_newest condition (counted_k k) window ≡ holds_of_newest condition (counted_k k) (take 12 window)
  within_twelve window =
      let bound : counted_k k ≤ 12 = omega arith in
      let enough : nat_le (counted_k k) (length (take 12 window)) ≡ nat_le (counted_k k) (length window) = simp length-take (grind (arith, nat_tests)) in
      rw (take-take (counted_k k) 12 window bound, enough)

  alarm_stays : (window : List ℤ) → raised condition k level window Alarm ≡ Alarm
  alarm_stays window = grind (arith, nat_tests)

  -- a k counts as at least 5, and there is none
  not_in_empty : holds_of_newest condition (counted_k k) [] ≡ false
  not_in_empty = grind (arith, nat_tests)

  pub layered_lawful : (m : Meaning) → Lawful m → Lawful (layered condition k level m)
  layered_lawful m l =
      record {
        newest_twelve = λ unit window u w. rw (within_twelve window, l.newest_twelve unit window u w);
        empty_fit = λ unit u. rw not_in_empty (l.empty_fit unit u);
        zero_unit = λ window w. ap (raised condition k level window) (l.zero_unit window w);
        outside_alarm = λ unit window u w o. ap (raised condition k level window) (l.outside_alarm unit window u w o) ∙ alarm_stays window;
      }
