use Rattle.std.proofs.Common.{sym, ap, ◌∙◌}
use Rattle.text.specs.Numbers.{hundredths_from}
use Rattle.text.proofs.Points.{decimals_behind}
use Rattle.text.proofs.numbers.hundredths.Goals as goal

pub returns-in_ok-number-in-Some : goal.returns-in_ok-number-in-Some
returns-in_ok-number-in-Some c =
    let behind = decimals_behind c.in_ok-number-in-Some.field-0 c.in-Some.whole.now (sym c.number.ensures ∙ c.in_ok-number-in-Some.was) c.in-Some.decimals.now in
    let cut = ap hundredths_from c.in-Some.ensures.cut in
    cc
