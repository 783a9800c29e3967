use Rattle.std.proofs.Common.{◌∙◌, rules, tests, ap}
use Rattle.text.specs.Numbers.{with_digits}
use Rattle.text.proofs.DigitRuns.{with_digits-from_try_fold}
use Rattle.text.proofs.numbers.with_digits.Goals as goal

pub returns : goal.returns
returns c =
    with_digits-from_try_fold _ _ _ (λ n x r f h. search (rules, tests)) c.iter.result c.try_fold.new.self c.args.value c.try_fold.result c.try_fold.ensures.ran
    ∙ ap (with_digits c.args.value) c.iter.ensures.rest
