use Rattle.std.proofs.Common.{arith}
use Rattle.std.proofs.lemmas.List.{length-replicate}
use Rattle.nivzolda.proofs.SeriesOver.{take_over, length-series}
use Rattle.nivzolda.proofs.control_series.verdicts.Goals as goal

pub returns : goal.returns
returns g c = grind (arith, take_over, length-series, length-replicate, c.in_ok-verdicts.ensures.items_if_clones_equal (λ y e. e))
