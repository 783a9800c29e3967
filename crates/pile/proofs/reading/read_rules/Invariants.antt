-- The layers that are left, on those that lie there, are what the whole text names.
use Rattle.std.proofs.Common.{◌≡◌, vec_items}
use Rattle.text.specs.PartsLeft.{parts_left}
use Rattle.pile.specs.Reading.{layers_on, rules_in}
use Rattle.pile.proofs.reading.read_rules.Given as goal

abbrev pub invariant-loop-part : goal.invariant-loop-part
invariant-loop-part l = layers_on l.pile.base (vec_items l.pile.layers) (parts_left l.part-iterator) ≡ rules_in l.text
