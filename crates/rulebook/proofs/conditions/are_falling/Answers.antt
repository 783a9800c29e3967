use Rattle.std.proofs.Common.{int_lt, rules}
use Rattle.std.proofs.lemmas.List.Sorted.{answers_always}
use Rattle.rulebook.proofs.Drifting.{from_neighbours}
use Rattle.rulebook.proofs.conditions.are_falling.Goals as goal

pub returns : goal.returns
returns c =
    from_neighbours (λ older newer. int_lt newer older) c.args.newest.now c.is_sorted_by.result
    (c.is_sorted_by.ensures.cases (λ newer older. int_lt newer older) (answers_always _ _ _ (λ f a r g h. search rules)))
