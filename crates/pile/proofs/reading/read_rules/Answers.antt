use Rattle.std.proofs.Common.{Some, None, Option, IsSome, MatchOption, refl, sym, ◌∙◌}
use Rattle.text.proofs.PlacedParts.{some_part}
use Rattle.pile.proofs.reading.read_rules.Goals as goal

some_given : {A : Type 0} (P : Type 0) (Q : A → Type 0) (r : Option A) → MatchOption r P Q → (P → ⊥) → IsSome r
some_given P Q None h some = absurd (some h)
some_given P Q (Some part) h some = refl

pub unwrap-first-requires : goal.unwrap-first-requires
unwrap-first-requires c = some_given _ _ c.next.result c.next.ensures.steps (λ none. some_part 43 0 c.args.text.now (sym c.new-parts.ensures ∙ none.0))
