use Rattle.std.proofs.Common.{◌≡◌, ℕ, List, [], ◌∷◌, ◌++◌, ◌⊎◌, sym, ◌∙◌, arith}
use Rattle.std.proofs.lemmas.List.{append-nil}
use Rattle.std.proofs.lemmas.Slice.Zip.{either_empty_from_Zip}
use Rattle.rulebook.specs.declared.verdict.Verdict.{Verdict}
use Rattle.nivzolda.specs.Lines.{judged_lines}
use Rattle.nivzolda.proofs.judged.judged_lines.Goals as goal

-- where no value is left, or no verdict, there is no further line
ended : (text whole values : List ℕ) (verdicts : List Verdict) → text ++ judged_lines values verdicts ≡ whole → (values ≡ []) ⊎ (verdicts ≡ []) → text ≡ whole
ended text whole [] verdicts kept end = sym (append-nil text) ∙ kept
ended text whole (v ∷ vs) [] kept end = sym (append-nil text) ∙ kept
ended text whole (v ∷ vs) (w ∷ ws) kept end = grind (arith, end)

pub returns : goal.returns
returns c = ended _ _ _ _ c.loop-value.invariant (either_empty_from_Zip c.loop-value.value-iterator c.next.new.self _ c.in-None.is c.next.ensures.steps)
