-- A house rule never lowers a verdict, so a layer is never milder than what it lies on.
-- Assumes nothing.
use Rattle.std.proofs.Common.{ℕ, Bool, List, ℤ, arith}
use Rattle.std.proofs.lemmas.Bool.Decides.{nat_tests}
use Rattle.rulebook.specs.declared.verdict.Verdict.{Verdict}
use Rattle.rulebook.specs.Meanings.{Meaning, NeverMilder}
use Rattle.rulebook.specs.Layers.{layered}

pub layered_never_milder : (condition : List ℤ → Bool) (k : ℕ) (level : Verdict) (m : Meaning) → NeverMilder (layered condition k level m) m
layered_never_milder condition k level m unit window u w = grind (arith, nat_tests)
