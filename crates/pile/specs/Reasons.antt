-- Why the text of a pile is refused, in words.
-- Assumes nothing.
use Rattle.std.specs.Prelude.{ℕ, List, ◌++◌, codes, decimal}
use Rattle.pile.specs.declared.reasons.Reason.{Reason}
use Rattle.pile.specs.declared.reasons.Reason.TheVariants.{UnknownGuideline, WrongFields, UnknownLayer, WrongK, WrongLevel}
use Rattle.pile.specs.declared.reasons.RulesError.{RulesError}
use Rattle.pile.specs.declared.reasons.RulesError.TheVariants.{Wrong, NoMemory}

abbrev pub reason_text : Reason → List ℕ
reason_text UnknownGuideline = codes "the guideline is neither swiss nor german"
reason_text WrongFields = codes "a layer is written NAME:K:LEVEL"
reason_text UnknownLayer = codes "the layer is neither side nor drift"
reason_text WrongK = codes "K is not a number"
reason_text WrongLevel = codes "LEVEL is not a number"

abbrev pub error_text : RulesError → List ℕ
error_text (Wrong place reason) = codes "at " ++ (decimal place ++ (codes ": " ++ reason_text reason))
error_text NoMemory = codes "no memory"
