-- What a guideline that is chosen at run time means.
-- Assumes nothing.
use Rattle.rulebook.specs.Meanings.{Meaning}
use Rattle.rulebook.specs.Swiss.{swiss}
use Rattle.rulebook.specs.German.{german}
use Rattle.pile.specs.declared.guideline.Guideline.{Guideline}
use Rattle.pile.specs.declared.guideline.Guideline.TheVariants.{Swiss, German}

abbrev pub guideline_meaning : Guideline → Meaning
guideline_meaning Swiss = swiss
guideline_meaning German = german
