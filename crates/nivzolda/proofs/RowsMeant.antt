-- The row that an argument means is a row of the sheet.
-- Assumes nothing.
use Rattle.std.proofs.Common.{◌≡◌, ℕ, Bool, true, ◌<◌, List, [], ◌∷◌, Some, find, arith}
use Rattle.std.proofs.lemmas.Grind.{common_steps}
use Rattle.std.specs.List.{range_with_len}
use Rattle.sheet.specs.Reader.{row_count}
use Rattle.nivzolda.specs.Assays.{is_named, row_named, row_meant}

-- what is found passes the test
found_passes : {X : Type 0} (test : X → Bool) (xs : List X) (x : X) → find test xs ≡ Some x → test x ≡ true
found_passes test [] x e = grind arith
found_passes test (y ∷ ys) x e = grind (arith, found_passes test ys x)

named_is_there : (s name : List ℕ) (k : ℕ) → row_named s name ≡ Some k → k < row_count s
named_is_there s name k e = grind (arith, common_steps, found_passes (is_named s name) (range_with_len 0 (row_count s)) k e)

pub row_is_there : (s assay : List ℕ) (k : ℕ) → row_meant s assay ≡ Some k → k < row_count s
row_is_there s [] k e = named_is_there s [] k e
row_is_there s (b ∷ bs) k e = grind (arith, common_steps, named_is_there s (b ∷ bs) k)
