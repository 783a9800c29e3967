-- Bytes of A to Z and 0 to 9 are text.
-- Assumes nothing.
use Rattle.std.proofs.Common.{◌≡◌, ℕ, zero, suc, false, List, [], ◌∷◌, arith}
use Rattle.std.specs.Prelude.{IsAscii, IsUtf8}
use Rattle.std.proofs.lemmas.Bool.Decides.{nat_tests}
use Rattle.std.proofs.lemmas.Str.{IsUtf8-from_ascii}
use Rattle.sheet.specs.Names.{has_other_byte}

all_ascii : (bs : List ℕ) → has_other_byte bs ≡ false → IsAscii bs
all_ascii [] e i = omega arith
all_ascii (b ∷ bs) e zero = grind (arith, nat_tests)
all_ascii (b ∷ bs) e (suc i) = all_ascii bs (grind (arith, nat_tests)) i

pub name_is_text : (bs : List ℕ) → has_other_byte bs ≡ false → IsUtf8 bs
name_is_text bs e = IsUtf8-from_ascii bs (all_ascii bs e)
