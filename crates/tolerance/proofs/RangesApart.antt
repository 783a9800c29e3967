-- Where the ranges of each number are apart, at most one row holds for a number and a target.
-- Assumes nothing.
use Rattle.std.proofs.Common.{◌≡◌, ℕ, zero, suc, true, false, List, [], ◌∷◌, Some, Option, find, ◌∙◌, arith}
use Rattle.std.specs.List.{All, list_all, slice_index_or}
use Rattle.std.proofs.lemmas.Bool.{cond-true, cond-false, and_parts}
use Rattle.std.proofs.lemmas.Bool.Decides.{nat_tests}
use Rattle.std.proofs.lemmas.List.Sums.{AllPass-from_list_all}
use Rattle.tolerance.specs.declared.table.ToleranceRow.{ToleranceRow}
use Rattle.tolerance.specs.Table.{holds_for, apart, all_apart, OnlyRow}

module _ (n t : ℕ) where
  not_both : (r q : ToleranceRow) → apart r q ≡ true → holds_for q n t ≡ true → holds_for r n t ≡ false
  not_both r q a h = grind (arith, nat_tests)

  -- a row in front that is apart from the others does not hide them
  only_one : (rs : List ToleranceRow) → all_apart rs ≡ true → All (λ row. holds_for row n t ≡ true → find (λ r. holds_for r n t) rs ≡ Some row) rs
  only_one [] a k d h e = absurd (omega arith)
  only_one (r ∷ rs) a zero d h e = cond-true (holds_for r n t) (Some r) (find (λ q. holds_for q n t) rs) e
  only_one (r ∷ rs) a (suc k) d h e =
      let p = and_parts (list_all (apart r) rs) (all_apart rs) a in
      cond-false (holds_for r n t) (Some r) (find (λ q. holds_for q n t) rs) (not_both r (slice_index_or rs k d) (AllPass-from_list_all (apart r) rs p.0 k d (omega arith)) e)
      ∙ only_one rs p.1 k d (omega arith) e

  pub only_row : (rs : List ToleranceRow) (r : Option ToleranceRow) → r ≡ find (λ q. holds_for q n t) rs → all_apart rs ≡ true → OnlyRow rs n t r
  unfolding OnlyRow
  only_row rs r e a = rw e (only_one rs a)
