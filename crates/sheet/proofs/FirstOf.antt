-- A chain of tests, each beside its number: the first that holds.
-- Assumes nothing.
use Rattle.std.proofs.Common.{◌≡◌, ℕ, zero, suc, Bool, true, false, List, [], ◌∷◌, get_or, take, Some, None, refl, arith}
use Rattle.std.specs.List.{AllByRecursion}
use Rattle.sheet.specs.Acceptance.{first_of, at_row}

abbrev pub Fails : Bool × ℕ → Type 0
Fails t = false ≡ t.0

module _ (k : ℕ) where
  -- the test at place i holds, and none before it
  pub refused_at : (i : ℕ) (ts : List (Bool × ℕ)) → AllByRecursion Fails (take i ts) → true ≡ (get_or ts i (false, 0)).0
      → Some ((get_or ts i (false, 0)).1, k) ≡ at_row k (first_of ts)
  refused_at i [] f e = let z : ◌≡◌ {A = ℕ} 0 1 = cc in absurd (omega arith)
  refused_at zero (t ∷ ts) f e = rw (← e)
  refused_at (suc i) (t ∷ ts) f e = rw (← f.0) (refused_at i ts f.1 e)

  -- no test holds
  pub passed_all : (ts : List (Bool × ℕ)) → AllByRecursion Fails ts → None ≡ at_row k (first_of ts)
  passed_all [] f = refl
  passed_all (t ∷ ts) f = rw (← f.0) (passed_all ts f.1)

  -- where nothing is refused, no test holds
  pub all_passed : (ts : List (Bool × ℕ)) → None ≡ at_row k (first_of ts) → AllByRecursion Fails ts
  all_passed [] h = tt
  all_passed ((true, n) ∷ ts) h = let z : ◌≡◌ {A = ℕ} 0 1 = cc in absurd (omega arith)
  all_passed ((false, n) ∷ ts) h = (refl, all_passed ts h)
