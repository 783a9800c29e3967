-- What a run over digits gives, where each call adds one digit to a number.
-- Assumes nothing.
use Rattle.std.proofs.Common.{◌≡◌, ℕ, List, [], ◌∷◌, Some, None, Option, Iter, Bor, sym, ap, ◌∙◌, subst, option_and_then}
use Rattle.std.proofs.iter.Yields.{fronts}
use Rattle.std.proofs.lemmas.List.{nil_from_length}
use Rattle.std.specs.ControlFlow.{continue_value}
use Rattle.std.specs.Fn.{Called}
use denote.Param.Members.{Mut}
use Rattle.std.specs.Iterator.{TryFoldTurn, TryFoldsItems, Yields}
use Rattle.std.specs.List.{FoldsTo}
use Rattle.text.specs.Numbers.{with_digit, with_digits}

module _ (E : Type 0) {F : Type 0} (g : Mut F (ℕ × (Bor ℕ × Unit {0})) (Option ℕ)) (f : F)
    (adds : (n : ℕ) (digit : Bor ℕ) (r : Option ℕ) (f' : F) → Called g f (n, (digit, tt)) r f' → (f' ≡ f) × (r ≡ with_digit n digit.now)) where
  -- the calls that go on leave the closure as it was, and what follows gives the same
  run_of_digits : (xs : List (Bor ℕ)) (s t : Iter ℕ) (n m : ℕ) (f' : F) → Yields fronts s xs t → FoldsTo {P = F × ℕ} (TryFoldTurn {E = E} g (λ r b. r ≡ continue_value b)) (f, n) xs (f', m)
      → (f' ≡ f) × (with_digits n s.rest.now ≡ with_digits m t.rest.now)
  run_of_digits [] s t n m f' y h =
      let same : n ≡ m = ap (λ (p : F × ℕ). p.1) h in (sym (ap (λ (p : F × ℕ). p.0) h), cc)
  run_of_digits (x ∷ xs) s t n m f' (j, first, y) (q, turn, h) =
      let added = adds n x turn.0 q.0 turn.1 in
      let R = TryFoldTurn {E = E} g (λ r b. r ≡ continue_value b) in
      let more : FoldsTo {P = F × ℕ} R (f, q.1) xs (f', m) = subst (λ (k : F). FoldsTo {P = F × ℕ} R (k, q.1) xs (f', m)) added.0 h in
      let rest = run_of_digits xs j t q.1 m f' y more in
      let one : with_digit n x.now ≡ Some q.1 = sym added.1 ∙ turn.2 in
      (rest.0, ap (with_digits n) first ∙ ap (option_and_then (λ d. with_digits d j.rest.now)) one ∙ rest.1)

  -- the calls took in all digits, or the last of them gave nothing
  pub with_digits-from_try_fold : (s u : Iter ℕ) (n : ℕ) (r : Option ℕ) → TryFoldsItems fronts {E = E} g (λ q b. q ≡ continue_value b) (λ _ q. q ≡ None) s f n r u → r ≡ with_digits n s.rest.now
  with_digits-from_try_fold s u n r (xs, None, f', m, (t, y, last), h, end) =
      let rest = run_of_digits xs s t n m f' y h in
      end ∙ ap (with_digits m) (sym (nil_from_length t.rest.now last.0)) ∙ sym rest.1
  with_digits-from_try_fold s u n r (xs, Some x, f', m, (t, y, last), h, (q, f'', e, called, broke, end)) =
      let rest = run_of_digits xs s t n m f' y h in
      let at_f = subst (λ (k : F). Called g k (m, (x, tt)) q f'') rest.0 called in
      let none : with_digit m x.now ≡ None = sym (adds m x q f'' at_f).1 ∙ broke in
      end ∙ ap (option_and_then (λ d. with_digits d u.rest.now)) (sym none) ∙ ap (with_digits m) (sym last) ∙ sym rest.1
