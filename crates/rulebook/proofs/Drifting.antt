-- A drift is read from oldest to newest; the deviations come newest first.
-- Assumes nothing.
use Rattle.std.proofs.Common.{◌≡◌, ℕ, zero, suc, ◌+◌, ◌<◌, Bool, true, false, ◌&&◌, List, [], ◌∷◌, ◌++◌, reverse, length, get_or, ℤ, refl, sym, ap, ◌∙◌, add-one, arith}
use mathlib.Core.List.{reverse-cons}
use Rattle.std.specs.List.{AllAdjacentBelow, IsAllAdjacentAnswer}
use Rattle.std.proofs.lemmas.Bool.{and_right}
use Rattle.rulebook.specs.Conditions.{all_follow}

module _ (f : ℤ → ℤ → Bool) where
  all_true : (xs : List ℤ) → AllAdjacentBelow (λ x y. true ≡ f x y) xs (length xs) → true ≡ all_follow f xs
  all_true [] h = refl
  all_true (a ∷ []) h = refl
  all_true (a ∷ (b ∷ es)) h =
      rw (← h 0 a (omega arith)) (all_true (b ∷ es) (λ k d l. rw add-one (rw add-one at (h (suc k) d (omega arith)))))

  one_false : (xs : List ℤ) (k : ℕ) → k + 1 < length xs → ((d : ℤ) → false ≡ f (get_or xs k d) (get_or xs (k + 1) d)) → false ≡ all_follow f xs
  one_false [] k l h = absurd (omega arith)
  one_false (a ∷ []) k l h = absurd (omega arith)
  one_false (a ∷ (b ∷ es)) zero l h = rw (← h a) refl
  one_false (a ∷ (b ∷ es)) (suc k) l h =
      sym (and_right (f a b) (all_follow f (b ∷ es)) (sym (one_false (b ∷ es) k (omega arith) (λ d. rw add-one (rw add-one at (h d))))))

  neighbours : (xs : List ℤ) (r : Bool) → IsAllAdjacentAnswer (λ x y b. b ≡ f x y) xs r → r ≡ all_follow f xs
  neighbours xs true h = all_true xs h
  neighbours xs false h = one_false xs h.0 h.1 h.2

swapped : (p q r : Bool) → (p && (q && r)) ≡ (q && (p && r))
swapped true q r = refl
swapped false true r = refl
swapped false false r = refl

module _ (f : ℤ → ℤ → Bool) where
  -- one more number at the end
  one_more : (xs : List ℤ) (b a : ℤ) → all_follow f ((xs ++ (b ∷ [])) ++ (a ∷ [])) ≡ (f b a && all_follow f (xs ++ (b ∷ [])))
  one_more [] b a = refl
  one_more (x ∷ []) b a = swapped (f x b) (f b a) true
  one_more (x ∷ (y ∷ xs)) b a = ap (λ t. f x y && t) (one_more (y ∷ xs) b a) ∙ swapped (f x y) (f b a) (all_follow f ((y ∷ xs) ++ (b ∷ [])))

  pub read_backwards : (newest : List ℤ) → all_follow (λ newer older. f older newer) newest ≡ all_follow f (reverse newest)
  read_backwards [] = refl
  read_backwards (a ∷ []) = refl
  read_backwards (a ∷ (b ∷ es)) = ap (λ t. f b a && t) (rw reverse-cons at (read_backwards (b ∷ es))) ∙ sym (rw (reverse-cons, reverse-cons) (one_more (reverse es) b a))

  pub from_neighbours : (newest : List ℤ) (r : Bool) → IsAllAdjacentAnswer (λ newer older b. b ≡ f older newer) newest r → r ≡ all_follow f (reverse newest)
  from_neighbours newest r h = neighbours (λ newer older. f older newer) newest r h ∙ read_backwards newest
