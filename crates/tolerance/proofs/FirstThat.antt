-- The loop that goes through a list and returns at the first element that passes a test.
-- F is what it answers. Its invariant: what is left of the list gives what the whole list gives.
-- Assumes nothing.
use Rattle.std.proofs.Common.{◌≡◌, ℕ, ◌+◌, ◌<◌, ◌≤◌, Bool, true, false, cond, List, [], ◌∷◌, length, get_or, drop, sym, ◌∙◌}
use Rattle.std.proofs.lemmas.List.{at_drop_more, at_drop_all}
use Rattle.std.proofs.lemmas.Bool.{cond-true, cond-false}

module _ {X Y : Type 0} (test : X → Bool) (found : X → Y) (F : List X → Y) (step : (x : X) (xs : List X) → F (x ∷ xs) ≡ cond (test x) (found x) (F xs)) (xs : List X) (i : ℕ) where
  -- at the element that passes, the answer is what was found
  pub first_passed : (d : X) → i < length xs → F (drop i xs) ≡ F xs → test (get_or xs i d) ≡ true → found (get_or xs i d) ≡ F xs
  first_passed d h inv t =
      sym (cond-true (test (get_or xs i d)) (found (get_or xs i d)) (F (drop (i + 1) xs)) t) ∙ sym (step (get_or xs i d) (drop (i + 1) xs))
      ∙ sym (at_drop_more F xs i d h)
      ∙ inv

  -- an element that fails is passed over
  pub first_failed : (d : X) → i < length xs → F (drop i xs) ≡ F xs → test (get_or xs i d) ≡ false → F (drop (i + 1) xs) ≡ F xs
  first_failed d h inv t =
      sym (cond-false (test (get_or xs i d)) (found (get_or xs i d)) (F (drop (i + 1) xs)) t) ∙ sym (step (get_or xs i d) (drop (i + 1) xs))
      ∙ sym (at_drop_more F xs i d h)
      ∙ inv

-- past the last element the answer is that of the empty list
pub first_ended : {X Y : Type 0} (F : List X → Y) (xs : List X) (i : ℕ) → length xs ≤ i → F (drop i xs) ≡ F xs → F [] ≡ F xs
first_ended F xs i h inv = sym (at_drop_all F xs i h) ∙ inv
