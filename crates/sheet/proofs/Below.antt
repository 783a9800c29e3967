-- The loop over the numbers from 0 up to n that returns at the first one that passes, or at which something is found.
-- Assumes nothing.
use Rattle.std.proofs.Common.{◌≡◌, ◌⊎◌, ℕ, zero, suc, ◌+◌, ◌<◌, Bool, true, false, Some, None, Option, refl, sym, subst, inl, inr, add-one, arith}
use Rattle.std.proofs.lemmas.Bool.{or_left, or_right, or_from, cases_eq}
use Rattle.std.specs.Option.{option_or}
use Rattle.sheet.specs.Below.{some_below, first_below}

-- a number below `suc n` is n, or below n
at_or_below : (i n : ℕ) → i < suc n → (i ≡ n) ⊎ (i < n)
at_or_below i n h = elim (cases_eq i n) [ inl e ↦ inl e | inr ne ↦ inr (omega arith) ]

module _ (test : ℕ → Bool) where
  pub some_found : (i n : ℕ) → i < n → test i ≡ true → some_below test n ≡ true
  some_found i zero h t = absurd (omega arith)
  some_found i (suc n) h t =
      elim (at_or_below i n h) [
        | inl e ↦ or_right (some_below test n) (test n) (subst (λ (k : ℕ). test k ≡ true) e t)
        | inr l ↦ or_left (some_below test n) (test n) (some_found i n l t)
      ]

  pub some_more : (i : ℕ) → some_below test i ≡ false → test i ≡ false → some_below test (i + 1) ≡ false
  some_more i h t = rw add-one (or_from (some_below test i) (test i) h t)

-- neither of two answers is there
pub option_or_none : {X : Type 0} (a b : Option X) → option_or a b ≡ None → (a ≡ None) × (b ≡ None)
option_or_none None b h = (refl, h)
option_or_none (Some x) b h = cc

module _ {X : Type 0} (find : ℕ → Option X) where
  pub first_more : (i : ℕ) → first_below find i ≡ None → find i ≡ None → first_below find (i + 1) ≡ None
  first_more i h t = rw (add-one, h, t)

  pub first_found : (i n : ℕ) (x : X) → i < n → first_below find i ≡ None → find i ≡ Some x → first_below find n ≡ Some x
  first_found i zero x h b t = absurd (omega arith)
  first_found i (suc n) x h b t =
      elim (at_or_below i n h) [
        | inl e ↦ rw (← e, b, t)
        | inr l ↦ rw (first_found i n x l b t)
      ]

  -- nothing found below n: nothing at any number below it
  pub none_below : (n i : ℕ) → first_below find n ≡ None → i < n → find i ≡ None
  none_below zero i h l = absurd (omega arith)
  none_below (suc n) i h l =
      let p = option_or_none (first_below find n) (find n) h in
      elim (at_or_below i n l) [
        | inl e ↦ subst (λ (k : ℕ). find k ≡ None) (sym e) p.1
        | inr m ↦ none_below n i p.0 m
      ]
