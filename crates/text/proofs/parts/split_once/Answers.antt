use Rattle.std.proofs.Common.{◌≡◌, ℕ, ◌+◌, ◌<◌, length, eqb, List, [], ◌∷◌, take, drop, Some, None, position, sym, ap, ◌∙◌, arith}
use Rattle.std.specs.List.{position_or_len}
use Rattle.std.proofs.lemmas.Bool.Decides.{nat_tests}
use Rattle.std.proofs.lemmas.List.{take_rest}
use Rattle.std.proofs.lemmas.List.Splits.{slice_split_none, slice_split_first}
use Rattle.std.proofs.lemmas.List.Sums.{fails_before_first}
use Rattle.std.proofs.lemmas.Option.{cond_some}
use Rattle.text.specs.Parts.{parts}
use Rattle.text.proofs.parts.split_once.Goals as goal

module _ (sep : ℕ) (text : List ℕ) where
  one_part : None ≡ position (λ b. eqb b sep) text → parts sep text ≡ (text ∷ [])
  one_part e = slice_split_none (λ b. eqb b sep) text (λ k d h. fails_before_first (λ b. eqb b sep) text k d (grind (arith, nat_tests)))

  cut_at : (place : ℕ) → Some place ≡ position (λ b. eqb b sep) text → parts sep text ≡ (take place text ∷ parts sep (drop (place + 1) text))
  cut_at place e =
      let first : position_or_len (λ b. eqb b sep) text ≡ place = (cond_some _ _ _ (sym e)).1 in
      let within : position_or_len (λ b. eqb b sep) text < length text = grind (arith, nat_tests) in
      rw first at (slice_split_first (λ b. eqb b sep) text 0 within)

pub returns-in_err-end-clause-cut : goal.returns-in_err-end-clause-cut
returns-in_err-end-clause-cut c =
    rw c.from_residual.ensures (one_part c.args.separator c.args.text.now (sym (c.in_err-end.was) ∙ c.first_separator.ensures))

pub returns-clause-cut : goal.returns-clause-cut
returns-clause-cut c =
    cut_at c.args.separator c.args.text.now c.in_ok-end.end (sym (c.in_ok-end.was) ∙ c.first_separator.ensures)
    ∙ ap (λ rest. take c.in_ok-end.end c.args.text.now ∷ parts c.args.separator rest) (sym (take_rest c.args.text.now (c.in_ok-end.end + 1)))
