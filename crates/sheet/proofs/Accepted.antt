-- What follows where a sheet, or one of its rows, is not refused; and that a short sheet is.
-- Assumes nothing.
use Rattle.std.proofs.Common.{◌≡◌, ℕ, ◌<◌, ◌≤◌, Bool, true, false, List, [], ◌∷◌, length, Some, None, refl, arith}
use Rattle.std.proofs.lemmas.Bool.Decides.{nat_tests}
use Rattle.sheet.specs.declared.header.Header.{Header}
use Rattle.sheet.specs.declared.fields.Fields.{Fields}
use Rattle.sheet.specs.Header.{header_of}
use Rattle.sheet.specs.Fields.{row_place, row_fields}
use Rattle.sheet.specs.Names.{name_bytes, name_of, has_other_byte}
use Rattle.sheet.specs.Checks.{unknown_table, wrong_range, wrong_name, repeated_name}
use Rattle.sheet.specs.Acceptance.{first_of, refusal_of, refusal_at, whole_refusal, row_refusal, at_row}
use Rattle.sheet.specs.Rows.{InRange}
use Rattle.sheet.specs.Reader.{row_count}
use Rattle.sheet.proofs.Below.{option_or_none, none_below}

-- a sheet of fewer than ten bytes is refused with 1
pub short_refused : (s : List ℕ) (h : Header) → length s < 10 → at_row 0 (whole_refusal s h) ≡ Some (1, 0)
unfolding whole_refusal
short_refused s h l = grind (arith, nat_tests)

-- a sheet that is right as a whole has its rows within its bytes
pub rows_within : (s : List ℕ) (h : Header) → at_row 0 (whole_refusal s h) ≡ None → row_place h h.row_count ≤ length s
unfolding whole_refusal
rows_within s h e = grind (arith, nat_tests)

-- where none of a row's tests holds, the second and the third do not
none_holds : (k : ℕ) (a b c d : Bool) → at_row k (first_of ((a, 4) ∷ (b, 5) ∷ (c, 6) ∷ (d, 7) ∷ [])) ≡ None → (b ≡ false) × (c ≡ false)
none_holds k true b c d e = cc
none_holds k false true c d e = cc
none_holds k false false true d e = cc
none_holds k false false false d e = (refl, refl)

in_range : (f : Fields) → wrong_range f ≡ false → InRange f
in_range f e = grind (arith, nat_tests)

no_other_byte : (s : List ℕ) (h : Header) (f : Fields) → wrong_name s h f ≡ false → has_other_byte (name_bytes s h f) ≡ false
no_other_byte s h f e = grind (arith, nat_tests)

-- a row that is not refused has its range right, and its name has no other byte
row_right : (s : List ℕ) (h : Header) (f : Fields) (k : ℕ) → at_row k (row_refusal s h f k) ≡ None → InRange f × (has_other_byte (name_bytes s h f) ≡ false)
unfolding row_refusal
row_right s h f k e =
    let right = none_holds k (unknown_table f) (wrong_range f) (wrong_name s h f) (repeated_name s h f k) e in
    (in_range f right.0, no_other_byte s h f right.1)

-- no row of an accepted sheet is refused
pub row_not_refused : (s : List ℕ) (k : ℕ) → refusal_of s ≡ None → k < row_count s → refusal_at s (header_of s) k ≡ None
row_not_refused s k a there = none_below (refusal_at s (header_of s)) (row_count s) k (option_or_none _ _ a).1 there

-- so each has its range right, and its name has no other byte
pub row_accepted : (s : List ℕ) (k : ℕ) → refusal_of s ≡ None → k < row_count s → InRange (row_fields s (header_of s) k) × (has_other_byte (name_of s (header_of s) k) ≡ false)
row_accepted s k a there = row_right s (header_of s) _ k (row_not_refused s k a there)
