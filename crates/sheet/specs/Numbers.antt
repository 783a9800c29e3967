-- Unsigned big-endian numbers in a list of bytes. Past the end of the list a byte reads as 0.
-- Assumes nothing.
use Rattle.std.specs.Prelude.{ℕ, ◌+◌, ◌*◌, List, slice_index}

-- 16 bits at place i
abbrev pub number16 : List ℕ → ℕ → ℕ
number16 s i = slice_index s i * 256 + slice_index s (i + 1)

-- 32 bits at place i
abbrev pub number32 : List ℕ → ℕ → ℕ
number32 s i = slice_index s i * 16777216 + slice_index s (i + 1) * 65536 + slice_index s (i + 2) * 256 + slice_index s (i + 3)
