-- The lines so far and those that are left are all lines.
use Rattle.std.proofs.Common.{◌≡◌, ◌++◌, string_bytes}
use Rattle.std.specs.Slice.Iter.{iter_rest}
use Rattle.nivzolda.specs.Lines.{judged_lines}
use Rattle.nivzolda.proofs.judged.judged_lines.Given as goal

abbrev pub invariant-loop-value : goal.invariant-loop-value
invariant-loop-value l =
    string_bytes l.text ++ judged_lines (iter_rest l.value-iterator.a) (iter_rest l.value-iterator.b) ≡ judged_lines l.fn.values l.fn.verdicts
