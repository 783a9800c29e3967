-- Those read so far have 32 bits. The rulebook means what it meant, and from this place on the verdicts stand.
use Rattle.std.proofs.Common.{◌≡◌, take}
use Rattle.rulebook.specs.Meanings.{Window32, SameMeaning}
use Rattle.rulebook.proofs.SeriesSteps.{judged_from}
use Rattle.rulebook.proofs.series.judge_series.Given as goal

abbrev pub invariant-loop-deviation : goal.invariant-loop-deviation
invariant-loop-deviation g l = Window32 (take l.deviation-index l.deviations)

abbrev pub invariant-loop-place : goal.invariant-loop-place
invariant-loop-place g l = record {
  same : SameMeaning (g.B.Rulebook.meaning l.initial.rulebook) (g.B.Rulebook.meaning l.rulebook);
  judged : l.verdicts ≡ judged_from (g.B.Rulebook.meaning l.initial.rulebook) l.unit l.place l.deviations l.initial.verdicts;
}
