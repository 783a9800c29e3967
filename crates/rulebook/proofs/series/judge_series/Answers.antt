use Rattle.std.proofs.Common.{◌≡◌, ◌-◌, drop, pos, refl, ◌∙◌, arith, w32, SFits, rules}
use Rattle.std.proofs.lemmas.List.{take_all, take_rest}
use Rattle.std.proofs.lemmas.List.Elements.{All-drop, All-more}
use Rattle.rulebook.specs.Meanings.{Window32}
use Rattle.rulebook.proofs.SeriesSteps.{answered, judged_none, judged_turn}
use Rattle.rulebook.proofs.series.judge_series.Goals as goal

pub loop-deviation-preserved : goal.loop-deviation-preserved
loop-deviation-preserved g c =
    All-more (SFits w32) c.args.deviations.now c.loop-deviation.deviation-index (pos 0) c.loop-deviation-test.true c.loop-deviation.invariant (search rules)

pub loop-place-init : goal.loop-place-init
loop-place-init g c = record {
  same = λ _ _ _ _. refl;
  judged = judged_none (g.B.Rulebook.meaning c.args.rulebook.now) c.args.unit c.min-count.result c.args.deviations.now c.args.verdicts.now (omega arith);
}

pub loop-place-preserved : goal.loop-place-preserved
loop-place-preserved g c =
    let window = drop (c.loop-place.place - 1) c.args.deviations.now in
    let all : Window32 c.args.deviations.now = rw (take_all c.loop-deviation.deviation-index c.args.deviations.now c.loop-deviation-test.false) at c.loop-deviation.invariant in
    let read : Window32 window = All-drop (SFits w32) (c.loop-place.place - 1) c.args.deviations.now all in
    let newest = rw (take_rest c.args.deviations.now (c.loop-place.place - 1)) at c.newest.ensures in
    let verdict =
    answered (g.B.Rulebook.meaning c.args.rulebook.now) (g.B.Rulebook.meaning c.loop-place.rulebook) c.args.unit window c.newest.result.now
    c.judge.result c.loop-place.invariant.same (g.met.B.Rulebook.lawful c.loop-place.rulebook) (search rules) read newest c.judge.ensures.answer in record {
      same = λ unit w u h. c.loop-place.invariant.same unit w u h ∙ c.judge.ensures.same unit w u h;
      judged = judged_turn (g.B.Rulebook.meaning c.args.rulebook.now) c.args.unit c.loop-place.place c.args.deviations.now c.args.verdicts.now
          c.loop-place.verdicts c.judge.result c.loop-place-test.true (omega arith) (omega arith) c.loop-place.invariant.judged verdict;
    }

pub returns : goal.returns
returns g c =
    let done : c.loop-place.place ≡ 0 = omega arith in
    record { verdicts = rw done at c.loop-place.invariant.judged; same = c.loop-place.invariant.same }
