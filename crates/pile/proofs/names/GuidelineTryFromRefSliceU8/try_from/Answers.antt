use Rattle.std.proofs.Common.{◌≡◌, codes, sym, ap, rules, arith}
use Rattle.std.specs.Option.{ok_or}
use Rattle.std.proofs.lemmas.Slice.Eq.{text_from_reads}
use Rattle.pile.specs.declared.reasons.Reason.TheVariants.{UnknownGuideline}
use Rattle.pile.specs.Reading.{guideline_named}
use Rattle.pile.proofs.names.GuidelineTryFromRefSliceU8.try_from.Goals as goal

pub returns-in-german : goal.returns-in-german
returns-in-german c =
    let name : c.args.name.now ≡ codes "german" = text_from_reads c.args.name.now (codes "german") (omega arith) (search rules) in
    ap (λ n. ok_or (guideline_named n) UnknownGuideline) (sym name)
