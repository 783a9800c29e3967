use Rattle.std.proofs.Common.{rules, ◌++◌, codes, decimal, string_bytes}
use Rattle.sheet.specs.Reader.{sheet_bytes, row_count}
use Rattle.nivzolda.proofs.InsertSteps.{one_more}
use Rattle.nivzolda.proofs.insert.accepted.Goals as goal

pub loop-number-preserved : goal.loop-number-preserved
loop-number-preserved c =
    one_more (sheet_bytes c.args.sheet.now) (codes "accepted, " ++ (decimal (row_count (sheet_bytes c.args.sheet.now)) ++ codes " rows\n"))
    (string_bytes c.loop-number.text) (string_bytes c.write.new.self) c.text.result.now c.unwrap.result c.unwrap-name.result.place
    c.loop-number.number c.loop-number.invariant c.in_ok-write.ensures.bytes (search rules) (search rules) (search rules)
