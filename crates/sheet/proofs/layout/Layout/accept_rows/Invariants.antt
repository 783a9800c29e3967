-- No row so far is refused.
use Rattle.std.proofs.Common.{◌≡◌, None}
use Rattle.sheet.specs.Below.{first_below}
use Rattle.sheet.specs.Acceptance.{refusal_at}
use Rattle.sheet.proofs.layout.Layout.accept_rows.Given as goal

abbrev pub invariant-loop-row : goal.invariant-loop-row
invariant-loop-row l = first_below (refusal_at l.self.bytes.now l.self.header) l.row ≡ None
