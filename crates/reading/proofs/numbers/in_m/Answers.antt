use mir.Syntax.{w64}
use mir.ValLaws.{to_z-of_z}
use Rattle.reading.proofs.Signed.{in_m-from, in_m-under}
use Rattle.reading.proofs.numbers.in_m.Goals as goal

pub returns-then-z-ge-LEAST : goal.returns-then-z-ge-LEAST
returns-then-z-ge-LEAST c = in_m-from c.args.z (to_z-of_z w64 c.args.z c.ranges.z) c.if-z-ge-LEAST.true

pub returns-else-z-ge-LEAST : goal.returns-else-z-ge-LEAST
returns-else-z-ge-LEAST c = in_m-under c.args.z (to_z-of_z w64 c.args.z c.ranges.z) c.if-z-ge-LEAST.false
