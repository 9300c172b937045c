-- `finish`: the pass takes seven times the bytes, of the work buffer or of the room; a room that is too short for 65,536 bytes is below 524,288.
use native.Mathlib.Omega.{arith}
use lib.ListN.{drop}
use lib.Seq.{length-take-le, drop_at}
use mathlib.Core.Path.{◌∙◌}
use Rattle.reading.specs.Limits.{result_bytes}
use Rattle.elimination.proofs.finishing.finish.Goals as goal

pub finish_in-requires : goal.finish_in-requires
finish_in-requires c = record { unquantified = c.requires.unquantified; len_in_bounds = omega (arith, c.if-len-le-RESULT_BYTES.true, length-take-le result_bytes c.args.work.now c.requires.result_bytes_in_bounds) }

pub returns-then-len-le-RESULT_BYTES : goal.returns-then-len-le-RESULT_BYTES
returns-then-len-le-RESULT_BYTES c = (c.finish_in.ensures, drop_at c.finish_in.new.out (drop result_bytes c.args.work.now) result_bytes (c.finish_in.auto.out ∙ length-take-le result_bytes c.args.work.now c.requires.result_bytes_in_bounds))
