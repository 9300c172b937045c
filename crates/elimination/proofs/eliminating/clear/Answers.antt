-- `clear`: zeros in place of the first 65,536 bytes.
use Rattle.elimination.proofs.eliminating.Delivery.{cleared-is}
use Rattle.elimination.proofs.eliminating.clear.Goals as goal

pub returns : goal.returns
returns c = cleared-is c.args.d.now c.fill.new.self (c.fill.ensures.after (λ y e. e)) c.requires
