-- `closed`: where a member is left, two laws of the list rule.
use Rattle.replacement.proofs.listing.Members.{closed-one, closed-many}
use Rattle.replacement.proofs.Open.closed.Goals as goal

pub returns-then-self-eq1 : goal.returns-then-self-eq1
returns-then-self-eq1 c = λ gs to o₀ a.
    closed-one c.args.self gs to c.args.used o₀ c.args.out.now a _ c.if-self.false c.if-self-eq1.true c.copy_within.ensures.after

pub returns-else-self-eq1 : goal.returns-else-self-eq1
returns-else-self-eq1 c = λ gs to o₀ a.
    closed-many c.args.self gs to c.args.used o₀ c.args.out.now a _ c.if-self.false c.if-self-eq0.false c.if-self-eq1.false c.put_list.ensures
