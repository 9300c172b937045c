use mathlib.Core.Path.{refl, sym, ◌∙◌}
use borrow.Author.Tests.{lt-ltb}
use Rattle.reading.specs.Records.{by_kind, head}
use Rattle.reading.proofs.Heads.{head_at, length-wrong}
use Rattle.reading.proofs.records.record_at.Goals as goal

pub returns-then-s-lt4 : goal.returns-then-s-lt4
unfolding head
returns-then-s-lt4 c = simp (lt-ltb _ _ c.if-s-lt4.true)

pub returns-in_default : goal.returns-in_default
unfolding by_kind
returns-in_default c = rw (head_at c.args.s.now c.if-s-lt4.false refl c.u16_at.ensures, ← c.in_default.ensures)

pub returns-then-u16_at-bytes : goal.returns-then-u16_at-bytes
returns-then-u16_at-bytes c = rw (head_at c.args.s.now c.if-s-lt4.false c.u16_at-2.ensures c.u16_at.ensures, ← c.in-Ok.ensures, length-wrong c.in-Ok.shape c.args.s.now (λ e. c.if-u16_at-bytes.true (e ∙ sym c.bytes-bytes.ensures)))

pub returns : goal.returns
returns c = rw (head_at c.args.s.now c.if-s-lt4.false c.u16_at-2.ensures c.u16_at.ensures, ← c.in-Ok.ensures, c.if-u16_at-bytes.false ∙ c.bytes-bytes.ensures) c.whole_at.ensures
