-- `box_at`: each test in its turn.
use mathlib.Core.Path.{◌≡◌, sym, ◌∙◌, ap}
use native.Mathlib.Omega.{arith}
use lib.ListN.{length}
use Rattle.std.proofs.lemmas.Bool.{eqb-true, eqb-false}
use Rattle.reading.specs.Bytes.{le2}
use Rattle.boxes.specs.Boxes.{Whole, box_kind}
use Rattle.boxes.proofs.Lists.{box-over, box-few, box-kind, box-low, box-cut, box-whole}
use Rattle.boxes.proofs.box_at.Goals as goal
use Rattle.boxes.proofs.box_at.Goals.{then-s-lt-BOX_BYTES-via-then-s-lt-BOX_BYTES, then-s-lt-BOX_BYTES-via-else-s-lt-BOX_BYTES+then-u16_at-ne-BOX_KIND, then-n-lt-BOX_BYTES-via-then-n-lt-BOX_BYTES, then-n-lt-BOX_BYTES-via-else-n-lt-BOX_BYTES+then-s-n}

pub returns-then-is_empty : goal.returns-then-is_empty
returns-then-is_empty c = box-over c.args.s.now (eqb-true (length c.args.s.now) 0 (sym c.if-is_empty.ensures))

pub returns-then-s-lt-BOX_BYTES : goal.returns-then-s-lt-BOX_BYTES
returns-then-s-lt-BOX_BYTES c = elim c.then-s-lt-BOX_BYTES.branch [
  | then-s-lt-BOX_BYTES-via-then-s-lt-BOX_BYTES w ↦ box-few c.args.s.now (eqb-false (length c.args.s.now) 0 (sym c.if-is_empty.ensures)) w.if-s-lt-BOX_BYTES.true
  | then-s-lt-BOX_BYTES-via-else-s-lt-BOX_BYTES+then-u16_at-ne-BOX_KIND w ↦ box-kind c.args.s.now w.if-s-lt-BOX_BYTES.false (λ e. w.if-u16_at-ne-BOX_KIND.true (w.u16_at.ensures ∙ e))
]

pub returns-then-n-lt-BOX_BYTES : goal.returns-then-n-lt-BOX_BYTES
returns-then-n-lt-BOX_BYTES c =
    let k : le2 c.args.s.now 2 ≡ box_kind = sym c.u16_at.ensures ∙ c.if-u16_at-ne-BOX_KIND.false in
    elim c.then-n-lt-BOX_BYTES.branch [
      | then-n-lt-BOX_BYTES-via-then-n-lt-BOX_BYTES w ↦ box-low c.args.s.now c.if-s-lt-BOX_BYTES.false k (omega (arith, c.u16_at-n.ensures, w.if-n-lt-BOX_BYTES.true))
      | then-n-lt-BOX_BYTES-via-else-n-lt-BOX_BYTES+then-s-n w ↦
          box-cut c.args.s.now c.if-s-lt-BOX_BYTES.false k (omega (arith, c.u16_at-n.ensures, w.if-n-lt-BOX_BYTES.false)) (omega (arith, c.u16_at-n.ensures, w.if-s-n.true))
    ]

pub returns : goal.returns
returns c = ap Whole c.u16_at-n.ensures
    ∙ box-whole c.args.s.now (omega arith) (sym c.u16_at.ensures ∙ c.if-u16_at-ne-BOX_KIND.false) (omega (arith, c.u16_at-n.ensures)) (omega (arith, c.u16_at-n.ensures))
