-- `fits_beside`: the sums and products are small.
use Prim.Native.Nat.{◌+◌, ◌*◌, ◌/◌, ◌≤◌}
use native.Mathlib.Nat.{mul-le-mul}
use native.Mathlib.Omega.{arith}
use Rattle.elimination.proofs.stepping.fits_beside.Goals as goal
use Rattle.elimination.proofs.stepping.fits_beside.Goals.{Start}

-- n·(n + 1), and 7·b times the points
pairs : (c : Start) → c.args.n * (c.args.n + 1) ≤ 64 * 65
pairs c = let n : c.args.n ≤ 64 = c.requires.1.0 in mul-le-mul {m₂ = 65} n (omega (arith, n))

bytes : (c : Start) → 7 * c.args.b * (2 + c.args.n * (c.args.n + 1) / 2) ≤ 458752 * 2082
bytes c =
    let pairs : c.args.n * (c.args.n + 1) ≤ 64 * 65 = let n : c.args.n ≤ 64 = c.requires.1.0 in mul-le-mul {m₂ = 65} n (omega (arith, n)) in
    let b : c.args.b ≤ 65536 = c.requires.0 in mul-le-mul {n₂ = 458752} {m₂ = 2082} (omega (arith, b)) (omega (arith, pairs))

pub overflow_mul-points : goal.overflow_mul-points
overflow_mul-points c = omega (arith, pairs (goal.at.overflow_mul-points c).Start)

pub overflow_add-points-2 : goal.overflow_add-points-2
overflow_add-points-2 c = omega (arith, pairs (goal.at.overflow_add-points-2 c).Start)

pub overflow_mul-result-2 : goal.overflow_mul-result-2
overflow_mul-result-2 c = omega (arith, bytes (goal.at.overflow_mul-result-2 c).Start)

pub overflow_add-result-2 : goal.overflow_add-result-2
overflow_add-result-2 c = omega (arith, bytes (goal.at.overflow_add-result-2 c).Start, c.requires.1.1)
