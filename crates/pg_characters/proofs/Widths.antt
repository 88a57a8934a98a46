-- How wide a board of cells is.
use Rattle.std.proofs.Common.{◌≡◌, ◌∙◌, ℕ, zero, suc, ◌+◌, ◌*◌, ◌<◌, ◌≤◌, arith}
use Rattle.std.proofs.Math.Nat.{mul-suc, mul-zero, mul_comm, zero-mul}

-- it has a column
pub some_columns : (w h n : ℕ) → w * h ≡ n → 1 ≤ n → 0 < w
some_columns zero h n e some =
    let none : 0 * h ≡ 0 = zero-mul h in
    absurd (omega (arith, e, none, some))
some_columns (suc w) h n e some = omega arith

-- it has no more columns than cells
pub few_columns : (w h n : ℕ) → w * h ≡ n → 1 ≤ n → w ≤ n
few_columns w zero n e some =
    let none : w * 0 ≡ 0 = mul-zero w in
    absurd (omega (arith, e, none, some))
few_columns w (suc h) n e some =
    let more : w * suc h ≡ w * h + w = mul-suc w h in
    omega (arith, e, more)

-- nor more rows
pub few_rows : (w h n : ℕ) → w * h ≡ n → 1 ≤ n → h ≤ n
few_rows w h n e some = few_columns h w n (mul_comm h w ∙ e) some
