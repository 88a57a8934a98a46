-- What a line of a shape says.
use Rattle.std.proofs.Common.{◌≡◌, ◌∙◌, ℕ, ◌+◌, ◌*◌, ◌<◌, ◌≤◌, Bool, true, false, cond, ◌&&◌, ◌||◌}
use Rattle.std.proofs.Common.{List, [], ◌∷◌, ◌++◌, length, get_or, arith, refl, sym, ap, ap₂, Some}
use Rattle.std.proofs.Common.{None, Err, map, Bor}
use Rattle.std.specs.Prelude.{nat_lt, not, sum_by}
use Rattle.pg_files.proofs.Common.{nat_tests, sum_by-append, Grid, Bytes, longest, Cell, is_shape}
use Rattle.pg_files.proofs.Common.{placements_of, cells_of, ones, line_of_cells, unless}
use Rattle.pg_files.specs.GameFile.{Draft, exceeds_with, is_out_of_place, keyed, placed_in, said}
use Rattle.pg_files.specs.declared.fault.Fault.TheVariants as faults
use Rattle.pg_files.specs.declared.key.Key.TheVariants as keys
use Rattle.pg_files.proofs.Sound.{equal_lines}

-- how many points the placements have together
pub summed : (grid : Grid) (cells : List Cell)
    → 0 < length cells
    → sum_by length (placements_of grid cells) ≡ length (placements_of grid cells) * length cells
summed grid cells some = equal_lines (length cells) (placements_of grid cells)
    (λ i d lt. (line_of_cells grid cells some i d lt).count)

limit_of : (a b c s : Bool) (x : Draft)
    → a ≡ false
    → b ≡ false
    → c ≡ true
    → unless (cond a (Some faults.Order)
    (cond b (Some faults.Length) (cond c (Some faults.Limit) (cond s (Some faults.Shape) None)))) x
    ≡ Err faults.Limit
limit_of true b c s x e f g = absurd cc
limit_of false true c s x e f g = absurd cc
limit_of false false true s x e f g = refl
limit_of false false false s x e f g = absurd cc

pub keyed_limit : (d : Draft) (word : Bytes) (grid : Grid) (count points total : ℕ)
    (lines : List (List ℕ)) (cells : List Cell)
    → is_out_of_place d keys.Shape ≡ false
    → ones word ≤ longest d.bias
    → is_shape word ≡ true
    → d.grid ≡ Some grid
    → 0 < length cells
    → cells ≡ cells_of word
    → lines ≡ placements_of grid cells
    → count ≡ length lines
    → points ≡ length cells
    → total ≡ sum_by length d.lines
    → (nat_lt 20000 (length d.lines + count) || nat_lt 400000 (total + count * points)) ≡ true
    → keyed d keys.Shape (word ∷ []) ≡ Err faults.Limit
unfolding keyed
keyed_limit d word grid count points total lines cells place few is on some same listed counted
    pointed totalled over =
    limit_of (is_out_of_place d keys.Shape) (nat_lt (longest d.bias) (ones word))
    (is_shape word && exceeds_with d (placed_in d.grid (cells_of word))) (not (is_shape word))
    (said d keys.Shape (word ∷ [])) place (grind (arith, nat_tests, few))
    (ap₂ (λ (x y : Bool). x && y) is exceeded)
  where
    placed_is : lines ≡ placed_in d.grid (cells_of word)
    placed_is =
        listed ∙ ap (placements_of grid) same ∙ sym (ap (λ g. placed_in g (cells_of word)) on)

    sums : total + count * points ≡ sum_by length d.lines + sum_by length lines
    sums = ap₂ (λ (x y : ℕ). x + y) totalled
        (ap₂ (λ (x y : ℕ). x * y) (counted ∙ ap length listed) pointed
        ∙ sym (summed grid cells some)
        ∙ sym (ap (sum_by length) listed))

    exceeded : exceeds_with d (placed_in d.grid (cells_of word)) ≡ true
    exceeded = sym (ap (exceeds_with d) placed_is)
        ∙ ap₂ (λ (x y : ℕ). nat_lt 20000 (length d.lines + x) || nat_lt 400000 y) (sym counted)
        (sym sums)
        ∙ over

pub totalled_with : (old new lines : List (List ℕ)) (grid : Grid) (cells : List Cell)
    (count points total : ℕ)
    → 0 < length cells
    → lines ≡ placements_of grid cells
    → new ≡ old ++ lines
    → count ≡ length lines
    → points ≡ length cells
    → total ≡ sum_by length old
    → total + count * points ≡ sum_by length new
totalled_with old new lines grid cells count points total some listed is counted pointed totalled =
    ap₂ (λ (x y : ℕ). x + y) totalled (ap₂ (λ (x y : ℕ). x * y) (counted ∙ ap length listed) pointed
    ∙ sym (summed grid cells some)
    ∙ sym (ap (sum_by length) listed))
    ∙ sym (sum_by-append length old lines)
    ∙ sym (ap (sum_by length) is)

pub keyed_limit_of : (args : List (Bor (List ℕ))) (e : Bor (List ℕ)) (d : Draft) (grid : Grid)
    (count points total : ℕ) (lines : List (List ℕ)) (cells : List Cell)
    → length args ≡ 1
    → is_out_of_place d keys.Shape ≡ false
    → ones (get_or args 0 e).now ≤ longest d.bias
    → is_shape (get_or args 0 e).now ≡ true
    → d.grid ≡ Some grid
    → 0 < length cells
    → cells ≡ cells_of (get_or args 0 e).now
    → lines ≡ placements_of grid cells
    → count ≡ length lines
    → points ≡ length cells
    → total ≡ sum_by length d.lines
    → (nat_lt 20000 (length d.lines + count) || nat_lt 400000 (total + count * points)) ≡ true
    → keyed d keys.Shape (map (λ w. w.now) args) ≡ Err faults.Limit
keyed_limit_of [] e d grid count points total lines cells one place few is on some same listed
    counted pointed totalled over = absurd (omega arith)
keyed_limit_of (w ∷ []) e d grid count points total lines cells one place few is on some same listed
    counted pointed totalled over = keyed_limit d w.now grid count points total lines cells place
    few is on some same listed counted pointed totalled over
keyed_limit_of (w ∷ v ∷ ws) e d grid count points total lines cells one place few is on some same
    listed counted pointed totalled over = absurd (omega arith)
