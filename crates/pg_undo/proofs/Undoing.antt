-- A trail after changes that are undone is the trail before them.
use Rattle.std.proofs.Common.{◌≡◌, ℕ, ◌+◌, ◌-◌, ◌<◌, ◌≤◌, List, [], ◌∷◌, ◌++◌, length, get_or, set}
use Rattle.std.proofs.Common.{take, drop, refl, sym, ap, ◌∙◌, arith}
use Rattle.std.proofs.lemmas.List.{set-set, set-get_or, take-append-drop, drop-append-le}
use Rattle.std.proofs.lemmas.List.{take-append-le, take-take, length-take-le, drop_at, take_at}
use Rattle.std.proofs.lemmas.List.{drop_all, take_all, length_push}
use Rattle.pg_undo.specs.Trail.{Cells, with_set, with_cell, before, back_to}

pub same_cells : (a b : Cells)
    → a.cells ≡ b.cells
    → a.entries ≡ b.entries
    → a.spare ≡ b.spare
    → a ≡ b
same_cells a b cells entries spare = λ i. record {
  cells = cells i;
  entries = entries i;
  spare = spare i;
}

before-append : (xs ys : List (ℕ × ℕ)) (cells : List ℕ)
    → before (xs ++ ys) cells ≡ before xs (before ys cells)
unfolding before
before-append [] ys cells = refl
before-append (e ∷ xs) ys cells = ap (λ (c : List ℕ). set c e.0 e.1) (before-append xs ys cells)

before-one : (e : ℕ × ℕ) (cells : List ℕ) → before (e ∷ []) cells ≡ set cells e.0 e.1
unfolding before
before-one e cells = refl

-- ---- one change

-- a change that is undone leaves each earlier level as it was
pub back_to-with_set : (level : ℕ) (t : Cells) (i v : ℕ)
    → level ≤ length t.entries
    → 1 ≤ t.spare
    → back_to level (with_set t i v) ≡ back_to level t
unfolding back_to with_set
back_to-with_set level t i v low room =
    let e : ℕ × ℕ = (i, get_or t.cells i 0) in
    let kept = drop-append-le level t.entries (e ∷ []) low in
    let cells : before (drop level (t.entries ++ e ∷ [])) (set t.cells i v)
    ≡ before (drop level t.entries) t.cells = ap (λ es. before es (set t.cells i v)) kept
    ∙ (before-append (drop level t.entries) (e ∷ []) (set t.cells i v)
    ∙ ap (before (drop level t.entries))
    (before-one e (set t.cells i v) ∙ (set-set t.cells i v e.1 ∙ set-get_or t.cells i 0))) in
    same_cells _ _ cells (take-append-le level t.entries (e ∷ []) low)
    (let more = length_push t.entries e in omega arith)

-- of two values that a cell is given, the second counts
pub with_cell-twice : (t : Cells) (i v w : ℕ) → with_cell (with_cell t i v) i w ≡ with_cell t i w
unfolding with_cell
with_cell-twice t i v w = same_cells _ _ (set-set t.cells i v w) refl refl

-- nor does it matter what a cell is given after its change was written down
pub back_to-with_cell : (level : ℕ) (t : Cells) (i v w : ℕ)
    → level ≤ length t.entries
    → 1 ≤ t.spare
    → back_to level (with_cell (with_set t i v) i w) ≡ back_to level (with_set t i v)
unfolding with_cell with_set
back_to-with_cell level t i v w low room =
    let same : with_cell (with_set t i v) i w ≡ with_set t i w =
    same_cells _ _ (set-set t.cells i v w) refl refl in
    ap (back_to level) same
    ∙ back_to-with_set level t i w low room
    ∙ sym (back_to-with_set level t i v low room)

pub back_to-level : (t : Cells) → back_to (length t.entries) t ≡ t
unfolding back_to before
back_to-level t = same_cells _ _
    (ap (λ es. before es t.cells) (drop_all (length t.entries) t.entries (omega arith)))
    (take_all (length t.entries) t.entries (omega arith)) (omega arith)

-- going back in two steps is going back in one
pub back_to-back_to : (low high : ℕ) (t : Cells)
    → low ≤ high
    → high ≤ length t.entries
    → back_to low (back_to high t) ≡ back_to low t
unfolding back_to
back_to-back_to low high t order within =
    let taken = length-take-le high t.entries within in
    let parts : drop low (take high t.entries) ++ drop high t.entries ≡ drop low t.entries =
    sym (drop-append-le low (take high t.entries) (drop high t.entries) (omega arith))
    ∙ ap (drop low) (take-append-drop high t.entries) in
    same_cells _ _
    (sym (before-append (drop low (take high t.entries)) (drop high t.entries) t.cells)
    ∙ ap (λ es. before es t.cells) parts) (take-take low high t.entries order) (omega arith)

-- ---- for the calls

pub set-is : (cells : List ℕ) (entries now : List (ℕ × ℕ)) (room i v x : ℕ)
    → now ≡ entries ++ (i, x) ∷ []
    → x ≡ get_or cells i 0
    → (let t : Cells = record {
      cells = set cells i v;
      entries = now;
      spare = room - length now;
    } in t) ≡ with_set (record {
      cells = cells;
      entries = entries;
      spare = room - length entries;
    }) i v
unfolding with_set
set-is cells entries now room i v x pushed read =
    let more : length now ≡ length entries + 1 = ap length pushed ∙ length_push entries (i, x) in
    same_cells _ _ refl (pushed ∙ ap (λ (y : ℕ). entries ++ (i, y) ∷ []) read) (omega arith)

pub taken-is : (cells : List ℕ) (entries now : List (ℕ × ℕ)) (room i v : ℕ)
    → entries ≡ now ++ (i, v) ∷ []
    → length entries ≤ room
    → (let t : Cells = record {
      cells = set cells i v;
      entries = now;
      spare = room - length now;
    } in t) ≡ back_to (length entries - 1) (record {
      cells = cells;
      entries = entries;
      spare = room - length entries;
    })
unfolding back_to
taken-is cells entries now room i v popped low =
    let e : ℕ × ℕ = (i, v) in
    let more : length entries ≡ length now + 1 = ap length popped ∙ length_push now e in
    let level : length now ≡ length entries - 1 = omega arith in
    let last : drop (length entries - 1) entries ≡ e ∷ [] =
    ap (drop (length entries - 1)) popped ∙ drop_at now (e ∷ []) (length entries - 1) level in
    let others : take (length entries - 1) entries ≡ now =
    ap (take (length entries - 1)) popped ∙ take_at now (e ∷ []) (length entries - 1) level in
    same_cells _ _ (sym (before-one e cells) ∙ ap (λ es. before es cells) (sym last)) (sym others)
    (omega arith)

pub length-back_to : (level : ℕ) (t : Cells)
    → level ≤ length t.entries
    → length (back_to level t).entries ≡ level
unfolding back_to
length-back_to level t low = length-take-le level t.entries low

-- one more entry taken back
pub back_to-more : (t was now : Cells) (level : ℕ)
    → now ≡ back_to (length was.entries - 1) was
    → was ≡ back_to (length was.entries) t
    → level < length was.entries
    → length was.entries ≤ length t.entries
    → (now ≡ back_to (length now.entries) t)
    × (level ≤ length now.entries)
    × (length now.entries ≤ length t.entries)
back_to-more t was now level step so_far more within =
    let fewer : length now.entries ≡ length was.entries - 1 =
    ap (λ (c : Cells). length c.entries) step
    ∙ length-back_to (length was.entries - 1) was (omega arith) in
    let two =
    back_to-back_to (length was.entries - 1) (length was.entries) t (omega arith) within in
    let is : now ≡ back_to (length was.entries - 1) t =
    step ∙ (ap (back_to (length was.entries - 1)) so_far ∙ two) in
    (is ∙ ap (λ k. back_to k t) (sym fewer), omega arith, omega arith)
