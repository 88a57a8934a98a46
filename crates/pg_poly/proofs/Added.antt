-- Lists of lines to which lines are added.
use Rattle.std.proofs.Common.{◌≡◌, ℕ, ◌+◌, ◌<◌, ◌≤◌, Bool, true, false, List, [], ◌∷◌, ◌++◌, refl}
use Rattle.std.proofs.Common.{sym, subst, arith, inl, inr}
use Rattle.std.specs.Prelude.{◌⊎◌}
use Rattle.pg_poly.proofs.Common.{Contains, IsPermutation, cases_eq, Contains-append_left}
use Rattle.pg_poly.proofs.Common.{Contains-push, Contains-push_cases, IsPermutation-sym}
use Rattle.pg_poly.proofs.Common.{IsPermutation-trans, Grid}
use Rattle.pg_poly.specs.declared.cell.Cell.{Cell}
use Rattle.pg_poly.specs.declared.motion.Motion.{Motion}
use Rattle.pg_poly.specs.Motions.{Adds, IsImage, IsMoved, IsSet, IsSetBefore, motion_to}
use Rattle.pg_poly.specs.Motions.{moved_points}
use Rattle.pg_base.specs.Line.{StandsTwice}
use Rattle.pg_base.proofs.LineLemmas.{not_twice}
use Rattle.pg_poly.proofs.Lists.{one_order_of_points}

pub one_line : (grid : Grid) (m : Motion) (cells : List Cell) (a b : List ℕ)
    → IsMoved grid m cells a
    → IsMoved grid m cells b
    → a ≡ b
one_line grid m cells a b h k = one_order_of_points b a
    (IsPermutation-trans _ _ _ (IsPermutation-sym _ _ k.points) h.points) k.ascending h.ascending

pub adds_line : (old new : List (List ℕ)) (P : List ℕ → Type 0) (line : List ℕ)
    → new ≡ old ++ line ∷ []
    → P line
    → ((other : List ℕ) → P other → line ≡ other)
    → Adds old new P
adds_line old new P line is has one = subst (λ ls. Adds old ls P) (sym is) (record {
  kept = λ other h. Contains-append_left old (line ∷ []) other h;
  whole = λ other h. subst (Contains (old ++ line ∷ [])) (one other h) (Contains-push old line);
  sound = λ other h. elim (Contains-push_cases old line other h) [
    | inl before ↦ inl before
    | inr same ↦ inr (subst P same has)
  ];
})

pub adds_none : (old : List (List ℕ)) (P : List ℕ → Type 0)
    → ((line : List ℕ) → P line → ⊥)
    → Adds old old P
adds_none old P none = record {
  kept = λ line h. h;
  whole = λ line h. absurd (none line h);
  sound = λ line h. inl h;
}

pub adds_same : (old new : List (List ℕ)) (P Q : List ℕ → Type 0)
    → ((line : List ℕ) → P line → Q line)
    → ((line : List ℕ) → Q line → P line)
    → Adds old new P
    → Adds old new Q
adds_same old new P Q there back h = record {
  kept = h.kept;
  whole = λ line q. h.whole line (back line q);
  sound = λ line c. elim (h.sound line c) [
    | inl before ↦ inl before
    | inr p ↦ inr (there line p)
  ];
}

pub adds_then : (a b c : List (List ℕ)) (P Q R : List ℕ → Type 0)
    → ((line : List ℕ) → P line → R line)
    → ((line : List ℕ) → Q line → R line)
    → ((line : List ℕ) → R line → P line ⊎ Q line)
    → Adds a b P
    → Adds b c Q
    → Adds a c R
adds_then a b c P Q R left right either h k = record {
  kept = λ line there. k.kept line (h.kept line there);
  whole = λ line r. elim (either line r) [
    | inl p ↦ k.kept line (h.whole line p)
    | inr q ↦ k.whole line q
  ];
  sound = λ line there. elim (k.sound line there) [
    | inl before ↦ elim (h.sound line before) [
      | inl first ↦ inl first
      | inr p ↦ inr (left line p)
    ]
    | inr q ↦ inr (right line q)
  ];
}

module _ (grid : Grid) (rows columns : Bool) (first : Cell) (cells : List Cell) where
  abbrev Before : ℕ → ℕ → List ℕ → Type 0
  Before row column = IsSetBefore grid rows columns first cells row column

  pub sets_start : (old : List (List ℕ)) → Adds old old (Before 0 0)
  sets_start old = adds_none old (Before 0 0) (λ line h. elim h.before [
    | inl row ↦ omega arith
    | inr column ↦ let none = column.1 in omega arith
  ])

  one_more : (row column : ℕ) (line : List ℕ)
      → Before row (column + 1) line
      → Before row column line ⊎ IsMoved grid (motion_to rows columns first row column) cells line
  one_more row column line h = elim h.before [
    | inl less ↦ inl (record {
      row = h.row;
      column = h.column;
      low = h.low;
      left = h.left;
      before = inl less;
      moved = h.moved;
    })
    | inr here ↦ elim (cases_eq h.column column) [
      | inl same ↦ inr
          (subst (λ r. IsMoved grid (motion_to rows columns first r column) cells line) here.0
          (subst (λ c. IsMoved grid (motion_to rows columns first h.row c) cells line) same
          h.moved))
      | inr other ↦
          let less = here.1 in
          inl (record {
            row = h.row;
            column = h.column;
            low = h.low;
            left = h.left;
            before = inr (here.0, omega arith);
            moved = h.moved;
          })
    ]
  ]

  pub sets_more : (old now new : List (List ℕ)) (row column to_row to_column : ℕ)
      → row < grid.height
      → column < grid.width
      → to_row ≡ row
      → to_column ≡ column
      → Adds old now (Before row column)
      → Adds now new (IsMoved grid (motion_to rows columns first to_row to_column) cells)
      → Adds old new (Before row (column + 1))
  sets_more old now new row column to_row to_column low left p q h k = adds_then old now new
      (Before row column) (IsMoved grid (motion_to rows columns first row column) cells)
      (Before row (column + 1)) wider here (one_more row column) h
      (subst (λ r. Adds now new (IsMoved grid (motion_to rows columns first r column) cells)) p
      (subst (λ c. Adds now new (IsMoved grid (motion_to rows columns first to_row c) cells)) q k))
    where
      wider : (line : List ℕ) → Before row column line → Before row (column + 1) line
      wider line b = elim b.before [
        | inl less ↦ record {
          row = b.row;
          column = b.column;
          low = b.low;
          left = b.left;
          before = inl less;
          moved = b.moved;
        }
        | inr at ↦
            let less = at.1 in
            record {
              row = b.row;
              column = b.column;
              low = b.low;
              left = b.left;
              before = inr (at.0, omega arith);
              moved = b.moved;
            }
      ]

      here : (line : List ℕ)
          → IsMoved grid (motion_to rows columns first row column) cells line
          → Before row (column + 1) line
      here line m = record {
        row = row;
        column = column;
        low = low;
        left = left;
        before = inr (refl, omega arith);
        moved = m;
      }

  pub sets_row : (old new : List (List ℕ)) (row column : ℕ)
      → grid.width ≤ column
      → row < grid.height
      → Adds old new (Before row column)
      → Adds old new (Before (row + 1) 0)
  sets_row old new row column all low h =
      adds_same old new (Before row column) (Before (row + 1) 0) there back h
    where
      there : (line : List ℕ) → Before row column line → Before (row + 1) 0 line
      there line b = elim b.before [
        | inl less ↦ record {
          row = b.row;
          column = b.column;
          low = b.low;
          left = b.left;
          before = inl (omega arith);
          moved = b.moved;
        }
        | inr at ↦
            let same = at.0 in
            record {
              row = b.row;
              column = b.column;
              low = b.low;
              left = b.left;
              before = inl (omega arith);
              moved = b.moved;
            }
      ]

      back : (line : List ℕ) → Before (row + 1) 0 line → Before row column line
      back line b = elim b.before [
        | inl less ↦ elim (cases_eq b.row row) [
          | inl same ↦
              let inside = b.left in
              record {
                row = b.row;
                column = b.column;
                low = b.low;
                left = b.left;
                before = inr (same, omega arith);
                moved = b.moved;
              }
          | inr other ↦ record {
            row = b.row;
            column = b.column;
            low = b.low;
            left = b.left;
            before = inl (omega arith);
            moved = b.moved;
          }
        ]
        | inr at ↦ let none = at.1 in absurd (omega arith)
      ]

  pub sets_all : (old new : List (List ℕ)) (row : ℕ)
      → grid.height ≤ row
      → Adds old new (Before row 0)
      → Adds old new (IsSet grid rows columns first cells)
  sets_all old new row all h =
      adds_same old new (Before row 0) (IsSet grid rows columns first cells) (λ line b. record {
        row = b.row;
        column = b.column;
        low = b.low;
        left = b.left;
        moved = b.moved;
      }) (λ line s.
      let inside = s.low in
      record {
        row = s.row;
        column = s.column;
        low = s.low;
        left = s.left;
        before = inl (omega arith);
        moved = s.moved;
      }) h

module _ (grid : Grid) (first : Cell) (cells : List Cell) where
  abbrev Set : Bool → Bool → List ℕ → Type 0
  Set rows columns = IsSet grid rows columns first cells

  pub images_all : (a b c d e : List (List ℕ))
      → Adds a b (Set false false)
      → Adds b c (Set false true)
      → Adds c d (Set true false)
      → Adds d e (Set true true)
      → Adds a e (IsImage grid first cells)
  images_all a b c d e h k l m =
      let front = adds_then a b c (Set false false) (Set false true)
      (λ line. Set false false line ⊎ Set false true line) (λ line p. inl p) (λ line q. inr q)
      (λ line r. r) h k in
      let behind = adds_then c d e (Set true false) (Set true true)
      (λ line. Set true false line ⊎ Set true true line) (λ line p. inl p) (λ line q. inr q)
      (λ line r. r) l m in
      adds_then a c e (λ line. Set false false line ⊎ Set false true line)
      (λ line. Set true false line ⊎ Set true true line)
      (IsImage grid first cells) one two either front behind
    where
      one : (line : List ℕ)
          → Set false false line ⊎ Set false true line
          → IsImage grid first cells line
      one line (inl s) = (false, false, s)
      one line (inr s) = (false, true, s)

      two : (line : List ℕ)
          → Set true false line ⊎ Set true true line
          → IsImage grid first cells line
      two line (inl s) = (true, false, s)
      two line (inr s) = (true, true, s)

      either : (line : List ℕ)
          → IsImage grid first cells line
          → (Set false false line ⊎ Set false true line)
          ⊎ (Set true false line ⊎ Set true true line)
      either line (false, false, s) = inl (inl s)
      either line (false, true, s) = inl (inr s)
      either line (true, false, s) = inr (inl s)
      either line (true, true, s) = inr (inr s)

-- points of which one stands twice are no line
pub repeated_none : (grid : Grid) (m : Motion) (cells : List Cell) (line points : List ℕ)
    → points ≡ moved_points grid m cells
    → StandsTwice points
    → IsMoved grid m cells line
    → ⊥
repeated_none grid m cells line points is twice h =
    not_twice line points (subst (λ ps. IsPermutation ps line) (sym is) h.points) h.ascending twice
