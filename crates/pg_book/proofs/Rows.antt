-- The board that the definition of boards finds is the one that a scene has.
use Rattle.std.proofs.Common.{◌≡◌, ◌∙◌, ℕ, zero, suc, ◌+◌, ◌*◌, ◌-◌, ◌<◌, ◌≤◌, Bool, true, false}
use Rattle.std.proofs.Common.{true≢false, List, [], ◌∷◌, Option, Some, None, refl, sym, ap, ap₂}
use Rattle.std.proofs.Common.{subst, inl, inr, arith, eq-eqb}
use Rattle.std.specs.Prelude.{◌&&◌, ◌==◌, if◌then◌else◌, nat_le, IfNone, IfSome}
use Rattle.std.proofs.lemmas.Bool.{and_parts, cases_lt, eqb-true}
use Rattle.std.proofs.lemmas.Bool.Decides.{nat_tests}
use Rattle.std.proofs.lemmas.Nat.{mul-lt}
use Rattle.pg_game.specs.declared.field.Field.{Field}
use Rattle.pg_game.specs.declared.field.Field.TheVariants as fields
use Rattle.pg_gen.specs.Bridge.{has_bridge}
use Rattle.pg_gen.specs.declared.limits.TheConstants.{MAX_BRIDGE_ROWS}
use Rattle.pg_graph.specs.declared.graph.Graph.{Graph as Multigraph}
use Rattle.pg_layout.specs.declared.chart.Chart.{Chart}
use Rattle.pg_scene.specs.Limits.{IsBridge}
use Rattle.pg_scene.specs.Scenes.{IsBoardOf}
use Rattle.pg_scene.specs.declared.board.Board.{Board}
use Rattle.pg_scene.specs.declared.board.Board.TheVariants.{Graph}
use Rattle.pg_captions.specs.declared.look.Look.{Look}
use Rattle.pg_book.specs.Boards.{are_same, board_of}
use Rattle.pg_book.specs.Scenes.{page_look}
unfoldable use Rattle.pg_book.specs.Boards.{is_bridge, rows_below, rows_of}

-- ---- tests

both : (a b : Bool) → a ≡ true → b ≡ true → (a && b) ≡ true
both a b one other = ap₂ (λ x y. x && y) one other

same-self : (es : List (ℕ × ℕ)) → are_same es es ≡ true
same-self [] = refl
same-self (e ∷ es) = both (e.0 == e.0) (e.1 == e.1 && are_same es es) (eq-eqb e.0 e.0 refl)
    (both (e.1 == e.1) (are_same es es) (eq-eqb e.1 e.1 refl) (same-self es))

same-true : (es fs : List (ℕ × ℕ)) → are_same es fs ≡ true → es ≡ fs
same-true [] [] is = refl
same-true [] (f ∷ fs) is = absurd (true≢false (sym is))
same-true (e ∷ es) [] is = absurd (true≢false (sym is))
same-true (e ∷ es) (f ∷ fs) is =
    let one = and_parts (e.0 == f.0) (e.1 == f.1 && are_same es fs) is in
    let other = and_parts (e.1 == f.1) (are_same es fs) one.1 in
    ap₂ (λ (x : ℕ × ℕ) (xs : List (ℕ × ℕ)). x ∷ xs)
    (ap₂ (λ (x y : ℕ). (x, y)) (eqb-true e.0 f.0 one.0) (eqb-true e.1 f.1 other.0))
    (same-true es fs other.1)

-- ---- rows

-- the terminals of a board of Bridg-It
first-two : (s t : ℕ) → s ∷ t ∷ [] ≡ 0 ∷ 1 ∷ [] → (s ≡ 0) × (t ≡ 1)
first-two s t is = (cc, cc)

-- the test holds of the rows of the board
tested : (h : Multigraph) (r : ℕ)
    → IsBridge h.vertices h.ends (h.s ∷ h.t ∷ []) r
    → is_bridge h r ≡ true
unfolding is_bridge
tested h r is = let ends = first-two h.s h.t is.same_terminals in
    both (has_bridge r) _ is.has_rows
    (both (h.vertices == r * (r - 1) + 2) _ (eq-eqb _ _ is.same_vertices)
    (both (h.s == 0) _ (eq-eqb _ _ ends.0)
    (both (h.t == 1) _ (eq-eqb _ _ ends.1)
    (subst (λ es. are_same h.ends es ≡ true) is.same_ends (same-self h.ends)))))

-- and of them alone
tells : (h : Multigraph) (r : ℕ)
    → is_bridge h r ≡ true
    → IsBridge h.vertices h.ends (h.s ∷ h.t ∷ []) r
unfolding is_bridge
tells h r is =
    let one = and_parts (has_bridge r) _ is in
    let two = and_parts (h.vertices == r * (r - 1) + 2) _ one.1 in
    let three = and_parts (h.s == 0) _ two.1 in
    let four = and_parts (h.t == 1) _ three.1 in
    record {
      has_rows = one.0;
      same_vertices = eqb-true _ _ two.0;
      same_ends = same-true _ _ four.1;
      same_terminals = ap₂ (λ (s t : ℕ). s ∷ t ∷ []) (eqb-true _ _ three.0) (eqb-true _ _ four.0);
    }

fewer : (r q : ℕ) → 1 ≤ r → r < q → r * (r - 1) ≡ q * (q - 1) → ⊥
fewer r q some lt same =
    let more : r * (r - 1) < q * (q - 1) = mul-lt r (r - 1) q (q - 1) lt (omega arith) in
    omega arith

-- a number of vertices says how many rows there are
one-number : (r q : ℕ) → 1 ≤ r → 1 ≤ q → r * (r - 1) ≡ q * (q - 1) → r ≡ q
one-number r q some many same = elim (cases_lt r q) [
  | inl lt ↦ absurd (fewer r q some lt same)
  | inr ge ↦ elim (cases_lt q r) [
    | inl lt ↦ absurd (fewer q r many lt (sym same))
    | inr le ↦ omega arith
  ]
]

some-rows : (r : ℕ) → has_bridge r ≡ true → 1 ≤ r
some-rows r has = let parts = and_parts (nat_le 1 r) (nat_le r MAX_BRIDGE_ROWS) has in
    let first = parts.0 in grind (arith, nat_tests)

few-rows : (r : ℕ) → has_bridge r ≡ true → r < suc MAX_BRIDGE_ROWS
few-rows r has = let parts = and_parts (nat_le 1 r) (nat_le r MAX_BRIDGE_ROWS) has in
    let second = parts.1 in grind (arith, nat_tests)

one-board : (h : Multigraph) (r q : ℕ)
    → IsBridge h.vertices h.ends (h.s ∷ h.t ∷ []) r
    → IsBridge h.vertices h.ends (h.s ∷ h.t ∷ []) q
    → r ≡ q
one-board h r q one other =
    let same : r * (r - 1) + 2 ≡ q * (q - 1) + 2 = sym one.same_vertices ∙ other.same_vertices in
    one-number r q (some-rows r one.has_rows) (some-rows q other.has_rows) (omega (arith, same))

-- ---- what is found

-- rows of a board that the graph is
record IsFound (h : Multigraph) (found : Option ℕ) : Type 0 where
  rows : ℕ
  is : found ≡ Some rows
  bridge : is_bridge h rows ≡ true

found-by : (h : Multigraph) (n r : ℕ) (b : Bool)
    → is_bridge h n ≡ b
    → r < suc n
    → is_bridge h r ≡ true
    → (r < n → IsFound h (rows_below h n))
    → IsFound h (if b then Some n else rows_below h n)
found-by h n r true has lt is rest = record { rows = n; is = refl; bridge = has }
found-by h n r false has lt is rest = elim (cases_lt r n) [
  | inl less ↦ rest less
  | inr more ↦
      let same : r ≡ n = omega arith in
      absurd (true≢false (sym is ∙ ap (is_bridge h) same ∙ has))
]

finds : (h : Multigraph) (n r : ℕ)
    → r < n
    → is_bridge h r ≡ true
    → IsFound h (rows_below h n)
unfolding rows_below
finds h zero r lt is = absurd (omega arith)
finds h (suc n) r lt is =
    found-by h n r (is_bridge h n) refl lt is (λ less. finds h n r less is)

missed-by : (h : Multigraph) (n : ℕ) (b : Bool)
    → is_bridge h n ≡ b
    → (is_bridge h n ≡ true → ⊥)
    → rows_below h n ≡ None
    → (if b then Some n else rows_below h n) ≡ None
missed-by h n true has never rest = absurd (never has)
missed-by h n false has never rest = rest

misses : (h : Multigraph) (n : ℕ)
    → ((r : ℕ) → is_bridge h r ≡ true → ⊥)
    → rows_below h n ≡ None
unfolding rows_below
misses h zero never = refl
misses h (suc n) never =
    missed-by h n (is_bridge h n) refl (never n) (misses h n never)

-- ---- boards

rows-same : (h : Multigraph) (rows : Option ℕ)
    → IfSome rows (IsBridge h.vertices h.ends (h.s ∷ h.t ∷ []))
    → IfNone rows ((r : ℕ) → IsBridge h.vertices h.ends (h.s ∷ h.t ∷ []) r → ⊥)
    → rows ≡ rows_of h
unfolding rows_of
rows-same h (Some r) found missed =
    let one = finds h (suc MAX_BRIDGE_ROWS) r (few-rows r found.has_rows) (tested h r found) in
    ap Some (one-board h r one.rows found (tells h one.rows one.bridge)) ∙ sym one.is
rows-same h None found missed =
    sym (misses h (suc MAX_BRIDGE_ROWS) (λ r is. missed r (tells h r is)))

-- the board of a scene with this layout
pub laid-same : (chart : Option Chart) (field : Field) (board : Board)
    → IsBoardOf chart field board
    → board ≡ board_of chart field
laid-same chart (fields.Lines f) board is = is
laid-same chart (fields.Graph h) board is = is.same
    ∙ ap (Graph h.vertices h.ends (h.s ∷ h.t ∷ [])) (rows-same h is.rows is.found is.missed)

-- that of a page's scene
pub board-same : (chart : Option Chart) (look : Look) (field : Field) (board : Board)
    → look ≡ page_look chart
    → IsBoardOf look.layout field board
    → board ≡ board_of chart field
board-same chart look field board looks is =
    laid-same chart field board (subst (λ (l : Look). IsBoardOf l.layout field board) looks is)
