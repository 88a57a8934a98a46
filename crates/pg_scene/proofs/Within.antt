-- Each item of a scene can stand on its board.
use Rattle.std.proofs.Common.{◌≡◌, ℕ, zero, suc, ◌+◌, ◌*◌, ◌<◌, ◌≤◌, Bool, true, false, ◌&&◌, List}
use Rattle.std.proofs.Common.{[], ◌∷◌, ◌++◌, length, take, get_or, Option, Some, None, refl, sym}
use Rattle.std.proofs.Common.{ap, ◌∙◌, inl, inr, subst, true≢false, arith}
use Rattle.std.specs.Prelude.{nat_lt, ◌==◌}
use Rattle.pg_scene.proofs.Common.{FinSet, decimal, All, AllByRecursion, flat_map, range_with_len}
use Rattle.pg_scene.proofs.Common.{nat_cmp, and_parts, cases_Bool, eqb-true, nat_tests}
use Rattle.pg_scene.proofs.Common.{flat_map-cons, All-append, All-map, All-nil, Contains-get_or}
use Rattle.pg_scene.proofs.Common.{points_below, Kind, Pair, Side, position_of, Claim, Node, Body}
use Rattle.pg_scene.proofs.Common.{Reply, field_points, AreLinesOf, FieldFits, IsFit, IsLineOf}
use Rattle.pg_scene.proofs.Common.{is_graph, longest, free_points, lines_of, point_count, start}
use Rattle.pg_scene.proofs.Common.{Field, Lines, Game, Position, line-fit}
use Rattle.std.proofs.lemmas.List.FromFn.{get_or-range_with_len, length-range_with_len}
use Rattle.pg_base.specs.declared.grid.Grid.{Grid as Cells}
use Rattle.pg_layout.specs.declared.chart.Chart.{Chart}
use Rattle.pg_base.proofs.MemberLemmas.{points_below-small}
use Rattle.pg_cert.specs.declared.node.Body.TheVariants as bodies
use Rattle.pg_game.specs.declared.field.Field.TheVariants.{Graph as OnGraph}
use Rattle.pg_game.proofs.Greatest.{member-within}
use Rattle.pg_captions.specs.Look.{are_drawn}
use Rattle.pg_scene.specs.Items.{body_items, fault_items, line_item, line_items, mark_of}
use Rattle.pg_scene.specs.Items.{member_items, numbered, pair_item, point_items, reply_item}
use Rattle.pg_captions.specs.Look.{seen_at}
use Rattle.pg_scene.specs.Items.{seen_if, set_items, step_item, units, weight_items}
use Rattle.pg_scene.specs.Limits.{IsBoard, IsItemOn, HasFurther, IsScene, points_on}
use Rattle.pg_scene.specs.Recorded.{IsSceneOfMoves, move_items}
use Rattle.pg_captions.specs.MoveLegends.{moves_by}
use Rattle.pg_captions.proofs.Short.{game-few, moves-few, node-few}
use Rattle.pg_scene.specs.Scenes.{IsBoardOf, IsSceneOf, IsSceneOfGame, laid_board}
use Rattle.pg_scene.specs.Scenes.{line_board}
use Rattle.pg_captions.specs.Legends.{game_legend, node_legend}
use Rattle.pg_scene.specs.declared.board.Board.{Board}
use Rattle.pg_scene.specs.declared.item.Item.{Item}
use Rattle.pg_scene.specs.declared.item.Item.TheVariants as items
use Rattle.pg_scene.specs.declared.item.Set.{Set}
use Rattle.pg_scene.specs.declared.item.Set.TheVariants.{First, Second}
use Rattle.pg_captions.specs.declared.look.Look.{Look}
use Rattle.pg_scene.specs.declared.scene.Scene.{Scene}

-- ---- lists of items

on-one : {X : Type 0} (P : X → Type 0) (x : X) → P x → All P (x ∷ [])
on-one P x h zero d lt = h
on-one P x h (suc k) d lt = absurd (omega arith)

pub on-all : {X : Type 0} (P : X → Type 0) (xs : List X) → AllByRecursion P xs → All P xs
on-all P [] h k d lt = absurd (omega arith)
on-all P (x ∷ xs) h zero d lt = h.0
on-all P (x ∷ xs) h (suc k) d lt = on-all P xs h.1 k d (omega arith)

pub on-seen : (P : Item → Type 0) (b : Bool) (item : Item)
    → (b ≡ true → P item)
    → All P (seen_if b item)
on-seen P true item h = on-one P item (h refl)
on-seen P false item h = All-nil P

pub on-numbered : {A : Type 0} (P : Item → Type 0) (item : ℕ → A → List Item)
    → ((k : ℕ) (a : A) → All P (item k a))
    → (k : ℕ) (xs : List A) → All P (numbered item k xs)
on-numbered P item h k [] = All-nil P
on-numbered P item h k (x ∷ xs) =
    All-append P (item k x) (numbered item (suc k) xs) (h k x) (on-numbered P item h (suc k) xs)

on-flat : {A : Type 0} (P : Item → Type 0) (item : A → List Item)
    → ((a : A) → All P (item a))
    → (xs : List A) → All P (flat_map item xs)
on-flat P item h [] = All-nil P
on-flat P item h (x ∷ xs) = subst (All P) (sym (flat_map-cons item x xs))
    (All-append P (item x) (flat_map item xs) (h x) (on-flat P item h xs))

-- ---- what is drawn

pub on-points : (board : Board) (n : ℕ) (p : Position)
    → n ≤ points_on board
    → All (IsItemOn board) (point_items n p)
on-points board n p le =
    All-map (IsItemOn board) (λ v. items.Point v (mark_of p v)) (range_with_len 0 n) (λ k d lt.
    let count = length-range_with_len 0 n in
    let at : get_or (range_with_len 0 n) k d ≡ 0 + k =
    get_or-range_with_len 0 n k d (omega arith) in
    omega arith)

longest-few : (bias : ℕ) → longest bias ≤ 100
longest-few bias = elim (cases_Bool (bias == 1)) [
  | inl one ↦ rw one (omega arith)
  | inr several ↦ rw several (omega arith)
]

on-line : (board : Board) (g : Game) (i : ℕ)
    → point_count g ≤ points_on board
    → i < length (lines_of g)
    → IsItemOn board (line_item (lines_of g) i)
on-line board g i le lt =
    let line = get_or (lines_of g) i [] in
    let fit : IsLineOf (point_count g) g.bias line =
    line-fit g line (Contains-get_or (lines_of g) i [] lt) in
    let most = longest-few g.bias in (
      fit.some,
      omega (arith, fit.short, most),
      λ k e inside. omega (arith, fit.range k e inside, le),
    )

on-lines : (board : Board) (seen : Bool) (g : Game)
    → point_count g ≤ points_on board
    → All (IsItemOn board) (line_items seen (lines_of g))
on-lines board seen g le = elim (cases_Bool (are_drawn seen (lines_of g))) [
  | inl few ↦ rw few
      (All-map (IsItemOn board) (line_item (lines_of g)) (range_with_len 0 (length (lines_of g)))
      (λ k d lt.
      let n = length (lines_of g) in
      let count = length-range_with_len 0 n in
      let at : get_or (range_with_len 0 n) k d ≡ 0 + k =
      get_or-range_with_len 0 n k d (omega (arith, count, lt)) in
      on-line board g (get_or (range_with_len 0 n) k d) le (omega (arith, at, count, lt))))
  | inr many ↦ rw many (All-nil (IsItemOn board))
]

pub below-of : (v n : ℕ) → nat_lt v n ≡ true → v < n
below-of v n h = grind (arith, nat_tests)

on-weights : (board : Board) (g : Game) (p : Position) (side : Side)
    → point_count g ≤ points_on board
    → All (IsItemOn board) (weight_items g p side)
on-weights board g p side le = elim (cases_Bool (is_graph g.field)) [
  | inl graph ↦ rw graph (All-nil (IsItemOn board))
  | inr lines ↦ rw lines
      (All-map (IsItemOn board) (λ v. items.Weight v (decimal (units g p side v))) (free_points g p)
      (λ k d lt.
      let within =
      member-within g p (get_or (free_points g p) k d) (Contains-get_or (free_points g p) k d lt) in
      omega (arith, within, le)))
]

pub on-members : (board : Board) (n : ℕ) (set : Set) (edges : FinSet nat_cmp)
    → n ≤ points_on board
    → All (IsItemOn board) (member_items n set edges)
on-members board n set edges le =
    All-map (IsItemOn board) (λ v. items.Member v set) (points_below edges n) (λ k d lt.
    let small = on-all (λ v. v < n) (points_below edges n) (points_below-small edges n) k d lt in
    omega (arith, small, le))

on-sets : (board : Board) (g : Game) (with_e : Bool) (first second : FinSet nat_cmp)
    → point_count g ≤ points_on board
    → (is_graph g.field ≡ true → HasFurther board)
    → All (IsItemOn board) (set_items g with_e first second)
on-sets board g with_e first second le two =
    let further = on-seen (IsItemOn board) (with_e && is_graph g.field) (items.Extra First)
    (λ h. two (and_parts _ _ h).1) in
    All-append (IsItemOn board) (seen_if (with_e && is_graph g.field) (items.Extra First))
    (member_items (point_count g) First first ++ member_items (point_count g) Second second) further
    (All-append (IsItemOn board) (member_items (point_count g) First first)
    (member_items (point_count g) Second second) (on-members board (point_count g) First first le)
    (on-members board (point_count g) Second second le))

on-steps : (board : Board) (n : ℕ) (points : List ℕ)
    → n ≤ points_on board
    → All (IsItemOn board) (move_items n points)
on-steps board n points le = on-numbered (IsItemOn board) (step_item n)
    (λ k v. on-seen (IsItemOn board) (nat_lt v n) (items.Step v k)
    (λ h. let lt = below-of v n h in omega (arith, lt, le))) 1 points

on-body : (board : Board) (g : Game) (p : Position) (side : Side) (body : Body)
    → point_count g ≤ points_on board
    → (is_graph g.field ≡ true → HasFurther board)
    → All (IsItemOn board) (body_items g p side body)
on-body board g p side bodies.Over le two = All-nil (IsItemOn board)
on-body board g p side (bodies.Move v child) le two =
    on-seen (IsItemOn board) (nat_lt v (point_count g)) (items.Move v child)
    (λ h. let lt = below-of v (point_count g) h in omega (arith, lt, le))
on-body board g p side (bodies.All replies) le two =
    on-flat (IsItemOn board) (reply_item (point_count g)) (λ (r : Reply).
    on-seen (IsItemOn board) (nat_lt r.point (point_count g)) (items.Reply r.point r.child)
    (λ h. let lt = below-of r.point (point_count g) h in omega (arith, lt, le))) replies
on-body board g p side (bodies.Pairs pairs) le two =
    on-numbered (IsItemOn board) (pair_item (point_count g))
    (λ k (q : Pair). on-seen (IsItemOn board)
    (nat_lt q.a (point_count g) && nat_lt q.b (point_count g)) (items.Pair q.a q.b k) (λ h.
    let both = and_parts _ _ h in
    let first = below-of q.a (point_count g) both.0 in
    let second = below-of q.b (point_count g) both.1 in
    (omega (arith, first, le), omega (arith, second, le)))) 0 (take (point_count g) pairs)
on-body board g p side bodies.Potential le two = on-weights board g p side le
on-body board g p side (bodies.Trees with_e first second) le two =
    on-sets board g with_e first second le two
on-body board g p side (bodies.Cuts with_e first second) le two =
    on-sets board g with_e first second le two
on-body board g p side (bodies.Threat points) le two = on-steps board (point_count g) points le
on-body board g p side (bodies.Weaker child) le two = All-nil (IsItemOn board)

pub on-fault : (board : Board) (fault : Option ℕ) → All (IsItemOn board) (fault_items fault)
on-fault board (Some why) = on-one (IsItemOn board) items.Fault tt
on-fault board None = All-nil (IsItemOn board)

-- ---- boards

count-line : (grid : Option Cells) (points : ℕ)
    → ((cells : Cells) → grid ≡ Some cells → cells.width * cells.height ≡ points)
    → points_on (line_board grid points) ≡ points
count-line None points h = refl
count-line (Some cells) points h = h cells refl

board-line : (grid : Option Cells) (points : ℕ)
    → ((cells : Cells) → grid ≡ Some cells → cells.width * cells.height ≡ points)
    → 1 ≤ points
    → points ≤ 256
    → IsBoard (line_board grid points)
board-line None points h some few = (some, few)
board-line (Some cells) points h some few =
    let whole = h cells refl in
    (omega (arith, whole, some), omega (arith, whole, few))

count-laid : (layout : Option Chart) (grid : Option Cells) (points : ℕ)
    → ((cells : Cells) → grid ≡ Some cells → cells.width * cells.height ≡ points)
    → points_on (laid_board layout grid points) ≡ points
count-laid None grid points h = count-line grid points h
count-laid (Some chart) (Some cells) points h = count-line (Some cells) points h
count-laid (Some chart) None points h = elim (cases_Bool (chart.count == points)) [
  | inl same ↦ rw same (eqb-true chart.count points same)
  | inr other ↦ rw other refl
]

board-laid : (layout : Option Chart) (grid : Option Cells) (points : ℕ)
    → ((cells : Cells) → grid ≡ Some cells → cells.width * cells.height ≡ points)
    → 1 ≤ points
    → points ≤ 256
    → IsBoard (laid_board layout grid points)
board-laid None grid points h some few = board-line grid points h some few
board-laid (Some chart) (Some cells) points h some few =
    board-line (Some cells) points h some few
board-laid (Some chart) None points h some few = elim (cases_Bool (chart.count == points)) [
  | inl same ↦
      let is = eqb-true chart.count points same in
      rw same (omega (arith, is, some), omega (arith, is, few))
  | inr other ↦ rw other (some, few)
]

record Fitting (field : Field) (board : Board) : Type 0 where
  pub is_board : IsBoard board
  pub points : points_on board ≡ field_points field
  pub two : is_graph field ≡ true → HasFurther board

fitting : (kind : Kind) (bias : ℕ) (layout : Option Chart) (field : Field) (board : Board)
    → FieldFits kind field bias
    → IsBoardOf layout field board
    → Fitting field board
fitting kind bias layout (Lines f) board fits is =
    let within : AreLinesOf bias f = fits.on_lines f refl in
    record {
      is_board = subst IsBoard (sym is)
          (board-laid layout f.grid f.points within.cells within.some_points within.few_points);
      points = ap points_on is ∙ count-laid layout f.grid f.points within.cells;
      two = λ h. absurd (true≢false (sym h));
    }
fitting kind bias layout (OnGraph h) board fits is =
    let within = fits.on_graph h refl in
    record {
      is_board = subst IsBoard (sym is.same) (record {
        some_vertices = within.some_vertices;
        few_vertices = within.few_vertices;
        few_edges = within.few_edges;
        on_ends = within.ends;
        on_terminals =
            on-all (λ u. u < h.vertices) (h.s ∷ h.t ∷ []) (within.s_range, (within.t_range, tt));
        few_terminals = omega arith;
        is_bridge = is.found;
      });
      points = ap points_on is.same;
      two = λ _. subst HasFurther (sym is.same) refl;
    }

fitting-game : (g : Game) (layout : Option Chart) (board : Board)
    → IsBoardOf layout g.field board
    → Fitting g.field board
fitting-game g layout board is =
    let fits : IsFit g.kind g.field g.x g.y g.bias = g.fits in
    fitting g.kind g.bias layout g.field board fits.within is

-- ---- scenes

pub IsScene-game : (look : Look) (g : Game) (scene : Scene)
    → IsSceneOfGame look g scene
    → IsScene scene
IsScene-game look g scene is =
    let fit = fitting-game g look.layout scene.board is.board in
    let le : point_count g ≤ points_on scene.board = omega (arith, fit.points) in
    let p = seen_at look.blank (start g) in
    record {
      board = fit.is_board;
      items = subst (All (IsItemOn scene.board)) (sym is.items)
          (All-append (IsItemOn scene.board) (point_items (point_count g) p)
          (line_items look.lines (lines_of g)) (on-points scene.board (point_count g) p le)
          (on-lines scene.board look.lines g le));
      few_lines =
          let same : length scene.legend ≡ length (game_legend look g p) = ap length is.legend in
          omega (arith, same, game-few look.legend look g p);
    }

pub IsScene-node : (look : Look) (g : Game) (claim : Claim) (number : ℕ) (node : Node)
    (fault : Option ℕ) (scene : Scene)
    → IsSceneOf look g claim number node fault scene
    → IsScene scene
IsScene-node look g claim number node fault scene is =
    let fit = fitting-game g look.layout scene.board is.board in
    let on = IsItemOn scene.board in
    let le : point_count g ≤ points_on scene.board = omega (arith, fit.points) in
    let body = body_items g (position_of node) claim.side node.body in
    record {
      board = fit.is_board;
      items = subst (All on) (sym is.items)
          (All-append on (point_items (point_count g) (position_of node))
          (line_items look.lines (lines_of g) ++ (body ++ fault_items fault))
          (on-points scene.board (point_count g) (position_of node) le)
          (All-append on (line_items look.lines (lines_of g)) (body ++ fault_items fault)
          (on-lines scene.board look.lines g le) (All-append on body (fault_items fault)
          (on-body scene.board g (position_of node) claim.side node.body le fit.two)
          (on-fault scene.board fault))));
      few_lines =
          let same : length scene.legend
          ≡ length (node_legend look g claim (position_of node) node.body fault) =
          ap length is.legend in
          omega (
            arith,
            same,
            node-few look.legend look g claim (position_of node) node.body fault,
          );
    }

pub IsScene-moves : (look : Look) (g : Game) (p : Position) (over : Bool) (moves : List ℕ)
    (scene : Scene)
    → IsSceneOfMoves look g p over moves scene
    → IsScene scene
IsScene-moves look g p over moves scene is =
    let fit = fitting-game g look.layout scene.board is.board in
    let on = IsItemOn scene.board in
    let n = point_count g in
    let le : n ≤ points_on scene.board = omega (arith, fit.points) in
    record {
      board = fit.is_board;
      items = subst (All on) (sym is.items)
          (All-append on (point_items n p)
          (line_items look.lines (lines_of g) ++ move_items n moves) (on-points scene.board n p le)
          (All-append on (line_items look.lines (lines_of g)) (move_items n moves)
          (on-lines scene.board look.lines g le) (on-steps scene.board n moves le)));
      few_lines =
          let same : length scene.legend ≡ length (moves_by look.legend look g p over moves) =
          ap length is.legend in
          omega (arith, same, moves-few look.legend look g p over moves);
    }
