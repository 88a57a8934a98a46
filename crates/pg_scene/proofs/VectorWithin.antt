-- Each item of the scene of a game on vectors can stand on its board.
use Rattle.std.proofs.Common.{◌≡◌, ℕ, ◌≤◌, Bool, true, List, [], ◌++◌, length, map, Option, sym, ap}
use Rattle.std.proofs.Common.{◌∙◌, subst, arith}
use Rattle.pg_scene.proofs.Common.{All, All-append, All-nil, FinSet, nat_cmp, position_of, Claim}
use Rattle.pg_scene.proofs.Common.{Node, Body, VecGame, at_turn}
use Rattle.pg_captions.proofs.Short.{vector_game-few, vector_node-few}
use Rattle.pg_captions.specs.Look.{seen_at}
use Rattle.pg_captions.specs.VectorLegends.{vector_by, vector_game_by}
use Rattle.pg_captions.specs.declared.look.Look.{Look}
use Rattle.pg_cert.specs.declared.node.Body.TheVariants as bodies
use Rattle.pg_family_files.specs.Print.{signs_of}
use Rattle.pg_gf2.specs.Fits.{AreVectorParts}
use Rattle.std.proofs.lemmas.List.{length-map}
use Rattle.pg_scene.specs.Items.{fault_items, member_items, point_items, seen_if}
use Rattle.pg_scene.specs.Limits.{HasFurther, IsBoard, IsItemOn, IsScene, points_on}
use Rattle.pg_scene.specs.VectorScenes.{IsSceneOfVector, IsSceneOfVectorGame, vector_board}
use Rattle.pg_scene.specs.VectorScenes.{vector_items, vector_sets}
use Rattle.pg_scene.specs.declared.board.Board.{Board}
use Rattle.pg_scene.specs.declared.item.Item.TheVariants.{Extra}
use Rattle.pg_scene.specs.declared.item.Set.TheVariants.{First, Second}
use Rattle.pg_scene.specs.declared.scene.Scene.{Scene}
use Rattle.pg_scene.proofs.Within.{on-fault, on-members, on-points, on-seen}

record Fitting (g : VecGame) (board : Board) : Type 0 where
  pub is_board : IsBoard board
  pub points : points_on board ≡ length g.vectors
  pub further : HasFurther board

fitting : (g : VecGame) (board : Board) → board ≡ vector_board g → Fitting g board
fitting g board is =
    let fits : AreVectorParts g.rows g.target g.vectors g.x g.y = g.fits in
    let count : length (map (signs_of g.rows) g.vectors) ≡ length g.vectors =
    length-map g.vectors (signs_of g.rows) in
    record {
      is_board = subst IsBoard (sym is) (omega (arith, count, fits.few_vectors));
      points = ap points_on is ∙ count;
      further = subst HasFurther (sym is) tt;
    }

on-sets : (board : Board) (n : ℕ) (with_e : Bool) (first second : FinSet nat_cmp)
    → n ≤ points_on board
    → HasFurther board
    → All (IsItemOn board) (vector_sets n with_e first second)
on-sets board n with_e first second le further =
    let on = IsItemOn board in
    All-append on (seen_if with_e (Extra First))
    (member_items n First first ++ member_items n Second second)
    (on-seen on with_e (Extra First) (λ h. further))
    (All-append on (member_items n First first) (member_items n Second second)
    (on-members board n First first le) (on-members board n Second second le))

on-body : (board : Board) (n : ℕ) (body : Body)
    → n ≤ points_on board
    → HasFurther board
    → All (IsItemOn board) (vector_items n body)
on-body board n bodies.Over le further = All-nil (IsItemOn board)
on-body board n (bodies.Move v child) le further = All-nil (IsItemOn board)
on-body board n (bodies.All replies) le further = All-nil (IsItemOn board)
on-body board n (bodies.Pairs pairs) le further = All-nil (IsItemOn board)
on-body board n bodies.Potential le further = All-nil (IsItemOn board)
on-body board n (bodies.Trees with_e first second) le further =
    on-sets board n with_e first second le further
on-body board n (bodies.Cuts with_e first second) le further =
    on-sets board n with_e first second le further
on-body board n (bodies.Threat points) le further = All-nil (IsItemOn board)
on-body board n (bodies.Weaker child) le further = All-nil (IsItemOn board)

pub IsScene-vector_game : (look : Look) (g : VecGame) (scene : Scene)
    → IsSceneOfVectorGame look g scene
    → IsScene scene
IsScene-vector_game look g scene is =
    let fit = fitting g scene.board is.board in
    record {
      board = fit.is_board;
      items = subst (All (IsItemOn scene.board)) (sym is.items)
          (on-points scene.board (length g.vectors) (seen_at look.blank (at_turn g g.turn))
          (omega (arith, fit.points)));
      few_lines =
          let same : length scene.legend ≡ length (vector_game_by look.legend look g) =
          ap length is.legend in
          omega (arith, same, vector_game-few look.legend look g);
    }

pub IsScene-vector : (look : Look) (g : VecGame) (claim : Claim) (number : ℕ) (node : Node)
    (fault : Option ℕ) (scene : Scene)
    → IsSceneOfVector look g claim number node fault scene
    → IsScene scene
IsScene-vector look g claim number node fault scene is =
    let fit = fitting g scene.board is.board in
    let on = IsItemOn scene.board in
    let n = length g.vectors in
    let p = position_of node in
    let le : n ≤ points_on scene.board = omega (arith, fit.points) in
    record {
      board = fit.is_board;
      items = subst (All on) (sym is.items)
          (All-append on (point_items n p) (vector_items n node.body ++ fault_items fault)
          (on-points scene.board n p le) (All-append on (vector_items n node.body)
          (fault_items fault) (on-body scene.board n node.body le fit.further)
          (on-fault scene.board fault)));
      few_lines =
          let same : length scene.legend
          ≡ length (vector_by look.legend g claim p node.body fault) =
          ap length is.legend in
          omega (arith, same, vector_node-few look.legend g claim p node.body fault);
    }
