-- Each item of a connectivity game's scene can stand on its board.
use Rattle.std.proofs.Common.{◌≡◌, ℕ, ◌<◌, ◌≤◌, [], ◌++◌, length, Option, Some, None}
use Rattle.std.proofs.Common.{sym, ap}
use Rattle.std.proofs.Common.{subst, arith}
use Rattle.std.specs.Prelude.{nat_lt}
use Rattle.pg_scene.proofs.Common.{All, All-append, All-nil, edge_count, marks_at}
use Rattle.pg_scene.proofs.Common.{SpanBody, Trees}
use Rattle.pg_scene.proofs.Common.{Parts, SpanClaim, SpanGame}
use Rattle.pg_span.specs.Fits.{AreSpanParts}
use Rattle.pg_scene.specs.Items.{fault_items, member_items, point_items}
use Rattle.pg_captions.specs.Look.{seen_at}
use Rattle.pg_scene.specs.Limits.{IsBoard, IsItemOn, IsScene, points_on, vertices_on}
use Rattle.pg_captions.proofs.Short.{span_claim-few, span_game-few}
use Rattle.pg_scene.specs.Scenes.{IsDrawnGraph}
use Rattle.pg_scene.specs.SpanScenes.{IsSceneOfSpan, IsSceneOfSpanGame, first_items, part_item}
use Rattle.pg_captions.specs.SpanLegends.{span_by, span_game_by}
use Rattle.pg_scene.specs.SpanScenes.{span_items}
use Rattle.pg_scene.specs.declared.board.Board.{Board}
use Rattle.pg_scene.specs.declared.item.Item.TheVariants.{Step, Part}
use Rattle.pg_scene.specs.declared.item.Set.TheVariants.{First, Second}
use Rattle.pg_captions.specs.declared.look.Look.{Look}
use Rattle.pg_scene.specs.declared.scene.Scene.{Scene}
use Rattle.pg_scene.proofs.Within.{below-of, on-fault, on-members, on-numbered}
use Rattle.pg_scene.proofs.Within.{on-points, on-seen}

record Fitting (g : SpanGame) (board : Board) : Type 0 where
  pub is_board : IsBoard board
  pub points : points_on board ≡ edge_count g.graph
  pub vertices : vertices_on board ≡ g.graph.vertices

fitting : (g : SpanGame) (board : Board)
    → IsDrawnGraph g.graph.vertices g.graph.ends [] board
    → Fitting g board
fitting g board is =
    let fits : AreSpanParts g.graph g.x g.y = g.fits in
    record {
      is_board = subst IsBoard (sym is.same) (record {
        some_vertices = fits.some_vertices;
        few_vertices = fits.few_vertices;
        few_edges = fits.graph.few_edges;
        on_ends = fits.graph.ends_range;
        on_terminals = All-nil (λ u. u < g.graph.vertices);
        few_terminals = omega arith;
        is_bridge = is.found;
      });
      points = ap points_on is.same;
      vertices = ap vertices_on is.same;
    }

on-first : (board : Board) (n : ℕ) (first : Option ℕ)
    → n ≤ points_on board
    → All (IsItemOn board) (first_items n first)
on-first board n None le = All-nil (IsItemOn board)
on-first board n (Some v) le = on-seen (IsItemOn board) (nat_lt v n) (Step v 1)
    (λ h. let lt = below-of v n h in omega (arith, lt, le))

on-body : (board : Board) (g : SpanGame) (body : SpanBody)
    → edge_count g.graph ≤ points_on board
    → g.graph.vertices ≤ vertices_on board
    → All (IsItemOn board) (span_items g body)
on-body board g (Trees first a1 a2) le few =
    let n = edge_count g.graph in
    All-append (IsItemOn board) (first_items n first)
    (member_items n First a1 ++ member_items n Second a2) (on-first board n first le)
    (All-append (IsItemOn board) (member_items n First a1) (member_items n Second a2)
    (on-members board n First a1 le) (on-members board n Second a2 le))
on-body board g (Parts parts) le few = on-numbered (IsItemOn board) (part_item g.graph.vertices)
    (λ u part. on-seen (IsItemOn board) (nat_lt u g.graph.vertices) (Part u part)
    (λ h. let lt = below-of u g.graph.vertices h in omega (arith, lt, few))) 0 parts

pub IsScene-span_game : (look : Look) (g : SpanGame) (scene : Scene)
    → IsSceneOfSpanGame look g scene
    → IsScene scene
IsScene-span_game look g scene is =
    let fit = fitting g scene.board is.board in
    record {
      board = fit.is_board;
      items = subst (All (IsItemOn scene.board)) (sym is.items)
          (on-points scene.board (edge_count g.graph) (seen_at look.blank (marks_at g g.turn))
          (omega (arith, fit.points)));
      few_lines =
          let same : length scene.legend ≡ length (span_game_by look.legend look g) =
          ap length is.legend in
          omega (arith, same, span_game-few look.legend look g);
    }

pub IsScene-span : (look : Look) (g : SpanGame) (claim : SpanClaim) (fault : Option ℕ)
    (scene : Scene)
    → IsSceneOfSpan look g claim fault scene
    → IsScene scene
IsScene-span look g claim fault scene is =
    let fit = fitting g scene.board is.board in
    let on = IsItemOn scene.board in
    let n = edge_count g.graph in
    let p = marks_at g claim.turn in
    let le : n ≤ points_on scene.board = omega (arith, fit.points) in
    record {
      board = fit.is_board;
      items = subst (All on) (sym is.items)
          (All-append on (point_items n p) (span_items g claim.body ++ fault_items fault)
          (on-points scene.board n p le) (All-append on (span_items g claim.body)
          (fault_items fault) (on-body scene.board g claim.body le (omega (arith, fit.vertices)))
          (on-fault scene.board fault)));
      few_lines =
          let same : length scene.legend ≡ length (span_by look.legend look g claim fault) =
          ap length is.legend in
          omega (arith, same, span_claim-few look.legend look g claim fault);
    }
