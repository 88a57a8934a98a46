-- What is to be seen of a game on vectors, and of a node of its certificate.
use Rattle.std.specs.Prelude.{◌≡◌, ℕ, Bool, List, [], ◌++◌, length, map, codes, Option}
use Rattle.pg_scene.specs.Prelude.{FinSet, nat_cmp, position_of, Claim, Node, Body, VecGame}
use Rattle.pg_scene.specs.Prelude.{at_turn}
use Rattle.pg_cert.specs.declared.cert.Cert.{Cert}
use Rattle.pg_cert.specs.declared.node.Body.TheVariants as bodies
use Rattle.pg_family_files.specs.Print.{signs_of}
use Rattle.pg_captions.specs.Look.{seen_at}
use Rattle.pg_captions.specs.VectorLegends.{vector_by, vector_game_by, vector_title}
use Rattle.pg_captions.specs.declared.look.Look.{Look}
use Rattle.pg_scene.specs.Items.{fault_items, member_items, point_items, seen_if}
use Rattle.pg_scene.specs.Scenes.{AreNamed}
use Rattle.pg_scene.specs.declared.board.Board.{Board}
use Rattle.pg_scene.specs.declared.board.Board.TheVariants.{Table}
use Rattle.pg_scene.specs.declared.item.Item.{Item}
use Rattle.pg_scene.specs.declared.item.Item.TheVariants.{Extra}
use Rattle.pg_scene.specs.declared.item.Set.TheVariants.{First, Second}
use Rattle.pg_scene.specs.declared.scene.Scene.{Scene}

-- the table of a game: the signs of each vector, and of the target
abbrev pub vector_board : VecGame → Board
vector_board g = Table (map (signs_of g.rows) g.vectors) (signs_of g.rows g.target)

-- the vectors of two sets; the target itself may be in the first too
abbrev pub vector_sets : ℕ → Bool → FinSet nat_cmp → FinSet nat_cmp → List Item
vector_sets n with_e first second =
    seen_if with_e (Extra First) ++ (member_items n First first ++ member_items n Second second)

-- what a body names, of the vectors of the game alone
abbrev pub vector_items : ℕ → Body → List Item
vector_items n (bodies.Trees with_e first second) = vector_sets n with_e first second
vector_items n (bodies.Cuts with_e first second) = vector_sets n with_e first second
vector_items n _ = []

-- a game: its vectors with their marks, or without marks on blank boards
pub record IsSceneOfVectorGame (look : Look) (g : VecGame) (scene : Scene) : Type 0 where
  pub title : scene.title ≡ codes "Game on vectors"
  pub board : scene.board ≡ vector_board g
  pub items : scene.items
      ≡ point_items (length g.vectors) (seen_at look.blank (at_turn g g.turn))
  pub legend : scene.legend ≡ vector_game_by look.legend look g

-- a node of a claim: the vectors with the marks that the node says, what the body names, and
-- whether the node is faulty
pub record IsSceneOfVector (look : Look) (g : VecGame) (claim : Claim) (number : ℕ) (node : Node)
    (fault : Option ℕ) (scene : Scene) : Type 0 where
  pub title : scene.title ≡ vector_title claim number fault
  pub board : scene.board ≡ vector_board g
  pub items : scene.items ≡ point_items (length g.vectors) (position_of node)
      ++ (vector_items (length g.vectors) node.body ++ fault_items fault)
  pub legend : scene.legend ≡ vector_by look.legend g claim (position_of node) node.body fault

-- the node of that number, of the certificate's claim of that number
pub record IsSceneOfVectorNode (look : Look) (g : VecGame) (c : Cert) (claim number : ℕ)
    (fault : Option ℕ) (scene : Scene) : Type 0 where
  pub whole : Claim
  pub node : Node
  pub named : AreNamed c claim number whole node
  pub shown : IsSceneOfVector look g whole number node fault scene
