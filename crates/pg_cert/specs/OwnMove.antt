-- The claimer's own move at a node of its claim: where a player stands, what it moves there, and
-- where it stands after a reply. It plays in a position that it imagines, which `weaker` makes
-- another than the true one.
use Rattle.std.specs.Prelude.{ℕ, zero, suc, false, ◌==◌, List, [], ◌∷◌, Option, Some, None, find}
use Rattle.std.specs.Prelude.{slice_get, if◌then◌else◌}
use Rattle.pg_cert.specs.Prelude.{FinSet, nat_cmp, Kind, AvoiderEnforcer, Side, Game, Position}
use Rattle.pg_cert.specs.Prelude.{after, pairs_answer, potential_answer, avoider_answer, Answered}
use Rattle.pg_cert.specs.Prelude.{trees_answer, cuts_answer, free_or_lowest}
use Rattle.std.specs.Option.{option_map}
use Rattle.pg_game.specs.declared.field.Field.{Field}
use Rattle.pg_game.specs.declared.field.Field.TheVariants.{Lines, Graph as OnGraph}
use Rattle.pg_cert.specs.Node.{position_of}
use Rattle.pg_cert.specs.Valid.{with_e_named}
use Rattle.pg_cert.specs.declared.node.Node.{Node}
use Rattle.pg_cert.specs.declared.node.Body.{Body}
use Rattle.pg_cert.specs.declared.node.Body.TheVariants.{Over, Move, All, Pairs, Potential, Trees}
use Rattle.pg_cert.specs.declared.node.Body.TheVariants.{Cuts, Threat, Weaker}
use Rattle.pg_cert.specs.declared.reply.Reply.{Reply}

-- Where a player stands: what is left of its node's body, the last imagined reply since it came
-- there, and the position that it imagines.
pub record Standing : Type 0 where
  pub body : Body
  pub last : Option ℕ
  pub imagined : Position

-- ---- coming to a node

-- the node itself, or at `weaker` what is found from its child
abbrev pub settles_by : (ℕ → Option Node) → Node → Body → Option Node
settles_by further n (Weaker child) = further child
settles_by further n _ = Some n

abbrev pub settles_at : (ℕ → Option Node) → Option Node → Option Node
settles_at further None = None
settles_at further (Some n) = settles_by further n n.body

-- the first node from that number on, from `weaker` to its child, that has another body, within so
-- many steps
unfoldable pub settled_within : ℕ → List Node → ℕ → Option Node
settled_within zero nodes number = None
settled_within (suc steps) nodes number =
    settles_at (settled_within steps nodes) (slice_get nodes number)

-- where children have lesser numbers so many steps are enough
abbrev pub settled : List Node → ℕ → Option Node
settled nodes number = settled_within (suc number) nodes number

-- a player that comes to a node of that number goes on from `weaker` to the first node with another
-- body, imagines its position and has heard no reply there
abbrev pub arrives : List Node → ℕ → Option Standing
arrives nodes number = option_map (λ n. record {
  body = n.body;
  last = None;
  imagined = position_of n;
}) (settled nodes number)

-- ---- its own move

-- a move in the imagined position, and where the player stands after it
pub record OwnMove : Type 0 where
  pub point : ℕ
  pub next : Option Standing

-- a move by which the player stays at its node, with what is left of the body
abbrev pub stays : Game → Position → ℕ → Body → Option ℕ → Option OwnMove
stays g q point body last = Some (record {
  point = point;
  next = Some (record { body = body; last = last; imagined = after g q point });
})

-- the answer by the potential of the kind
abbrev pub potential_point : Kind → Game → Position → Side → ℕ
potential_point AvoiderEnforcer g q side = avoider_answer g q
potential_point _ g q side = potential_answer g q side

-- the answer by trees, or by cuts, of a game on a graph: the edge, and the sets that are left
abbrev pub trees_point : Field
    → Position
    → FinSet nat_cmp
    → FinSet nat_cmp
    → Option ℕ
    → Option Answered
trees_point (Lines f) q first second last = None
trees_point (OnGraph h) q first second last = Some (trees_answer h q first second last)

abbrev pub cuts_point : Field
    → Position
    → FinSet nat_cmp
    → FinSet nat_cmp
    → Option ℕ
    → Option Answered
cuts_point (Lines f) q first second last = None
cuts_point (OnGraph h) q first second last = Some (cuts_answer h q first second last)

-- by trees and by cuts the player stays with the sets that are left
abbrev pub stays_with_trees : Game → Position → Option Answered → Option ℕ → Option OwnMove
stays_with_trees g q None last = None
stays_with_trees g q (Some answer) last =
    stays g q answer.edge (Trees false answer.first answer.second) last

abbrev pub stays_with_cuts : Game → Position → Option Answered → Option ℕ → Option OwnMove
stays_with_cuts g q None last = None
stays_with_cuts g q (Some answer) last =
    stays g q answer.edge (Cuts false answer.first answer.second) last

-- THE RULE, in the imagined position q: at a move its point, and on to the child; by a criterion
-- its answer to the last reply; on a threat line the next attack. There is none where the game is
-- over or the other side is to move.
abbrev pub own_move_by : Body → Option ℕ → Game → List Node → Side → Position → Option OwnMove
own_move_by Over last g nodes side q = None
own_move_by (Move point child) last g nodes side q =
    Some (record { point = point; next = arrives nodes child })
own_move_by (All replies) last g nodes side q = None
own_move_by (Pairs pairs) last g nodes side q =
    stays g q (pairs_answer g q pairs last) (Pairs pairs) last
own_move_by Potential last g nodes side q =
    stays g q (potential_point g.kind g q side) Potential last
own_move_by (Trees with_e first second) last g nodes side q =
    stays_with_trees g q (trees_point g.field q (with_e_named g with_e first) second last) last
own_move_by (Cuts with_e first second) last g nodes side q =
    stays_with_cuts g q (cuts_point g.field q (with_e_named g with_e first) second last) last
own_move_by (Threat []) last g nodes side q = None
own_move_by (Threat (v ∷ others)) last g nodes side q = stays g q v (Threat others) last
own_move_by (Weaker child) last g nodes side q = None

-- the imagined move of a player that stands so
unfoldable pub own_move : Game → List Node → Side → Standing → Option OwnMove
own_move g nodes side s = own_move_by s.body s.last g nodes side s.imagined

-- the point that it plays in the true position: that of the imagined move where it is free, else
-- the lowest free one
abbrev pub played_point : Game → Position → OwnMove → ℕ
played_point g p m = free_or_lowest g p m.point

-- ---- a reply

-- the reply that the player imagines: the true one where it is free in the imagined position, else
-- the lowest point that is free there
abbrev pub imagined_reply : Game → Standing → ℕ → ℕ
imagined_reply g s v = free_or_lowest g s.imagined v

-- where the player stands after an imagined reply: at the child that `all` names with it; on a
-- threat line with the next attack where the forced point was taken, and else with that point as
-- the last attack; everywhere else it stays
abbrev pub replied_by : Body → Game → List Node → Position → ℕ → Option Standing
replied_by (All replies) g nodes q w = child_of (find (λ r. r.point == w) replies)
  where
    child_of : Option Reply → Option Standing
    child_of None = None
    child_of (Some r) = arrives nodes r.child
replied_by (Threat (u ∷ others)) g nodes q w = Some (record {
  body = Threat (if u == w then others else u ∷ []);
  last = Some w;
  imagined = after g q w;
})
replied_by body g nodes q w = Some (record { body = body; last = Some w; imagined = after g q w })

-- where it stands after the true reply v
unfoldable pub replied : Game → List Node → Standing → ℕ → Option Standing
replied g nodes s v = replied_by s.body g nodes s.imagined (imagined_reply g s v)
