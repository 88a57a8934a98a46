-- What the code keeps of a standing.
use Rattle.std.specs.Prelude.{◌≡◌, ◌==◌, ℕ, false, List, [], ◌∷◌, drop, Option, Some, None, find}
use Rattle.std.specs.Prelude.{slice_get}
use Rattle.pg_player.specs.Prelude.{Body, Over, Move, All, Trees, Cuts, Threat, Weaker, Node, Reply}
use Rattle.pg_player.specs.Prelude.{Standing, settled}
use Rattle.pg_player.specs.declared.standing.Rest.{Rest}
use Rattle.pg_player.specs.declared.standing.Rest.TheVariants as rest
use Rattle.pg_player.specs.declared.standing.Stand.{Stand}

-- the body of a node, and that of a game that is over where there is none
abbrev pub body_at : Option Node → Body
body_at (Some node) = node.body
body_at None = Over

-- the points of a threat line, and none where the body is another
abbrev pub threat_of : Body → List ℕ
threat_of (Threat points) = points
threat_of _ = []

-- what is left of the body of a claim's node
abbrev pub body_of : List Node → Rest → Body
body_of nodes (rest.Whole number) = body_at (slice_get nodes number)
body_of nodes (rest.Short plan) = Trees false plan.first plan.second
body_of nodes (rest.Cut plan) = Cuts false plan.first plan.second
body_of nodes (rest.Line number from) =
    Threat (drop from (threat_of (body_at (slice_get nodes number))))
body_of nodes (rest.Last u) = Threat (u ∷ [])
body_of nodes rest.Won = Threat []

-- where the player stands
abbrev pub standing_of : List Node → Stand → Standing
standing_of nodes s = record { body = body_of nodes s.rest; last = s.last; imagined = s.imagined }

-- a player that comes to the node of that number finds one to stand at
abbrev pub Settles : List Node → ℕ → Type 0
Settles nodes number = (n : Node) × (settled nodes number ≡ Some n)

-- the player can go on after the reply: where all replies are named it is one of them, with a node
-- to stand at; and neither is the game over nor the player to move nor does it stand at `weaker`
abbrev pub LeadsOn : List Node → Body → ℕ → Type 0
LeadsOn nodes Over v = ⊥
LeadsOn nodes (Move point child) v = ⊥
LeadsOn nodes (All replies) v =
    (r : Reply) × (find (λ q. q.point == v) replies ≡ Some r) × Settles nodes r.child
LeadsOn nodes (Weaker child) v = ⊥
LeadsOn nodes (Threat []) v = ⊥
LeadsOn nodes (Threat (u ∷ points)) v = Unit {0}
LeadsOn nodes _ v = Unit {0}
