-- Lists of attacks and forced replies, by how many replies they force.
use Rattle.std.specs.Prelude.{◌≡◌, ◌≢◌, ℕ, ◌≤◌, false, List}
use Rattle.pg_plain.specs.Prelude.{Switching, Side, Game, Position, is_over, after, Forcing}
use Rattle.pg_plain.specs.Prelude.{LeadsToLine, depth_of}

-- each side claims one point a turn in a game on lines that isn't over
pub record IsGoing (g : Game) (p : Position) : Type 0 where
  pub single : g.bias ≡ 1
  pub going : is_over g p ≡ false
  pub lines : g.kind ≢ Switching

-- attacks and at most so many forced replies lead to a filled line
abbrev pub LeadsWithin : ℕ → Game → Position → Side → Type 0
LeadsWithin depth g p side =
    (points : List ℕ) × (depth_of points ≤ depth) × LeadsToLine g p side points

-- the attack at v forces the reply u, and so it goes on
pub record IsReply (depth : ℕ) (g : Game) (p : Position) (side : Side) (v u : ℕ) : Type 0 where
  pub forced : Forcing g p side v u
  pub leads : LeadsWithin depth g (after g (after g p v) u) side

-- the attack at v forces some reply after which it goes on
abbrev pub ReplyLeads : ℕ → Game → Position → Side → ℕ → Type 0
ReplyLeads depth g p side v = (u : ℕ) × IsReply depth g p side v u
