-- Lines of play: what a side's player does from its opening on, whatever the other side replies.
use Rattle.std.specs.Prelude.{◌≡◌, ◌≢◌, ◌⊎◌, ℕ, ◌-◌, ◌<◌, List, [], ◌∷◌, length, Some}
use Rattle.std.specs.List.{All, AllPairs}
use Rattle.pg_play_tree.specs.Prelude.{Cert, Game, MakesMove, Play, Position, Side, TakesReply}
use Rattle.pg_play_tree.specs.Prelude.{Waits, arrives, chosen_claim, start}

-- the player of the side is opened: it is at the game's position, and at the root of its claim
pub record Opens (g : Game) (cert : Cert) (side : Side) (a : Play) : Type 0 where
  pub game : a.game ≡ g
  pub claim : chosen_claim g cert side ≡ Some a.claim
  pub position : a.position ≡ start g
  pub standing : arrives a.claim.nodes (length a.claim.nodes - 1) ≡ Some a.standing

-- v leads the player on: it is the player's own move, or the player waits and takes it, a legal
-- reply
abbrev pub Plays : Play → Play → ℕ → Type 0
Plays a b v = MakesMove a b v ⊎ (Waits a × TakesReply a b v)

-- the player makes its own move, or it waits and takes a legal reply
abbrev pub Follows : Play → Play → Type 0
Follows a b = (v : ℕ) × Plays a b v

-- where the player stands along a line of play from its opening on, the last first
abbrev pub IsLine : Game → Cert → Side → List Play → Type 0
IsLine g cert side [] = ⊥
IsLine g cert side (a ∷ []) = Opens g cert side a
IsLine g cert side (b ∷ a ∷ earlier) = Follows a b × IsLine g cert side (a ∷ earlier)

-- a line of play comes to where the player stands
abbrev pub ComesTo : Game → Cert → Side → Play → Type 0
ComesTo g cert side a = (earlier : List Play) × IsLine g cert side (a ∷ earlier)

-- THE CLAIMER'S OWN MOVE: on some line of play the side's player comes to the position, and moves
-- to v there by the rule of its claim
pub record IsOwnMove (g : Game) (cert : Cert) (side : Side) (p : Position) (v : ℕ) : Type 0 where
  pub before : Play
  pub now : Play
  pub comes : ComesTo g cert side before
  pub position : before.position ≡ p
  pub makes : MakesMove before now v

-- ---- the positions to which lines of play lead

-- a line of play comes to the position
abbrev pub IsMet : Game → Cert → Side → Position → Type 0
IsMet g cert side p = (a : Play) × ComesTo g cert side a × (a.position ≡ p)

-- different positions, to each of which a line of play comes
pub record AreMet (g : Game) (cert : Cert) (side : Side) (ps : List Position) : Type 0 where
  pub met : All (IsMet g cert side) ps
  pub different : AllPairs (λ p q. p ≢ q) ps

-- lines of play come to more positions than so many
abbrev pub MeetsMore : Game → Cert → Side → ℕ → Type 0
MeetsMore g cert side most = (ps : List Position) × AreMet g cert side ps × (most < length ps)
