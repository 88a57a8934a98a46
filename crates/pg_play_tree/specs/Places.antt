-- What the code keeps of the positions of a tree of play.
use Rattle.std.specs.Prelude.{◌≡◌, ◌≢◌, ◌⊎◌, ◌-◌, ◌<◌, ◌==◌, ℕ, Bool, length, List, [], ◌∷◌, true}
use Rattle.std.specs.Prelude.{false}
use Rattle.std.specs.Prelude.{None, Ok}
use Rattle.std.specs.List.{All as Each, AllPairs, slice_index_or}
use Rattle.pg_play_tree.specs.Prelude.{IsPosition, Node, point_count, position_of}
use Rattle.pg_play_tree.specs.Prelude.{All, ArePoints, Body, Cert, Claim, Game, IsTurn, MakesMove}
use Rattle.pg_play_tree.specs.Prelude.{Move}
use Rattle.pg_play_tree.specs.Prelude.{Over, Play, Position, Reply, Side, Waits, chosen_claim}
use Rattle.pg_play_tree.specs.Prelude.{contains, is_free, is_over, judged_move}
use Rattle.pg_play_tree.specs.Lines.{IsOwnMove, Opens, Plays}
use Rattle.pg_play_tree.specs.declared.place.Place.{Place}
use Rattle.pg_play_tree.specs.declared.place.Step.{Step}
use Rattle.pg_play_tree.specs.declared.place.Step.TheVariants as steps

-- the points lead the player from where the first stands to where the second does
abbrev pub Leads : Play → List ℕ → Play → Type 0
Leads a [] b = b ≡ a
Leads a (v ∷ others) b = (m : Play) × Plays a m v × Leads m others b

-- the points lead the side's player from its opening to where it stands
abbrev pub OpensTo : Game → Cert → Side → List ℕ → Play → Type 0
OpensTo g cert side points a = (o : Play) × Opens g cert side o × Leads o points a

-- v can be played where the player stands: it is its own move, or a legal reply where it waits
abbrev pub CanPlay : Play → ℕ → Type 0
CanPlay a v = ((b : Play) × MakesMove a b v)
    ⊎ (Waits a × (q : Position) × (judged_move a.game a.position v ≡ Ok q))

-- the points can be played one after the other
abbrev pub CanPlayAll : Play → List ℕ → Type 0
CanPlayAll a [] = Unit {0}
CanPlayAll a (v ∷ others) = CanPlay a v × ((m : Play) → Plays a m v → CanPlayAll m others)

-- the points can be played from the opening on
abbrev pub CanOpen : Game → Cert → Side → List ℕ → Type 0
CanOpen g cert side points = (chosen_claim g cert side ≢ None)
    × ((o : Play) → Opens g cert side o → CanPlayAll o points)

-- what follows where the player stands
abbrev pub IsNext : Play → Step → Type 0
IsNext a steps.Over = is_over a.game a.position ≡ true
IsNext a (steps.Own v) = (b : Play) × MakesMove a b v
IsNext a steps.Replies = Waits a × (is_over a.game a.position ≡ false)

-- an own move at the position is that of the side's player
abbrev pub IsStepAt : Game → Cert → Side → Position → Step → Type 0
IsStepAt g cert side p steps.Over = Unit {0}
IsStepAt g cert side p (steps.Own v) = IsOwnMove g cert side p v
IsStepAt g cert side p steps.Replies = Unit {0}

-- a place where the side's player stands after the points, with what follows there
pub record IsPlace (g : Game) (cert : Cert) (side : Side) (place : Place) : Type 0 where
  pub play : Play
  pub opens : OpensTo g cert side place.points.items play
  pub position : place.position ≡ play.position
  pub fits : IsPosition g place.position
  pub step : IsNext play place.step

-- an own move takes a point of the game
abbrev pub HasPoint : Game → Step → Type 0
HasPoint g steps.Over = Unit {0}
HasPoint g (steps.Own v) = v < point_count g
HasPoint g steps.Replies = Unit {0}

-- the place is in the game
pub record IsInGame (g : Game) (place : Place) : Type 0 where
  pub position : IsPosition g place.position
  pub point : HasPoint g place.step

-- no place is at the position
abbrev pub IsNew : List Place → Position → Type 0
IsNew places p = Each (λ place. place.position ≢ p) places

-- places of the side's player, no two of them at the same position
pub record AreFound (g : Game) (cert : Cert) (side : Side) (places : List Place) : Type 0 where
  pub each : Each (IsPlace g cert side) places
  pub different : AllPairs (λ a b. a.position ≢ b.position) places

-- whether the point is played next at the position
abbrev pub is_next : Step → Position → ℕ → Bool
is_next steps.Over p v = false
is_next (steps.Own own) p v = own == v
is_next steps.Replies p v = is_free p v

-- the body is one of the step
abbrev pub HasStep : Step → Body → Type 0
HasStep steps.Over body = body ≡ Over
HasStep (steps.Own v) body = (child : ℕ) × (body ≡ Move v child)
HasStep steps.Replies body = (replies : List Reply) × (body ≡ All replies)

-- a file can say the position
pub record IsMarked (p : Position) : Type 0 where
  pub x : ArePoints p.x
  pub y : ArePoints p.y
  pub apart : (v : ℕ) → contains p.x v ≡ true → contains p.y v ≡ false
  pub turn : IsTurn p.turn p.left

-- one of the certificate's claims
abbrev pub IsClaimOf : Claim → Cert → Type 0
IsClaimOf claim cert =
    (i : ℕ) × (i < length cert.claims) × (claim ≡ slice_index_or cert.claims i claim)

-- the nodes have the positions of the places, the last first
abbrev pub IsMirror : List Place → List Node → Type 0
IsMirror places nodes = (j : ℕ) (node : Node) (place : Place)
    → j < length nodes
    → position_of (slice_index_or nodes j node)
    ≡ (slice_index_or places (length places - 1 - j) place).position
