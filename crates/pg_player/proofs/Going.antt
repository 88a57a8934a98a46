-- What a player keeps through a move and through a reply.
use Rattle.std.proofs.Common.{◌≡◌, ◌∙◌, ℕ, ◌<◌, true, false, Option, Some, None, Ok, if◌then◌else◌}
use Rattle.std.proofs.Common.{sym, subst, arith}
use Rattle.pg_player.proofs.Common.{AreBelow, other, Score, Room, Game, Position}
use Rattle.pg_player.proofs.Common.{is_free, point_count, is_over, outcome, after, IsMadeForGame}
use Rattle.pg_player.proofs.Common.{rules_of, HasJoiner, judged_move, Forces, IsPosition-after}
use Rattle.pg_player.proofs.Common.{free_or_lowest, Claim, Standing, replied_by}
use Rattle.pg_game.proofs.Limits.{point_count-le}
use Rattle.pg_player.specs.InPlay.{GoesOn, IsPlaying, IsReached, KeepsUp}
use Rattle.pg_player.specs.Player.{Play, Waits, TakesReply, Moves, Answers}
use Rattle.pg_player.specs.Stand.{LeadsOn}
use Rattle.pg_player.proofs.Beside.{IsBeside-trans, beside-turn, beside-forces, beside-going}
use Rattle.pg_player.proofs.Beside.{beside-move, beside-reply}
use Rattle.pg_player.proofs.Plays.{IsPosition-reached}
use Rattle.pg_player.proofs.Replying.{leads_on, on-replied}
use Rattle.pg_switch.proofs.Seats.{IsLegal, judged-legal, theirs}

-- X's points are points of the game
pub x_range : (g : Game) (p : Position) → IsReached g p → AreBelow p.x (point_count g)
x_range g p h = (IsPosition-reached g p h).x_range

pub x_range-next : (g : Game) (p : Position) (v : ℕ) (next : Position)
    → IsReached g p
    → v < point_count g
    → is_free p v ≡ true
    → next ≡ after g p v
    → AreBelow next.x (point_count g)
x_range-next g p v next h within free e = subst (λ (q : Position). AreBelow q.x (point_count g))
    (sym e) (IsPosition-after g p v (IsPosition-reached g p h) within free).x_range

-- points of the game are small
pub small : (g : Game) (v : ℕ) → v < point_count g → v < 1024
small g v within = omega (arith, within, point_count-le g)

module _ (g : Game) (c : Claim) (p : Position) (s : Standing) (h : GoesOn g c p s) where
  -- a player that goes on at p forces its goal from there
  pub on-forces : Forces g p c.side c.goal
  on-forces =
      beside-forces g c.side c.goal s.imagined p h.beside h.playing.position h.playing.forced

  -- the imagined game goes on with the true one, and the same side is to move
  pub on-going : is_over g p ≡ false → is_over g s.imagined ≡ false
  on-going going =
      beside-going g c.side c.goal s.imagined p h.beside h.playing.position h.playing.forced going

  pub on-turn : s.imagined.turn ≡ p.turn
  on-turn = beside-turn g c.side c.goal s.imagined p h.beside h.playing.position h.playing.forced

-- ---- a move

-- the point v that stands for the imagined move is legal, and the player goes on after it
pub record Moved (g : Game) (c : Claim) (p : Position) (next : Standing) (v : ℕ) : Type 0 where
  pub within : v < point_count g
  pub free : is_free p v ≡ true
  pub on : GoesOn g c (after g p v) next

pub moved : (g : Game) (c : Claim) (p : Position) (s next : Standing) (w v : ℕ)
    → GoesOn g c p s
    → is_over g p ≡ false
    → p.turn ≡ c.side
    → KeepsUp g c s w next
    → v ≡ free_or_lowest g p w
    → Moved g c p next v
moved g c p s next w v h going mine k chosen =
    let forced = beside-forces g c.side c.goal next.imagined
    (after g s.imagined w) k.on.beside k.on.playing.position k.on.playing.forced in
    let made = beside-move g c.side c.goal s.imagined p h.beside h.playing.position h.playing.forced
    going w mine k.within k.free forced in
    subst (λ u. Moved g c p next u) (sym chosen) (record {
      within = made.0.within;
      free = made.0.free;
      on = record {
        playing = k.on.playing;
        beside = IsBeside-trans g c.side next.imagined (after g s.imagined w)
            (after g p (free_or_lowest g p w)) k.on.beside made.1;
      };
    })

-- ---- a reply

-- the reply w that the player imagines for v is legal in the imagined position and leads on, and
-- the player goes on after it
pub record Heard (g : Game) (c : Claim) (p : Position) (s : Standing) (v w : ℕ) : Type 0 where
  pub within : w < point_count g
  pub leads : LeadsOn c.nodes s.body w
  pub on : (next : Standing)
      → replied_by s.body g c.nodes s.imagined w ≡ Some next
      → GoesOn g c (after g p v) next

pub heard : (g : Game) (c : Claim) (p : Position) (s : Standing) (v w : ℕ) (next : Position)
    → GoesOn g c p s
    → IsLegal (rules_of g) p v next
    → p.turn ≡ other c.side
    → w ≡ free_or_lowest g s.imagined v
    → Heard g c p s v w
heard g c p s v w next h legal theirs chosen =
    let q = s.imagined in
    let going = on-going g c p s h legal.going in
    let turn = on-turn g c p s h ∙ theirs in
    let reply = beside-reply g c.side c.goal q p h.beside h.playing.position h.playing.forced
    legal.going v theirs legal.within legal.free in
    let u = free_or_lowest g q v in
    subst (λ t. Heard g c p s v t) (sym chosen) (record {
      within = reply.0.within;
      leads = leads_on g c q u going turn reply.0.within reply.0.free s.body s.last h.playing;
      on = λ after_reply rule.
          let on = on-replied g c q u going turn reply.0.within reply.0.free s.body s.last
          after_reply h.playing rule in
          record {
            playing = on.playing;
            beside = IsBeside-trans g c.side after_reply.imagined (after g q u)
                (after g p v) on.beside reply.1;
          };
    })

-- ---- the whole player

-- a player goes on at the next position
pub IsPlaying-next : (g : Game) (c : Claim) (p next : Position) (s : Standing)
    (ending : Option Score) (judge judge' : Room) (joiner joiner' : Option Room)
    → GoesOn g c p s
    → IsReached g p
    → next ≡ p
    → ending ≡ (if is_over g next then Some (outcome g next) else None)
    → IsMadeForGame judge g
    → judge' ≡ judge
    → HasJoiner joiner g
    → joiner' ≡ joiner
    → IsPlaying g c next s ending judge' joiner'
IsPlaying-next g c p next s ending judge judge' joiner joiner' on reached e known judged same_judge
    joined same_joiner = record {
      on = subst (λ (r : Position). GoesOn g c r s) (sym e) on;
      reached = subst (λ (r : Position). IsReached g r) (sym e) reached;
      known = known;
      judged = subst (λ (r : Room). IsMadeForGame r g) (sym same_judge) judged;
      joined = subst (λ (r : Option Room). HasJoiner r g) (sym same_joiner) joined;
    }

-- where the judge lets the point v of the other side pass, a player that waits hears of it
pub heard-judged : (g : Game) (c : Claim) (p : Position) (s : Standing) (v w : ℕ) (next : Position)
    → GoesOn g c p s
    → Waits (record { game = g; claim = c; position = p; standing = s })
    → judged_move g p v ≡ Ok next
    → w ≡ free_or_lowest g s.imagined v
    → Heard g c p s v w
heard-judged g c p s v w next h waits judged chosen =
    let legal = judged-legal (rules_of g) p v next judged in
    heard g c p s v w next h legal (theirs (rules_of g) p c.side waits legal.going) chosen

-- a reply that is taken, and then a move where one is owed
pub answered : (before between now : Play) (v : ℕ) (own : Option ℕ)
    → TakesReply before between v
    → Moves between now own
    → Answers before now v own
answered before between now v None taken waits = (
  subst (λ (play : Play). TakesReply before play v) (sym waits.1) taken,
  subst (λ (play : Play). Waits play) (sym waits.1) waits.0,
)
answered before between now v (Some w) taken moved = (between, taken, moved)
