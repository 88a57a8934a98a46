-- Sessions from which no point was taken back.
use Rattle.std.proofs.Common.{◌≡◌, ◌∙◌, ℕ, zero, suc, ◌+◌, ◌<◌, ◌≤◌, true, false, List, [], ◌∷◌}
use Rattle.std.proofs.Common.{◌++◌, Option, Some, None, Ok, is_ok, length, map, take, get_or, refl}
use Rattle.std.proofs.Common.{sym, ap, subst, arith, append-nil, append_assoc, inl, inr}
use Rattle.pg_computer.proofs.Common.{Event, Game, MAX_EVENTS, Play, Position, Recorded, Side}
use Rattle.pg_computer.proofs.Common.{after, free_is_judged, get_or-map, has_room, judged_move}
use Rattle.pg_computer.proofs.Common.{legal_more, legal-standing, length-map, length-take-le}
use Rattle.pg_computer.proofs.Common.{map-append, place, played-more, position_after, standing}
use Rattle.pg_computer.proofs.Common.{start, take-map, take_more, cases_eq, no_events}
use Rattle.pg_game.specs.Play.{IsLegalPlay, played}
use Rattle.pg_opponent.specs.Fits.{IsLegal, MayPlay}
use Rattle.pg_record.specs.Replay.{AreAllowed, standing_after, with_event}
use Rattle.pg_computer.specs.Points.{ArePoints, IsLastBelow, Keeps, is_reply}

-- ---- what stands

standing-plays : (moves added : List ℕ) → standing_after moves (map Play added) ≡ moves ++ added
standing-plays moves [] = sym (append-nil moves)
standing-plays moves (v ∷ added) =
    standing-plays (moves ++ v ∷ []) added ∙ append_assoc moves (v ∷ []) added

module _ (g : Game) (events : List Event) (are : ArePoints g events) where
  -- all points stand
  pub stand-all : standing events ≡ are.points
  unfolding standing
  stand-all = ap (λ (es : List Event). standing_after [] es) are.are ∙ standing-plays [] are.points

  pub count-all : length (standing events) ≡ length events
  count-all = ap length stand-all ∙ sym (length-map are.points Play) ∙ sym (ap length are.are)

  legal_of : IsLegal g events
  legal_of = record { allowed = are.allowed; stands = count-all }

  pub room : length events < MAX_EVENTS
  room = has_room g events legal_of

  -- a legal point more
  pub points_more : (v : ℕ) → MayPlay g events v → ArePoints g (events ++ Play v ∷ [])
  points_more v may = record {
    points = are.points ++ v ∷ [];
    are = ap (λ (es : List Event). es ++ Play v ∷ []) are.are
        ∙ sym (map-append Play are.points (v ∷ []));
    allowed = (legal_more g events v legal_of may).allowed;
  }

  -- the event of a point
  event_at : (n : ℕ) → n < length events
      → get_or events n (Play 0) ≡ Play (get_or (standing events) n 0)
  event_at n low =
      let fits : n < length are.points = omega (arith, low, count-all, ap length stand-all) in
      ap (λ (es : List Event). get_or es n (Play 0)) are.are
      ∙ get_or-map Play are.points n 0 (Play 0) fits
      ∙ ap (λ (ms : List ℕ). Play (get_or ms n 0)) (sym stand-all)

  -- the events of one point more
  pub one_event : (n : ℕ) → n < length events
      → take (n + 1) events ≡ take n events ++ Play (get_or (standing events) n 0) ∷ []
  one_event n low = take_more events n (Play 0) low
      ∙ ap (λ (e : Event). take n events ++ e ∷ []) (event_at n low)

-- no points
pub no_points : (g : Game) (events : List Event) → events ≡ [] → ArePoints g events
no_points g events none = subst (λ (es : List Event). ArePoints g es) (sym none)
    (record { points = []; are = refl; allowed = (no_events g).allowed })

-- ---- the first points

allowed_first : (g : Game) (moves : List ℕ) (n : ℕ) (es : List Event)
    → AreAllowed g moves es
    → AreAllowed g moves (take n es)
allowed_first g moves zero es allowed = tt
allowed_first g moves (suc n) [] allowed = tt
allowed_first g moves (suc n) (e ∷ es) allowed =
    (allowed.0, allowed_first g (with_event moves e) n es allowed.1)

pub points_first : (g : Game) (events : List Event) (n : ℕ)
    → n ≤ length events
    → ArePoints g events
    → ArePoints g (take n events)
points_first g events n low are = record {
  points = take n are.points;
  are = ap (λ (es : List Event). take n es) are.are ∙ take-map Play n are.points;
  allowed = record {
    allowed = allowed_first g [] n events are.allowed.allowed;
    few = omega (arith, are.allowed.few, length-take-le n events low, low);
  };
}

-- the position after them
pub place_first : (g : Game) (events : List Event) (n : ℕ)
    → n ≤ length events
    → ArePoints g events
    → place g (take n events) ≡ position_after g (take n (standing events))
unfolding points_first
place_first g events n low are = ap (λ (ms : List ℕ). position_after g ms)
    (stand-all g (take n events) (points_first g events n low are)
    ∙ ap (λ (ms : List ℕ). take n ms) (sym (stand-all g events are)))

-- a point of a legal play may be claimed where it was
judged_at : (g : Game) (p : Position) (moves : List ℕ) (n : ℕ)
    → IsLegalPlay g p moves
    → n < length moves
    → judged_move g (played g p (take n moves)) (get_or moves n 0)
    ≡ Ok (after g (played g p (take n moves)) (get_or moves n 0))
judged_at g p [] n legal low = absurd (omega (arith, low))
judged_at g p (v ∷ moves) zero legal low = free_is_judged g p v legal.1 legal.0 legal.2
judged_at g p (v ∷ moves) (suc n) legal low =
    judged_at g (after g p v) moves n legal.3 (omega (arith, low))

pub may_at : (g : Game) (events : List Event) (n : ℕ)
    → ArePoints g events
    → n < length events
    → MayPlay g (take n events) (get_or (standing events) n 0)
may_at g events n are low =
    let fits : n < length (standing events) = omega (arith, low, count-all g events are) in
    let there = judged_at g (start g) (standing events) n (legal-standing g events are.allowed) fits
    in
    ap (λ (p : Position). is_ok (judged_move g p (get_or (standing events) n 0)))
    (place_first g events n (omega (arith, low)) are) ∙ ap is_ok there

-- ---- the first points, claimed again

module _ (first session : Recorded) (g : Game) (n v : ℕ) (same : g ≡ session.game)
    (is : first ≡ record { game = g; events = take n session.events })
    (at : v ≡ get_or (standing session.events) n 0) (are : ArePoints session.game session.events)
    (low : n < length session.events) where
  pub again_may : MayPlay first.game first.events v
  again_may = subst (λ (s : Recorded). MayPlay s.game s.events v) (sym is)
      (subst (λ (k : Game). MayPlay k (take n session.events) v) (sym same)
      (subst (λ (w : ℕ). MayPlay session.game (take n session.events) w) (sym at)
      (may_at session.game session.events n are low)))

  pub again_more : (new : Recorded)
      → new.game ≡ first.game
      → new.events ≡ first.events ++ Play v ∷ []
      → new ≡ record { game = g; events = take (n + 1) session.events }
  again_more new stays more = λ i. record { game = game i; events = events i } where
    game : new.game ≡ g
    game = stays ∙ ap (λ (s : Recorded). s.game) is

    events : new.events ≡ take (n + 1) session.events
    events = more ∙ ap (λ (s : Recorded). s.events ++ Play v ∷ []) is
        ∙ ap (λ (w : ℕ). take n session.events ++ Play w ∷ []) at
        ∙ sym (one_event session.game session.events are n low)

-- a session of the first points
pub first_keeps : (old first : Recorded) (g : Game) (n : ℕ)
    → g ≡ old.game
    → first ≡ record { game = g; events = take n old.events }
    → n ≤ length old.events
    → ArePoints old.game old.events
    → Keeps old first
first_keeps old first g n same is low are = (
  ap (λ (s : Recorded). s.game) is ∙ same,
  subst (λ (s : Recorded). ArePoints s.game s.events) (sym is)
      (subst (λ (k : Game). ArePoints k (take n old.events)) (sym same)
      (points_first old.game old.events n low are)),
)

-- ---- the person's last point

-- the position after one point more
pub position_more : (g : Game) (moves : List ℕ) (n : ℕ)
    → n < length moves
    → position_after g (take (n + 1) moves)
    ≡ after g (position_after g (take n moves)) (get_or moves n 0)
position_more g moves n low =
    ap (λ (ms : List ℕ). position_after g ms) (take_more moves n 0 low)
    ∙ played-more g (start g) (take n moves) (get_or moves n 0)

module _ (side : Side) (g : Game) (events : List Event) (n : ℕ) where
  -- the next point is the person's
  pub last_reply_is : is_reply side g events n ≡ true
      → IsLastBelow side g events (n + 1) (Some n)
  last_reply_is is = (omega arith, is, λ m above below. absurd (omega (arith, above, below)))

  -- the next point is the program's
  pub last_stays : (last : Option ℕ)
      → is_reply side g events n ≡ false
      → IsLastBelow side g events n last
      → IsLastBelow side g events (n + 1) last
  last_stays None own each = λ m below. elim (cases_eq m n) [
    | inl same ↦ ap (λ (k : ℕ). is_reply side g events k) same ∙ own
    | inr other ↦ each m (omega (arith, below, other))
  ]
  last_stays (Some last) own (low, is, each) = (
    omega (arith, low),
    is,
    λ m above below. elim (cases_eq m n) [
      | inl same ↦ ap (λ (k : ℕ). is_reply side g events k) same ∙ own
      | inr other ↦ each m above (omega (arith, below, other))
    ],
  )
