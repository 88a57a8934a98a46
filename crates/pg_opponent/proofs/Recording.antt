-- Points that are recorded: a record of points alone stays one.
use Rattle.std.proofs.Common.{◌≡◌, ◌∙◌, ℕ, ◌+◌, ◌<◌, ◌≤◌, nat_lt, not, if◌then◌else◌, Bool, true}
use Rattle.std.proofs.Common.{false, List, [], ◌∷◌, ◌++◌, length, Ok, Err, refl, ap, arith}
use Rattle.std.proofs.lemmas.List.Filters.{length-filter_both}
use Rattle.std.proofs.lemmas.List.FromFn.{length-range_with_len}
use Rattle.std.specs.List.{range_with_len}
use Rattle.pg_opponent.proofs.Common.{Event, Game, MAX_EVENTS, Play, Position, after, free_points}
use Rattle.pg_opponent.proofs.Common.{is_free, is_over, judged_move, legal-standing}
use Rattle.pg_opponent.proofs.Common.{length-legal_play, length_push, ltb-true, nat_tests}
use Rattle.pg_opponent.proofs.Common.{played-more, point_count, point_count-le, record-more}
use Rattle.pg_opponent.proofs.Common.{standing, standing-more, start}
use Rattle.pg_game.specs.Play.{played}
use Rattle.pg_game.specs.declared.position.Illegal.TheVariants.{Over, Range, Taken}
use Rattle.pg_opponent.specs.Fits.{IsLegal, MayPlay}
use Rattle.pg_opponent.specs.Sitting.{place}

-- no more points are free than there are
few_free : (g : Game) (p : Position) → length (free_points g p) ≤ point_count g
unfolding free_points
few_free g p =
    let both = length-filter_both (is_free p) (λ v. not (is_free p v)) (λ v. refl)
    (range_with_len 0 (point_count g)) in
    omega (arith, both, length-range_with_len 0 (point_count g))

-- there is room for a further event
pub has_room : (g : Game) (events : List Event) → IsLegal g events → length events < MAX_EVENTS
has_room g events legal = omega (
  arith,
  legal.stands,
  length-legal_play g (start g) (standing events) (legal-standing g events legal.allowed),
  few_free g (start g),
  point_count-le g,
)

-- a point that may be played follows
pub legal_more : (g : Game) (events : List Event) (v : ℕ)
    → IsLegal g events
    → MayPlay g events v
    → IsLegal g (events ++ Play v ∷ [])
legal_more g events v legal may =
    let longer : length (standing (events ++ Play v ∷ [])) ≡ length (standing events) + 1 =
    ap length (standing-more events (Play v)) ∙ length_push (standing events) v in
    let more : length (events ++ Play v ∷ []) ≡ length events + 1 =
    length_push events (Play v) in
    record {
      allowed = record-more g events (Play v) legal.allowed (has_room g events legal) may;
      stands = omega (arith, longer, more, legal.stands);
    }

-- the position after it
pub place_more : (g : Game) (events : List Event) (v : ℕ)
    → place g (events ++ Play v ∷ []) ≡ after g (place g events) v
place_more g events v =
    ap (λ (moves : List ℕ). played g (start g) moves) (standing-more events (Play v))
    ∙ played-more g (start g) (standing events) v

-- what a move that isn't refused leads to
pub judged_after : (g : Game) (p q : Position) (v : ℕ) → judged_move g p v ≡ Ok q → q ≡ after g p v
judged_after g p q v e =
    go (nat_lt v (point_count g)) (is_over g p) (is_free p v) e
  where
    go : (within over free : Bool)
        → (if within
        then (if over then Err Over else (if free then Ok (after g p v) else Err Taken))
        else Err Range)
        ≡ Ok q
        → q ≡ after g p v
    go true false true e = cc
    go true false false e = absurd cc
    go true true free e = absurd cc
    go false over free e = absurd cc

-- a move that isn't refused is a point of the game
pub judged_within : (g : Game) (p q : Position) (v : ℕ)
    → judged_move g p v ≡ Ok q
    → v < point_count g
judged_within g p q v e = go (nat_lt v (point_count g)) refl e where
  go : (within : Bool)
      → nat_lt v (point_count g) ≡ within
      → (if within
      then (if is_over g p then Err Over else (if is_free p v then Ok (after g p v) else Err Taken))
      else Err Range)
      ≡ Ok q
      → v < point_count g
  go true is e = ltb-true v (point_count g) is
  go false is e = absurd cc

-- a free point in a game that goes on may be claimed
pub free_is_judged : (g : Game) (p : Position) (v : ℕ)
    → v < point_count g
    → is_over g p ≡ false
    → is_free p v ≡ true
    → judged_move g p v ≡ Ok (after g p v)
free_is_judged g p v within going free =
    let test : nat_lt v (point_count g) ≡ true = grind (arith, nat_tests, within) in
    rw (test, going, free) refl

-- ---- no events

no-standing : standing [] ≡ []
unfolding standing
no-standing = refl

pub no_events : (g : Game) → IsLegal g []
no_events g = record {
  allowed = record { allowed = tt; few = omega arith };
  stands = ap length no-standing;
}

pub no_moves : (g : Game) → place g [] ≡ start g
no_moves g = ap (λ (moves : List ℕ). played g (start g) moves) no-standing
