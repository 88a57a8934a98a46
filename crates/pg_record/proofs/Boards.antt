-- Boards on which moves were played.
use Rattle.std.proofs.Common.{◌≡◌, ◌≢◌, ◌∙◌, ℕ, ◌-◌, ◌<◌, List, [], ◌∷◌, ◌++◌, length, map, take}
use Rattle.std.proofs.Common.{refl, sym, ap, subst, arith, Result, Ok, Err, OnOk}
use Rattle.pg_record.proofs.Common.{length_push, length-map, map-append, Switching, Game, Position}
use Rattle.pg_record.proofs.Common.{Illegal, after, start, Stand, View}
use Rattle.pg_record.specs.Replay.{position_after, positions_along}
use Rattle.pg_record.specs.Session.{positions_of, IsBoardAfter}
use Rattle.pg_record.proofs.Along.{along-more, along-last, length-along}
use Rattle.pg_record.proofs.Standing.{without-last}

-- lists with one more member that are equal were equal before, and so are the members
push-same : {X : Type 0} (xs ys : List X) (x y : X)
    → xs ++ x ∷ [] ≡ ys ++ y ∷ []
    → (xs ≡ ys) × (x ≡ y)
push-same [] [] x y e = (refl, cc)
push-same [] (b ∷ ys) x y e =
    let long = ap length e in
    absurd (omega (arith, long, length_push ys y))
push-same (a ∷ xs) [] x y e =
    let long = ap length e in
    absurd (omega (arith, long, length_push xs x))
push-same (a ∷ xs) (b ∷ ys) x y e =
    let head : a ≡ b = cc in
    let tail : xs ++ x ∷ [] ≡ ys ++ y ∷ [] = cc in
    let rest = push-same xs ys x y tail in
    (λ i. head i ∷ rest.0 i, rest.1)

-- a list with a member ends in one
last-of : (ms : List ℕ) → 0 < length ms → (v : ℕ) × (front : List ℕ) × (ms ≡ front ++ v ∷ [])
last-of [] some = absurd (omega (arith, some))
last-of (v ∷ []) some = (v, [], refl)
last-of (u ∷ v ∷ ms) some =
    let rest = last-of (v ∷ ms) (omega arith) in
    (rest.0, u ∷ rest.1, ap (λ (l : List ℕ). u ∷ l) rest.2)

abbrev place : Stand → Position
place s = s.position

-- a board's positions, the last apart
ends-in : (earlier : List Stand) (stand : Stand)
    → map place (earlier ++ stand ∷ []) ≡ map place earlier ++ stand.position ∷ []
ends-in earlier stand = map-append place earlier (stand ∷ [])

-- the position
pub board-position : (g : Game) (moves : List ℕ) (b : View)
    → IsBoardAfter g moves b
    → b.stand.position ≡ position_after g moves
board-position g moves b h =
    let last = along-last g (start g) moves in
    (push-same (map place b.earlier) last.0 b.stand.position (position_after g moves)
    (sym (ends-in b.earlier b.stand) ∙ h.played ∙ last.1)).1

-- how many plays stand
pub board-plays : (g : Game) (moves : List ℕ) (b : View)
    → IsBoardAfter g moves b
    → length b.earlier ≡ length moves
board-plays g moves b h = omega (
  arith,
  ap length h.played,
  length-along g (start g) moves,
  length-map (b.earlier ++ b.stand ∷ []) place,
  length_push b.earlier b.stand,
)

-- one play more
pub board-more : (g : Game) (moves : List ℕ) (b next : View) (v : ℕ)
    → IsBoardAfter g moves b
    → next.game ≡ b.game
    → next.stand.position ≡ after b.game b.stand.position v
    → next.earlier ≡ b.earlier ++ b.stand ∷ []
    → IsBoardAfter g (moves ++ v ∷ []) next
board-more g moves b next v h game position earlier = record {
  lines = h.lines;
  same = game ∙ h.same;
  played =
      let now : next.stand.position ≡ after g (position_after g moves) v =
      position ∙ (λ i. after (h.same i) (board-position g moves b h i) v) in
      ap (λ (es : List Stand). map place (es ++ next.stand ∷ [])) earlier
      ∙ (ends-in (b.earlier ++ b.stand ∷ []) next.stand
      ∙ ((λ i. h.played i ++ now i ∷ [])
      ∙ sym (along-more g (start g) moves v)));
}

-- the last play undone
pub board-back : (g : Game) (moves : List ℕ) (b next : View)
    → IsBoardAfter g moves b
    → 0 < length moves
    → next.game ≡ b.game
    → b.earlier ≡ next.earlier ++ next.stand ∷ []
    → IsBoardAfter g (take (length moves - 1) moves) next
board-back g moves b next h some game earlier =
    let cut = last-of moves some in
    let v = cut.0 in
    let front = cut.1 in
    let shorter : take (length moves - 1) moves ≡ front =
    ap (λ (ms : List ℕ). take (length ms - 1) ms) cut.2 ∙ without-last front v in
    let was : positions_of next ++ b.stand.position ∷ []
    ≡ positions_along g (start g) front ++ after g (position_after g front) v ∷ [] =
    sym (ap (λ (es : List Stand). map place (es ++ b.stand ∷ [])) earlier
    ∙ ends-in (next.earlier ++ next.stand ∷ []) b.stand)
    ∙ (h.played ∙ (ap (positions_along g (start g)) cut.2 ∙ along-more g (start g) front v)) in
    subst (λ (ms : List ℕ). IsBoardAfter g ms next) (sym shorter) (record {
      lines = h.lines;
      same = game ∙ h.same;
      played =
          (push-same (positions_of next) (positions_along g (start g) front) b.stand.position
          (after g (position_after g front) v) was).0;
    })

-- the same where the play wasn't refused
pub board-played : (g : Game) (moves : List ℕ) (b next : View) (v : ℕ)
    (r : Result (Unit {0}) Illegal)
    → IsBoardAfter g moves b
    → next.game ≡ b.game
    → OnOk r (next.stand.position ≡ after b.game b.stand.position v)
    → OnOk r (next.earlier ≡ b.earlier ++ b.stand ∷ [])
    → OnOk r (IsBoardAfter g (moves ++ v ∷ []) next)
board-played g moves b next v (Ok done) h game position earlier =
    board-more g moves b next v h game position earlier
board-played g moves b next v (Err why) h game position earlier = tt
