-- A board after a play, and after the play was taken back.
use Rattle.std.proofs.Common.{◌≡◌, ◌≤◌, ℕ, List, [], ◌∷◌, ◌++◌, length, refl, sym, ap, ◌∙◌, subst}
use Rattle.std.proofs.Common.{arith}
use Rattle.pg_threat.proofs.Common.{length_push, Game, Position, after, Stand, View}

-- what holds of a game and a position holds of equal ones
pub at_same : (P : Game → Position → Type 0) (g h : Game) (p q : Position)
    → h ≡ g
    → q ≡ p
    → P g p
    → P h q
at_same P g h p q games positions holds =
    subst (λ (x : Position). P h x) (sym positions) (subst (λ (x : Game). P x p) (sym games) holds)

-- lists with one more member that are equal were equal before, and so are the members
push-same : {X : Type 0} (xs ys : List X) (x y : X)
    → xs ++ x ∷ [] ≡ ys ++ y ∷ []
    → (xs ≡ ys) × (x ≡ y)
push-same [] [] x y e = (refl, cc)
push-same [] (b ∷ ys) x y e =
    let long = ap length e in
    absurd (omega (arith, long, length_push ys y))
push-same (a ∷ xs) [] x y e =
    let long = ap length e in
    absurd (omega (arith, long, length_push xs x))
push-same (a ∷ xs) (b ∷ ys) x y e =
    let head : a ≡ b = cc in
    let tail : xs ++ x ∷ [] ≡ ys ++ y ∷ [] = cc in
    let rest = push-same xs ys x y tail in
    (λ i. head i ∷ rest.0 i, rest.1)

-- a play that stands is one that can be taken back
pub one-earlier : (earlier others : List Stand) (stand : Stand)
    → earlier ≡ others ++ stand ∷ []
    → 1 ≤ length earlier
one-earlier earlier others stand is = omega (arith, ap length is, length_push others stand)

-- what is taken back is what was played
pub taken-back : (before played later after : View)
    → played.game ≡ before.game
    → played.earlier ≡ before.earlier ++ before.stand ∷ []
    → later ≡ played
    → after.game ≡ later.game
    → later.earlier ≡ after.earlier ++ after.stand ∷ []
    → after ≡ before
taken-back before played later after same push kept game pop =
    let games = game ∙ ap (λ (b : View). b.game) kept ∙ same in
    let rest = push-same after.earlier before.earlier after.stand before.stand
    (sym pop ∙ ap (λ (b : View). b.earlier) kept ∙ push) in
    λ i. record { game = games i; stand = rest.1 i; earlier = rest.0 i }

-- after two plays
pub two-played : (before first second : View) (v u : ℕ)
    → first.game ≡ before.game
    → first.stand.position ≡ after before.game before.stand.position v
    → second.game ≡ first.game
    → second.stand.position ≡ after first.game first.stand.position u
    → (second.game ≡ before.game)
    × (second.stand.position ≡ after before.game (after before.game before.stand.position v) u)
two-played before first second v u game position game_two position_two =
    (game_two ∙ game, position_two ∙ (λ i. after (game i) (position i) u))
