-- What the claims that searches find show of the value.
use Rattle.std.proofs.Common.{◌≡◌, ◌≢◌, ℕ, Bool, true, false, List, Some, slice_get, refl, sym}
use Rattle.std.proofs.Common.{subst, inl, inr}
use Rattle.pg_solve.proofs.Common.{Goal, Win, Kind, MakerBreaker, MakerMaker, AvoiderEnforcer}
use Rattle.pg_solve.proofs.Common.{Switching, Score, XWins, Draw, YWins, Side, X, Y, position_of}
use Rattle.pg_solve.proofs.Common.{Claim, Node, IsPosition-start, IsPosition-after, claimer}
use Rattle.pg_solve.proofs.Common.{claimed_goal, start, IsPosition, IsTable, value, Forces, Game}
use Rattle.pg_solve.proofs.Common.{Position, contains_at, table-reached, IsClaimOf, IsReachable}
use Rattle.pg_check.proofs.ForcedNodes.{Forces-standing}
use Rattle.pg_pns.specs.Reachable.IsReachable.{by_start, by_move}
use Rattle.pg_solve.proofs.Values.{x-wins, y-wins, x-denied, both-draw}
use Rattle.pg_solve.specs.Searched.{last_question, IsSearched, AreValueClaims}

-- what can be reached is a position of the game
reachable-position : (g : Game) (p : Position) → IsReachable g p → IsPosition g p
reachable-position g p by_start = IsPosition-start g
reachable-position g p (by_move from v before going range free) =
    IsPosition-after g from v (reachable-position g from before) range free

-- a claim that a search found is forced
pub found-forced : (g : Game) (t : Score) (table : List Position) (answer : Bool) (c : Claim)
    → IsTable g t table
    → IsClaimOf g t table answer c
    → Forces g (start g) (claimer answer) (claimed_goal g.kind t answer)
found-forced g t table answer c rules is =
    let stands : (k : ℕ) (n : Node) → slice_get c.nodes k ≡ Some n → IsPosition g (position_of n) =
    λ k n at. elim (is.reached k n at) [
      | inl root ↦ subst (λ (p : Position). IsPosition g p) (sym root) (IsPosition-start g)
      | inr after ↦
          let place = contains_at table after.0 after.1 in
          let from =
          reachable-position g after.0 (table-reached g t table rules place.0 after.0 place.1) in
          subst (λ (p : Position). IsPosition g p) (sym after.2.leads)
          (IsPosition-after g after.0 after.2.point from after.2.range after.2.free)
    ] in
    let root = is.root in
    let forced = Forces-standing g c stands is.valid root.0 root.1 root.3 in
    let from_start : Forces g (start g) c.side c.goal =
    subst (λ (p : Position). Forces g p c.side c.goal) root.4 forced in
    let by_side : Forces g (start g) (claimer answer) c.goal =
    subst (λ (s : Side). Forces g (start g) s c.goal) is.side from_start in
    subst (λ (k : Goal). Forces g (start g) (claimer answer) k) is.goal by_side

-- ---- which goal the claims have

pub yes-win : (kind : Kind) → claimed_goal kind XWins true ≡ Win
yes-win MakerBreaker = refl
yes-win MakerMaker = refl
yes-win AvoiderEnforcer = refl
yes-win Switching = refl

pub no-win : (kind : Kind) → claimed_goal kind (last_question kind YWins) false ≡ Win
no-win MakerBreaker = refl
no-win MakerMaker = refl
no-win AvoiderEnforcer = refl
no-win Switching = refl

-- ---- the value

-- Y's claim denies X the win
pub denied-value : (g : Game) (budget : ℕ) (c : Claim)
    → g.kind ≡ MakerMaker
    → IsSearched g budget XWins false c
    → value g (start g) ≢ XWins
denied-value g budget c kind is =
    let forced = found-forced g XWins is.table false c is.listed.rules is.shows in
    x-denied _ (subst (λ (k : Kind). Forces g (start g) Y (claimed_goal k XWins false)) kind forced)

-- the claims show the value
pub claims-value : (g : Game) (budget : ℕ) (table : List Position) (score : Score)
    (claims : List Claim)
    → IsTable g (last_question g.kind score) table
    → AreValueClaims g budget table score claims
    → value g (start g) ≡ score
claims-value g budget table XWins claims rules is =
    let forced = found-forced g XWins table true is.claim (x-question g.kind rules) is.shows in
    x-wins _ (subst (λ (k : Goal). Forces g (start g) X k) (yes-win g.kind) forced)
  where
    x-question : (kind : Kind) → IsTable g (last_question kind XWins) table → IsTable g XWins table
    x-question MakerBreaker h = h
    x-question MakerMaker h = h
    x-question AvoiderEnforcer h = h
    x-question Switching h = h
claims-value g budget table YWins claims rules is =
    let forced = found-forced g (last_question g.kind YWins) table false is.claim rules is.shows in
    y-wins _ (subst (λ (k : Goal). Forces g (start g) Y k) (no-win g.kind) forced)
claims-value g budget table Draw claims rules is =
    let first =
    found-forced g XWins is.denies.table false is.denial is.denies.listed.rules is.denies.shows in
    let drawn : IsTable g Draw table =
    subst (λ (k : Kind). IsTable g (last_question k Draw) table) is.kind rules in
    let second = found-forced g Draw table true is.claim drawn is.shows in
    both-draw _
    (subst (λ (k : Kind). Forces g (start g) X (claimed_goal k Draw true)) is.kind second)
    (subst (λ (k : Kind). Forces g (start g) Y (claimed_goal k XWins false)) is.kind first)
