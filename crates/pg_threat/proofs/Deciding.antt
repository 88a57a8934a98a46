-- What the search says of the criterion by which a position is decided.
use Rattle.std.specs.Prelude.{Option, Some, None}
use Rattle.std.proofs.Common.{◌≡◌, ◌≢◌, ℕ, ◌<◌, true, false, inl, inr, arith, ne_eqb, sym}
use Rattle.std.proofs.Common.{◌≤◌, ◌/◌, ◌∙◌, List, [], ◌∷◌, ap, get_or, length, subst, take}
use Rattle.std.proofs.Common.{zero, suc}
use Rattle.pg_threat.proofs.Common.{is_some, cases_Bool, and_from, and_left, and_right, Game}
use Rattle.pg_threat.proofs.Common.{Position, may_attack, has_threat_line}
use Rattle.pg_threat.proofs.Common.{after, is_free, is_over, other, passed, point_count, Side}
use Rattle.pg_threat.proofs.Common.{AreDeeper, ComesFirst, IsPosition, IsThreatLine, LeadsToLine}
use Rattle.pg_threat.proofs.Common.{depth_of, turn-alternates}
use Rattle.pg_game.specs.Decided.{attack_wins, greatest_depth}
use Rattle.pg_game.proofs.ThreatSearch.{line-within, within-line}
use Rattle.pg_threat.specs.declared.line.ThreatLine.{ThreatLine}
use Rattle.pg_threat.specs.Search.{points_of_line}
use Rattle.pg_threat.specs.Forced.{IsAnswer, IsAnswerLine}
use Rattle.pg_threat.proofs.Passing.{deeper-after, line-passed}
use Rattle.pg_threat.proofs.Serving.{line-after}
use Rattle.pg_threat.specs.Serving.{IsApart, IsBound}

-- where the side to move may attack, it has a short threat line exactly where one was found
pub attack_wins-found : (g : Game) (p : Position) (found : Option ThreatLine)
    → may_attack g.kind p.turn ≡ true
    → IsAnswer g p p.turn greatest_depth found
    → attack_wins g p ≡ is_some found
unfolding attack_wins
attack_wins-found g p (Some t) may h =
    and_from _ _ may (within-line g greatest_depth p (points_of_line t) h.few h.first.line)
attack_wins-found g p None may h = elim (cases_Bool (has_threat_line greatest_depth g p)) [
  | inl on ↦
      let line = line-within g greatest_depth p on in
      let deep = h line.0 line.2 in
      absurd (omega (arith, line.1))
  | inr off ↦ and_right _ _ off
]

-- where it may not, or where Y claims several points a turn, it has none
pub attack_wins-not : (g : Game) (p : Position)
    → may_attack g.kind p.turn ≡ false
    → attack_wins g p ≡ false
unfolding attack_wins
attack_wins-not g p may = and_left _ _ may

pub attack_wins-biased : (g : Game) (p : Position) → g.bias ≢ 1 → attack_wins g p ≡ false
unfolding attack_wins has_threat_line
attack_wins-biased g p several = and_right _ _ (and_left _ _ (ne_eqb g.bias 1 several))

-- where the other side has no such line once the turn passes, it has none after any move
pub attack_wins-passed : (g : Game) (p : Position) (v : ℕ)
    → g.bias ≡ 1
    → IsPosition g p
    → v < point_count g
    → is_free p v ≡ true
    → may_attack g.kind (other p.turn) ≡ true
    → is_over g p ≡ false
    → is_over g (after g p v) ≡ false
    → AreDeeper g (passed p) (other p.turn) greatest_depth
    → attack_wins g (after g p v) ≡ false
attack_wins-passed g p v one position range free may going goes_on deeper =
    let next = sym (turn-alternates g p v position one) in
    attack_wins-found g (after g p v) None
    (subst (λ (s : Side). may_attack g.kind s ≡ true) next may)
    (subst (λ (s : Side). AreDeeper g (after g p v) s greatest_depth) next
    (deeper-after g p one position v range free greatest_depth may going goes_on deeper))

-- where it has one then, it has one after each move apart from it
pub attack_wins-served : (g : Game) (p : Position) (v : ℕ) (points : List ℕ)
    → IsPosition g p
    → v < point_count g
    → is_free p v ≡ true
    → may_attack g.kind (other p.turn) ≡ true
    → is_over g (after g p v) ≡ false
    → IsApart g p v points
    → IsThreatLine g (passed p) (other p.turn) points
    → depth_of points ≤ greatest_depth
    → (attack_wins g (after g p v) ≡ true)
    × IsThreatLine g (after g p v) (after g p v).turn points
unfolding attack_wins
attack_wins-served g p v points position range free may goes_on off line few =
    let q = after g p v in
    let next = sym (turn-alternates g p v position line.single) in
    let here = subst (λ (s : Side). IsThreatLine g q s points) next
    (line-after g p v points position range free may goes_on off line) in
    let wins = and_from _ _ (subst (λ (s : Side). may_attack g.kind s ≡ true) next may)
    (within-line g greatest_depth q points few here) in
    (wins, here)

-- what leads to a line has a point
some-leads : (g : Game) (p : Position) (side : Side) (points : List ℕ)
    → LeadsToLine g p side points
    → 1 ≤ length points
some-leads g p side [] leads = absurd leads
some-leads g p side (v ∷ points) leads = omega arith

-- the first of two lists begins with no greater point
head-first : (len : ℕ) (xs : List ℕ) (w : ℕ) (others : List ℕ)
    → 1 ≤ length (take len xs)
    → ComesFirst (take len xs) (w ∷ others)
    → get_or xs 0 0 ≤ w
head-first zero xs w others some first = absurd (omega (arith, some))
head-first (suc n) [] w others some first = absurd (omega (arith, some))
head-first (suc n) (x ∷ xs) w others some first =
    elim first [ inl less ↦ omega (arith, less) | inr same ↦ omega (arith, same.0) ]

-- where it has one then, none comes before it after any move
pub bound-after : (g : Game) (p : Position) (v depth : ℕ) (t : ThreatLine)
    → IsPosition g p
    → v < point_count g
    → is_free p v ≡ true
    → may_attack g.kind (other p.turn) ≡ true
    → is_over g p ≡ false
    → is_over g (after g p v) ≡ false
    → IsAnswerLine g (passed p) (other p.turn) depth t
    → IsBound g (after g p v) (other p.turn) t
bound-after g p v depth t position range free may going goes_on found = record {
  least = λ points leads. subst (λ n. n / 2 ≤ depth_of points) found.whole
      (found.first.least points (before points leads));
  first = λ w points leads deep.
      head-first t.len t.points w points
      (some-leads g (passed p) (other p.turn) (points_of_line t) found.first.line.leads)
      (found.first.first (w ∷ points) (before (w ∷ points) leads)
      (deep ∙ sym (ap (λ n. n / 2) found.whole)));
}
  where
    before : (points : List ℕ)
        → LeadsToLine g (after g p v) (other p.turn) points
        → IsThreatLine g (passed p) (other p.turn) points
    before = line-passed g p found.first.line.single position v range free may going goes_on
