-- What leads to a line without a point of the other side does so with it, if that point isn't one
-- of the list and comes near no line of its own side.
use Rattle.std.proofs.Common.{◌≡◌, ◌≢◌, ℕ, ◌<◌, ◌≤◌, true, false, ◌==◌, List, []}
use Rattle.std.proofs.Common.{◌∷◌, length, sym, ap, ◌∙◌, subst, refl, inl, inr, arith, cond}
use Rattle.std.proofs.Common.{eq-eqb, eqb-true}
use Rattle.pg_threat.proofs.Common.{cases_Bool, false≢true, not_from_false, or_parts, clear-any}
use Rattle.pg_threat.proofs.Common.{sum_by-cons, Contains, FinSet, contains, insert, count_by}
use Rattle.pg_threat.proofs.Common.{nat_cmp, other, MakerMaker, ShareNone, Side, X, Y, Game}
use Rattle.pg_threat.proofs.Common.{Position, is_free, is_on, is_over, is_touched, lines_of}
use Rattle.pg_threat.proofs.Common.{point_count, points_of, after, passed, has_threat, may_attack}
use Rattle.pg_threat.proofs.Common.{Forcing, Filling, LeadsToLine, IsAttacking, IsPosition}
use Rattle.pg_threat.proofs.Common.{IsThreatLine}
use Rattle.pg_threat.proofs.Common.{IsPosition-after, ShareNone-after, Near, filled_but}
use Rattle.pg_threat.proofs.Common.{filled-with, near-from, near-range, near-threat, near-to}
use Rattle.pg_threat.proofs.Common.{untouched, forced-after, attacking-after, free-of, free-stays}
use Rattle.pg_threat.proofs.Common.{other_other, points_of-mover, points_of-waiter, turn-alternates}
use Rattle.pg_threat.proofs.Common.{unfilled-going}
use Rattle.pg_threat.specs.Lacking.{own_count}
use Rattle.pg_threat.specs.Serving.{IsApart, IsSlow}
use Rattle.pg_threat.proofs.Attacks.{off-line, threat-near}
use Rattle.pg_threat.proofs.Gains.{untouched-insert}
use Rattle.pg_threat.proofs.Idle.{count-one}
use Rattle.pg_threat.proofs.LineCounts.{all-counted, count-insert, once}
use Rattle.pg_threat.proofs.Passing.{HasMore, free-more, more-after, more-attack, more-filled}
use Rattle.pg_threat.proofs.Passing.{more-free, more-reply, passed-position}

-- a point is on a line at most once
on-count : (g : Game) (w : ℕ) (line : List ℕ)
    → Contains (lines_of g) line
    → count_by (λ q. q == w) line ≤ cond (is_on w line) 1 0
on-count g w line listed = elim (cases_Bool (is_on w line)) [
  | inl on ↦ rw on (once g line listed w)
  | inr off ↦
      let none = eqb-true (count_by (λ q. q == w) line) 0
      (clear-any (λ q. q == w) line ∙ not_from_false _ off) in
      rw off (omega (arith, none))
]

module _ (g : Game) (side : Side) (v : ℕ) (one : g.bias ≡ 1) where
  apart : (a : ℕ) (points : List ℕ)
      → is_on v (a ∷ points) ≡ false
      → (a ≢ v) × (is_on v points ≡ false)
  apart a points off =
      let parts = or_parts (a == v) _ off in
      ((λ e. false≢true (sym parts.0 ∙ eq-eqb a v e)), parts.1)

  near-less : (q p : Position) (u : ℕ)
      → HasMore side v q p
      → u ≢ v
      → Near g p side u
      → Near g q side u
  near-less q p u m ne n = record {
    line = n.line;
    listed = n.listed;
    free = free-more g side v q p u m n.free ne;
    on = n.on;
    rest = subst (λ (s : FinSet nat_cmp). filled_but s u n.line ≡ true) (sym m.mine) n.rest;
  }

  -- with the point the other side has no threat either, if it lacks more of each line through it
  safe-less : (q p : Position)
      → HasMore side v q p
      → ShareNone q.x q.y
      → is_free p v ≡ true
      → IsSlow g p side v []
      → has_threat g p (other side) ≡ false
      → has_threat g q (other side) ≡ false
  safe-less q p m disjoint free slow safe = elim (cases_Bool (has_threat g q (other side))) [
    | inr off ↦ off
    | inl on ↦
        let found = threat-near g q (other side) on in
        let x = found.0 in
        let n = found.1 in
        let theirs = points_of p (other side) in
        let rest : filled_but (insert theirs v) x n.line ≡ true =
        subst (λ (s : FinSet nat_cmp). filled_but s x n.line ≡ true) m.theirs n.rest in
        elim (cases_Bool (is_on v n.line)) [
          | inr off ↦ absurd (false≢true (sym safe ∙ near-threat g p (other side) x (record {
            line = n.line;
            listed = n.listed;
            free = more-free g side v q p x m n.free;
            on = n.on;
            rest = off-line theirs v x n.line rest off;
          })))
          | inl here ↦
              let clear = untouched q (other side) x n.line disjoint n.free n.rest in
              let mine : is_touched (points_of p side) n.line ≡ false =
              subst (λ (s : FinSet nat_cmp). is_touched s n.line ≡ false) m.mine
              (subst (λ (s : Side). is_touched (points_of q s) n.line ≡ false)
              (other_other side) clear) in
              let few = slow n.line n.listed here mine in
              let off : contains theirs v ≡ false = free-of p (other side) v free in
              let first = count-one g theirs v n.line n.listed off in
              let out : contains (insert theirs v) x ≡ false =
              subst (λ (s : FinSet nat_cmp). contains s x ≡ false) m.theirs
              (free-of q (other side) x n.free) in
              let second = count-one g (insert theirs v) x n.line n.listed out in
              let all = all-counted (contains (insert (insert theirs v) x)) n.line
              (filled-with (insert theirs v) x n.line rest) in
              absurd (omega (arith, few, first, second, all))
        ]
  ]

  module _ (p : Position) (turn : p.turn ≡ side) (a : ℕ) (points : List ℕ)
      (slow : IsSlow g p side v (a ∷ points)) where
    -- a line that is untouched after the attack was so before it
    was-clear : (line : List ℕ)
        → is_touched (points_of (after g p a) side) line ≡ false
        → is_touched (points_of p side) line ≡ false
    was-clear line clear = (untouched-insert (points_of p side) a line
        (subst (λ (s : FinSet nat_cmp). is_touched s line ≡ false)
        (points_of-mover g p side a turn) clear)).0

    same-count : (line : List ℕ)
        → own_count (after g p a) (other side) line ≡ own_count p (other side) line
    same-count line = ap (λ (s : FinSet nat_cmp). count_by (contains s) line)
        (points_of-waiter g p (other side) a (turn ∙ sym (other_other side)))

    slow-attacked : IsSlow g (after g p a) side v []
    slow-attacked line listed on clear =
        let few = slow line listed on (was-clear line clear) in
        omega (arith, few, same-count line)

  slow-replied : (p : Position) (turn : p.turn ≡ side) (a w : ℕ) (points : List ℕ)
      → IsSlow g p side v (a ∷ (w ∷ points))
      → (after g p a).turn ≡ other side
      → is_free (after g p a) w ≡ true
      → IsSlow g (after g (after g p a) w) side v points
  slow-replied p turn a w points slow next free line listed on clear =
      let q = after g p a in
      let theirs = points_of q (other side) in
      let mine = subst (λ (s : FinSet nat_cmp). is_touched s line ≡ false)
      (points_of-waiter g q side w next) clear in
      let few = slow line listed on (was-clear p turn a (w ∷ points) slow line mine) in
      let now : own_count (after g q w) (other side) line
      ≡ count_by (contains (insert theirs w)) line =
      ap (λ (s : FinSet nat_cmp). count_by (contains s) line)
      (points_of-mover g q (other side) w next) in
      omega (
        arith,
        few,
        now,
        same-count p turn a (w ∷ points) slow line,
        count-insert theirs w line (free-of q (other side) w free),
        on-count g w line listed,
        sum_by-cons (λ (x : ℕ). cond (is_on x line) 1 0) a (w ∷ points),
        sum_by-cons (λ (x : ℕ). cond (is_on x line) 1 0) w points,
      )

  module _ (q p : Position) (first : IsAttacking g q side) (second : IsAttacking g p side)
      (m : HasMore side v q p) (free_v : is_free p v ≡ true) where
    filling-less : (a : ℕ) → a ≢ v → Filling g p side a → Filling g q side a
    filling-less a ne f = record {
      attack = record {
        range = f.attack.range;
        free = free-more g side v q p a m f.attack.free ne;
      };
      fills = more-filled g side v (after g q a) (after g p a)
          (more-attack g side v q p a first.turn second.turn m) ∙ f.fills;
    }

    forcing-less : (a w : ℕ) (points : List ℕ)
        → a ≢ v
        → w ≢ v
        → (g.kind ≡ MakerMaker → IsSlow g p side v (a ∷ points))
        → Forcing g p side a w
        → Forcing g q side a w
    forcing-less a w points ne_a ne_w slow f =
        let on = more-attack g side v q p a first.turn second.turn m in
        let free = free-more g side v q p a m f.attack.free ne_a in
        record {
          attack = record { range = f.attack.range; free = free };
          fills_none = more-filled g side v (after g q a) (after g p a) on ∙ f.fills_none;
          threat = near-to g (after g q a) side w
              (near-less (after g q a) (after g p a) w on ne_w
              (near-from g (after g p a) side w f.threat));
          safe = λ kind. safe-less (after g q a) (after g p a) on
              (ShareNone-after g q a first.position.disjoint free)
              (free-stays g p a v ne_a free_v)
              (slow-attacked p second.turn a points (slow kind)) (f.safe kind);
        }

  leads-less : (points : List ℕ) (q p : Position)
      → IsAttacking g q side
      → IsAttacking g p side
      → HasMore side v q p
      → is_free p v ≡ true
      → is_on v points ≡ false
      → (g.kind ≡ MakerMaker → IsSlow g p side v points)
      → LeadsToLine g p side points
      → LeadsToLine g q side points
  leads-less [] q p first second m free off slow leads = absurd leads
  leads-less (a ∷ []) q p first second m free off slow leads =
      filling-less q p first second m free a (apart a [] off).0 leads
  leads-less (a ∷ (w ∷ others)) q p first second m free off slow leads =
      let here = apart a (w ∷ others) off in
      let next = apart w others here.1 in
      let forcing =
      forcing-less q p first second m free a w (w ∷ others) here.0 next.0 slow leads.0 in
      let one_q = forced-after g side one q a w first forcing in
      let one_p = forced-after g side one p a w second leads.0 in (
        forcing,
        leads-less others (after g (after g q a) w) (after g (after g p a) w)
            (attacking-after g side one (after g q a) w w one_q
            (near-range g one_q.near.line w one_q.near.listed one_q.near.on) one_q.near.free)
            (attacking-after g side one (after g p a) w w one_p
            (near-range g one_p.near.line w one_p.near.listed one_p.near.on) one_p.near.free)
            (more-reply g side v (after g q a) (after g p a) w one_q.turn one_p.turn
            (more-attack g side v q p a first.turn second.turn m))
            (free-stays g (after g p a) w v next.0 (free-stays g p a v here.0 free)) next.1
            (λ kind. slow-replied p second.turn a w others (slow kind) one_p.turn one_p.near.free)
            leads.1,
      )

  -- one attack that fills a line forces nothing
  pub leads-apart : (points : List ℕ) (q p : Position)
      → IsAttacking g q side
      → IsAttacking g p side
      → HasMore side v q p
      → is_free p v ≡ true
      → is_on v points ≡ false
      → (g.kind ≡ MakerMaker → 2 ≤ length points → IsSlow g p side v points)
      → LeadsToLine g p side points
      → LeadsToLine g q side points
  leads-apart [] q p first second m free off slow leads = absurd leads
  leads-apart (a ∷ []) q p first second m free off slow leads =
      filling-less q p first second m free a (apart a [] off).0 leads
  leads-apart (a ∷ (w ∷ others)) q p first second m free off slow leads =
      leads-less (a ∷ (w ∷ others)) q p first second m free off
      (λ kind. slow kind (omega arith)) leads

-- a threat line where the turn passes is one after a move apart from it
pub line-after : (g : Game) (p : Position) (v : ℕ) (points : List ℕ)
    → IsPosition g p
    → v < point_count g
    → is_free p v ≡ true
    → may_attack g.kind (other p.turn) ≡ true
    → is_over g (after g p v) ≡ false
    → IsApart g p v points
    → IsThreatLine g (passed p) (other p.turn) points
    → IsThreatLine g (after g p v) (other p.turn) points
line-after g p v points position range free may goes_on off line =
    let turn = turn-alternates g p v position line.single in record {
      single = line.single;
      going = goes_on;
      turn = turn;
      leads = leads-apart g (other p.turn) v line.single points (after g p v) (passed p)
          (record {
            position = IsPosition-after g p v position range free;
            turn = turn;
            unfilled = unfilled-going g (other p.turn) may (after g p v) goes_on;
          }) (record {
            position = passed-position g p line.single position;
            turn = refl;
            unfilled = unfilled-going g (other p.turn) may (passed p) line.going;
          }) (more-after g p line.single position v range free) free off.off
          (λ kind some. slow-passed (off.slow kind some)) line.leads;
    }
  where
    -- the points of the sides are the same where the turn passes
    slow-passed : IsSlow g p (other p.turn) v points → IsSlow g (passed p) (other p.turn) v points
    slow-passed slow = at (other p.turn) slow
      where
        at : (s : Side) → IsSlow g p s v points → IsSlow g (passed p) s v points
        at X slow = slow
        at Y slow = slow
