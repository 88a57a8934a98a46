-- A side has a threat line of at most some depth exactly where trying all attacks and replies finds
-- one.
use Rattle.std.proofs.Common.{◌≡◌, ℕ, zero, suc, ◌<◌, ◌≤◌, ◌/◌, Bool, true, false, not, ◌&&◌, ◌||◌}
use Rattle.std.proofs.Common.{◌==◌, nat_lt, List, [], ◌∷◌, length, refl, sym, ap, ap₂, ◌∙◌, subst}
use Rattle.std.proofs.Common.{inl, inr, ◌⊎◌, arith, eqb-true, eq-eqb}
use Rattle.pg_game.proofs.Common.{cases_Bool, and_parts, and_from, or_left, or_right, or_cases}
use Rattle.pg_game.proofs.Common.{not-true, not_from_false, false≢true, lt-ltb, ltb-true, list_any}
use Rattle.pg_game.proofs.Common.{other, Kind, MakerBreaker, MakerMaker, AvoiderEnforcer, Switching}
use Rattle.pg_game.proofs.Common.{Side}
use Rattle.pg_game.specs.declared.game.Game.{Game}
use Rattle.pg_game.specs.declared.position.Position.{Position}
use Rattle.pg_game.specs.Position.{is_free}
use Rattle.pg_game.specs.Game.{point_count, free_points, has_filled, is_over, after}
use Rattle.pg_game.specs.Decided.{attack_wins, greatest_depth}
use Rattle.pg_game.specs.Threat.{may_attack, threatens, has_threat, is_race, is_forcing, can_fill}
use Rattle.pg_game.specs.Threat.{leads_within, has_threat_line, ComesFirst, IsAttack, Forcing}
use Rattle.pg_game.specs.Threat.{Filling, LeadsToLine, IsThreatLine, IsFirstThreatLine, depth_of}
use Rattle.pg_game.proofs.FreePoints.{any-free_points, any-free_points-from}
use Rattle.pg_game.proofs.ThreatLaws.{near-from, near-range}

-- ---- one attack

safe-by : (kind : Kind) (b : Bool)
    → (kind ≡ MakerMaker → b ≡ false)
    → not (is_race kind && b) ≡ true
safe-by MakerMaker b h = not_from_false b (h refl)
safe-by MakerBreaker b h = refl
safe-by AvoiderEnforcer b h = refl
safe-by Switching b h = refl

safe-from : (kind : Kind) (b : Bool)
    → not (is_race kind && b) ≡ true
    → kind ≡ MakerMaker
    → b ≡ false
safe-from kind b h e = not-true b (subst (λ (k : Kind). not (is_race k && b) ≡ true) e h)

-- the test of an attack that forces a reply
pub forcing-test : (g : Game) (p : Position) (side : Side) (v u : ℕ)
    → Forcing g p side v u
    → is_forcing g p side v u ≡ true
unfolding is_forcing
forcing-test g p side v u f =
    and_from _ _ (not_from_false _ f.fills_none) (and_from _ _ f.threat (safe-by g.kind _ f.safe))

pub test-forcing : (g : Game) (p : Position) (side : Side) (v u : ℕ)
    → v < point_count g
    → is_free p v ≡ true
    → is_forcing g p side v u ≡ true
    → Forcing g p side v u
unfolding is_forcing
test-forcing g p side v u range free h =
    let one = and_parts (not (has_filled g (after g p v) side)) _ h in
    let two = and_parts (threatens g (after g p v) side u) _ one.1 in
    record {
      attack = record { range = range; free = free };
      fills_none = not-true _ one.0;
      threat = two.0;
      safe = safe-from g.kind _ two.1;
    }

-- ---- lists and depths

can_fill-list : (g : Game) (side : Side) (depth : ℕ) (p : Position)
    → can_fill g p side ≡ true
    → (points : List ℕ) × (depth_of points ≤ depth) × LeadsToLine g p side points
unfolding can_fill
can_fill-list g side depth p h =
    let found = any-free_points-from g p (λ v. has_filled g (after g p v) side) h in (
      found.0 ∷ [],
      omega arith,
      record { attack = record { range = found.1; free = found.2 }; fills = found.3 },
    )

-- what leads to a line within a depth does so by a list of at most that depth
list-within : (g : Game) (side : Side) (depth : ℕ) (p : Position)
    → leads_within depth g p side ≡ true
    → (points : List ℕ) × (depth_of points ≤ depth) × LeadsToLine g p side points
unfolding leads_within
list-within g side zero p h = can_fill-list g side zero p h
list-within g side (suc depth) p h = elim (or_cases (can_fill g p side) _ h) [
  | inl fills ↦ can_fill-list g side (suc depth) p fills
  | inr deeper ↦
      let attack = any-free_points-from g p (λ v.
      list_any (λ u. is_forcing g p side v u && leads_within depth g (after g (after g p v) u) side)
      (free_points g (after g p v))) deeper in
      let v = attack.0 in
      let reply = any-free_points-from g (after g p v) (λ u.
      is_forcing g p side v u && leads_within depth g (after g (after g p v) u) side) attack.3 in
      let u = reply.0 in
      let both = and_parts (is_forcing g p side v u) _ reply.3 in
      let rest = list-within g side depth (after g (after g p v) u) both.1 in (
        v ∷ (u ∷ rest.0),
        omega (arith, rest.1),
        (test-forcing g p side v u attack.1 attack.2 both.0, rest.2),
      )
]

-- a list that leads to a line is found within its depth
within-list : (g : Game) (side : Side) (points : List ℕ) (depth : ℕ) (p : Position)
    → depth_of points ≤ depth
    → LeadsToLine g p side points
    → leads_within depth g p side ≡ true
unfolding leads_within can_fill
within-list g side [] depth p few leads = absurd leads
within-list g side (v ∷ []) zero p few leads = any-free_points g p
    (λ w. has_filled g (after g p w) side) v leads.attack.range leads.attack.free leads.fills
within-list g side (v ∷ []) (suc depth) p few leads = or_left _ _
    (any-free_points g p
    (λ w. has_filled g (after g p w) side) v leads.attack.range leads.attack.free leads.fills)
within-list g side (v ∷ (u ∷ others)) zero p few leads = absurd (omega arith)
within-list g side (v ∷ (u ∷ others)) (suc depth) p few leads =
    let f = leads.0 in
    let n = near-from g (after g p v) side u f.threat in
    let rest = within-list g side others depth (after g (after g p v) u) (omega arith) leads.1 in
    or_right _ _ (any-free_points g p (λ w.
    list_any (λ t. is_forcing g p side w t && leads_within depth g (after g (after g p w) t) side)
    (free_points g (after g p w))) v f.attack.range f.attack.free
    (any-free_points g (after g p v)
    (λ t. is_forcing g p side v t && leads_within depth g (after g (after g p v) t) side) u
    (near-range g n.line u n.listed n.on) n.free
    (and_from (is_forcing g p side v u) _ (forcing-test g p side v u f) rest)))

-- ---- threat lines

pub line-within : (g : Game) (depth : ℕ) (p : Position)
    → has_threat_line depth g p ≡ true
    → (points : List ℕ) × (depth_of points ≤ depth) × IsThreatLine g p p.turn points
unfolding has_threat_line
line-within g depth p h =
    let one = and_parts (g.bias == 1) _ h in
    let two = and_parts (not (is_over g p)) _ one.1 in
    let found = list-within g p.turn depth p two.1 in (
      found.0,
      found.1,
      record {
        single = eqb-true g.bias 1 one.0;
        going = not-true _ two.0;
        turn = refl;
        leads = found.2;
      },
    )

pub within-line : (g : Game) (depth : ℕ) (p : Position) (points : List ℕ)
    → depth_of points ≤ depth
    → IsThreatLine g p p.turn points
    → has_threat_line depth g p ≡ true
unfolding has_threat_line
within-line g depth p points few h = and_from _ _ (eq-eqb g.bias 1 h.single)
    (and_from _ _ (not_from_false _ h.going) (within-list g p.turn points depth p few h.leads))

pub line-short : (g : Game) (p : Position)
    → attack_wins g p ≡ true
    → (may_attack g.kind p.turn ≡ true)
    × (points : List ℕ) × (depth_of points ≤ greatest_depth)
    × IsThreatLine g p p.turn points
unfolding attack_wins
line-short g p h =
    let both = and_parts (may_attack g.kind p.turn) _ h in
    let found = line-within g greatest_depth p both.1 in
    (both.0, found.0, found.1, found.2)

pub short-line : (g : Game) (p : Position)
    → may_attack g.kind p.turn ≡ true
    → (points : List ℕ) → depth_of points ≤ greatest_depth
    → IsThreatLine g p p.turn points
    → attack_wins g p ≡ true
unfolding attack_wins
short-line g p may points few h = and_from _ _ may (within-line g greatest_depth p points few h)

-- ---- the first one is one

first-antisym : (points others : List ℕ)
    → ComesFirst points others
    → ComesFirst others points
    → points ≡ others
first-antisym [] [] a b = refl
first-antisym [] (w ∷ others) a b = absurd b
first-antisym (v ∷ points) [] a b = absurd a
first-antisym (v ∷ points) (w ∷ others) a b = elim a [
  | inl less ↦ elim b [
    | inl more ↦ absurd (omega arith)
    | inr same ↦ absurd (omega (arith, same.0))
  ]
  | inr here ↦ elim b [
    | inl more ↦ absurd (omega (arith, here.0))
    | inr same ↦
        let rest = first-antisym points others here.1 same.1 in
        ap₂ (λ (q : ℕ) (qs : List ℕ). q ∷ qs) here.0 rest
  ]
]

pub first-one : (g : Game) (p : Position) (side : Side) (points others : List ℕ)
    → IsFirstThreatLine g p side points
    → IsFirstThreatLine g p side others
    → points ≡ others
first-one g p side points others a b =
    let one = a.least others b.line in
    let two = b.least points a.line in
    first-antisym points others (a.first others b.line (omega arith))
    (b.first points a.line (omega arith))

-- ---- a test of one list

-- whether the attacks and forced replies of the list lead to a filled line
unfoldable pub leads_test : Game → Position → Side → List ℕ → Bool
leads_test g p side [] = false
leads_test g p side (v ∷ []) =
    nat_lt v (point_count g) && (is_free p v && has_filled g (after g p v) side)
leads_test g p side (v ∷ (u ∷ others)) = nat_lt v (point_count g)
    && (is_free p v
    && (is_forcing g p side v u && leads_test g (after g (after g p v) u) side others))

pub leads-tested : (g : Game) (side : Side) (points : List ℕ) (p : Position)
    → LeadsToLine g p side points
    → leads_test g p side points ≡ true
unfolding leads_test
leads-tested g side [] p h = absurd h
leads-tested g side (v ∷ []) p h =
    and_from _ _ (lt-ltb v (point_count g) h.attack.range) (and_from _ _ h.attack.free h.fills)
leads-tested g side (v ∷ (u ∷ others)) p h =
    and_from _ _ (lt-ltb v (point_count g) h.0.attack.range)
    (and_from _ _ h.0.attack.free (and_from _ _ (forcing-test g p side v u h.0)
    (leads-tested g side others (after g (after g p v) u) h.1)))

pub tested-leads : (g : Game) (side : Side) (points : List ℕ) (p : Position)
    → leads_test g p side points ≡ true
    → LeadsToLine g p side points
unfolding leads_test
tested-leads g side [] p h = absurd (false≢true h)
tested-leads g side (v ∷ []) p h =
    let one = and_parts (nat_lt v (point_count g)) _ h in
    let two = and_parts (is_free p v) _ one.1 in
    record {
      attack = record { range = ltb-true v (point_count g) one.0; free = two.0 };
      fills = two.1;
    }
tested-leads g side (v ∷ (u ∷ others)) p h =
    let one = and_parts (nat_lt v (point_count g)) _ h in
    let two = and_parts (is_free p v) _ one.1 in
    let three = and_parts (is_forcing g p side v u) _ two.1 in (
      test-forcing g p side v u (ltb-true v (point_count g) one.0) two.0 three.0,
      tested-leads g side others (after g (after g p v) u) three.1,
    )
