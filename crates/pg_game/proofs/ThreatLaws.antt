-- The attacker of a threat line wins.
use Rattle.std.proofs.Common.{◌≡◌, ◌≢◌, ℕ, ◌<◌, ◌≤◌, Bool, true, false, ◌&&◌, ◌||◌, ◌==◌, List, []}
use Rattle.std.proofs.Common.{◌∷◌, refl, sym, ap, ◌∙◌, subst, inl, inr, ◌⊎◌, arith, eqb-true}
use Rattle.std.proofs.Common.{eq-eqb}
use Rattle.pg_game.proofs.Common.{cases_Bool, cases_eq, and_parts, and_from, or_left, or_right}
use Rattle.pg_game.proofs.Common.{or_cases, or_parts, or_from, false≢true, All-contains, All}
use Rattle.pg_game.proofs.Common.{Contains, list_all, list_any, FinSet, contains, insert, nat_cmp}
use Rattle.pg_game.proofs.Common.{ShareNone, in_insert, other, Win, Kind, MakerBreaker, MakerMaker}
use Rattle.pg_game.proofs.Common.{AvoiderEnforcer, Switching, Side, X, Y}
use Rattle.pg_game.specs.declared.game.Game.{Game}
use Rattle.pg_game.specs.declared.position.Position.{Position}
use Rattle.pg_game.specs.Position.{is_free, points_of}
use Rattle.pg_game.specs.Game.{lines_of, point_count, bias_of, has_filled, is_filled, is_touched}
use Rattle.pg_game.specs.Game.{all_touched, is_full, short_joins, can_join, is_over, outcome}
use Rattle.pg_game.specs.Game.{is_over_by, outcome_by, after, IsPosition}
use Rattle.pg_game.specs.Potential.{is_on}
use Rattle.pg_game.specs.Threat.{is_near, threatens, has_threat, may_attack, IsAttack, Forcing}
use Rattle.pg_game.specs.Threat.{Filling, LeadsToLine, IsThreatLine, IsUnfilled, IsAttacking}
use Rattle.pg_game.specs.Value.{reaches, Forces}
use Rattle.pg_game.proofs.FreePoints.{is_full-one}
use Rattle.pg_game.proofs.Limits.{lines-range}
use Rattle.pg_game.proofs.Members.{true-at, false-at, list_any-none, list_any-one, member-from_any}
use Rattle.pg_game.proofs.Moves.{other_other, points_of-mover, points_of-waiter, points-stay}
use Rattle.pg_game.proofs.Moves.{turn-alternates, free-of, free-stays, free-was, apart}
use Rattle.pg_game.proofs.Moves.{IsPosition-after}
use Rattle.pg_game.proofs.ValueLaws.{Forces-over, Forces-move, Forces-all}

-- ---- tests of all members of a list

module _ {A : Type 0} (t s : A → Bool) where
  -- what passes the one test passes the other
  all_weaker : (xs : List A)
      → ((x : A) → t x ≡ true → s x ≡ true)
      → list_all t xs ≡ true
      → list_all s xs ≡ true
  all_weaker [] each h = refl
  all_weaker (x ∷ xs) each h =
      let parts = and_parts (t x) _ h in
      and_from (s x) _ (each x parts.0) (all_weaker xs each parts.1)

  -- where all pass the one test, none passes a test that it excludes
  none_passes : (xs : List A)
      → ((x : A) → t x ≡ true → s x ≡ false)
      → list_all t xs ≡ true
      → list_any s xs ≡ false
  none_passes [] each h = refl
  none_passes (x ∷ xs) each h =
      let parts = and_parts (t x) _ h in
      or_from (s x) _ (each x parts.0) (none_passes xs each parts.1)

-- ---- lines that lack one point

-- each point of the line is the set's, but perhaps u
unfoldable pub filled_but : FinSet nat_cmp → ℕ → List ℕ → Bool
filled_but s u line = list_all (λ q. q == u || contains s q) line

-- with u it is filled
pub filled-with : (s : FinSet nat_cmp) (u : ℕ) (line : List ℕ)
    → filled_but s u line ≡ true
    → is_filled (insert s u) line ≡ true
unfolding filled_but
filled-with s u line h = all_weaker (λ q. q == u || contains s q) (contains (insert s u)) line
    (λ q on. in_insert s u q ∙ on) h

-- and what is filled with u was filled but for u
pub filled-without : (s : FinSet nat_cmp) (u : ℕ) (line : List ℕ)
    → is_filled (insert s u) line ≡ true
    → filled_but s u line ≡ true
unfolding filled_but
filled-without s u line h = all_weaker (contains (insert s u)) (λ q. q == u || contains s q) line
    (λ q on. sym (in_insert s u q) ∙ on) h

-- a line that is filled with u holds u, or was filled before
pub on-or_filled : (s : FinSet nat_cmp) (u : ℕ) (line : List ℕ)
    → filled_but s u line ≡ true
    → is_filled s line ≡ false
    → is_on u line ≡ true
unfolding filled_but
on-or_filled s u [] h none = absurd (false≢true (sym none))
on-or_filled s u (q ∷ line) h none =
    let parts = and_parts (q == u || contains s q) _ h in
    elim (cases_Bool (q == u)) [
      | inl here ↦ or_left (q == u) _ here
      | inr off ↦ or_right (q == u) _ (on-or_filled s u line parts.1 (rw (own off parts.0) at none))
    ]
  where
    own : (q == u) ≡ false → (q == u || contains s q) ≡ true → contains s q ≡ true
    own off h = rw off at h

-- the other side has no point of a line that is filled but for a free point
pub untouched : (p : Position) (side : Side) (u : ℕ) (line : List ℕ)
    → ShareNone p.x p.y
    → is_free p u ≡ true
    → filled_but (points_of p side) u line ≡ true
    → is_touched (points_of p (other side)) line ≡ false
unfolding filled_but
untouched p side u line disjoint free h = none_passes (λ q. q == u || contains (points_of p side) q)
    (contains (points_of p (other side))) line each h
  where
    each : (q : ℕ)
        → (q == u || contains (points_of p side) q) ≡ true
        → contains (points_of p (other side)) q ≡ false
    each q on = elim (or_cases (q == u) _ on) [
      | inl here ↦ subst (λ (v : ℕ). contains (points_of p (other side)) v ≡ false)
          (sym (eqb-true q u here)) (free-of p (other side) u free)
      | inr own ↦ apart p (other side) q disjoint
          (subst (λ (s : Side). contains (points_of p s) q ≡ true) (sym (other_other side)) own)
    ]

-- ---- what is near

pub record Near (g : Game) (p : Position) (side : Side) (u : ℕ) : Type 0 where
  pub line : List ℕ
  pub listed : Contains (lines_of g) line
  pub free : is_free p u ≡ true
  pub on : is_on u line ≡ true
  pub rest : filled_but (points_of p side) u line ≡ true

pub near-from : (g : Game) (p : Position) (side : Side) (u : ℕ)
    → threatens g p side u ≡ true
    → Near g p side u
unfolding filled_but
near-from g p side u h =
    let found = member-from_any (λ line. is_near p side line u) (lines_of g) h in
    let one = and_parts (is_free p u) _ found.2 in
    let two = and_parts (is_on u found.0) _ one.1 in
    record { line = found.0; listed = found.1; free = one.0; on = two.0; rest = two.1 }

pub near-to : (g : Game) (p : Position) (side : Side) (u : ℕ)
    → Near g p side u
    → threatens g p side u ≡ true
unfolding filled_but
near-to g p side u n = list_any-one (λ line. is_near p side line u) (lines_of g) n.line n.listed
    (and_from (is_free p u) _ n.free (and_from (is_on u n.line) _ n.on n.rest))

-- a point of a line is a point of the game
pub near-range : (g : Game) (line : List ℕ) (u : ℕ)
    → Contains (lines_of g) line
    → is_on u line ≡ true
    → u < point_count g
near-range g line u listed on =
    let found = member-from_any (λ q. q == u) line on in
    subst (λ (v : ℕ). v < point_count g) (eqb-true found.0 u found.2)
    (All-contains (λ v. v < point_count g) line found.0
    (All-contains (All (λ v. v < point_count g)) (lines_of g) line (lines-range g) listed) found.1)

-- who lacks one point of a line has a threat
pub near-threat : (g : Game) (p : Position) (side : Side) (u : ℕ)
    → Near g p side u
    → has_threat g p side ≡ true
unfolding filled_but
near-threat g p side u n =
    let found = member-from_any (λ q. q == u) n.line n.on in
    list_any-one (λ line. list_any (is_near p side line) line) (lines_of g) n.line n.listed
    (list_any-one (is_near p side n.line) n.line u
    (subst (λ (v : ℕ). Contains n.line v) (eqb-true found.0 u found.2) found.1)
    (and_from (is_free p u) _ n.free (and_from (is_on u n.line) _ n.on n.rest)))

-- ---- moves

-- what the side that moves fills with a point that it lacked
pub fills-near : (g : Game) (p : Position) (side : Side) (u : ℕ)
    → p.turn ≡ side
    → Near g p side u
    → has_filled g (after g p u) side ≡ true
fills-near g p side u mine n = ap (λ (s : FinSet nat_cmp). list_any (is_filled s) (lines_of g))
    (points_of-mover g p side u mine)
    ∙ list_any-one (is_filled (insert (points_of p side) u)) (lines_of g) n.line n.listed
    (filled-with (points_of p side) u n.line n.rest)

-- so that is an attack that fills a line
pub near-filling : (g : Game) (p : Position) (side : Side) (v : ℕ)
    → p.turn ≡ side
    → Near g p side v
    → Filling g p side v
near-filling g p side v mine n = record {
  attack = record { range = near-range g n.line v n.listed n.on; free = n.free };
  fills = fills-near g p side v mine n;
}

-- what it fills lacked that point alone
pub near-filled : (g : Game) (p : Position) (side : Side) (u : ℕ)
    → p.turn ≡ side
    → is_free p u ≡ true
    → has_filled g p side ≡ false
    → has_filled g (after g p u) side ≡ true
    → Near g p side u
near-filled g p side u mine free none h =
    let here = sym (ap (λ (s : FinSet nat_cmp). list_any (is_filled s) (lines_of g))
    (points_of-mover g p side u mine))
    ∙ h in
    let found = member-from_any (is_filled (insert (points_of p side) u)) (lines_of g) here in
    let rest = filled-without (points_of p side) u found.0 found.2 in
    record {
      line = found.0;
      listed = found.1;
      free = free;
      on = on-or_filled (points_of p side) u found.0 rest
          (false-at (is_filled (points_of p side)) (lines_of g) found.0 none found.1);
      rest = rest;
    }

-- the side that waits has filled what it had
pub filled-waits : (g : Game) (p : Position) (side : Side) (v : ℕ)
    → p.turn ≡ other side
    → has_filled g (after g p v) side ≡ has_filled g p side
filled-waits g p side v yours = ap (λ (s : FinSet nat_cmp). list_any (is_filled s) (lines_of g))
    (points_of-waiter g p side v yours)

-- who has no threat fills no line
pub unfilled-safe : (g : Game) (p : Position) (side : Side) (v : ℕ)
    → p.turn ≡ side
    → is_free p v ≡ true
    → has_filled g p side ≡ false
    → has_threat g p side ≡ false
    → has_filled g (after g p v) side ≡ false
unfilled-safe g p side v mine free none safe = elim (cases_Bool (has_filled g (after g p v) side)) [
  | inl on ↦ absurd
      (false≢true (sym safe ∙ near-threat g p side v (near-filled g p side v mine free none on)))
  | inr off ↦ off
]

-- a line that lacks one point still lacks it after another move
pub near-stays : (g : Game) (p : Position) (side : Side) (u w : ℕ)
    → w ≢ u
    → Near g p side u
    → Near g (after g p w) side u
unfolding filled_but
near-stays g p side u w ne n = record {
  line = n.line;
  listed = n.listed;
  free = free-stays g p w u ne n.free;
  on = n.on;
  rest = all_weaker (λ q. q == u || contains (points_of p side) q)
      (λ q. q == u || contains (points_of (after g p w) side) q) n.line
      (λ q on. elim (or_cases (q == u) _ on) [
        | inl here ↦ or_left (q == u) _ here
        | inr own ↦ or_right (q == u) _ (points-stay g p side w q own)
      ]) n.rest;
}

-- ---- a game that isn't over, and one that the attacker has won

-- whether a side has filled a line, of both
filled_of : Side → Bool → Bool → Bool
filled_of X x y = x
filled_of Y x y = y

filled_of-side : (g : Game) (p : Position) (side : Side)
    → filled_of side (has_filled g p X) (has_filled g p Y) ≡ has_filled g p side
unfolding filled_of
filled_of-side g p X = refl
filled_of-side g p Y = refl

unfilled-by : (kind : Kind) (side : Side) (x y t f j c : Bool)
    → may_attack kind side ≡ true
    → is_over_by kind x y t f j c ≡ false
    → (filled_of side x y ≡ false) × (kind ≡ MakerMaker → filled_of (other side) x y ≡ false)
unfolding filled_of
unfilled-by MakerBreaker X x y t f j c may h = ((or_parts x _ h).0, λ e. absurd cc)
unfilled-by MakerBreaker Y x y t f j c may h = absurd (false≢true may)
unfilled-by MakerMaker X x y t f j c may h =
    let parts = or_parts x _ h in
    (parts.0, λ e. (or_parts y f parts.1).0)
unfilled-by MakerMaker Y x y t f j c may h =
    let parts = or_parts x _ h in
    ((or_parts y f parts.1).0, λ e. parts.0)
unfilled-by AvoiderEnforcer side x y t f j c may h = absurd (false≢true may)
unfilled-by Switching side x y t f j c may h = absurd (false≢true may)

goes_on-by : (kind : Kind) (side : Side) (x y t f j c : Bool)
    → may_attack kind side ≡ true
    → filled_of side x y ≡ false
    → (kind ≡ MakerMaker → filled_of (other side) x y ≡ false)
    → (side ≡ X → t ≡ false)
    → f ≡ false
    → is_over_by kind x y t f j c ≡ false
unfolding filled_of
goes_on-by MakerBreaker X x y t f j c may mine theirs fresh full =
    or_from x _ mine (or_from t f (fresh refl) full)
goes_on-by MakerBreaker Y x y t f j c may mine theirs fresh full = absurd (false≢true may)
goes_on-by MakerMaker X x y t f j c may mine theirs fresh full =
    or_from x _ mine (or_from y f (theirs refl) full)
goes_on-by MakerMaker Y x y t f j c may mine theirs fresh full =
    or_from x _ (theirs refl) (or_from y f mine full)
goes_on-by AvoiderEnforcer side x y t f j c may mine theirs fresh full = absurd (false≢true may)
goes_on-by Switching side x y t f j c may mine theirs fresh full = absurd (false≢true may)

won-by : (kind : Kind) (side : Side) (x y t f j c : Bool)
    → may_attack kind side ≡ true
    → filled_of side x y ≡ true
    → (kind ≡ MakerMaker → filled_of (other side) x y ≡ false)
    → (is_over_by kind x y t f j c ≡ true) × (reaches side Win (outcome_by kind x y j) ≡ true)
unfolding filled_of
won-by MakerBreaker X x y t f j c may mine theirs = (or_left x _ mine, rw mine refl)
won-by MakerBreaker Y x y t f j c may mine theirs = absurd (false≢true may)
won-by MakerMaker X x y t f j c may mine theirs = (or_left x _ mine, rw mine refl)
won-by MakerMaker Y x y t f j c may mine theirs =
    (or_right x _ (or_left y f mine), rw (theirs refl, mine) refl)
won-by AvoiderEnforcer side x y t f j c may mine theirs = absurd (false≢true may)
won-by Switching side x y t f j c may mine theirs = absurd (false≢true may)

module _ (g : Game) (side : Side) (may : may_attack g.kind side ≡ true) where
  pub unfilled-going : (p : Position) → is_over g p ≡ false → IsUnfilled g p side
  unfolding is_over
  unfilled-going p going =
      let both = unfilled-by g.kind side (has_filled g p X) (has_filled g p Y) (all_touched g p)
      (is_full g p) (short_joins g p) (can_join g p) may going in
      record {
        mine = sym (filled_of-side g p side) ∙ both.0;
        theirs = λ e. sym (filled_of-side g p (other side)) ∙ both.1 e;
      }

  -- a free point, and a line that the other side hasn't touched
  pub goes_on : (p : Position) (line : List ℕ) (v : ℕ)
      → IsUnfilled g p side
      → Contains (lines_of g) line
      → is_touched (points_of p (other side)) line ≡ false
      → v < point_count g
      → is_free p v ≡ true
      → is_over g p ≡ false
  unfolding is_over
  goes_on p line v h listed clear range free =
      goes_on-by g.kind side (has_filled g p X) (has_filled g p Y) (all_touched g p) (is_full g p)
      (short_joins g p) (can_join g p) may (filled_of-side g p side ∙ h.mine)
      (λ e. filled_of-side g p (other side) ∙ h.theirs e) fresh (is_full-one g p v range free)
    where
      fresh_at : (s : Side)
          → s ≡ X
          → is_touched (points_of p (other s)) line ≡ false
          → all_touched g p ≡ false
      fresh_at X e clear = elim (cases_Bool (all_touched g p)) [
        | inl all ↦
            absurd (false≢true (sym clear ∙ true-at (is_touched p.y) (lines_of g) line all listed))
        | inr some ↦ some
      ]
      fresh_at Y e clear = absurd cc

      fresh : side ≡ X → all_touched g p ≡ false
      fresh e = fresh_at side e clear

  -- where it has filled a line the game is over
  pub filled-over : (p : Position)
      → has_filled g p side ≡ true
      → (g.kind ≡ MakerMaker → has_filled g p (other side) ≡ false)
      → is_over g p ≡ true
  unfolding is_over
  filled-over p mine theirs =
      (won-by g.kind side (has_filled g p X) (has_filled g p Y) (all_touched g p) (is_full g p)
      (short_joins g p) (can_join g p) may (filled_of-side g p side ∙ mine)
      (λ e. filled_of-side g p (other side) ∙ theirs e)).0

  -- who fills a line wins
  pub wins : (p : Position)
      → has_filled g p side ≡ true
      → (g.kind ≡ MakerMaker → has_filled g p (other side) ≡ false)
      → Forces g p side Win
  unfolding is_over outcome
  wins p mine theirs =
      let both = won-by g.kind side (has_filled g p X) (has_filled g p Y) (all_touched g p)
      (is_full g p) (short_joins g p) (can_join g p) may (filled_of-side g p side ∙ mine)
      (λ e. filled_of-side g p (other side) ∙ theirs e) in
      Forces-over g p side Win both.0 both.1

-- ---- the attacker wins

-- an attack has been made that the other side must answer with u
pub record IsForced (g : Game) (q : Position) (side : Side) (u : ℕ) : Type 0 where
  pub position : IsPosition g q
  pub turn : q.turn ≡ other side
  pub unfilled : IsUnfilled g q side
  pub near : Near g q side u
  pub safe : g.kind ≡ MakerMaker → has_threat g q (other side) ≡ false

module _ (g : Game) (side : Side) (one : g.bias ≡ 1) where
  back : (p : Position) → p.turn ≡ side → p.turn ≡ other (other side)
  back p turn = turn ∙ sym (other_other side)

  -- what the attack leaves
  pub forced-after : (p : Position) (v u : ℕ)
      → IsAttacking g p side
      → Forcing g p side v u
      → IsForced g (after g p v) side u
  forced-after p v u h f = record {
    position = IsPosition-after g p v h.position f.attack.range f.attack.free;
    turn = turn-alternates g p v h.position one ∙ ap other h.turn;
    unfilled = record {
      mine = f.fills_none;
      theirs = λ kind. filled-waits g p (other side) v (back p h.turn) ∙ h.unfilled.theirs kind;
    };
    near = near-from g (after g p v) side u f.threat;
    safe = f.safe;
  }

  -- what any reply to it leaves
  pub attacking-after : (q : Position) (u w : ℕ)
      → IsForced g q side u
      → w < point_count g
      → is_free q w ≡ true
      → IsAttacking g (after g q w) side
  attacking-after q u w h range free = record {
    position = IsPosition-after g q w h.position range free;
    turn = turn-alternates g q w h.position one ∙ ap other h.turn ∙ other_other side;
    unfilled = record {
      mine = filled-waits g q side w h.turn ∙ h.unfilled.mine;
      theirs = λ kind. unfilled-safe g q (other side) w h.turn free (h.unfilled.theirs kind)
          (h.safe kind);
    };
  }

module _ (g : Game) (side : Side) (one : g.bias ≡ 1) (may : may_attack g.kind side ≡ true) where
  -- an attacker that lacks one point of a line takes it and wins
  pub Forces-near : (p : Position) (u : ℕ)
      → IsAttacking g p side
      → Near g p side u
      → Forces g p side Win
  Forces-near p u h n =
      let range = near-range g n.line u n.listed n.on in
      let going = goes_on g side may p n.line u h.unfilled n.listed
      (untouched p side u n.line h.position.disjoint n.free n.rest) range n.free in
      Forces-move g p side Win going h.turn u range n.free
      (wins g side may (after g p u) (fills-near g p side u h.turn n)
      (λ kind. filled-waits g p (other side) u (back g side one p h.turn) ∙ h.unfilled.theirs kind))

  -- after an attack that forces u the game goes on
  forced-going : (q : Position) (u : ℕ) → IsForced g q side u → is_over g q ≡ false
  forced-going q u h =
      let n = h.near in
      goes_on g side may q n.line u h.unfilled n.listed
      (untouched q side u n.line h.position.disjoint n.free n.rest)
      (near-range g n.line u n.listed n.on) n.free

  -- and so it did before it
  attacking-going : (p : Position) (v u : ℕ)
      → IsAttacking g p side
      → Forcing g p side v u
      → is_over g p ≡ false
  attacking-going p v u h f =
      let q = forced-after g side one p v u h f in
      let n = q.near in
      goes_on g side may p n.line v h.unfilled n.listed
      (subst (λ (s : FinSet nat_cmp). is_touched s n.line ≡ false)
      (points_of-waiter g p (other side) v (back g side one p h.turn))
      (untouched (after g p v) side u n.line q.position.disjoint n.free n.rest)) f.attack.range
      f.attack.free

  -- whatever the reply, the attacker that wins after u wins
  forced-wins : (q : Position) (u : ℕ)
      → IsForced g q side u
      → (is_free q u ≡ true → u < point_count g → Forces g (after g q u) side Win)
      → Forces g q side Win
  forced-wins q u h next =
      Forces-all g q side Win (forced-going q u h) h.turn (λ w range free. elim (cases_eq w u) [
        | inl e ↦ subst (λ (v : ℕ). Forces g (after g q v) side Win) (sym e)
            (next (subst (λ (v : ℕ). is_free q v ≡ true) e free)
            (subst (λ (v : ℕ). v < point_count g) e range))
        | inr ne ↦ Forces-near (after g q w) u (attacking-after g side one q u w h range free)
            (near-stays g q side u w ne h.near)
      ])

  -- who fills a line has won
  pub Forces-filling : (p : Position) (v : ℕ)
      → IsAttacking g p side
      → Filling g p side v
      → Forces g (after g p v) side Win
  Forces-filling p v h f = wins g side may (after g p v) f.fills
      (λ kind. filled-waits g p (other side) v (back g side one p h.turn) ∙ h.unfilled.theirs kind)

  -- and the game is over
  pub over-filling : (p : Position) (v : ℕ)
      → IsAttacking g p side
      → Filling g p side v
      → is_over g (after g p v) ≡ true
  over-filling p v h f = filled-over g side may (after g p v) f.fills
      (λ kind. filled-waits g p (other side) v (back g side one p h.turn) ∙ h.unfilled.theirs kind)

  -- who is to attack by a list that leads to a line wins
  pub Forces-leads : (points : List ℕ) (p : Position)
      → IsAttacking g p side
      → LeadsToLine g p side points
      → Forces g p side Win
  Forces-leads [] p h leads = absurd leads
  Forces-leads (v ∷ []) p h leads = Forces-near p v h
      (near-filled g p side v h.turn leads.attack.free h.unfilled.mine leads.fills)
  Forces-leads (v ∷ (u ∷ others)) p h leads =
      let f = leads.0 in
      let q = forced-after g side one p v u h f in
      Forces-move g p side Win (attacking-going p v u h f) h.turn v f.attack.range f.attack.free
      (forced-wins (after g p v) u q (λ free range. Forces-leads others (after g (after g p v) u)
      (attacking-after g side one (after g p v) u u q range free) leads.1))

  -- so it does once it has made the first attack
  pub Forces-attacked : (v : ℕ) (points : List ℕ) (p : Position)
      → IsAttacking g p side
      → LeadsToLine g p side (v ∷ points)
      → Forces g (after g p v) side Win
  Forces-attacked v [] p h leads = Forces-filling p v h leads
  Forces-attacked v (u ∷ others) p h leads =
      let q = forced-after g side one p v u h leads.0 in
      forced-wins (after g p v) u q (λ free range. Forces-leads others (after g (after g p v) u)
      (attacking-after g side one (after g p v) u u q range free) leads.1)

-- the attacker of a threat line wins
pub Forces-threat : (g : Game) (p : Position) (side : Side) (points : List ℕ)
    → may_attack g.kind side ≡ true
    → IsPosition g p
    → IsThreatLine g p side points
    → Forces g p side Win
Forces-threat g p side points may position h = Forces-leads g side h.single may points p (record {
  position = position;
  turn = h.turn;
  unfilled = unfilled-going g side may p h.going;
}) h.leads
