-- Which attacks are worth trying, and what they leave.
use Rattle.std.specs.Prelude.{◌↔◌, Option, Some, None, IfSome, IfNone}
use Rattle.std.proofs.Common.{◌≡◌, ◌≢◌, ℕ, ◌+◌, ◌*◌, ◌<◌, ◌≤◌, true, false, ◌||◌, ◌==◌, List, []}
use Rattle.std.proofs.Common.{◌∷◌, length, refl, sym, ap, ◌∙◌, subst, inl, inr, arith, eqb-true}
use Rattle.std.proofs.Common.{eq-eqb, ne_eqb}
use Rattle.pg_threat.proofs.Common.{is_some, cases_Bool, cases_eq, cases_order, and_parts, and_from}
use Rattle.pg_threat.proofs.Common.{or_cases, or_left, false≢true, get_or_default, Contains}
use Rattle.pg_threat.proofs.Common.{list_any, FinSet, contains, insert, empty, contains-empty}
use Rattle.pg_threat.proofs.Common.{nat_cmp, in_insert, IsLeastFrom, ShareNone, other, MakerMaker}
use Rattle.pg_threat.proofs.Common.{Side, Game, Position, is_free, points_of, lines_of, point_count}
use Rattle.pg_threat.proofs.Common.{has_filled, is_touched, after, is_on, is_near, has_threat}
use Rattle.pg_threat.proofs.Common.{depth_of, IsAttack, Forcing, Filling, LeadsToLine, IsAttacking}
use Rattle.pg_threat.proofs.Common.{member-from_any, true-at, other_other, free-of, points_of-mover}
use Rattle.pg_threat.proofs.Common.{points_of-waiter, turn-alternates, free-was, IsPosition-after}
use Rattle.pg_threat.proofs.Common.{ShareNone-after, Near, near-from, near-threat, near-filled}
use Rattle.pg_threat.proofs.Common.{near-filling, near-stays, filled-waits, filled_but, untouched}
use Rattle.pg_threat.proofs.Common.{line_at}
use Rattle.pg_threat.specs.Lacking.{lacks_at, is_lacking, IsLackedTwice}
use Rattle.pg_threat.specs.Search.{IsAnswering, Replied, IsTried, NoneBelow}
use Rattle.pg_threat.proofs.LineCounts.{one-lacked, one-near, two-lacked, line-lacked, lacking-free}

-- ---- the last attack

pub filling-near : (g : Game) (p : Position) (side : Side) (v : ℕ)
    → p.turn ≡ side
    → has_filled g p side ≡ false
    → Filling g p side v
    → Near g p side v
filling-near g p side v turn mine f = near-filled g p side v turn f.attack.free mine f.fills

-- where no list of depth 0 leads to a line, the side lacks more than one point of each
pub none-near : (g : Game) (p : Position) (side : Side) (depth : ℕ)
    → IsAttacking g p side
    → 1 ≤ depth
    → NoneBelow (LeadsToLine g p side) depth
    → (v : ℕ) → Near g p side v
    → ⊥
none-near g p side depth h some none v n =
    let deep = none (v ∷ []) (near-filling g p side v h.turn n) in
    omega (arith, deep)

-- ---- an attack that forces a reply

-- a line without the point lacks what it lacks without it
pub off-line : (s : FinSet nat_cmp) (v u : ℕ) (line : List ℕ)
    → filled_but (insert s v) u line ≡ true
    → is_on v line ≡ false
    → filled_but s u line ≡ true
unfolding filled_but
off-line s v u [] h off = refl
off-line s v u (q ∷ line) h off =
    let parts = and_parts (q == u || contains (insert s v) q) _ h in
    elim (cases_eq q v) [
      | inl e ↦ absurd (false≢true (sym off ∙ or_left (q == v) _ (eq-eqb q v e)))
      | inr ne ↦
          let apart = ne_eqb q v ne in
          let same : contains (insert s v) q ≡ contains s q =
          in_insert s v q ∙ ap (λ b. b || contains s q) apart in
          and_from _ _ (sym (ap (λ b. q == u || b) same) ∙ parts.0)
          (off-line s v u line parts.1 (sym (ap (λ b. b || is_on v line) apart) ∙ off))
    ]

module _ (g : Game) (side : Side) (p : Position) (turn : p.turn ≡ side)
    (disjoint : ShareNone p.x p.y) (none : (v : ℕ) → Near g p side v → ⊥) where
  -- a line that lacks one point after an attack lacked two before it
  pub near-lacks : (v u : ℕ)
      → IsAttack g p v
      → (n : Near g (after g p v) side u) → lacks_at p side 2 v n.line ≡ true
  unfolding filled_but
  near-lacks v u at n =
      let was = free-was g p v u n.free in
      let own = points_of-mover g p side v turn in
      let rest : filled_but (insert (points_of p side) v) u n.line ≡ true =
      subst (λ (s : FinSet nat_cmp). filled_but s u n.line ≡ true) own n.rest in
      let clear : is_touched (points_of p (other side)) n.line ≡ false =
      subst (λ (s : FinSet nat_cmp). is_touched s n.line ≡ false)
      (points_of-waiter g p (other side) v (turn ∙ sym (other_other side)))
      (untouched (after g p v) side u n.line
      (ShareNone-after g p v disjoint at.free) n.free n.rest) in
      elim (cases_Bool (is_on v n.line)) [
        | inl on ↦
            two-lacked g p side disjoint v u n.line n.listed at.free was.0 was.1 on n.on rest clear
        | inr off ↦ absurd (none u (record {
          line = n.line;
          listed = n.listed;
          free = was.0;
          on = n.on;
          rest = off-line (points_of p side) v u n.line rest off;
        }))
      ]

  -- so an attack that forces a reply takes a point of a line of which the side lacks two
  pub forcing-two : (v u : ℕ) → Forcing g p side v u → is_lacking g p side 2 v ≡ true
  forcing-two v u f =
      let n = near-from g (after g p v) side u f.threat in
      line-lacked g p side disjoint 2 v n.line n.listed (near-lacks v u f.attack n)

  -- an attack that leaves two points to fill a line with takes one of two such lines
  pub fork-twice : (v u w : ℕ)
      → IsAttack g p v
      → Near g (after g p v) side u
      → Near g (after g p v) side w
      → w ≢ u
      → IsLackedTwice g p side 2 (length (lines_of g)) v
  unfolding filled_but
  fork-twice v u w at one two ne = elim (cases_order one.listed.0 two.listed.0) [
    | inl same ↦ absurd (apart
        (sym (line-is one.line one.listed) ∙ ap (line_at g) same ∙ line-is two.line two.listed))
    | inr differ ↦ elim differ [
      | inl less ↦ record {
        first = one.listed.0;
        second = two.listed.0;
        before = less;
        within = two.listed.1;
        on_first = lacked-at u one;
        on_second = lacked-at w two;
      }
      | inr more ↦ record {
        first = two.listed.0;
        second = one.listed.0;
        before = more;
        within = one.listed.1;
        on_first = lacked-at w two;
        on_second = lacked-at u one;
      }
    ]
  ]
    where
      line-is : (line : List ℕ) (c : Contains (lines_of g) line) → line_at g c.0 ≡ line
      line-is line c = get_or_default (lines_of g) c.0 [] line c.1 ∙ c.2

      lacked-at : (x : ℕ) (n : Near g (after g p v) side x)
          → lacks_at p side 2 v (line_at g n.listed.0) ≡ true
      lacked-at x n = ap (lacks_at p side 2 v) (line-is n.line n.listed) ∙ near-lacks v x at n

      apart : one.line ≡ two.line → ⊥
      apart same =
          let on = subst (λ (qs : List ℕ). is_on u qs ≡ true) same one.on in
          let found = member-from_any (λ q. q == u) two.line on in
          let is = eqb-true found.0 u found.2 in
          let pass = true-at (λ q. q == w || contains (points_of (after g p v) side) q) two.line
          found.0 two.rest found.1 in
          elim (or_cases (found.0 == w) _ pass) [
            | inl here ↦ ne (sym (eqb-true found.0 w here) ∙ is)
            | inr own ↦ false≢true (sym (free-of (after g p v) side u one.free)
                ∙ ap (contains (points_of (after g p v) side)) (sym is)
                ∙ own)
          ]

  -- and in Maker-Maker it meets each threat of the other side
  pub forcing-meets : (v u : ℕ)
      → Forcing g p side v u
      → g.kind ≡ MakerMaker
      → (w : ℕ) → Near g p (other side) w
      → w ≡ v
  forcing-meets v u f kind w n = elim (cases_eq w v) [
    | inl e ↦ e
    | inr ne ↦ absurd (false≢true (sym (f.safe kind)
        ∙ near-threat g (after g p v) (other side) w
        (near-stays g p (other side) w v (λ e. ne (sym e)) n)))
  ]

  pub forcing-tried : (v u : ℕ) → Forcing g p side v u → IsTried g p side v
  forcing-tried v u f = record {
    two = forcing-two v u f;
    meets =
        λ kind w lacked. forcing-meets v u f kind w (one-near g p (other side) disjoint w lacked);
  }

-- ---- what an attack leaves that is tried

-- a threat is one point that is lacked
pub threat-near : (g : Game) (p : Position) (side : Side)
    → has_threat g p side ≡ true
    → (u : ℕ) × Near g p side u
unfolding filled_but
threat-near g p side h =
    let found = member-from_any (λ line. list_any (is_near p side line) line) (lines_of g) h in
    let at = member-from_any (is_near p side found.0) found.0 found.2 in
    let one = and_parts (is_free p at.0) _ at.2 in
    let two = and_parts (is_on at.0 found.0) _ one.1 in
    (at.0, record { line = found.0; listed = found.1; free = one.0; on = two.0; rest = two.1 })

-- the side that waits lacked it before the move
pub near-was : (g : Game) (p : Position) (side : Side) (v u : ℕ)
    → p.turn ≡ other side
    → Near g (after g p v) side u
    → Near g p side u × (u ≢ v)
near-was g p side v u yours n =
    let was = free-was g p v u n.free in (
      record {
        line = n.line;
        listed = n.listed;
        free = was.0;
        on = n.on;
        rest = subst (λ (s : FinSet nat_cmp). filled_but s u n.line ≡ true)
            (points_of-waiter g p side v yours) n.rest;
      },
      was.1,
    )

module _ (g : Game) (side : Side) (one : g.bias ≡ 1) (p : Position)
    (attacking : IsAttacking g p side) where
  yours : p.turn ≡ other (other side)
  yours = attacking.turn ∙ sym (other_other side)

  -- after an attack that meets them the other side has no threat
  meets-safe : (v : ℕ)
      → ((u : ℕ) → Near g p (other side) u → u ≡ v)
      → has_threat g (after g p v) (other side) ≡ false
  meets-safe v meets = elim (cases_Bool (has_threat g (after g p v) (other side))) [
    | inl on ↦
        let found = threat-near g (after g p v) (other side) on in
        let was = near-was g p (other side) v found.0 yours found.1 in
        absurd (was.1 (meets found.0 was.0))
    | inr off ↦ off
  ]

  pub answering-after : (v : ℕ)
      → ((u : ℕ) → Near g p side u → ⊥)
      → IsTried g p side v
      → IsAnswering g (after g p v) side
  answering-after v none tried =
      let at = lacking-free g p side 2 v tried.two in record {
        position = IsPosition-after g p v attacking.position at.0 at.1;
        turn = turn-alternates g p v attacking.position one ∙ ap other attacking.turn;
        unfilled = record {
          mine = elim (cases_Bool (has_filled g (after g p v) side)) [
            | inl on ↦ absurd
                (none v (near-filled g p side v attacking.turn at.1 attacking.unfilled.mine on))
            | inr off ↦ off
          ];
          theirs = λ kind. filled-waits g p (other side) v yours ∙ attacking.unfilled.theirs kind;
        };
        safe = λ kind. meets-safe v (λ u n. tried.meets kind u
            (one-lacked g p (other side) attacking.position.disjoint u n));
      }

-- ---- lists from an attack on

-- how long lists are by their depth
pub leads-length : (g : Game) (side : Side) (points : List ℕ) (p : Position)
    → LeadsToLine g p side points
    → length points ≡ 2 * depth_of points + 1
leads-length g side [] p h = absurd h
leads-length g side (v ∷ []) p h = omega arith
leads-length g side (v ∷ (u ∷ others)) p h =
    let rest = leads-length g side others (after g (after g p v) u) h.1 in
    omega (arith, rest)

pub replied-length : (g : Game) (side : Side) (points : List ℕ) (q : Position)
    → Replied g q side points
    → length points ≡ 2 * depth_of points
replied-length g side [] q h = absurd h
replied-length g side (u ∷ others) q h =
    let rest = leads-length g side others (after g q u) h.1 in
    omega (arith, rest)

pub replied-depth : (g : Game) (side : Side) (u : ℕ) (others : List ℕ) (q : Position)
    → Replied g q side (u ∷ others)
    → depth_of (u ∷ others) ≡ depth_of others + 1
replied-depth g side u others q h =
    let rest = leads-length g side others (after g q u) h.1 in
    omega (arith, rest)

pub attack-depth : (g : Game) (side : Side) (v : ℕ) (points : List ℕ) (q : Position)
    → Replied g q side points
    → depth_of (v ∷ points) ≡ depth_of points
attack-depth g side v points q h =
    let rest = replied-length g side points q h in
    omega (arith, rest)

-- after an attack that leaves no line filled and no threat, a reply leads on
pub replied-leads : (g : Game) (p : Position) (side : Side) (v : ℕ) (points : List ℕ)
    → v < point_count g
    → is_free p v ≡ true
    → IsAnswering g (after g p v) side
    → Replied g (after g p v) side points
    → LeadsToLine g p side (v ∷ points)
replied-leads g p side v [] range free answering h = absurd h
replied-leads g p side v (u ∷ others) range free answering h = (
  record {
    attack = record { range = range; free = free };
    fills_none = answering.unfilled.mine;
    threat = h.0;
    safe = answering.safe;
  },
  h.1,
)

-- a list with a reply begins with an attack that is tried
pub leads-tried : (g : Game) (p : Position) (side : Side) (v : ℕ) (points : List ℕ)
    → p.turn ≡ side
    → ShareNone p.x p.y
    → has_filled g p side ≡ false
    → ((w : ℕ) → Near g p side w → ⊥)
    → LeadsToLine g p side (v ∷ points)
    → IsTried g p side v × Replied g (after g p v) side points
leads-tried g p side v [] turn disjoint mine none h =
    absurd (none v (filling-near g p side v turn mine h))
leads-tried g p side v (u ∷ others) turn disjoint mine none h =
    (forcing-tried g side p turn disjoint none v u h.0, (h.0.threat, h.1))

-- ---- the attacks that the code tries

-- what is told of an answer that is there, or isn't
pub if-some : (o : Option ℕ) (P : ℕ → Type 0) → is_some o ≡ true → IfSome o P → (x : ℕ) × P x
if-some None P on h = absurd (false≢true on)
if-some (Some x) P on h = (x, h)

pub if-none : (o : Option ℕ) (P : Type 0) → is_some o ≡ false → IfNone o P → P
if-none None P off h = h
if-none (Some x) P off h = absurd (false≢true (sym off))

module _ (attacks threats : FinSet nat_cmp) (v : ℕ) (least : IsLeastFrom threats 0 v) where
  pub sole-yes : contains attacks v ≡ true
      → ((q : ℕ) → v + 1 ≤ q → contains threats q ≡ false)
      → (w : ℕ) → (contains (insert (empty {R = nat_cmp}) v) w ≡ true)
      ↔ ((contains attacks w ≡ true) × ((u : ℕ) → contains threats u ≡ true → u ≡ w))
  sole-yes attack none w = (
    λ on. let same = is_v (sym (in_insert (empty {R = nat_cmp}) v w) ∙ on) in (
      subst (λ (x : ℕ). contains attacks x ≡ true) (sym same) attack,
      λ u threat. only u threat ∙ sym same,
    ),
    λ both. in_insert (empty {R = nat_cmp}) v w
        ∙ or_left (w == v) (contains (empty {R = nat_cmp}) w)
        (eq-eqb w v (sym (both.1 v least.member))),
  )
    where
      is_v : ((w == v) || contains (empty {R = nat_cmp}) w) ≡ true → w ≡ v
      is_v on = elim (or_cases (w == v) _ on) [
        | inl here ↦ eqb-true w v here
        | inr old ↦ absurd (false≢true (sym (contains-empty nat_cmp w) ∙ old))
      ]

      only : (u : ℕ) → contains threats u ≡ true → u ≡ v
      only u threat = elim (cases_eq u v) [
        | inl e ↦ e
        | inr ne ↦
            let low = least.least u (omega arith) threat in
            absurd (false≢true (sym (none u (omega arith)) ∙ threat))
      ]

  sole-empty :
      ((w : ℕ) → contains attacks w ≡ true → ((u : ℕ) → contains threats u ≡ true → u ≡ w) → ⊥)
      → (w : ℕ) → (contains (empty {R = nat_cmp}) w ≡ true)
      ↔ ((contains attacks w ≡ true) × ((u : ℕ) → contains threats u ≡ true → u ≡ w))
  sole-empty none w = (
    λ on. absurd (false≢true (sym (contains-empty nat_cmp w) ∙ on)),
    λ both. absurd (none w both.0 both.1),
  )

  -- where the only threat that would be left is no attack
  pub sole-off : contains attacks v ≡ false
      → (w : ℕ) → (contains (empty {R = nat_cmp}) w ≡ true)
      ↔ ((contains attacks w ≡ true) × ((u : ℕ) → contains threats u ≡ true → u ≡ w))
  sole-off off = sole-empty (λ w attack meets. false≢true
      (sym off ∙ subst (λ (x : ℕ). contains attacks x ≡ true) (sym (meets v least.member)) attack))

  -- where there are two threats
  pub sole-two : (x : ℕ)
      → IsLeastFrom threats (v + 1) x
      → (w : ℕ) → (contains (empty {R = nat_cmp}) w ≡ true)
      ↔ ((contains attacks w ≡ true) × ((u : ℕ) → contains threats u ≡ true → u ≡ w))
  sole-two x further = sole-empty (λ w attack meets.
      let here = meets v least.member in
      let there = meets x further.member in let above = further.above in omega arith)

module _ (g : Game) (p : Position) (side : Side) (attacks : FinSet nat_cmp)
    (two : (v : ℕ) → contains attacks v ≡ is_lacking g p side 2 v) where
  -- no point is tried where there is none of such lines
  pub tried-none : ((v : ℕ) → 0 ≤ v → contains attacks v ≡ false)
      → (v : ℕ) → (contains attacks v ≡ true) ↔ IsTried g p side v
  tried-none none v =
      (λ on. absurd (false≢true (sym (none v (omega arith)) ∙ on)), λ tried. two v ∙ tried.two)

  -- outside Maker-Maker, and where there is no threat, all points of such lines are tried
  pub tried-all : (g.kind ≡ MakerMaker → (u : ℕ) → is_lacking g p (other side) 1 u ≡ false)
      → (v : ℕ) → (contains attacks v ≡ true) ↔ IsTried g p side v
  tried-all none v = (
    λ on. record {
      two = sym (two v) ∙ on;
      meets = λ kind u threat. absurd (false≢true (sym (none kind u) ∙ threat));
    },
    λ tried. two v ∙ tried.two,
  )

  -- with threats, those that meet them
  pub tried-sole : (threats points : FinSet nat_cmp)
      → g.kind ≡ MakerMaker
      → ((u : ℕ) → contains threats u ≡ is_lacking g p (other side) 1 u)
      → ((w : ℕ) → (contains points w ≡ true)
      ↔ ((contains attacks w ≡ true) × ((u : ℕ) → contains threats u ≡ true → u ≡ w)))
      → (v : ℕ) → (contains points v ≡ true) ↔ IsTried g p side v
  tried-sole threats points kind is sole v = (
    λ on.
        let both = (sole v).0 on in
        record { two = sym (two v) ∙ both.0; meets = λ _ u threat. both.1 u (is u ∙ threat) },
    λ tried. (sole v).1 (two v ∙ tried.two, λ u threat. tried.meets kind u (sym (is u) ∙ threat)),
  )
