-- An attack that serves no later one: what leads to a line after it and its reply does so without
-- them.
use Rattle.std.specs.Prelude.{None}
use Rattle.std.proofs.Common.{◌≡◌, ◌≢◌, ℕ, ◌+◌, ◌-◌, ◌<◌, ◌≤◌, Bool, true, false, ◌||◌, ◌==◌, List}
use Rattle.std.proofs.Common.{[], ◌∷◌, length, get_or, refl, sym, ap, ◌∙◌, subst, inl, inr, arith}
use Rattle.std.proofs.Common.{eqb-true, eq-eqb, ne_eqb}
use Rattle.pg_threat.proofs.Common.{cases_Bool, cases_eq, and_parts, and_from, or_cases, or_left}
use Rattle.pg_threat.proofs.Common.{or_right, or_parts, or_from, not_from_false, false≢true}
use Rattle.pg_threat.proofs.Common.{get_or_default, length-range_with_len, get_or-range_with_len}
use Rattle.pg_threat.proofs.Common.{Contains, count_by, list_any, list_all, range_with_len, FinSet}
use Rattle.pg_threat.proofs.Common.{contains, insert, nat_cmp, IsLeastFrom, ShareNone, in_insert}
use Rattle.pg_threat.proofs.Common.{same_points, other, MakerMaker, Side, X, Y, Game, Position}
use Rattle.pg_threat.proofs.Common.{is_free, points_of, lines_of, has_filled, is_filled, is_touched}
use Rattle.pg_threat.proofs.Common.{point_count, after, is_on, depth_of, has_threat, IsAttack}
use Rattle.pg_threat.proofs.Common.{Forcing, Filling, LeadsToLine, IsAttacking, Contains-filter}
use Rattle.pg_threat.proofs.Common.{list_any-one, member-from_any, other_other, free-of, free-stays}
use Rattle.pg_threat.proofs.Common.{free-was, apart, points_of-mover, points_of-waiter}
use Rattle.pg_threat.proofs.Common.{turn-alternates, ShareNone-after, Near, filled_but, filled-with}
use Rattle.pg_threat.proofs.Common.{untouched, near-from, near-range, near-to, near-filled}
use Rattle.pg_threat.proofs.Common.{near-filling, near-threat, filled-waits, forced-after}
use Rattle.pg_threat.proofs.Common.{attacking-after, line_at, lines_holding}
use Rattle.pg_threat.specs.Lacking.{is_lacking, own_count, IsIdle}
use Rattle.pg_threat.specs.Search.{IsAnswering, IsFound, NoneBelow, Replied}
use Rattle.pg_threat.proofs.Attacks.{off-line, threat-near}
use Rattle.pg_threat.proofs.Gains.{untouched-insert, mine-replied, theirs-replied}
use Rattle.pg_threat.proofs.LineCounts.{all-counted, count-insert, count-more, once}
use Rattle.pg_threat.proofs.Searching.{reply-attacking, reply-fails, reply-free}

-- ---- tests of all members of a list

module _ (t s : ℕ → Bool) where
  -- what passes the one test passes the other
  pub all_weaker : (xs : List ℕ)
      → ((x : ℕ) → t x ≡ true → s x ≡ true)
      → list_all t xs ≡ true
      → list_all s xs ≡ true
  all_weaker [] each h = refl
  all_weaker (x ∷ xs) each h =
      let parts = and_parts (t x) _ h in
      and_from (s x) _ (each x parts.0) (all_weaker xs each parts.1)

  -- where all pass the one test, none passes a test that it excludes
  none_passes : (xs : List ℕ)
      → ((x : ℕ) → t x ≡ true → s x ≡ false)
      → list_all t xs ≡ true
      → list_any s xs ≡ false
  none_passes [] each h = refl
  none_passes (x ∷ xs) each h =
      let parts = and_parts (t x) _ h in
      or_from (s x) _ (each x parts.0) (none_passes xs each parts.1)

-- ---- what holds of each line through a point

pub through-each : (g : Game) (v n : ℕ) (P : List ℕ → Type 0)
    → length (lines_holding (lines_of g) v) ≤ n
    → ((i : ℕ) → i < n → P (line_at g (get_or (lines_holding (lines_of g) v) i 0)))
    → (line : List ℕ) → Contains (lines_of g) line
    → is_on v line ≡ true
    → P line
unfolding lines_holding
through-each g v n P end each line listed on =
    let lines = lines_of g in
    let t = λ (i : ℕ). is_on v (line_at g i) in
    let j = listed.0 in
    let is : line_at g j ≡ line = get_or_default lines j [] line listed.1 ∙ listed.2 in
    let count = length-range_with_len 0 (length lines) in
    let here : j < length (range_with_len 0 (length lines)) = omega (arith, count, listed.1) in
    let same : 0 + j ≡ j = omega arith in
    let found = Contains-filter t (range_with_len 0 (length lines)) j
    (j, here, get_or-range_with_len 0 (length lines) j j listed.1 ∙ same) (ap (is_on v) is ∙ on) in
    let number : get_or (lines_holding lines v) found.0 0 ≡ j =
    get_or_default (lines_holding lines v) found.0 0 j found.1 ∙ found.2 in
    subst P (ap (line_at g) number ∙ is) (each found.0 (omega (arith, found.1, end)))

-- ---- two positions, of which the first has an attack and its reply besides

pub free-both : (p : Position) (side : Side) (x : ℕ)
    → contains (points_of p side) x ≡ false
    → contains (points_of p (other side)) x ≡ false
    → is_free p x ≡ true
free-both p X x mine theirs = and_from _ _ (not_from_false _ mine) (not_from_false _ theirs)
free-both p Y x mine theirs = and_from _ _ (not_from_false _ theirs) (not_from_false _ mine)

pub insert-swap : (s : FinSet nat_cmp) (a b : ℕ) → insert (insert s a) b ≡ insert (insert s b) a
insert-swap s a b =
    same_points (insert (insert s a) b) (insert (insert s b) a) (λ x. in_insert (insert s a) b x
    ∙ ap (λ c. x == b || c) (in_insert s a x)
    ∙ swap (x == b) (x == a) (contains s x)
    ∙ sym (in_insert (insert s b) a x ∙ ap (λ c. x == a || c) (in_insert s b x)))
  where
    swap : (c d e : Bool) → (c || (d || e)) ≡ (d || (c || e))
    swap true true e = refl
    swap true false e = refl
    swap false true e = refl
    swap false false e = refl

-- the first has v for the side and u for the other side, which are free at the second
pub record IsBeside (side : Side) (v u : ℕ) (r s : Position) : Type 0 where
  pub mine : points_of r side ≡ insert (points_of s side) v
  pub theirs : points_of r (other side) ≡ insert (points_of s (other side)) u
  pub free_v : is_free s v ≡ true
  pub free_u : is_free s u ≡ true

module _ (g : Game) (side : Side) (v u : ℕ) where
  -- a free point of the first is another one, and free at the second
  beside-free : (r s : Position) (x : ℕ)
      → IsBeside side v u r s
      → is_free r x ≡ true
      → (is_free s x ≡ true) × (x ≢ v) × (x ≢ u)
  beside-free r s x b free =
      let one = or_parts (x == v) _
      (sym (ap (λ (q : FinSet nat_cmp). contains q x) b.mine ∙ in_insert (points_of s side) v x)
      ∙ free-of r side x free) in
      let two = or_parts (x == u) _
      (sym (ap (λ (q : FinSet nat_cmp). contains q x) b.theirs
      ∙ in_insert (points_of s (other side)) u x)
      ∙ free-of r (other side) x free) in (
        free-both s side x one.1 two.1,
        (λ e. false≢true (sym one.0 ∙ eq-eqb x v e)),
        (λ e. false≢true (sym two.0 ∙ eq-eqb x u e)),
      )

  -- and so is what is free at the second and neither
  free-beside : (r s : Position) (x : ℕ)
      → IsBeside side v u r s
      → is_free s x ≡ true
      → x ≢ v
      → x ≢ u
      → is_free r x ≡ true
  free-beside r s x b free apart_v apart_u = free-both r side x
      (ap (λ (q : FinSet nat_cmp). contains q x) b.mine
      ∙ in_insert (points_of s side) v x
      ∙ ap (λ c. c || contains (points_of s side) x) (ne_eqb x v apart_v)
      ∙ free-of s side x free) (ap (λ (q : FinSet nat_cmp). contains q x) b.theirs
      ∙ in_insert (points_of s (other side)) u x
      ∙ ap (λ c. c || contains (points_of s (other side)) x) (ne_eqb x u apart_u)
      ∙ free-of s (other side) x free)

  -- both go on by the same attack
  beside-attack : (r s : Position) (a : ℕ)
      → r.turn ≡ side
      → s.turn ≡ side
      → a ≢ v
      → a ≢ u
      → IsBeside side v u r s
      → IsBeside side v u (after g r a) (after g s a)
  beside-attack r s a turn_r turn_s apart_v apart_u b = record {
    mine = points_of-mover g r side a turn_r
        ∙ ap (λ (q : FinSet nat_cmp). insert q a) b.mine
        ∙ insert-swap (points_of s side) v a
        ∙ ap (λ (q : FinSet nat_cmp). insert q v) (sym (points_of-mover g s side a turn_s));
    theirs = points_of-waiter g r (other side) a (turn_r ∙ sym (other_other side))
        ∙ b.theirs
        ∙ ap (λ (q : FinSet nat_cmp). insert q u)
        (sym (points_of-waiter g s (other side) a (turn_s ∙ sym (other_other side))));
    free_v = free-stays g s a v apart_v b.free_v;
    free_u = free-stays g s a u apart_u b.free_u;
  }

  -- and by the same reply
  beside-reply : (r s : Position) (w : ℕ)
      → r.turn ≡ other side
      → s.turn ≡ other side
      → w ≢ v
      → w ≢ u
      → IsBeside side v u r s
      → IsBeside side v u (after g r w) (after g s w)
  beside-reply r s w turn_r turn_s apart_v apart_u b = record {
    mine = points_of-waiter g r side w turn_r
        ∙ b.mine
        ∙ ap (λ (q : FinSet nat_cmp). insert q v) (sym (points_of-waiter g s side w turn_s));
    theirs = points_of-mover g r (other side) w turn_r
        ∙ ap (λ (q : FinSet nat_cmp). insert q w) b.theirs
        ∙ insert-swap (points_of s (other side)) u w
        ∙ ap (λ (q : FinSet nat_cmp). insert q u) (sym (points_of-mover g s (other side) w turn_s));
    free_v = free-stays g s w v apart_v b.free_v;
    free_u = free-stays g s w u apart_u b.free_u;
  }

  module _ (r s : Position) (b : IsBeside side v u r s) (disjoint : ShareNone r.x r.y) where
    -- a line through v that lacks one point at the first position lacks two at the second
    module _ (w : ℕ) (n : Near g r side w) (on : is_on v n.line ≡ true) where
      misses_u : is_on u n.line ≡ false
      unfolding filled_but
      misses_u = none_passes (λ q. q == w || contains (points_of r side) q)
          (λ q. q == u) n.line each n.rest
        where
          taken : contains (points_of r (other side)) u ≡ true
          taken = ap (λ (q : FinSet nat_cmp). contains q u) b.theirs
              ∙ in_insert (points_of s (other side)) u u
              ∙ or_left (u == u) _ (eq-eqb u u refl)

          each : (q : ℕ) → (q == w || contains (points_of r side) q) ≡ true → (q == u) ≡ false
          each q on = elim (cases_Bool (q == u)) [
            | inr off ↦ off
            | inl here ↦
                let is = eqb-true q u here in
                elim (or_cases (q == w) _ on) [
                  | inl last ↦ absurd (false≢true (sym (free-of r (other side) w n.free)
                      ∙ ap (contains (points_of r (other side))) (sym (eqb-true q w last) ∙ is)
                      ∙ taken))
                  | inr own ↦ absurd (false≢true (sym (apart r side u disjoint taken)
                      ∙ ap (contains (points_of r side)) (sym is)
                      ∙ own))
                ]
          ]

      misses_theirs : is_touched (points_of s (other side)) n.line ≡ false
      misses_theirs =
          (untouched-insert (points_of s (other side)) u n.line
          (subst (λ (q : FinSet nat_cmp). is_touched q n.line ≡ false) b.theirs
          (untouched r side w n.line disjoint n.free n.rest))).0

      lacks_two : length n.line ≤ own_count s side n.line + 2
      lacks_two =
          let q = points_of s side in
          let free = beside-free r s w b n.free in
          let one = count-more g q v n.line n.listed (free-of s side v b.free_v) on in
          let out : contains (insert q v) w ≡ false = in_insert q v w
          ∙ ap (λ c. c || contains q w) (ne_eqb w v free.1)
          ∙ free-of s side w free.0 in
          let two = count-more g (insert q v) w n.line n.listed out n.on in
          let all = all-counted (contains (insert (insert q v) w)) n.line
          (filled-with (insert q v) w n.line
          (subst (λ (x : FinSet nat_cmp). filled_but x w n.line ≡ true) b.mine n.rest)) in
          omega (arith, one, two, all)

    -- a line that misses v lacks one point at either
    near-beside : (w : ℕ) (n : Near g r side w) → is_on v n.line ≡ false → Near g s side w
    near-beside w n off = record {
      line = n.line;
      listed = n.listed;
      free = (beside-free r s w b n.free).0;
      on = n.on;
      rest = off-line (points_of s side) v w n.line
          (subst (λ (x : FinSet nat_cmp). filled_but x w n.line ≡ true) b.mine n.rest) off;
    }

    -- what is filled at the second is filled at the first
    unfilled-beside : has_filled g r side ≡ false → has_filled g s side ≡ false
    unfilled-beside none = elim (cases_Bool (has_filled g s side)) [
      | inr off ↦ off
      | inl some ↦
          let found = member-from_any (is_filled (points_of s side)) (lines_of g) some in
          let more : is_filled (insert (points_of s side) v) found.0 ≡ true =
          all_weaker (contains (points_of s side)) (contains (insert (points_of s side) v)) found.0
          (λ q own. in_insert (points_of s side) v q ∙ or_right (q == v) _ own) found.2 in
          absurd (false≢true (sym none
          ∙ list_any-one (is_filled (points_of r side)) (lines_of g) found.0 found.1
          (subst (λ (x : FinSet nat_cmp). is_filled x found.0 ≡ true) (sym b.mine) more)))
    ]

    -- where the other side has no threat at the first and fills none, it has none at the second but
    -- at v
    safe-beside : has_filled g r (other side) ≡ false → has_threat g r (other side) ≡ false
        → ((n : Near g s (other side) v) → ⊥) → has_threat g s (other side) ≡ false
    unfolding filled_but
    safe-beside none safe but = elim (cases_Bool (has_threat g s (other side))) [
      | inr off ↦ off
      | inl some ↦
          let found = threat-near g s (other side) some in
          let x = found.0 in
          let n = found.1 in
          let theirs = points_of s (other side) in
          elim (cases_eq x v) [
            | inl e ↦ absurd (but (subst (λ (y : ℕ). Near g s (other side) y) e n))
            | inr apart_v ↦ elim (cases_eq x u) [
              | inl e ↦
                  let filled = filled-with theirs u n.line
                  (subst (λ (y : ℕ). filled_but theirs y n.line ≡ true) e n.rest) in
                  absurd (false≢true (sym none
                  ∙ list_any-one (is_filled (points_of r (other side))) (lines_of g) n.line n.listed
                  (subst (λ (q : FinSet nat_cmp). is_filled q n.line ≡ true)
                  (sym b.theirs) filled)))
              | inr apart_u ↦
                  let more = all_weaker (λ q. q == x || contains theirs q)
                  (λ q. q == x || contains (insert theirs u) q) n.line
                  (λ q on. elim (or_cases (q == x) _ on) [
                    | inl here ↦ or_left (q == x) _ here
                    | inr own ↦ or_right (q == x) _ (in_insert theirs u q ∙ or_right (q == u) _ own)
                  ]) n.rest in
                  absurd (false≢true (sym safe ∙ near-threat g r (other side) x (record {
                    line = n.line;
                    listed = n.listed;
                    free = free-beside r s x b n.free apart_v apart_u;
                    on = n.on;
                    rest = subst (λ (q : FinSet nat_cmp). filled_but q x n.line ≡ true)
                        (sym b.theirs) more;
                  })))
            ]
          ]
    ]

-- ---- counts after moves

-- at most one point more
pub count-one : (g : Game) (s : FinSet nat_cmp) (a : ℕ) (line : List ℕ)
    → Contains (lines_of g) line
    → contains s a ≡ false
    → count_by (contains (insert s a)) line ≤ count_by (contains s) line + 1
count-one g s a line listed off =
    let most = once g line listed a in
    let all = count-insert s a line off in
    omega (arith, most, all)

module _ (g : Game) (side : Side) (one : g.bias ≡ 1) (v u : ℕ) where
  module _ (r s : Position) (first : IsAttacking g r side) (second : IsAttacking g s side)
      (b : IsBeside side v u r s) where
    -- the last attack
    filling-beside : (a : ℕ) → IsIdle g s side v u 1 → Filling g r side a → Filling g s side a
    filling-beside a idle f =
        let n = near-filled g r side a first.turn f.attack.free first.unfilled.mine f.fills in
        elim (cases_Bool (is_on v n.line)) [
          | inl on ↦
              let short = idle.mine n.line n.listed on
              (misses_theirs g side v u r s b first.position.disjoint a n on)
              (misses_u g side v u r s b first.position.disjoint a n on) in
              absurd
              (omega (arith, short, lacks_two g side v u r s b first.position.disjoint a n on))
          | inr off ↦ near-filling g s side a second.turn
              (near-beside g side v u r s b first.position.disjoint a n off)
        ]

    module _ (depth : ℕ) (some : 2 ≤ depth) (idle : IsIdle g s side v u depth) (a w : ℕ)
        (f : Forcing g r side a w) where
      r_next : Position
      r_next = after g r a

      s_next : Position
      s_next = after g s a

      free_a : (is_free s a ≡ true) × (a ≢ v) × (a ≢ u)
      free_a = beside-free g side v u r s a b f.attack.free

      b_next : IsBeside side v u (after g r a) (after g s a)
      b_next = beside-attack g side v u r s a first.turn second.turn free_a.1 free_a.2 b

      disjoint_next : ShareNone (after g r a).x (after g r a).y
      disjoint_next = ShareNone-after g r a first.position.disjoint f.attack.free

      yours_s : s.turn ≡ other (other side)
      yours_s = second.turn ∙ sym (other_other side)

      threat_next : Near g (after g s a) side w
      threat_next =
          let n = near-from g (after g r a) side w f.threat in
          elim (cases_Bool (is_on v n.line)) [
            | inl on ↦
                let clear = subst (λ (q : FinSet nat_cmp). is_touched q n.line ≡ false)
                (points_of-waiter g s (other side) a yours_s)
                (misses_theirs g side v u (after g r a)
                (after g s a) b_next disjoint_next w n on) in
                let short = idle.mine n.line n.listed on clear
                (misses_u g side v u (after g r a) (after g s a) b_next disjoint_next w n on) in
                let two =
                subst (λ (q : FinSet nat_cmp). length n.line ≤ count_by (contains q) n.line + 2)
                (points_of-mover g s side a second.turn)
                (lacks_two g side v u (after g r a) (after g s a) b_next disjoint_next w n on) in
                let most =
                count-one g (points_of s side) a n.line n.listed (free-of s side a free_a.0) in
                absurd (omega (arith, short, two, most, some))
            | inr off ↦
                near-beside g side v u (after g r a) (after g s a) b_next disjoint_next w n off
          ]

      no_threat : g.kind ≡ MakerMaker → Near g (after g s a) (other side) v → ⊥
      no_threat kind n =
          let q = points_of (after g s a) (other side) in
          let more =
          count-more g q v n.line n.listed (free-of (after g s a) (other side) v n.free) n.on in
          let all = all-counted (contains (insert q v)) n.line (filled-with q v n.line n.rest) in
          let few = idle.theirs kind n.line n.listed n.on in
          let same = ap (λ (x : FinSet nat_cmp). count_by (contains x) n.line)
          (points_of-waiter g s (other side) a yours_s) in
          omega (arith, more, all, few, same, some)

      forcing-beside : Forcing g s side a w
      forcing-beside = record {
        attack = record { range = f.attack.range; free = free_a.0 };
        fills_none = unfilled-beside g side v u (after g r a)
            (after g s a) b_next disjoint_next f.fills_none;
        threat = near-to g (after g s a) side w threat_next;
        safe = λ kind. safe-beside g side v u (after g r a) (after g s a) b_next disjoint_next
            (filled-waits g r (other side) a (first.turn ∙ sym (other_other side))
            ∙ first.unfilled.theirs kind) (f.safe kind) (no_threat kind);
      }

      free_w : (is_free (after g s a) w ≡ true) × (w ≢ v) × (w ≢ u)
      free_w = beside-free g side v u (after g r a) (after g s a) w b_next
          (near-from g (after g r a) side w f.threat).free

      first_on : IsAttacking g (after g (after g r a) w) side
      first_on =
          let q = forced-after g side one r a w first f in
          attacking-after g side one (after g r a) w w q (near-range_of q.near) q.near.free
        where
          near-range_of : Near g (after g r a) side w → w < point_count g
          near-range_of n = near-range g n.line w n.listed n.on

      second_on : IsAttacking g (after g (after g s a) w) side
      second_on =
          let q = forced-after g side one s a w second forcing-beside in
          attacking-after g side one (after g s a) w w q
          (near-range g q.near.line w q.near.listed q.near.on) q.near.free

      beside_on : IsBeside side v u (after g (after g r a) w) (after g (after g s a) w)
      beside_on = beside-reply g side v u (after g r a) (after g s a) w
          (turn-alternates g r a first.position one ∙ ap other first.turn)
          (turn-alternates g s a second.position one ∙ ap other second.turn) free_w.1 free_w.2
          b_next

      turn_s : (after g s a).turn ≡ other side
      turn_s = turn-alternates g s a second.position one ∙ ap other second.turn

      mine_on : points_of (after g (after g s a) w) side ≡ insert (points_of s side) a
      mine_on =
          points_of-waiter g (after g s a) side w turn_s ∙ points_of-mover g s side a second.turn

      theirs_on : points_of (after g (after g s a) w) (other side)
          ≡ insert (points_of s (other side)) w
      theirs_on = points_of-mover g (after g s a) (other side) w turn_s
          ∙ ap (λ (q : FinSet nat_cmp). insert q w) (points_of-waiter g s (other side) a yours_s)

      out_w : contains (points_of s (other side)) w ≡ false
      out_w = sym
          (ap (λ (q : FinSet nat_cmp). contains q w) (points_of-waiter g s (other side) a yours_s))
          ∙ free-of (after g s a) (other side) w free_w.0

      idle_on : (less : ℕ) → less + 1 ≡ depth → IsIdle g (after g (after g s a) w) side v u less
      idle_on less e = record {
        mine = λ line listed on clear off.
            let before =
            (untouched-insert (points_of s (other side)) w line
            (subst (λ (q : FinSet nat_cmp). is_touched q line ≡ false) theirs_on clear)).0 in
            let short = idle.mine line listed on before off in
            let most = count-one g (points_of s side) a line listed (free-of s side a free_a.0) in
            let same = ap (λ (q : FinSet nat_cmp). count_by (contains q) line) mine_on in
            omega (arith, short, most, same, e);
        theirs = λ kind line listed on.
            let few = idle.theirs kind line listed on in
            let most = count-one g (points_of s (other side)) w line listed out_w in
            let same = ap (λ (q : FinSet nat_cmp). count_by (contains q) line) theirs_on in
            omega (arith, few, most, same, e);
      }

  -- what leads to a line at the first does so at the second
  pub beside-leads : (points : List ℕ) (r s : Position)
      → IsAttacking g r side
      → IsAttacking g s side
      → IsBeside side v u r s
      → IsIdle g s side v u (depth_of points + 1)
      → LeadsToLine g r side points
      → LeadsToLine g s side points
  beside-leads [] r s first second b idle leads = absurd leads
  beside-leads (a ∷ []) r s first second b idle leads =
      filling-beside r s first second b a idle leads
  beside-leads (a ∷ (w ∷ others)) r s first second b idle leads =
      let depth = depth_of (a ∷ (w ∷ others)) + 1 in
      let some : 2 ≤ depth_of (a ∷ (w ∷ others)) + 1 = omega arith in
      let less : (depth_of others + 1) + 1 ≡ depth_of (a ∷ (w ∷ others)) + 1 = omega arith in (
        forcing-beside r s first second b depth some idle a w leads.0,
        beside-leads others (after g (after g r a) w) (after g (after g s a) w)
            (first_on r s first second b depth some idle a w leads.0)
            (second_on r s first second b depth some idle a w leads.0)
            (beside_on r s first second b depth some idle a w leads.0)
            (idle_on r s first second b depth some idle a w leads.0 (depth_of others + 1) less)
            leads.1,
      )

-- ---- the search

-- where no list of less depth leads to a line, none goes on after an idle attack
pub reply-idle : (g : Game) (p : Position) (side : Side) (one : g.bias ≡ 1)
    (attacking : IsAttacking g p side) (v u depth : ℕ)
    → 2 ≤ depth
    → IsAttack g p v
    → IsAnswering g (after g p v) side
    → (replies : FinSet nat_cmp)
    → ((x : ℕ) → contains replies x ≡ is_lacking g (after g p v) side 1 x)
    → IsLeastFrom replies 0 u
    → NoneBelow (Replied g (after g p v) side) depth
    → NoneBelow (LeadsToLine g p side) depth
    → IsIdle g p side v u depth
    → IsFound (Replied g (after g p v) side) depth None
reply-idle g p side one attacking v u depth deeper at answering replies is least none whole idle =
    reply-fails g (after g p v) side one answering replies is u least depth deeper none no-list
  where
    beside : IsBeside side v u (after g (after g p v) u) p
    beside = record {
      mine = mine-replied g p side one attacking v u at;
      theirs = theirs-replied g p side one attacking v u at;
      free_v = at.free;
      free_u =
          (free-was g p v u
          (reply-free g (after g p v) side one answering replies is u least.member).1).0;
    }

    no-list : (points : List ℕ)
        → LeadsToLine g (after g (after g p v) u) side points
        → depth_of points ≡ depth - 1
        → ⊥
    no-list points leads deep =
        let same : depth ≡ depth_of points + 1 = omega (arith, deep, deeper) in
        let first = reply-attacking g (after g p v) side one answering replies is u least.member in
        let le = whole points
        (beside-leads g side one v u points (after g (after g p v) u) p first attacking beside
        (subst (λ (n : ℕ). IsIdle g p side v u n) same idle) leads) in
        absurd (omega (arith, le, same))
