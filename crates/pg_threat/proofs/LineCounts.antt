-- How many points of a line a side lacks, by the points themselves.
use Rattle.std.proofs.Common.{◌≡◌, ◌≢◌, ℕ, ◌+◌, ◌<◌, ◌≤◌, Bool, true, false, cond, not, ◌&&◌, ◌||◌}
use Rattle.std.proofs.Common.{◌==◌, List, [], ◌∷◌, length, refl, sym, ap, ap₂, ◌∙◌, subst, inl, inr}
use Rattle.std.proofs.Common.{arith, eqb-true, eq-eqb, ne_eqb}
use Rattle.pg_threat.proofs.Common.{cases_Bool, cases_eq, and_left, and_parts, and_from, or_parts}
use Rattle.pg_threat.proofs.Common.{not-true, not_from_false, sum_by-cons, count_by-le-length}
use Rattle.pg_threat.proofs.Common.{get_or-le-sum_by, Contains, count_by, list_all, list_any}
use Rattle.pg_threat.proofs.Common.{FinSet, contains, insert, nat_cmp, ShareNone, in_insert, other}
use Rattle.pg_threat.proofs.Common.{Side, X, Y, Game, Position, is_free, points_of, lines_of}
use Rattle.pg_threat.proofs.Common.{is_touched, point_count, is_on, member-from_any, list_any-one}
use Rattle.pg_threat.proofs.Common.{list_any-none, free-of, Near, filled_but, filled-with}
use Rattle.pg_threat.proofs.Common.{filled-without, untouched, near-range, is_live_with, live_with}
use Rattle.pg_threat.proofs.Common.{clear-any}
use Rattle.pg_base.proofs.LineLemmas.{count-ascending}
use Rattle.pg_game.proofs.WeightBounds.{line-fit}
use Rattle.pg_threat.specs.Lacking.{lacks, lacks_at, is_lacking}

-- ---- counts of members

abbrev one_of : Bool → ℕ
one_of b = cond b 1 0

-- each point stands once in a line of the game
pub once : (g : Game) (line : List ℕ)
    → Contains (lines_of g) line
    → (v : ℕ) → count_by (λ q. q == v) line ≤ 1
once g line c v = count-ascending v line (line-fit g line c).ascending

pub some-counted : {X : Type 0} (t : X → Bool) (line : List X)
    → list_any t line ≡ true
    → 1 ≤ count_by t line
some-counted t line on =
    let found = member-from_any t line on in
    let at : one_of (t found.0) ≡ 1 = ap one_of found.2 in
    let le : one_of (t found.0) ≤ count_by t line = subst (λ q. one_of (t q) ≤ count_by t line)
    found.1.2 (get_or-le-sum_by (λ q. one_of (t q)) line found.1.0 found.0 found.1.1) in
    omega (arith, at, le)

pub count-insert : (s : FinSet nat_cmp) (v : ℕ) (line : List ℕ)
    → contains s v ≡ false
    → count_by (contains s) line + count_by (λ q. q == v) line
    ≡ count_by (contains (insert s v)) line
count-insert s v [] off = omega arith
count-insert s v (q ∷ line) off =
    let rest = count-insert s v line off in
    omega (
      arith,
      rest,
      here,
      sum_by-cons (λ r. one_of (contains s r)) q line,
      sum_by-cons (λ r. one_of (r == v)) q line,
      sum_by-cons (λ r. one_of (contains (insert s v) r)) q line,
    )
  where
    plus_zero : (n : ℕ) → n + 0 ≡ n
    plus_zero n = omega arith

    here : one_of (contains s q) + one_of (q == v) ≡ one_of (contains (insert s v) q)
    here = elim (cases_eq q v) [
      | inl e ↦
          let out : contains s q ≡ false = ap (contains s) e ∙ off in
          let same = eq-eqb q v e in
          ap₂ (λ (a b : Bool). one_of a + one_of b) out same
          ∙ sym (ap one_of (in_insert s v q ∙ ap (λ b. b || contains s q) same))
      | inr ne ↦
          let apart = ne_eqb q v ne in
          ap (λ b. one_of (contains s q) + one_of b) apart
          ∙ plus_zero (one_of (contains s q))
          ∙ sym (ap one_of (in_insert s v q ∙ ap (λ b. b || contains s q) apart))
    ]

-- one point more of a line
pub count-more : (g : Game) (s : FinSet nat_cmp) (v : ℕ) (line : List ℕ)
    → Contains (lines_of g) line
    → contains s v ≡ false
    → is_on v line ≡ true
    → count_by (contains (insert s v)) line ≡ count_by (contains s) line + 1
count-more g s v line c off on =
    let all = count-insert s v line off in
    let some = some-counted (λ q. q == v) line on in
    let most = once g line c v in
    omega (arith, all, some, most)

-- all are counted exactly where each passes
pub all-counted : (t : ℕ → Bool) (line : List ℕ)
    → list_all t line ≡ true
    → count_by t line ≡ length line
all-counted t [] all = refl
all-counted t (q ∷ line) all =
    let parts = and_parts (t q) _ all in
    let here : one_of (t q) ≡ 1 = ap one_of parts.0 in
    let rest = all-counted t line parts.1 in
    omega (arith, here, rest, sum_by-cons (λ r. one_of (t r)) q line)

pub counted-all : (t : ℕ → Bool) (line : List ℕ)
    → count_by t line ≡ length line
    → list_all t line ≡ true
counted-all t [] e = refl
counted-all t (q ∷ line) e = elim (cases_Bool (t q)) [
  | inl on ↦
      let here : one_of (t q) ≡ 1 = ap one_of on in
      and_from (t q) _ on
      (counted-all t line (omega (arith, here, e, sum_by-cons (λ r. one_of (t r)) q line)))
  | inr off ↦
      let here : one_of (t q) ≡ 0 = ap one_of off in
      absurd
      (omega (arith, here, e, sum_by-cons (λ r. one_of (t r)) q line, count_by-le-length t line))
]

-- ---- lines that lack one point, or two

-- what is lacked of a line that the other side hasn't touched, as its parts
pub lacks-from : (p : Position) (side : Side) (missing : ℕ) (line : List ℕ)
    → lacks p side missing line ≡ true
    → (is_touched (points_of p (other side)) line ≡ false)
    × (count_by (contains (points_of p side)) line + missing ≡ length line)
unfolding lacks
lacks-from p side missing line h =
    let parts = and_parts (not (is_touched (points_of p (other side)) line)) _ h in
    (not-true _ parts.0, eqb-true _ _ parts.1)

pub lacks-to : (p : Position) (side : Side) (missing : ℕ) (line : List ℕ)
    → is_touched (points_of p (other side)) line ≡ false
    → count_by (contains (points_of p side)) line + missing ≡ length line
    → lacks p side missing line ≡ true
unfolding lacks
lacks-to p side missing line clear count = and_from _ _ (not_from_false _ clear) (eq-eqb _ _ count)

-- by the counts of both sides
pub lacks-off : (p : Position) (side : Side) (missing : ℕ) (line : List ℕ)
    → count_by (contains (points_of p (other side))) line ≢ 0
    → false ≡ lacks p side missing line
unfolding lacks
lacks-off p side missing line some = sym
    (and_left _ _ (sym (clear-any (contains (points_of p (other side))) line) ∙ ne_eqb _ 0 some))

pub lacks-on : (p : Position) (side : Side) (missing : ℕ) (line : List ℕ)
    → count_by (contains (points_of p (other side))) line ≡ 0
    → (count_by (contains (points_of p side)) line + missing)
    == length line ≡ lacks p side missing line
unfolding lacks
lacks-on p side missing line none = sym
    (ap (λ b. b && (count_by (contains (points_of p side)) line + missing) == length line)
    (sym (clear-any (contains (points_of p (other side))) line) ∙ eq-eqb _ 0 none))

module _ (g : Game) (p : Position) (side : Side) (disjoint : ShareNone p.x p.y) where
  -- a line that lacks one point lacks it by its count
  pub one-lacked : (u : ℕ) → Near g p side u → is_lacking g p side 1 u ≡ true
  unfolding is_lacking
  one-lacked u n =
      let s = points_of p side in
      let more = count-more g s u n.line n.listed (free-of p side u n.free) n.on in
      let all = all-counted (contains (insert s u)) n.line (filled-with s u n.line n.rest) in
      list_any-one (lacks_at p side 1 u) (lines_of g) n.line n.listed
      (and_from (lacks p side 1 n.line) _
      (lacks-to p side 1 n.line (untouched p side u n.line disjoint n.free n.rest)
      (omega (arith, more, all))) (and_from (is_on u n.line) _ n.on n.free))

  -- and what its count says
  pub one-near : (u : ℕ) → is_lacking g p side 1 u ≡ true → Near g p side u
  unfolding is_lacking
  one-near u h =
      let found = member-from_any (lacks_at p side 1 u) (lines_of g) h in
      let line = found.0 in
      let parts = and_parts (lacks p side 1 line) _ found.2 in
      let here = and_parts (is_on u line) _ parts.1 in
      let s = points_of p side in
      let count = (lacks-from p side 1 line parts.0).1 in
      let more = count-more g s u line found.1 (free-of p side u here.1) here.0 in
      let all = counted-all (contains (insert s u)) line (omega (arith, count, more)) in
      record {
        line = line;
        listed = found.1;
        free = here.1;
        on = here.0;
        rest = filled-without s u line all;
      }

  -- a line that lacks two points, by its count
  pub two-lacked : (v u : ℕ) (line : List ℕ)
      → Contains (lines_of g) line
      → is_free p v ≡ true
      → is_free p u ≡ true
      → u ≢ v
      → is_on v line ≡ true
      → is_on u line ≡ true
      → filled_but (insert (points_of p side) v) u line ≡ true
      → is_touched (points_of p (other side)) line ≡ false
      → lacks_at p side 2 v line ≡ true
  two-lacked v u line listed free_v free_u ne on_v on_u rest clear =
      let s = points_of p side in
      let one = count-more g s v line listed (free-of p side v free_v) on_v in
      let out : contains (insert s v) u ≡ false =
      in_insert s v u ∙ ap (λ b. b || contains s u) (ne_eqb u v ne) ∙ free-of p side u free_u in
      let two = count-more g (insert s v) u line listed out on_u in
      let all =
      all-counted (contains (insert (insert s v) u)) line (filled-with (insert s v) u line rest) in
      and_from (lacks p side 2 line) _ (lacks-to p side 2 line clear (omega (arith, one, two, all)))
      (and_from (is_on v line) _ on_v free_v)

  -- a line that lacks so many points is one by which its points are lacked
  pub line-lacked : (missing v : ℕ) (line : List ℕ)
      → Contains (lines_of g) line
      → lacks_at p side missing v line ≡ true
      → is_lacking g p side missing v ≡ true
  unfolding is_lacking
  line-lacked missing v line listed on =
      list_any-one (lacks_at p side missing v) (lines_of g) line listed on

-- ---- the board's count of such lines

free-by : (p : Position) (side : Side) (q : ℕ)
    → contains (points_of p (other side)) q ≡ false
    → is_free p q ≡ not (contains (points_of p side) q)
free-by p X q off = ap (λ b. not (contains p.x q) && not b) off ∙ and_true (not (contains p.x q))
  where
    and_true : (b : Bool) → (b && true) ≡ b
    and_true true = refl
    and_true false = refl
free-by p Y q off = ap (λ b. not b && not (contains p.y q)) off

-- of a line that the other side hasn't touched the side has all but the free points
pub own-and_free : (p : Position) (side : Side) (line : List ℕ)
    → is_touched (points_of p (other side)) line ≡ false
    → count_by (contains (points_of p side)) line + count_by (is_free p) line ≡ length line
own-and_free p side [] clear = refl
own-and_free p side (q ∷ line) clear =
    let parts = or_parts (contains (points_of p (other side)) q) _ clear in
    let rest = own-and_free p side line parts.1 in
    omega (
      arith,
      rest,
      one_or (contains (points_of p side) q) (is_free p q) (free-by p side q parts.0),
      sum_by-cons (λ r. one_of (contains (points_of p side) r)) q line,
      sum_by-cons (λ r. one_of (is_free p r)) q line,
    )
  where
    one_or : (a b : Bool) → b ≡ not a → one_of a + one_of b ≡ 1
    one_or true b e = ap (λ c. 1 + one_of c) e
    one_or false b e = ap (λ c. 0 + one_of c) e

-- where the board counts no line of which the side lacks so many, no point is lacked
pub none-lacking : (g : Game) (p : Position) (side : Side) (missing : ℕ)
    → live_with g p (other side) missing ≡ 0
    → (v : ℕ) → is_lacking g p side missing v ≡ false
unfolding live_with is_lacking
none-lacking g p side missing none v = list_any-none (lacks_at p side missing v) (lines_of g) each
  where
    each : (line : List ℕ) → Contains (lines_of g) line → lacks_at p side missing v line ≡ false
    each line listed = elim (cases_Bool (lacks_at p side missing v line)) [
      | inr off ↦ off
      | inl on ↦
          let parts =
          lacks-from p side missing line (and_parts (lacks p side missing line) _ on).0 in
          let free : count_by (is_free p) line ≡ missing =
          omega (arith, parts.1, own-and_free p side line parts.0) in
          let live : is_live_with p (other side) missing line ≡ true =
          and_from _ _ (not_from_false _ parts.0) (eq-eqb _ _ free) in
          let some = some-counted (is_live_with p (other side) missing) (lines_of g)
          (list_any-one (is_live_with p (other side) missing) (lines_of g) line listed live) in
          absurd (omega (arith, none, some))
    ]

-- a point that is lacked is a free point of the game
pub lacking-free : (g : Game) (p : Position) (side : Side) (missing v : ℕ)
    → is_lacking g p side missing v ≡ true
    → (v < point_count g) × (is_free p v ≡ true)
unfolding is_lacking
lacking-free g p side missing v h =
    let found = member-from_any (lacks_at p side missing v) (lines_of g) h in
    let here =
    and_parts (is_on v found.0) _ (and_parts (lacks p side missing found.0) _ found.2).1 in
    (near-range g found.0 v found.1 here.0, here.1)
