-- The replies to an attack, read off the lines through it.
use Rattle.std.proofs.Common.{◌≡◌, ◌≢◌, ℕ, suc, ◌+◌, ◌<◌, ◌≤◌, Bool, true, false, not, ◌&&◌, ◌||◌}
use Rattle.std.proofs.Common.{◌==◌, List, [], ◌∷◌, length, get_or, take, refl, sym, ap, ap₂, ◌∙◌}
use Rattle.std.proofs.Common.{subst, inl, inr, arith, ne_eqb}
use Rattle.pg_threat.proofs.Common.{cases_Bool, and_parts, and_from, not-true, not_from_false}
use Rattle.pg_threat.proofs.Common.{false≢true, eq-eqb, take_all, Contains-get_or, list_any_more}
use Rattle.pg_threat.proofs.Common.{Contains, list_any, range_with_len, FinSet, contains, insert}
use Rattle.pg_threat.proofs.Common.{remove, nat_cmp, in_insert, in_remove, ShareNone, Side, Game}
use Rattle.pg_threat.proofs.Common.{Position, points_of, lines_of, after, is_on, IsAttack, any_both}
use Rattle.pg_threat.proofs.Common.{false-at, member-from_any, list_any-one, free-of, free-stays}
use Rattle.pg_threat.proofs.Common.{free-was, points_of-mover, ShareNone-after, Near, filled_but}
use Rattle.pg_threat.proofs.Common.{filled-without, line_at, lines_holding}
use Rattle.pg_board.proofs.Ranges.{filtered-below, filtered-passes}
use Rattle.pg_threat.specs.Lacking.{is_gained, is_open_on, lacks, lacks_at, is_lacking, is_partner}
use Rattle.pg_threat.proofs.LineCounts.{count-more, counted-all, lacks-from, one-lacked, one-near}
use Rattle.pg_threat.proofs.Attacks.{near-lacks}

-- ---- the lines through a point

-- a test of numbers that says what a test of lines does passes for one of the numbers where that
-- does for one of the lines
any-from : (h : ℕ → Bool) (f : List ℕ → Bool) (a : ℕ) (lines : List (List ℕ))
    → ((i : ℕ) → i < length lines → h (a + i) ≡ f (get_or lines i []))
    → list_any h (range_with_len a (length lines)) ≡ list_any f lines
any-from h f a [] each = refl
any-from h f a (line ∷ lines) each =
    let first : h a ≡ f line =
    (let at : a + 0 ≡ a = omega arith in ap h (sym at) ∙ each 0 (omega arith)) in
    let rest = any-from h f (a + 1) lines (λ i low.
    (let at : (a + 1) + i ≡ a + suc i = omega arith in ap h at ∙ each (suc i) (omega arith))) in
    ap₂ (λ (b c : Bool). b || c) first rest

pub through-any : (lines : List (List ℕ)) (v : ℕ) (t : List ℕ → Bool)
    → list_any (λ i. t (get_or lines i [])) (lines_holding lines v)
    ≡ list_any (λ line. is_on v line && t line) lines
unfolding lines_holding
through-any lines v t = any_both (λ i. t (get_or lines i [])) (λ i. is_on v (get_or lines i []))
    (range_with_len 0 (length lines))
    ∙ any-from (λ i. is_on v (get_or lines i []) && t (get_or lines i []))
    (λ line. is_on v line && t line) 0 lines (λ i low. (let at : 0 + i ≡ i = omega arith in
    ap (λ k. is_on v (get_or lines k []) && t (get_or lines k [])) at))

-- its numbers are those of lines
pub through-low : (lines : List (List ℕ)) (v i : ℕ)
    → i < length (lines_holding lines v)
    → get_or (lines_holding lines v) i 0 < length lines
unfolding lines_holding
through-low lines v i low = filtered-below (λ j. is_on v (get_or lines j [])) (length lines) _
    (Contains-get_or (lines_holding lines v) i 0 low)

-- each of them holds it
pub through-on : (lines : List (List ℕ)) (v i : ℕ)
    → i < length (lines_holding lines v)
    → is_on v (get_or lines (get_or (lines_holding lines v) i 0) []) ≡ true
unfolding lines_holding
through-on lines v i low = filtered-passes (λ j. is_on v (get_or lines j [])) (length lines) _
    (Contains-get_or (lines_holding lines v) i 0 low)

-- ---- the walk along them

or_false : (b : Bool) → (b || false) ≡ b
or_false true = refl
or_false false = refl

module _ (g : Game) (p : Position) (side : Side) (v : ℕ) where
  abbrev passed : ℕ → ℕ → Bool
  passed u i =
      list_any (λ k. lacks_at p side 2 u (line_at g k)) (take i (lines_holding (lines_of g) v))

  module _ (i line : ℕ) (low : i < length (lines_holding (lines_of g) v))
      (is : line ≡ get_or (lines_holding (lines_of g) v) i 0) (u : ℕ) where
    more : passed u (i + 1) ≡ (passed u i || lacks_at p side 2 u (line_at g line))
    more = list_any_more (λ k. lacks_at p side 2 u (line_at g k))
        (lines_holding (lines_of g) v) i 0 low
        ∙ ap (λ k. passed u i || lacks_at p side 2 u (line_at g k)) (sym is)

    pub walk-lacked : (old now : Bool)
        → lacks p side 2 (line_at g line) ≡ true
        → old ≡ passed u i
        → now ≡ (old || is_open_on p (line_at g line) u)
        → now ≡ passed u (i + 1)
    walk-lacked old now lacked h put = put
        ∙ ap₂ (λ (a b : Bool). a || (b && is_open_on p (line_at g line) u)) h (sym lacked)
        ∙ sym more

    pub walk-other : (old : Bool)
        → lacks p side 2 (line_at g line) ≡ false
        → old ≡ passed u i
        → old ≡ passed u (i + 1)
    walk-other old other h = h
        ∙ sym (more
        ∙ ap (λ b. passed u i || (b && is_open_on p (line_at g line) u)) other
        ∙ or_false (passed u i))

  pub walk-over : (s : FinSet nat_cmp) (i : ℕ)
      → length (lines_holding (lines_of g) v) ≤ i
      → ((u : ℕ) → contains s u ≡ passed u i)
      → (u : ℕ) → contains (remove s v) u ≡ is_partner g p side v u
  unfolding is_partner
  walk-over s i end h u = in_remove s v u
      ∙ ap (λ b. not (u == v) && b) (h u
      ∙ ap (list_any (λ k. lacks_at p side 2 u (line_at g k)))
      (take_all i (lines_holding (lines_of g) v) end)
      ∙ through-any (lines_of g) v (lacks_at p side 2 u))

-- where no line through the point passes, none of the game that holds it does
pub gained-none : (g : Game) (p : Position) (side : Side) (v u i : ℕ)
    → length (lines_holding (lines_of g) v) ≤ i
    → list_any (λ k. is_gained p side u (line_at g k)) (take i (lines_holding (lines_of g) v))
    ≡ false
    → (line : List ℕ) → Contains (lines_of g) line
    → is_on v line ≡ true
    → is_gained p side u line ≡ false
gained-none g p side v u i end none line listed on =
    let t = λ (other_line : List ℕ). is_on v other_line && is_gained p side u other_line in
    let all : list_any t (lines_of g) ≡ false =
    sym (ap (list_any (λ k. is_gained p side u (line_at g k)))
    (take_all i (lines_holding (lines_of g) v) end)
    ∙ through-any (lines_of g) v (is_gained p side u))
    ∙ none in
    sym (ap (λ b. b && is_gained p side u line) on) ∙ false-at t (lines_of g) line all listed

-- ---- what an attack leaves the side to lack

module _ (g : Game) (side : Side) (p : Position) (turn : p.turn ≡ side)
    (disjoint : ShareNone p.x p.y) (none : (v : ℕ) → Near g p side v → ⊥) (v : ℕ)
    (at : IsAttack g p v) where
  near-partner : (u : ℕ) → Near g (after g p v) side u → is_partner g p side v u ≡ true
  unfolding is_partner
  near-partner u n =
      let was = free-was g p v u n.free in
      let parts =
      and_parts (lacks p side 2 n.line) _ (near-lacks g side p turn disjoint none v u at n) in
      let on_v = (and_parts (is_on v n.line) _ parts.1).0 in
      let each : (is_on v n.line && lacks_at p side 2 u n.line) ≡ true =
      and_from _ _ on_v (and_from _ _ parts.0 (and_from _ _ n.on was.0)) in
      and_from _ _ (not_from_false _ (ne_eqb u v was.1))
      (list_any-one (λ line. is_on v line && lacks_at p side 2 u line)
      (lines_of g) n.line n.listed each)

  partner-near : (u : ℕ) → is_partner g p side v u ≡ true → Near g (after g p v) side u
  unfolding is_partner
  partner-near u h =
      let parts = and_parts (not (u == v)) _ h in
      let found =
      member-from_any (λ line. is_on v line && lacks_at p side 2 u line) (lines_of g) parts.1 in
      let line = found.0 in
      let here = and_parts (is_on v line) _ found.2 in
      let lacked = and_parts (lacks p side 2 line) _ here.1 in
      let free = and_parts (is_on u line) _ lacked.1 in
      let s = points_of p side in
      let apart : (u == v) ≡ false = not-true _ parts.0 in
      let count = (lacks-from p side 2 line lacked.0).1 in
      let one = count-more g s v line found.1 (free-of p side v at.free) here.0 in
      let out : contains (insert s v) u ≡ false =
      in_insert s v u ∙ ap (λ b. b || contains s u) apart ∙ free-of p side u free.1 in
      let two = count-more g (insert s v) u line found.1 out free.0 in
      let all =
      counted-all (contains (insert (insert s v) u)) line (omega (arith, count, one, two)) in
      let ne : v ≢ u = λ e. false≢true (sym apart ∙ eq-eqb u v (sym e)) in
      record {
        line = line;
        listed = found.1;
        free = free-stays g p v u ne free.1;
        on = free.0;
        rest = subst (λ (xs : FinSet nat_cmp). filled_but xs u line ≡ true)
            (sym (points_of-mover g p side v turn)) (filled-without (insert s v) u line all);
      }

  -- after the attack the side lacks one point of a line where before it lacked that one and the
  -- attack
  pub partner-lacking : (u : ℕ) → is_partner g p side v u ≡ is_lacking g (after g p v) side 1 u
  partner-lacking u = elim (cases_Bool (is_lacking g (after g p v) side 1 u)) [
    | inl on ↦
        near-partner u (one-near g (after g p v) side (ShareNone-after g p v disjoint at.free) u on)
        ∙ sym on
    | inr off ↦ elim (cases_Bool (is_partner g p side v u)) [
      | inl pair ↦ absurd (false≢true (sym off
          ∙ one-lacked g (after g p v) side (ShareNone-after g p v disjoint at.free) u
          (partner-near u pair)))
      | inr out ↦ out ∙ sym off
    ]
  ]
