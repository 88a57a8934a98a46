-- A walk along the lines that the other side hasn't touched.
use Rattle.std.proofs.Common.{◌≡◌, ℕ, zero, suc, ◌+◌, ◌-◌, ◌<◌, ◌≤◌, Bool, true, false, ◌&&◌, ◌||◌}
use Rattle.std.proofs.Common.{◌==◌, List, [], length, get_or, take, Some, None, refl, sym, ap, ap₂}
use Rattle.std.proofs.Common.{◌∙◌, subst, inl, inr, arith, eqb-true, eq-eqb, ne_eqb, take_all}
use Rattle.std.specs.Prelude.{Option}
use Rattle.pg_threat.proofs.Common.{cases_eq, cases_lt, and_parts, and_from, and_left, and_right}
use Rattle.pg_threat.proofs.Common.{or_left, or_right, or_cases, false≢true, list_any_more}
use Rattle.pg_threat.proofs.Common.{list_any_at, get_or-take, length-take, list_any, FinSet}
use Rattle.pg_threat.proofs.Common.{contains, insert, empty, contains-empty, nat_cmp, in_insert}
use Rattle.pg_threat.proofs.Common.{other, Side, Game, Position, is_free, lines_of, is_on, line_at}
use Rattle.pg_threat.specs.Lacking.{own_count, is_live, NoneLive, IsNextLive, is_open_on, lacks}
use Rattle.pg_threat.specs.Lacking.{lacks_at, is_lacking, come_to, left_to, IsScan, IsLackedTwice}
use Rattle.pg_threat.specs.Lacking.{IsScanTwice}

-- ---- the free points of a line

module _ (s₀ s : FinSet nat_cmp) (p : Position) (line : List ℕ) (i q v : ℕ)
    (within : i < length line) (at : q ≡ get_or line i 0) where
  more : list_any (λ r. r == v) (take (i + 1) line)
      ≡ (list_any (λ r. r == v) (take i line) || q == v)
  more = list_any_more (λ r. r == v) line i 0 within
      ∙ ap (λ r. list_any (λ t. t == v) (take i line) || r == v) (sym at)

  -- a free point is put to the others
  pub put-step : is_free p q ≡ true
      → contains s v ≡ (contains s₀ v || (is_on v (take i line) && is_free p v))
      → contains (insert s q) v ≡ (contains s₀ v || (is_on v (take (i + 1) line) && is_free p v))
  put-step free h = elim (cases_eq v q) [
    | inl e ↦
        let here : (q == v) ≡ true = eq-eqb q v (sym e) in
        let free_v : is_free p v ≡ true = ap (is_free p) e ∙ free in
        let on : is_on v (take (i + 1) line) ≡ true = more ∙ or_right _ _ here in
        in_insert s q v
        ∙ ap (λ b. b || contains s v) (eq-eqb v q e)
        ∙ sym (or_right _ _ (ap₂ (λ (a b : Bool). a && b) on free_v))
    | inr ne ↦
        let off : (q == v) ≡ false = ne_eqb q v (λ e. ne (sym e)) in
        in_insert s q v
        ∙ ap (λ b. b || contains s v) (ne_eqb v q ne)
        ∙ h
        ∙ ap (λ b. contains s₀ v || (b && is_free p v))
        (sym (more ∙ ap (λ b. is_on v (take i line) || b) off ∙ or_false (is_on v (take i line))))
  ]
    where
      or_false : (b : Bool) → (b || false) ≡ b
      or_false true = refl
      or_false false = refl

  -- another is not
  pub skip-step : is_free p q ≡ false
      → contains s v ≡ (contains s₀ v || (is_on v (take i line) && is_free p v))
      → contains s v ≡ (contains s₀ v || (is_on v (take (i + 1) line) && is_free p v))
  skip-step taken h = elim (cases_eq v q) [
    | inl e ↦
        let taken_v : is_free p v ≡ false = ap (is_free p) e ∙ taken in
        h ∙ ap (λ b. contains s₀ v || b) (and_right _ _ taken_v ∙ sym (and_right _ _ taken_v))
    | inr ne ↦
        let off : (q == v) ≡ false = ne_eqb q v (λ e. ne (sym e)) in
        h
        ∙ ap (λ b. contains s₀ v || (b && is_free p v))
        (sym (more ∙ ap (λ b. is_on v (take i line) || b) off ∙ or_false (is_on v (take i line))))
  ]
    where
      or_false : (b : Bool) → (b || false) ≡ b
      or_false true = refl
      or_false false = refl

-- a point that was there before and is on the line is there twice
module _ (s₀ s twice : FinSet nat_cmp) (p : Position) (line : List ℕ) (i q v : ℕ)
    (within : i < length line) (at : q ≡ get_or line i 0) (old : contains s₀ v ≡ true)
    (now : contains s v ≡ (contains s₀ v || (is_on v (take i line) && is_free p v)))
    (before : (is_on v (take i line) && is_free p v) ≡ true → contains twice v ≡ true) where
  parts-of : (is_on v (take (i + 1) line) && is_free p v) ≡ true
      → ((is_on v (take i line) || q == v) ≡ true) × (is_free p v ≡ true)
  parts-of h =
      let parts = and_parts (is_on v (take (i + 1) line)) _ h in
      (sym (more s₀ s p line i q v within at) ∙ parts.0, parts.1)

  pub again-put : (after_twice : FinSet nat_cmp)
      → (contains twice v ≡ true → contains after_twice v ≡ true)
      → (contains s q ≡ true → contains after_twice q ≡ true)
      → (is_on v (take (i + 1) line) && is_free p v) ≡ true
      → contains after_twice v ≡ true
  again-put after_twice kept again h =
      let parts = parts-of h in
      elim (or_cases (is_on v (take i line)) _ parts.0) [
        | inl early ↦ kept (before (and_from _ _ early parts.1))
        | inr here ↦
            let same = eqb-true q v here in
            subst (λ (x : ℕ). contains after_twice x ≡ true) same
            (again (ap (contains s) same ∙ now ∙ or_left _ _ old))
      ]

  pub again-skip : is_free p q ≡ false
      → (is_on v (take (i + 1) line) && is_free p v) ≡ true
      → contains twice v ≡ true
  again-skip taken h =
      let parts = parts-of h in
      elim (or_cases (is_on v (take i line)) _ parts.0) [
        | inl early ↦ before (and_from _ _ early parts.1)
        | inr here ↦ absurd (false≢true (sym taken ∙ ap (is_free p) (eqb-true q v here) ∙ parts.1))
      ]

-- ---- the walk

-- members that fail add nothing
none-between : {X : Type 0} (t : X → Bool) (xs : List X) (d : X) (i n : ℕ)
    → i + n ≤ length xs
    → ((j : ℕ) → i ≤ j → j < i + n → t (get_or xs j d) ≡ false)
    → list_any t (take (i + n) xs) ≡ list_any t (take i xs)
none-between t xs d i zero few each =
    let same : i + 0 ≡ i = omega arith in
    ap (λ m. list_any t (take m xs)) same
none-between t xs d i (suc n) few each =
    let step : i + suc n ≡ (i + n) + 1 = omega arith in
    ap (λ m. list_any t (take m xs)) step
    ∙ list_any_more t xs (i + n) d (omega arith)
    ∙ ap (λ b. list_any t (take (i + n) xs) || b) (each (i + n) (omega arith) (omega arith))
    ∙ or_false (list_any t (take (i + n) xs))
    ∙ none-between t xs d i n (omega arith) (λ j low high. each j low (omega arith))
  where
    or_false : (b : Bool) → (b || false) ≡ b
    or_false true = refl
    or_false false = refl

module _ (g : Game) (p : Position) (side : Side) (missing : ℕ) where
  pub dead-lacks : (line : List ℕ) (v : ℕ)
      → is_live p (other side) line ≡ false
      → lacks_at p side missing v line ≡ false
  unfolding lacks
  dead-lacks line v dead = and_left _ _ (and_left _ _ dead)

  skipped : (from to v : ℕ)
      → from ≤ to
      → to ≤ length (lines_of g)
      → NoneLive g p (other side) from to
      → list_any (lacks_at p side missing v) (take to (lines_of g))
      ≡ list_any (lacks_at p side missing v) (take from (lines_of g))
  skipped from to v low high none =
      let same : to ≡ from + (to - from) = omega arith in
      ap (λ m. list_any (lacks_at p side missing v) (take m (lines_of g))) same
      ∙ none-between (lacks_at p side missing v) (lines_of g) [] from (to - from) (omega arith)
      (λ j after before. dead-lacks (line_at g j) v (none j after (omega arith)))

  -- the walk goes on
  pub scan-on : (points : FinSet nat_cmp) (from : ℕ) (next : Option ℕ)
      → from ≤ length (lines_of g)
      → IsNextLive g p (other side) from next
      → ((v : ℕ)
      → contains points v ≡ list_any (lacks_at p side missing v) (take from (lines_of g)))
      → IsScan g p side missing points next
  scan-on points from None low none h = record {
    before = λ v. h v ∙ sym (skipped from (length (lines_of g)) v low (omega arith) none);
    within = λ k e. absurd cc;
  }
  scan-on points from (Some line) low at h = record {
    before =
        λ v. h v ∙ sym (skipped from line v at.from_on (omega (arith, at.within)) at.none_before);
    within = λ k e.
        let same : line ≡ k = cc in (
          subst (λ (n : ℕ). n < length (lines_of g)) same at.within,
          subst (λ (n : ℕ). is_live p (other side) (line_at g n) ≡ true) same at.live,
        );
  }

  pub scan-first : (next : Option ℕ)
      → IsNextLive g p (other side) 0 next
      → IsScan g p side missing empty next
  scan-first next at = scan-on empty 0 next (omega arith) at (λ v. contains-empty nat_cmp v)

  -- a line that lacks so many, and one that doesn't
  module _ (points : FinSet nat_cmp) (line : ℕ) (next : Option ℕ)
      (scan : IsScan g p side missing points (Some line))
      (on : IsNextLive g p (other side) (line + 1) next) where
    here : line < length (lines_of g)
    here = (scan.within line refl).0

    line-more : (v : ℕ)
        → list_any (lacks_at p side missing v) (take (line + 1) (lines_of g))
        ≡ (list_any (lacks_at p side missing v) (take line (lines_of g))
        || lacks_at p side missing v (line_at g line))
    line-more v = list_any_more (lacks_at p side missing v) (lines_of g) line [] here

    pub scan-lacked : (now : FinSet nat_cmp)
        → own_count p side (line_at g line) + missing ≡ length (line_at g line)
        → ((v : ℕ) → contains now v ≡ (contains points v || is_open_on p (line_at g line) v))
        → IsScan g p side missing now next
    unfolding lacks
    scan-lacked now count put = scan-on now (line + 1) next (omega (arith, here)) on (λ v. put v
        ∙ ap₂ (λ (a b : Bool). a || b) (scan.before v)
        (sym (ap (λ b. b && is_open_on p (line_at g line) v) lacked))
        ∙ sym (line-more v))
      where
        lacked : lacks p side missing (line_at g line) ≡ true
        lacked = ap₂ (λ (a b : Bool). a && b) (scan.within line refl).1 (eq-eqb _ _ count)

    pub scan-other : (own_count p side (line_at g line) + missing ≡ length (line_at g line) → ⊥)
        → IsScan g p side missing points next
    unfolding lacks
    scan-other differ = scan-on points (line + 1) next (omega (arith, here)) on (λ v. scan.before v
        ∙ sym (line-more v
        ∙ ap (λ b. list_any (lacks_at p side missing v) (take line (lines_of g)) || b)
        (and_left _ _ whole)
        ∙ or_false _))
      where
        whole : lacks p side missing (line_at g line) ≡ false
        whole = and_right _ _ (ne_eqb _ _ differ)

        or_false : (b : Bool) → (b || false) ≡ b
        or_false true = refl
        or_false false = refl

  pub scan-over : (points : FinSet nat_cmp)
      → IsScan g p side missing points None
      → (v : ℕ) → contains points v ≡ is_lacking g p side missing v
  unfolding is_lacking
  scan-over points scan v = scan.before v
      ∙ ap (list_any (lacks_at p side missing v))
      (take_all (length (lines_of g)) (lines_of g) (omega arith))

  -- and comes nearer to its end
  pub scan-falls : (line : ℕ) (last next : Option ℕ)
      → line < length (lines_of g)
      → last ≡ Some line
      → IsNextLive g p (other side) (line + 1) next
      → left_to (length (lines_of g)) next < left_to (length (lines_of g)) last
  scan-falls line last None within is on =
      let come = ap (left_to (length (lines_of g))) is in
      omega (arith, come)
  scan-falls line last (Some k) within is on =
      let come = ap (left_to (length (lines_of g))) is in
      omega (arith, come, on.from_on, on.within)

-- ---- points that are lacked on two lines

module _ (g : Game) (p : Position) (side : Side) (missing : ℕ) where
  -- where a line is one of the first, it doesn't change which points are lacked on two
  twice-on : (twice : FinSet nat_cmp) (from : ℕ) (next : Option ℕ)
      → IsNextLive g p (other side) from next
      → ((v : ℕ) → IsLackedTwice g p side missing from v → contains twice v ≡ true)
      → (v : ℕ) → IsLackedTwice g p side missing (come_to (length (lines_of g)) next) v
      → contains twice v ≡ true
  twice-on twice from next on h v t = elim (cases_lt t.second from) [
    | inl early ↦ h v (record {
      first = t.first;
      second = t.second;
      before = t.before;
      within = early;
      on_first = t.on_first;
      on_second = t.on_second;
    })
    | inr late ↦ absurd (false≢true
        (sym (dead-lacks g p side missing (line_at g t.second) v (dead next on late t.within))
        ∙ t.on_second))
  ]
    where
      dead : (o : Option ℕ)
          → IsNextLive g p (other side) from o
          → from ≤ t.second
          → t.second < come_to (length (lines_of g)) o
          → is_live p (other side) (line_at g t.second) ≡ false
      dead None none late below = none t.second late below
      dead (Some k) at late below = at.none_before t.second late below

  -- a point that was lacked on one of the first lines
  lacked-before : (line first v : ℕ)
      → first < line
      → line ≤ length (lines_of g)
      → lacks_at p side missing v (line_at g first) ≡ true
      → list_any (lacks_at p side missing v) (take line (lines_of g)) ≡ true
  lacked-before line first v before within on =
      let here : first < length (take line (lines_of g)) =
      omega (arith, length-take {A = List ℕ} line (lines_of g)) in
      list_any_at (lacks_at p side missing v) (take line (lines_of g)) first [] here
      (ap (lacks_at p side missing v) (get_or-take line (lines_of g) first [] before) ∙ on)

  -- where no point is lacked none is lacked on two
  pub twice-none : ((v : ℕ) → is_lacking g p side missing v ≡ false)
      → (v : ℕ) → IsLackedTwice g p side missing (length (lines_of g)) v
      → ⊥
  unfolding is_lacking
  twice-none none v t =
      let before = t.before in
      let within = t.within in
      false≢true (sym (none v)
      ∙ list_any_at (lacks_at p side missing v) (lines_of g) t.first [] (omega arith) t.on_first)

  pub twice-first : (next : Option ℕ)
      → IsNextLive g p (other side) 0 next
      → IsScanTwice g p side missing empty empty next
  twice-first next on = record {
    scan = scan-first g p side missing next on;
    again = twice-on empty 0 next on (λ v t. let below = t.within in absurd (omega arith));
  }

  module _ (points twice : FinSet nat_cmp) (line : ℕ) (next : Option ℕ)
      (h : IsScanTwice g p side missing points twice (Some line))
      (on : IsNextLive g p (other side) (line + 1) next) where
    pub twice-lacked : (now now_twice : FinSet nat_cmp)
        → own_count p side (line_at g line) + missing ≡ length (line_at g line)
        → ((v : ℕ) → contains now v ≡ (contains points v || is_open_on p (line_at g line) v))
        → ((v : ℕ) → contains twice v ≡ true → contains now_twice v ≡ true)
        → ((v : ℕ) → contains points v ≡ true
        → is_open_on p (line_at g line) v ≡ true
        → contains now_twice v ≡ true)
        → IsScanTwice g p side missing now now_twice next
    twice-lacked now now_twice count put kept again = record {
      scan = scan-lacked g p side missing points line next h.scan on now count put;
      again = twice-on now_twice (line + 1) next on each;
    }
      where
        each : (v : ℕ) → IsLackedTwice g p side missing (line + 1) v → contains now_twice v ≡ true
        each v t = elim (cases_eq t.second line) [
          | inl e ↦
              let before = t.before in
              let within = (h.scan.within line refl).0 in
              let seen = h.scan.before v
              ∙ lacked-before line t.first v (omega arith) (omega arith) t.on_first in
              let second =
              subst (λ (k : ℕ). lacks_at p side missing v (line_at g k) ≡ true) e t.on_second in
              again v seen (and_parts (lacks p side missing (line_at g line)) _ second).1
          | inr ne ↦
              let within = t.within in
              kept v (h.again v (record {
                first = t.first;
                second = t.second;
                before = t.before;
                within = omega arith;
                on_first = t.on_first;
                on_second = t.on_second;
              }))
        ]

    pub twice-other : (own_count p side (line_at g line) + missing ≡ length (line_at g line) → ⊥)
        → IsScanTwice g p side missing points twice next
    unfolding lacks
    twice-other differ = record {
      scan = scan-other g p side missing points line next h.scan on differ;
      again = twice-on twice (line + 1) next on each;
    }
      where
        each : (v : ℕ) → IsLackedTwice g p side missing (line + 1) v → contains twice v ≡ true
        each v t = elim (cases_eq t.second line) [
          | inl e ↦
              let second =
              subst (λ (k : ℕ). lacks_at p side missing v (line_at g k) ≡ true) e t.on_second in
              absurd
              (false≢true (sym (and_left _ (is_open_on p (line_at g line) v)
              (and_right (is_live p (other side) (line_at g line)) _ (ne_eqb _ _ differ)))
              ∙ second))
          | inr ne ↦
              let within = t.within in
              h.again v (record {
                first = t.first;
                second = t.second;
                before = t.before;
                within = omega arith;
                on_first = t.on_first;
                on_second = t.on_second;
              })
        ]
