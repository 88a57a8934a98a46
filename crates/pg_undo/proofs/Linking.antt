-- A place that is unlinked, and linked again.
use Rattle.std.proofs.Common.{◌≡◌, ◌≢◌, ℕ, zero, suc, ◌+◌, ◌-◌, ◌<◌, ◌≤◌, Bool, true, false, ◌||◌}
use Rattle.std.proofs.Common.{List, [], ◌∷◌, length, get_or, set, eqb, refl, sym, ap, ◌∙◌, inl, inr}
use Rattle.std.proofs.Common.{arith, subst}
use Rattle.std.proofs.lemmas.Bool.{cases_Bool, cases_eq, false≢true, or_left, or_right}
use Rattle.std.proofs.lemmas.Bool.{or_from, eq-eqb, ne_eqb}
use Rattle.std.specs.List.{Contains}
use Rattle.pg_undo.specs.Links.{history}
use Rattle.pg_undo.specs.Ring.{present}
use Rattle.pg_undo.proofs.Histories.{member-at, some-room}
use Rattle.std.proofs.lemmas.List.{get_or_read, length-set, get_or-set_same, get_or-set_other}
use Rattle.std.proofs.lemmas.List.{set-set, set-get_or}
use Rattle.pg_base.specs.Sets.{minus}
use Rattle.pg_base.proofs.SetLemmas.{minus_same, minus_self}
use Rattle.pg_undo.specs.Links.{slot, stands, Follows, AreLinked, AreLinks, IsOut, is_left}
use Rattle.pg_undo.proofs.Finding.{least_from, greatest_below}

-- ---- slots

pub slot-below : (n i : ℕ) → i ≤ n + 1 → slot n i ≤ n
unfolding slot
slot-below n zero h = omega arith
slot-below n (suc k) h = omega arith

slot-low : (n i j : ℕ) → i ≤ n → j ≤ n → slot n i ≡ slot n j → i ≡ j
unfolding slot
slot-low n zero zero hi hj e = refl
slot-low n zero (suc k) hi hj e = absurd (omega arith)
slot-low n (suc k) zero hi hj e = absurd (omega arith)
slot-low n (suc k) (suc m) hi hj e = omega arith

slot-high : (n i j : ℕ) → 0 < i → 0 < j → slot n i ≡ slot n j → i ≡ j
unfolding slot
slot-high n zero j hi hj e = absurd (omega arith)
slot-high n (suc k) zero hi hj e = absurd (omega arith)
slot-high n (suc k) (suc m) hi hj e = omega arith

pub slot-of : (n i : ℕ) → slot n (suc i) ≡ i
unfolding slot
slot-of n i = refl

pub slot-start : (n : ℕ) → slot n 0 ≡ n
unfolding slot
slot-start n = refl

-- ---- which places stand

pub stands-start : (n : ℕ) (left : ℕ → Bool) → stands n left 0 ≡ true
unfolding stands
stands-start n left = refl

pub stands-end : (n : ℕ) (left : ℕ → Bool) → stands n left (suc n) ≡ true
unfolding stands
stands-end n left = or_right (left n) (eqb n n) (eq-eqb n n refl)

pub stands-member : (n : ℕ) (left : ℕ → Bool) (i : ℕ) → left i ≡ true → stands n left (suc i) ≡ true
unfolding stands
stands-member n left i on = or_left (left i) (eqb i n) on

-- a place of a number below n stands where the number is left
pub stands-left : (n : ℕ) (left : ℕ → Bool) (i : ℕ) → i < n → stands n left (suc i) ≡ left i
unfolding stands
stands-left n left i h = rw (ne_eqb i n (λ e. omega arith)) (elim (cases_Bool (left i)) [
  | inl on ↦ rw on
  | inr off ↦ rw off
])

stands-other : (n : ℕ) (left : ℕ → Bool) (u k : ℕ)
    → k ≢ suc u
    → stands n (minus left u) k ≡ stands n left k
unfolding stands
stands-other n left u zero apart = refl
stands-other n left u (suc k) apart =
    ap (λ b. b || eqb k n) (minus_same left u k (λ e. apart (ap suc (sym e))))

stands-gone : (n : ℕ) (left : ℕ → Bool) (u : ℕ) → u < n → stands n (minus left u) (suc u) ≡ false
unfolding stands
stands-gone n left u h =
    or_from (minus left u u) (eqb u n) (minus_self left u) (ne_eqb u n (λ e. omega arith))

-- ---- the next place and the one before

pub next_place : (n : ℕ) (left : ℕ → Bool) (i : ℕ)
    → i ≤ n
    → stands n left i ≡ true
    → (j : ℕ) × Follows n left i j
next_place n left i low on =
    let at : (i + 1) + (n - i) ≡ suc n = omega arith in
    let found =
    least_from (stands n left) (i + 1) (n - i) (ap (stands n left) at ∙ stands-end n left) in
    let above : i + 1 ≤ found.0 = found.1 in
    let within : found.0 ≤ (i + 1) + (n - i) = found.2 in (
      found.0,
      record {
        above = omega arith;
        within = omega arith;
        from = on;
        to = found.3;
        between = λ k low high. found.4 k (omega arith) high;
      },
    )

pub place_before : (n : ℕ) (left : ℕ → Bool) (j : ℕ)
    → 0 < j
    → j ≤ n + 1
    → stands n left j ≡ true
    → (i : ℕ) × Follows n left i j
place_before n left j some within on =
    let found = greatest_below (stands n left) j (stands-start n left) some in (
      found.0,
      record { above = found.1; within = within; from = found.2; to = on; between = found.3 },
    )

-- places between which nothing stands are the only ones
follows-from : (n : ℕ) (left : ℕ → Bool) (i j k : ℕ)
    → Follows n left i k
    → Follows n left j k
    → i ≡ j
follows-from n left i j k f g =
    let i_low : i < k = f.above in
    let j_low : j < k = g.above in
    elim (cases_eq i j) [
      | inl e ↦ e
      | inr ne ↦ elim (Rattle.std.proofs.lemmas.Bool.cases_lt i j) [
        | inl lt ↦ absurd (false≢true (sym (f.between j lt j_low) ∙ g.from))
        | inr ge ↦ absurd (false≢true (sym (g.between i (omega arith) i_low) ∙ f.from))
      ]
    ]

follows-to : (n : ℕ) (left : ℕ → Bool) (i j k : ℕ) → Follows n left i j → Follows n left i k → j ≡ k
follows-to n left i j k f g =
    let j_high : i < j = f.above in
    let k_high : i < k = g.above in
    elim (cases_eq j k) [
      | inl e ↦ e
      | inr ne ↦ elim (Rattle.std.proofs.lemmas.Bool.cases_lt j k) [
        | inl lt ↦ absurd (false≢true (sym (g.between j j_high lt) ∙ f.to))
        | inr ge ↦ absurd (false≢true (sym (f.between k k_high (omega arith)) ∙ g.to))
      ]
    ]

-- ---- a member with its neighbours

pub record Neighbours (n : ℕ) (next previous : List ℕ) (left : ℕ → Bool) (u : ℕ) : Type 0 where
  pub before : ℕ
  pub after : ℕ
  pub follows : Follows n left before (suc u)
  pub followed : Follows n left (suc u) after
  pub next_is : get_or next u 0 ≡ slot n after
  pub previous_is : get_or previous u 0 ≡ slot n before
  pub next_back : get_or previous (slot n after) 0 ≡ u
  pub previous_forth : get_or next (slot n before) 0 ≡ u

pub neighbours : (n : ℕ) (next previous : List ℕ) (left : ℕ → Bool) (u : ℕ)
    → AreLinked n next previous left
    → u < n
    → left u ≡ true
    → Neighbours n next previous left u
neighbours n next previous left u linked low on =
    let stays = stands-member n left u on in
    let a = place_before n left (suc u) (omega arith) (omega arith) stays in
    let b = next_place n left (suc u) (omega arith) stays in
    let own = slot-of n u in
    record {
      before = a.0;
      after = b.0;
      follows = a.1;
      followed = b.1;
      next_is = ap (λ s. get_or next s 0) (sym own) ∙ linked.forth (suc u) b.0 b.1;
      previous_is = ap (λ s. get_or previous s 0) (sym own) ∙ linked.back a.0 (suc u) a.1;
      next_back = linked.back (suc u) b.0 b.1 ∙ own;
      previous_forth = linked.forth a.0 (suc u) a.1 ∙ own;
    }

-- the neighbours' slots are within the arrays
pub next-within : (n : ℕ) (next previous : List ℕ) (left : ℕ → Bool) (u : ℕ)
    → Neighbours n next previous left u
    → get_or next u 0 < n + 1
next-within n next previous left u w =
    let b : w.after ≤ n + 1 = w.followed.within in
    omega (arith, w.next_is, slot-below n w.after b)

pub previous-within : (n : ℕ) (next previous : List ℕ) (left : ℕ → Bool) (u : ℕ)
    → u < n
    → Neighbours n next previous left u
    → get_or previous u 0 < n + 1
previous-within n next previous left u low w =
    let a : w.before < suc u = w.follows.above in
    omega (arith, w.previous_is, slot-below n w.before (omega arith))

-- ---- unlinking

module _ (n : ℕ) (next previous : List ℕ) (left : ℕ → Bool) (u : ℕ)
    (linked : AreLinked n next previous left) (low : u < n)
    (w : Neighbours n next previous left u) where
  next_now : List ℕ
  next_now = set next (get_or previous u 0) (get_or next u 0)

  previous_now : List ℕ
  previous_now = set previous (get_or next u 0) (get_or previous u 0)

  -- places that follow one another once the member is out either surround it or followed one
  -- another before
  follows-was : (i j : ℕ) → Follows n (minus left u) i j → i ≢ w.before → Follows n left i j
  follows-was i j f apart =
      let gone = stands-gone n left u low in
      let from_apart : i ≢ suc u =
      λ e. false≢true (sym gone ∙ (ap (stands n (minus left u)) (sym e) ∙ f.from)) in
      let to_apart : j ≢ suc u =
      λ e. false≢true (sym gone ∙ (ap (stands n (minus left u)) (sym e) ∙ f.to)) in
      let from_was = sym (stands-other n left u i from_apart) ∙ f.from in
      record {
        above = f.above;
        within = f.within;
        from = from_was;
        to = sym (stands-other n left u j to_apart) ∙ f.to;
        between = λ k above below. elim (cases_eq k (suc u)) [
          | inl e ↦
              -- the member would stand between: then i is the one before it
              let lower : i < suc u = omega arith in
              let a_low : w.before < suc u = w.follows.above in
              let a_apart : w.before ≢ suc u = λ h. omega arith in
              absurd (elim (Rattle.std.proofs.lemmas.Bool.cases_lt w.before i) [
                | inl lt ↦ false≢true (sym (w.follows.between i lt lower) ∙ from_was)
                | inr ge ↦
                    let higher : i < w.before = omega arith in
                    let under : w.before < j = omega arith in
                    false≢true (sym (f.between w.before higher under)
                    ∙ (stands-other n left u w.before a_apart ∙ w.follows.from))
              ])
          | inr ne ↦ sym (stands-other n left u k ne) ∙ f.between k above below
        ];
      }

  -- the member's neighbours now follow one another
  follows-now : Follows n (minus left u) w.before w.after
  follows-now =
      let a_low : w.before < suc u = w.follows.above in
      let b_high : suc u < w.after = w.followed.above in
      record {
        above = omega arith;
        within = w.followed.within;
        from = stands-other n left u w.before (λ e. omega arith) ∙ w.follows.from;
        to = stands-other n left u w.after (λ e. omega arith) ∙ w.followed.to;
        between = λ k above below. elim (cases_eq k (suc u)) [
          | inl e ↦ ap (stands n (minus left u)) e ∙ stands-gone n left u low
          | inr ne ↦ stands-other n left u k ne
              ∙ elim (Rattle.std.proofs.lemmas.Bool.cases_lt k (suc u)) [
                | inl lt ↦ w.follows.between k above lt
                | inr ge ↦ w.followed.between k (omega arith) below
              ]
        ];
      }

  forth-now : (i j : ℕ) → Follows n (minus left u) i j → get_or next_now (slot n i) 0 ≡ slot n j
  unfolding next_now
  forth-now i j f =
      let i_low : i < j = f.above in
      let j_within : j ≤ n + 1 = f.within in
      let a_low : w.before < suc u = w.follows.above in
      elim (cases_eq i w.before) [
        | inl e ↦
            let same = follows-to n (minus left u) w.before j w.after
            (subst (λ k. Follows n (minus left u) k j) e f) follows-now in
            let here : slot n i ≡ get_or previous u 0 = ap (slot n) e ∙ sym w.previous_is in
            rw here (get_or-set_same next (get_or previous u 0) (get_or next u 0) 0 (omega (
              arith,
              linked.next_count,
              previous-within n next previous left u low w,
            ))
            ∙ (w.next_is ∙ ap (slot n) (sym same)))
        | inr ne ↦
            let apart : slot n i ≢ get_or previous u 0 =
            λ e. ne (slot-low n i w.before (omega arith) (omega arith) (e ∙ w.previous_is)) in
            get_or-set_other next (get_or previous u 0) (slot n i) (get_or next u 0) 0 apart
            ∙ linked.forth i j (follows-was i j f ne)
      ]

  back-now : (i j : ℕ) → Follows n (minus left u) i j → get_or previous_now (slot n j) 0 ≡ slot n i
  unfolding previous_now
  back-now i j f =
      let i_low : i < j = f.above in
      let b_high : suc u < w.after = w.followed.above in
      elim (cases_eq i w.before) [
        | inl e ↦
            let same = follows-to n (minus left u) w.before j w.after
            (subst (λ k. Follows n (minus left u) k j) e f) follows-now in
            let here : slot n j ≡ get_or next u 0 = ap (slot n) same ∙ sym w.next_is in
            rw here (get_or-set_same previous (get_or next u 0) (get_or previous u 0) 0 (omega (
              arith,
              linked.previous_count,
              next-within n next previous left u w,
            ))
            ∙ (w.previous_is ∙ ap (slot n) (sym e)))
        | inr ne ↦
            let was = follows-was i j f ne in
            let other : j ≢ w.after = λ e. ne (follows-from n (minus left u) i w.before w.after
            (subst (λ k. Follows n (minus left u) i k) e f) follows-now) in
            let apart : slot n j ≢ get_or next u 0 =
            λ e. other (slot-high n j w.after (omega arith) (omega arith) (e ∙ w.next_is)) in
            get_or-set_other previous (get_or next u 0) (slot n j) (get_or previous u 0) 0 apart
            ∙ linked.back i j was
      ]

  pub linked-without : AreLinked n (set next (get_or previous u 0) (get_or next u 0))
      (set previous (get_or next u 0) (get_or previous u 0)) (minus left u)
  unfolding next_now previous_now
  linked-without = record {
    next_count = length-set next _ _ ∙ linked.next_count;
    previous_count = length-set previous _ _ ∙ linked.previous_count;
    forth = forth-now;
    back = back-now;
  }

  -- the member's own slots keep their neighbours
  pub next-kept : get_or (set next (get_or previous u 0) (get_or next u 0)) u 0 ≡ get_or next u 0
  next-kept =
      let a_low : w.before < suc u = w.follows.above in
      let apart : u ≢ get_or previous u 0 = λ e.
      (let same : suc u ≡ w.before =
      slot-low n (suc u) w.before (omega arith) (omega arith) (slot-of n u ∙ (e ∙ w.previous_is)) in
      omega arith) in
      get_or-set_other next (get_or previous u 0) u (get_or next u 0) 0 apart

  pub previous-kept : get_or (set previous (get_or next u 0) (get_or previous u 0)) u 0
      ≡ get_or previous u 0
  previous-kept =
      let b_high : suc u < w.after = w.followed.above in
      let apart : u ≢ get_or next u 0 = λ e.
      (let same : suc u ≡ w.after =
      slot-high n (suc u) w.after (omega arith) (omega arith) (slot-of n u ∙ (e ∙ w.next_is)) in
      omega arith) in
      get_or-set_other previous (get_or next u 0) u (get_or previous u 0) 0 apart

  -- linking the member again gives the arrays as they were
  pub next-back : set (set next (get_or previous u 0) (get_or next u 0)) (get_or previous u 0) u
      ≡ next
  next-back =
      let here : get_or next (get_or previous u 0) 0 ≡ u =
      ap (λ s. get_or next s 0) w.previous_is ∙ w.previous_forth in
      set-set next (get_or previous u 0) (get_or next u 0) u
      ∙ (ap (set next (get_or previous u 0)) (sym here) ∙ set-get_or next (get_or previous u 0) 0)

  pub previous-back : set (set previous (get_or next u 0) (get_or previous u 0)) (get_or next u 0) u
      ≡ previous
  previous-back =
      let here : get_or previous (get_or next u 0) 0 ≡ u =
      ap (λ s. get_or previous s 0) w.next_is ∙ w.next_back in
      set-set previous (get_or next u 0) (get_or previous u 0) u
      ∙ (ap (set previous (get_or next u 0)) (sym here) ∙ set-get_or previous (get_or next u 0) 0)

-- ---- with all that was taken out before

pub links-linked : (n : ℕ) (next previous out : List ℕ)
    → AreLinks n next previous out
    → AreLinked n next previous (is_left out)
unfolding AreLinks
links-linked n next previous [] h = h
links-linked n next previous (i ∷ out) h = h.0

pub links-without : (n : ℕ) (next previous out : List ℕ) (u : ℕ)
    → AreLinks n next previous out
    → u < n
    → is_left out u ≡ true
    → AreLinks n (set next (get_or previous u 0) (get_or next u 0))
    (set previous (get_or next u 0) (get_or previous u 0)) (u ∷ out)
unfolding AreLinks is_left
links-without n next previous out u h low on =
    let linked = links-linked n next previous out h in
    let w = neighbours n next previous (is_left out) u linked low on in
    let next_kept = next-kept n next previous (is_left out) u linked low w in
    let previous_kept = previous-kept n next previous (is_left out) u linked low w in
    let next_same =
    ap (λ s. set (set next (get_or previous u 0) (get_or next u 0)) s u) previous_kept
    ∙ next-back n next previous (is_left out) u linked low w in
    let previous_same =
    ap (λ s. set (set previous (get_or next u 0) (get_or previous u 0)) s u) next_kept
    ∙ previous-back n next previous (is_left out) u linked low w in
    let next_low : get_or next u 0 < n + 1 = next-within n next previous (is_left out) u w in
    let previous_low : get_or previous u 0 < n + 1 =
    previous-within n next previous (is_left out) u low w in (
      linked-without n next previous (is_left out) u linked low w,
      record {
        low = low;
        was_left = on;
        next_within = omega (arith, next_kept);
        previous_within = omega (arith, previous_kept);
      },
      subst
          (λ xs. AreLinks n xs
          (set (set previous (get_or next u 0) (get_or previous u 0))
          (get_or (set next (get_or previous u 0) (get_or next u 0)) u 0) u) out) (sym next_same)
          (subst (λ ys. AreLinks n next ys out) (sym previous_same) h),
    )

-- ---- for the calls

-- what is known where a member is taken out between the neighbours that were read
pub record Unlinking (n : ℕ) (next previous out : List ℕ) (u before after : ℕ) : Type 0 where
  pub low : u < n
  pub before_low : before < n + 1
  pub after_low : after < n + 1
  pub room : length out < n
  pub links : AreLinks n (set next before after) (set previous after before) (u ∷ out)

-- the member's place in both arrays
pub record InArrays (n : ℕ) (next previous : List ℕ) (u : ℕ) : Type 0 where
  pub next_low : u < length next
  pub previous_low : u < length previous

pub in_arrays : (n : ℕ) (next previous out : List ℕ) (u : ℕ)
    → AreLinks n next previous out
    → u ≤ n
    → InArrays n next previous u
in_arrays n next previous out u links low =
    let linked = links-linked n next previous out links in
    record {
      next_low = omega (arith, linked.next_count);
      previous_low = omega (arith, linked.previous_count);
    }

pub unlinking : (n : ℕ) (next previous out : List ℕ) (lists : List (List ℕ)) (u before after : ℕ)
    → AreLinks n next previous out
    → history n out ≡ lists
    → Contains (present lists) u
    → before ≡ get_or previous u before
    → after ≡ get_or next u after
    → Unlinking n next previous out u before after
unlinking n next previous out lists u before after links is inside before_is after_is =
    let at = member-at n out lists u is inside in
    let low : u < n = at.0 in
    let linked = links-linked n next previous out links in
    let place = in_arrays n next previous out u links (omega arith) in
    let w = neighbours n next previous (is_left out) u linked low at.1 in
    let b : before ≡ get_or previous u 0 =
    get_or_read previous u before place.previous_low before_is 0 in
    let a : after ≡ get_or next u 0 = get_or_read next u after place.next_low after_is 0 in
    rw (b, a) (record {
      low = low;
      before_low = previous-within n next previous (is_left out) u low w;
      after_low = next-within n next previous (is_left out) u w;
      room = some-room n next previous out u links low at.1;
      links = links-without n next previous out u links low at.1;
    })

-- what is known where what was taken out last is put back
pub record Relinking (n : ℕ) (next previous out : List ℕ) (u before after : ℕ) : Type 0 where
  pub low : u < n
  pub before_low : before < n + 1
  pub after_low : after < n + 1
  pub links : AreLinks n (set next before u) (set previous after u) out

pub links-out : (n : ℕ) (next previous out : List ℕ) (u : ℕ)
    → AreLinks n next previous (u ∷ out)
    → IsOut n next previous out u
unfolding AreLinks
links-out n next previous out u links = links.1

pub links-before : (n : ℕ) (next previous out : List ℕ) (u : ℕ)
    → AreLinks n next previous (u ∷ out)
    → AreLinks n (set next (get_or previous u 0) u) (set previous (get_or next u 0) u) out
unfolding AreLinks
links-before n next previous out u links = links.2

pub relinking : (n : ℕ) (next previous out : List ℕ) (u before after : ℕ)
    → AreLinks n next previous (u ∷ out)
    → before ≡ get_or previous u before
    → after ≡ get_or next u after
    → Relinking n next previous out u before after
relinking n next previous out u before after links before_is after_is =
    let at = links-out n next previous out u links in
    let low : u < n = at.low in
    let place = in_arrays n next previous (u ∷ out) u links (omega arith) in
    let b : before ≡ get_or previous u 0 =
    get_or_read previous u before place.previous_low before_is 0 in
    let a : after ≡ get_or next u 0 = get_or_read next u after place.next_low after_is 0 in
    let before_low : get_or previous u 0 ≤ n = at.previous_within in
    let after_low : get_or next u 0 ≤ n = at.next_within in
    rw (b, a) (record {
      low = low;
      before_low = omega arith;
      after_low = omega arith;
      links = links-before n next previous out u links;
    })
