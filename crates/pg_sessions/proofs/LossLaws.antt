-- The losses of moves, one by one.
use Rattle.std.proofs.Common.{◌≡◌, ◌∙◌, ◌↔◌, ℕ, zero, suc, ◌+◌, ◌<◌, Bool, true, false, List, []}
use Rattle.std.proofs.Common.{◌∷◌, ◌++◌, length, take, Some, slice_get, refl, sym, ap, subst, inl}
use Rattle.std.proofs.Common.{inr, arith, append_assoc, if◌then◌else◌}
use Rattle.pg_sessions.proofs.Common.{AllPairs, Contains, cases_Bool, false≢true, append-nil}
use Rattle.pg_sessions.proofs.Common.{Contains-append_cases, Contains-append_left}
use Rattle.pg_sessions.proofs.Common.{Contains-append_right, none-some, after, played, value, Game}
use Rattle.pg_sessions.proofs.Common.{Position}
use Rattle.lru.proofs.Splits.{Contains-cons, Contains-head, Contains-nil}
use Rattle.pg_poly.proofs.Lists.{pairs_cons}
use Rattle.pg_sessions.specs.Losses.{Loss, IsLoss, is_worse, loses_value, loss_at, losses}
use Rattle.pg_sessions.specs.Losses.{losses_from}

-- ---- one member at most

once : (b : Bool) (r l : Loss) → Contains (if b then r ∷ [] else []) l → (b ≡ true) × (r ≡ l)
once false r l has = absurd (Contains-nil l has)
once true r l has = elim (Contains-cons r [] l has) as (λ _. (true ≡ true) × (r ≡ l)) [
  | inl same ↦ (refl, same)
  | inr none ↦ absurd (Contains-nil l none)
]

there : (b : Bool) (r : Loss) → b ≡ true → Contains (if b then r ∷ [] else []) r
there false r h = absurd (false≢true h)
there true r h = Contains-head r []

module _ (g : Game) where
  -- the loss of the move of that number, if it is one
  abbrev loss_of : Position → ℕ → ℕ → Loss
  loss_of p n v = record {
    number = n;
    point = v;
    before = value g p;
    after = value g (after g p v);
  }

  -- a loss of moves that begin with the number n
  record IsLossFrom (p : Position) (n : ℕ) (moves : List ℕ) (l : Loss) : Type 0 where
    place : ℕ
    number : l.number ≡ n + place
    move : slice_get moves place ≡ Some l.point
    before : value g (played g p (take place moves)) ≡ l.before
    after : value g (played g p (take (suc place) moves)) ≡ l.after
    worse : is_worse (played g p (take place moves)).turn l.before l.after ≡ true

  first : (p : Position) (n v : ℕ) (others : List ℕ) (l : Loss)
      → Contains (loss_at g p n v) l
      → IsLossFrom p n (v ∷ others) l
  first p n v others l has =
      let is = once (loses_value g p v) (loss_of p n v) l has in
      subst (λ (k : Loss). IsLossFrom p n (v ∷ others) k) is.1 (record {
        place = 0;
        number = omega arith;
        move = refl;
        before = refl;
        after = refl;
        worse = is.0;
      })

  later : (p : Position) (n v : ℕ) (others : List ℕ) (l : Loss)
      → IsLossFrom (after g p v) (n + 1) others l
      → IsLossFrom p n (v ∷ others) l
  later p n v others l is = record {
    place = suc is.place;
    number = let number = is.number in omega (arith, number);
    move = is.move;
    before = is.before;
    after = is.after;
    worse = is.worse;
  }

  told : (p : Position) (n : ℕ) (moves : List ℕ) (l : Loss)
      → Contains (losses_from g p n moves) l
      → IsLossFrom p n moves l
  told p n [] l has = absurd (Contains-nil l has)
  told p n (v ∷ others) l has = elim (Contains-append_cases (loss_at g p n v)
      (losses_from g (after g p v) (n + 1) others) l has) as (λ _. IsLossFrom p n (v ∷ others) l) [
        | inl here ↦ first p n v others l here
        | inr rest ↦ later p n v others l (told (after g p v) (n + 1) others l rest)
      ]

  has : (p : Position) (n : ℕ) (moves : List ℕ) (l : Loss) (place : ℕ)
      → l.number ≡ n + place
      → slice_get moves place ≡ Some l.point
      → value g (played g p (take place moves)) ≡ l.before
      → value g (played g p (take (suc place) moves)) ≡ l.after
      → is_worse (played g p (take place moves)).turn l.before l.after ≡ true
      → Contains (losses_from g p n moves) l
  has p n [] l place number move before now worse = absurd (none-some l.point move)
  has p n (v ∷ others) l zero number move before now worse =
      let numbered : n ≡ l.number = omega (arith, number) in
      let point : v ≡ l.point = cc in
      let r : Loss = record {
        number = l.number;
        point = l.point;
        before = l.before;
        after = l.after;
      } in
      let same : loss_of p n v ≡ r = cc in
      let lost : loses_value g p v ≡ true = cc in
      Contains-append_left (loss_at g p n v) (losses_from g (after g p v) (n + 1) others) l
      (subst (λ (k : Loss). Contains (loss_at g p n v) k) same
      (there (loses_value g p v) (loss_of p n v) lost))
  has p n (v ∷ others) l (suc place) number move before now worse =
      Contains-append_right (loss_at g p n v) (losses_from g (after g p v) (n + 1) others) l
      (has (after g p v) (n + 1) others l place (omega (arith, number)) move before now worse)

  ordered_from : (p : Position) (n : ℕ) (moves : List ℕ)
      → AllPairs (λ (one other : Loss). one.number < other.number) (losses_from g p n moves)
  ordered_from p n [] = λ i j d low high. absurd (omega arith)
  ordered_from p n (v ∷ others) = elim (cases_Bool (loses_value g p v)) as (λ _.
      AllPairs (λ (one other : Loss). one.number < other.number) (losses_from g p n (v ∷ others))) [
        | inl lost ↦ rw lost
            (pairs_cons (λ (one other : Loss). one.number < other.number) (loss_of p n v)
            (losses_from g (after g p v) (n + 1) others) (λ y in_rest.
            let is = told (after g p v) (n + 1) others y in_rest in
            let number = is.number in omega (arith, number))
            (ordered_from (after g p v) (n + 1) others))
        | inr kept ↦ rw kept (ordered_from (after g p v) (n + 1) others)
      ]

  append_from : (p : Position) (n : ℕ) (moves others : List ℕ)
      → losses_from g p n (moves ++ others)
      ≡ losses_from g p n moves ++ losses_from g (played g p moves) (n + length moves) others
  append_from p n [] others =
      ap (λ (k : ℕ). losses_from g p k others) (let same : n ≡ n + 0 = omega arith in same)
  append_from p n (u ∷ moves) others = ap (λ (ls : List Loss). loss_at g p n u ++ ls)
      (append_from (after g p u) (n + 1) moves others
      ∙ ap (λ (k : ℕ). losses_from g (after g p u) (n + 1) moves
      ++ losses_from g (played g (after g p u) moves) k others)
      (let same : n + 1 + length moves ≡ n + length (u ∷ moves) = omega arith in same))
      ∙ sym (append_assoc (loss_at g p n u) (losses_from g (after g p u) (n + 1) moves)
      (losses_from g (played g p (u ∷ moves)) (n + length (u ∷ moves)) others))

  pub told_each : (p : Position) (moves : List ℕ) (l : Loss)
      → Contains (losses g p moves) l ↔ IsLoss g p moves l
  unfolding losses
  told_each p moves l = (
    λ listed.
        let is = told p 0 moves l listed in
        let same : is.place ≡ l.number = (let number = is.number in omega (arith, number)) in
        record {
          move = subst (λ (k : ℕ). slice_get moves k ≡ Some l.point) same is.move;
          before = subst (λ (k : ℕ). value g (played g p (take k moves)) ≡ l.before) same is.before;
          after = subst (λ (k : ℕ). value g (played g p (take k moves)) ≡ l.after)
              (let next : suc is.place ≡ l.number + 1 = omega (arith, same) in next) is.after;
          worse =
              subst (λ (k : ℕ). is_worse (played g p (take k moves)).turn l.before l.after ≡ true)
              same is.worse;
        },
    λ is. has p 0 moves l l.number (omega arith) is.move is.before
        (subst (λ (k : ℕ). value g (played g p (take k moves)) ≡ l.after)
        (let next : l.number + 1 ≡ suc l.number = omega arith in next) is.after) is.worse,
  )

  pub told_ordered : (p : Position) (moves : List ℕ)
      → AllPairs (λ (one other : Loss). one.number < other.number) (losses g p moves)
  unfolding losses
  told_ordered p moves = ordered_from p 0 moves

  -- the first losses are those of the first moves
  pub told_append : (p : Position) (moves others : List ℕ)
      → losses g p (moves ++ others)
      ≡ losses g p moves ++ losses_from g (played g p moves) (0 + length moves) others
  unfolding losses
  told_append p moves others = append_from p 0 moves others

  pub told_more : (p : Position) (moves : List ℕ) (v : ℕ)
      → losses g p (moves ++ v ∷ [])
      ≡ losses g p moves ++ loss_at g (played g p moves) (length moves) v
  told_more p moves v = told_append p moves (v ∷ [])
      ∙ ap (λ (ls : List Loss). losses g p moves ++ ls)
      (append-nil (loss_at g (played g p moves) (0 + length moves) v)
      ∙ ap (λ (k : ℕ). loss_at g (played g p moves) k v)
      (let same : 0 + length moves ≡ length moves = omega arith in same))
