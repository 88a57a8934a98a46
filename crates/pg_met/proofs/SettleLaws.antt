-- What is closed under the rules of settling has all that is settled, and a longer list settles
-- more.
use Rattle.std.proofs.Common.{◌≡◌, ℕ, zero, suc, get_or, ◌<◌, ◌≤◌, Bool, true, Option, Some, None}
use Rattle.std.proofs.Common.{List, [], ◌∷◌, map, length, refl, sym, ap, ◌∙◌, subst, inl, inr, ◌⊎◌}
use Rattle.std.proofs.Common.{arith}
use Rattle.pg_met.proofs.Common.{cases_Bool, Contains, Position, Game, Score, free_points, after}
use Rattle.pg_met.proofs.Common.{length-free_points-after, Contains-head, Contains-tail, free_point}
use Rattle.pg_met.proofs.Common.{decided, by_moves, is_listed, settled, undecided-going}
use Rattle.pg_met.proofs.Common.{in_free_points, settle-decided, settle-listed, settle-unlisted}
use Rattle.pg_met.proofs.Common.{some≢none}
use Rattle.pg_met.proofs.ByMoves.{by_moves-more}

-- ---- answers that are closed under the rules have all that is settled

-- Items with positions and answers: what a criterion decides is answered, and a listed item has the
-- places of its moves and the answer that they give.
pub record Closed (g : Game) (t : Score) (table : List Position) (X : Type 0) (Met : X → Type 0)
    (position : X → Position) (answer : X → Option Bool) (moves : X → List (ℕ × X)) : Type 0 where
  pub decisions : (x : X)
      → Met x
      → (b : Bool) → decided g t (position x) ≡ Some b
      → answer x ≡ Some b
  pub points : (x : X)
      → Met x
      → decided g t (position x) ≡ None
      → is_listed table (position x) ≡ true
      → map (λ r. r.0) (moves x) ≡ free_points g (position x)
  pub leads : (x : X)
      → Met x
      → decided g t (position x) ≡ None
      → is_listed table (position x) ≡ true
      → (r : ℕ × X) → Contains (moves x) r
      → Met r.1 × (position r.1 ≡ after g (position x) r.0)
  pub known : (x : X)
      → Met x
      → decided g t (position x) ≡ None
      → is_listed table (position x) ≡ true
      → (b : Bool) → by_moves (position x).turn (map (λ r. answer r.1) (moves x)) ≡ Some b
      → answer x ≡ Some b

map-map : {X Y Z : Type 0} (f : Y → Z) (h : X → Y) (xs : List X)
    → map f (map h xs) ≡ map (λ x. f (h x)) xs
map-map f h [] = refl
map-map f h (x ∷ xs) = ap (λ ys. f (h x) ∷ ys) (map-map f h xs)

pub option_cases : (o : Option Bool) → ((b : Bool) × (o ≡ Some b)) ⊎ (o ≡ None)
option_cases None = inr refl
option_cases (Some b) = inl (b, refl)

pub Contains-map : {X Y : Type 0} (f : X → Y) (xs : List X) (x : X)
    → Contains xs x
    → Contains (map f xs) (f x)
Contains-map {X = X} f xs x c = at xs c.0 c.1 c.2
  where
    at : (ys : List X) (k : ℕ) → k < length ys → get_or ys k x ≡ x → Contains (map f ys) (f x)
    at [] k h e = absurd (omega arith)
    at (y ∷ ys) zero h e =
        subst (λ z. Contains (f y ∷ map f ys) (f z)) e (Contains-head (f y) (map f ys))
    at (y ∷ ys) (suc k) h e = Contains-tail (f y) (f x) (map f ys) (at ys k (omega arith) e)

module _ {X : Type 0} {Met : X → Type 0} {position : X → Position} {answer : X → Option Bool}
    {moves : X → List (ℕ × X)} (g : Game) (t : Score) (table : List Position)
    (closed : Closed g t table X Met position answer moves) where
  listed-within : (n : ℕ) (x : X)
      → Met x
      → length (free_points g (position x)) ≤ suc n
      → decided g t (position x) ≡ None
      → is_listed table (position x) ≡ true
      → ((y : X) → Met y
      → length (free_points g (position y)) ≤ n
      → (b : Bool) → settled g t table (position y) ≡ Some b
      → answer y ≡ Some b)
      → (b : Bool) → settled g t table (position x) ≡ Some b
      → answer x ≡ Some b
  listed-within n x met few un listed below b so =
      let p = position x in
      let by : by_moves p.turn (map (λ v. settled g t table (after g p v)) (free_points g p))
      ≡ Some b = sym (settle-listed g t table p un listed) ∙ so in
      let over_moves : by_moves p.turn (map (λ r. settled g t table (after g p r.0)) (moves x))
      ≡ Some b = ap (by_moves p.turn)
      (sym (map-map (λ v. settled g t table (after g p v)) (λ r. r.0) (moves x))
      ∙ ap (map (λ v. settled g t table (after g p v))) (closed.points x met un listed))
      ∙ by in
      closed.known x met un listed b
      (by_moves-more (λ r. settled g t table (after g p r.0)) (λ r. answer r.1) p.turn (moves x) b
      (λ r c a is.
      let to = closed.leads x met un listed r c in
      let member : Contains (free_points g p) r.0 = subst (λ vs. Contains vs r.0)
      (closed.points x met un listed) (Contains-map (λ (s : ℕ × X). s.0) (moves x) r c) in
      let inside = in_free_points g p r.0 member in
      let one = length-free_points-after g p r.0 inside.0 inside.1 in
      let fewer : length (free_points g (position r.1)) ≤ n = rw to.1 (omega arith) in
      below r.1 to.0 fewer a (ap (settled g t table) to.1 ∙ is)) over_moves)

  by_decision : (x : X)
      → Met x
      → (a b : Bool) → decided g t (position x) ≡ Some a
      → settled g t table (position x) ≡ Some b
      → answer x ≡ Some b
  by_decision x met a b is so =
      closed.decisions x met a is ∙ sym (settle-decided g t table (position x) a is) ∙ so

  answered-within : (n : ℕ) (x : X)
      → Met x
      → length (free_points g (position x)) ≤ n
      → (b : Bool) → settled g t table (position x) ≡ Some b
      → answer x ≡ Some b
  answered-within zero x met few b so = elim (option_cases (decided g t (position x))) [
    | inl on ↦ by_decision x met on.0 b on.1 so
    | inr un ↦
        let some = free_point g (position x) (undecided-going g t (position x) un) in
        let fewer = length-free_points-after g (position x) some.0 some.1 some.2 in
        absurd (omega arith)
  ]
  answered-within (suc n) x met few b so = elim (option_cases (decided g t (position x))) [
    | inl on ↦ by_decision x met on.0 b on.1 so
    | inr un ↦ elim (cases_Bool (is_listed table (position x))) [
      | inl listed ↦ listed-within n x met few un listed (answered-within n) b so
      | inr off ↦ absurd (some≢none (sym so ∙ settle-unlisted g t table (position x) un off))
    ]
  ]

  -- what is settled is answered
  pub answered : (x : X)
      → Met x
      → (b : Bool) → settled g t table (position x) ≡ Some b
      → answer x ≡ Some b
  answered x met b so =
      answered-within (length (free_points g (position x))) x met (omega arith) b so

  -- so what isn't answered isn't settled
  pub unanswered : (x : X) → Met x → answer x ≡ None → settled g t table (position x) ≡ None
  unanswered x met none = elim (option_cases (settled g t table (position x))) [
    | inl on ↦ absurd (some≢none (sym (answered x met on.0 on.1) ∙ none))
    | inr off ↦ off
  ]

-- ---- a longer list settles more

nexts : Game → Position → List (ℕ × Position)
nexts g q = map (λ v. (v, after g q v)) (free_points g q)

map-same : {X : Type 0} (xs : List X) → map (λ x. x) xs ≡ xs
map-same [] = refl
map-same (x ∷ xs) = ap (λ ys. x ∷ ys) (map-same xs)
