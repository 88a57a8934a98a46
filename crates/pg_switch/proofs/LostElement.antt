-- Two sets that stand for a side: an element of one is lost, a free one is claimed, and both stand
-- again. Trees, cuts, and sets of edges that join every two vertices are such sets.
use Rattle.std.proofs.Common.{◌≡◌, ◌≢◌, ◌⊎◌, ℕ, ◌<◌, ◌≤◌, suc, Bool, true, false, inl, inr, sym, ap}
use Rattle.std.proofs.Common.{◌∙◌, subst, subst₂, arith}
use Rattle.std.specs.Prelude.{if◌then◌else◌}
use Rattle.pg_switch.proofs.Common.{cases_Bool, both_ways, and_from, false_from_ne_true}
use Rattle.pg_switch.proofs.Common.{not_from_false, ne_eqb, FinSet, contains, remove, nat_cmp, plus}
use Rattle.pg_switch.proofs.Common.{minus, Side, X, Y, other, same_sets, contains-remove_minus}
use Rattle.pg_switch.proofs.Common.{minus_parts, minus_from, IsSpan, IsTrees, IsCuts, IsTrees-other}
use Rattle.pg_switch.proofs.Common.{IsTrees-claimed, Position, is_free, Rules, moved, is_free-moved}
use Rattle.pg_switch.proofs.Common.{side≢other}
use Rattle.pg_graph.proofs.Cuts.{IsCuts-other, IsCuts-claimed}
use Rattle.pg_switch.specs.Claims.{kept, AreFree, AreFreeOrE}
use Rattle.pg_switch.proofs.ClaimLaws.{x-plus, x-same, kept-same, kept-minus}

-- a number that isn't a member takes nothing away
minus_absent : (a : ℕ → Bool) (x : ℕ) → a x ≡ false → minus a x ≡ a
minus_absent a x out = same_sets (minus a x) a (λ z k. (minus_parts a x z k).0)
    (λ z k. minus_from a x z k (λ e. both_ways _ out (subst (λ (w : ℕ). a w ≡ true) (sym e) k)))

absent : (a : ℕ → Bool) (x y : ℕ) → a y ≡ false → minus a x y ≡ false
absent a x y out = false_from_ne_true _ (λ k. both_ways _ out (minus_parts a x y k).0)

-- both x and y taken away
pub remove-both : (s : FinSet nat_cmp) (x y : ℕ)
    → contains (remove (remove s x) y) ≡ minus (minus (contains s) x) y
remove-both s x y = contains-remove_minus (remove s x) y
    ∙ ap (λ (a : ℕ → Bool). minus a y) (contains-remove_minus s x)

-- ---- what is left of two sets of free elements, numbers below n, when x was lost

abbrev pub IsFreeBelow : ℕ → Position → ℕ → Type 0
IsFreeBelow n p f = (f < n) × (is_free p f ≡ true)

pub record AreLeft (n : ℕ) (p : Position) (a1 a2 : FinSet nat_cmp) (x : ℕ) : Type 0 where
  pub first : (f : ℕ) → contains a1 f ≡ true → f ≢ x → IsFreeBelow n p f
  pub second : (f : ℕ) → contains a2 f ≡ true → f ≢ x → IsFreeBelow n p f
  pub bound : x ≤ n

pub left-other : (n : ℕ) (p : Position) (a1 a2 : FinSet nat_cmp) (x : ℕ)
    → AreLeft n p a1 a2 x
    → AreLeft n p a2 a1 x
left-other n p a1 a2 x l = record { first = l.second; second = l.first; bound = l.bound }

-- other elements stay free
pub stays_free : (r : Rules) (n : ℕ) (p : Position) (v f : ℕ)
    → IsFreeBelow n p f
    → v ≢ f
    → IsFreeBelow n (moved r p v) f
stays_free r n p v f i ne = (
  i.0,
  is_free-moved r p v f
      ∙ and_from _ _ (not_from_false _ (ne_eqb f v (λ e. ne (sym e)))) i.1,
)

-- what is left of a set is free after the claim
pub left-free : (r : Rules) (n : ℕ) (p : Position) (a : FinSet nat_cmp) (x y : ℕ)
    → ((f : ℕ) → contains a f ≡ true → f ≢ x → IsFreeBelow n p f)
    → (f : ℕ) → contains (remove (remove a x) y) f ≡ true
    → IsFreeBelow n (moved r p y) f
left-free r n p a x y free f k =
    let q = minus_parts (minus (contains a) x) y f
    (subst (λ (s : ℕ → Bool). s f ≡ true) (remove-both a x y) k) in
    let o = minus_parts (contains a) x f q.0 in
    stays_free r n p y f (free f o.0 (λ e. o.1 (sym e))) q.1

-- ---- sets that stand over some elements

-- either may be named first, and a claimed element, which changes what they stand over, leaves both
pub record IsStanding (n : ℕ) (grown : (ℕ → Bool) → ℕ → ℕ → Bool)
    (Stand : (ℕ → Bool) → (ℕ → Bool) → (ℕ → Bool) → Type 0) : Type 0 where
  pub apart : (s a1 a2 : ℕ → Bool) → Stand s a1 a2 → (f : ℕ) → a1 f ≡ true → a2 f ≡ false
  pub other : (s a1 a2 : ℕ → Bool) → Stand s a1 a2 → Stand s a2 a1
  pub claimed : (s a1 a2 : ℕ → Bool) (z : ℕ)
      → z < n
      → Stand s a1 a2
      → Stand (grown s z) (minus a1 z) (minus a2 z)

module _ (n : ℕ) (grown : (ℕ → Bool) → ℕ → ℕ → Bool)
    (Stand : (ℕ → Bool) → (ℕ → Bool) → (ℕ → Bool) → Type 0) (p : Position) (s : ℕ → Bool)
    (x : ℕ) where
  -- the element is free, and the sets stand again once it is claimed
  pub record IsAnswer (a1 a2 : FinSet nat_cmp) (y : ℕ) : Type 0 where
    pub free : IsFreeBelow n p y
    pub stand : Stand (grown s y) (minus (minus (contains a1) x) y)
        (minus (minus (contains a2) x) y)

  -- where x was in the one set: a member of the other that makes good for it, or any free element
  -- where the one needs no x
  abbrev pub IsReply : FinSet nat_cmp → FinSet nat_cmp → ℕ → Type 0
  IsReply one another y = ((contains another y ≡ true)
      × Stand (grown s y) (minus (contains one) x) (minus (contains another) y))
      ⊎ (IsFreeBelow n p y × Stand s (minus (contains one) x) (contains another))

  module _ (law : IsStanding n grown Stand) where
    in-first : (a1 a2 : FinSet nat_cmp) (y : ℕ)
        → Stand s (contains a1) (contains a2)
        → AreLeft n p a1 a2 x
        → contains a1 x ≡ true
        → IsReply a1 a2 y
        → IsAnswer a1 a2 y
    in-first a1 a2 y d left ax reply =
        let not2 : contains a2 x ≡ false = law.apart s (contains a1) (contains a2) d x ax in
        let whole2 = minus_absent (contains a2) x not2 in
        elim reply [
          | inl found ↦
              let not1 : contains a1 y ≡ false = false_from_ne_true _
              (λ k. both_ways _ (law.apart s (contains a1) (contains a2) d y k) found.0) in
              record {
                free = left.second y found.0
                    (λ e. both_ways _ not2 (subst (λ (w : ℕ). contains a2 w ≡ true) e found.0));
                stand = subst₂ (λ (a b : ℕ → Bool). Stand (grown s y) a (minus b y))
                    (sym (minus_absent (minus (contains a1) x) y (absent (contains a1) x y not1)))
                    (sym whole2) found.1;
              }
          | inr dropped ↦ record {
            free = dropped.0;
            stand = subst
                (λ (b : ℕ → Bool). Stand (grown s y) (minus (minus (contains a1) x) y) (minus b y))
                (sym whole2)
                (law.claimed s (minus (contains a1) x) (contains a2) y dropped.0.0 dropped.1);
          }
        ]

    in-neither : (a1 a2 : FinSet nat_cmp) (y : ℕ)
        → Stand s (contains a1) (contains a2)
        → contains a1 x ≡ false
        → contains a2 x ≡ false
        → IsFreeBelow n p y
        → IsAnswer a1 a2 y
    in-neither a1 a2 y d not1 not2 free = record {
      free = free;
      stand = subst₂ (λ (a b : ℕ → Bool). Stand (grown s y) (minus a y) (minus b y))
          (sym (minus_absent (contains a1) x not1)) (sym (minus_absent (contains a2) x not2))
          (law.claimed s (contains a1) (contains a2) y free.0 d);
    }

    answer-other : (a1 a2 : FinSet nat_cmp) (y : ℕ) → IsAnswer a2 a1 y → IsAnswer a1 a2 y
    answer-other a1 a2 y t = record {
      free = t.free;
      stand = law.other (grown s y) (minus (minus (contains a2) x) y)
          (minus (minus (contains a1) x) y) t.stand;
    }

    -- by replies for either set, and a free element for neither, the answer keeps the sets
    pub answer-kept : (reply : FinSet nat_cmp → FinSet nat_cmp → ℕ) (low : ℕ)
        (a1 a2 : FinSet nat_cmp)
        → ((one another : FinSet nat_cmp)
        → Stand s (contains one) (contains another)
        → AreLeft n p one another x
        → contains one x ≡ true
        → IsReply one another (reply one another))
        → IsFreeBelow n p low
        → Stand s (contains a1) (contains a2)
        → AreLeft n p a1 a2 x
        → IsAnswer a1 a2 (if contains a1 x
        then reply a1 a2
        else (if contains a2 x then reply a2 a1 else low))
    answer-kept reply low a1 a2 replies free d left = elim (cases_Bool (contains a1 x)) [
      | inl i ↦ rw i (in-first a1 a2 (reply a1 a2) d left i (replies a1 a2 d left i))
      | inr o ↦ elim (cases_Bool (contains a2 x)) [
        | inl i ↦
            let e = law.other s (contains a1) (contains a2) d in
            let l = left-other n p a1 a2 x left in
            rw (o, i)
            (answer-other a1 a2 (reply a2 a1)
            (in-first a2 a1 (reply a2 a1) e l i (replies a2 a1 e l i)))
        | inr o2 ↦ rw (o, o2) (in-neither a1 a2 low d o o2 free)
      ]
    ]

-- ---- a side's sets by what elements span: X's trees over its elements, and Y's cuts over what
-- isn't Y's, with e

abbrev pub held_by : ℕ → Side → Position → ℕ → Bool
held_by n X p = contains p.x
held_by n Y p = kept (suc n) p

abbrev pub grown_by : Side → (ℕ → Bool) → ℕ → ℕ → Bool
grown_by X s z = plus s z
grown_by Y s z = minus s z

abbrev pub StandBy : ((ℕ → Bool) → ℕ → Bool)
    → ℕ
    → Side
    → (ℕ → Bool)
    → (ℕ → Bool)
    → (ℕ → Bool)
    → Type 0
StandBy spans n X s a1 a2 = IsTrees spans n s a1 a2
StandBy spans n Y s a1 a2 = IsCuts spans n s a1 a2

pub IsStanding-by : (spans : (ℕ → Bool) → ℕ → Bool)
    → IsSpan spans
    → (n : ℕ) (side : Side) → IsStanding n (grown_by side) (StandBy spans n side)
IsStanding-by spans law n X = record {
  apart = λ s a1 a2 t. t.apart;
  other = λ s a1 a2 t. IsTrees-other spans n s a1 a2 t;
  claimed = λ s a1 a2 z low t. IsTrees-claimed spans law n s a1 a2 z t;
}
IsStanding-by spans law n Y = record {
  apart = λ s a1 a2 t. t.apart;
  other = λ s a1 a2 t. IsCuts-other spans n s a1 a2 t;
  claimed = λ s a1 a2 z low t. IsCuts-claimed spans law n s a1 a2 z t
      (λ e. absurd (omega (arith, low, e)));
}

held-same : (r : Rules) (n : ℕ) (side : Side) (q : Position) (v : ℕ)
    → q.turn ≡ other side
    → held_by n side (moved r q v) ≡ held_by n side q
held-same r n X q v yours = x-same n (λ _. true) q v yours
held-same r n Y q v yours = kept-same n (λ _. true) (suc n) q v yours

held-grown : (r : Rules) (n : ℕ) (side : Side) (p : Position) (v : ℕ)
    → p.turn ≡ side
    → held_by n side (moved r p v) ≡ grown_by side (held_by n side p) v
held-grown r n X p v mine = x-plus n (λ _. true) p v mine
held-grown r n Y p v mine = kept-minus n (λ _. true) (suc n) p v mine

-- the sets stand but for x, which was lost
pub record AreDue (spans : (ℕ → Bool) → ℕ → Bool) (n : ℕ) (side : Side) (p : Position)
    (a1 a2 : FinSet nat_cmp) (x : ℕ) : Type 0 where
  pub sets : StandBy spans n side (held_by n side p) (contains a1) (contains a2)
  pub left : AreLeft n p a1 a2 x

module _ (spans : (ℕ → Bool) → ℕ → Bool) (n : ℕ) (r : Rules) (side : Side) where
  -- no reply came, and e is answered
  pub due-now : (p : Position) (a1 a2 : FinSet nat_cmp)
      → AreFreeOrE n p side a1
      → AreFree n p a2
      → StandBy spans n side (held_by n side p) (contains a1) (contains a2)
      → AreDue spans n side p a1 a2 n
  due-now p a1 a2 free1 free2 t = record {
    sets = t;
    left = record {
      first = λ f k ne. elim (free1 f k) [ inl i ↦ i | inr e ↦ absurd (ne e.0) ];
      second = λ f k ne. free2 f k;
      bound = omega arith;
    };
  }

  -- the other side has just taken x
  pub due-after : (q : Position) (a1 a2 : FinSet nat_cmp) (x : ℕ)
      → q.turn ≡ other side
      → x < n
      → AreFreeOrE n q side a1
      → AreFree n q a2
      → StandBy spans n side (held_by n side q) (contains a1) (contains a2)
      → AreDue spans n side (moved r q x) a1 a2 x
  due-after q a1 a2 x yours low free1 free2 t = record {
    sets = subst (λ (s : ℕ → Bool). StandBy spans n side s (contains a1) (contains a2))
        (sym (held-same r n side q x yours)) t;
    left = record {
      first = λ f k ne. elim (free1 f k) [
        | inl i ↦ stays_free r n q x f i (λ e. ne (sym e))
        | inr e ↦ absurd (side≢other side (sym e.1 ∙ yours))
      ];
      second = λ f k ne. stays_free r n q x f (free2 f k) (λ e. ne (sym e));
      bound = omega arith;
    };
  }

  -- once y is claimed the sets without x and y stand
  pub stand-next : (p : Position) (a1 a2 : FinSet nat_cmp) (x y : ℕ)
      → p.turn ≡ side
      → IsAnswer n (grown_by side) (StandBy spans n side) p (held_by n side p) x a1 a2 y
      → StandBy spans n side (held_by n side (moved r p y)) (contains (remove (remove a1 x) y))
      (contains (remove (remove a2 x) y))
  stand-next p a1 a2 x y mine t = subst (λ (q : ℕ → Bool).
      StandBy spans n side q (contains (remove (remove a1 x) y))
      (contains (remove (remove a2 x) y))) (sym (held-grown r n side p y mine))
      (subst₂ (λ (a b : ℕ → Bool). StandBy spans n side (grown_by side (held_by n side p) y) a b)
      (sym (remove-both a1 x y)) (sym (remove-both a2 x y)) t.stand)
