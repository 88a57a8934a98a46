use Rattle.std.specs.Prelude.{◌≡◌, ℕ, ◌+◌, ◌<◌, ◌≤◌, ◌==◌, Bool, true, false, not, ◌&&◌, nat_lt}
use Rattle.std.specs.Prelude.{if◌then◌else◌, List, slice_index_or, suc, ◌⊎◌}
use Rattle.pg_exchange.specs.Prelude.{MAX_MEMBERS, IsWithin, either, both, outside, count, one_if}
use Rattle.pg_exchange.specs.Prelude.{IsBase, IsReached, circuit}
use Rattle.pg_exchange.specs.Matroid.{Matroid}
use Rattle.pg_exchange.specs.declared.search.Parent.{Parent}

-- Chains of links between two bases, and what shifts along them do.

-- the base with this number, 1 or 2
abbrev pub base_of : ℕ → (ℕ → Bool) → (ℕ → Bool) → ℕ → Bool
base_of i b c = if i == 1 then b else c

-- two bases are of the matroids that they were of
pub record KeepsMatroid (m n m' n' : Matroid) : Type 0 where
  pub first : m' ≡ m
  pub second : n' ≡ n

-- two bases are as they were
pub record KeepsBases (b c b' c' : ℕ → Bool) : Type 0 where
  pub first : b' ≡ b
  pub second : c' ≡ c

-- what f links to by one base: its circuit, where it isn't a member
unfoldable pub links : Matroid → (ℕ → Bool) → ℕ → ℕ → Bool
links m b f z = not (b f) && circuit m.spans b f z

-- a chain of links leads from x to y
pub data Leads (m : Matroid) (b c : ℕ → Bool) (x : ℕ) : ℕ → Type 0 where
  here : Leads m b c x x
  along : {y : ℕ} (z : ℕ)
      → Leads m b c x y
      → either (links m b y) (links m c y) z ≡ true
      → Leads m b c x z

-- a chain leads to y from a member of the set
pub record LeadsFrom (m : Matroid) (b c from : ℕ → Bool) (y : ℕ) : Type 0 where
  pub start : ℕ
  pub starts : from start ≡ true
  pub chain : Leads m b c start y

-- a chain of so many links leads from x to y
pub data LeadsIn (m : Matroid) (b c : ℕ → Bool) (x : ℕ) : ℕ → ℕ → Type 0 where
  at_once : LeadsIn m b c x x 0
  further : {y n : ℕ} (z : ℕ)
      → LeadsIn m b c x y n
      → either (links m b y) (links m c y) z ≡ true
      → LeadsIn m b c x z (suc n)

-- a chain leads from x to y, and no chain from a member of `from` to y is shorter
pub record IsNearest (m : Matroid) (b c from : ℕ → Bool) (x y : ℕ) : Type 0 where
  pub size : ℕ
  pub chain : LeadsIn m b c x y size
  pub near : (start n : ℕ) → from start ≡ true → LeadsIn m b c start y n → size ≤ n

-- a chain leads from x to y, and no chain from a member of `from` to a member of `to` is shorter
pub record IsShortest (m : Matroid) (b c from to : ℕ → Bool) (x y : ℕ) : Type 0 where
  pub size : ℕ
  pub chain : LeadsIn m b c x y size
  pub least : (start stop n : ℕ)
      → from start ≡ true
      → to stop ≡ true
      → LeadsIn m b c start stop n
      → size ≤ n

-- a search has seen these elements, and has those left to follow
pub record IsSearch (m : Matroid) (b c from seen todo : ℕ → Bool) : Type 0 where
  pub begun : IsWithin from seen
  pub waiting : IsWithin todo seen
  pub only : IsWithin seen m.elements
  pub reached : (y : ℕ) → seen y ≡ true → LeadsFrom m b c from y
  pub followed : (f : ℕ)
      → seen f ≡ true
      → todo f ≡ false
      → IsWithin (either (links m b f) (links m c f)) seen

-- how a search came to what it has seen: up z was followed before z, and z is on a circuit of up z
-- by one of the bases; whoever links to z was followed no earlier than up z
pub record IsTree (m : Matroid) (b c from seen done : ℕ → Bool) (up : ℕ → ℕ)
    (second : ℕ → Bool) : Type 0 where
  pub order : ℕ → ℕ
  pub last : ℕ
  pub before : (f : ℕ) → done f ≡ true → order f < last
  pub parent : (z : ℕ)
      → seen z ≡ true
      → from z ≡ false
      → (done (up z) ≡ true) × (links m (if second z then c else b) (up z) z ≡ true)
  pub later : (z : ℕ) → done z ≡ true → from z ≡ false → order (up z) < order z
  pub first : (f z : ℕ)
      → done f ≡ true
      → from z ≡ false
      → either (links m b f) (links m c f) z ≡ true
      → order (up z) ≤ order f

-- the followed ones whose number is below the limit
unfoldable pub lower : (ℕ → Bool) → (ℕ → ℕ) → ℕ → ℕ → Bool
lower done order limit z = done z && nat_lt (order z) limit

-- an element at is the end of a chain from a followed element, whose links are still those of the
-- bases b and c
pub record IsShifted (m : Matroid) (b c b' c' from done : ℕ → Bool) (order up : ℕ → ℕ)
    (y at left : ℕ) : Type 0 where
  pub limit : ℕ
  pub few : count (lower done order limit) MAX_MEMBERS ≤ left
  pub below : from at ≡ false → order (up at) < limit
  pub same_first : (f : ℕ)
      → done f ≡ true
      → order f < limit
      → (z : ℕ) → links m b' f z ≡ links m b f z
  pub same_second : (f : ℕ)
      → done f ≡ true
      → order f < limit
      → (z : ℕ) → links m c' f z ≡ links m c f z
  pub members : (z : ℕ)
      → one_if (b' z) + one_if (c' z) + one_if (y == z)
      ≡ one_if (b z) + one_if (c z) + one_if (at == z)

-- what stands for how a search came to an element past the last one
abbrev pub no_parent : Parent
no_parent = record { up = 0; second = false }

-- the element from which a search came to z
abbrev pub up_of : List Parent → ℕ → ℕ
up_of parents z = (slice_index_or parents z no_parent).up

-- whether it came there by the second base
abbrev pub second_of : List Parent → ℕ → Bool
second_of parents z = (slice_index_or parents z no_parent).second

-- f, and by which base, is written at each member of the set, and the others are as they were
pub record IsNoted (fresh : ℕ → Bool) (f : ℕ) (by_second : Bool)
    (parents parents' : List Parent) : Type 0 where
  pub noted : (z : ℕ)
      → fresh z ≡ true
      → (up_of parents' z ≡ f) × (second_of parents' z ≡ by_second)
  pub others : (z : ℕ)
      → fresh z ≡ false
      → (up_of parents' z ≡ up_of parents z) × (second_of parents' z ≡ second_of parents z)

-- some search has seen y, and so many links as its depth says lead there
pub record SomeTree (m : Matroid) (b c from : ℕ → Bool) (up : ℕ → ℕ) (second : ℕ → Bool)
    (y : ℕ) : Type 0 where
  pub seen : ℕ → Bool
  pub done : ℕ → Bool
  pub known : IsWithin done seen
  pub only : IsWithin seen m.elements
  pub sees : seen y ≡ true
  pub tree : IsTree m b c from seen done up second
  pub depth : ℕ → ℕ
  pub begun : (z : ℕ) → from z ≡ true → depth z ≡ 0
  pub deeper : (z : ℕ) → seen z ≡ true → from z ≡ false → depth z ≡ suc (depth (up z))
  pub near : (start n : ℕ) → from start ≡ true → LeadsIn m b c start y n → depth y ≤ n

-- the same search, and a chain of it that has been shifted from its end y back to at
pub record SomeShift (m : Matroid) (b c b' c' from : ℕ → Bool) (up : ℕ → ℕ) (second : ℕ → Bool)
    (y at left : ℕ) : Type 0 where
  pub seen : ℕ → Bool
  pub done : ℕ → Bool
  pub known : IsWithin done seen
  pub only : IsWithin seen m.elements
  pub sees : seen at ≡ true
  pub tree : IsTree m b c from seen done up second
  pub depth : ℕ → ℕ
  pub begun : (z : ℕ) → from z ≡ true → depth z ≡ 0
  pub deeper : (z : ℕ) → seen z ≡ true → from z ≡ false → depth z ≡ suc (depth (up z))
  pub near : (start n : ℕ) → from start ≡ true → LeadsIn m b c start y n → depth y ≤ n
  pub size : ℕ
  pub chain : LeadsIn m b c at y size
  pub sum : depth at + size ≡ depth y
  pub state : IsShifted m b c b' c' from done tree.order up y at left

-- a set that holds `from`, is left by no link, and has nothing of `to`
pub record IsClosed (m : Matroid) (b c from to : ℕ → Bool) : Type 0 where
  pub seen : ℕ → Bool
  pub begun : IsWithin from seen
  pub only : IsWithin seen m.elements
  pub followed : (f : ℕ) → seen f ≡ true → IsWithin (either (links m b f) (links m c f)) seen
  pub missed : (f : ℕ) → seen f ≡ true → to f ≡ false

-- the two bases have as few common elements as any two
abbrev pub IsLeast : Matroid → (ℕ → Bool) → (ℕ → Bool) → Type 0
IsLeast m b c = (p q : ℕ → Bool) → IsBase m.spans m.elements p
    → IsBase m.spans m.elements q
    → count (both b c) MAX_MEMBERS ≤ count (both p q) MAX_MEMBERS

-- x is in one more of two bases than before, y in one fewer, and every other element in as many
abbrev pub IsMoved : (ℕ → Bool) → (ℕ → Bool) → (ℕ → Bool) → (ℕ → Bool) → ℕ → ℕ → Type 0
IsMoved b c b' c' x y = (z : ℕ) → one_if (b' z) + one_if (c' z) + one_if (y == z)
    ≡ one_if (b z) + one_if (c z) + one_if (x == z)

-- what a shift from x to y does to two bases, where a shortest chain leads from x to y
pub record IsShift (m : Matroid) (b c b' c' from to : ℕ → Bool) (x y : ℕ) : Type 0 where
  pub begins : from x ≡ true
  pub ends : to y ≡ true
  pub moved : IsMoved b c b' c' x y
  pub leads : LeadsFrom m b c from y
  pub shortest : IsShortest m b c from to x y

-- no chain leads from a member of `from` to a member of `to`, and two bases are as they were
pub record NoShift (m : Matroid) (b c b' c' from to : ℕ → Bool) : Type 0 where
  pub none : (y : ℕ) → LeadsFrom m b c from y → to y ≡ false
  pub closed : IsClosed m b c from to
  pub unchanged : KeepsBases b c b' c'

-- no chain leads from an element in neither base to one in both
abbrev pub IsSettled : Matroid → (ℕ → Bool) → (ℕ → Bool) → Type 0
IsSettled m b c =
    (y : ℕ) → LeadsFrom m b c (outside (outside m.elements b) c) y → both b c y ≡ false

-- two bases, with what is reached from the elements in neither
pub record AreBases (m : Matroid) (b c r : ℕ → Bool) : Type 0 where
  pub first_base : IsBase m.spans m.elements b
  pub second_base : IsBase m.spans m.elements c
  pub reached : IsReached m.spans m.elements b c r

-- a search goes level by level: how many links lead to what it has seen, up to those that lead to
-- the level that is being followed; whatever so few links lead to is seen; and what is in `to` was
-- seen at its first sight
pub record IsLevelled (m : Matroid) (b c from to seen level later : ℕ → Bool)
    (up : ℕ → ℕ) : Type 0 where
  pub depth : ℕ → ℕ
  pub now : ℕ
  pub begun : (z : ℕ) → from z ≡ true → depth z ≡ 0
  pub deeper : (z : ℕ) → seen z ≡ true → from z ≡ false → depth z ≡ suc (depth (up z))
  pub reached : (z : ℕ)
      → seen z ≡ true
      → (start : ℕ) × (from start ≡ true) × LeadsIn m b c start z (depth z)
  pub near : (start z n : ℕ)
      → from start ≡ true
      → LeadsIn m b c start z n
      → n ≤ now
      → (seen z ≡ true) × (depth z ≤ n)
  pub most : (z : ℕ) → seen z ≡ true → depth z ≤ suc now
  pub at_level : (z : ℕ) → level z ≡ true → depth z ≡ now
  pub at_later : (z : ℕ) → later z ≡ true → depth z ≡ suc now
  pub first : (z start stop n : ℕ)
      → seen z ≡ true
      → to z ≡ true
      → from start ≡ true
      → to stop ≡ true
      → LeadsIn m b c start stop n
      → depth z ≤ n

-- the level that is being followed and the next one: as they were, or the next one in place of a
-- level that is done
abbrev pub IsRolled : (ℕ → Bool) → (ℕ → Bool) → (ℕ → Bool) → (ℕ → Bool) → Type 0
IsRolled level later level' later' = ((level' ≡ level) × (later' ≡ later))
    ⊎ (((z : ℕ) → level z ≡ false) × (level' ≡ later) × ((z : ℕ) → later' z ≡ false))

-- f is taken from the level, once the next one came in place of a level that was done
pub record IsNext (level later level' later' : ℕ → Bool) (f : ℕ) : Type 0 where
  pub now : ℕ → Bool
  pub next : ℕ → Bool
  pub rolled : IsRolled level later now next
  pub on : now f ≡ true
  pub less : IsWithin level' now
  pub less_later : IsWithin later' next
