-- Paths along the members of a base. Edge k joins a k and b k.
use Rattle.std.specs.Prelude.{◌≡◌, ◌≢◌, ◌⊎◌, ◌<◌, ◌≤◌, ℕ, Bool, true, false, List, length}
use Rattle.std.specs.Prelude.{slice_index, slice_index_or}
use Rattle.pg_exchange.specs.Prelude.{MAX_MEMBERS, minus, IsWithin, IsBelow, Graph, IsGraph}
use Rattle.pg_exchange.specs.Prelude.{first_end_of, second_end_of, IsJoined}
use Rattle.pg_exchange.specs.declared.path.Step.{Step}

-- the label of the first end of edge k
unfoldable pub first_label : Graph → List ℕ → ℕ → ℕ
first_label g names k = slice_index names (first_end_of g k)

-- the label of the second end of edge k
unfoldable pub second_label : Graph → List ℕ → ℕ → ℕ
second_label g names k = slice_index names (second_end_of g k)

-- each vertex of a graph has a label, which is below the number of vertices
pub record IsLabelled (g : Graph) (names : List ℕ) : Type 0 where
  pub graph : IsGraph g
  pub few : g.vertices ≤ MAX_MEMBERS
  pub size : length names ≡ g.vertices
  pub range : (v : ℕ) → v < g.vertices → slice_index names v < g.vertices

-- what stands for the step of a label past the last one
abbrev pub no_step : Step
no_step = record { above = 0; via = 0; depth = 0 }

-- the label above this one
abbrev pub above_of : List Step → ℕ → ℕ
above_of steps c = (slice_index_or steps c no_step).above

-- the member that leads there
abbrev pub via_of : List Step → ℕ → ℕ
via_of steps c = (slice_index_or steps c no_step).via

-- how deep this one lies
abbrev pub depth_of : List Step → ℕ → ℕ
depth_of steps c = (slice_index_or steps c no_step).depth

-- edge k joins p and q
abbrev pub HasEnds : (ℕ → ℕ) → (ℕ → ℕ) → ℕ → ℕ → ℕ → Type 0
HasEnds a b k p q = ((a k ≡ p) × (b k ≡ q)) ⊎ ((a k ≡ q) × (b k ≡ p))

-- p and q are reached
abbrev pub IsReachedBoth : (ℕ → Bool) → ℕ → ℕ → Type 0
IsReachedBoth reached p q = (reached p ≡ true) × (reached q ≡ true)

-- a member leads from c to what was reached before it
pub record IsStep (a b : ℕ → ℕ) (base reached : ℕ → Bool) (above via order : ℕ → ℕ)
    (c : ℕ) : Type 0 where
  pub member : base (via c) ≡ true
  pub ends : HasEnds a b (via c) c (above c)
  pub onward : reached (above c) ≡ true
  pub lower : order (above c) < order c

-- from all that is reached steps lead back to the beginning
pub record IsSpread (a b : ℕ → ℕ) (base : ℕ → Bool) (from : ℕ) (reached : ℕ → Bool)
    (above via : ℕ → ℕ) : Type 0 where
  pub order : ℕ → ℕ
  pub last : ℕ
  pub begins : reached from ≡ true
  pub before : (c : ℕ) → reached c ≡ true → order c < last
  pub step : (c : ℕ) → reached c ≡ true → c ≢ from → IsStep a b base reached above via order c

-- a search goes on by some members: in every base that holds these, steps lead back to where they
-- led back before; and what is reached stays reached, and is below n
pub record SpreadsOn (a b : ℕ → ℕ) (members : ℕ → Bool) (n : ℕ) (reached : ℕ → Bool)
    (steps : List Step) (reached' : ℕ → Bool) (steps' : List Step) : Type 0 where
  pub spread : (base : ℕ → Bool)
      → (from : ℕ) → IsWithin members base
      → IsSpread a b base from reached (above_of steps) (via_of steps)
      → IsSpread a b base from reached' (above_of steps') (via_of steps')
  pub more : IsWithin reached reached'
  pub small : IsBelow reached' n

-- a sweep through the members that are left leaves out only those of which both ends are reached
-- now, and these are all of which one end was reached before
pub record IsSwept (a b : ℕ → ℕ) (left left' reached reached' : ℕ → Bool) : Type 0 where
  pub fewer : IsWithin left' left
  pub done : (k : ℕ) → left k ≡ true → left' k ≡ false → IsReachedBoth reached' (a k) (b k)
  pub across : (k : ℕ)
      → left k ≡ true
      → (reached (a k) ≡ true) ⊎ (reached (b k) ≡ true)
      → IsReachedBoth reached' (a k) (b k)

-- a search is done, and to is reached
pub record IsFound (a b : ℕ → ℕ) (base : ℕ → Bool) (from to n : ℕ)
    (above via : ℕ → ℕ) : Type 0 where
  pub reached : ℕ → Bool
  pub small : IsBelow reached n
  pub spread : IsSpread a b base from reached above via
  pub ends : reached to ≡ true

-- members that join from and to, and don't without any one of them
pub record IsPath (a b : ℕ → ℕ) (base : ℕ → Bool) (from to : ℕ) (path : ℕ → Bool) : Type 0 where
  pub within : IsWithin path base
  pub joined : IsJoined a b path from to
  pub apart : (y : ℕ) → path y ≡ true → IsJoined a b (minus path y) from to → ⊥

-- one end of each edge but y is on the side exactly where the other is, and only gone labels are
pub record IsSide (a b : ℕ → ℕ) (found gone : ℕ → Bool) (to y : ℕ) : Type 0 where
  pub side : ℕ → Bool
  pub begins : side to ≡ true
  pub only : IsWithin side gone
  pub closed : (k : ℕ) → found k ≡ true → y ≢ k → side (a k) ≡ side (b k)

-- every label
abbrev pub any : ℕ → Bool
any _ = true

-- steps were followed upwards from a beginning, past the gone labels, and the members found on the
-- way
pub record IsTrail (a b : ℕ → ℕ) (base : ℕ → Bool) (order above via : ℕ → ℕ) (begin here : ℕ)
    (found gone : ℕ → Bool) : Type 0 where
  pub later : (c : ℕ) → gone c ≡ true → order here < order c
  pub ends : (c : ℕ) → gone c ≡ true → HasEnds a b (via c) c (above c)
  pub next : (c : ℕ) → gone c ≡ true → (gone (above c) ≡ true) ⊎ (above c ≡ here)
  pub begins : (gone begin ≡ true) ⊎ (begin ≡ here)
  pub only : (k : ℕ) → found k ≡ true → (c : ℕ) × (gone c ≡ true) × (via c ≡ k)
  pub within : IsWithin found base
  pub joined : IsJoined a b found begin here
  pub sides : (y : ℕ) → found y ≡ true → IsSide a b found gone begin y

-- steps were followed back from to, in what was reached from the beginning
pub record IsTraced (a b : ℕ → ℕ) (base : ℕ → Bool) (from to n here : ℕ) (found : ℕ → Bool)
    (above via : ℕ → ℕ) : Type 0 where
  pub reached : ℕ → Bool
  pub small : IsBelow reached n
  pub spread : IsSpread a b base from reached above via
  pub gone : ℕ → Bool
  pub now : reached here ≡ true
  pub trail : IsTrail a b base spread.order above via to here found gone

-- steps were followed from both ends, each time from the deeper label, and the two ways haven't met
pub record IsClimbed (a b : ℕ → ℕ) (base : ℕ → Bool) (depth above via : ℕ → ℕ) (from to p q : ℕ)
    (found : ℕ → Bool) : Type 0 where
  pub first : ℕ → Bool
  pub second : ℕ → Bool
  pub gone_first : ℕ → Bool
  pub gone_second : ℕ → Bool
  pub one : IsTrail a b base depth above via from p first gone_first
  pub other : IsTrail a b base depth above via to q second gone_second
  pub parts : (k : ℕ) → found k ≡ true → (first k ≡ true) ⊎ (second k ≡ true)
  pub holds_first : IsWithin first found
  pub holds_second : IsWithin second found
  pub apart : (c : ℕ) → gone_first c ≡ true → gone_second c ≡ false
  pub low_first : (c : ℕ) → gone_first c ≡ true → depth q ≤ depth c
  pub low_second : (c : ℕ) → gone_second c ≡ true → depth p ≤ depth c
  pub clear_first : gone_first q ≡ false
  pub clear_second : gone_second p ≡ false
