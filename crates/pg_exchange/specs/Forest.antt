-- Spanning forests: bases of the edges that two sets leave, over the edges of the first.
use Rattle.std.specs.Prelude.{◌≡◌, ℕ, Bool, true, false, not, ◌&&◌, ◌||◌, ◌==◌}
use Rattle.pg_exchange.specs.Prelude.{either, below, minus, outside, IsWithin, Graph, edge_count}
use Rattle.pg_exchange.specs.Prelude.{spans_in}
use Rattle.pg_exchange.specs.Matroid.{Matroid}

-- what elements span together with the edges of x: the edges whose ends they join
abbrev pub graph_matroid : Graph → (ℕ → Bool) → (ℕ → Bool) → Matroid
graph_matroid g x elements =
    record { elements = elements; spans = λ a f. spans_in g (either x a) f }

-- the edges in neither set, and e where it is wanted
unfoldable pub elements_of : Graph → (ℕ → Bool) → (ℕ → Bool) → Bool → ℕ → Bool
elements_of g x y with_e k =
    below (λ f. not (either x y f)) (edge_count g) k || (with_e && (edge_count g == k))

-- the members that aren't avoided span every element that isn't: an avoided one is a member only
-- where it has to be
abbrev pub IsApart : Matroid → (ℕ → Bool) → (ℕ → Bool) → Type 0
IsApart m base avoided =
    (f : ℕ) → m.elements f ≡ true → avoided f ≡ false → m.spans (outside base avoided) f ≡ true

-- no member is spanned by the others
abbrev pub IsFree : ((ℕ → Bool) → ℕ → Bool) → (ℕ → Bool) → Type 0
IsFree spans set = (f : ℕ) → set f ≡ true → spans (minus set f) f ≡ false

-- a free set that holds the base and otherwise candidates, each of which it spans
pub record IsGrown (spans : (ℕ → Bool) → ℕ → Bool) (base candidates set : ℕ → Bool) : Type 0 where
  pub holds : IsWithin base set
  pub within : IsWithin set (either base candidates)
  pub free : IsFree spans set
  pub spanning : (f : ℕ) → candidates f ≡ true → spans set f ≡ true
