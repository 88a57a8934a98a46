-- How answers spread in the table.
use Rattle.std.proofs.Common.{◌≡◌, ℕ, ◌<◌, ◌≤◌, Option, Some, None, List, [], ◌∷◌, ◌++◌, length}
use Rattle.std.proofs.Common.{refl, sym, subst, slice_get}
use Rattle.pg_pns.proofs.Common.{Position, Game, Score, at_contains, at_new}
use Rattle.pg_met.specs.declared.known.Answered.{Answered}
use Rattle.pg_met.specs.declared.table.Table.{Table}
use Rattle.pg_pns.specs.Search.{IsSearch}
use Rattle.pg_met.specs.Settles.{IsSettledAt, IsLeftOpen}
use Rattle.pg_met.specs.Table.{Agree, Grow}
use Rattle.pg_pns.proofs.Searching.{settled-search}
use Rattle.pg_met.proofs.Showing.{shown-set, shown-open}
use Rattle.pg_pns.proofs.Spreading.{agree-open, agree-settled, grow-settled}

-- a place that is due is one of the table
pub due-in : (g : Game) (t : Score) (list : List Position) (due : List ℕ) (place : ℕ) (s : Table)
    → IsSearch g t (due ++ place ∷ []) list s
    → place < length s.positions.items
due-in g t list due place s is = is.tree.agree.range place
    (at_contains (due ++ place ∷ []) (length due) place (at_new due place))

-- the place is no longer due
pub spread-none : (g : Game) (t : Score) (list : List Position) (due : List ℕ) (place : ℕ)
    (s : Table)
    → Agree s.positions.items s.moves.items s.answers.items due
    → IsSearch g t (due ++ place ∷ []) list s
    → IsSearch g t due list s
spread-none g t list due place s agree is = settled-search g t list
    (due ++ place ∷ []) due s s is refl refl refl agree is.tree.shown (λ i b at. at)

module _ (old new : Table) (due : List ℕ) (place : ℕ) (q : Position) (ns : List (ℕ × ℕ))
    (pos : slice_get old.positions.items place ≡ Some q)
    (mov : slice_get old.moves.items place ≡ Some ns)
    (eq : new.positions.items ≡ old.positions.items) (em : new.moves.items ≡ old.moves.items)
    (eu : new.parents.items ≡ old.parents.items) (g : Game) (t : Score)
    (list : List Position) (is : IsSearch g t (due ++ place ∷ []) list old) where
  -- nothing is known from its moves
  pub spread-open : IsLeftOpen q ns old.answers.items new.answers.items old.claims new.claims
      → IsSearch g t due list new
  spread-open s = settled-search g t list (due ++ place ∷ []) due old new is eq em eu
      (agree-open old.positions.items old.moves.items old.answers.items new.answers.items due place
      q ns old.claims new.claims pos mov s is.tree.agree)
      (shown-open g t old.positions.items old.answers.items new.answers.items old.claims new.claims
      q ns is.tree.shown s)
      (subst (λ (os : List (Option Answered)). Grow old.answers.items os) (sym s.answers)
      (λ i b at. at))

  -- it has an answer, and the places before it are due
  pub spread-settled : (ups : List ℕ)
      → length old.positions.items ≤ 100000
      → slice_get old.answers.items place ≡ Some None
      → slice_get old.parents.items place ≡ Some ups
      → 0 < length ns
      → IsSettledAt q ns place old.answers.items new.answers.items old.claims new.claims
      → IsSearch g t (due ++ ups) list new
  spread-settled ups few open_at par some s = settled-search g t list
      (due ++ place ∷ []) (due ++ ups) old new is eq em eu
      (agree-settled g t old.positions.items old.moves.items old.parents.items old.answers.items
      new.answers.items due ups place q ns old.claims new.claims is.tree.shape is.tree.agree open_at
      pos mov par s)
      (shown-set g t old.positions.items old.moves.items old.parents.items old.answers.items
      new.answers.items old.claims new.claims place q ns is.tree.shape is.tree.shown
      is.tree.agree.count few open_at pos mov some s)
      (grow-settled old.answers.items new.answers.items place q ns old.claims new.claims open_at s)
