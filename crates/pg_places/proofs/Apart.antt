-- Different cells, and different vertices of a Bridg-It board, lie at different places.
use Rattle.std.proofs.Common.{◌≡◌, ◌∙◌, ℕ, zero, suc, ◌+◌, ◌*◌, ◌-◌, ◌/◌, ◌%◌, ◌≤◌, ◌⊎◌, inl, inr}
use Rattle.std.proofs.Common.{sym, ap, ap₂, arith, refl}
use Rattle.std.specs.Prelude.{max}
use Rattle.pg_places.proofs.Common.{div-add-mod', mod_below, nat_tests, Place}
use Rattle.pg_places.specs.Places.{column_of, columns_of, place_on_bridge, place_on_grid, row_of}

-- numbers with the same quotient and the same remainder are one
pub same_by_division : (v w m : ℕ) → v % m ≡ w % m → v / m ≡ w / m → v ≡ w
same_by_division v w m rest quotient =
    sym (div-add-mod' v m) ∙ ap₂ (λ a b. a * m + b) quotient rest ∙ div-add-mod' w m

pub cells_apart : (width v w : ℕ) → place_on_grid width v ≡ place_on_grid width w → v ≡ w
unfolding place_on_grid
cells_apart width v w same =
    let across = ap (λ (p : Place). p.across) same in
    let down = ap (λ (p : Place). p.down) same in
    same_by_division v w (max width 1) (omega (arith, across)) (omega (arith, down))

-- where a vertex stands: left, right, or within the rows
abbrev Stands : ℕ → ℕ → Type 0
Stands rows u = ((u ≡ 0) × (column_of rows u ≡ 0))
    ⊎ (((u ≡ 1) × (column_of rows u ≡ columns_of rows + 1))
    ⊎ ((2 ≤ u)
    × (column_of rows u ≡ (u - 2) % columns_of rows + 1)
    × (row_of rows u u ≡ (u - 2) / columns_of rows)))

stands : (rows u : ℕ) → Stands rows u
stands rows zero = inl (refl, refl)
stands rows (suc zero) = inr (inl (refl, refl))
stands rows (suc (suc k)) =
    inr (inr (omega arith, grind (arith, nat_tests), grind (arith, nat_tests)))

apart_by : (rows u v : ℕ)
    → Stands rows u
    → Stands rows v
    → column_of rows u ≡ column_of rows v
    → row_of rows u u ≡ row_of rows v v
    → u ≡ v
apart_by rows u v (inl a) (inl b) column row = a.0 ∙ sym b.0
apart_by rows u v (inl a) (inr (inl b)) column row = absurd (omega arith)
apart_by rows u v (inl a) (inr (inr b)) column row = absurd (omega arith)
apart_by rows u v (inr (inl a)) (inl b) column row = absurd (omega arith)
apart_by rows u v (inr (inl a)) (inr (inl b)) column row = a.0 ∙ sym b.0
apart_by rows u v (inr (inl a)) (inr (inr b)) column row =
    let few = mod_below (v - 2) (columns_of rows) (omega arith) in
    absurd (omega arith)
apart_by rows u v (inr (inr a)) (inl b) column row = absurd (omega arith)
apart_by rows u v (inr (inr a)) (inr (inl b)) column row =
    let few = mod_below (u - 2) (columns_of rows) (omega arith) in
    absurd (omega arith)
apart_by rows u v (inr (inr a)) (inr (inr b)) column row =
    let same =
    same_by_division (u - 2) (v - 2) (columns_of rows) (omega arith) (sym a.2 ∙ row ∙ b.2) in
    omega arith

pub vertices_apart : (rows u v : ℕ) → place_on_bridge rows u u ≡ place_on_bridge rows v v → u ≡ v
unfolding place_on_bridge
vertices_apart rows u v same =
    let across = ap (λ (p : Place). p.across) same in
    let down = ap (λ (p : Place). p.down) same in
    apart_by rows u v (stands rows u) (stands rows v) (omega (arith, across)) (omega (arith, down))
