-- The new numbers of nodes, and what is found under them.
use Rattle.std.proofs.Common.{◌≡◌, ◌∙◌, ℕ, zero, suc, ◌+◌, ◌-◌, Bool, true, false, not, cond, List}
use Rattle.std.proofs.Common.{[], ◌∷◌, ◌++◌, Some, ap, ap₂, arith, drop, filter, length, map}
use Rattle.std.proofs.Common.{refl, sym, take}
use Rattle.std.specs.Prelude.{IsPermutation, option_map, slice_get, unwrap_or}
use Rattle.std.proofs.lemmas.List.{length-map}
use Rattle.std.proofs.lemmas.List.Filters.{length-filter_both}
use Rattle.std.proofs.lemmas.List.Sorted.{IsPermutation-filter_both, length_permutation}
use Rattle.std.proofs.lemmas.List.Sorted.{sum_by-IsPermutation}
use Rattle.std.proofs.lemmas.List.Sums.{length-filter}
use Rattle.std.proofs.lemmas.Option.{none-some, same_Some, slice_get-map}
use Rattle.pg_cert.specs.declared.node.Node.{Node}
use Rattle.pg_game.specs.declared.game.Game.{Game}
use Rattle.pg_near.specs.Near.{arranged_nodes, in_order, is_near, moved, next_place, place_at}
use Rattle.pg_near.specs.Near.{places_from, places_of}
use Rattle.pg_near.proofs.Counts.{at-filter, count-parts, length-cond}

-- ---- lists

not-twice : (b : Bool) → b ≡ not (not b)
not-twice true = refl
not-twice false = refl

at-left : {X : Type 0} (xs ys : List X) (i : ℕ) (x : X)
    → slice_get xs i ≡ Some x
    → slice_get (xs ++ ys) i ≡ Some x
at-left [] ys i x at = absurd (none-some x at)
at-left (y ∷ xs) ys zero x at = at
at-left (y ∷ xs) ys (suc i) x at = at-left xs ys i x at

at-right : {X : Type 0} (xs ys : List X) (i j : ℕ) (x : X)
    → j ≡ length xs + i
    → slice_get ys i ≡ Some x
    → slice_get (xs ++ ys) j ≡ Some x
at-right [] ys i j x is at = let same : j ≡ i = omega (arith, is) in ap (slice_get ys) same ∙ at
at-right (y ∷ xs) ys i zero x is at = absurd (omega (arith, is))
at-right (y ∷ xs) ys i (suc j) x is at = at-right xs ys i j x (omega (arith, is)) at

module _ (near : Node → Bool) where
  abbrev far : Node → Bool
  far = λ node. not (near node)

  -- ---- numbers

  -- the number of a node, by how many of each kind are before it
  place-from : (nodes : List Node) (k : ℕ) (node : Node) (next_far next_near : ℕ)
      → slice_get nodes k ≡ Some node
      → slice_get (places_from near next_far next_near nodes) k
      ≡ Some (next_place (near node) (next_far + length (filter far (take k nodes)))
      (next_near + length (filter near (take k nodes))))
  place-from [] k node next_far next_near at = absurd (none-some node at)
  place-from (x ∷ xs) zero node next_far next_near at =
      let one : next_far ≡ next_far + 0 = omega arith in
      let other : next_near ≡ next_near + 0 = omega arith in
      ap (λ n. Some (next_place (near n) next_far next_near)) (same_Some x node at)
      ∙ ap₂ (λ a b. Some (next_place (near node) a b)) one other
  place-from (x ∷ xs) (suc k) node next_far next_near at =
      let fars = length-cond (far x) x (filter far (take k xs)) in
      let nears = length-cond (near x) x (filter near (take k xs)) in
      let one : next_far + cond (far x) 1 0 + length (filter far (take k xs))
      ≡ next_far + length (filter far (take (suc k) (x ∷ xs))) = omega (arith, fars) in
      let other : next_near + cond (near x) 1 0 + length (filter near (take k xs))
      ≡ next_near + length (filter near (take (suc k) (x ∷ xs))) = omega (arith, nears) in
      place-from xs k node (next_far + cond (far x) 1 0) (next_near + cond (near x) 1 0) at
      ∙ ap₂ (λ a b. Some (next_place (near node) a b)) one other

  pub place-is : (nodes : List Node) (k : ℕ) (node : Node)
      → slice_get nodes k ≡ Some node
      → place_at (places_of near nodes) k
      ≡ next_place (near node) (0 + length (filter far (take k nodes)))
      (length (filter far nodes) + length (filter near (take k nodes)))
  place-is nodes k node at =
      ap (λ found. unwrap_or found k) (place-from nodes k node 0 (length (filter far nodes)) at)

  -- ---- what is found there

  found-by : (nodes : List Node) (k : ℕ) (node : Node) (b : Bool)
      → near node ≡ b
      → slice_get nodes k ≡ Some node
      → slice_get (in_order near nodes)
      (next_place b (0 + length (filter far (take k nodes)))
      (length (filter far nodes) + length (filter near (take k nodes))))
      ≡ Some node
  found-by nodes k node true is at =
      at-right (filter far nodes) (filter near nodes) (length (filter near (take k nodes))) _ node
      refl (at-filter near nodes k node at is)
  found-by nodes k node false is at =
      at-left (filter far nodes) (filter near nodes) _ node
      (let same : 0 + length (filter far (take k nodes)) ≡ length (filter far (take k nodes))
      = omega arith in
      ap (slice_get (filter far nodes)) same ∙ at-filter far nodes k node at (ap not is))

  pub stays : (nodes : List Node) → IsPermutation nodes (in_order near nodes)
  stays nodes = IsPermutation-filter_both far near (λ node. not-twice (near node)) nodes

  pub node-moved : (nodes : List Node) (k : ℕ) (node : Node)
      → slice_get nodes k ≡ Some node
      → slice_get (arranged_nodes near nodes) (place_at (places_of near nodes) k)
      ≡ Some (moved (places_of near nodes) node)
  node-moved nodes k node at =
      slice_get-map (moved (places_of near nodes)) (in_order near nodes)
      (place_at (places_of near nodes) k)
      ∙ ap (option_map (moved (places_of near nodes)))
      (ap (slice_get (in_order near nodes)) (place-is nodes k node at)
      ∙ found-by nodes k node (near node) refl at)

  -- ---- how many nodes are behind

  both-counts : (nodes : List Node)
      → length (filter near nodes) + length (filter far nodes) ≡ length nodes
  both-counts nodes = length-filter_both near far (λ node. refl) nodes

  pub near-counted : (nodes : List Node) (k : ℕ) (node : Node)
      → slice_get nodes k ≡ Some node
      → near node ≡ true
      → length nodes - place_at (places_of near nodes) k
      ≡ suc (length (filter near (drop (suc k) nodes)))
  near-counted nodes k node at is =
      let place : place_at (places_of near nodes) k
      ≡ length (filter far nodes) + length (filter near (take k nodes)) =
      place-is nodes k node at
      ∙ ap (λ b. next_place b (0 + length (filter far (take k nodes)))
      (length (filter far nodes) + length (filter near (take k nodes)))) is in
      let parts = count-parts near nodes k node at in
      let one : ◌≡◌ {A = ℕ} (cond (near node) 1 0) 1 = ap (λ b. cond b 1 0) is in
      omega (arith, place, parts, one, both-counts nodes)

  pub far-counted : (nodes : List Node) (k : ℕ) (node : Node)
      → slice_get nodes k ≡ Some node
      → near node ≡ false
      → length nodes - place_at (places_of near nodes) k
      ≡ length (filter near nodes) + suc (length (filter far (drop (suc k) nodes)))
  far-counted nodes k node at is =
      let place : place_at (places_of near nodes) k
      ≡ 0 + length (filter far (take k nodes)) =
      place-is nodes k node at
      ∙ ap (λ b. next_place b (0 + length (filter far (take k nodes)))
      (length (filter far nodes) + length (filter near (take k nodes)))) is in
      let parts = count-parts far nodes k node at in
      let one : ◌≡◌ {A = ℕ} (cond (far node) 1 0) 1 = ap (λ b. cond (not b) 1 0) is in
      omega (arith, place, parts, one, both-counts nodes)

  -- ---- how many there are

  pub arranged-length : (nodes : List Node) → length (arranged_nodes near nodes) ≡ length nodes
  arranged-length nodes = length-map (in_order near nodes) (moved (places_of near nodes))
      ∙ length_permutation nodes (in_order near nodes) (stays nodes)

-- a copy is near if the node is
count-map : (p : Node → Bool) (f : Node → Node)
    → ((node : Node) → p (f node) ≡ p node)
    → (nodes : List Node) → length (filter p (map f nodes)) ≡ length (filter p nodes)
count-map p f same [] = refl
count-map p f same (x ∷ xs) = length-cond (p (f x)) (f x) (filter p (map f xs))
    ∙ ap₂ (λ b n. cond b 1 0 + n) (same x) (count-map p f same xs)
    ∙ sym (length-cond (p x) x (filter p xs))

pub arranged-count : (g : Game) (depth : ℕ) (nodes : List Node)
    → length (filter (is_near g depth) (arranged_nodes (is_near g depth) nodes))
    ≡ length (filter (is_near g depth) nodes)
arranged-count g depth nodes =
    let near = is_near g depth in
    count-map near (moved (places_of near nodes)) (λ node. refl) (in_order near nodes)
    ∙ length-filter near (in_order near nodes)
    ∙ sum_by-IsPermutation (λ node. cond (near node) 1 0) nodes (in_order near nodes)
    (stays near nodes)
    ∙ sym (length-filter near nodes)
