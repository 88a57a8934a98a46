-- From `weaker` to its child, until a node has another body.
use Rattle.std.proofs.Common.{◌≡◌, ◌∙◌, ℕ, zero, suc, ◌<◌, List, length, get_or, Option, Some, None}
use Rattle.std.proofs.Common.{slice_get, refl, sym, ap, subst, inl, inr, ◌⊎◌, arith}
use Rattle.pg_player.proofs.Common.{slice_get_within, slice_get-get_or, Node, Body, Over, Move, All}
use Rattle.pg_player.proofs.Common.{Pairs, Potential, Trees, Cuts, Threat, Weaker, settles_by}
use Rattle.pg_player.proofs.Common.{settles_at, settled_within}

-- the body isn't `weaker`
abbrev pub IsOwn : Body → Type 0
IsOwn (Weaker child) = ⊥
IsOwn _ = Unit {0}

pub weaker_or_own : (b : Body) → ((child : ℕ) × (b ≡ Weaker child)) ⊎ IsOwn b
weaker_or_own Over = inr tt
weaker_or_own (Move point child) = inr tt
weaker_or_own (All replies) = inr tt
weaker_or_own (Pairs pairs) = inr tt
weaker_or_own Potential = inr tt
weaker_or_own (Trees with_e first second) = inr tt
weaker_or_own (Cuts with_e first second) = inr tt
weaker_or_own (Threat points) = inr tt
weaker_or_own (Weaker child) = inl (child, refl)

pub settles_by-own : (further : ℕ → Option Node) (n : Node) (b : Body)
    → IsOwn b
    → settles_by further n b ≡ Some n
settles_by-own further n Over own = refl
settles_by-own further n (Move point child) own = refl
settles_by-own further n (All replies) own = refl
settles_by-own further n (Pairs pairs) own = refl
settles_by-own further n Potential own = refl
settles_by-own further n (Trees with_e first second) own = refl
settles_by-own further n (Cuts with_e first second) own = refl
settles_by-own further n (Threat points) own = refl
settles_by-own further n (Weaker child) own = absurd own

pub settled_within-at : (nodes : List Node) (steps k : ℕ) (n : Node)
    → slice_get nodes k ≡ Some n
    → settled_within (suc steps) nodes k ≡ settles_by (settled_within steps nodes) n n.body
unfolding settled_within
settled_within-at nodes steps k n at = ap (settles_at (settled_within steps nodes)) at

-- ---- a search that finds a node

-- it has steps left
pub settled-steps : (nodes : List Node) (steps k : ℕ) (n : Node)
    → settled_within steps nodes k ≡ Some n
    → 0 < steps
unfolding settled_within
settled-steps nodes zero k n is = absurd (let none : None ≡ Some n = is in cc)
settled-steps nodes (suc steps) k n is = omega arith

-- it is at a node
settled-node : (nodes : List Node) (steps k : ℕ) (n : Node)
    → settled_within steps nodes k ≡ Some n
    → (m : Node) × (slice_get nodes k ≡ Some m)
unfolding settled_within
settled-node nodes zero k n is = absurd (let none : None ≡ Some n = is in cc)
settled-node nodes (suc steps) k n is = at_node (slice_get nodes k) refl
  where
    at_node : (o : Option Node) → slice_get nodes k ≡ o → (m : Node) × (slice_get nodes k ≡ Some m)
    at_node (Some m) e = (m, e)
    at_node None e = absurd
        (let none : None ≡ Some n = sym (ap (settles_at (settled_within steps nodes)) e) ∙ is in cc)

pub settled-item : (items nodes : List Node) (steps k : ℕ) (n d : Node)
    → items ≡ nodes
    → settled_within steps nodes k ≡ Some n
    → (k < length items) × (slice_get nodes k ≡ Some (get_or items k d))
settled-item items nodes steps k n d same is =
    let node = settled-node nodes steps k n is in
    let within : k < length items = subst (λ (ns : List Node). k < length ns) (sym same)
    (slice_get_within nodes k node.0 node.1) in (
      within,
      subst (λ (ns : List Node). slice_get ns k ≡ Some (get_or items k d)) same
          (slice_get-get_or items k d within),
    )

-- it ends where the body isn't `weaker`
pub settled-here : (nodes : List Node) (steps k : ℕ) (n m : Node)
    → settled_within steps nodes k ≡ Some n
    → slice_get nodes k ≡ Some m
    → ((child : ℕ) → m.body ≡ Weaker child → ⊥)
    → settled_within steps nodes k ≡ Some m
settled-here nodes zero k n m is at other_body =
    absurd (let few = settled-steps nodes zero k n is in omega (arith, few))
settled-here nodes (suc steps) k n m is at other_body = elim (weaker_or_own m.body) [
  | inl weaker ↦ absurd (other_body weaker.0 weaker.1)
  | inr own ↦ settled_within-at nodes steps k m at
      ∙ settles_by-own (settled_within steps nodes) m m.body own
]

-- it goes on from `weaker` to its child
pub settled-on : (nodes : List Node) (steps further k j : ℕ) (m : Node)
    → steps ≡ suc further
    → slice_get nodes k ≡ Some m
    → m.body ≡ Weaker j
    → settled_within further nodes j ≡ settled_within steps nodes k
settled-on nodes steps further k j m e at weaker =
    subst (λ t. settled_within further nodes j ≡ settled_within t nodes k) (sym e)
    (sym (settled_within-at nodes further k m at
    ∙ ap (settles_by (settled_within further nodes) m) weaker))
