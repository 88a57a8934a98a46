-- From one copy of a node to those to which it leads, by their places in the table.
use Rattle.std.proofs.Common.{◌≡◌, ℕ, ◌+◌, ◌*◌, ◌/◌, ◌%◌, ◌<◌, Bool, true, List, length, map, set}
use Rattle.std.proofs.Common.{Some, slice_get, sym, ap, ◌∙◌, subst, arith}
use Rattle.pg_unfold.proofs.Common.{FinSet, nat_cmp, All-contains, All-map, Side, NamesEarlier}
use Rattle.pg_unfold.proofs.Common.{Body, Over, Move, Pairs, Potential, Trees, Cuts, Threat, Weaker}
use Rattle.pg_unfold.proofs.Common.{Node, ImageNode, Plain, Image, numbered, number_of, followed_by}
use Rattle.pg_unfold.proofs.Common.{GridMap, number-numbered}
use Rattle.pg_cert.specs.declared.node.Body.TheVariants.{All}
use Rattle.pg_unfold.specs.Copies.{Copy, NamesChild, LeadsTo}
use Rattle.pg_unfold.specs.Flaws.{HasEarlier}
use Rattle.pg_unfold.specs.Marks.{key_of, copy_at, AreAdded, IsChildOf, Hands, AreEarlier}
use Rattle.pg_unfold.proofs.Keys.{copy_at-key, key-copy_at}
use Rattle.pg_unfold.proofs.Marking.{AreAdded-same, AreAdded-one}

-- a named child is earlier where all are
pub named-earlier : (body : Body) (k child : ℕ)
    → NamesEarlier k body
    → NamesChild body child
    → child < k
named-earlier (Move v j) k child below e = omega arith
named-earlier (All rs) k child below has = All-contains (λ j. j < k) (map (λ r. r.child) rs) child
    (All-map (λ j. j < k) (λ r. r.child) rs below) has
named-earlier (Weaker j) k child below e = omega arith
named-earlier Over k child below none = absurd none
named-earlier (Pairs ps) k child below none = absurd none
named-earlier Potential k child below none = absurd none
named-earlier (Trees e a b) k child below none = absurd none
named-earlier (Cuts e a b) k child below none = absurd none
named-earlier (Threat ps) k child below none = absurd none

pub leads-earlier : (node : ImageNode) (k : ℕ) (c next : Copy)
    → HasEarlier k node
    → LeadsTo node c next
    → next.node < k
leads-earlier (Plain node) k c next below leads = named-earlier node.body k next.node below leads.0
leads-earlier (Image x y turn left m child) k c next below leads =
    let e = ap (λ (d : Copy). d.node) leads in
    omega (arith, e, below)

pub hands-down : (nodes : List ImageNode)
    → AreEarlier nodes
    → (key next : ℕ) → Hands nodes key next
    → next < key
hands-down nodes earlier key next h =
    let lower = leads-earlier h.node (key / 8) (copy_at key) (copy_at next)
    (earlier (key / 8) h.node h.at) h.holds in
    omega (arith, lower)

module _ (nodes : List ImageNode) (key : ℕ) (old new : List Bool) where
  pub hands-plain : (node : Node)
      → slice_get nodes (key / 8) ≡ Some (Plain node)
      → AreAdded (IsChildOf node.body (key % 8)) old new
      → AreAdded (Hands nodes key) old new
  hands-plain node at h = AreAdded-same (IsChildOf node.body (key % 8)) (Hands nodes key) old new
      (λ next child. record {
        node = Plain node;
        at = at;
        holds = (child.0, ap numbered child.1);
      }) (λ next hands.
      let same : Some hands.node ≡ Some (Plain node) = sym hands.at ∙ at in
      let is : hands.node ≡ Plain node = cc in
      let leads = subst (λ n. LeadsTo n (copy_at key) (copy_at next)) is hands.holds in
      let low : next % 8 < 8 = omega arith in
      let few : key % 8 < 8 = omega arith in (
        leads.0,
        sym (number-numbered (next % 8) low) ∙ ap number_of leads.1 ∙ number-numbered (key % 8) few,
      )) h

  pub hands-image : (x y : FinSet nat_cmp) (turn : Side) (left : ℕ) (m : GridMap) (child : ℕ)
      → slice_get nodes (key / 8) ≡ Some (Image x y turn left m child)
      → 8 * child + number_of (followed_by m (numbered (key % 8))) < length old
      → new ≡ set old (8 * child + number_of (followed_by m (numbered (key % 8)))) true
      → AreAdded (Hands nodes key) old new
  hands-image x y turn left m child at lt is =
      AreAdded-one (Hands nodes key) old new (key_of stands) lt is
      (λ next hands.
      let same : Some hands.node ≡ Some (Image x y turn left m child) = sym hands.at ∙ at in
      let one : hands.node ≡ Image x y turn left m child = cc in
      let leads = subst (λ n. LeadsTo n (copy_at key) (copy_at next)) one hands.holds in
      sym (key-copy_at next) ∙ ap key_of leads)
      (record { node = Image x y turn left m child; at = at; holds = copy_at-key stands })
    where
      stands : Copy
      stands = record { node = child; map = followed_by m (numbered (key % 8)) }
