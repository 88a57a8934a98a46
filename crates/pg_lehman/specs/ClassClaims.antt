-- Claims of one node that stand on two sets, and those of a class.
use Rattle.std.specs.Prelude.{ℕ, Bool, List, [], ◌∷◌}
use Rattle.pg_lehman.specs.Prelude.{FinSet, contains, remove, nat_cmp, Win, Side, X, Y, Position}
use Rattle.pg_cert.specs.declared.cert.Claim.{Claim}
use Rattle.pg_cert.specs.declared.node.Body.{Body}
use Rattle.pg_cert.specs.declared.node.Body.TheVariants.{Trees, Cuts}
use Rattle.pg_cert.specs.declared.node.Node.{Node}
use Rattle.pg_lehman.specs.declared.class.Class.{Class}
use Rattle.pg_lehman.specs.declared.class.Class.TheVariants.{Short, Cut, First}

-- the node with this body at the position
abbrev pub node_at : Position → Body → Node
node_at p body = record { x = p.x; y = p.y; turn = p.turn; left = p.left; body = body }

-- the claim that the side wins from the position, of one node
abbrev pub one_node : Position → Side → Body → Claim
one_node p side body = record {
  turn = p.turn;
  side = side;
  goal = Win;
  nodes = node_at p body ∷ [];
}

-- X's trees, or Y's cuts
abbrev pub sets_body : Side → Bool → FinSet nat_cmp → FinSet nat_cmp → Body
sets_body X e first second = Trees e first second
sets_body Y e first second = Cuts e first second

-- the claim of a side by its sets, of which the first names e apart
abbrev pub set_claim : Position → Side → ℕ → FinSet nat_cmp → FinSet nat_cmp → Claim
set_claim p side e one second =
    one_node p side (sets_body side (contains one e) (remove one e) second)

-- the claims of a class, with X and then with Y to move first
abbrev pub class_claims : Position → Position → ℕ → Class → List Claim
class_claims with_x with_y e (Short a1 a2) =
    set_claim with_x X e a1 a2 ∷ set_claim with_y X e a1 a2 ∷ []
class_claims with_x with_y e (Cut d1 d2) =
    set_claim with_x Y e d1 d2 ∷ set_claim with_y Y e d1 d2 ∷ []
class_claims with_x with_y e (First a1 a2 d1 d2) =
    set_claim with_x X e a1 a2 ∷ set_claim with_y Y e d1 d2 ∷ []
