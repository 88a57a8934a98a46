-- Claims of one node.
use Rattle.std.proofs.Common.{◌≡◌, ℕ, zero, suc, List, [], ◌∷◌, Some, length, get_or, refl, sym, ap}
use Rattle.std.proofs.Common.{◌∙◌, subst, arith, slice_get}
use Rattle.pg_fold.proofs.Common.{none-some, slice_get-get_or, AllZip, same_some, IsValid, Cert}
use Rattle.pg_fold.proofs.Common.{Claim, Node, Game, ImageClaim, ImageNode, Plain}
use Rattle.pg_fold.specs.Folded.{DifferInPosition, IsFoldedAt, IsFoldedClaim}
use Rattle.pg_fold.specs.Places.{AreFoldable, Stays}

pub one-alone : {A : Type 0} (xs : List A) (x : A)
    → length xs ≡ 1
    → slice_get xs 0 ≡ Some x
    → xs ≡ x ∷ []
one-alone [] x one at = absurd (omega (arith, one))
one-alone (y ∷ []) x one at = ap (λ z. z ∷ []) (same_some at)
one-alone (y ∷ (z ∷ zs)) x one at = absurd (omega (arith, one))

module _ (g : Game) (node : Node) where
  -- a node alone is no other's image
  stays-alone : (k : ℕ) (n : Node)
      → slice_get (node ∷ []) k ≡ Some n
      → IsFoldedAt g (Plain node ∷ []) k n
  stays-alone zero n at = record {
    folded = Plain node;
    at = refl;
    becomes = (same_some at, λ j m lt is. absurd (omega (arith, lt)));
  }
  stays-alone (suc k) n at = absurd (none-some n at)

-- so the claim folded is the claim
pub stays-folded : (g : Game) (claim : Claim) (same : ImageClaim)
    → Stays claim same
    → IsFoldedClaim g claim same
stays-folded g claim same is = record {
  turn = is.turn;
  side = is.side;
  goal = is.goal;
  count = ap length is.nodes ∙ ap length (sym is.of);
  nodes = λ k n at. subst (λ (ns : List ImageNode). IsFoldedAt g ns k n) (sym is.nodes)
      (stays-alone g is.node k n (subst (λ (ns : List Node). slice_get ns k ≡ Some n) is.of at));
}

pub all-folded : (g : Game) (claims : List Claim) (same : List ImageClaim)
    → AllZip Stays claims same
    → AllZip (IsFoldedClaim g) claims same
all-folded g [] [] are = tt
all-folded g [] (d ∷ ds) are = absurd are
all-folded g (c ∷ cs) [] are = absurd are
all-folded g (c ∷ cs) (d ∷ ds) are = (stays-folded g c d are.0, all-folded g cs ds are.1)

-- the claims of a valid certificate whose nodes differ in position
pub foldable-of : (g : Game) (c : Cert) → IsValid g c → DifferInPosition c → AreFoldable g c.claims
foldable-of g c valid differ = λ k d lt.
    let at = slice_get-get_or c.claims k d lt in
    record { valid = valid k (get_or c.claims k d) at; differ = differ k (get_or c.claims k d) at }
