-- The nodes of a claim that solving has found differ in position.
use Rattle.std.proofs.Common.{◌≡◌, ℕ, zero, suc, List, [], ◌∷◌, Some, slice_get, refl, sym, subst}
use Rattle.pg_results.proofs.Common.{Cert, Claim, DifferInPosition, HaveDifferentPositions, Game}
use Rattle.pg_results.proofs.Common.{Position, IsShown, certificate_of, Solution, Value, Unknown}
use Rattle.pg_base.specs.declared.score.Score.TheVariants.{XWins, Draw, YWins}
use Rattle.pg_cert.specs.declared.node.Node.{Node}
use Rattle.pg_solve.specs.declared.solution.Solution.TheVariants.{Class as ForClass}

-- all claims at their places
abbrev DifferEach : List Claim → Type 0
DifferEach claims =
    (i : ℕ) (claim : Claim) → slice_get claims i ≡ Some claim → HaveDifferentPositions claim.nodes

one_differs : (a : Claim) → HaveDifferentPositions a.nodes → DifferEach (a ∷ [])
one_differs a differ zero claim at =
    let e : Some a ≡ Some claim = at in
    let same : a ≡ claim = cc e in
    subst (λ (c : Claim). HaveDifferentPositions c.nodes) same differ
one_differs a differ (suc i) claim at = absurd cc

two_differ : (a b : Claim)
    → HaveDifferentPositions a.nodes
    → HaveDifferentPositions b.nodes
    → DifferEach (a ∷ b ∷ [])
two_differ a b first second zero claim at =
    let e : Some a ≡ Some claim = at in
    let same : a ≡ claim = cc e in
    subst (λ (c : Claim). HaveDifferentPositions c.nodes) same first
two_differ a b first second (suc i) claim at = one_differs b second i claim at

-- a claim of one node
single_differs : (node : Node) → HaveDifferentPositions (node ∷ [])
single_differs node zero zero m n here there same = refl
single_differs node zero (suc k) m n here there same = absurd cc
single_differs node (suc i) k m n here there same = absurd cc

edge_differs : (nodes : List Node) (node : Node) → nodes ≡ node ∷ [] → HaveDifferentPositions nodes
edge_differs nodes node is =
    subst (λ (ns : List Node). HaveDifferentPositions ns) (sym is) (single_differs node)

shown_differ : (g : Game) (budget : ℕ) (table : List Position) (solution : Solution) (c : Cert)
    → IsShown g budget table solution
    → certificate_of solution ≡ Some c
    → DifferEach c.claims
shown_differ g budget table Unknown c shown own = absurd cc
shown_differ g budget table (ForClass class certificate) c shown own =
    let e : Some certificate ≡ Some c = own in
    let same : certificate ≡ c = cc e in
    subst (λ (d : Cert). DifferEach d.claims) same
    (subst DifferEach (sym shown.two)
    (two_differ shown.first shown.second
    (edge_differs shown.first.nodes shown.with_x.node shown.with_x.one)
    (edge_differs shown.second.nodes shown.with_y.node shown.with_y.one)))
shown_differ g budget table (Value XWins certificate) c shown own =
    let e : Some certificate ≡ Some c = own in
    let same : certificate ≡ c = cc e in
    subst (λ (d : Cert). DifferEach d.claims) same
    (subst DifferEach (sym shown.one) (one_differs shown.claim shown.shows.different))
shown_differ g budget table (Value YWins certificate) c shown own =
    let e : Some certificate ≡ Some c = own in
    let same : certificate ≡ c = cc e in
    subst (λ (d : Cert). DifferEach d.claims) same
    (subst DifferEach (sym shown.one) (one_differs shown.claim shown.shows.different))
shown_differ g budget table (Value Draw certificate) c shown own =
    let e : Some certificate ≡ Some c = own in
    let same : certificate ≡ c = cc e in
    subst (λ (d : Cert). DifferEach d.claims) same
    (subst DifferEach (sym shown.two)
    (two_differ shown.denial shown.claim shown.denies.shows.different shown.shows.different))

-- the law of solving by which what it finds may be folded
pub solution_differs : (g : Game) (budget : ℕ) (table : List Position) (solution : Solution)
    (c : Cert)
    → IsShown g budget table solution
    → certificate_of solution ≡ Some c
    → DifferInPosition c
solution_differs g budget table solution c shown own =
    shown_differ g budget table solution c shown own
