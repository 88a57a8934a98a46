-- The claims of a class of a game on vectors, whose sets hold, are valid and within the limits.
use Rattle.std.proofs.Common.{◌≡◌, ◌∙◌, ℕ, zero, suc, ◌<◌, ◌≤◌, Bool, true, false, if◌then◌else◌}
use Rattle.std.proofs.Common.{List, [], ◌∷◌, Some, length, slice_get, refl, sym, subst, subst₂, inl}
use Rattle.std.proofs.Common.{inr, arith}
use Rattle.pg_gf2.proofs.Common.{both_ways, cases_Bool, cases_eq, All-cons, All-nil, none-some}
use Rattle.pg_gf2.proofs.Common.{FinSet, contains, insert, remove, All, nat_cmp, insert-remove}
use Rattle.pg_gf2.proofs.Common.{remove-old, remove-other, remove-self, Side, X, Y, ArePoints}
use Rattle.pg_gf2.proofs.Common.{IsBody, IsClaim, IsNode, IsOfVersion, IsTurn, IsWithinLimits}
use Rattle.pg_gf2.proofs.Common.{has_body, node_count, Cert, Claim, Version, One, Body, Trees, Cuts}
use Rattle.pg_gf2.proofs.Common.{Node, AreFree, AreFreeOrE, class_claims, node_at, set_claim}
use Rattle.pg_gf2.proofs.Common.{sets_body, Position}
use Rattle.pg_base.proofs.Stands.{one_at}
use Rattle.pg_base.specs.WordLemmas.{same_points}
use Rattle.pg_cert.specs.declared.limits.TheConstants.{MAX_CLAIMS, MAX_NODES}
use Rattle.pg_gf2.specs.Check.{AreVectorSets, HasCuts, HasTrees, IsOfSide, IsVecClaimValid}
use Rattle.pg_gf2.specs.Check.{IsVecValid, NodePasses, names_sets, with_e_named}
use Rattle.pg_gf2.specs.Classes.{CutsAt, TreesAt, VectorSetsHold, at_turn}
use Rattle.pg_gf2.specs.declared.flaw.VecFlaw.{VecFlaw}
use Rattle.pg_gf2.specs.declared.flaw.VecFlaw.TheVariants as flaws
use Rattle.pg_gf2.specs.declared.game.VecGame.{VecGame}
use Rattle.pg_lehman.specs.declared.class.Class.{Class}
use Rattle.pg_lehman.specs.declared.class.Class.TheVariants.{Short, Cut, First}

-- ---- e, and the members of the sets

-- without e, which it doesn't hold, a set is as it was
remove_absent : (s : FinSet nat_cmp) (e : ℕ) → contains s e ≡ false → remove s e ≡ s
remove_absent s e lacks = same_points _ _ (λ q. elim (cases_eq q e) [
  | inl same ↦ subst (λ (v : ℕ). contains (remove s e) v ≡ contains s v) (sym same)
      (remove-self s e ∙ sym lacks)
  | inr apart ↦ remove-other s e q apart
])

-- with e taken out and named, the set is as it was
named_again : (s : FinSet nat_cmp) (e : ℕ)
    → (if contains s e then insert (remove s e) e else remove s e) ≡ s
named_again s e = elim (cases_Bool (contains s e)) [
  | inl has ↦ rw has (insert-remove s e has)
  | inr lacks ↦ rw lacks (remove_absent s e lacks)
]

-- the side's sets hold: X's trees, or Y's cuts
abbrev SetsOf : Side → VecGame → Side → FinSet nat_cmp → FinSet nat_cmp → Type 0
SetsOf X g turn one second = TreesAt g turn one second
SetsOf Y g turn one second = CutsAt g turn one second

-- members other than e are numbers of vectors
numbers : (g : VecGame) (p : Position) (side : Side) (one second : FinSet nat_cmp)
    → AreFreeOrE (length g.vectors) p side one
    → AreFree (length g.vectors) p second
    → AreVectorSets g (remove one (length g.vectors)) second
numbers g p side one second first_free second_free = (
  λ f here. elim (first_free f (remove-old one (length g.vectors) f here)) [
    | inl vector ↦ vector.0
    | inr e ↦ absurd
        (both_ways _ (subst (λ (v : ℕ). contains (remove one (length g.vectors)) v ≡ false)
        (sym e.0) (remove-self one (length g.vectors))) here)
  ],
  λ f here. (second_free f here).0,
)

numbers_of : (side : Side) (g : VecGame) (turn : Side) (one second : FinSet nat_cmp)
    → SetsOf side g turn one second
    → AreVectorSets g (remove one (length g.vectors)) second
numbers_of X g turn one second hold =
    numbers g (at_turn g turn) X one second hold.first_free hold.second_free
numbers_of Y g turn one second hold =
    numbers g (at_turn g turn) Y one second hold.first_free hold.second_free

-- ---- the one node

-- what both bodies have, the side's has
for_body : (P : Body → Type 0) (side : Side) (e : Bool) (first second : FinSet nat_cmp)
    → P (Trees e first second)
    → P (Cuts e first second)
    → P (sets_body side e first second)
for_body P X e first second trees cuts = trees
for_body P Y e first second trees cuts = cuts

of_side : (side : Side) (e : Bool) (first second : FinSet nat_cmp)
    → IsOfSide side (sets_body side e first second)
of_side X e first second = refl
of_side Y e first second = refl

has_trees : (side : Side) (g : VecGame) (turn : Side) (e : Bool) (first second : FinSet nat_cmp)
    → AreVectorSets g first second
    → SetsOf side g turn (with_e_named g e first) second
    → HasTrees g turn (sets_body side e first second)
has_trees X g turn e first second sets hold = (sets, hold)
has_trees Y g turn e first second sets hold = tt

has_cuts : (side : Side) (g : VecGame) (turn : Side) (e : Bool) (first second : FinSet nat_cmp)
    → AreVectorSets g first second
    → SetsOf side g turn (with_e_named g e first) second
    → HasCuts g turn (sets_body side e first second)
has_cuts X g turn e first second sets hold = tt
has_cuts Y g turn e first second sets hold = (sets, hold)

-- a turn of one vector
one_vector : (turn : Side) → IsTurn turn 1
one_vector X = refl
one_vector Y = (omega arith, omega arith)

-- ---- lists of one claim and of two

all_one : {A : Type 0} (P : A → Type 0) (x : A) → P x → All P (x ∷ [])
all_one P x h = All-cons P x [] h (All-nil P)

all_two : {A : Type 0} (P : A → Type 0) (x y : A) → P x → P y → All P (x ∷ y ∷ [])
all_two P x y h i = All-cons P x (y ∷ []) h (all_one P y i)

-- ---- the claim

-- a claim of version 1 that is valid, and within the limits
record IsSound (g : VecGame) (claim : Claim) : Type 0 where
  valid : IsVecClaimValid g One claim
  limits : IsClaim claim
  version : IsOfVersion One claim

module _ (g : VecGame) (turn side : Side) (one second : FinSet nat_cmp)
    (hold : SetsOf side g turn one second) where
  abbrev with_e : Bool
  with_e = contains one (length g.vectors)

  abbrev first : FinSet nat_cmp
  first = remove one (length g.vectors)

  abbrev node : Node
  node = node_at (at_turn g turn) (sets_body side with_e first second)

  abbrev claim : Claim
  claim = set_claim (at_turn g turn) side (length g.vectors) one second

  sets : AreVectorSets g first second
  sets = numbers_of side g turn one second hold

  named : SetsOf side g turn (with_e_named g with_e first) second
  named = subst (λ (s : FinSet nat_cmp). SetsOf side g turn s second)
      (sym (named_again one (length g.vectors))) hold

  passes : (flaw : VecFlaw) → NodePasses g claim node flaw
  passes flaws.Form =
      for_body (λ (b : Body). names_sets b ≡ true) side with_e first second refl refl
  passes flaws.Position = record { x_marks = refl; y_marks = refl; to_move = refl; one_left = refl }
  passes flaws.Claimer = (of_side side with_e first second, refl)
  passes flaws.Trees = has_trees side g turn with_e first second sets named
  passes flaws.Cuts = has_cuts side g turn with_e first second sets named

  small : ArePoints first × ArePoints second
  small =
      let few = g.fits.few_vectors in (
        (λ f here. let low = sets.0 f here in omega (arith, low, few)),
        (λ f here. let low = sets.1 f here in omega (arith, low, few)),
      )

  in_range : IsNode node
  in_range = let few = g.fits.few_vectors in record {
    x = λ v here. let low = g.fits.x_range v here in omega (arith, low, few);
    y = λ v here. let low = g.fits.y_range v here in omega (arith, low, few);
    apart = g.fits.disjoint;
    turn = one_vector turn;
    body = for_body IsBody side with_e first second small small;
  }

  sound : IsSound g claim
  sound = record {
    valid = record {
      version_one = refl;
      one_node = refl;
      sound = λ other at flaw. subst (λ (m : Node). NodePasses g claim m flaw)
          (one_at claim.nodes 0 node other refl at) (passes flaw);
    };
    limits = record { some = omega arith; few = omega arith; nodes = all_one IsNode node in_range };
    version = all_one (λ (m : Node). has_body One m.body ≡ true) node
        (for_body (λ (b : Body). has_body One b ≡ true) side with_e first second refl refl);
  }

-- ---- the certificate

-- valid, and within the limits
abbrev pub IsSoundCertificate : VecGame → Cert → Type 0
IsSoundCertificate g certificate = IsVecValid g certificate × IsWithinLimits certificate

sound_two : (g : VecGame) (certificate : Cert) (one other : Claim)
    → certificate.version ≡ One
    → certificate.claims ≡ one ∷ other ∷ []
    → IsSound g one
    → IsSound g other
    → IsSoundCertificate g certificate
sound_two g certificate one other version two first second = (
  λ i claim at. subst (λ (v : Version). IsVecClaimValid g v claim) (sym version)
      (each claim i (subst (λ (cs : List Claim). slice_get cs i ≡ Some claim) two at)),
  record {
    some = subst (λ (cs : List Claim). 0 < length cs) (sym two) (omega arith);
    few = subst (λ (cs : List Claim). length cs ≤ MAX_CLAIMS) (sym two) (omega arith);
    claims = subst (λ (cs : List Claim). All IsClaim cs) (sym two)
        (all_two IsClaim one other first.limits second.limits);
    nodes = subst (λ (cs : List Claim). node_count cs ≤ MAX_NODES) (sym two)
        (let here = first.limits.few in let there = second.limits.few in omega (
          arith,
          here,
          there,
        ));
    bodies = subst₂ (λ (v : Version) (cs : List Claim). All (IsOfVersion v) cs) (sym version)
        (sym two) (all_two (IsOfVersion One) one other first.version second.version);
  },
) where
  each : (claim : Claim) (i : ℕ)
      → slice_get (one ∷ other ∷ []) i ≡ Some claim
      → IsVecClaimValid g One claim
  each claim zero here =
      let same : one ≡ claim = cc in
      subst (λ (c : Claim). IsVecClaimValid g One c) same first.valid
  each claim (suc zero) here =
      let same : other ≡ claim = cc in
      subst (λ (c : Claim). IsVecClaimValid g One c) same second.valid
  each claim (suc (suc i)) here = absurd (none-some claim here)

-- the claims of a class whose sets hold
sound_class : (g : VecGame) (certificate : Cert) (s : Class)
    → certificate.version ≡ One
    → certificate.claims ≡ class_claims (at_turn g X) (at_turn g Y) (length g.vectors) s
    → VectorSetsHold g s
    → IsSoundCertificate g certificate
sound_class g certificate (Short a1 a2) version two hold =
    sound_two g certificate _ _ version two (sound g X X a1 a2 hold.0) (sound g Y X a1 a2 hold.1)
sound_class g certificate (Cut d1 d2) version two hold =
    sound_two g certificate _ _ version two (sound g X Y d1 d2 hold.0) (sound g Y Y d1 d2 hold.1)
sound_class g certificate (First a1 a2 d1 d2) version two hold =
    sound_two g certificate _ _ version two (sound g X X a1 a2 hold.0) (sound g Y Y d1 d2 hold.1)

-- the claims, with the positions and e as the calls tell them
pub told_claims : (g : VecGame) (s : Class) (with_x with_y : Position) (e : ℕ) (claims : List Claim)
    → with_x ≡ at_turn g X
    → with_y ≡ at_turn g Y
    → e ≡ length g.vectors
    → claims ≡ class_claims with_x with_y e s
    → claims ≡ class_claims (at_turn g X) (at_turn g Y) (length g.vectors) s
told_claims g s with_x with_y e claims is_x is_y is_e is = rw (sym is_x, sym is_y, sym is_e) is

pub told_sound : (g : VecGame) (s : Class) (certificate : Cert) (with_x with_y : Position) (e : ℕ)
    → certificate.version ≡ One
    → VectorSetsHold g s
    → with_x ≡ at_turn g X
    → with_y ≡ at_turn g Y
    → e ≡ length g.vectors
    → certificate.claims ≡ class_claims with_x with_y e s
    → IsSoundCertificate g certificate
told_sound g s certificate with_x with_y e version hold is_x is_y is_e is =
    sound_class g certificate s version
    (told_claims g s with_x with_y e certificate.claims is_x is_y is_e is) hold
