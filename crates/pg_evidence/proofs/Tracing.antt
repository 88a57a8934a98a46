-- From which node each node of an unfolding came.
use Rattle.std.proofs.Common.{◌≡◌, ℕ, ◌<◌, List, [], ◌∷◌, length, map, slice_get, get_or, Option}
use Rattle.std.proofs.Common.{Some, None, option_map, Result, Err, refl, sym, ◌∙◌, ap, ap₂, subst}
use Rattle.std.proofs.Common.{arith}
use Rattle.pg_evidence.proofs.Common.{length-map, IsWithinLimits, IsFirstFault, Cert, Claim}
use Rattle.pg_evidence.proofs.Common.{CheckFault, Game, ImageCert, ImageClaim, AreUnfolded}
use Rattle.pg_evidence.proofs.Common.{IsCopied, IsUnfolded, IsUnfoldedCert, Unfolded}
use Rattle.std.proofs.lemmas.Option.{slice_get-get_or, slice_get-map, slice_get_within}
use Rattle.pg_check.specs.declared.checked.CheckFault.TheVariants.{Reject}
use Rattle.pg_maps.specs.Images.{board_of}
use Rattle.pg_unfold.specs.Copies.{Copy}
use Rattle.pg_unfold.proofs.ClaimSteps.{zip-length}
use Rattle.pg_evidence.specs.Standing.{CameFromIn, HasFault, HasFaultIn, HasSource, HaveSources}
use Rattle.pg_evidence.specs.Standing.{IsStanding, IsTraced, StandsFor}
use Rattle.pg_evidence.specs.declared.evidence.Evidence.{Evidence}
use Rattle.pg_evidence.specs.declared.evidence.Evidence.TheVariants.{Plain, Folded}
use Rattle.pg_evidence.specs.declared.standing.Standing.{Standing}

-- how many nodes a claim has
abbrev pub node_number : Claim → ℕ
node_number claim = length claim.nodes

counted : (g : Game) (c : ImageClaim) (claim : Claim) (origins : List ℕ)
    → IsUnfolded g c claim origins
    → length origins ≡ length claim.nodes
counted g c claim origins u = ap length u.came
    ∙ length-map u.copies (λ (copy : Copy). copy.node)
    ∙ zip-length (IsCopied (board_of g.field) c.nodes u.copies) u.copies claim.nodes u.nodes

-- there are as many numbers as nodes
have_sources : (g : Game) (cs : List ImageClaim) (claims : List Claim) (sources : List (List ℕ))
    → AreUnfolded g cs claims sources
    → map length sources ≡ map node_number claims
have_sources g [] [] [] h = refl
have_sources g [] [] (o ∷ os) h = absurd h
have_sources g [] (d ∷ ds) [] h = absurd h
have_sources g [] (d ∷ ds) (o ∷ os) h = absurd h
have_sources g (b ∷ bs) [] [] h = absurd h
have_sources g (b ∷ bs) [] (o ∷ os) h = absurd h
have_sources g (b ∷ bs) (d ∷ ds) [] h = absurd h
have_sources g (b ∷ bs) (d ∷ ds) (o ∷ os) h =
    ap₂ (λ (n : ℕ) (ns : List ℕ). n ∷ ns) (counted g b d o h.0) (have_sources g bs ds os h.1)

-- the unfolding, as it stands for a certificate with images
abbrev pub unfolding_of : Unfolded → Standing
unfolding_of u = record { cert = u.cert; sources = Some u.sources }

pub traced : (g : Game) (c : ImageCert) (u : Unfolded)
    → IsUnfoldedCert g c u
    → IsWithinLimits u.cert
    → IsTraced (unfolding_of u)
traced g c u h limits =
    record { limits = limits; sources = have_sources g c.claims u.cert.claims u.sources h.claims }

-- the numbers of a claim's nodes
source : (sources : List (List ℕ)) (claims : List Claim)
    → map length sources ≡ map node_number claims
    → (i : ℕ) (claim : Claim) → slice_get claims i ≡ Some claim
    → (origins : List ℕ) × (slice_get sources i ≡ Some origins)
    × (length origins ≡ length claim.nodes)
source sources claims same i claim at = go (slice_get sources i) refl lengths where
  lengths : option_map length (slice_get sources i) ≡ Some (length claim.nodes)
  lengths = sym (slice_get-map length sources i)
      ∙ ap (λ (ns : List ℕ). slice_get ns i) same
      ∙ slice_get-map node_number claims i
      ∙ ap (option_map node_number) at

  go : (o : Option (List ℕ))
      → slice_get sources i ≡ o
      → option_map length o ≡ Some (length claim.nodes)
      → (origins : List ℕ) × (slice_get sources i ≡ Some origins)
      × (length origins ≡ length claim.nodes)
  go None is e = absurd (cc e)
  go (Some origins) is e = (origins, is, cc e)

-- the faulty node came from one
pub has_source : (g : Game) (s : Standing) (claim place why : ℕ)
    → IsTraced s
    → IsFirstFault g s.cert claim place why
    → HasSource s.sources claim place
has_source g s claim place why t f = go s.sources t.sources where
  go : (o : Option (List (List ℕ))) → HaveSources s.cert.claims o → HasSource o claim place
  go None h = (place, refl)
  go (Some sources) h =
      let found = source sources s.cert.claims h claim f.faulty f.claim_at in
      let known = slice_get_within f.faulty.nodes place f.faulty_node f.node_at in
      let same = found.2 in
      let within : place < length found.0 = omega (arith, known, same) in (
        get_or found.0 place 0,
        record {
          origins = found.0;
          at_claim = found.1;
          at_place = slice_get-get_or found.0 place 0 within;
        },
      )

-- the fault is said of the node from which the faulty one came
pub faulty_in : {T : Type 0} (g : Game) (s : Standing) (i place k w : ℕ)
    → IsFirstFault g s.cert i place w
    → CameFromIn s.sources i place k
    → (claim node why : ℕ)
    → ◌≡◌ {A = Result T CheckFault} (Err (Reject i k w)) (Err (Reject claim node why))
    → HasFaultIn g s claim node why
faulty_in {T} g s i place k w first came claim node why e =
    let same : Reject i k w ≡ Reject claim node why = cc e in
    let one : i ≡ claim = cc same in
    let two : k ≡ node = cc same in
    let three : w ≡ why = cc same in
    record {
      place = place;
      first = subst (λ (n : ℕ). IsFirstFault g s.cert claim place n) three
          (subst (λ (n : ℕ). IsFirstFault g s.cert n place w) one first);
      from = subst (λ (n : ℕ). CameFromIn s.sources claim place n) two
          (subst (λ (n : ℕ). CameFromIn s.sources n place k) one came);
    }

-- ---- what was made of either form

-- it is the certificate for which this one stands
pub stands_for : (g : Game) (e : Evidence) (s : Standing) → IsStanding g e s → StandsFor g e s.cert
stands_for g (Plain c) s is = is.0
stands_for g (Folded c) s (u, unfolds, same, from) = (u, unfolds, same)

-- its fault is that of this one
pub stood_fault : (g : Game) (e : Evidence) (s : Standing) (claim node why : ℕ)
    → IsStanding g e s
    → HasFaultIn g s claim node why
    → HasFault g e claim node why
stood_fault g (Plain c) s claim node why is fault =
    let at : node ≡ fault.place =
    subst (λ (o : Option (List (List ℕ))). CameFromIn o claim fault.place node) is.1 fault.from in
    subst (λ (n : ℕ). IsFirstFault g c claim n why) (sym at)
    (subst (λ (cert : Cert). IsFirstFault g cert claim fault.place why) is.0 fault.first)
stood_fault g (Folded c) s claim node why (u, unfolds, same, from) fault = (
  u,
  unfolds,
  fault.place,
  subst (λ (cert : Cert). IsFirstFault g cert claim fault.place why) same fault.first,
  subst (λ (o : Option (List (List ℕ))). CameFromIn o claim fault.place node) from fault.from,
)
