-- A checking that is fed with the nodes of an unfolding one after the other, and what it finds.
use Rattle.std.specs.Prelude.{◌≡◌, ℕ, ◌+◌, ◌<◌, ◌≤◌, List, [], ◌∷◌, ◌++◌, length, map, sum_by}
use Rattle.std.specs.Prelude.{Option, Some, None, Result, Ok, Err}
use Rattle.pg_evidence.specs.Prelude.{AreUnfolded, BeginCert, Claim, Game, ImageCert, ImageClaim}
use Rattle.pg_evidence.specs.Prelude.{IsClaim, IsNode, IsUnfolded, MAX_CLAIMS, MAX_NODES, Node}
use Rattle.pg_evidence.specs.Prelude.{Part, all_parts, node_count}
use Rattle.pg_cert.specs.declared.part.Part.TheVariants as parts
use Rattle.std.specs.List.{All}
use Rattle.pg_check.specs.Checking.{StandsFor as IsChecked}
use Rattle.pg_check.specs.declared.checking.Checking.{Checking}
use Rattle.pg_check.specs.declared.checking.Rejected.{Rejected}
use Rattle.pg_unfold.specs.Layouts.{AreCopiedBelow, origins_in, size_in}
use Rattle.pg_unfold.specs.declared.layout.Layout.{Layout}
use Rattle.pg_evidence.specs.Standing.{HasFault, ShowsValid}
use Rattle.pg_evidence.specs.declared.evidence.Evidence.TheVariants.{Folded}

-- the node, where there is one
abbrev pub listed : Option Node → List Node
listed None = []
listed (Some node) = node ∷ []

-- ---- the nodes of a claim

-- some parts were checked, and with so many nodes behind them, of whatever kind, they begin a
-- certificate
pub record IsOpenFor (c : Checking) (count : ℕ) : Type 0 where
  pub fed : List Part
  pub stands : IsChecked c fed
  pub begins : (nodes : List Node)
      → All IsNode nodes
      → length nodes ≤ count
      → BeginCert (fed ++ map parts.Node nodes)

-- from the first checking to the present one, the nodes were fed that the copies with lower numbers
-- give
pub record HasFed (g : Game) (c : ImageClaim) (l : Layout) (first : Checking) (key : ℕ)
    (now : Checking) : Type 0 where
  pub nodes : List Node
  pub copied : AreCopiedBelow g c l key nodes
  pub stands : (fed : List Part)
      → IsChecked first fed
      → IsChecked now (fed ++ map parts.Node nodes)

-- ---- claims

-- some claims were checked, and one more with so many nodes is within the limits
pub record HasRoomFor (c : Checking) (count : ℕ) : Type 0 where
  pub whole : List Claim
  pub stands : IsChecked c (all_parts whole)
  pub limits : All IsClaim whole
  pub few : length whole < MAX_CLAIMS
  pub nodes : node_count whole + count ≤ MAX_NODES

-- a claim was unfolded, and checked with those before it
pub record IsFedClaim (g : Game) (c : ImageClaim) (l : Layout) (whole : List Claim)
    (now : Checking) : Type 0 where
  pub claim : Claim
  pub unfolded : IsUnfolded g c claim (origins_in c l)
  pub limits : IsClaim claim
  pub size : length claim.nodes ≡ size_in l
  pub stands : IsChecked now (all_parts (whole ++ claim ∷ []))

-- these claims were unfolded, from these nodes, and checked
pub record AreFed (g : Game) (cs : List ImageClaim) (layouts : List Layout)
    (sources : List (List ℕ)) (now : Checking) : Type 0 where
  pub claims : List Claim
  pub unfolded : AreUnfolded g cs claims sources
  pub limits : All IsClaim claims
  pub nodes : node_count claims ≡ sum_by size_in layouts
  pub stands : IsChecked now (all_parts claims)

-- ---- what is found

-- what it stands for is valid; or its first fault
abbrev pub FindsInFolded : Game → ImageCert → Result Unit Rejected → Type 0
FindsInFolded g c (Ok t) = ShowsValid g (Folded c)
FindsInFolded g c (Err r) = HasFault g (Folded c) r.claim r.node r.why
