-- When a certificate is worth folding: the game has a symmetry, and the folded certificate may be
-- unfolded again.
use Rattle.std.specs.Prelude.{◌⊎◌, Option, Some, None}
use Rattle.pg_fold.specs.Prelude.{Cert, Game, ImageCert, HasSymmetry, HaveRoom}
use Rattle.pg_fold.specs.Folded.{IsFolded}

-- the game is symmetric, and the certificate folded is this one, whose claims have few enough nodes
-- unfolded
pub record FoldsWell (g : Game) (c : Cert) (d : ImageCert) : Type 0 where
  pub symmetric : HasSymmetry g
  pub folded : IsFolded g c d
  pub room : HaveRoom d.claims

-- unfolded, a claim of the folded certificate has too many nodes, or all its claims together have
pub record LacksRoom (g : Game) (c : Cert) : Type 0 where
  pub certificate : ImageCert
  pub folded : IsFolded g c certificate
  pub full : HaveRoom certificate.claims → ⊥

-- the certificate folded well, or none where the game isn't symmetric or the folded one lacks room
abbrev pub IsFoldedWell : Game → Cert → Option ImageCert → Type 0
IsFoldedWell g c None = (HasSymmetry g → ⊥) ⊎ LacksRoom g c
IsFoldedWell g c (Some d) = FoldsWell g c d
