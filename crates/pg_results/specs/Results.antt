-- What shows a result: its certificate, the file of that, and what is said of it.
use Rattle.std.specs.Prelude.{◌≡◌, ◌⊎◌, Bool, true, false, map, [], Option, Some, None, Ok}
use Rattle.pg_results.specs.Prelude.{Bytes, Cert, Cut, First, FoldsWell, Game, ImageCert}
use Rattle.pg_results.specs.Prelude.{IsFaultless, IsFoldedWell, IsImageWithinLimits, IsTrueOf}
use Rattle.pg_results.specs.Prelude.{IsUnfoldedCert, IsValid, IsWithinLimits, Short, Solution}
use Rattle.pg_results.specs.Prelude.{Unfolded, Unknown, Value, certificate_of, class_cut_text}
use Rattle.pg_results.specs.Prelude.{class_first_mover_text, class_short_text, due, entry, game}
use Rattle.pg_results.specs.Prelude.{heading, is_class, is_switching, printed_certificate}
use Rattle.pg_results.specs.Prelude.{printed_image_certificate, result_text}
use Rattle.pg_cert.specs.declared.cert.Version.TheVariants.{One}
use Rattle.pg_solve.specs.declared.solution.Class.{Class}
use Rattle.pg_solve.specs.declared.solution.Solution.TheVariants.{Class as ForClass}

-- the text of a class
abbrev pub class_text : Class → Bytes
class_text Short = class_short_text
class_text Cut = class_cut_text
class_text First = class_first_mover_text

-- the text of what was found
abbrev pub solution_text : Game → Solution → Bytes
solution_text g (Value score certificate) = result_text g.kind score
solution_text g (ForClass class certificate) = class_text class
solution_text g Unknown = []

-- the certificate shows what was found: the value of a game on lines from its position, or the
-- class of a switching game
pub record Shows (g : Game) (solution : Solution) (c : Cert) : Type 0 where
  pub own : certificate_of solution ≡ Some c
  pub kind : is_class solution ≡ is_switching g.kind
  pub holds : IsTrueOf g solution
  pub valid : IsValid g c
  pub limits : IsWithinLimits c
  pub version : c.version ≡ One
  -- the claims are those that are due, by turn, side and goal
  pub claims : map heading c.claims ≡ due g.turn solution

-- the certificate folded, which has no fault, and stands for valid certificates alone, with the
-- same claims
pub record IsFoldedFrom (g : Game) (c : Cert) (folded : ImageCert) : Type 0 where
  pub well : FoldsWell g c folded
  pub faultless : IsFaultless g folded
  pub limits : IsImageWithinLimits folded
  pub valid : (u : Unfolded) → IsUnfoldedCert g folded u → IsValid g u.cert
  pub claims : (u : Unfolded)
      → IsUnfoldedCert g folded u
      → map heading u.cert.claims ≡ map heading c.claims

-- THE FILE of a certificate: as it is printed; or where images are asked for, as the folded one is
-- printed, unless the game isn't symmetric or the folded one lacks room
abbrev pub IsFileOf : Bool → Game → Cert → Bytes → Type 0
IsFileOf false g c text = text ≡ printed_certificate c
IsFileOf true g c text =
    ((folded : ImageCert) × IsFoldedFrom g c folded × (text ≡ printed_image_certificate folded))
    ⊎ (IsFoldedWell g c None × (text ≡ printed_certificate c))

-- these bytes say this game
pub record SaysGame (bytes : Option Bytes) (g : Game) : Type 0 where
  pub text : Bytes
  pub held : bytes ≡ Some text
  pub said : game text ≡ Ok (entry g)
