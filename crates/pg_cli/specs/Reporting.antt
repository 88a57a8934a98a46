-- What a report says.
use Rattle.std.specs.Prelude.{◌≡◌, ◌⊎◌, ℕ, List, [], ◌∷◌, Result, Ok, Err}
use Rattle.pg_cli.specs.Prelude.{Bytes, Entry, Said, Game, HasFault, HasImageFault, ShowsValid}
use Rattle.pg_cli.specs.Prelude.{heads_of_evidence, Evidence, Refusal, DONE, REFUSED, End, Finished}
use Rattle.pg_cli.specs.Prelude.{Failed, Starved, IsSaidBy, Halt, Refused}
use Rattle.pg_files.specs.GameFile.{Entry as GameEntry}
use Rattle.pg_cli.specs.Report.{report_text, rejection_text}
use Rattle.pg_cli.specs.declared.code.Code.{Code}
use Rattle.pg_cli.specs.declared.code.Code.TheVariants.{Node, Image}

-- the certificate for which it stands is valid, and the text tells its claims
pub record TellsClaims (g : Game) (e : Evidence) (text : Bytes) (status : ℕ) : Type 0 where
  pub valid : ShowsValid g e
  pub text_is : text ≡ report_text g (heads_of_evidence e)
  pub status_is : status ≡ DONE

-- this is the first fault: of the certificate for which it stands, or by which it stands for none
abbrev pub HasCode : Game → Evidence → ℕ → ℕ → Code → Type 0
HasCode g e claim node (Node why) = HasFault g e claim node why
HasCode g e claim node (Image why) = HasImageFault g e claim node why

-- the certificate is rejected, and the text tells its first fault
pub record TellsFault (g : Game) (e : Evidence) (text : Bytes) (status : ℕ) : Type 0 where
  pub claim : ℕ
  pub node : ℕ
  pub code : Code
  pub first : HasCode g e claim node code
  pub text_is : text ≡ rejection_text claim node code
  pub status_is : status ≡ REFUSED

-- what there is to say of a certificate for a game, with the status that goes with it
abbrev pub Accounts : Game → Evidence → Bytes → ℕ → Type 0
Accounts g e text status = TellsClaims g e text status ⊎ TellsFault g e text status

-- what stands against a report of what was read: a fault of a file alone, for that the certificate
-- is rejected is what a report tells
abbrev pub RefusesReport : Result (GameEntry × Evidence) Halt → Refusal → Type 0
RefusesReport read refusal = read ≡ Err (Refused refusal)

-- what there is to say of what was read is said at once; where that fails, nothing is said
abbrev pub Reports : Result (GameEntry × Evidence) Halt → List Entry → End → Type 0
Reports (Err halt) entries end = ⊥
Reports (Ok pair) entries (Finished status) = (g : Game) × IsSaidBy pair.0 g
    × (text : Bytes) × Accounts g pair.1 text status
    × (entries ≡ Said text ∷ [])
Reports (Ok pair) entries Failed = ⊥
Reports (Ok pair) entries Starved = ⊥

-- with which status a report ends
abbrev pub IsReportEnd : ℕ → Type 0
IsReportEnd status = (status ≡ DONE) ⊎ (status ≡ REFUSED)
