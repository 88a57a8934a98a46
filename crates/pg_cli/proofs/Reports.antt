-- Reports, put together.
use Rattle.std.proofs.Common.{◌≡◌, ℕ, [], ◌∷◌, Ok, Err, refl, inl, inr}
use Rattle.pg_cli.proofs.Common.{ConsoleTold, Grows, Bytes, Said, Stop, Game, Evidence, Finished}
use Rattle.pg_cli.proofs.Common.{Performs, stop_end, REFUSED, Stopped, silent, talked_texts}
use Rattle.pg_cli.specs.Reading.{read_of}
use Rattle.pg_cli.specs.Report.{rejection_text}
use Rattle.pg_cli.specs.declared.code.Code.{Code}
use Rattle.pg_cli.specs.Reporting.{Accounts, HasCode, RefusesReport, Reports}

-- ---- on a console

module _ (g : Game) (e : Evidence) (before after : ConsoleTold) where
  -- what there is to say was said
  pub reported : (text : Bytes) (status : ℕ)
      → Accounts g e text status
      → Grows before.log after.log (Said text ∷ [])
      → after.left ≡ before.left
      → Performs (RefusesReport (read_of g e)) (Reports (read_of g e)) before after (Ok status)
  reported text status told says left = (
    Said text ∷ [],
    (g, refl, text, told, refl),
    talked_texts (Finished status) before after (text ∷ []) says left,
  )

  -- nothing was said
  pub unreported : (stop : Stop)
      → after.log ≡ before.log
      → after.left ≡ before.left
      → Performs (RefusesReport (read_of g e)) (Reports (read_of g e)) before after
      (Err (Stopped stop))
  unreported stop same left = ([], inl refl, silent (stop_end stop) before after same left)

-- ---- what there is to say

-- the first fault is told
pub told_fault : (g : Game) (e : Evidence) (claim node : ℕ) (code : Code) (text : Bytes)
    → HasCode g e claim node code
    → text ≡ rejection_text claim node code
    → Accounts g e text REFUSED
told_fault g e claim node code text first is = inr (record {
  claim = claim;
  node = node;
  code = code;
  first = first;
  text_is = is;
  status_is = refl;
})
