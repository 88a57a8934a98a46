-- The lines of screens and answers fit into rows.
use Rattle.std.proofs.Common.{◌≡◌, ◌∙◌, ℕ, ◌<◌, ◌≤◌, ◌^◌, ◌++◌, ap, arith, refl, subst}
use Rattle.std.specs.Prelude.{codes, Option, Some, None}
use Rattle.std.proofs.Common.{append_assoc}
use Rattle.pg_characters.proofs.Fit.{Whole, rows_keep, whole_and, whole_fits, whole_rows, wide_fits}
use Rattle.pg_table.proofs.PrintedBoards.{whole_board}
use Rattle.pg_table.proofs.PrintedLines.{whole_goals, whole_help, whole_open, whole_result}
use Rattle.pg_table.proofs.PrintedLines.{wide_turn}
use Rattle.pg_playing.proofs.Common.{Bytes, FitsIn, Game, Position, ReplyFault, Score, Shown}
use Rattle.pg_playing.proofs.Common.{board_text, goals_text, result_text, turn_text}
use Rattle.pg_messages.specs.declared.message.ReplyFault.TheVariants as faults
use Rattle.pg_playing.specs.Notes.{note_text, why_text}
use Rattle.pg_playing.specs.Screens.{answer_text, shown_text}
use Rattle.pg_playing.specs.declared.note.Note.{Note}
use Rattle.pg_playing.specs.declared.note.Note.TheVariants as notes

whole_feed : (most : ℕ) → 80 ≤ most → Whole most (codes "\n")
unfolding rows_keep
whole_feed most wide = whole_rows most (codes "\n") wide refl

-- what is on a screen before whose turn it is
whole_screen : (g : Game) (shown : Shown)
    → 80 ≤ shown.look.columns
    → Whole shown.look.columns (codes "\n" ++ (goals_text g ++ board_text g shown))
whole_screen g shown wide =
    let most = shown.look.columns in
    whole_and most (codes "\n") (goals_text g ++ board_text g shown) (whole_feed most wide)
    (whole_and most (goals_text g) (board_text g shown) (whole_goals most g wide)
    (whole_board g shown wide))

-- a screen is that, and then who has won or whose turn it is
in_parts : (feed goals board ending : Bytes)
    → (feed ++ (goals ++ board)) ++ ending ≡ feed ++ (goals ++ (board ++ ending))
in_parts feed goals board ending = append_assoc feed (goals ++ board) ending
    ∙ ap (λ (t : Bytes). feed ++ t) (append_assoc goals board ending)

pub screens_fit : (g : Game) (shown : Shown) (ending : Option Score)
    → 80 ≤ shown.look.columns
    → shown.position.left < 2 ^ 8
    → FitsIn shown.look.columns (shown_text g shown ending)
unfolding shown_text
screens_fit g shown None wide few =
    subst (FitsIn shown.look.columns)
    (in_parts (codes "\n") (goals_text g) (board_text g shown) (turn_text shown.position))
    (wide_fits shown.look.columns 80 (codes "\n" ++ (goals_text g ++ board_text g shown))
    (turn_text shown.position) (whole_screen g shown wide)
    (wide_turn shown.position (omega (arith, few))) wide)
screens_fit g shown (Some score) wide few =
    subst (FitsIn shown.look.columns)
    (in_parts (codes "\n") (goals_text g) (board_text g shown) (result_text score))
    (whole_fits shown.look.columns
    ((codes "\n" ++ (goals_text g ++ board_text g shown)) ++ result_text score)
    (whole_and shown.look.columns (codes "\n" ++ (goals_text g ++ board_text g shown))
    (result_text score) (whole_screen g shown wide)
    (whole_result shown.look.columns score wide)))

whole_why : (fault : ReplyFault) → Whole 80 (why_text fault)
unfolding rows_keep
whole_why faults.NoNumber = whole_rows 80 (why_text faults.NoNumber) (omega arith) refl
whole_why faults.NoPoint = whole_rows 80 (why_text faults.NoPoint) (omega arith) refl
whole_why faults.Over = whole_rows 80 (why_text faults.Over) (omega arith) refl
whole_why faults.Taken = whole_rows 80 (why_text faults.Taken) (omega arith) refl
whole_why faults.NothingToTakeBack =
    whole_rows 80 (why_text faults.NothingToTakeBack) (omega arith) refl

pub whole_note : (g : Game) (p : Position) (note : Note) → Whole 80 (note_text g p note)
whole_note g p notes.Help = whole_help 80 g (omega arith)
whole_note g p (notes.Lines through) = whole_open 80 g p through (omega arith)
whole_note g p (notes.Refused fault) = whole_why fault

pub answers_fit : (g : Game) (p : Position) (note : Note)
    → p.left < 2 ^ 8
    → FitsIn 80 (answer_text g p note)
answers_fit g p note few = wide_fits 80 80 (note_text g p note) (turn_text p) (whole_note g p note)
    (wide_turn p (omega (arith, few))) (omega arith)
