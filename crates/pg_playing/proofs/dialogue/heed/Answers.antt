use Rattle.std.proofs.Common.{◌≡◌, ◌≤◌, ◌∙◌, ap, arith, inr, refl}
use Rattle.pg_playing.proofs.Common.{point_count, point_count-le}
use Rattle.pg_table.specs.declared.reply.Reply.TheVariants.{Point}
use Rattle.pg_playing.specs.Dialogue.{Notes, note_of_lines}
use Rattle.pg_playing.specs.declared.note.Note.{Note}
use Rattle.pg_playing.proofs.Dialogues.{turns_claim}
use Rattle.pg_playing.proofs.dialogue.heed.Goals as goal

pub returns-in-Ok-clause-leads : goal.returns-in-Ok-clause-leads
returns-in-Ok-clause-leads g c =
    let number : c.in-Point.number ≡ c.in-Ok.point = omega (arith, c.in-Ok.ensures) in
    λ heard. turns_claim (g.B.Bout.rules c.args.bout.now) (g.B.Bout.at c.args.bout.now) _ heard
    c.in-Ok.point c.args.reply c.claim.result (c.in-Point.is ∙ ap Point number)
    (c.claim.ensures.claims heard)

pub returns-in-Err-clause-leads : goal.returns-in-Err-clause-leads
returns-in-Err-clause-leads g c =
    let game = (g.B.Bout.rules c.args.bout.now).game in
    let great : point_count game ≤ c.in-Point.number =
    omega (arith, point_count-le game, c.in-Err.ensures) in
    λ heard. rw c.in-Point.is (inr (great, refl))

pub returns-in-Undo-clause-leads : goal.returns-in-Undo-clause-leads
returns-in-Undo-clause-leads g c = rw c.in-Undo.is c.undo.ensures.undoes

pub returns-in-Lines-clause-leads : goal.returns-in-Lines-clause-leads
returns-in-Lines-clause-leads g c =
    let here = g.B.Bout.at c.args.bout.now in
    λ heard. rw c.in-Lines.is
    (ap (λ (n : Note). Notes here heard n)
    (c.note_of_lines.ensures ∙ (λ i. note_of_lines (c.game.ensures i) c.in-Lines.through)))

pub returns-in-Help-clause-leads : goal.returns-in-Help-clause-leads
returns-in-Help-clause-leads g c = λ heard. rw c.in-Help.is refl

pub returns-in-Quit-clause-leads : goal.returns-in-Quit-clause-leads
returns-in-Quit-clause-leads g c = λ heard. rw c.in-Quit.is refl

pub returns-in-NoCell-clause-leads : goal.returns-in-NoCell-clause-leads
returns-in-NoCell-clause-leads g c = λ heard. rw c.in-NoCell.is refl

pub returns-in-Unclear-clause-leads : goal.returns-in-Unclear-clause-leads
returns-in-Unclear-clause-leads g c = λ heard. rw c.in-Unclear.is refl
