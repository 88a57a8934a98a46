use Rattle.std.proofs.Common.{◌∙◌, ◌<◌, ℕ, List, ap, get_or, length, subst, sym}
use Rattle.std.specs.Prelude.{codes, string_bytes}
use Rattle.pg_game.specs.Game.{lines_of}
use Rattle.pg_table.specs.OpenLines.{is_kept, line_text, shown_lines}
use Rattle.pg_table.specs.declared.open_lines.TheConstants.{MAX_SHOWN_LINES}
use Rattle.pg_table.proofs.Kept.{cut_text}
use Rattle.pg_table.proofs.open_lines.put_first.Goals as goal

pub returns-then-count-eq-MAX_SHOWN_LINES : goal.returns-then-count-eq-MAX_SHOWN_LINES
unfolding shown_lines
returns-then-count-eq-MAX_SHOWN_LINES c =
    let game = c.args.game.now in
    let keeps = is_kept game.kind c.args.position.now c.args.through in
    let i = c.loop-line.line-index in
    let same = c.lines-line-items.ensures.lines in
    let item = c.line-item.is ∙ ap (λ (xs : List (List ℕ)). get_or xs i c.line-item.result) same in
    let passes = ap keeps (sym item) ∙ sym c.is_kept.ensures ∙ c.if-is_kept.true in
    let inside : i < length (lines_of game) =
    subst (λ (xs : List (List ℕ)). i < length xs) same c.loop-line-test.true in
    cut_text keeps (line_text game.field) (lines_of game) i MAX_SHOWN_LINES c.line-item.result
    (string_bytes c.args.out.now) _ _ (codes " ..\n") inside passes
    (sym c.loop-line.invariant.0 ∙ c.if-count-eq-MAX_SHOWN_LINES.true) c.loop-line.invariant.2
    c.in_ok-push_str.ensures.bytes
