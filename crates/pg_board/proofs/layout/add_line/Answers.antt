use Rattle.std.proofs.Common.{◌≡◌, ◌<◌, ◌+◌, ◌++◌, ◌∷◌, ℕ, [], length, get_or, set, arith, ap, ◌∙◌}
use Rattle.std.proofs.Common.{sym, subst, List}
use Rattle.std.proofs.lemmas.List.{get_or_read, get_or_default}
use Rattle.pg_board.proofs.Gathering.{AreGathering, gathering-start, gathering-step, gathering-end}
use Rattle.pg_board.proofs.layout.add_line.Goals as goal

pub loop-v-init : goal.loop-v-init
loop-v-init c = gathering-start c.args.lines.now c.args.i (length c.args.rows.now) c.args.rows.now
    (λ i. length c.args.rows.now) c.requires.before

pub loop-v-preserved : goal.loop-v-preserved
loop-v-preserved c =
    let line = c.as_slice-v-items.ensures
    ∙ get_or_read c.args.lines.now c.args.i c.index-lines-i.result c.requires.low c.index-lines-i.is
    [] in
    let place = ap length line in
    let point : c.from.result ≡ get_or (get_or c.args.lines.now c.args.i []) c.loop-v.v-index 0 =
    c.from.ensures ∙ ap (λ (xs : List ℕ). get_or xs c.loop-v.v-index 0) line in
    let at : c.loop-v.v-index < length (get_or c.args.lines.now c.args.i []) =
    omega (arith, c.loop-v-test.true) in
    let low : c.from.result < length c.args.rows.now =
    rw point (c.requires.range c.args.i [] c.requires.low c.loop-v.v-index 0 at) in
    let low_now : c.from.result < length c.loop-v.rows =
    omega (arith, low, c.loop-v.invariant.count) in
    let row = get_or_default c.loop-v.rows c.from.result c.index-rows-from.result [] low_now in
    let now : c.push.new.self ≡ get_or c.loop-v.rows c.from.result [] ++ c.args.i ∷ [] =
    c.in_ok-push.ensures ∙ ap (λ (xs : List ℕ). xs ++ c.args.i ∷ []) row in
    let step = gathering-step c.args.lines.now c.args.i c.loop-v.v-index
    (length c.args.rows.now) c.loop-v.rows c.from.result
    (c.requires.ascending c.args.i [] c.requires.low) at point low c.loop-v.invariant in
    subst
    (λ (xs : List ℕ). AreGathering c.args.lines.now c.args.i (c.loop-v.v-index + 1)
    (length c.args.rows.now) (set c.loop-v.rows c.from.result xs)) (sym now) step

pub returns : goal.returns
returns c =
    let line = c.as_slice-v-items.ensures
    ∙ get_or_read c.args.lines.now c.args.i c.index-lines-i.result c.requires.low c.index-lines-i.is
    [] in
    let place = ap length line in
    gathering-end c.args.lines.now c.args.i c.loop-v.v-index (length c.args.rows.now) c.loop-v.rows
    (omega (arith, c.loop-v.auto.v-index-end)) c.loop-v.invariant
