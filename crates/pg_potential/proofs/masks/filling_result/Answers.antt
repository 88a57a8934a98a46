use Rattle.std.proofs.Common.{◌≡◌, ◌∙◌, true, false, refl, sym}
use Rattle.pg_potential.proofs.Common.{is_filled, is_full, is_touched, lines_of, list_all, list_any}
use Rattle.pg_potential.proofs.masks.filling_result.Goals as goal

pub returns-then-fill_some : goal.returns-then-fill_some
returns-then-fill_some c =
    let g = c.args.g.now in
    let filled : list_any (is_filled c.args.p.now.x) (lines_of g) ≡ true =
    sym (c.fill_some.ensures (lines_of g) c.requires) ∙ c.if-fill_some.true in
    rw filled refl

pub returns-then-touch_all : goal.returns-then-touch_all
returns-then-touch_all c =
    let g = c.args.g.now in
    let filled : list_any (is_filled c.args.p.now.x) (lines_of g) ≡ false =
    sym (c.fill_some.ensures (lines_of g) c.requires) ∙ c.if-fill_some.false in
    let touched : list_all (is_touched c.args.p.now.y) (lines_of g) ≡ true =
    sym (c.touch_all.ensures (lines_of g) c.requires) ∙ c.if-touch_all.true in
    rw (filled, touched) refl

pub returns-then-is_full : goal.returns-then-is_full
returns-then-is_full c =
    let g = c.args.g.now in
    let filled : list_any (is_filled c.args.p.now.x) (lines_of g) ≡ false =
    sym (c.fill_some.ensures (lines_of g) c.requires) ∙ c.if-fill_some.false in
    let touched : list_all (is_touched c.args.p.now.y) (lines_of g) ≡ false =
    sym (c.touch_all.ensures (lines_of g) c.requires) ∙ c.if-touch_all.false in
    let full : is_full g c.args.p.now ≡ true = sym c.is_full.ensures ∙ c.if-is_full.true in
    rw (filled, touched, full) refl

pub returns-else-is_full : goal.returns-else-is_full
returns-else-is_full c =
    let g = c.args.g.now in
    let filled : list_any (is_filled c.args.p.now.x) (lines_of g) ≡ false =
    sym (c.fill_some.ensures (lines_of g) c.requires) ∙ c.if-fill_some.false in
    let touched : list_all (is_touched c.args.p.now.y) (lines_of g) ≡ false =
    sym (c.touch_all.ensures (lines_of g) c.requires) ∙ c.if-touch_all.false in
    let full : is_full g c.args.p.now ≡ false = sym c.is_full.ensures ∙ c.if-is_full.false in
    rw (filled, touched, full) refl
