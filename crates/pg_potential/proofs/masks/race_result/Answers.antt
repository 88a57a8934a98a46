use Rattle.std.proofs.Common.{◌≡◌, ◌∙◌, true, false, refl, sym}
use Rattle.pg_potential.proofs.Common.{is_filled, is_full, lines_of, list_any}
use Rattle.pg_potential.proofs.masks.race_result.Goals as goal

pub returns-then-fill_some : goal.returns-then-fill_some
returns-then-fill_some c =
    let g = c.args.g.now in
    let x : list_any (is_filled c.args.p.now.x) (lines_of g) ≡ true =
    sym (c.fill_some.ensures (lines_of g) c.requires) ∙ c.if-fill_some.true in
    rw x refl

pub returns-then-fill_some-2 : goal.returns-then-fill_some-2
returns-then-fill_some-2 c =
    let g = c.args.g.now in
    let x : list_any (is_filled c.args.p.now.x) (lines_of g) ≡ false =
    sym (c.fill_some.ensures (lines_of g) c.requires) ∙ c.if-fill_some.false in
    let y : list_any (is_filled c.args.p.now.y) (lines_of g) ≡ true =
    sym (c.fill_some-2.ensures (lines_of g) c.requires) ∙ c.if-fill_some-2.true in
    rw (x, y) refl

pub returns-then-is_full : goal.returns-then-is_full
returns-then-is_full c =
    let g = c.args.g.now in
    let x : list_any (is_filled c.args.p.now.x) (lines_of g) ≡ false =
    sym (c.fill_some.ensures (lines_of g) c.requires) ∙ c.if-fill_some.false in
    let y : list_any (is_filled c.args.p.now.y) (lines_of g) ≡ false =
    sym (c.fill_some-2.ensures (lines_of g) c.requires) ∙ c.if-fill_some-2.false in
    let full : is_full g c.args.p.now ≡ true = sym c.is_full.ensures ∙ c.if-is_full.true in
    rw (x, y, full) refl

pub returns-else-is_full : goal.returns-else-is_full
returns-else-is_full c =
    let g = c.args.g.now in
    let x : list_any (is_filled c.args.p.now.x) (lines_of g) ≡ false =
    sym (c.fill_some.ensures (lines_of g) c.requires) ∙ c.if-fill_some.false in
    let y : list_any (is_filled c.args.p.now.y) (lines_of g) ≡ false =
    sym (c.fill_some-2.ensures (lines_of g) c.requires) ∙ c.if-fill_some-2.false in
    let full : is_full g c.args.p.now ≡ false = sym c.is_full.ensures ∙ c.if-is_full.false in
    rw (x, y, full) refl
