use Rattle.std.proofs.Common.{List, ℕ, sym, ap, ◌∙◌, subst}
use Rattle.pg_match.proofs.Common.{is_graph, points_of}
use Rattle.pg_game.specs.Field.{field_lines}
use Rattle.pg_match.specs.Private.{IsMatching, IsShort}
use Rattle.pg_match.specs.Meant.{AreMeant}
use Rattle.pg_match.specs.Cache.{asked}
use Rattle.pg_match.proofs.Asking.{free-in_game}
use Rattle.pg_match.proofs.LeafTests.{lines-from_field, no_lines-from_field, none-without_lines}
use Rattle.pg_match.proofs.LeafTests.{none-unpairable, meant-from, none-short, some-found}
use Rattle.pg_match.proofs.LeafTests.{hold-found}
use Rattle.pg_match.proofs.leaf.pairs_leaf.Goals as goal

pub returns-in_default-clause-exist : goal.returns-in_default-clause-exist
returns-in_default-clause-exist c = none-without_lines c.args.g.now c.args.p.now c.args.side
    (no_lines-from_field c.args.g.now.kind c.args.g.now.field c.args.g.now.fits.within.kind_fits
    (ap is_graph c.in_default.is))

pub avoider_can_pair-requires : goal.avoider_can_pair-requires
avoider_can_pair-requires c = c.free_points-free.ensures.count

pub returns-then-not-avoider_can_pair-clause-exist :
    goal.returns-then-not-avoider_can_pair-clause-exist
returns-then-not-avoider_can_pair-clause-exist c = none-unpairable c.args.g.now c.args.p.now
    c.args.side (sym c.avoider_can_pair.ensures ∙ c.if-not-avoider_can_pair.true)

pub returns-in-Pairs-clause-exist : goal.returns-in-Pairs-clause-exist
returns-in-Pairs-clause-exist c =
    let lines_are = sym (ap field_lines c.in-Lines.is) in
    let meant = meant-from c.args.g.now c.args.p.now c.args.side c.in-Lines.field.lines
    c.points_of.result.now c.in_ok-wanted.wanted.items lines_are
    (c.points_of.ensures ∙ ap (points_of c.args.p.now) c.breaker_of.ensures)
    c.in_ok-wanted.ensures.lines in
    let asked = subst (λ (w : List ℕ). IsMatching c.in-Lines.field.lines w c.free_points-free.result
    c.in_ok-pairs.field-0) c.deref-2.ensures.value c.in_ok-pairs.ensures.answer in
    let private =
    subst (IsMatching c.in-Lines.field.lines c.in_ok-wanted.wanted.items c.free_points-free.result)
    c.in-Pairs.is asked in
    some-found c.args.g.now c.args.p.now c.args.side c.in-Lines.field.lines
    c.in_ok-wanted.wanted.items c.free_points-free.result lines_are meant
    (free-in_game c.args.g.now c.args.p.now c.free_points-free.result
    c.free_points-free.ensures.members) c.in-Pairs.pairs.items private
    (lines-from_field c.args.g.now.kind c.args.g.now.field c.args.g.now.fits.within.kind_fits
    (ap is_graph c.in-Lines.is)) (sym c.avoider_can_pair.ensures ∙ c.if-not-avoider_can_pair.false)

pub returns-in-Pairs-clause-hold : goal.returns-in-Pairs-clause-hold
returns-in-Pairs-clause-hold c =
    let lines_are = sym (ap field_lines c.in-Lines.is) in
    let meant = meant-from c.args.g.now c.args.p.now c.args.side c.in-Lines.field.lines
    c.points_of.result.now c.in_ok-wanted.wanted.items lines_are
    (c.points_of.ensures ∙ ap (points_of c.args.p.now) c.breaker_of.ensures)
    c.in_ok-wanted.ensures.lines in
    let asked = subst (λ (w : List ℕ). IsMatching c.in-Lines.field.lines w c.free_points-free.result
    c.in_ok-pairs.field-0) c.deref-2.ensures.value c.in_ok-pairs.ensures.answer in
    let private =
    subst (IsMatching c.in-Lines.field.lines c.in_ok-wanted.wanted.items c.free_points-free.result)
    c.in-Pairs.is asked in
    hold-found c.args.g.now c.args.p.now c.args.side c.in-Lines.field.lines
    c.in_ok-wanted.wanted.items c.free_points-free.result lines_are meant
    (free-in_game c.args.g.now c.args.p.now c.free_points-free.result
    c.free_points-free.ensures.members) c.in-Pairs.pairs.items
    c.in_ok-completed-in-Pairs.field-0.items private
    (sym c.avoider_can_pair.ensures ∙ c.if-not-avoider_can_pair.false)
    c.in_ok-completed-in-Pairs.ensures.avoider c.in_ok-completed-in-Pairs.ensures.others

pub returns-clause-exist : goal.returns-clause-exist
returns-clause-exist c =
    let lines_are = sym (ap field_lines c.in-Lines.is) in
    let meant = meant-from c.args.g.now c.args.p.now c.args.side c.in-Lines.field.lines
    c.points_of.result.now c.in_ok-wanted.wanted.items lines_are
    (c.points_of.ensures ∙ ap (points_of c.args.p.now) c.breaker_of.ensures)
    c.in_ok-wanted.ensures.lines in
    let asked = subst (λ (w : List ℕ). IsMatching c.in-Lines.field.lines w c.free_points-free.result
    c.in_ok-pairs.field-0) c.deref-2.ensures.value c.in_ok-pairs.ensures.answer in
    let short =
    subst (IsMatching c.in-Lines.field.lines c.in_ok-wanted.wanted.items c.free_points-free.result)
    c.in-Short.is asked in
    none-short c.args.g.now c.args.p.now c.args.side c.in-Lines.field.lines
    c.in_ok-wanted.wanted.items c.free_points-free.result lines_are meant
    (free-in_game c.args.g.now c.args.p.now c.free_points-free.result
    c.free_points-free.ensures.members) c.in-Short.field-0.items short

-- the counts show that there are none
pub returns-in-Some-clause-exist : goal.returns-in-Some-clause-exist
returns-in-Some-clause-exist c =
    let lines_are = sym (ap field_lines c.in-Lines.is) in
    let meant = meant-from c.args.g.now c.args.p.now c.args.side c.in-Lines.field.lines
    c.points_of.result.now c.in_ok-wanted.wanted.items lines_are
    (c.points_of.ensures ∙ ap (points_of c.args.p.now) c.breaker_of.ensures)
    c.in_ok-wanted.ensures.lines in
    let listed = subst (λ (w : List ℕ).
    IsShort c.as_slice.result.now w c.free_points-free.result c.in-Some._family.items)
    c.deref.ensures.value (rw c.in-Some.is at c.in_ok-_family.ensures.short) in
    let short = subst (λ (ls : List (List ℕ)). IsShort ls c.in_ok-wanted.wanted.items
    c.free_points-free.result c.in-Some._family.items) c.as_slice.ensures listed in
    none-short c.args.g.now c.args.p.now c.args.side c.in-Lines.field.lines
    c.in_ok-wanted.wanted.items c.free_points-free.result lines_are meant
    (free-in_game c.args.g.now c.args.p.now c.free_points-free.result
    c.free_points-free.ensures.members) c.in-Some._family.items short

-- what was asked
pub returns-in_err-completed-in-Pairs-clause-cache :
    goal.returns-in_err-completed-in-Pairs-clause-cache
returns-in_err-completed-in-Pairs-clause-cache c =
    let meant = meant-from c.args.g.now c.args.p.now c.args.side c.in-Lines.field.lines
    c.points_of.result.now c.in_ok-wanted.wanted.items (sym (ap field_lines c.in-Lines.is))
    (c.points_of.ensures ∙ ap (points_of c.args.p.now) c.breaker_of.ensures)
    c.in_ok-wanted.ensures.lines in
    asked _ c.in_ok-pairs.ensures.after.remembers
    (subst (AreMeant c.args.g.now c.args.p.now c.args.side) (sym c.deref-2.ensures.value) meant)
    (free-in_game c.args.g.now c.args.p.now c.free_points-free.result
    c.free_points-free.ensures.members)

pub returns-in-Pairs-clause-cache : goal.returns-in-Pairs-clause-cache
returns-in-Pairs-clause-cache c =
    let meant = meant-from c.args.g.now c.args.p.now c.args.side c.in-Lines.field.lines
    c.points_of.result.now c.in_ok-wanted.wanted.items (sym (ap field_lines c.in-Lines.is))
    (c.points_of.ensures ∙ ap (points_of c.args.p.now) c.breaker_of.ensures)
    c.in_ok-wanted.ensures.lines in
    asked _ c.in_ok-pairs.ensures.after.remembers
    (subst (AreMeant c.args.g.now c.args.p.now c.args.side) (sym c.deref-2.ensures.value) meant)
    (free-in_game c.args.g.now c.args.p.now c.free_points-free.result
    c.free_points-free.ensures.members)

pub returns-clause-cache : goal.returns-clause-cache
returns-clause-cache c =
    let meant = meant-from c.args.g.now c.args.p.now c.args.side c.in-Lines.field.lines
    c.points_of.result.now c.in_ok-wanted.wanted.items (sym (ap field_lines c.in-Lines.is))
    (c.points_of.ensures ∙ ap (points_of c.args.p.now) c.breaker_of.ensures)
    c.in_ok-wanted.ensures.lines in
    asked _ c.in_ok-pairs.ensures.after.remembers
    (subst (AreMeant c.args.g.now c.args.p.now c.args.side) (sym c.deref-2.ensures.value) meant)
    (free-in_game c.args.g.now c.args.p.now c.free_points-free.result
    c.free_points-free.ensures.members)
