use Rattle.std.proofs.Common.{ℕ, ◌<◌, get_or, sym, subst₂, ap, ◌∙◌, subst}
use Rattle.pg_maps.proofs.Common.{false≢true, Contains, Contains-get_or}
use Rattle.pg_maps.specs.declared.grid_map.GridMap.{GridMap}
use Rattle.pg_maps.specs.GridMaps.{number_of, identity, followed_by}
use Rattle.pg_maps.proofs.Known.{untwice, told, listed-found, found-listed}
use Rattle.pg_maps.proofs.telling.told_by.Goals as goal

pub returns-then-not-contains : goal.returns-then-not-contains
returns-then-not-contains c = λ g listed.
    let m = c.args.m in
    let lower : number_of (followed_by m m) < number_of m =
    subst₂ (λ (a b : ℕ). a < b) (c.number.ensures.number ∙ ap number_of c.followed_by-twice.ensures)
    c.number-2.ensures.number c.if-number.true in (
      λ no. absurd (false≢true no),
      λ fits. absurd
          (untwice g m c.args.maps.now listed lower
          (λ member. false≢true (sym c.if-not-contains.true
          ∙ c.contains.ensures.value
          ∙ listed-found c.args.maps.now _
          (subst (Contains c.args.maps.now) (sym c.followed_by-twice.ensures) member))) fits),
    )

pub returns-then-number-2 : goal.returns-then-number-2
returns-then-number-2 c = λ g listed.
    let m = c.args.m in
    let maps = c.args.maps.now in
    let a : GridMap = get_or maps c.loop-a.a-index identity in
    let lower : number_of (followed_by a m) < number_of m = subst₂ (λ (a b : ℕ). a < b)
    (c.number-in-loop-a.ensures.number ∙ ap number_of c.followed_by-both.ensures)
    c.number-in-loop-a-2.ensures.number c.if-number-2.true in
    let both = told g m maps listed a
    (Contains-get_or maps c.loop-a.a-index identity c.loop-a-test.true) lower in (
      λ yes. both.0
          (subst (Contains maps) c.followed_by-both.ensures
          (found-listed maps c.followed_by-both.result
          (sym c.contains-then-number-2.ensures.value ∙ yes))),
      λ fits. c.contains-then-number-2.ensures.value
          ∙ listed-found maps c.followed_by-both.result
          (subst (Contains maps) (sym c.followed_by-both.ensures) (both.1 fits)),
    )
