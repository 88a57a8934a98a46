use Rattle.std.proofs.Common.{◌≢◌, ◌∙◌, Some, [], ap, refl, subst, sym}
use Rattle.pg_pns.proofs.Common.{Game, Stand, start}
use Rattle.pg_pns.specs.Prelude.{Switching}
use Rattle.pg_pns.specs.Search.{IsSearch}
use Rattle.pg_pns.proofs.descent.go_down.Goals as goal

pub stands_at-requires : goal.stands_at-requires
stands_at-requires c = subst (λ (g : Game). g.kind ≢ Switching)
    (sym c.bring_down-place.ensures.keeps.game) c.requires.starts.lines

pub returns-then-stands_at-clause-stands : goal.returns-then-stands_at-clause-stands
returns-then-stands_at-clause-stands c =
    c.key.ensures ∙ ap Some (c.stands_at.ensures c.if-stands_at.true)

pub returns-then-stands_at-clause-first : goal.returns-then-stands_at-clause-first
returns-then-stands_at-clause-first c = c.bring_down-place.ensures.keeps.first_is

pub play_down-requires-clause-search : goal.play_down-requires-clause-search
play_down-requires-clause-search c = (
  c.requires.search.0,
  c.requires.search.1,
  subst (λ (g : Game). IsSearch g c.requires.search.0 [] c.requires.search.1 c.args.table.now)
      (sym (c.go_up.ensures.game ∙ c.bring_down-place.ensures.keeps.game)) c.requires.search.2,
)

pub play_down-requires-clause-starts : goal.play_down-requires-clause-starts
play_down-requires-clause-starts c =
    let keeps = c.bring_down-place.ensures.keeps in record {
      game = refl;
      position = ap (λ (t : Stand). t.position) (c.go_up.ensures.stand ∙ keeps.first_is)
          ∙ c.requires.starts.first
          ∙ ap start (sym (c.go_up.ensures.game ∙ keeps.game));
      earlier = c.go_up.ensures.earlier;
    }

pub returns-clause-game : goal.returns-clause-game
returns-clause-game c = c.play_down.ensures.game
    ∙ c.go_up.ensures.game
    ∙ c.bring_down-place.ensures.keeps.game

pub returns-clause-first : goal.returns-clause-first
returns-clause-first c = c.play_down.ensures.first
    ∙ c.go_up.ensures.stand
    ∙ c.bring_down-place.ensures.keeps.first_is
