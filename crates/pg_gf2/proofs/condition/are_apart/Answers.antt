use Rattle.std.proofs.Common.{sym, ◌∙◌}
use Rattle.std.proofs.lemmas.Bool.{both_ways}
use Rattle.pg_gf2.proofs.condition.are_apart.Goals as goal
use Rattle.pg_gf2.proofs.condition.are_apart.Goals.{then-are_free_or_e, else-are_free_or_e}

pub returns-then-are_free : goal.returns-then-are_free
returns-then-are_free c = elim c.if-are_free_or_e.branch [
  | then-are_free_or_e w ↦ (
    λ t. (
      c.are_free_or_e.ensures.0 w.if-are_free_or_e.true,
      (w.are_free.ensures c.args.turn).0 (sym w.value-is ∙ c.if-are_free.true),
      c.shares_none.ensures.0 t,
    ),
    λ f. c.shares_none.ensures.1 f.2,
  )
  | else-are_free_or_e w ↦
      absurd (both_ways _ (w.value-is ∙ w.if-are_free_or_e.false) c.if-are_free.true)
]

pub returns-else-are_free : goal.returns-else-are_free
returns-else-are_free c = elim c.if-are_free_or_e.branch [
  | then-are_free_or_e w ↦ (
    λ t. absurd (both_ways _ c.if-are_free.false t),
    λ f. absurd
        (both_ways _ c.if-are_free.false (w.value-is ∙ (w.are_free.ensures c.args.turn).1 f.1)),
  )
  | else-are_free_or_e w ↦ (
    λ t. absurd (both_ways _ c.if-are_free.false t),
    λ f. absurd (both_ways _ w.if-are_free_or_e.false (c.are_free_or_e.ensures.1 f.0)),
  )
]
