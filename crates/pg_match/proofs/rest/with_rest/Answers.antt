use Rattle.std.proofs.Common.{◌&&◌, not, None, List, Vec, Global, sym, ap, ◌∙◌, subst, arith}
use Rattle.pg_match.proofs.Common.{contains, Pair, is_free, is_paired}
use Rattle.pg_match.specs.Meant.{PairsOn}
use Rattle.pg_match.proofs.Asking.{passing_none, pairs_on-none, pairs_on-passing_to}
use Rattle.pg_match.proofs.Asking.{pairs_on-skipped_to, rest-from_pairs_on}
use Rattle.pg_match.proofs.rest.with_rest.Goals as goal
use Rattle.pg_match.proofs.rest.with_rest.Goals.{then-is_left_over+in_ok-waiting, else-is_left_over}

pub loop-v-init : goal.loop-v-init
loop-v-init c = subst (λ vs. PairsOn vs c.args.pairs.items c.args.pairs.items None)
    (sym (passing_none (λ v. is_free c.args.p.now v && not (contains c.points_of-paired.result v))))
    (pairs_on-none c.args.pairs.items)

pub loop-v-preserved : goal.loop-v-preserved
loop-v-preserved c = elim c.if-is_left_over.branch [
  | then-is_left_over+in_ok-waiting w ↦ pairs_on-passing_to
      (λ v. is_free c.args.p.now v && not (contains c.points_of-paired.result v)) c.loop-v.v
      c.args.pairs.items c.loop-v.pairs.items w.pair_on.new.pairs.items _ c.loop-v.waiting
      w.in_ok-waiting.waiting _ (sym c.is_left_over.ensures ∙ w.if-is_left_over.true)
      c.loop-v.invariant w.in_ok-waiting.ensures
      (ap (λ (xs : Vec Pair Global). xs.items) w.pairs-is) w.waiting-is
  | else-is_left_over w ↦ pairs_on-skipped_to
      (λ v. is_free c.args.p.now v && not (contains c.points_of-paired.result v)) c.loop-v.v
      c.args.pairs.items c.loop-v.pairs.items _ c.loop-v.waiting _
      (sym c.is_left_over.ensures ∙ w.if-is_left_over.false) c.loop-v.invariant
      (ap (λ (xs : Vec Pair Global). xs.items) w.pairs-is) w.waiting-is
]

pub returns : goal.returns
returns c = rest-from_pairs_on c.args.g.now c.args.p.now c.args.pairs.items c.loop-v.pairs.items
    c.loop-v.waiting
    (λ v. is_free c.args.p.now v && not (contains c.points_of-paired.result v)) c.loop-v.v
    (omega (arith, c.points-v-end.ensures.count, c.loop-v.auto.v-end, c.loop-v-test.false))
    (λ v. ap (λ b. is_free c.args.p.now v && not b)
    (c.points_of-paired.ensures v ∙ ap (λ (ps : List Pair). is_paired ps v) c.deref.ensures.value))
    c.loop-v.invariant
