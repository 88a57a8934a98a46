use Rattle.std.proofs.Common.{◌+◌, ◌*◌, ◌<◌, ◌≤◌, ◌≡◌, ℕ, Bool, true, false, Option, Some, None}
use Rattle.std.proofs.Common.{sym, ◌∙◌, subst, arith}
use Rattle.std.proofs.Math.Nat.{mul-le-mul_right}
use Rattle.pg_pns.proofs.Common.{IfNone, false≢true, is_some, keys_of}
use Rattle.pg_pns.specs.declared.limits.TheConstants.{MAX_EXPANDED_MOVES}
use Rattle.pg_pns.specs.Search.{GoesOn}
use Rattle.pg_pns.proofs.expansion.find_answer.Goals as goal

-- so many positions leave room for the moves of one more
room : (listed n budget free : ℕ)
    → listed ≡ n
    → n < budget
    → budget * free ≤ MAX_EXPANDED_MOVES
    → 1 + (listed + 1) * free ≤ 100000
room listed n budget free e lt few =
    let le : (listed + 1) * free ≤ budget * free = mul-le-mul_right free (omega (arith, e, lt)) in
    omega (arith, le, few)

-- what holds where nothing is found, where nothing is
none-at : {A P : Type 0} (found : Option A) (r : Bool)
    → r ≡ is_some found
    → r ≡ false
    → IfNone found P
    → P
none-at None r is off holds = holds
none-at (Some a) r is off holds = absurd (false≢true (sym off ∙ is))

-- where something is found, it says nothing
some-at : {A : Type 0} (P : Type 0) (found : Option A) (r : Bool)
    → r ≡ is_some found
    → r ≡ true
    → IfNone found P
some-at P None r is on = absurd (false≢true (sym is ∙ on))
some-at P (Some a) r is on = tt

-- one fact more
none-with : {A : Type 0} (P Q : Type 0) (found : Option A)
    → Q
    → IfNone found P
    → IfNone found (P × Q)
none-with P Q None more holds = (holds, more)
none-with P Q (Some a) more holds = tt

pub step-requires-clause-goes : goal.step-requires-clause-goes
step-requires-clause-goes c = record {
  search = c.loop-n.invariant.1.search;
  unanswered = none-at c.root_answer-answer.result c.is_some.result c.is_some.ensures
      c.if-is_some.false c.root_answer-answer.ensures.none;
  few = room _ c.loop-n.n c.args.budget _ c.loop-n.invariant.1.count c.loop-n-test.true
      c.requires.few;
}

pub loop-n-preserved : goal.loop-n-preserved
loop-n-preserved c = (
  record {
    asked = c.loop-n.invariant.0.asked;
    starts = c.in_ok-step.ensures.starts;
    fits = c.in_ok-step.ensures.fits;
  },
  subst (λ (n : ℕ). GoesOn c.args.asked.game.now c.args.asked.question (n + 1)
      (keys_of c.step.new.work.entries) c.step.new.table) c.loop-n.invariant.1.count
      c.in_ok-step.ensures.goes,
)

pub returns-then-is_some-clause-found : goal.returns-then-is_some-clause-found
returns-then-is_some-clause-found c = record {
  search = c.loop-n.invariant.1.search;
  some = c.root_answer-answer.ensures.some;
  none = some-at _ c.root_answer-answer.result c.is_some.result c.is_some.ensures c.if-is_some.true;
}

pub returns-clause-found : goal.returns-clause-found
returns-clause-found c = record {
  search = c.loop-n.invariant.1.search;
  some = c.root_answer.ensures.some;
  none = none-with _ _ c.root_answer.result (omega (arith, c.loop-n.invariant.1.count))
      c.root_answer.ensures.none;
}
