use Rattle.std.proofs.Common.{◌≡◌, ◌+◌, ◌*◌, ◌≤◌, ℕ, Option, Some, None, List, length, sym, ap}
use Rattle.std.proofs.Common.{subst, arith}
use Rattle.pg_pns.proofs.Common.{IfNone, some≢none, mul-le-mul_right, keys_of, IsTable, Position}
use Rattle.pg_pns.proofs.Common.{View}
use Rattle.pg_pns.specs.declared.limits.TheConstants.{MAX_EXPANDED_MOVES}
use Rattle.pg_pns.proofs.Searching.{open-table}
use Rattle.pg_pns.proofs.TableLaws.{table-none}
use Rattle.pg_pns.specs.Descent.{IsAtStart}
use Rattle.pg_pns.proofs.Descending.{from-start}
use Rattle.pg_pns.proofs.expansion.explore_on.Goals as goal

met-few : (met listed budget free : ℕ)
    → met ≤ 1 + listed * free
    → listed ≤ budget
    → budget * free ≤ MAX_EXPANDED_MOVES
    → met ≤ 100000
met-few met listed budget free most le few =
    let product : listed * free ≤ budget * free = mul-le-mul_right free le in
    omega (arith, product, most, few)

-- what holds where nothing was found, where nothing was
none-of : {A P : Type 0} (found : Option A) → found ≡ None → IfNone found P → P
none-of None none holds = holds
none-of (Some a) none holds = absurd (some≢none none)

pub claim_of-requires-clause-some : goal.claim_of-requires-clause-some
claim_of-requires-clause-some c =
    (keys_of c.find_answer.new.expanded.entries, c.in_ok-found.ensures.found.search)

pub claim_of-requires-clause-few : goal.claim_of-requires-clause-few
claim_of-requires-clause-few c =
    met-few _ (length (keys_of c.find_answer.new.expanded.entries)) c.args.budget _
    c.in_ok-found.ensures.found.search.few c.find_answer.ensures.listed.count c.requires.few

pub returns-in_ok-claim_of-in-Some-clause-answer : goal.returns-in_ok-claim_of-in-Some-clause-answer
returns-in_ok-claim_of-in-Some-clause-answer c = c.in_ok-claim_of-in-Some.ensures
    (keys_of c.find_answer.new.expanded.entries) c.args.budget c.in_ok-found.ensures.found.search

pub returns-in-None-clause-answer : goal.returns-in-None-clause-answer
returns-in-None-clause-answer c = open-table c.args.asked.game.now c.args.asked.question
    c.args.budget (keys_of c.find_answer.new.expanded.entries) c.find_answer.new.table
    c.in_ok-found.ensures.found.search (none-of _ c.in-None.is c.in_ok-found.ensures.found.none).0
    (none-of _ c.in-None.is c.in_ok-found.ensures.found.none).1

pub find_answer-requires-clause-reads : goal.find_answer-requires-clause-reads
find_answer-requires-clause-reads c = record {
  asked = c.requires.reads.asked;
  starts = from-start c.args.asked.game.now c.first_table.new.board
      (subst (λ (b : View). IsAtStart c.args.asked.game.now b)
      (sym c.first_table.ensures.kept.same) c.requires.reads.starts) c.requires.reads.asked.lines;
  fits = c.first_table.ensures.kept.fits;
}

pub returns-in_err-table-clause-listed : goal.returns-in_err-table-clause-listed
returns-in_err-table-clause-listed c = record {
  rules = subst (λ (w : List Position). IsTable c.args.asked.game.now c.args.asked.question w)
      (sym c.requires.empty) (table-none c.args.asked.game.now c.args.asked.question);
  count = omega (arith, ap length c.requires.empty);
}
