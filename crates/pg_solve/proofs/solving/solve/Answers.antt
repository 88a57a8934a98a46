use Rattle.std.proofs.Common.{ℕ, subst, arith}
use Rattle.std.proofs.lemmas.Result.{IfOk-weaker, IfOk-at_ok}
use Rattle.pg_solve.proofs.Finding.{found-kind, found-true, found-claims, found-valid, found-within}
use Rattle.pg_solve.proofs.Finding.{found-version, found-shown, found-last}
use Rattle.pg_solve.specs.Left.{IsLeft, IsLeftOpen}
use Rattle.pg_solve.specs.Solved.{IsFoundBy}
use Rattle.pg_solve.proofs.solving.solve.Goals as goal

pub ask_first-requires : goal.ask_first-requires
ask_first-requires c = record {
  lines = c.in_default.not-Switching;
  budget = record {
    some = c.budget_of.ensures.some c.requires.some;
    limit =
        let most = c.budget_of.ensures.most in
        let asked = c.requires.most in
        omega (arith, most, asked);
    few = c.budget_of.ensures.few;
  };
}

pub returns-in_default : goal.returns-in_default
returns-in_default c =
    let g = c.args.game.now in
    let work = c.ask_first.new.work in
    let exact = c.budget_of.ensures.exact in
    record {
      kind = IfOk-weaker _ _ _ (found-kind g c.budget_of.result work c.in_default.not-Switching)
          c.ask_first.ensures.found;
      answer = IfOk-weaker _ _ _
          (found-true g c.budget_of.result work c.ask_first.ensures.left) c.ask_first.ensures.found;
      claims = IfOk-weaker _ _ _ (found-claims g c.budget_of.result work) c.ask_first.ensures.found;
      valid = IfOk-weaker _ _ _ (found-valid g c.budget_of.result work) c.ask_first.ensures.found;
      limits = IfOk-weaker _ _ _ (found-within g c.budget_of.result work) c.ask_first.ensures.found;
      version =
          IfOk-weaker _ _ _ (found-version g c.budget_of.result work) c.ask_first.ensures.found;
      shown = IfOk-weaker _ _ _
          (λ s is. found-shown g _ work s (subst (λ (n : ℕ). IsFoundBy g n work s) exact is))
          c.ask_first.ensures.found;
      last = IfOk-weaker _ _ _ (found-last g c.budget_of.result work) c.ask_first.ensures.found;
      unknown = λ e. subst (λ (n : ℕ). IsLeftOpen g n work) exact
          (IfOk-at_ok (IsFoundBy g c.budget_of.result work) e c.ask_first.ensures.found);
      work = λ _. subst (λ (n : ℕ). IsLeft g n work) exact c.ask_first.ensures.left;
      untouched = λ kind. absurd (c.in_default.not-Switching kind);
    }
