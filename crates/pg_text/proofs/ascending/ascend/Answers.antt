use Rattle.std.proofs.Common.{◌≡◌, ℕ, rules, ap, ◌∙◌}
use Rattle.std.proofs.lemmas.Fn.{always_returns_same}
use Rattle.std.proofs.lemmas.List.{map-id}
use borrow.Author.Tests.{tests}
use Rattle.pg_text.specs.Text.{ascend_from}
use Rattle.pg_text.proofs.Rising.{is_below, ascends}
use Rattle.pg_text.proofs.ascending.ascend.Goals as goal

pub returns : goal.returns
returns c = ascends (λ (n : ℕ). n) c.args.numbers.now _
    (c.is_sorted_by.ensures.cases (is_below (λ (n : ℕ). n)) (always_returns_same _
    (λ a r. r ≡ is_below (λ (n : ℕ). n) a.0.now a.1.0.now) _ (λ a r f' k. search (rules, tests))))
    ∙ ap (ascend_from 0) (map-id c.args.numbers.now)
