use Rattle.std.proofs.Common.{◌≡◌, ◌++◌, map, drop}
use Rattle.std.specs.Prelude.{option_map}
use Rattle.pg_text.specs.Text.{numbers}
use Rattle.pg_text.proofs.numbers.number_list.Given as goal

abbrev pub invariant-loop-word : goal.invariant-loop-word
-- the numbers found before, and those that are still read
invariant-loop-word l = option_map (λ ns. l.found.items ++ ns)
    (numbers (map (λ w. w.now) (drop l.word-index l.words))) ≡ numbers (map (λ w. w.now) l.words)
