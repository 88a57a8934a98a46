use Rattle.std.proofs.Common.{◌≡◌, List, ℕ}
use Rattle.std.specs.Prelude.{Result}
use Rattle.pg_text.specs.Faults.{IsReader, each_of, following}
use Rattle.pg_text.proofs.by_word.Words.each.Given as goal

abbrev pub invariant-loop-word : goal.invariant-loop-word
invariant-loop-word g l = record {
  can : (goal.iterator-loop-word g).can_next l.word-iterator;
  ends : (goal.iterator-loop-word g).is_finite l.word-iterator;
  so_far : (says : List ℕ → Result _ _)
      → IsReader (goal.R-post g) l.fn.read says
      → following l.found.items (each_of says l.word-iterator) ≡ each_of says l.fn.self;
}
