use Rattle.std.proofs.Common.{◌≤◌, vec_len}
use Rattle.pg_patterns.proofs.trie.Fork.collect.Given as goal

abbrev pub invariant-loop-item : goal.invariant-loop-item
invariant-loop-item l = vec_len l.fn.found ≤ l.most → vec_len l.found ≤ l.most
