use Rattle.std.proofs.Common.{◌≤◌, vec_len}
use Rattle.pg_patterns.proofs.trie.Trie.find.Given as goal

abbrev pub invariant-loop-visit : goal.invariant-loop-visit
invariant-loop-visit l = vec_len l.found ≤ l.most
