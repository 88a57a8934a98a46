use Rattle.std.proofs.Common.{◌≡◌, ℕ, length, true, false}
use Rattle.pg_exchange.proofs.Common.{either, outside, count, contains}
use Rattle.pg_exchange.specs.Chain.{KeepsMatroid, KeepsBases, IsSearch, IsTree, IsLevelled, up_of}
use Rattle.pg_exchange.specs.Chain.{second_of}
use Rattle.pg_exchange.proofs.exchange.Exchange.shift.Given as goal

abbrev pub invariant-loop-f : goal.invariant-loop-f
invariant-loop-f g l = record {
  parents_size : length l.parents ≡ 1024;
  search : IsSearch (g.G.Ground.matroid l.initial.self.first) (g.G.Ground.base l.initial.self.first)
      (g.G.Ground.base l.initial.self.second) (contains l.from) (contains l.seen)
      (either (contains l.level) (contains l.later));
  tree : IsTree (g.G.Ground.matroid l.initial.self.first) (g.G.Ground.base l.initial.self.first)
      (g.G.Ground.base l.initial.self.second) (contains l.from) (contains l.seen)
      (outside (contains l.seen) (either (contains l.level) (contains l.later))) (up_of l.parents)
      (second_of l.parents);
  levels : IsLevelled (g.G.Ground.matroid l.initial.self.first)
      (g.G.Ground.base l.initial.self.first) (g.G.Ground.base l.initial.self.second)
      (contains l.from) (contains l.to) (contains l.seen) (contains l.level) (contains l.later)
      (up_of l.parents);
  missed : (z : ℕ)
      → outside (contains l.seen) (either (contains l.level) (contains l.later)) z ≡ true
      → contains l.to z ≡ false;
  kept : KeepsMatroid (g.G.Ground.matroid l.initial.self.first)
      (g.G.Ground.matroid l.initial.self.second) (g.G.Ground.matroid l.self.first)
      (g.G.Ground.matroid l.self.second);
  kept_bases : KeepsBases (g.G.Ground.base l.initial.self.first)
      (g.G.Ground.base l.initial.self.second) (g.G.Ground.base l.self.first)
      (g.G.Ground.base l.self.second);
}

abbrev pub decreases-loop-f : goal.decreases-loop-f
decreases-loop-f g l = count (outside (g.G.Ground.matroid l.initial.self.first).elements
    (outside (contains l.seen) (either (contains l.level) (contains l.later)))) 1024
