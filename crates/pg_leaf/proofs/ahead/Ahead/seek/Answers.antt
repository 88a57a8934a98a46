use Rattle.pg_leaf.proofs.ahead.Ahead.seek.Goals as goal

pub returns-clause-ahead : goal.returns-clause-ahead
returns-clause-ahead c = λ t a. record {
  defends = a.defends;
  weighed = record {
    breaker = a.weighed.breaker;
    base = a.weighed.base;
    limit = a.weighed.limit;
    total = a.weighed.total;
  };
  next = c.next_of-self.ensures.next;
}
