use Rattle.std.proofs.Common.{ap, length, arith}
use Rattle.pg_match.proofs.Growing.{steps-few}
use Rattle.pg_match.proofs.Scanning.{search-start}
use Rattle.pg_match.proofs.Hall.{family-within, family-short}
use Rattle.pg_match.proofs.chain.Chain.give_next.Goals as goal

pub find-requires : goal.find-requires
find-requires c = record {
  search = search-start c.args.lines.now c.args.wanted.now c.args.free.now c.args.seats.now
      c.start.new.self _ c.requires.can c.requires.few c.requires.room c.requires.seated
      (omega arith) c.in_ok-start.ensures.steps c.in_ok-start.ensures.entered;
}

pub shift-requires-clause-steps : goal.shift-requires-clause-steps
shift-requires-clause-steps c = omega (
  arith,
  steps-few c.find.new.self.steps.items c.find.new.self.entered c.in_ok-end.ensures.search.marks,
  ap length c.deref.ensures.value,
)

pub family-requires : goal.family-requires
family-requires c = family-within c.args.lines.now c.args.wanted.now c.args.free.now
    c.args.seats.now c.find.new.self c.in_ok-end.ensures.search

pub returns-in_ok-family-in-None-clause-short : goal.returns-in_ok-family-in-None-clause-short
returns-in_ok-family-in-None-clause-short c =
    family-short c.args.lines.now c.args.wanted.now c.args.free.now c.args.seats.now c.find.new.self
    c.in_ok-end.ensures.search (c.in_ok-end.ensures.scanned c.in-None.is)
    c.in_ok-family-in-None.field-0.items c.in_ok-family-in-None.ensures
