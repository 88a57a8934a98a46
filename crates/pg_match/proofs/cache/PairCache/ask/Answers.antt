use Rattle.std.proofs.Common.{ℕ, List, ap, arith}
use Rattle.pg_match.proofs.Common.{length-map, MatchOption-at_some, MatchOption-at_none}
use Rattle.pg_match.specs.Cache.{kept_of}
use Rattle.pg_match.specs.Private.{told}
use Rattle.pg_match.proofs.Below.{points-below}
use Rattle.pg_match.proofs.CacheLaws.{hit-remembers_to, hit-fits_to, hit-answer_to, hit-length_to}
use Rattle.pg_match.proofs.CacheLaws.{miss-remembers_to, miss-fits_to, miss-length}
use Rattle.pg_match.proofs.cache.PairCache.ask.Goals as goal

pub invariant_of-self : goal.invariant_of-self
invariant_of-self c =
    let found = MatchOption-at_some _ _ c.in-Some.answer c.in-Some.is c.in_ok-answer.ensures in
    hit-length_to c.args.self.now c.self.inside.kept.entries c.self.inside.kept.cap
    c.self.inside.hits c.promote.new.self c.self.view_is (record {
      wanted = c.in_ok-to_vec.field-0.items;
      free = c.args.free.now;
    }) (record { wanted = c.args.wanted.now; free = c.args.free.now }) (ap (λ (w : List ℕ). record {
      wanted = w;
      free = c.args.free.now;
    }) (c.in_ok-to_vec.ensures.items_if_clones_equal (λ x y e. e))) found.entry found.found
    c.promote.ensures.entries c.self.invariant.0 c.self.invariant.1

pub returns-in-Some-clause-answer : goal.returns-in-Some-clause-answer
returns-in-Some-clause-answer c =
    let found = MatchOption-at_some _ _ c.in-Some.answer c.in-Some.is c.in_ok-answer.ensures in
    hit-answer_to c.args.self.now c.self.inside.kept.entries c.self.inside.kept.cap
    c.self.inside.hits c.promote.new.self c.self.view_is (record {
      wanted = c.in_ok-to_vec.field-0.items;
      free = c.args.free.now;
    }) (record { wanted = c.args.wanted.now; free = c.args.free.now }) (ap (λ (w : List ℕ). record {
      wanted = w;
      free = c.args.free.now;
    }) (c.in_ok-to_vec.ensures.items_if_clones_equal (λ x y e. e))) c.args.lines.now found.entry _
    found.found found.same c.requires.fits

pub returns-in-Some-clause-range : goal.returns-in-Some-clause-range
returns-in-Some-clause-range c = points-below c.args.lines.now c.args.wanted.now c.args.free.now
    (told c.in-Some.answer) c.requires.can.points (
    let found = MatchOption-at_some _ _ c.in-Some.answer c.in-Some.is c.in_ok-answer.ensures in
    hit-answer_to c.args.self.now c.self.inside.kept.entries c.self.inside.kept.cap
    c.self.inside.hits c.promote.new.self c.self.view_is (record {
      wanted = c.in_ok-to_vec.field-0.items;
      free = c.args.free.now;
    }) (record { wanted = c.args.wanted.now; free = c.args.free.now }) (ap (λ (w : List ℕ). record {
      wanted = w;
      free = c.args.free.now;
    }) (c.in_ok-to_vec.ensures.items_if_clones_equal (λ x y e. e))) c.args.lines.now found.entry
    (told c.in-Some.answer) found.found found.same c.requires.fits)

pub returns-in-Some-clause-fits : goal.returns-in-Some-clause-fits
returns-in-Some-clause-fits c = hit-fits_to c.args.self.now c.self.inside.kept.entries
    c.self.inside.kept.cap c.self.inside.hits c.promote.new.self c.self.view_is (record {
      wanted = c.in_ok-to_vec.field-0.items;
      free = c.args.free.now;
    }) (record { wanted = c.args.wanted.now; free = c.args.free.now }) (ap (λ (w : List ℕ). record {
      wanted = w;
      free = c.args.free.now;
    }) (c.in_ok-to_vec.ensures.items_if_clones_equal (λ x y e. e))) c.args.lines.now
    c.promote.ensures.entries c.requires.fits

pub invariant_of-self-2 : goal.invariant_of-self-2
invariant_of-self-2 c =
    let none = MatchOption-at_none _ _ c.in_default.is c.in_ok-answer.ensures in
    miss-length c.self.inside.kept.entries c.self.inside.kept.cap c.keep.new.kept (record {
      wanted = c.in_ok-to_vec.field-0.items;
      free = c.args.free.now;
    }) c.in_ok-answer-2.answer none c.keep.ensures c.self.invariant.0 c.self.invariant.1

pub returns-clause-fits : goal.returns-clause-fits
returns-clause-fits c =
    let none = MatchOption-at_none _ _ c.in_default.is c.in_ok-answer.ensures in
    miss-fits_to c.args.self.now c.self.inside.kept.entries c.self.inside.kept.cap
    c.self.inside.hits c.keep.new.kept c.self.view_is (record {
      wanted = c.in_ok-to_vec.field-0.items;
      free = c.args.free.now;
    }) (record { wanted = c.args.wanted.now; free = c.args.free.now }) (ap (λ (w : List ℕ). record {
      wanted = w;
      free = c.args.free.now;
    }) (c.in_ok-to_vec.ensures.items_if_clones_equal (λ x y e. e))) c.args.lines.now
    c.in_ok-answer-2.answer none c.keep.ensures c.requires.fits c.in_ok-answer-2.ensures.answer

pub returns-in-Some-clause-after : goal.returns-in-Some-clause-after
returns-in-Some-clause-after c =
    let found = MatchOption-at_some _ _ c.in-Some.answer c.in-Some.is c.in_ok-answer.ensures in
    let kept = hit-length_to c.args.self.now c.self.inside.kept.entries c.self.inside.kept.cap
    c.self.inside.hits c.promote.new.self c.self.view_is (record {
      wanted = c.in_ok-to_vec.field-0.items;
      free = c.args.free.now;
    }) (record { wanted = c.args.wanted.now; free = c.args.free.now }) (ap (λ (w : List ℕ). record {
      wanted = w;
      free = c.args.free.now;
    }) (c.in_ok-to_vec.ensures.items_if_clones_equal (λ x y e. e))) found.entry found.found
    c.promote.ensures.entries c.self.invariant.0 c.self.invariant.1 in
    record {
      remembers = hit-remembers_to c.args.self.now c.self.inside.kept.entries c.self.inside.kept.cap
          c.self.inside.hits c.promote.new.self c.self.view_is (record {
            wanted = c.in_ok-to_vec.field-0.items;
            free = c.args.free.now;
          }) (record {
            wanted = c.args.wanted.now;
            free = c.args.free.now;
          }) (ap (λ (w : List ℕ). record {
            wanted = w;
            free = c.args.free.now;
          }) (c.in_ok-to_vec.ensures.items_if_clones_equal (λ x y e. e)))
          c.saturating_add-self-inside.result found.entry _ found.found found.same
          c.promote.ensures.entries c.saturating_add-self-inside.ensures;
      room = omega (arith, kept.1, length-map c.promote.new.self.entries kept_of);
    }

pub returns-clause-after : goal.returns-clause-after
returns-clause-after c =
    let none = MatchOption-at_none _ _ c.in_default.is c.in_ok-answer.ensures in
    let kept =
    miss-length c.self.inside.kept.entries c.self.inside.kept.cap c.keep.new.kept (record {
      wanted = c.in_ok-to_vec.field-0.items;
      free = c.args.free.now;
    }) c.in_ok-answer-2.answer none c.keep.ensures c.self.invariant.0 c.self.invariant.1 in
    record {
      remembers = miss-remembers_to c.args.self.now c.self.inside.kept.entries
          c.self.inside.kept.cap c.self.inside.hits c.keep.new.kept c.self.view_is (record {
            wanted = c.in_ok-to_vec.field-0.items;
            free = c.args.free.now;
          }) (record {
            wanted = c.args.wanted.now;
            free = c.args.free.now;
          }) (ap (λ (w : List ℕ). record {
            wanted = w;
            free = c.args.free.now;
          }) (c.in_ok-to_vec.ensures.items_if_clones_equal (λ x y e. e))) c.in_ok-answer-2.answer
          none c.keep.ensures;
      room = omega (arith, kept.1, length-map c.keep.new.kept.entries kept_of);
    }
