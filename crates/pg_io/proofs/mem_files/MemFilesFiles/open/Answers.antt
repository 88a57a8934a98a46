use Rattle.std.proofs.Common.{inr, refl, sym, ◌∙◌, rules}
use Rattle.pg_io.proofs.MemoryLemmas.{held-opened, held-lost, held-present}
use Rattle.pg_io.proofs.mem_files.MemFilesFiles.open.Goals as goal

pub returns-in-Some-2-clause-opened : goal.returns-in-Some-2-clause-opened
returns-in-Some-2-clause-opened c = held-opened c.args.self.now.files.items c.args.name.now
    c.in-Some.field-0 (sym c.place.ensures ∙ c.in-Some.is)

pub returns-in-Some-clause-cause : goal.returns-in-Some-clause-cause
returns-in-Some-clause-cause c = record {
  same = search rules;
  cause = search rules;
  known = λ absent. absurd
      (held-present c.args.self.now.files.items c.args.name.now c.in-Some.field-0
      (sym c.place.ensures ∙ c.in-Some.is) absent);
  later = search rules;
}

pub returns-in-None-clause-cause : goal.returns-in-None-clause-cause
returns-in-None-clause-cause c = record {
  same = search rules;
  cause = inr (
    held-lost c.args.self.now.files.items c.args.name.now (sym c.place.ensures ∙ c.in-None.is),
    refl,
  );
  known = λ absent. refl;
  later = search rules;
}

pub returns-in-None-clause-unlisted : goal.returns-in-None-clause-unlisted
returns-in-None-clause-unlisted c =
    inr (held-lost c.args.self.now.files.items c.args.name.now (sym c.place.ensures ∙ c.in-None.is))
