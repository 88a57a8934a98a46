use Rattle.std.proofs.Common.{sym, ◌∙◌, Some, ap, List, ℕ}
use Rattle.pg_io.proofs.MemoryLemmas.{held-read, held-lost}
use Rattle.pg_io.proofs.mem_files.MemFiles.bytes_of.Goals as goal

pub returns-in-Some : goal.returns-in-Some
returns-in-Some c = ap (λ (b : List ℕ). Some b) c.as_slice.ensures
    ∙ held-read c.args.self.now.files.items c.args.name.now c.in-Some.place c.index.result.now
    (sym c.place.ensures ∙ c.in-Some.is) c.index.ensures

pub returns-in-None : goal.returns-in-None
returns-in-None c =
    sym (held-lost c.args.self.now.files.items c.args.name.now (sym c.place.ensures ∙ c.in-None.is))
