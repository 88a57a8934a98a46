use Rattle.std.proofs.Common.{refl, sym, ◌≡◌, ◌∷◌, ◌∙◌, ap}
use Rattle.pg_io.proofs.MemoryLemmas.{held-front}
use Rattle.pg_io.specs.Files.{Stores, Bytes}
use Rattle.pg_io.specs.Memory.{held_by}
use Rattle.pg_io.proofs.mem_files.MemFilesFiles.finish.Goals as goal

pub returns-in-Ok-clause-stored : goal.returns-in-Ok-clause-stored
returns-in-Ok-clause-stored c =
    let files = c.args.self.now.files.items in
    let file : Bytes × Bytes = (c.in-Some.draft.name, c.in-Some.draft.bytes.items) in
    let items : c.insert.new.self.items ≡ file ∷ files = c.in-Ok.ensures.items
    ∙ ap (λ (t : Bytes). (c.in-Some.draft.name, t) ∷ files) c.from_vec.ensures in
    let stored : Stores (held_by files) file (held_by c.insert.new.self.items) =
    rw items (held-front files file) in
    rw (sym c.in-Some.ensures.value) (held_by c.insert.new.self.items, refl, stored)
