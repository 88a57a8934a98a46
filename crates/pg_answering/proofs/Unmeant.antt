-- Arguments that are too few for a task.
use Rattle.std.proofs.Common.{◌<◌, List, [], ◌∷◌, length, map, refl, arith}
use Rattle.pg_io.specs.Files.{Bytes}
use Rattle.pg_messages.specs.declared.statuses.TheConstants.{NO_MEANING}
use Rattle.pg_answering.specs.Machine.{Told}
use Rattle.pg_answering.specs.Settling.{DoesTask}
use Rattle.pg_answering.specs.Tasks.{task_of}

-- fewer than two words ask for nothing
pub unmeant : {X : Type 0} (f : X → Bytes) (words : List X) (state : Told)
    → length words < 2
    → DoesTask (task_of (map f words)) state state NO_MEANING
unmeant f [] state few = record { state = refl; refused = refl }
unmeant f (word ∷ []) state few = record { state = refl; refused = refl }
unmeant f (first ∷ second ∷ words) state few = absurd (omega (arith, few))
