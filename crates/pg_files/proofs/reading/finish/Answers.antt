use Rattle.std.proofs.Common.{sym, subst}
use Rattle.pg_files.proofs.Common.{Field, IsFit}
use Rattle.pg_files.specs.GameFile.{nothing}
use Rattle.pg_files.specs.Views.{view}
use Rattle.pg_files.proofs.Sound.{fits_sound, sound_reading, sound_nothing}
use Rattle.pg_files.proofs.reading.finish.Goals as goal

pub invariant_of-result : goal.invariant_of-result
invariant_of-result c =
    let d = view c.args.draft in
    let sound = sound_reading 1 nothing d c.requires.said_by sound_nothing c.requires.is_said in
    record {
      fits = subst
          (λ (f : Field). IsFit c.in-Some.kind f c.args.draft.x c.args.draft.y c.args.draft.bias)
          (sym c.field_of-field.ensures)
          (fits_sound d c.in-Some.kind c.in-Some-turn.turn sound c.in-Some.is c.in-Some-turn.is);
    }
