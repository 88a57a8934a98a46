-- WHAT A RUN IS.
use Rattle.std.specs.Prelude.{ℕ, ◌⊎◌, List, [], ◌∷◌, Option, IfSome}
use Rattle.pg_binding.specs.Prelude.{Bytes, Chart, ConsoleTold, DONE, FAULTY_GAME, Grows, Holding}
use Rattle.pg_binding.specs.Prelude.{NO_MEMORY, READ_FAILED, REFUSED, SaysNothing}
use Rattle.pg_binding.specs.Prelude.{WRITE_FAILED}
use Rattle.pg_io.specs.declared.entry.Entry.TheVariants.{Said}
use Rattle.pg_binding.specs.Books.{book_held}
use Rattle.pg_binding.specs.Due.{IsBookDue}

-- the statuses with which a run may end
abbrev pub book_statuses : List ℕ
book_statuses =
    DONE ∷ FAULTY_GAME ∷ REFUSED ∷ READ_FAILED ∷ WRITE_FAILED ∷ NO_MEMORY ∷ []

-- what is due was printed at once, and nothing else
pub record SaysBook (game certificate : Bytes) (layout : Option Chart) (depth : Option ℕ)
    (held : Holding) (before after : ConsoleTold) (status : ℕ) : Type 0 where
  pub text : Bytes
  pub due : IsBookDue layout depth (book_held (held game) (held certificate)) text status
  pub said : Grows before.log after.log (Said text ∷ [])

-- a run, where it is told what the names contain
abbrev pub Ran : Bytes → Bytes → Option Chart → Option ℕ → Option Holding → ConsoleTold
    → ConsoleTold → ℕ → Type 0
Ran game certificate layout depth told before after status = IfSome told (λ held.
    SaysBook game certificate layout depth held before after status
    ⊎ SaysNothing before after status)
