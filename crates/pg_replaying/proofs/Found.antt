-- What is due, from what was read.
use Rattle.std.proofs.Common.{◌≡◌, ℕ, List, Option, Some, None, Result, Ok, Err, refl, sym, subst}
use Rattle.pg_replaying.proofs.Common.{AnyEntry, Bytes, Finds, Game, Halt, Holding, IsFound, Look}
use Rattle.pg_replaying.proofs.Common.{NoMeaning, Opens, Positional, Refused, Stopped, Telling}
use Rattle.pg_replaying.proofs.Common.{any_entry, any_held, entry}
use Rattle.pg_drawing.specs.declared.board.Board.{Board}
use Rattle.pg_drawing.specs.declared.board.Board.TheVariants as boards
use Rattle.pg_replaying.specs.Due.{IsReadDue, IsRecordDue}
use Rattle.pg_replaying.specs.Records.{moves_held}

module _ (look : Look) (count : Option ℕ) where
  -- what is due of the moves that were read is due of what the name contains
  pub moves_due : {A : Type 0} (view : A → List ℕ) (g : Game) (h : Option Holding) (name : Bytes)
      (moves : A)
      → Opens view (moves_held g) h name (Ok moves)
      → (r : Result Telling Halt) → IsFound (IsReadDue look g count (Ok (view moves))) r
      → Finds h (λ held. IsReadDue look g count (moves_held g (held name))) r
  moves_due view g None name moves opens r due = tt
  moves_due view g (Some held) name moves opens r due =
      subst (λ (read : Result (List ℕ) Halt). IsFound (IsReadDue look g count read) r) (sym opens)
      due

  -- a game on lines or a switching game
  of_game : (g : Game) (bytes : Option Bytes) (r : Result Telling Halt)
      → IsFound (IsReadDue look g count (moves_held g bytes)) r
      → IsFound (IsRecordDue look count (Ok (Positional (entry g))) bytes) r
  of_game g bytes (Ok told) due = (g, refl, due)
  of_game g bytes (Err (Refused refusal)) due = (g, refl, due)
  of_game g bytes (Err (Stopped stop)) due = tt

  pub game_due : (b : Board) (g : Game) (h : Option Holding) (name : Bytes)
      → b ≡ boards.Positional g
      → (r : Result Telling Halt)
      → Finds h (λ held. IsReadDue look g count (moves_held g (held name))) r
      → Finds h (λ held. IsRecordDue look count (Ok (any_entry b)) (held name)) r
  game_due b g None name is r due = tt
  game_due b g (Some held) name is r due =
      subst (λ (b : Board). IsFound (IsRecordDue look count (Ok (any_entry b)) (held name)) r)
      (sym is) (of_game g (held name) r due)

  -- games of other kinds aren't recorded
  pub refusal_due : (b : Board) (h : Option Holding) (name : Bytes)
      → ((bytes : Option Bytes) → IsFound (IsRecordDue look count (Ok (any_entry b)) bytes)
      (Err (Refused NoMeaning)))
      → Finds h (λ held. IsRecordDue look count (Ok (any_entry b)) (held name))
      (Err (Refused NoMeaning))
  refusal_due b None name due = tt
  refusal_due b (Some held) name due = due (held name)

  -- the game of a name
  pub board_due : (h : Option Holding) (game name : Bytes) (b : Board)
      → Opens any_entry any_held h game (Ok b)
      → (r : Result Telling Halt)
      → Finds h (λ held. IsRecordDue look count (Ok (any_entry b)) (held name)) r
      → Finds h (λ held. IsRecordDue look count (any_held (held game)) (held name)) r
  board_due None game name b opens r due = tt
  board_due (Some held) game name b opens r due =
      subst (λ (read : Result AnyEntry Halt). IsFound (IsRecordDue look count read (held name)) r)
      (sym opens) due
