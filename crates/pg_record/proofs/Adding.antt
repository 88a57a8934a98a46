-- One event more, where nothing is wrong with it.
use Rattle.std.proofs.Common.{◌≡◌, ℕ, ◌<◌, false, List, [], ◌∷◌, ◌++◌, length, refl, arith, Ok}
use Rattle.std.specs.Prelude.{◌==◌, is_err}
use Rattle.pg_record.proofs.Common.{nat_tests, Game, judged_move}
use Rattle.pg_record.specs.declared.event.Event.{Event}
use Rattle.pg_record.specs.declared.event.Event.TheVariants.{Play, Back}
use Rattle.pg_record.specs.Replay.{replay}
use Rattle.pg_record.specs.RecordFile.{is_full, with_one}

module _ (g : Game) (events : List Event) where
  has_room : length events < 10000 → is_full events ≡ false
  has_room few = grind (arith, nat_tests)

  some : 0 < length (replay g events).moves → (length (replay g events).moves == 0) ≡ false
  some h = grind (arith, nat_tests)

  pub move-added : (v : ℕ)
      → is_err (judged_move g (replay g events).position v) ≡ false
      → length events < 10000
      → with_one g events (Play v) ≡ Ok (events ++ Play v ∷ [])
  move-added v legal few = let room = has_room few in rw (legal, room) refl

  pub back-added : 0 < length (replay g events).moves
      → length events < 10000
      → with_one g events Back ≡ Ok (events ++ Back ∷ [])
  back-added h few = let on = some h in let room = has_room few in rw (on, room) refl
