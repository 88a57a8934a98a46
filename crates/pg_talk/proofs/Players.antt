-- Players by a claim of a certificate, as they are seen.
use Rattle.std.proofs.Common.{◌≡◌, ◌∙◌, ℕ, Option, Some, None, Result, Ok, Err, ap, IfOk}
use Rattle.pg_talk.proofs.Common.{Game, Illegal, Position, Play}
use Rattle.pg_cert.specs.declared.cert.Claim.{Claim}
use Rattle.pg_player.specs.Player.{MakesMove as Makes, TakesReply as Takes, Answers as Replies}
use Rattle.pg_talk.specs.Contender.{Answers, MakesMove, TakesReply, at, contender_of, player_of}

-- on the same game by the same claim only the position is another
same_player : (old new : Play)
    → new.game ≡ old.game
    → new.claim ≡ old.claim
    → player_of new ≡ at (player_of old) new.position
same_player old new game claim =
    ap (λ (g : Game). contender_of g new.claim.side new.claim.goal new.position) game
    ∙ ap (λ (k : Claim). contender_of old.game k.side k.goal new.position) claim

seen_move : (old new : Play) (v : ℕ) → Makes old new v → MakesMove (player_of old) (player_of new) v
seen_move old new v made = record {
  going = made.going;
  turn = made.turn;
  within = made.within;
  free = made.free;
  next = same_player old new made.same_game made.same_claim
      ∙ ap (λ (p : Position). at (player_of old) p) made.position;
}

seen_reply : (old new : Play) (v : ℕ)
    → Takes old new v
    → TakesReply (player_of old) (player_of new) v
seen_reply old new v takes =
    record { legal = takes.legal; same = same_player old new takes.same_game takes.same_claim }

pub seen_answers : (old new : Play) (v : ℕ) (r : Result (Option ℕ) Illegal)
    → IfOk r (λ own. Replies old new v own)
    → IfOk r (λ own. Answers (player_of old) (player_of new) v own)
seen_answers old new v (Err fault) answers = tt
seen_answers old new v (Ok None) (takes, waits) = (seen_reply old new v takes, waits)
seen_answers old new v (Ok (Some own)) (between, takes, made) =
    (player_of between, seen_reply old between v takes, seen_move between new own made)
