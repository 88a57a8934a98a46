-- Checks, plays and classes of games on vectors.
use Rattle.std.proofs.Common.{◌≡◌, ◌∙◌, ℕ, [], ◌∷◌, List, Option, Some, None, Result, Ok, Err}
use Rattle.std.proofs.Common.{option_map, refl, ap, subst, inl}
use Rattle.std.specs.Prelude.{IfOk}
use Rattle.pg_families.proofs.Common.{Side, ConsoleTold, Bytes, FilesTold, Illegal, Position}
use Rattle.pg_families.proofs.Common.{IsFirstVecFault, IsVecValid, flaw_number, VecPlay}
use Rattle.pg_families.proofs.Common.{MakesVecMove, TakesVecReply, AnswersOnVectors, MovesOnVectors}
use Rattle.pg_families.proofs.Common.{chosen_vec_claim, plan_of_claim, vec_start, Cert, Claim}
use Rattle.pg_families.proofs.Common.{VecFlaw, VecGame, printed_certificate, Class, vector_entry}
use Rattle.pg_families.proofs.Common.{RejectedVectors, Answers, Contender, MakesMove, Moves}
use Rattle.pg_families.proofs.Common.{TakesReply, at, Does, Performs, IsPlay, Delivers, Halt}
use Rattle.pg_families.proofs.Common.{Refused, follows_more}
use Rattle.pg_gf2.specs.declared.plan.VecPlan.{VecPlan}
use Rattle.pg_families.specs.Vectors.{AcceptsVectors, HasVecClaim, LacksVecClaim, PlaysVectors}
use Rattle.pg_families.specs.Vectors.{RefusesVectorCheck, RefusesVectorPlay, RejectsVectors}
use Rattle.pg_families.specs.Vectors.{ShowsVecClass, SolvesVectorGame, vec_class_text}
use Rattle.pg_families.specs.Vectors.{vec_contender, vec_player, vectors_pair}
use Rattle.pg_families.proofs.Judging.{played_valid, refused_here}

-- ---- what stands against a certificate

rejects : (g : VecGame) (c : Cert) (claim node : ℕ) (why : VecFlaw) (number : ℕ)
    → number ≡ flaw_number why
    → IsFirstVecFault g c claim node why
    → RejectsVectors g c (RejectedVectors claim node number)
rejects g c claim node why number is fault =
    (claim, node, why, fault, ap (λ (n : ℕ). RejectedVectors claim node n) is)

pub judged_rejects : (g : VecGame) (c : Cert) (claim node : ℕ) (why : VecFlaw) (number : ℕ)
    → number ≡ flaw_number why
    → (console : ConsoleTold) → IsFirstVecFault g c claim node why
    → Performs (RefusesVectorCheck (Ok (vectors_pair (g, c))))
    (AcceptsVectors (Ok (vectors_pair (g, c)))) console console
    (Err (Refused (RejectedVectors claim node number)))
judged_rejects g c claim node why number is console fault =
    refused_here (RefusesVectorCheck (Ok (vectors_pair (g, c))))
    (AcceptsVectors (Ok (vectors_pair (g, c)))) console (RejectedVectors claim node number)
    (g, refl, rejects g c claim node why number is fault)

pub play_rejects : (side : Side) (g : VecGame) (c : Cert) (claim node : ℕ) (why : VecFlaw)
    (number : ℕ)
    → number ≡ flaw_number why
    → (console : ConsoleTold) → IsFirstVecFault g c claim node why
    → Performs (RefusesVectorPlay side (Ok (vectors_pair (g, c))))
    (PlaysVectors side (Ok (vectors_pair (g, c)))) console console
    (Err (Refused (RejectedVectors claim node number)))
play_rejects side g c claim node why number is console fault =
    refused_here (RefusesVectorPlay side (Ok (vectors_pair (g, c))))
    (PlaysVectors side (Ok (vectors_pair (g, c)))) console (RejectedVectors claim node number)
    (g, refl, inl (rejects g c claim node why number is fault))

-- ---- plays

has_claim : (g : VecGame) (o : Option Claim) (plan : VecPlan)
    → option_map (plan_of_claim g) o ≡ Some plan
    → (claim : Claim) × (o ≡ Some claim)
has_claim g None plan e = absurd (cc e)
has_claim g (Some claim) plan e = (claim, refl)

-- a player was opened, and its claim is said and played
pub plays_opened : (side : Side) (g : VecGame) (c : Cert) (before after : ConsoleTold)
    (play : VecPlay) (r : Result ℕ Halt)
    → IsVecValid g c
    → option_map (plan_of_claim g) (chosen_vec_claim g c side) ≡ Some play.plan
    → play.side ≡ side
    → play.game ≡ g
    → play.position ≡ vec_start g
    → Performs (λ _. ⊥) (IsPlay (vec_player play)) before after r
    → Performs (RefusesVectorPlay side (Ok (vectors_pair (g, c))))
    (PlaysVectors side (Ok (vectors_pair (g, c)))) before after r
plays_opened side g c before after play r valid chosen own same at_start performs =
    played_valid vector_entry IsVecValid RejectsVectors g c valid (HasVecClaim side)
    (LacksVecClaim side) (vec_contender side) side before after r
    (has_claim g (chosen_vec_claim g c side) play.plan chosen)
    (subst (λ (k : Contender). Performs (λ _. ⊥) (IsPlay k) before after r) seen performs)
  where
    view : VecGame → Side → Position → Contender
    view h s p = vec_player (record play { game = h; side = s; position = p })

    seen : vec_player play ≡ vec_contender side g
    seen = ap (λ (h : VecGame). view h play.side play.position) same
        ∙ (ap (λ (s : Side). view g s play.position) own
        ∙ ap (λ (p : Position). view g side p) at_start)

-- ---- what is seen of a player

same_player : (old new : VecPlay)
    → new.game ≡ old.game
    → new.side ≡ old.side
    → vec_player new ≡ at (vec_player old) new.position
same_player old new game side = ap (λ (h : VecGame). vec_player (record new { game = h })) game
    ∙ ap (λ (s : Side). vec_player (record new { game = old.game; side = s })) side

seen_move : (old new : VecPlay) (last : Option ℕ) (v : ℕ)
    → MakesVecMove old new last v
    → MakesMove (vec_player old) (vec_player new) v
seen_move old new last v made = record {
  going = made.going;
  turn = made.turn;
  within = made.within;
  free = made.free;
  next = same_player old new made.same_game made.same_side
      ∙ ap (λ (p : Position). at (vec_player old) p) made.position;
}

seen_reply : (old new : VecPlay) (v : ℕ)
    → TakesVecReply old new v
    → TakesReply (vec_player old) (vec_player new) v
seen_reply old new v takes =
    record { legal = takes.legal; same = same_player old new takes.same_game takes.same_side }

pub seen_moves : (old new : VecPlay) (own : Option ℕ)
    → MovesOnVectors old new own
    → Moves (vec_player old) (vec_player new) own
seen_moves old new None (waits, same) = (waits, ap vec_player same)
seen_moves old new (Some v) made = seen_move old new None v made

pub seen_answers : (old new : VecPlay) (v : ℕ) (r : Result (Option ℕ) Illegal)
    → IfOk r (λ own. AnswersOnVectors old new v own)
    → IfOk r (λ own. Answers (vec_player old) (vec_player new) v own)
seen_answers old new v (Err fault) answers = tt
seen_answers old new v (Ok None) (takes, over) = (seen_reply old new v takes, inl over)
seen_answers old new v (Ok (Some own)) (between, takes, made) =
    (vec_player between, seen_reply old between v takes, seen_move between new (Some v) own made)

-- ---- classes

-- what delivers the certificate that shows the class solves the game
pub delivers_class : (g : VecGame) (name : Bytes) (sets : Class) (c : Cert) (texts : List Bytes)
    (files files' : FilesTold) (before after : ConsoleTold) (r : Result ℕ Halt)
    → ShowsVecClass g sets c
    → texts ≡ vec_class_text sets ∷ []
    → Does (Delivers (name, printed_certificate c) texts) files files' before after r
    → Does (SolvesVectorGame g name) files files' before after r
delivers_class g name sets c texts files files' before after r shown is h =
    follows_more (Delivers (name, printed_certificate c) texts)
    (SolvesVectorGame g name) files files' before after r (λ done end act. (
      sets,
      c,
      shown,
      subst (λ (t : List Bytes). Delivers (name, printed_certificate c) t done end) is act,
    )) h
