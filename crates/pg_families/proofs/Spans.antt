-- Checks, plays and classes of connectivity games.
use Rattle.std.proofs.Common.{◌≡◌, ◌∙◌, ℕ, [], ◌∷◌, List, Option, Some, None, Result, Ok, Err}
use Rattle.std.proofs.Common.{option_map, refl, ap, subst, inl}
use Rattle.std.specs.Prelude.{IfOk}
use Rattle.pg_families.proofs.Common.{Side, ConsoleTold, Bytes, FilesTold, Illegal, Position}
use Rattle.pg_families.proofs.Common.{SpanPlay, MakesSpanMove, TakesSpanReply, AnswersInSpan}
use Rattle.pg_families.proofs.Common.{MovesInSpan, chosen_span_claim, span_start, IsFirstFlaw}
use Rattle.pg_families.proofs.Common.{IsSpanValid, SpanBody, SpanCert, SpanClaim, SpanFlaw}
use Rattle.pg_families.proofs.Common.{SpanGame, SpanClass, printed_span, span_entry, RejectedSpan}
use Rattle.pg_families.proofs.Common.{Answers, Contender, MakesMove, Moves, TakesReply, at, Does}
use Rattle.pg_families.proofs.Common.{Performs, IsPlay, Delivers, Halt, Refused, follows_more}
use Rattle.pg_span.specs.Flaw.{flaw_number}
use Rattle.pg_families.specs.Connectivity.{AcceptsSpans, HasSpanClaim, LacksSpanClaim, PlaysSpan}
use Rattle.pg_families.specs.Connectivity.{RefusesSpanCheck, RefusesSpanPlay, RejectsSpan}
use Rattle.pg_families.specs.Connectivity.{ShowsSpanClass, SolvesSpanGame, span_class_text}
use Rattle.pg_families.specs.Connectivity.{span_contender, span_pair, span_player}
use Rattle.pg_families.proofs.Judging.{played_valid, refused_here}

-- ---- what stands against a certificate

rejects : (g : SpanGame) (c : SpanCert) (claim : ℕ) (why : SpanFlaw) (number : ℕ)
    → number ≡ flaw_number why
    → IsFirstFlaw g c claim why
    → RejectsSpan g c (RejectedSpan claim number)
rejects g c claim why number is fault = (claim, why, fault, ap (λ (n : ℕ). RejectedSpan claim n) is)

pub judged_rejects : (g : SpanGame) (c : SpanCert) (claim : ℕ) (why : SpanFlaw) (number : ℕ)
    → number ≡ flaw_number why
    → (console : ConsoleTold) → IsFirstFlaw g c claim why
    → Performs (RefusesSpanCheck (Ok (span_pair (g, c)))) (AcceptsSpans (Ok (span_pair (g, c))))
    console console (Err (Refused (RejectedSpan claim number)))
judged_rejects g c claim why number is console fault =
    refused_here (RefusesSpanCheck (Ok (span_pair (g, c)))) (AcceptsSpans (Ok (span_pair (g, c))))
    console (RejectedSpan claim number) (g, refl, rejects g c claim why number is fault)

pub play_rejects : (side : Side) (g : SpanGame) (c : SpanCert) (claim : ℕ) (why : SpanFlaw)
    (number : ℕ)
    → number ≡ flaw_number why
    → (console : ConsoleTold) → IsFirstFlaw g c claim why
    → Performs (RefusesSpanPlay side (Ok (span_pair (g, c))))
    (PlaysSpan side (Ok (span_pair (g, c)))) console console
    (Err (Refused (RejectedSpan claim number)))
play_rejects side g c claim why number is console fault = refused_here
    (RefusesSpanPlay side (Ok (span_pair (g, c)))) (PlaysSpan side (Ok (span_pair (g, c)))) console
    (RejectedSpan claim number) (g, refl, inl (rejects g c claim why number is fault))

-- ---- plays

has_claim : (o : Option SpanClaim) (body : SpanBody)
    → option_map (λ claim. claim.body) o ≡ Some body
    → (claim : SpanClaim) × (o ≡ Some claim)
has_claim None body e = absurd (cc e)
has_claim (Some claim) body e = (claim, refl)

-- a player was opened, and its claim is said and played
pub plays_opened : (side : Side) (g : SpanGame) (c : SpanCert) (before after : ConsoleTold)
    (play : SpanPlay) (r : Result ℕ Halt)
    → IsSpanValid g c
    → option_map (λ claim. claim.body) (chosen_span_claim g c side) ≡ Some play.plan
    → play.side ≡ side
    → play.game ≡ g
    → play.position ≡ span_start g
    → Performs (λ _. ⊥) (IsPlay (span_player play)) before after r
    → Performs (RefusesSpanPlay side (Ok (span_pair (g, c))))
    (PlaysSpan side (Ok (span_pair (g, c)))) before after r
plays_opened side g c before after play r valid chosen own same at_start performs =
    played_valid span_entry IsSpanValid RejectsSpan g c valid (HasSpanClaim side)
    (LacksSpanClaim side) (span_contender side) side before after r
    (has_claim (chosen_span_claim g c side) play.plan chosen)
    (subst (λ (k : Contender). Performs (λ _. ⊥) (IsPlay k) before after r) seen performs)
  where
    view : SpanGame → Side → Position → Contender
    view h s p = span_player (record play { game = h; side = s; position = p })

    seen : span_player play ≡ span_contender side g
    seen = ap (λ (h : SpanGame). view h play.side play.position) same
        ∙ (ap (λ (s : Side). view g s play.position) own
        ∙ ap (λ (p : Position). view g side p) at_start)

-- ---- what is seen of a player

same_player : (old new : SpanPlay)
    → new.game ≡ old.game
    → new.side ≡ old.side
    → span_player new ≡ at (span_player old) new.position
same_player old new game side = ap (λ (h : SpanGame). span_player (record new { game = h })) game
    ∙ ap (λ (s : Side). span_player (record new { game = old.game; side = s })) side

seen_move : (old new : SpanPlay) (last : Option ℕ) (v : ℕ)
    → MakesSpanMove old new last v
    → MakesMove (span_player old) (span_player new) v
seen_move old new last v made = record {
  going = made.going;
  turn = made.turn;
  within = made.within;
  free = made.free;
  next = same_player old new made.same_game made.same_side
      ∙ ap (λ (p : Position). at (span_player old) p) made.position;
}

seen_reply : (old new : SpanPlay) (v : ℕ)
    → TakesSpanReply old new v
    → TakesReply (span_player old) (span_player new) v
seen_reply old new v takes =
    record { legal = takes.legal; same = same_player old new takes.same_game takes.same_side }

pub seen_moves : (old new : SpanPlay) (own : Option ℕ)
    → MovesInSpan old new own
    → Moves (span_player old) (span_player new) own
seen_moves old new None (waits, same) = (waits, ap span_player same)
seen_moves old new (Some v) made = seen_move old new None v made

pub seen_answers : (old new : SpanPlay) (v : ℕ) (r : Result (Option ℕ) Illegal)
    → IfOk r (λ own. AnswersInSpan old new v own)
    → IfOk r (λ own. Answers (span_player old) (span_player new) v own)
seen_answers old new v (Err fault) answers = tt
seen_answers old new v (Ok None) (takes, over) = (seen_reply old new v takes, inl over)
seen_answers old new v (Ok (Some own)) (between, takes, made) =
    (span_player between, seen_reply old between v takes, seen_move between new (Some v) own made)

-- ---- classes

-- what delivers the certificate that shows the class solves the game
pub delivers_class : (g : SpanGame) (name : Bytes) (class : SpanClass) (c : SpanCert)
    (texts : List Bytes) (files files' : FilesTold) (before after : ConsoleTold) (r : Result ℕ Halt)
    → ShowsSpanClass g class c
    → texts ≡ span_class_text class ∷ []
    → Does (Delivers (name, printed_span c) texts) files files' before after r
    → Does (SolvesSpanGame g name) files files' before after r
delivers_class g name class c texts files files' before after r shown is h =
    follows_more (Delivers (name, printed_span c) texts)
    (SolvesSpanGame g name) files files' before after r (λ done end act. (
      class,
      c,
      shown,
      subst (λ (t : List Bytes). Delivers (name, printed_span c) t done end) is act,
    )) h
