use Rattle.std.proofs.Common.{◌≡◌, ◌∙◌, ℕ, suc, ◌+◌, ◌<◌, ◌≤◌, true, false, [], ◌∷◌, length, map}
use Rattle.std.proofs.Common.{take, Option, None, Ok, IfSome, slice_index_or, refl, sym, ap, subst}
use Rattle.std.proofs.Common.{arith}
use Rattle.pg_sessions.proofs.Common.{err_from_is_err_and, after, start, Grows, Said, Memory}
use Rattle.pg_sessions.proofs.Common.{reviewed_text, unknown_at_text}
use Rattle.pg_sessions.proofs.SaidSoFar.{at-start, cut-short, goes-on, may-play, none-yet}
use Rattle.pg_sessions.proofs.SaidSoFar.{one-behind, position-there, reviewed, said-more}
use Rattle.pg_sessions.proofs.SaidSoFar.{stands-more, stays-open, still, there}
use Rattle.pg_sessions.proofs.Searched.{among-first, among-next, decided-more, in-time}
use Rattle.pg_sessions.proofs.Searched.{in-time-so-far, known-here, known-next, left-along}
use Rattle.pg_sessions.proofs.Searched.{untold-next}
use Rattle.pg_sessions.proofs.Standing.{known-value, leaves-one}
use Rattle.pg_sessions.specs.Known.{IsKnown, IsSolvedBy}
use Rattle.pg_sessions.specs.Review.{IsGameAt, loss_texts}
use Rattle.pg_sessions.specs.declared.known.Known.{Known}
use Rattle.pg_sessions.proofs.reviewing.review_moves.Goals as goal

-- ---- the first position

pub returns-in_err-known-clause-work : goal.returns-in_err-known-clause-work
returns-in_err-known-clause-work g c = left-along c.args.game.now c.args.moves.now c.args.positions
    0 c.args.work.now c.decide.new.work (omega arith)
    (among-first c.args.game.now c.args.moves.now c.args.positions c.args.work.now c.decide.new.work
    (at-start c.args.game.now) (leaves-one c.args.game.now c.args.positions c.args.work.now
    c.decide.new.work c.decide.ensures.work c.decide.ensures.untouched))

pub returns-in_err-say-clause-work : goal.returns-in_err-say-clause-work
returns-in_err-say-clause-work g c = left-along c.args.game.now c.args.moves.now c.args.positions 0
    c.args.work.now c.decide.new.work (omega arith)
    (among-first c.args.game.now c.args.moves.now c.args.positions c.args.work.now c.decide.new.work
    (at-start c.args.game.now) (leaves-one c.args.game.now c.args.positions c.args.work.now
    c.decide.new.work c.decide.ensures.work c.decide.ensures.untouched))

pub returns-in_default-clause-work : goal.returns-in_default-clause-work
returns-in_default-clause-work g c = left-along c.args.game.now c.args.moves.now c.args.positions 0
    c.args.work.now c.decide.new.work (omega arith)
    (among-first c.args.game.now c.args.moves.now c.args.positions c.args.work.now c.decide.new.work
    (at-start c.args.game.now) (leaves-one c.args.game.now c.args.positions c.args.work.now
    c.decide.new.work c.decide.ensures.work c.decide.ensures.untouched))

pub returns-in_err-known-clause-prompt : goal.returns-in_err-known-clause-prompt
returns-in_err-known-clause-prompt g c =
    let game = c.args.game.now in
    let moves = c.args.moves.now in
    let before = g.C.Console.told c.args.console.now in
    let after = before in
    in-time-so-far game moves before after c.args.positions 0 0 c.args.work.now c.decide.new.work
    (omega arith) (omega arith) (none-yet game moves c.requires.legal before.log after.log refl)
    (among-first game moves c.args.positions c.args.work.now c.decide.new.work (at-start game)
    (leaves-one game c.args.positions c.args.work.now c.decide.new.work c.decide.ensures.work
    c.decide.ensures.untouched))

pub returns-in_err-say-clause-prompt : goal.returns-in_err-say-clause-prompt
returns-in_err-say-clause-prompt g c =
    let game = c.args.game.now in
    let moves = c.args.moves.now in
    let before = g.C.Console.told c.args.console.now in
    let after = g.C.Console.told c.say.new.console in
    in-time-so-far game moves before after c.args.positions 0 0 c.args.work.now c.decide.new.work
    (omega arith) (omega arith)
    (none-yet game moves c.requires.legal before.log after.log c.in_err-say.ensures.said)
    (among-first game moves c.args.positions c.args.work.now c.decide.new.work (at-start game)
    (leaves-one game c.args.positions c.args.work.now c.decide.new.work c.decide.ensures.work
    c.decide.ensures.untouched))

pub returns-in_default-clause-prompt : goal.returns-in_default-clause-prompt
returns-in_default-clause-prompt g c =
    let game = c.args.game.now in
    let moves = c.args.moves.now in
    let before = g.C.Console.told c.args.console.now in
    let after = g.C.Console.told c.say.new.console in
    let last = unknown_at_text 0 c.budget_of-positions.result in
    in-time game moves before after c.args.positions 0 0
    (last ∷ []) c.args.work.now c.decide.new.work (omega arith) (omega arith)
    (one-behind before.log before.log after.log (loss_texts game (take 0 moves)) last
    (none-yet game moves c.requires.legal before.log before.log refl) c.in_ok-say.ensures.said)
    (among-first game moves c.args.positions c.args.work.now c.decide.new.work (at-start game)
    (leaves-one game c.args.positions c.args.work.now c.decide.new.work c.decide.ensures.work
    c.decide.ensures.untouched))

pub returns-in_err-say-clause-reviewed : goal.returns-in_err-say-clause-reviewed
returns-in_err-say-clause-reviewed g c =
    let p =
    err_from_is_err_and c.from_residual-in_err-say.result c.from_residual-in_err-say.ensures.1 in
    let moves = c.args.moves.now in
    let before = g.C.Console.told c.args.console.now in
    let after = g.C.Console.told c.say.new.console in
    rw (p.1, p.2)
    (cut-short c.args.game.now moves c.requires.legal c.args.positions c.decide.new.work before
    after c.in_err-say.ensures.left 0 c.in_err-say.field-0.0
    (none-yet c.args.game.now moves c.requires.legal before.log after.log
    c.in_err-say.ensures.said))

pub returns-in_default-clause-reviewed : goal.returns-in_default-clause-reviewed
returns-in_default-clause-reviewed g c =
    let game = c.args.game.now in
    let moves = c.args.moves.now in
    let before = g.C.Console.told c.args.console.now in
    let none : c.decide.result ≡ Ok None =
    c.in_ok-known.was ∙ ap (λ (o : Option Known). Ok o) c.in_default.is in
    stays-open game moves c.requires.legal c.args.positions c.decide.new.work before
    (g.C.Console.told c.say.new.console) c.in_ok-say.ensures.left 0 0 game
    c.budget_of-positions.result before.log (omega arith) (omega arith) (at-start game)
    (c.decide.ensures.lines none) (λ n low. absurd (omega (arith, low))) tt
    (c.decide.ensures.unknown none) c.budget_of-positions.ensures.exact
    (none-yet game moves c.requires.legal before.log before.log refl) c.in_ok-say.ensures.said

-- ---- move by move

pub loop-point-init : goal.loop-point-init
loop-point-init g c =
    let game = c.args.game.now in
    let before = g.C.Console.told c.args.console.now in
    record {
      count = refl;
      stands = at-start game;
      told = subst (λ (o : Option Known). IfSome o (IsKnown game (start game))) c.in-Some.is
          c.in_ok-known.ensures.known;
      shown = known-here game c.args.moves.now c.args.positions 0 game c.in-Some.known.certificate
          (at-start game) (subst (λ (o : Option Known).
          IfSome o (λ known. IsSolvedBy game c.args.positions known.certificate)) c.in-Some.is
          c.in_ok-known.ensures.solved);
      decided = λ n low. absurd (omega (arith, low));
      said = none-yet game c.args.moves.now c.requires.legal before.log before.log refl;
      left = refl;
      faults = refl;
      asked = among-first game c.args.moves.now c.args.positions c.args.work.now c.decide.new.work
          (at-start game)
          (leaves-one game c.args.positions c.args.work.now c.decide.new.work c.decide.ensures.work
          c.decide.ensures.untouched);
    }

pub play-requires-clause-within : goal.play-requires-clause-within
play-requires-clause-within g c =
    (may-play c.args.game.now c.args.moves.now c.requires.legal c.loop-point.point-index
    c.loop-point.game c.loop-point-test.true c.requires.single c.loop-point.invariant.stands).0

pub play-requires-clause-free : goal.play-requires-clause-free
play-requires-clause-free g c =
    (may-play c.args.game.now c.args.moves.now c.requires.legal c.loop-point.point-index
    c.loop-point.game c.loop-point-test.true c.requires.single c.loop-point.invariant.stands).1

pub returns-in_err-decided-clause-work : goal.returns-in_err-decided-clause-work
returns-in_err-decided-clause-work g c =
    let game = c.args.game.now in
    let moves = c.args.moves.now in
    let k = c.loop-point.point-index in
    let low : k < length moves = c.loop-point-test.true in
    let stands = stands-more game moves c.requires.legal k c.loop-point.game c.play.new.game low
    c.requires.single c.loop-point.invariant.stands c.play.ensures.played in
    let asked = among-next game moves c.args.positions k c.play.new.game c.args.work.now
    c.loop-point.work c.play.new.work stands c.loop-point.invariant.asked c.play.ensures.work in
    left-along game moves c.args.positions (k + 1) c.args.work.now c.play.new.work
    (omega (arith, low)) asked

pub returns-in_err-say-2-clause-work : goal.returns-in_err-say-2-clause-work
returns-in_err-say-2-clause-work g c =
    let game = c.args.game.now in
    let moves = c.args.moves.now in
    let k = c.loop-point.point-index in
    let low : k < length moves = c.loop-point-test.true in
    let stands = stands-more game moves c.requires.legal k c.loop-point.game c.play.new.game low
    c.requires.single c.loop-point.invariant.stands c.play.ensures.played in
    let asked = among-next game moves c.args.positions k c.play.new.game c.args.work.now
    c.loop-point.work c.play.new.work stands c.loop-point.invariant.asked c.play.ensures.work in
    left-along game moves c.args.positions (k + 1) c.args.work.now c.play.new.work
    (omega (arith, low)) asked

pub returns-then-not-decided-clause-work : goal.returns-then-not-decided-clause-work
returns-then-not-decided-clause-work g c =
    let game = c.args.game.now in
    let moves = c.args.moves.now in
    let k = c.loop-point.point-index in
    let low : k < length moves = c.loop-point-test.true in
    let stands = stands-more game moves c.requires.legal k c.loop-point.game c.play.new.game low
    c.requires.single c.loop-point.invariant.stands c.play.ensures.played in
    let asked = among-next game moves c.args.positions k c.play.new.game c.args.work.now
    c.loop-point.work c.play.new.work stands c.loop-point.invariant.asked c.play.ensures.work in
    left-along game moves c.args.positions (k + 1) c.args.work.now c.play.new.work
    (omega (arith, low)) asked

pub returns-in_err-say_loss-clause-work : goal.returns-in_err-say_loss-clause-work
returns-in_err-say_loss-clause-work g c =
    let game = c.args.game.now in
    let moves = c.args.moves.now in
    let k = c.loop-point.point-index in
    let low : k < length moves = c.loop-point-test.true in
    let stands = stands-more game moves c.requires.legal k c.loop-point.game c.play.new.game low
    c.requires.single c.loop-point.invariant.stands c.play.ensures.played in
    let asked = among-next game moves c.args.positions k c.play.new.game c.args.work.now
    c.loop-point.work c.play.new.work stands c.loop-point.invariant.asked c.play.ensures.work in
    left-along game moves c.args.positions (k + 1) c.args.work.now c.play.new.work
    (omega (arith, low)) asked

pub returns-in_err-decided-clause-prompt : goal.returns-in_err-decided-clause-prompt
returns-in_err-decided-clause-prompt g c =
    let game = c.args.game.now in
    let moves = c.args.moves.now in
    let k = c.loop-point.point-index in
    let low : k < length moves = c.loop-point-test.true in
    let stands = stands-more game moves c.requires.legal k c.loop-point.game c.play.new.game low
    c.requires.single c.loop-point.invariant.stands c.play.ensures.played in
    let asked = among-next game moves c.args.positions k c.play.new.game c.args.work.now
    c.loop-point.work c.play.new.work stands c.loop-point.invariant.asked c.play.ensures.work in
    let before = g.C.Console.told c.args.console.now in
    let after = g.C.Console.told c.loop-point.console in
    in-time-so-far game moves before after c.args.positions k (k + 1) c.args.work.now
    c.play.new.work (omega arith) (omega (arith, low)) (c.loop-point.invariant.said) asked

pub returns-in_err-say-2-clause-prompt : goal.returns-in_err-say-2-clause-prompt
returns-in_err-say-2-clause-prompt g c =
    let game = c.args.game.now in
    let moves = c.args.moves.now in
    let k = c.loop-point.point-index in
    let low : k < length moves = c.loop-point-test.true in
    let stands = stands-more game moves c.requires.legal k c.loop-point.game c.play.new.game low
    c.requires.single c.loop-point.invariant.stands c.play.ensures.played in
    let asked = among-next game moves c.args.positions k c.play.new.game c.args.work.now
    c.loop-point.work c.play.new.work stands c.loop-point.invariant.asked c.play.ensures.work in
    let before = g.C.Console.told c.args.console.now in
    let after = g.C.Console.told c.say-then-not-decided.new.console in
    in-time-so-far game moves before after c.args.positions k
    (k + 1) c.args.work.now c.play.new.work (omega arith) (omega (arith, low))
    (still before.log (g.C.Console.told c.loop-point.console).log after.log _
    c.loop-point.invariant.said c.in_err-say-2.ensures.said) asked

pub returns-then-not-decided-clause-prompt : goal.returns-then-not-decided-clause-prompt
returns-then-not-decided-clause-prompt g c =
    let game = c.args.game.now in
    let moves = c.args.moves.now in
    let k = c.loop-point.point-index in
    let low : k < length moves = c.loop-point-test.true in
    let stands = stands-more game moves c.requires.legal k c.loop-point.game c.play.new.game low
    c.requires.single c.loop-point.invariant.stands c.play.ensures.played in
    let asked = among-next game moves c.args.positions k c.play.new.game c.args.work.now
    c.loop-point.work c.play.new.work stands c.loop-point.invariant.asked c.play.ensures.work in
    let before = g.C.Console.told c.args.console.now in
    let after = g.C.Console.told c.say-then-not-decided.new.console in
    let last =
    unknown_at_text (c.loop-point.number + 1) c.budget_of-positions-then-not-decided.result in
    in-time game moves before after c.args.positions k (k + 1)
    (last ∷ []) c.args.work.now c.play.new.work (omega arith) (omega (arith, low))
    (one-behind before.log (g.C.Console.told c.loop-point.console).log after.log
    (loss_texts game (take k moves)) last c.loop-point.invariant.said c.in_ok-say-2.ensures.said)
    asked

pub returns-in_err-say_loss-clause-prompt : goal.returns-in_err-say_loss-clause-prompt
returns-in_err-say_loss-clause-prompt g c =
    let game = c.args.game.now in
    let moves = c.args.moves.now in
    let k = c.loop-point.point-index in
    let low : k < length moves = c.loop-point-test.true in
    let stands = stands-more game moves c.requires.legal k c.loop-point.game c.play.new.game low
    c.requires.single c.loop-point.invariant.stands c.play.ensures.played in
    let asked = among-next game moves c.args.positions k c.play.new.game c.args.work.now
    c.loop-point.work c.play.new.work stands c.loop-point.invariant.asked c.play.ensures.work in
    let before = g.C.Console.told c.args.console.now in
    let after = g.C.Console.told c.say_loss.new.console in
    in-time-so-far game moves before after c.args.positions k
    (k + 1) c.args.work.now c.play.new.work (omega arith) (omega (arith, low))
    (still before.log (g.C.Console.told c.loop-point.console).log after.log _
    c.loop-point.invariant.said c.in_err-say_loss.ensures.said) asked

pub returns-in_err-decided-clause-reviewed : goal.returns-in_err-decided-clause-reviewed
returns-in_err-decided-clause-reviewed g c =
    let p = err_from_is_err_and c.from_residual-in_err-decided.result
    c.from_residual-in_err-decided.ensures.1 in
    rw (p.1, p.2)
    (cut-short c.args.game.now c.args.moves.now c.requires.legal c.args.positions c.play.new.work
    (g.C.Console.told c.args.console.now) (g.C.Console.told c.loop-point.console)
    c.loop-point.invariant.left c.loop-point.point-index Memory c.loop-point.invariant.said)

pub returns-in_err-say-2-clause-reviewed : goal.returns-in_err-say-2-clause-reviewed
returns-in_err-say-2-clause-reviewed g c =
    let p = err_from_is_err_and c.from_residual-in_err-say-2.result
    c.from_residual-in_err-say-2.ensures.1 in
    let before = g.C.Console.told c.args.console.now in
    let after = g.C.Console.told c.say-then-not-decided.new.console in
    rw (p.1, p.2)
    (cut-short c.args.game.now c.args.moves.now c.requires.legal c.args.positions c.play.new.work
    before after (c.in_err-say-2.ensures.left ∙ c.loop-point.invariant.left)
    c.loop-point.point-index c.in_err-say-2.field-0.0
    (still before.log (g.C.Console.told c.loop-point.console).log after.log _
    c.loop-point.invariant.said c.in_err-say-2.ensures.said))

pub returns-then-not-decided-clause-reviewed : goal.returns-then-not-decided-clause-reviewed
returns-then-not-decided-clause-reviewed g c =
    let game = c.args.game.now in
    let moves = c.args.moves.now in
    let k = c.loop-point.point-index in
    let next = c.play.new.game in
    let count = c.loop-point.invariant.count in
    let low : k < length moves = c.loop-point-test.true in
    let unsettled : c.play.result ≡ Ok false =
    c.in_ok-decided.was ∙ ap (λ (b : _). Ok b) c.if-not-decided.true in
    let stands =
    subst (λ (n : ℕ). IsGameAt game (there game moves c.requires.legal (n + 1)) next) (sym count)
    (stands-more game moves c.requires.legal k c.loop-point.game next low c.requires.single
    c.loop-point.invariant.stands c.play.ensures.played) in
    let kept = c.loop-point.invariant in
    let made : c.loop-point.number + 1 ≡ suc k = omega (arith, count) in
    let goes = goes-on game moves c.requires.legal k
    (slice_index_or moves k 0) c.loop-point.game low refl c.requires.single kept.stands in
    let decided =
    λ (n : ℕ) (before : n < c.loop-point.number + 1). decided-more game moves c.args.positions k
    c.loop-point.known.certificate kept.decided kept.shown n (omega (arith, before, made)) in
    let untold = untold-next game moves c.args.positions k (c.loop-point.number + 1)
    (after c.loop-point.game (start c.loop-point.game) (slice_index_or moves k 0))
    c.loop-point.known.certificate made
    (goes ∙ ap (λ (n : ℕ). there game moves c.requires.legal (n + 1)) (sym count)) kept.shown
    (c.play.ensures.untold unsettled) in
    stays-open game moves c.requires.legal c.args.positions c.play.new.work
    (g.C.Console.told c.args.console.now) (g.C.Console.told c.say-then-not-decided.new.console)
    (c.in_ok-say-2.ensures.left ∙ c.loop-point.invariant.left) k
    (c.loop-point.number + 1) next c.budget_of-positions-then-not-decided.result
    (g.C.Console.told c.loop-point.console).log (omega (arith, count))
    (omega (arith, count, low)) stands (c.play.ensures.lines unsettled) decided untold
    (c.play.ensures.unknown unsettled) c.budget_of-positions-then-not-decided.ensures.exact
    c.loop-point.invariant.said c.in_ok-say-2.ensures.said

pub returns-in_err-say_loss-clause-reviewed : goal.returns-in_err-say_loss-clause-reviewed
returns-in_err-say_loss-clause-reviewed g c =
    let p = err_from_is_err_and c.from_residual-in_err-say_loss.result
    c.from_residual-in_err-say_loss.ensures.1 in
    let before = g.C.Console.told c.args.console.now in
    let after = g.C.Console.told c.say_loss.new.console in
    rw (p.1, p.2)
    (cut-short c.args.game.now c.args.moves.now c.requires.legal c.args.positions c.play.new.work
    before after (c.in_err-say_loss.ensures.left ∙ c.loop-point.invariant.left)
    c.loop-point.point-index c.in_err-say_loss.field-0.0
    (still before.log (g.C.Console.told c.loop-point.console).log after.log _
    c.loop-point.invariant.said c.in_err-say_loss.ensures.said))

pub loop-point-preserved : goal.loop-point-preserved
loop-point-preserved g c =
    let game = c.args.game.now in
    let moves = c.args.moves.now in
    let legal = c.requires.legal in
    let k = c.loop-point.point-index in
    let here = c.loop-point.game in
    let next = c.play.new.game in
    let kept = c.loop-point.invariant in
    let low : k < length moves = c.loop-point-test.true in
    let found : c.play.result ≡ Ok true =
    c.in_ok-decided.was ∙ ap (λ (b : _). Ok b) c.if-not-decided.false in
    let told = c.play.ensures.known found in
    let stands = stands-more game moves legal k here next low c.requires.single kept.stands
    c.play.ensures.played in
    let was = known-value game here (there game moves legal k) c.loop-point.known kept.stands
    (position-there game moves legal k) c.requires.single kept.told in
    let now = known-value game next (there game moves legal (k + 1)) c.play.new.known stands
    (position-there game moves legal (k + 1)) c.requires.single told in
    let count = kept.count in
    record {
      count = omega (arith, count);
      stands = stands;
      told = told;
      shown = known-next game moves c.args.positions k next
          (after here (start here) (slice_index_or moves k 0)) c.loop-point.known c.play.new.known
          stands
          (goes-on game moves legal k (slice_index_or moves k 0) here low refl c.requires.single
          kept.stands) kept.shown (c.play.ensures.found found);
      decided = decided-more game moves c.args.positions k c.loop-point.known.certificate
          kept.decided kept.shown;
      said = said-more game moves legal k (slice_index_or moves k 0) c.loop-point.number next.kind
          here.turn c.loop-point.known.score c.play.new.known.score
          (g.C.Console.told c.args.console.now).log (g.C.Console.told c.loop-point.console).log
          (g.C.Console.told c.say_loss.new.console).log low refl count stands.same_kind
          kept.stands.same_turn (sym was) (sym now) kept.said c.in_ok-say_loss.ensures.said;
      left = c.in_ok-say_loss.ensures.left ∙ kept.left;
      faults = c.in_ok-say_loss.ensures.causes ∙ kept.faults;
      asked = among-next game moves c.args.positions k next c.args.work.now c.loop-point.work
          c.play.new.work stands kept.asked c.play.ensures.work;
    }

-- ---- the end

pub returns-in_err-say-3-clause-work : goal.returns-in_err-say-3-clause-work
returns-in_err-say-3-clause-work g c =
    let game = c.args.game.now in
    let moves = c.args.moves.now in
    let k = c.loop-point.point-index in
    let within = c.loop-point.auto.point-index-end in
    left-along game moves c.args.positions k c.args.work.now c.loop-point.work
    (omega (arith, within)) c.loop-point.invariant.asked

pub returns-clause-work : goal.returns-clause-work
returns-clause-work g c =
    let game = c.args.game.now in
    let moves = c.args.moves.now in
    let k = c.loop-point.point-index in
    let within = c.loop-point.auto.point-index-end in
    left-along game moves c.args.positions k c.args.work.now c.loop-point.work
    (omega (arith, within)) c.loop-point.invariant.asked

pub returns-in_err-say-3-clause-prompt : goal.returns-in_err-say-3-clause-prompt
returns-in_err-say-3-clause-prompt g c =
    let game = c.args.game.now in
    let moves = c.args.moves.now in
    let k = c.loop-point.point-index in
    let within = c.loop-point.auto.point-index-end in
    let before = g.C.Console.told c.args.console.now in
    let after = g.C.Console.told c.say-2.new.console in
    in-time-so-far game moves before after c.args.positions k k c.args.work.now c.loop-point.work
    (omega arith) (omega (arith, within))
    (still before.log (g.C.Console.told c.loop-point.console).log after.log _
    c.loop-point.invariant.said c.in_err-say-3.ensures.said) c.loop-point.invariant.asked

pub returns-clause-prompt : goal.returns-clause-prompt
returns-clause-prompt g c =
    let game = c.args.game.now in
    let moves = c.args.moves.now in
    let k = c.loop-point.point-index in
    let within = c.loop-point.auto.point-index-end in
    let before = g.C.Console.told c.args.console.now in
    let after = g.C.Console.told c.say-2.new.console in
    let last = reviewed_text c.loop-point.number in
    in-time game moves before after c.args.positions k k
    (last ∷ []) c.args.work.now c.loop-point.work (omega arith) (omega (arith, within))
    (one-behind before.log (g.C.Console.told c.loop-point.console).log after.log
    (loss_texts game (take k moves)) last c.loop-point.invariant.said c.in_ok-say-3.ensures.said)
    c.loop-point.invariant.asked

pub returns-in_err-say-3-clause-reviewed : goal.returns-in_err-say-3-clause-reviewed
returns-in_err-say-3-clause-reviewed g c =
    let p = err_from_is_err_and c.from_residual-in_err-say-3.result
    c.from_residual-in_err-say-3.ensures.1 in
    let before = g.C.Console.told c.args.console.now in
    let after = g.C.Console.told c.say-2.new.console in
    rw (p.1, p.2)
    (cut-short c.args.game.now c.args.moves.now c.requires.legal c.args.positions c.loop-point.work
    before after (c.in_err-say-3.ensures.left ∙ c.loop-point.invariant.left)
    c.loop-point.point-index c.in_err-say-3.field-0.0
    (still before.log (g.C.Console.told c.loop-point.console).log after.log _
    c.loop-point.invariant.said c.in_err-say-3.ensures.said))

pub returns-clause-reviewed : goal.returns-clause-reviewed
returns-clause-reviewed g c =
    let game = c.args.game.now in
    let moves = c.args.moves.now in
    let before = g.C.Console.told c.args.console.now in
    let mid = (g.C.Console.told c.loop-point.console).log in
    let count = c.loop-point.invariant.count in
    let done = c.loop-point-test.false in
    let within = c.loop-point.auto.point-index-end in
    let said = subst (λ (n : ℕ). Grows before.log mid (map Said (loss_texts game (take n moves))))
    (sym count) c.loop-point.invariant.said in
    let kept = c.loop-point.invariant in
    let all : c.loop-point.point-index ≡ length moves = omega (arith, done, within) in
    let decided = λ (n : ℕ) (low : n ≤ length moves). decided-more game moves c.args.positions
    c.loop-point.point-index c.loop-point.known.certificate kept.decided kept.shown n
    (omega (arith, low, all)) in
    reviewed game moves c.requires.legal c.args.positions c.loop-point.work before
    (g.C.Console.told c.say-2.new.console)
    (c.in_ok-say-3.ensures.left ∙ c.loop-point.invariant.left) c.loop-point.number mid
    (omega (arith, count, done, within)) decided said c.in_ok-say-3.ensures.said
