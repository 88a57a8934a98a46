use Rattle.std.specs.Prelude.{Result, Ok, Err, Option, option_map, IfOk, IfSome}
use Rattle.std.proofs.Common.{◌≡◌, ◌<◌, ◌∙◌, Bool, true, sym, ap, subst}
use Rattle.std.proofs.lemmas.Result.{IfOk-weaker}
use Rattle.pg_met.proofs.Common.{Game, Position, IsPosition, View, after, is_free, point_count}
use Rattle.pg_game.proofs.Moves.{IsPosition-after}
use Rattle.pg_threat.proofs.Boards.{one-earlier, taken-back}
use Rattle.pg_met.specs.Prelude.{Body, IsLeaf, Score, decided}
use Rattle.pg_met.specs.Met.{IsLeafOf}
use Rattle.pg_met.proofs.Foretold.{attack-leaf, decided-leaf, expansion-move, known-move}
use Rattle.pg_met.proofs.Foretold.{open-leaf, told-at}
use Rattle.pg_met.proofs.table.leaf_after.Goals as goal

pub tells-requires-clause-moves : goal.tells-requires-clause-moves
tells-requires-clause-moves c = expansion-move c.args.asked.game.now c.args.asked.question
    c.args.expansion.now c.args.board.now c.args.cache.now c.requires.reads c.args.v c.args.q.now
    c.requires.moves c.requires.leads

pub tells-requires-clause-weighed : goal.tells-requires-clause-weighed
tells-requires-clause-weighed c = c.requires.reads.ahead.weighed

pub returns-in-Open-clause-found : goal.returns-in-Open-clause-found
returns-in-Open-clause-found c = open-leaf c.args.asked.game.now c.args.asked.question
    c.args.expansion.now c.args.board.now c.args.cache.now c.requires.reads c.args.q.now
    c.tells.result c.in-Open.is (told-at c.args.asked.game.now c.args.asked.question
    c.args.expansion.now c.args.board.now c.args.cache.now c.requires.reads c.args.q.now
    c.tells.result c.tells.ensures)

pub returns-in-Decided-clause-found : goal.returns-in-Decided-clause-found
returns-in-Decided-clause-found c = decided-leaf c.args.asked.game.now c.args.asked.question
    c.args.expansion.now c.args.board.now c.args.cache.now c.requires.reads c.args.q.now
    c.tells.result c.in-Decided.answer c.in-Decided.body c.in-Decided.is
    (told-at c.args.asked.game.now c.args.asked.question c.args.expansion.now c.args.board.now
    c.args.cache.now c.requires.reads c.args.q.now c.tells.result c.tells.ensures)

pub returns-in-Attack-clause-found : goal.returns-in-Attack-clause-found
returns-in-Attack-clause-found c =
    let told = told-at c.args.asked.game.now c.args.asked.question c.args.expansion.now
    c.args.board.now c.args.cache.now c.requires.reads c.args.q.now c.tells.result
    c.tells.ensures in
    IfOk-weaker _ _ _ (λ (found : Option (Bool × Body)) same. attack-leaf c.args.asked.game.now
    c.args.asked.question c.args.expansion.now c.args.board.now c.args.cache.now c.requires.reads
    c.args.q.now c.tells.result c.in-Attack.line found c.in-Attack.is same told)
    c.attack_leaf.ensures

pub play-requires-clause-range : goal.play-requires-clause-range
play-requires-clause-range c = subst (λ (g : Game). c.args.v < point_count g)
    (sym c.requires.reads.reads.stands.game) c.requires.moves.point

pub play-requires-clause-free : goal.play-requires-clause-free
play-requires-clause-free c = subst (λ (p : Position). is_free p c.args.v ≡ true)
    (sym c.requires.reads.reads.stands.position) c.requires.moves.free

pub leaf_with-found-requires-clause-asked : goal.leaf_with-found-requires-clause-asked
leaf_with-found-requires-clause-asked c =
    let reads = c.requires.reads.reads in
    record {
      question = reads.asked.question;
      lines = reads.asked.lines;
      position = subst (λ (q : Position). IsPosition c.args.asked.game.now q)
          (sym c.requires.leads) (IsPosition-after c.args.asked.game.now
          c.args.expansion.now.position c.args.v reads.position c.requires.moves.point
          c.requires.moves.free);
    }

pub leaf_with-found-requires-clause-stands : goal.leaf_with-found-requires-clause-stands
leaf_with-found-requires-clause-stands c =
    let stands = c.requires.reads.reads.stands in
    record {
      game = c.play.ensures.game ∙ stands.game;
      position = c.play.ensures.position
          ∙ ap (λ (g : Game). after g c.args.board.now.stand.position c.args.v) stands.game
          ∙ ap (λ (p : Position). after c.args.asked.game.now p c.args.v) stands.position
          ∙ sym c.requires.leads;
      known = known-move c.args.asked.game.now c.args.asked.question c.args.expansion.now
          c.args.board.now c.args.cache.now c.requires.reads c.args.v c.args.q.now
          c.requires.moves c.requires.leads;
    }

pub undo-requires : goal.undo-requires
undo-requires c =
    one-earlier c.leaf_with-found.new.b.earlier c.args.board.now.earlier c.args.board.now.stand
    (ap (λ (b : View). b.earlier) c.leaf_with-found.ensures.kept ∙ c.play.ensures.earlier)

pub returns-clause-kept : goal.returns-clause-kept
returns-clause-kept c = record {
  same = taken-back c.args.board.now c.play.new.self c.leaf_with-found.new.b c.undo.new.self
      c.play.ensures.game c.play.ensures.earlier c.leaf_with-found.ensures.kept c.undo.ensures.game
      c.undo.ensures.earlier;
  fits = c.leaf_with-found.ensures.fits;
}

-- both that is known of a leaf
leaf-both : {E : Type 0} (g : Game) (t : Score) (q : Position)
    (r : Result (Option (Bool × Body)) E)
    → IfOk r (λ found. option_map (λ k. k.0) found ≡ decided g t q)
    → IfOk r (λ found. IfSome found (λ k. IsLeaf g t q k.0 k.1))
    → IfOk r (IsLeafOf g t q)
leaf-both g t q (Ok found) answer body = record { answer = answer; body = body }
leaf-both g t q (Err e) answer body = tt

pub returns-clause-found : goal.returns-clause-found
returns-clause-found c = leaf-both c.args.asked.game.now c.args.asked.question c.args.q.now
    c.leaf_with-found.result c.leaf_with-found.ensures.decided c.leaf_with-found.ensures.body
