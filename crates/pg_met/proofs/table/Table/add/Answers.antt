use Rattle.std.proofs.Common.{◌∙◌, ◌++◌, ◌∷◌, [], ap, refl}
use Rattle.pg_met.proofs.Meeting.{met-new}
use Rattle.pg_met.proofs.table.Table.add.Goals as goal

pub returns : goal.returns
returns c = λ before place tree is. met-new c.args.asked.game.now c.args.asked.question before
    c.args.self.now (record {
      positions = c.args.self.now.positions;
      moves = c.push.new.self;
      parents = c.push-2.new.self;
      answers = c.push-3.new.self;
      claims = c.keep_leaf.new.claims;
    }) c.args.q place c.in_ok-answer.answer tree (is.fresh refl) is.at
    (c.in_ok-answer.ensures c.args.asked.game.now c.args.asked.question c.requires.found)
    c.requires.position (is.added refl)
    (c.in_ok-push.ensures.items ∙ ap (λ m. c.args.self.now.moves.items ++ m ∷ []) c.new.ensures)
    (c.in_ok-push-2.ensures.items ∙ ap (λ m. c.args.self.now.parents.items ++ m ∷ [])
    c.new-2.ensures) c.in_ok-push-3.ensures.items
