use Rattle.std.proofs.Common.{◌∙◌, ◌∷◌, sym}
use Rattle.pg_cert.specs.declared.part.Part.TheVariants as parts
use Rattle.pg_check.proofs.CheckingSteps.{stands-next, stays, no-fault}
use Rattle.pg_check.proofs.checking.Checking.node.Goals as goal

pub returns-then-is_some-clause-stands : goal.returns-then-is_some-clause-stands
returns-then-is_some-clause-stands c = λ fed s.
    let part = parts.Node c.args.node.now in
    stands-next c.args.self.now c.args.self.now fed part s.ready
    (λ cert rest limits h. stays c.args.self.now.game.now c.args.self.now.found
    c.args.self.now.present c.args.self.now.begun cert rest (part ∷ rest)
    (sym c.is_some.ensures ∙ c.if-is_some.true) h) s

pub test-requires-clause-sound : goal.test-requires-clause-sound
test-requires-clause-sound c =
    no-fault c.args.self.now.found (sym c.is_some.ensures ∙ c.if-is_some.false)
