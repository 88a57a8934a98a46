use Rattle.std.proofs.Common.{◌∙◌, ◌+◌, ◌∷◌, Some, sym, subst, arith}
use Rattle.pg_cert.specs.declared.part.Part.TheVariants as parts
use Rattle.pg_check.specs.Checking.{Stands}
use Rattle.pg_check.specs.declared.present.Present.{Present}
use Rattle.pg_check.proofs.CheckingSteps.{stands-next, stays, no-fault, claim-stands, claims-few}
use Rattle.pg_check.proofs.checking.Checking.claim.Goals as goal

pub returns-then-is_some-clause-stands : goal.returns-then-is_some-clause-stands
returns-then-is_some-clause-stands c = λ fed s.
    let part = parts.Claim c.args.turn c.args.side c.args.goal c.args.count in
    stands-next c.args.self.now c.args.self.now fed part s.ready
    (λ cert rest limits h. stays c.args.self.now.game.now c.args.self.now.found
    c.args.self.now.present c.args.self.now.begun cert rest (part ∷ rest)
    (sym c.is_some.ensures ∙ c.if-is_some.true) h) s

pub returns-clause-stands : goal.returns-clause-stands
returns-clause-stands c = λ fed s.
    let none = no-fault c.args.self.now.found (sym c.is_some.ensures ∙ c.if-is_some.false) in
    let next : Present = record {
      turn = c.args.turn;
      side = c.args.side;
      goal = c.args.goal;
      count = c.args.count;
      marks = c.new.result;
    } in
    stands-next c.args.self.now _ fed
    (parts.Claim c.args.turn c.args.side c.args.goal c.args.count) s.ready (λ cert rest limits h.
    subst (λ f. Stands c.args.self.now.game.now f (Some next) (c.args.self.now.begun + 1) cert rest)
    (sym none)
    (claim-stands c.args.self.now.game.now c.args.self.now.found c.args.self.now.present
    c.args.self.now.begun next cert rest none c.new.ensures.made c.new.ensures.none h)) s

pub overflow_add-self : goal.overflow_add-self
overflow_add-self c =
    let none = no-fault c.args.self.now.found (sym c.is_some.ensures ∙ c.if-is_some.false) in
    let few = claims-few c.args.self.now
    (parts.Claim c.args.turn c.args.side c.args.goal c.args.count) none c.requires.next in
    omega (arith, few)
