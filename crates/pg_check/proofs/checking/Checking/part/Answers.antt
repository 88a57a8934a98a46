use Rattle.std.proofs.Common.{◌≡◌, ◌∙◌, ◌∷◌, ◌++◌, [], List, ap, sym, subst}
use Rattle.std.specs.Prelude.{IfOk}
use Rattle.pg_check.proofs.Common.{Node, Part}
use Rattle.pg_check.specs.Checking.{StandsFor, AreNext}
use Rattle.pg_cert.specs.declared.part.Part.TheVariants as parts
use Rattle.pg_check.proofs.checking.Checking.part.Goals as goal

pub claim-requires : goal.claim-requires
claim-requires c = record {
  next = subst (λ (q : Part). AreNext c.args.self.now (q ∷ [])) c.in-Claim.is c.requires.next;
}

pub returns-in-Claim-clause-stands : goal.returns-in-Claim-clause-stands
returns-in-Claim-clause-stands c = subst
    (λ (q : Part). (fed : List Part) → StandsFor c.args.self.now fed
    → StandsFor c.claim.new.self (fed ++ q ∷ [])) (sym c.in-Claim.is) c.claim.ensures.stands

pub node-requires : goal.node-requires
node-requires c =
    let same : c.args.p.now ≡ parts.Node c.as_node.result.now =
    c.in-Node.is ∙ ap (λ (n : Node). parts.Node n) (sym c.as_node.ensures) in
    record { next = subst (λ (q : Part). AreNext c.args.self.now (q ∷ [])) same c.requires.next }

pub returns-in-Node-clause-stands : goal.returns-in-Node-clause-stands
returns-in-Node-clause-stands c =
    let same : c.args.p.now ≡ parts.Node c.as_node.result.now =
    c.in-Node.is ∙ ap (λ (n : Node). parts.Node n) (sym c.as_node.ensures) in
    subst (λ (q : Part). IfOk c.node.result (λ _.
    (fed : List Part) → StandsFor c.args.self.now fed → StandsFor c.node.new.self (fed ++ q ∷ [])))
    (sym same) c.node.ensures.stands
