use Rattle.pg_check.proofs.CheckingSteps.{all-told, verdict-valid, verdict-fault}
use Rattle.pg_check.proofs.checking.Checking.finish.Goals as goal

pub returns-in-None : goal.returns-in-None
returns-in-None c =
    λ cert limits s. verdict-valid c.args.self.game.now c.args.self.found c.args.self.present
    c.args.self.begun cert limits c.in-None.is (all-told c.args.self cert limits s)

pub returns : goal.returns
returns c =
    λ cert limits s. verdict-fault c.args.self.game.now c.args.self.found c.args.self.present
    c.args.self.begun cert c.in-Some.rejected c.in-Some.is (all-told c.args.self cert limits s)
