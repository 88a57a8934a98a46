use Rattle.std.proofs.Common.{ℕ, Option, subst, sym}
use Rattle.pg_pairing.proofs.Common.{Contains, after, free_points, pairs_answer, free-member}
use Rattle.pg_pairing.specs.Rest.{RestHolds}
use Rattle.pg_pairing.proofs.PairLoops.{pairs-few}
use Rattle.pg_pairing.proofs.AnswerLaws.{answer-free, keeps_replied, keeps_unreplied, keeps_in_turn}
use Rattle.pg_pairing.proofs.answers.answer.Goals as goal

pub choose-requires : goal.choose-requires
choose-requires c = pairs-few c.args.g.now c.args.pairs.now c.requires.pairs.range

pub returns-clause-free : goal.returns-clause-free
returns-clause-free c =
    let g = c.args.g.now in
    let p = c.args.p.now in
    let here =
    answer-free g p c.args.pairs.now c.args.last c.requires.pairs c.requires.some_free in
    subst (λ (w : ℕ). Contains (free_points g p) w) (sym c.choose.ensures)
    (free-member g p (pairs_answer g p c.args.pairs.now c.args.last) here.0 here.1)

pub returns-clause-keeps : goal.returns-clause-keeps
returns-clause-keeps c =
    let g = c.args.g.now in
    let p = c.args.p.now in
    let pairs = c.args.pairs.now in
    record {
      replied = λ side claims mine before. subst
          (λ (w : ℕ). RestHolds g (after g p w) side pairs) (sym c.choose.ensures)
          (keeps_replied g side p pairs c.args.last claims c.requires.position c.requires.pairs mine
          before);
      unreplied = λ side claims mine none held. subst
          (λ (w : ℕ). RestHolds g (after g p w) side pairs) (sym c.choose.ensures)
          (subst (λ (r : Option ℕ). RestHolds g (after g p (pairs_answer g p pairs r)) side pairs)
          (sym none)
          (keeps_unreplied g side p pairs claims c.requires.position c.requires.pairs mine held));
      in_turn = λ side kind mine held.
          keeps_in_turn g side p pairs c.choose.result kind mine held;
    }
