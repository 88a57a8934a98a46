use Rattle.std.proofs.Common.{◌≡◌, ◌∙◌, subst, sym, ap, ap₂}
use Rattle.pg_player.proofs.Common.{member-free, member-within, after, Body, Pairs, Trees, Cuts}
use Rattle.pg_player.specs.InPlay.{InPlay, KeepsUp}
use Rattle.pg_player.specs.Stand.{standing_of}
use Rattle.pg_player.specs.declared.moves.Made.{Made}
use Rattle.pg_player.proofs.Arriving.{Settles-node}
use Rattle.pg_player.proofs.Going.{small}
use Rattle.pg_player.proofs.Plays.{not-full}
use Rattle.pg_player.proofs.Keeping.{keeps-move, keeps-pairs, trees-turn, cuts-turn, trees-held}
use Rattle.pg_player.proofs.Keeping.{cuts-held, trees-whole, cuts-whole}
use Rattle.pg_player.proofs.moves.body_move.Goals as goal

pub answer-point-requires-clause-position : goal.answer-point-requires-clause-position
answer-point-requires-clause-position c = c.requires.playing.position

pub answer-point-requires-clause-some_free : goal.answer-point-requires-clause-some_free
answer-point-requires-clause-some_free c = not-full c.args.g.now c.args.p.now c.requires.going

pub potential_point-requires-clause-position : goal.potential_point-requires-clause-position
potential_point-requires-clause-position c = c.requires.playing.position

pub trees_move-requires-clause-turn : goal.trees_move-requires-clause-turn
trees_move-requires-clause-turn c =
    let whole : c.args.body.now
    ≡ Trees c.in-Trees.with_e c.as_set.result.now c.as_set-in-Trees.result.now = c.in-Trees.is
    ∙ ap₂ (Trees c.in-Trees.with_e) (sym c.as_set.ensures) (sym c.as_set-in-Trees.ensures) in
    let h = subst (λ (b : Body). InPlay c.args.g.now c.args.claim.now (record {
      body = b;
      last = c.args.last;
      imagined = c.args.p.now;
    })) whole c.requires.playing in
    trees-turn c.args.g.now c.args.claim.now c.args.p.now c.in-Trees.with_e c.as_set.result.now
    c.as_set-in-Trees.result.now c.args.last h c.requires.going c.requires.turn

pub trees_move-requires-clause-held : goal.trees_move-requires-clause-held
trees_move-requires-clause-held c =
    let whole : c.args.body.now
    ≡ Trees c.in-Trees.with_e c.as_set.result.now c.as_set-in-Trees.result.now = c.in-Trees.is
    ∙ ap₂ (Trees c.in-Trees.with_e) (sym c.as_set.ensures) (sym c.as_set-in-Trees.ensures) in
    trees-held c.args.g.now c.args.claim.now c.args.p.now c.args.body.now c.in-Trees.with_e
    c.as_set.result.now c.as_set-in-Trees.result.now c.args.last c.start-plan.result.first
    c.start-plan.result.second (c.start-plan.ensures.first ∙ c.with_e_named.ensures)
    c.start-plan.ensures.second whole c.requires.playing c.requires.going c.requires.turn

pub cuts_move-requires-clause-turn : goal.cuts_move-requires-clause-turn
cuts_move-requires-clause-turn c =
    let whole : c.args.body.now
    ≡ Cuts c.in-Cuts.with_e c.as_set-in-Cuts.result.now c.as_set-in-Cuts-2.result.now = c.in-Cuts.is
    ∙ ap₂ (Cuts c.in-Cuts.with_e) (sym c.as_set-in-Cuts.ensures) (sym c.as_set-in-Cuts-2.ensures) in
    let h = subst (λ (b : Body). InPlay c.args.g.now c.args.claim.now (record {
      body = b;
      last = c.args.last;
      imagined = c.args.p.now;
    })) whole c.requires.playing in
    cuts-turn c.args.g.now c.args.claim.now c.args.p.now c.in-Cuts.with_e
    c.as_set-in-Cuts.result.now c.as_set-in-Cuts-2.result.now c.args.last h c.requires.going
    c.requires.turn

pub cuts_move-requires-clause-held : goal.cuts_move-requires-clause-held
cuts_move-requires-clause-held c =
    let whole : c.args.body.now
    ≡ Cuts c.in-Cuts.with_e c.as_set-in-Cuts.result.now c.as_set-in-Cuts-2.result.now = c.in-Cuts.is
    ∙ ap₂ (Cuts c.in-Cuts.with_e) (sym c.as_set-in-Cuts.ensures) (sym c.as_set-in-Cuts-2.ensures) in
    cuts-held c.args.g.now c.args.claim.now c.args.p.now c.args.body.now c.in-Cuts.with_e
    c.as_set-in-Cuts.result.now c.as_set-in-Cuts-2.result.now c.args.last
    c.start-plan-in-Cuts.result.first c.start-plan-in-Cuts.result.second
    (c.start-plan-in-Cuts.ensures.first ∙ c.with_e_named-in-Cuts.ensures)
    c.start-plan-in-Cuts.ensures.second whole c.requires.playing c.requires.going c.requires.turn

pub arrive-requires : goal.arrive-requires
arrive-requires c =
    let h = subst (λ (b : Body). InPlay c.args.g.now c.args.claim.now (record {
      body = b;
      last = c.args.last;
      imagined = c.args.p.now;
    })) c.in-Move.is c.requires.playing in
    let next = (h.stands.ready c.requires.going c.requires.turn).next in
    Settles-node c.args.g.now c.args.claim.now h.sound c.in-Move.child next.node next.at

pub returns-in-Move-clause-keeps : goal.returns-in-Move-clause-keeps
returns-in-Move-clause-keeps c =
    let h = subst (λ (b : Body). InPlay c.args.g.now c.args.claim.now (record {
      body = b;
      last = c.args.last;
      imagined = c.args.p.now;
    })) c.in-Move.is c.requires.playing in
    subst (λ (b : Body). KeepsUp c.args.g.now c.args.claim.now (record {
      body = b;
      last = c.args.last;
      imagined = c.args.p.now;
    }) c.in-Move.point (standing_of c.args.claim.now.nodes c.arrive.result)) (sym c.in-Move.is)
    (keeps-move c.args.g.now c.args.claim.now c.args.p.now c.in-Move.point c.in-Move.child
    c.args.last (standing_of c.args.claim.now.nodes c.arrive.result) h c.requires.going
    c.requires.turn c.arrive.ensures)

pub stay-requires : goal.stay-requires
stay-requires c = small c.args.g.now c.answer-point.result
    (member-within c.args.g.now c.args.p.now c.answer-point.result c.answer-point.ensures.free)

pub returns-in-Pairs-clause-keeps : goal.returns-in-Pairs-clause-keeps
returns-in-Pairs-clause-keeps c =
    let g = c.args.g.now in
    let claim = c.args.claim.now in
    let p = c.args.p.now in
    let last = c.args.last in
    let v = c.answer-point.result in
    let whole = c.in-Pairs.is ∙ ap Pairs (sym c.as_slice.ensures) in
    let h = subst (λ (b : Body). InPlay g claim (record {
      body = b;
      last = last;
      imagined = p;
    })) whole c.requires.playing in
    let e = c.answer-point.ensures in
    let kept =
    keeps-pairs g claim p c.as_slice.result.now last v h c.requires.going c.requires.turn (record {
      rule = e.rule;
      within = member-within g p v e.free;
      free = member-free g p v e.free;
      keeps = e.keeps;
    }) in
    subst (λ (m : Made). KeepsUp g claim (record {
      body = c.args.body.now;
      last = last;
      imagined = p;
    }) m.point (standing_of claim.nodes m.stand)) (sym c.stay.ensures)
    (subst (λ (b : Body). KeepsUp g claim (record {
      body = c.args.body.now;
      last = last;
      imagined = p;
    }) v (record {
      body = b;
      last = last;
      imagined = after g p v;
    })) c.requires.body (subst (λ (b : Body). KeepsUp g claim (record {
      body = b;
      last = last;
      imagined = p;
    }) v (record { body = b; last = last; imagined = after g p v })) (sym whole) kept))

pub stay-requires-in-Potential : goal.stay-requires-in-Potential
stay-requires-in-Potential c =
    let h = subst (λ (b : Body). InPlay c.args.g.now c.args.claim.now (record {
      body = b;
      last = c.args.last;
      imagined = c.args.p.now;
    })) c.in-Potential.is c.requires.playing in
    small c.args.g.now c.potential_point.result (c.potential_point.ensures c.args.last h).within

pub returns-in-Potential-clause-keeps : goal.returns-in-Potential-clause-keeps
returns-in-Potential-clause-keeps c =
    let g = c.args.g.now in
    let claim = c.args.claim.now in
    let p = c.args.p.now in
    let last = c.args.last in
    let v = c.potential_point.result in
    let h = subst (λ (b : Body). InPlay g claim (record {
      body = b;
      last = last;
      imagined = p;
    })) c.in-Potential.is c.requires.playing in
    subst (λ (m : Made). KeepsUp g claim (record {
      body = c.args.body.now;
      last = last;
      imagined = p;
    }) m.point (standing_of claim.nodes m.stand)) (sym c.stay-in-Potential.ensures)
    (subst (λ (b : Body). KeepsUp g claim (record {
      body = c.args.body.now;
      last = last;
      imagined = p;
    }) v (record {
      body = b;
      last = last;
      imagined = after g p v;
    })) c.requires.body (subst (λ (b : Body). KeepsUp g claim (record {
      body = b;
      last = last;
      imagined = p;
    }) v (record {
      body = b;
      last = last;
      imagined = after g p v;
    })) (sym c.in-Potential.is) (c.potential_point.ensures last h)))

pub returns-in-Trees-clause-keeps : goal.returns-in-Trees-clause-keeps
returns-in-Trees-clause-keeps c =
    let whole : c.args.body.now
    ≡ Trees c.in-Trees.with_e c.as_set.result.now c.as_set-in-Trees.result.now = c.in-Trees.is
    ∙ ap₂ (Trees c.in-Trees.with_e) (sym c.as_set.ensures) (sym c.as_set-in-Trees.ensures) in
    trees-whole c.args.g.now c.args.claim.now c.args.p.now c.args.body.now c.in-Trees.with_e
    c.as_set.result.now c.as_set-in-Trees.result.now c.args.last c.start-plan.result.first
    c.start-plan.result.second (c.start-plan.ensures.first ∙ c.with_e_named.ensures)
    c.start-plan.ensures.second c.trees_move.result.point
    (standing_of c.args.claim.now.nodes c.trees_move.result.stand) whole c.requires.playing
    (c.trees_move.ensures.keeps c.args.claim.now)

pub returns-in-Cuts-clause-keeps : goal.returns-in-Cuts-clause-keeps
returns-in-Cuts-clause-keeps c =
    let whole : c.args.body.now
    ≡ Cuts c.in-Cuts.with_e c.as_set-in-Cuts.result.now c.as_set-in-Cuts-2.result.now = c.in-Cuts.is
    ∙ ap₂ (Cuts c.in-Cuts.with_e) (sym c.as_set-in-Cuts.ensures) (sym c.as_set-in-Cuts-2.ensures) in
    cuts-whole c.args.g.now c.args.claim.now c.args.p.now c.args.body.now c.in-Cuts.with_e
    c.as_set-in-Cuts.result.now c.as_set-in-Cuts-2.result.now c.args.last
    c.start-plan-in-Cuts.result.first c.start-plan-in-Cuts.result.second
    (c.start-plan-in-Cuts.ensures.first ∙ c.with_e_named-in-Cuts.ensures)
    c.start-plan-in-Cuts.ensures.second c.cuts_move.result.point
    (standing_of c.args.claim.now.nodes c.cuts_move.result.stand) whole c.requires.playing
    (c.cuts_move.ensures.keeps c.args.claim.now)
