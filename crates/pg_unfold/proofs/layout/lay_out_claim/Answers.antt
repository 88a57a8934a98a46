use Rattle.std.proofs.Common.{List, Bool, length, sym, ap, ◌∙◌, subst, rules}
use Rattle.pg_unfold.proofs.Common.{both_ways, ImageNode}
use Rattle.pg_unfold.specs.Marks.{AreEarlier, AreMet, ArePlaces, copies_of}
use Rattle.pg_unfold.proofs.ClaimSteps.{too_much-from}
use Rattle.pg_unfold.proofs.layout.lay_out_claim.Goals as goal

pub met_copies-requires-clause-earlier : goal.met_copies-requires-clause-earlier
met_copies-requires-clause-earlier c =
    subst AreEarlier (sym c.as_slice-nodes.ensures) c.requires.earlier

pub places_of-requires-clause-earlier : goal.places_of-requires-clause-earlier
places_of-requires-clause-earlier c =
    subst AreEarlier (sym c.as_slice-nodes.ensures) c.requires.earlier

pub places_of-requires-clause-met : goal.places_of-requires-clause-met
places_of-requires-clause-met c = subst (λ (ms : List Bool). AreMet c.as_slice-nodes.result.now ms)
    (sym c.as_slice-marks.ensures.value) c.in_ok-table.ensures

pub returns-then-not-fits : goal.returns-then-not-fits
returns-then-not-fits c =
    let marks = c.as_slice-marks.result.now in
    let here : AreMet c.as_slice-nodes.result.now marks =
    subst (λ (ms : List Bool). AreMet c.as_slice-nodes.result.now ms)
    (sym c.as_slice-marks.ensures.value) c.in_ok-table.ensures in
    let met = subst (λ (ns : List ImageNode). AreMet ns marks) c.as_slice-nodes.ensures here in
    too_much-from c.args.claim.now marks met c.in_ok-settled.settled.count c.args.room
    (c.in_ok-settled.ensures.count
    ∙ ap (λ (ns : List ImageNode). length (copies_of ns marks)) c.as_slice-nodes.ensures)
    (λ both. let on = c.is_few-fits.ensures.1 both in both_ways _ c.if-not-fits.true on)

pub returns : goal.returns
returns c =
    let marks = c.in_ok-table.table.items in
    let places = c.in_ok-settled.settled.places.items in
    let same = c.as_slice-marks.ensures.value in
    let fits = c.is_few-fits.ensures.0 (search rules) in (
      record {
        limits = c.requires.limits;
        met = subst (λ (ns : List ImageNode). AreMet ns marks) c.as_slice-nodes.ensures
            c.in_ok-table.ensures;
        places = subst (λ (ns : List ImageNode). ArePlaces ns marks places) c.as_slice-nodes.ensures
            (subst (λ (ms : List Bool). ArePlaces c.as_slice-nodes.result.now ms places) same
            c.in_ok-settled.ensures.places);
        size = c.in_ok-settled.ensures.count
            ∙ ap (λ (ms : List Bool). length (copies_of c.as_slice-nodes.result.now ms)) same
            ∙ ap (λ (ns : List ImageNode). length (copies_of ns marks)) c.as_slice-nodes.ensures;
        few = fits.0;
      },
      fits.1,
    )
