use Rattle.std.proofs.Common.{◌∙◌, ap, refl}
use Rattle.std.specs.Prelude.{option_map}
use Rattle.pg_check.proofs.Common.{slice_get-map, position_of, kept}
use Rattle.pg_check.specs.Present.{bare}
use Rattle.pg_check.proofs.KnownNodes.{bare-iff}
use Rattle.pg_check.proofs.moves.has_weaker.Goals as goal

pub returns : goal.returns
returns c = rw c.in-Weaker.is (
  λ on.
      let h = c.is_no_worse.ensures.0 on in
      record {
        node = bare h.position;
        at = slice_get-map bare (kept c.args.marks.now) c.in-Weaker.child
            ∙ ap (option_map bare) h.at;
        no_worse = h.no_worse;
      },
  λ h.
      let at = (bare-iff (kept c.args.marks.now) c.in-Weaker.child (position_of h.node)).1 (record {
        node = h.node;
        at = h.at;
        position = refl;
      }) in
      c.is_no_worse.ensures.1 (record {
        position = position_of h.node;
        at = at;
        no_worse = h.no_worse;
      }),
)
