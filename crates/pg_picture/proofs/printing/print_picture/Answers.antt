use Rattle.std.proofs.Common.{◌≡◌, [], ◌++◌, codes, append_assoc}
use Rattle.std.specs.List.{flat_map}
use Rattle.pg_base.specs.Texts.{Bytes}
use Rattle.pg_picture.specs.Svg.{copy_text, escaped, filled, ground_text, head, inside_of}
use Rattle.pg_picture.specs.Svg.{picture_text, shape_text}
use Rattle.pg_picture.specs.declared.style.TheConstants.{STYLE}
use Rattle.pg_picture.proofs.printing.print_picture.Goals as goal

joined : (begin end title style ground shapes copies close : Bytes)
    → ((((((([] ++ begin) ++ end) ++ title) ++ style) ++ ground) ++ shapes) ++ copies) ++ close
    ≡ begin ++ (end ++ ((title ++ (style ++ (ground ++ (shapes ++ copies)))) ++ close))
joined begin end title style ground shapes copies close = simp append_assoc

pub returns : goal.returns
unfolding picture_text inside_of
returns c =
    let p = c.args.picture.now in
    rw (
      c.in_ok-push_str-2.ensures.bytes,
      c.in_ok-put_copies.ensures,
      c.as_slice.ensures,
      c.in_ok-put_shapes.ensures,
      c.as_slice-shapes.ensures,
      c.in_ok-put_ground.ensures,
      c.in_ok-put_style.ensures,
      c.in_ok-put_title.ensures,
      c.as_str.ensures,
      c.in_ok-push_str.ensures.bytes,
      c.in_ok-put_head.ensures,
      c.new-out.ensures.bytes,
    )
    (joined (head p.width p.height p.size) (codes ">\n")
    (filled (codes "title") [] (escaped p.title)) (filled (codes "style") [] STYLE.now)
    (ground_text p.width p.height) (flat_map shape_text p.shapes)
    (flat_map (copy_text p.shapes) p.copies) (codes "</svg>\n"))
