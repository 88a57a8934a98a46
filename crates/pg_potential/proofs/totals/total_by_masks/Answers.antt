use Rattle.std.proofs.Common.{◌≡◌, ◌∙◌, ◌+◌, ◌*◌, ◌/◌, ◌<◌, ◌≤◌, ℕ, List, [], length, get_or}
use Rattle.std.proofs.Common.{refl, sym, ap, ap₂, subst, arith}
use Rattle.std.proofs.lemmas.List.Sums.{sum_by_more}
use Rattle.pg_game.proofs.Limits.{lines-fit, point_count-le}
use Rattle.pg_game.proofs.LineSums.{total-all, total-fits}
use Rattle.pg_game.proofs.WeightBounds.{IsBaseOf-bias, total-few}
use Rattle.std.proofs.lemmas.List.Elements.{All-get_or, All-weaker}
use Rattle.pg_potential.proofs.Common.{All, AreBelow, FinSet, greatest_length}
use Rattle.pg_potential.proofs.Common.{line_weight, lines_of, nat_cmp, point_count, points_of}
use Rattle.pg_potential.proofs.Common.{total_weight}
use Rattle.pg_potential.specs.Masks.{clear_weight, set_of}
use Rattle.pg_potential.specs.declared.masks.Mask.{Mask}
use Rattle.pg_potential.proofs.LineMasks.{masks-many, mask-at}
use Rattle.pg_potential.proofs.MaskWeights.{line-at, line-below, weighing}
use Rattle.pg_potential.proofs.totals.total_by_masks.Goals as goal

pub weight_by_mask-total-requires-clause-weighing :
    goal.weight_by_mask-total-requires-clause-weighing
weight_by_mask-total-requires-clause-weighing c =
    weighing c.args.g.now c.from-base.result c.args.longest c.from-base.ensures c.requires.longest

pub weight_by_mask-total-requires-clause-mask : goal.weight_by_mask-total-requires-clause-mask
weight_by_mask-total-requires-clause-mask c =
    let g = c.args.g.now in
    let masks = c.args.masks.now in
    let lines = lines_of g in
    let i = c.loop-mask.mask-index in
    let m = c.mask-item.result in
    let lt : i < length lines =
    omega (arith, c.loop-mask-test.true, masks-many lines masks c.requires.masks.lines) in
    let line = line-at lines masks i m [] c.requires.masks.lines c.loop-mask-test.true
    c.mask-item.is in
    let set = mask-at lines masks i m [] c.requires.masks.lines c.loop-mask-test.true
    c.mask-item.is in
    let fit = lines-fit g i [] lt in
    let few = point_count-le g in
    let width = (c.from.result + 63) / 64 in
    record {
      range = subst (λ (l : List ℕ). All (λ (v : ℕ). v < 1024) l) (sym line)
          (All-weaker (λ (v : ℕ). v < point_count g) (λ (v : ℕ). v < 1024)
          (λ v lt. omega (arith, lt, few)) (get_or lines i []) fit.range);
      set = set ∙ ap set_of (sym line);
      below = subst (λ (s : FinSet nat_cmp). AreBelow s (64 * width)) (sym set)
          (line-below (get_or lines i []) (point_count g) width fit.range (omega (
            arith,
            c.points.ensures.count,
            c.from.ensures,
          )));
      clear = subst (λ (n : Mask). n.clear
          ≡ clear_weight (1 + g.bias) (greatest_length (lines_of g)) n.line.items)
          (sym c.mask-item.is)
          (All-get_or (λ (n : Mask). n.clear
          ≡ clear_weight (1 + g.bias) (greatest_length (lines_of g)) n.line.items) masks i m
          c.loop-mask-test.true c.requires.masks.clear)
          ∙ ap₂ (λ (b k : ℕ). clear_weight (1 + b) k m.line.items) (sym c.from-base.ensures)
          (sym c.requires.longest);
    }

pub overflow_add-total : goal.overflow_add-total
overflow_add-total c =
    let g = c.args.g.now in
    let p = c.args.p.now in
    let lines = lines_of g in
    let i = c.loop-mask.mask-index in
    let m = c.mask-item.result in
    let base = 1 + c.from-base.result in
    let k = c.args.longest in
    let own = points_of p c.args.side in
    let lt : i < length lines = omega (
      arith,
      c.loop-mask-test.true,
      masks-many lines c.args.masks.now c.requires.masks.lines,
    ) in
    let line = line-at lines c.args.masks.now i m m.line.items c.requires.masks.lines
    c.loop-mask-test.true c.mask-item.is in
    let ok = IsBaseOf-bias g c.from-base.result c.from-base.ensures in
    let fits = total-fits base g own p lines k i m.line.items ok refl c.requires.longest lt line in
    omega (arith, fits, c.loop-mask.invariant, c.weight_by_mask-total.ensures)

pub loop-mask-preserved : goal.loop-mask-preserved
loop-mask-preserved c =
    let g = c.args.g.now in
    let p = c.args.p.now in
    let lines = lines_of g in
    let i = c.loop-mask.mask-index in
    let m = c.mask-item.result in
    let base = 1 + c.from-base.result in
    let k = c.args.longest in
    let own = points_of p c.args.side in
    let lt : i < length lines = omega (
      arith,
      c.loop-mask-test.true,
      masks-many lines c.args.masks.now c.requires.masks.lines,
    ) in
    let line = line-at lines c.args.masks.now i m m.line.items c.requires.masks.lines
    c.loop-mask-test.true c.mask-item.is in
    let weight = c.weight_by_mask-total.ensures ∙ ap (line_weight base k own p) line in
    let more = sum_by_more (line_weight base k own p) lines i m.line.items lt in
    omega (arith, c.loop-mask.invariant, weight, more)

pub returns-clause-total : goal.returns-clause-total
returns-clause-total c =
    let g = c.args.g.now in
    let p = c.args.p.now in
    let lines = lines_of g in
    let own = points_of p c.args.side in
    let end : length lines ≤ c.loop-mask.mask-index = omega (
      arith,
      c.loop-mask-test.false,
      masks-many lines c.args.masks.now c.requires.masks.lines,
    ) in
    total-all (1 + c.from-base.result) g own p lines c.args.longest
    c.loop-mask.mask-index c.loop-mask.total refl c.requires.longest end c.loop-mask.invariant
    ∙ ap (λ (n : ℕ). total_weight (1 + n) g own p) c.from-base.ensures

pub returns-clause-few : goal.returns-clause-few
returns-clause-few c =
    let g = c.args.g.now in
    let p = c.args.p.now in
    let lines = lines_of g in
    let own = points_of p c.args.side in
    let base = 1 + c.from-base.result in
    let end : length lines ≤ c.loop-mask.mask-index = omega (
      arith,
      c.loop-mask-test.false,
      masks-many lines c.args.masks.now c.requires.masks.lines,
    ) in
    let ok = IsBaseOf-bias g c.from-base.result c.from-base.ensures in
    let total = total-all base g own p lines c.args.longest
    c.loop-mask.mask-index c.loop-mask.total refl c.requires.longest end c.loop-mask.invariant in
    omega (arith, total, total-few base g own p ok.some ok.few)
