-- What is drawn of a certificate is drawn of any that is the same when both are cut short.
use Rattle.std.proofs.Common.{◌≡◌, ℕ, ◌-◌, ◌≤◌, List, [], ◌∷◌, ◌++◌, length, map, take, drop}
use Rattle.std.proofs.Common.{Option, Some, None, slice_get, refl, sym, ap, ◌∙◌, inl, inr, arith}
use Rattle.std.specs.Prelude.{if◌then◌else◌}
use Rattle.std.proofs.lemmas.Bool.{cases_Bool}
use Rattle.std.proofs.lemmas.List.{length-map, take-take}
use Rattle.pg_base.specs.declared.kind.Kind.{Kind}
use Rattle.pg_base.specs.declared.limits.TheConstants.{MAX_MEMBERS}
use Rattle.pg_base.specs.declared.pair.Pair.{Pair}
use Rattle.pg_base.specs.declared.side.Side.{Side}
use Rattle.pg_game.specs.Fit.{AreLinesOf, FieldFits, IsFit}
use Rattle.pg_game.specs.Field.{field_points}
use Rattle.pg_game.specs.Game.{lines_of, point_count}
use Rattle.pg_game.specs.declared.field.Field.{Field}
use Rattle.pg_game.specs.declared.field.Field.TheVariants.{Graph as OnGraph, Lines}
use Rattle.pg_game.specs.declared.position.Position.{Position}
use Rattle.pg_cert.specs.Node.{position_of}
use Rattle.pg_cert.specs.declared.cert.Claim.{Claim}
use Rattle.pg_cert.specs.declared.node.Body.{Body}
use Rattle.pg_cert.specs.declared.node.Body.TheVariants as bodies
use Rattle.pg_cert.specs.declared.node.Node.{Node}
use Rattle.pg_cert_files.specs.Shortened.{clash, short_body, short_cert, short_claim, short_node}
use Rattle.pg_cert_files.specs.Shortened.{short_pairs, twice}
use Rattle.pg_judge.proofs.ShortCerts.{fault_alike, member, there, valid_alike}
use Rattle.pg_scene.specs.Items.{body_items, fault_items, line_items, numbered, pair_item}
use Rattle.pg_scene.specs.Items.{pair_items, point_items}
use Rattle.pg_scene.specs.Scenes.{AreNamed, IsSceneOf}
use Rattle.pg_captions.specs.Legends.{body_lines, claim_line, fault_lines, node_by, node_legend}
use Rattle.pg_captions.specs.Legends.{position_lines}
use Rattle.pg_captions.specs.Words.{node_title}
use Rattle.pg_scene.specs.declared.item.Item.{Item}
use Rattle.pg_captions.specs.declared.look.Legend.{Legend}
use Rattle.pg_captions.specs.declared.look.Legend.TheVariants.{Absent, OfBody, Whole}
use Rattle.pg_captions.specs.declared.look.Look.{Look}
use Rattle.pg_scene.specs.declared.scene.Scene.{Scene}
use Rattle.pg_drawing.proofs.Common.{Bytes, Cert, Game}
use Rattle.pg_drawing.specs.Due.{DrawsNode, IsCertDue, LacksNamed}
use Rattle.pg_drawing.specs.Orders.{chosen, last_of, node_of}
use Rattle.pg_drawing.specs.declared.name.NodeName.{NodeName}

-- ---- a game has no more points than a certificate can name

few_field : (kind : Kind) (bias : ℕ) (field : Field)
    → FieldFits kind field bias
    → field_points field ≤ MAX_MEMBERS
few_field kind bias (Lines f) fits =
    let within : AreLinesOf bias f = fits.on_lines f refl in
    omega (arith, within.few_points)
few_field kind bias (OnGraph h) fits =
    let within = fits.on_graph h refl in
    omega (arith, within.few_edges)

few_points : (g : Game) → point_count g ≤ MAX_MEMBERS
few_points g =
    let fits : IsFit g.kind g.field g.x g.y g.bias = g.fits in
    few_field g.kind g.bias g.field fits.within

-- ---- pairs that are cut short

-- the pairs of a list that was cut short
abbrev kept : List Pair → List Pair
kept qs = if clash qs then drop 2 qs else qs

pairs_kept : (n : ℕ) (ps : List Pair)
    → n ≤ MAX_MEMBERS
    → take n (kept (short_pairs ps)) ≡ take n ps
pairs_kept n ps few = elim (cases_Bool (clash ps)) [
  | inl on ↦
      let short : short_pairs ps ≡ twice ++ take MAX_MEMBERS ps = rw on refl in
      ap (λ (qs : List Pair). take n (kept qs)) short ∙ take-take n MAX_MEMBERS ps few
  | inr off ↦
      let short : short_pairs ps ≡ ps = rw off refl in
      let all : kept ps ≡ ps = rw off refl in
      ap (λ (qs : List Pair). take n (kept qs)) short ∙ ap (take n) all
]

-- ---- bodies that are cut short

module _ (g : Game) (p : Position) (side : Side) where
  -- what a body names that was cut short
  abbrev items_of : Body → List Item
  items_of (bodies.Pairs qs) = pair_items (point_count g) (kept qs)
  items_of bodies.Over = body_items g p side bodies.Over
  items_of (bodies.Move v child) = body_items g p side (bodies.Move v child)
  items_of (bodies.All replies) = body_items g p side (bodies.All replies)
  items_of bodies.Potential = body_items g p side bodies.Potential
  items_of (bodies.Trees with_e a b) = body_items g p side (bodies.Trees with_e a b)
  items_of (bodies.Cuts with_e a b) = body_items g p side (bodies.Cuts with_e a b)
  items_of (bodies.Threat points) = body_items g p side (bodies.Threat points)
  items_of (bodies.Weaker child) = body_items g p side (bodies.Weaker child)

  items_short : (body : Body) → items_of (short_body body) ≡ body_items g p side body
  items_short (bodies.Pairs ps) = ap (numbered (pair_item (point_count g)) 0)
      (pairs_kept (point_count g) ps (few_points g))
  items_short bodies.Over = refl
  items_short (bodies.Move v child) = refl
  items_short (bodies.All replies) = refl
  items_short bodies.Potential = refl
  items_short (bodies.Trees with_e a b) = refl
  items_short (bodies.Cuts with_e a b) = refl
  items_short (bodies.Threat points) = refl
  items_short (bodies.Weaker child) = refl

  -- the lines of a legend that are said of a body
  legend_short : (body : Body) → body_lines g p side (short_body body) ≡ body_lines g p side body
  legend_short (bodies.Pairs ps) = refl
  legend_short bodies.Over = refl
  legend_short (bodies.Move v child) = refl
  legend_short (bodies.All replies) = refl
  legend_short bodies.Potential = refl
  legend_short (bodies.Trees with_e a b) = refl
  legend_short (bodies.Cuts with_e a b) = refl
  legend_short (bodies.Threat points) = refl
  legend_short (bodies.Weaker child) = refl

  items_alike : (b d : Body)
      → short_body b ≡ short_body d
      → body_items g p side b ≡ body_items g p side d
  items_alike b d same = sym (items_short b) ∙ ap items_of same ∙ items_short d

  lines_alike : (b d : Body)
      → short_body b ≡ short_body d
      → body_lines g p side b ≡ body_lines g p side d
  lines_alike b d same = sym (legend_short b) ∙ ap (body_lines g p side) same ∙ legend_short d

-- ---- scenes

-- what is said of a claim but for its nodes
abbrev claim_of : Claim → Claim
claim_of w = record { turn = w.turn; side = w.side; goal = w.goal; nodes = [] }

-- the lines of the body, if the legend says it, are the same
by_alike : (legend : Legend) (look : Look) (g : Game) (w : Claim) (p : Position) (b d : Body)
    (fault : Option ℕ)
    → short_body b ≡ short_body d
    → node_by legend look g w p b fault ≡ node_by legend look g w p d fault
by_alike Absent look g w p b d fault same = refl
by_alike OfBody look g w p b d fault same = lines_alike g p w.side b d same
by_alike Whole look g w p b d fault same = ap (λ (lines : List (List ℕ)).
    (claim_line g.kind w.turn w.side w.goal ∷ position_lines look g p ++ lines)
    ++ fault_lines fault) (lines_alike g p w.side b d same)

-- a legend says nothing of a claim's other nodes
by_claim : (legend : Legend) (look : Look) (g : Game) (w : Claim) (p : Position) (b : Body)
    (fault : Option ℕ)
    → node_by legend look g (claim_of w) p b fault ≡ node_by legend look g w p b fault
by_claim Absent look g w p b fault = refl
by_claim OfBody look g w p b fault = refl
by_claim Whole look g w p b fault = refl

legend_alike : (look : Look) (g : Game) (w v : Claim) (n m : Node) (fault : Option ℕ)
    → short_claim w ≡ short_claim v
    → short_node n ≡ short_node m
    → node_legend look g w (position_of n) n.body fault
    ≡ node_legend look g v (position_of m) m.body fault
legend_alike look g w v n m fault same_claim same_node =
    let position : position_of n ≡ position_of m = ap position_of same_node in
    let body : short_body n.body ≡ short_body m.body = ap (λ (q : Node). q.body) same_node in
    let claim : claim_of w ≡ claim_of v = ap claim_of same_claim in
    ap (λ (p : Position). node_legend look g w p n.body fault) position
    ∙ by_alike look.legend look g w (position_of m) n.body m.body fault body
    ∙ sym (by_claim look.legend look g w (position_of m) m.body fault)
    ∙ ap (λ (c : Claim). node_legend look g c (position_of m) m.body fault) claim
    ∙ by_claim look.legend look g v (position_of m) m.body fault

title_alike : (g : Game) (w v : Claim) (k : ℕ) (fault : Option ℕ)
    → short_claim w ≡ short_claim v
    → node_title g.kind w k fault ≡ node_title g.kind v k fault
title_alike g w v k None same = ap (λ (c : Claim). node_title g.kind c k None) same
title_alike g w v k (Some why) same = refl

scene_alike : (look : Look) (g : Game) (w v : Claim) (k : ℕ) (n m : Node) (fault : Option ℕ)
    (scene : Scene)
    → short_claim w ≡ short_claim v
    → short_node n ≡ short_node m
    → IsSceneOf look g w k n fault scene
    → IsSceneOf look g v k m fault scene
scene_alike look g w v k n m fault scene same_claim same_node is =
    let side : w.side ≡ v.side = ap (λ (c : Claim). c.side) same_claim in
    let position : position_of n ≡ position_of m = ap position_of same_node in
    let body : short_body n.body ≡ short_body m.body = ap (λ (q : Node). q.body) same_node in
    let lines = line_items look.lines (lines_of g) in
    record {
      title = is.title ∙ title_alike g w v k fault same_claim;
      board = is.board;
      items = is.items
          ∙ ap (λ (p : Position). point_items (point_count g) p ++ (lines
          ++ (body_items g p w.side n.body ++ fault_items fault))) position
          ∙ ap (λ (s : Side). point_items (point_count g) (position_of m)
          ++ (lines
          ++ (body_items g (position_of m) s n.body ++ fault_items fault))) side
          ∙ ap (λ (l : List Item). point_items (point_count g) (position_of m)
          ++ (lines ++ (l ++ fault_items fault)))
          (items_alike g (position_of m) v.side n.body m.body body);
      legend = is.legend ∙ legend_alike look g w v n m fault same_claim same_node;
    }

-- ---- nodes of certificates that are the same when they are cut short

-- the certificate's node of these numbers, which is the same as this one of this claim
record IsThere (c : Cert) (claim number : ℕ) (w : Claim) (n : Node) : Type 0 where
  whole : Claim
  node : Node
  named : AreNamed c claim number whole node
  same_claim : short_claim whole ≡ short_claim w
  same_node : short_node node ≡ short_node n

named_alike : (c d : Cert)
    → short_cert c ≡ short_cert d
    → (claim number : ℕ) (w : Claim) (n : Node) → AreNamed d claim number w n
    → IsThere c claim number w n
named_alike c d same claim number w n h =
    let claims : map short_claim c.claims ≡ map short_claim d.claims =
    ap (λ (e : Cert). e.claims) same in
    let at = member short_claim c.claims claim (short_claim w)
    (ap (λ (l : List Claim). slice_get l claim) claims
    ∙ there short_claim d.claims claim w h.claim_at) in
    let nodes : map short_node at.member.nodes ≡ map short_node w.nodes =
    ap (λ (e : Claim). e.nodes) at.is in
    let found = member short_node at.member.nodes number (short_node n)
    (ap (λ (l : List Node). slice_get l number) nodes
    ∙ there short_node w.nodes number n h.node_at) in
    record {
      whole = at.member;
      node = found.member;
      named = record { claim_at = at.at; node_at = found.at };
      same_claim = at.is;
      same_node = found.is;
    }

last_alike : (xs ys : List Claim)
    → map short_claim xs ≡ map short_claim ys
    → last_of xs ≡ last_of ys
last_alike [] [] e = refl
last_alike [] (y ∷ ys) e = absurd cc
last_alike (x ∷ xs) [] e = absurd cc
last_alike (x ∷ xs) (y ∷ ys) e =
    let first : short_claim x ≡ short_claim y = cc in
    ap (λ (count : ℕ). count - 1) (sym (length-map x.nodes short_node)
    ∙ ap (λ (c : Claim). length c.nodes) first
    ∙ length-map y.nodes short_node)

module _ (look : Look) (g : Game) (c d : Cert) (same : short_cert c ≡ short_cert d) where
  pub chosen_alike : (name : Option NodeName) → chosen d name ≡ chosen c name
  chosen_alike (Some name) = refl
  chosen_alike None =
      ap (node_of 0) (last_alike d.claims c.claims (sym (ap (λ (e : Cert). e.claims) same)))

  drawn_alike : (name : NodeName) (fault : Option ℕ) (text : Bytes)
      → DrawsNode look g d name fault text
      → DrawsNode look g c name fault text
  drawn_alike name fault text h =
      let was = h.shown in
      let now = named_alike c d same name.claim name.node was.whole was.node was.named in
      record {
        scene = h.scene;
        shown = record {
          whole = now.whole;
          node = now.node;
          named = now.named;
          shown = scene_alike look g was.whole now.whole name.node was.node now.node fault h.scene
              (sym now.same_claim) (sym now.same_node) was.shown;
        };
        text_is = h.text_is;
      }

  lacks_alike : (name : NodeName) → LacksNamed d name → LacksNamed c name
  lacks_alike name h whole n named =
      let there = named_alike d c (sym same) name.claim name.node whole n named in
      h there.whole there.node there.named

  pub due_alike : (name : NodeName) (text : Bytes) (status : ℕ)
      → IsCertDue look g d name text status
      → IsCertDue look g c name text status
  due_alike name text status (inl (valid, inl (drawn, is))) = inl (
    valid_alike g c d same valid,
    inl (drawn_alike name None text drawn, is),
  )
  due_alike name text status (inl (valid, inr (lacks, says))) = inl (
    valid_alike g c d same valid,
    inr (lacks_alike name lacks, says),
  )
  due_alike name text status (inr h) = inr (record {
    name = h.name;
    why = h.why;
    first = fault_alike g c d same h.name.claim h.name.node h.why h.first;
    drawn = drawn_alike h.name (Some h.why) text h.drawn;
    status_is = h.status_is;
  })
