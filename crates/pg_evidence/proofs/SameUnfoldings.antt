-- Certificates with images that are the same when they are cut short have unfoldings that are the
-- same when they are cut short.
use Rattle.std.proofs.Common.{◌≡◌, ◌∙◌, ℕ, true, false, List, [], ◌∷◌, ◌++◌}
use Rattle.std.proofs.Common.{length, map, take, Some, slice_get, refl, sym, ap, ap₂, subst}
use Rattle.std.proofs.Common.{inl, inr, arith}
use Rattle.std.specs.Prelude.{◌==◌}
use Rattle.std.specs.List.{All as Each, AllZip, list_any}
use Rattle.std.proofs.lemmas.Bool.{cases_Bool, eq-eqb, eqb-true, or_cases, or_left, or_right}
use Rattle.std.proofs.lemmas.List.{take-map}
use Rattle.std.proofs.lemmas.List.Elements.{All-cons, All-head, All-nil, All-tail}
use Rattle.std.proofs.lemmas.List.Sums.{sum_by-cons}
use Rattle.pg_evidence.proofs.Common.{AreUnfolded, Claim, Game, ImageCert, ImageClaim, IsClaim}
use Rattle.pg_evidence.proofs.Common.{IsCopied, IsImageWithinLimits, IsUnfolded}
use Rattle.pg_evidence.proofs.Common.{Node, Unfolded, length-map}
use Rattle.pg_base.specs.declared.pair.Pair.{Pair}
use Rattle.pg_base.specs.declared.limits.TheConstants.{MAX_MEMBERS}
use Rattle.pg_cert.specs.Limits.{node_count}
use Rattle.pg_cert.specs.Node.{position_of}
use Rattle.pg_cert.specs.declared.cert.Cert.{Cert}
use Rattle.pg_cert.specs.declared.cert.Version.TheVariants.{Two}
use Rattle.pg_cert.specs.declared.node.Body.{Body}
use Rattle.pg_cert.specs.declared.node.Body.TheVariants.{Pairs}
use Rattle.pg_cert_files.specs.Shortened.{clash, share, short_body, short_cert, short_claim}
use Rattle.pg_cert_files.specs.Shortened.{short_node, short_pairs, twice}
use Rattle.pg_game.specs.Pairs.{has_point}
use Rattle.pg_image.specs.Limits.{IsImageClaim}
use Rattle.pg_image.specs.Shortened.{short_image_cert, short_image_node}
use Rattle.pg_image.specs.declared.node.ImageNode.{ImageNode}
use Rattle.pg_image.specs.declared.node.ImageNode.TheVariants.{Plain, Image}
use Rattle.pg_maps.specs.Images.{board_of, image_on, image_pair, image_position}
use Rattle.pg_unfold.specs.Copies.{Copy}
use Rattle.pg_unfold.specs.Flaws.{AreSound, IsSoundClaim}
use Rattle.pg_unfold.specs.Unfolded.{BecomesUnder, IsBodyImage}
use Rattle.pg_unfold.proofs.ClaimSteps.{nodes-limits, zip-length}
use Rattle.pg_unfold.proofs.CopySteps.{body-read}
use Rattle.pg_evidence.specs.Standing.{Unfolds}
use Rattle.pg_evidence.proofs.SameImages.{AreSameClaims, HaveSameClaims, claims_of, copies_same}
use Rattle.pg_evidence.proofs.SameImages.{faultless_same, nodes_of, other, placed_same, same_bodies}

-- ---- images of pairs

point_image : (f : ℕ → ℕ) (v : ℕ) (s : Pair)
    → has_point v s ≡ true
    → has_point (f v) (image_pair f s) ≡ true
point_image f v s on = elim (or_cases (s.a == v) (s.b == v) on) [
  | inl a ↦ or_left (f s.a == f v) (f s.b == f v)
      (eq-eqb (f s.a) (f v) (ap f (eqb-true s.a v a)))
  | inr b ↦ or_right (f s.a == f v) (f s.b == f v)
      (eq-eqb (f s.b) (f v) (ap f (eqb-true s.b v b)))
]

share_image : (f : ℕ → ℕ) (s t : Pair)
    → share s t ≡ true
    → share (image_pair f s) (image_pair f t) ≡ true
share_image f s t on = elim (or_cases (has_point t.a s) (has_point t.b s) on) [
  | inl a ↦ or_left (has_point (f t.a) (image_pair f s)) (has_point (f t.b) (image_pair f s))
      (point_image f t.a s a)
  | inr b ↦ or_right (has_point (f t.a) (image_pair f s)) (has_point (f t.b) (image_pair f s))
      (point_image f t.b s b)
]

any_image : (f : ℕ → ℕ) (s : Pair) (ps : List Pair)
    → list_any (share s) ps ≡ true
    → list_any (share (image_pair f s)) (map (image_pair f) ps) ≡ true
any_image f s [] on = absurd cc
any_image f s (t ∷ ps) on = elim (or_cases (share s t) (list_any (share s) ps) on) [
  | inl here ↦ or_left (share (image_pair f s) (image_pair f t)) _ (share_image f s t here)
  | inr later ↦ or_right (share (image_pair f s) (image_pair f t)) _ (any_image f s ps later)
]

clash_image : (f : ℕ → ℕ) (ps : List Pair)
    → clash ps ≡ true
    → clash (map (image_pair f) ps) ≡ true
clash_image f [] on = absurd cc
clash_image f (s ∷ ps) on = elim (or_cases (list_any (share s) ps) (clash ps) on) [
  | inl here ↦ or_left (list_any (share (image_pair f s)) (map (image_pair f) ps)) _
      (any_image f s ps here)
  | inr later ↦ or_right (list_any (share (image_pair f s)) (map (image_pair f) ps)) _
      (clash_image f ps later)
]

short_clash : (ps : List Pair) → clash ps ≡ true → short_pairs ps ≡ twice ++ take MAX_MEMBERS ps
short_clash ps on = rw on refl

short_quiet : (ps : List Pair) → clash ps ≡ false → short_pairs ps ≡ ps
short_quiet ps off = rw off refl

front_same : (xs ys : List Pair) → twice ++ xs ≡ twice ++ ys → xs ≡ ys
front_same xs ys e = cc

-- cut short, pairs that share a point are no pairs that share none
never : (ps qs : List Pair)
    → clash ps ≡ true
    → clash qs ≡ false
    → short_pairs ps ≡ short_pairs qs
    → ⊥
never ps qs on off e =
    let is : twice ++ take MAX_MEMBERS ps ≡ qs = sym (short_clash ps on) ∙ e ∙ short_quiet qs off in
    let still : clash (twice ++ take MAX_MEMBERS ps) ≡ true = refl in
    let none : clash (twice ++ take MAX_MEMBERS ps) ≡ false = ap clash is ∙ off in
    absurd cc

short_image : (f : ℕ → ℕ) (ps qs : List Pair)
    → short_pairs ps ≡ short_pairs qs
    → short_pairs (map (image_pair f) ps) ≡ short_pairs (map (image_pair f) qs)
short_image f ps qs e = elim (cases_Bool (clash ps)) [
  | inl on ↦ elim (cases_Bool (clash qs)) [
    | inl too ↦
        let fronts : take MAX_MEMBERS ps ≡ take MAX_MEMBERS qs =
        front_same _ _ (sym (short_clash ps on) ∙ e ∙ short_clash qs too) in
        let images : take MAX_MEMBERS (map (image_pair f) ps)
        ≡ take MAX_MEMBERS (map (image_pair f) qs) = take-map (image_pair f) MAX_MEMBERS ps
        ∙ ap (map (image_pair f)) fronts
        ∙ sym (take-map (image_pair f) MAX_MEMBERS qs) in
        short_clash (map (image_pair f) ps) (clash_image f ps on)
        ∙ ap (λ (l : List Pair). twice ++ l) images
        ∙ sym (short_clash (map (image_pair f) qs) (clash_image f qs too))
    | inr off ↦ absurd (never ps qs on off e)
  ]
  | inr off ↦ elim (cases_Bool (clash qs)) [
    | inl on ↦ absurd (never qs ps on off (sym e))
    | inr too ↦ ap (λ (l : List Pair). short_pairs (map (image_pair f) l))
        (sym (short_quiet ps off) ∙ e ∙ short_quiet qs too)
  ]
]

-- ---- copies of nodes

record IsPlainAs (a : ImageNode) (n : Node) : Type 0 where
  node : Node
  is : a ≡ Plain node
  same : short_node node ≡ short_node n

plain_as : (a : ImageNode) (n : Node) → short_image_node a ≡ Plain (short_node n) → IsPlainAs a n
plain_as (Plain m) n e = record { node = m; is = refl; same = cc }
plain_as (Image x y t l m j) n e = absurd cc

-- what the second claim says of the copy, the first says too, cut short
module _ (g : Game) (c d : ImageClaim) (same : AreSameClaims c d) (copies : List Copy) where
  pub record IsCopiedToo (copy : Copy) (image : Node) : Type 0 where
    pub node : Node
    pub copied : IsCopied (board_of g.field) c.nodes copies copy node
    pub short : short_node node ≡ short_node image

  abbrev f_of : Copy → ℕ → ℕ
  f_of copy = image_on (board_of g.field) copy.map

  with_body : (image : Node) (b : Body)
      → short_body b ≡ short_body image.body
      → short_node (record image { body = b }) ≡ short_node image
  with_body image b e = ap (λ (body : Body). record image { body = body }) e

  copied_too : (copy : Copy) (image : Node)
      → IsCopied (board_of g.field) d.nodes copies copy image
      → IsCopiedToo copy image
  copied_too copy image h =
      let f = f_of copy in
      let m = other short_image_node d.nodes c.nodes copy.node (Plain h.source)
      (sym (nodes_of c d same)) h.at in
      let p = plain_as m.member h.source m.is in
      let at : slice_get c.nodes copy.node ≡ Some (Plain p.node) =
      m.at ∙ ap (λ (a : ImageNode). Some a) p.is in
      let position : position_of image ≡ image_position f (position_of p.node) =
      h.position ∙ sym (ap (λ (n : Node). image_position f (position_of n)) p.same) in
      elim (same_bodies p.node.body h.source.body (ap (λ (n : Node). n.body) p.same))
      as (λ _. IsCopiedToo copy image) [
        | inl equal ↦ record {
          node = image;
          copied = record {
            source = p.node;
            at = at;
            position = position;
            body = subst
                (λ (b : Body). IsBodyImage f (BecomesUnder c.nodes copies copy) b image.body)
                (sym equal) (body-read f (BecomesUnder d.nodes copies copy)
                (BecomesUnder c.nodes copies copy) h.source.body image.body
                (λ child place named was. placed_same d.nodes c.nodes (sym (nodes_of c d same))
                copies (record { node = child; map = copy.map }) place was) h.body);
          };
          short = refl;
        }
        | inr pairs ↦
            let body = Pairs (map (image_pair f) pairs.ps) in
            let is : image.body ≡ Pairs (map (image_pair f) pairs.qs) = subst
            (λ (b : Body). IsBodyImage f (BecomesUnder d.nodes copies copy) b image.body)
            pairs.right h.body in
            record {
              node = record image { body = body };
              copied = record {
                source = p.node;
                at = at;
                position = position;
                body = subst
                    (λ (b : Body). IsBodyImage f (BecomesUnder c.nodes copies copy) b body)
                    (sym pairs.left) refl;
              };
              short = with_body image body
                  (ap Pairs (short_image f pairs.ps pairs.qs pairs.same) ∙ sym (ap short_body is));
            }
      ]

  pub record AreCopiedToo (those : List Copy) (images : List Node) : Type 0 where
    pub nodes : List Node
    pub copied : AllZip (IsCopied (board_of g.field) c.nodes copies) those nodes
    pub short : map short_node nodes ≡ map short_node images

  all_copied : (those : List Copy) (images : List Node)
      → AllZip (IsCopied (board_of g.field) d.nodes copies) those images
      → AreCopiedToo those images
  all_copied [] [] h = record { nodes = []; copied = tt; short = refl }
  all_copied (copy ∷ those) (image ∷ images) h =
      let one = copied_too copy image h.0 in
      let rest = all_copied those images h.1 in
      record {
        nodes = one.node ∷ rest.nodes;
        copied = (one.copied, rest.copied);
        short = ap₂ (λ (n : Node) (ns : List Node). n ∷ ns) one.short rest.short;
      }
  all_copied [] (image ∷ images) h = absurd h
  all_copied (copy ∷ those) [] h = absurd h

-- ---- claims

record IsUnfoldedToo (g : Game) (c : ImageClaim) (claim : Claim) (origins : List ℕ) : Type 0 where
  own : Claim
  unfolded : IsUnfolded g c own origins
  limits : IsClaim own
  short : short_claim own ≡ short_claim claim

as_many : (ns ms : List Node) → map short_node ns ≡ map short_node ms → length ns ≡ length ms
as_many ns ms e = sym (length-map ns short_node) ∙ ap length e ∙ length-map ms short_node

unfolded_too : (g : Game) (c d : ImageClaim) (claim : Claim) (origins : List ℕ)
    → AreSameClaims c d
    → IsSoundClaim g c
    → IsImageClaim c
    → IsClaim claim
    → IsUnfolded g d claim origins
    → IsUnfoldedToo g c claim origins
unfolded_too g c d claim origins same sound limits fits h =
    let copied = all_copied g c d same h.copies h.copies claim.nodes h.nodes in
    let are = copies_same d.nodes c.nodes h.copies (sym (nodes_of c d same)) h.are in
    let count = as_many copied.nodes claim.nodes copied.short in
    let many = zip-length (IsCopied (board_of g.field) c.nodes h.copies) h.copies copied.nodes
    copied.copied in
    record {
      own = record claim { nodes = copied.nodes };
      unfolded = record {
        turn = h.turn ∙ sym (ap (λ (e : ImageClaim). e.turn) same);
        side = h.side ∙ sym (ap (λ (e : ImageClaim). e.side) same);
        goal = h.goal ∙ sym (ap (λ (e : ImageClaim). e.goal) same);
        copies = h.copies;
        are = are;
        nodes = copied.copied;
        came = h.came;
      };
      limits = record {
        some = omega (arith, count, fits.some);
        few = omega (arith, count, fits.few);
        nodes = nodes-limits g c sound limits h.copies are (omega (arith, many, count, fits.few))
            copied.nodes copied.copied;
      };
      short = ap (λ (ns : List Node). record claim { nodes = ns }) copied.short;
    }

record AreUnfoldedToo (g : Game) (cs : List ImageClaim) (claims : List Claim)
    (sources : List (List ℕ)) : Type 0 where
  own : List Claim
  unfolded : AreUnfolded g cs own sources
  limits : Each IsClaim own
  short : map short_claim own ≡ map short_claim claims

all_unfolded : (g : Game) (cs ds : List ImageClaim) (claims : List Claim) (sources : List (List ℕ))
    → HaveSameClaims cs ds
    → AreSound g cs
    → Each IsImageClaim cs
    → Each IsClaim claims
    → AreUnfolded g ds claims sources
    → AreUnfoldedToo g cs claims sources
all_unfolded g [] [] [] [] same sound limits fit h =
    record { own = []; unfolded = tt; limits = All-nil IsClaim; short = refl }
all_unfolded g (c ∷ cs) (d ∷ ds) (claim ∷ claims) (origins ∷ sources) same sound limits fit h =
    let here : AreSameClaims c d = cc in
    let later : HaveSameClaims cs ds = cc in
    let one = unfolded_too g c d claim origins here (All-head (IsSoundClaim g) c cs sound)
    (All-head IsImageClaim c cs limits) (All-head IsClaim claim claims fit) h.0 in
    let rest = all_unfolded g cs ds claims sources later (All-tail (IsSoundClaim g) c cs sound)
    (All-tail IsImageClaim c cs limits) (All-tail IsClaim claim claims fit) h.1 in
    record {
      own = one.own ∷ rest.own;
      unfolded = (one.unfolded, rest.unfolded);
      limits = All-cons IsClaim one.own rest.own one.limits rest.limits;
      short = ap₂ (λ (k : Claim) (ks : List Claim). k ∷ ks) one.short rest.short;
    }
all_unfolded g [] (d ∷ ds) claims sources same sound limits fit h = absurd cc
all_unfolded g (c ∷ cs) [] claims sources same sound limits fit h = absurd cc
all_unfolded g [] [] [] (o ∷ os) same sound limits fit h = absurd h
all_unfolded g [] [] (k ∷ ks) [] same sound limits fit h = absurd h
all_unfolded g [] [] (k ∷ ks) (o ∷ os) same sound limits fit h = absurd h
all_unfolded g (c ∷ cs) (d ∷ ds) [] [] same sound limits fit h = absurd h
all_unfolded g (c ∷ cs) (d ∷ ds) [] (o ∷ os) same sound limits fit h = absurd h
all_unfolded g (c ∷ cs) (d ∷ ds) (k ∷ ks) [] same sound limits fit h = absurd h

-- ---- certificates

-- the first certificate unfolds to what is the same as this, cut short
pub record UnfoldsToo (g : Game) (c : ImageCert) (u : Unfolded) : Type 0 where
  pub own : Unfolded
  pub unfolds : Unfolds g c own
  pub short : short_cert own.cert ≡ short_cert u.cert
  pub sources : own.sources ≡ u.sources

counts_of : (ks : List Claim) → node_count (map short_claim ks) ≡ node_count ks
counts_of [] = refl
counts_of (k ∷ ks) =
    let short = sum_by-cons (λ (claim : Claim). length claim.nodes) (short_claim k)
    (map short_claim ks) in
    let whole = sum_by-cons (λ (claim : Claim). length claim.nodes) k ks in
    omega (arith, short, whole, length-map k.nodes short_node, counts_of ks)

count_same : (ks js : List Claim)
    → map short_claim ks ≡ map short_claim js
    → (length ks ≡ length js) × (node_count ks ≡ node_count js)
count_same ks js e = (
  sym (length-map ks short_claim) ∙ ap length e ∙ length-map js short_claim,
  sym (counts_of ks) ∙ ap node_count e ∙ counts_of js,
)

pub unfolds_too : (g : Game) (c d : ImageCert) (u : Unfolded)
    → short_image_cert c ≡ short_image_cert d
    → IsImageWithinLimits c
    → Unfolds g d u
    → UnfoldsToo g c u
unfolds_too g c d u same limits h =
    let faultless = faultless_same g d c (sym same) h.faultless in
    let all = all_unfolded g c.claims d.claims u.cert.claims u.sources (claims_of c d same)
    faultless.sound limits.claims h.limits.claims h.unfolded.claims in
    let counts = count_same all.own u.cert.claims all.short in
    let cert : Cert = record { version = Two; claims = all.own } in
    record {
      own = record { cert = cert; sources = u.sources };
      unfolds = record {
        faultless = faultless;
        unfolded = record { version = refl; claims = all.unfolded };
        limits = record {
          some = omega (arith, counts.0, h.limits.some);
          few = omega (arith, counts.0, h.limits.few);
          claims = all.limits;
          nodes = omega (arith, counts.1, h.limits.nodes);
          bodies = λ k e lt. λ j b inside. refl;
        };
      };
      short = ap₂ (λ v (ks : List Claim). record { version = v; claims = ks })
          (sym h.unfolded.version) all.short;
      sources = refl;
    }
