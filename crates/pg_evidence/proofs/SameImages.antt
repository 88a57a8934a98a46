-- Certificates with images that are the same when they are cut short have the same faults of
-- images. What is said here of the first of two holds of the second, since being the same has no
-- direction.
use Rattle.std.proofs.Common.{◌≡◌, ◌∙◌, ◌⊎◌, ℕ, zero, suc, List, [], ◌∷◌, length, map}
use Rattle.std.proofs.Common.{take, Some, slice_get, refl, sym, ap, subst, inl, inr}
use Rattle.std.specs.List.{All as Each, AllByRecursion, AllZip}
use Rattle.std.proofs.lemmas.List.{take-map}
use Rattle.std.proofs.lemmas.List.Elements.{All-from_recursion, recursion_from_All}
use Rattle.pg_evidence.proofs.Common.{Game, ImageCert, ImageClaim, Node, length-map}
use Rattle.pg_base.specs.declared.pair.Pair.{Pair}
use Rattle.pg_cert.specs.Node.{position_of}
use Rattle.pg_cert.specs.Valid.{NamesEarlier}
use Rattle.pg_cert.specs.declared.node.Body.{Body}
use Rattle.pg_cert.specs.declared.node.Body.TheVariants.{Over, Move, All, Pairs, Potential, Trees}
use Rattle.pg_cert.specs.declared.node.Body.TheVariants.{Cuts, Threat, Weaker}
use Rattle.pg_cert_files.specs.Shortened.{short_body, short_node, short_pairs}
use Rattle.pg_image.specs.Node.{image_node_position}
use Rattle.pg_image.specs.Shortened.{short_image_cert, short_image_claim, short_image_node}
use Rattle.pg_image.specs.declared.node.ImageNode.{ImageNode}
use Rattle.pg_image.specs.declared.node.ImageNode.TheVariants.{Plain, Image}
use Rattle.pg_judge.proofs.ShortCerts.{IsMember, member, there}
use Rattle.pg_maps.specs.Images.{board_of, image_on, image_position}
use Rattle.pg_unfold.specs.Copies.{AreCopies, Copy, IsAt, IsMet, IsMetBy, IsPlaced, IsPlain}
use Rattle.pg_unfold.specs.Copies.{LeadsTo, NamesChild, Settles, SettlesBy, StandsFor}
use Rattle.pg_unfold.specs.Flaws.{AreSound, AreSoundBefore, HasEarlier, HasMarks, HasPoints}
use Rattle.pg_unfold.specs.Flaws.{HasSize, HasUsable, HaveRoom, IsFaultless, IsFirstFault}
use Rattle.pg_unfold.specs.Flaws.{IsFirstFlaw, IsFirstIn, IsFirstTooLarge, IsLeastFlaw}
use Rattle.pg_unfold.specs.Flaws.{IsSoundClaim, Passes}
use Rattle.pg_unfold.specs.declared.flaw.Flaw.{Flaw}
use Rattle.pg_unfold.specs.declared.flaw.Flaw.TheVariants as flaws

-- ---- bodies

-- both bodies are of pairs, which are the same when they are cut short
pub record ArePairs (b c : Body) : Type 0 where
  pub ps : List Pair
  pub qs : List Pair
  pub left : b ≡ Pairs ps
  pub right : c ≡ Pairs qs
  pub same : short_pairs ps ≡ short_pairs qs

record HasPairs (b : Body) : Type 0 where
  pairs : List Pair
  is : b ≡ Pairs pairs

stays : (b : Body) → (short_body b ≡ b) ⊎ HasPairs b
stays (Pairs ps) = inr (record { pairs = ps; is = refl })
stays Over = inl refl
stays (Move v child) = inl refl
stays (All rs) = inl refl
stays Potential = inl refl
stays (Trees e a b) = inl refl
stays (Cuts e a b) = inl refl
stays (Threat points) = inl refl
stays (Weaker child) = inl refl

pairs_same : (b c : Body) (ps qs : List Pair)
    → short_body b ≡ short_body c
    → b ≡ Pairs ps
    → c ≡ Pairs qs
    → ArePairs b c
pairs_same b c ps qs e left right =
    let short : ◌≡◌ {A = Body} (Pairs (short_pairs ps)) (Pairs (short_pairs qs)) =
    ap short_body (sym left) ∙ e ∙ ap short_body right in
    record { ps = ps; qs = qs; left = left; right = right; same = cc }

-- the same when they are cut short: equal, or both of pairs
pub same_bodies : (b c : Body) → short_body b ≡ short_body c → (b ≡ c) ⊎ ArePairs b c
same_bodies b c e = elim (stays b) as (λ _. (b ≡ c) ⊎ ArePairs b c) [
  | inl own ↦ elim (stays c) as (λ _. (b ≡ c) ⊎ ArePairs b c) [
    | inl its ↦ inl (sym own ∙ e ∙ its)
    | inr h ↦
        inr (pairs_same b c (short_pairs h.pairs) h.pairs e (sym own ∙ e ∙ ap short_body h.is) h.is)
  ]
  | inr h ↦ elim (stays c) as (λ _. (b ≡ c) ⊎ ArePairs b c) [
    | inl its ↦ inr (pairs_same b c h.pairs (short_pairs h.pairs) e h.is
        (sym its ∙ sym e ∙ ap short_body h.is))
    | inr k ↦ inr (pairs_same b c h.pairs k.pairs e h.is k.is)
  ]
]

names_earlier : (k : ℕ) (b c : Body)
    → short_body b ≡ short_body c
    → NamesEarlier k b
    → NamesEarlier k c
names_earlier k b c e h = elim (same_bodies b c e) as (λ _. NamesEarlier k c) [
  | inl same ↦ subst (NamesEarlier k) same h
  | inr p ↦ subst (NamesEarlier k) (sym p.right) tt
]

names_child : (child : ℕ) (b c : Body)
    → short_body b ≡ short_body c
    → NamesChild b child
    → NamesChild c child
names_child child b c e h = elim (same_bodies b c e) as (λ _. NamesChild c child) [
  | inl same ↦ subst (λ (d : Body). NamesChild d child) same h
  | inr p ↦ absurd (subst (λ (d : Body). NamesChild d child) p.left h)
]

-- ---- nodes

abbrev pub AreSame : ImageNode → ImageNode → Type 0
AreSame a b = short_image_node a ≡ short_image_node b

-- nodes that are the same are equal, or both plain
by_kind : (P : ImageNode → ImageNode → Type 0)
    → ((a : ImageNode) → P a a)
    → ((n m : Node) → short_node n ≡ short_node m → P (Plain n) (Plain m))
    → (a b : ImageNode) → AreSame a b → P a b
by_kind P equal plain (Plain n) (Plain m) e = plain n m cc
by_kind P equal plain (Image x y t l m j) (Image u v s k n i) e =
    subst (P (Image x y t l m j)) e (equal (Image x y t l m j))
by_kind P equal plain (Plain n) (Image u v s k m i) e = absurd cc
by_kind P equal plain (Image x y t l m j) (Plain n) e = absurd cc

bodies_of : (n m : Node) → short_node n ≡ short_node m → short_body n.body ≡ short_body m.body
bodies_of n m e = ap (λ (k : Node). k.body) e

pub plain_same : (a b : ImageNode) → AreSame a b → IsPlain a → IsPlain b
plain_same = by_kind (λ a b. IsPlain a → IsPlain b) (λ a h. h) (λ n m e h. tt)

position_same : (a b : ImageNode) → AreSame a b → image_node_position a ≡ image_node_position b
position_same = by_kind (λ a b. image_node_position a ≡ image_node_position b) (λ a. refl)
    (λ n m e. ap position_of e)

earlier_same : (k : ℕ) (a b : ImageNode) → AreSame a b → HasEarlier k a → HasEarlier k b
earlier_same k = by_kind (λ a b. HasEarlier k a → HasEarlier k b) (λ a h. h)
    (λ n m e h. names_earlier k n.body m.body (bodies_of n m e) h)

usable_same : (g : Game) (a b : ImageNode) → AreSame a b → HasUsable g a → HasUsable g b
usable_same g = by_kind (λ a b. HasUsable g a → HasUsable g b) (λ a h. h) (λ n m e h. tt)

stands_same : (c next : Copy) (a b : ImageNode)
    → AreSame a b
    → StandsFor a c next
    → StandsFor b c next
stands_same c next =
    by_kind (λ a b. StandsFor a c next → StandsFor b c next) (λ a h. h) (λ n m e h. h)

leads_same : (c next : Copy) (a b : ImageNode)
    → AreSame a b
    → LeadsTo a c next
    → LeadsTo b c next
leads_same c next = by_kind (λ a b. LeadsTo a c next → LeadsTo b c next) (λ a h. h)
    (λ n m e h. (names_child next.node n.body m.body (bodies_of n m e) h.0, h.1))

-- ---- lists of which the members are the same

module _ {A : Type 0} (f : A → A) where
  -- the other's member
  pub other : (xs ys : List A) (i : ℕ) (x : A)
      → map f xs ≡ map f ys
      → slice_get xs i ≡ Some x
      → IsMember f ys i (f x)
  other xs ys i x same at = member f ys i (f x)
      (ap (λ (l : List A). slice_get l i) (sym same) ∙ there f xs i x at)

  pub as_long : (xs ys : List A) → map f xs ≡ map f ys → length xs ≡ length ys
  as_long xs ys same = sym (length-map xs f) ∙ ap length same ∙ length-map ys f

  pub take_same : (i : ℕ) (xs ys : List A)
      → map f xs ≡ map f ys
      → map f (take i xs) ≡ map f (take i ys)
  take_same i xs ys same =
      sym (take-map f i xs) ∙ ap (take i) same ∙ take-map f i ys

  each_same : (P : A → Type 0) (xs ys : List A)
      → ((x y : A) → f x ≡ f y → P x → P y)
      → map f xs ≡ map f ys
      → AllByRecursion P xs
      → AllByRecursion P ys
  each_same P [] [] turn same h = tt
  each_same P (x ∷ xs) (y ∷ ys) turn same h =
      let here : f x ≡ f y = cc in
      let later : map f xs ≡ map f ys = cc in
      (turn x y here h.0, each_same P xs ys turn later h.1)
  each_same P [] (y ∷ ys) turn same h = absurd cc
  each_same P (x ∷ xs) [] turn same h = absurd cc

  pub all_same : (P : A → Type 0) (xs ys : List A)
      → ((x y : A) → f x ≡ f y → P x → P y)
      → map f xs ≡ map f ys
      → Each P xs
      → Each P ys
  all_same P xs ys turn same h =
      All-from_recursion P ys (each_same P xs ys turn same (recursion_from_All P xs h))

-- ---- the nodes of a claim

module _ (ns ms : List ImageNode) (same : map short_image_node ns ≡ map short_image_node ms) where
  other_node : (i : ℕ) (a : ImageNode)
      → slice_get ns i ≡ Some a
      → IsMember short_image_node ms i (short_image_node a)
  other_node i a at = other short_image_node ns ms i a same at

  pub at_other : (c : Copy) (P Q : ImageNode → Type 0)
      → ((a b : ImageNode) → AreSame a b → P a → Q b)
      → IsAt ns c P
      → IsAt ms c Q
  at_other c P Q turn h =
      let m = other_node c.node h.node h.at in
      record { node = m.member; at = m.at; holds = turn h.node m.member (sym m.is) h.holds }

  met_by : (n : ℕ) (c : Copy) → IsMetBy ns n c → IsMetBy ms n c
  met_by zero c h = (h.0 ∙ as_long short_image_node ns ms same, h.1)
  met_by (suc n) c h = (
    h.0,
    met_by n h.0 h.1,
    at_other h.0 (λ a. LeadsTo a h.0 c) (λ a. LeadsTo a h.0 c) (leads_same h.0 c) h.2,
  )

  met_same : (c : Copy) → IsMet ns c → IsMet ms c
  met_same c h = (h.0, met_by h.0 c h.1)

  settles_by : (n : ℕ) (c plain : Copy) → SettlesBy ns n c plain → SettlesBy ms n c plain
  settles_by zero c plain h = (at_other c IsPlain IsPlain plain_same h.0, h.1)
  settles_by (suc n) c plain h = (
    h.0,
    at_other c (λ a. StandsFor a c h.0) (λ a. StandsFor a c h.0) (stands_same c h.0) h.1,
    settles_by n h.0 plain h.2,
  )

  settles_same : (c plain : Copy) → Settles ns c plain → Settles ms c plain
  settles_same c plain h = (h.0, settles_by h.0 c plain h.1)

  pub placed_same : (copies : List Copy) (c : Copy) (place : ℕ)
      → IsPlaced ns copies c place
      → IsPlaced ms copies c place
  placed_same copies c place h =
      record { plain = h.plain; settles = settles_same c h.plain h.settles; at = h.at }

  marks_here : (g : Game) (a : ImageNode) → HasMarks g ns a → HasMarks g ms a
  marks_here g (Plain n) h = h
  marks_here g (Image x y t l m j) h =
      let k = other_node j h.node h.at in
      record {
        node = k.member;
        at = k.at;
        image = h.image ∙ ap (image_position (image_on (board_of g.field) m))
            (position_same h.node k.member (sym k.is));
      }

  marks_same : (g : Game) (a b : ImageNode) → AreSame a b → HasMarks g ns a → HasMarks g ms b
  marks_same g = by_kind (λ a b. HasMarks g ns a → HasMarks g ms b) (λ a. marks_here g a)
      (λ n m e h. subst (HasPoints g) (ap position_of e) h)

  passes_same : (g : Game) (k : ℕ) (a b : ImageNode) (flaw : Flaw)
      → AreSame a b
      → Passes g ns k a flaw
      → Passes g ms k b flaw
  passes_same g k a b flaws.Child e h = earlier_same k a b e h
  passes_same g k a b flaws.Map e h = usable_same g a b e h
  passes_same g k a b flaws.Marks e h = marks_same g a b e h

-- ---- claims

pub copies_same : (ns ms : List ImageNode) (copies : List Copy)
    → map short_image_node ns ≡ map short_image_node ms
    → AreCopies ns copies
    → AreCopies ms copies
copies_same ns ms copies same h = record {
  met = λ c has.
      let m = h.met c has in
      (met_same ns ms same c m.0, at_other ns ms same c IsPlain IsPlain plain_same m.1);
  all = λ c met plain. h.all c (met_same ms ns (sym same) c met)
      (at_other ms ns (sym same) c IsPlain IsPlain plain_same plain);
  ascending = h.ascending;
}

abbrev pub AreSameClaims : ImageClaim → ImageClaim → Type 0
AreSameClaims c d = short_image_claim c ≡ short_image_claim d

pub nodes_of : (c d : ImageClaim)
    → AreSameClaims c d
    → map short_image_node c.nodes ≡ map short_image_node d.nodes
nodes_of c d same = ap (λ (e : ImageClaim). e.nodes) same

module _ (g : Game) (c d : ImageClaim) (same : AreSameClaims c d) where
  before_same : (k : ℕ) → AreSoundBefore g c k → AreSoundBefore g d k
  before_same k h = λ j b lt at flaw.
      let m = other_node d.nodes c.nodes (sym (nodes_of c d same)) j b at in
      passes_same c.nodes d.nodes (nodes_of c d same) g j m.member b flaw m.is
      (h j m.member lt m.at flaw)

  pub sound_same : IsSoundClaim g c → IsSoundClaim g d
  sound_same h = λ j b at flaw.
      let m = other_node d.nodes c.nodes (sym (nodes_of c d same)) j b at in
      passes_same c.nodes d.nodes (nodes_of c d same) g j m.member b flaw m.is
      (h j m.member m.at flaw)

  least_same : (k : ℕ) (a b : ImageNode) (flaw : Flaw)
      → AreSame a b
      → IsLeastFlaw g c.nodes k a flaw
      → IsLeastFlaw g d.nodes k b flaw
  least_same k a b flaw e h = record {
    fails = λ p. h.fails
        (passes_same d.nodes c.nodes (sym (nodes_of c d same)) g k b a flaw (sym e) p);
    lesser = λ before lt.
        passes_same c.nodes d.nodes (nodes_of c d same) g k a b before e (h.lesser before lt);
  }

  first_in : (k : ℕ) (flaw : Flaw) → IsFirstIn g c k flaw → IsFirstIn g d k flaw
  first_in k flaw h =
      let m = other_node c.nodes d.nodes (nodes_of c d same) k h.node h.at in
      record {
        before = before_same k h.before;
        node = m.member;
        at = m.at;
        least = least_same k h.node m.member flaw (sym m.is) h.least;
      }

size_same : (size : ℕ) (c d : ImageClaim) → AreSameClaims c d → HasSize c size → HasSize d size
size_same size c d same h = record {
  copies = h.copies;
  are = copies_same c.nodes d.nodes h.copies (nodes_of c d same) h.are;
  counted = h.counted;
}

-- ---- lists of claims

abbrev pub HaveSameClaims : List ImageClaim → List ImageClaim → Type 0
HaveSameClaims cs ds = map short_image_claim cs ≡ map short_image_claim ds

sizes_same : (cs ds : List ImageClaim) (sizes : List ℕ)
    → HaveSameClaims cs ds
    → AllZip HasSize cs sizes
    → AllZip HasSize ds sizes
sizes_same [] [] [] same h = tt
sizes_same (c ∷ cs) (d ∷ ds) (s ∷ ss) same h =
    let here : AreSameClaims c d = cc in
    let later : HaveSameClaims cs ds = cc in
    (size_same s c d here h.0, sizes_same cs ds ss later h.1)
sizes_same [] [] (s ∷ ss) same h = absurd h
sizes_same [] (d ∷ ds) sizes same h = absurd cc
sizes_same (c ∷ cs) [] sizes same h = absurd cc
sizes_same (c ∷ cs) (d ∷ ds) [] same h = absurd h

room_same : (cs ds : List ImageClaim) → HaveSameClaims cs ds → HaveRoom cs → HaveRoom ds
room_same cs ds same h =
    record { sizes = h.sizes; are = sizes_same cs ds h.sizes same h.are; few = h.few }

sound_all : (g : Game) (cs ds : List ImageClaim)
    → HaveSameClaims cs ds
    → AreSound g cs
    → AreSound g ds
sound_all g cs ds same h =
    all_same short_image_claim (IsSoundClaim g) cs ds (λ c d e. sound_same g c d e) same h

module _ (g : Game) (cs ds : List ImageClaim) (same : HaveSameClaims cs ds) where
  flaw_same : (claim node why : ℕ)
      → IsFirstFlaw g cs claim node why
      → IsFirstFlaw g ds claim node why
  flaw_same claim node why h =
      let m = other short_image_claim cs ds claim h.faulty same h.claim_at in
      record {
        claims_before = sound_all g (take claim cs) (take claim ds)
            (take_same short_image_claim claim cs ds same) h.claims_before;
        faulty = m.member;
        claim_at = m.at;
        flaw = h.flaw;
        first = first_in g h.faulty m.member (sym m.is) node h.flaw h.first;
        number = h.number;
      }

  large_same : (claim node : ℕ) → IsFirstTooLarge cs claim node → IsFirstTooLarge ds claim node
  unfolding room_same
  large_same claim node h =
      let m = other short_image_claim cs ds claim h.large same h.claim_at in
      record {
        before = room_same (take claim cs) (take claim ds)
            (take_same short_image_claim claim cs ds same) h.before;
        large = m.member;
        claim_at = m.at;
        last = h.last ∙ as_long short_image_node h.large.nodes m.member.nodes
            (nodes_of h.large m.member (sym m.is));
        size = h.size;
        is = size_same h.size h.large m.member (sym m.is) h.is;
        much = h.much;
      }

-- ---- certificates

pub claims_of : (c d : ImageCert)
    → short_image_cert c ≡ short_image_cert d
    → HaveSameClaims c.claims d.claims
claims_of c d same = ap (λ (e : ImageCert). e.claims) same

module _ (g : Game) (c d : ImageCert) (same : short_image_cert c ≡ short_image_cert d) where
  pub faultless_same : IsFaultless g c → IsFaultless g d
  faultless_same h = record {
    sound = sound_all g c.claims d.claims (claims_of c d same) h.sound;
    room = room_same c.claims d.claims (claims_of c d same) h.room;
  }

  pub image_fault_same : (claim node why : ℕ)
      → IsFirstFault g c claim node why
      → IsFirstFault g d claim node why
  image_fault_same claim node why h = elim h as (λ _. IsFirstFault g d claim node why) [
    | inl flaw ↦ inl (flaw_same g c.claims d.claims (claims_of c d same) claim node why flaw)
    | inr large ↦ inr (
      large.0,
      sound_all g c.claims d.claims (claims_of c d same) large.1,
      large_same g c.claims d.claims (claims_of c d same) claim node large.2,
    )
  ]
