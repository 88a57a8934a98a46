-- A position that is met, in the table.
use Rattle.std.proofs.Common.{◌≡◌, ◌≢◌, ◌∙◌, ℕ, Bool, true, false, Option, Some, List, []}
use Rattle.std.proofs.Common.{◌∷◌, ◌++◌, slice_get, inl, arith, length, ap, sym, refl}
use Rattle.pg_base.specs.Points.{AreBelow}
use Rattle.pg_game.proofs.WeightBounds.{few_points-lines}
use Rattle.pg_game.specs.declared.bounds.TheConstants.{MAX_POINTS}
use Rattle.pg_met.proofs.Common.{Position, Game, Score, IsPosition, some≢none}
use Rattle.pg_met.specs.Prelude.{Switching}
use Rattle.pg_met.specs.declared.known.Answered.{Answered}
use Rattle.pg_met.specs.declared.table.Table.{Table}
use Rattle.pg_met.specs.Claims.{nodes_of}
use Rattle.pg_met.specs.Met.{IsMeeting, LeafAdds}
use Rattle.pg_met.specs.MetList.{MetList}
use Rattle.pg_met.specs.Tree.{IsTreeFor, IsTreeOf, IsMetAt, IsMetFrom}
use Rattle.pg_met.proofs.Growing.{tree-push, extends-push, expanded-push}

-- a position that wasn't met, with what a leaf adds for it
pub met-new : (g : Game) (t : Score) (before : List Position) (old new : Table) (q : Position)
    (place : ℕ) (a : Option Answered)
    → IsTreeFor g t before old
    → ((k : ℕ) → slice_get before k ≡ Some q → ⊥)
    → slice_get new.positions.items place ≡ Some q
    → LeafAdds g t q a (nodes_of old.claims) (nodes_of new.claims)
    → IsPosition g q
    → new.positions.items ≡ before ++ q ∷ []
    → new.moves.items ≡ old.moves.items ++ [] ∷ []
    → new.parents.items ≡ old.parents.items ++ [] ∷ []
    → new.answers.items ≡ old.answers.items ++ a ∷ []
    → IsMetFrom g t before old new q place
met-new g t before old new q place a tree fresh at leaf position eq_p eq_m eq_u eq_a = record {
  tree = rw (eq_p, eq_m, eq_u, eq_a)
      (tree-push g t before old.moves.items old.parents.items old.answers.items
      (nodes_of old.claims) (nodes_of new.claims) q a tree fresh leaf position);
  at = at;
  extends = rw (eq_p, eq_m, eq_u, eq_a)
      (extends-push q before old.moves.items old.parents.items old.answers.items a);
  expanded = λ table e. rw (eq_p, eq_m)
      (expanded-push g t before old.moves.items old.parents.items q tree.shape fresh position table
      e);
}

-- a position that was met: nothing is new
pub met-known : (g : Game) (t : Score) (old : Table) (now : MetList) (q : Position) (place : ℕ)
    → IsTreeOf g t old
    → now.items ≡ old.positions.items
    → slice_get now.items place ≡ Some q
    → IsMetAt g t old (record {
      positions = now;
      moves = old.moves;
      parents = old.parents;
      answers = old.answers;
      claims = old.claims;
    }) q place
met-known g t old now q place tree same at = record {
  tree = rw same tree;
  at = at;
  extends = record {
    same_positions = rw same (λ i p was. was);
    same_moves = λ i ms was. was;
    same_parents = λ i ps was. was;
    same_answers = λ i a was. was;
    count = omega (arith, ap length same);
    new = rw same (λ i p was. inl was);
    new_parents = λ i ps was. inl was;
  };
  expanded = λ table e. rw same e;
}

-- the same of what there was, whatever it says of the positions
pub met-from : (g : Game) (t : Score) (before : List Position) (old new : Table) (now : MetList)
    (q : Position) (place : ℕ)
    → IsMetFrom g t before (record {
      positions = now;
      moves = old.moves;
      parents = old.parents;
      answers = old.answers;
      claims = old.claims;
    }) new q place
    → IsMetFrom g t before old new q place
met-from g t before old new now q place m =
    record { tree = m.tree; at = m.at; extends = m.extends; expanded = m.expanded }

-- a key is its position, in a game on lines
pub key-same : (g : Game) (q key : Position)
    → g.kind ≢ Switching
    → IsPosition g q
    → (AreBelow q.x MAX_POINTS → AreBelow q.y MAX_POINTS → key ≡ q)
    → key ≡ q
key-same g q key lines position is =
    let few = few_points-lines g lines in
    is (λ v h. omega (arith, few, position.x_range v h))
    (λ v h. omega (arith, few, position.y_range v h))

-- the first position is new
pub first-new : (q : Position) (old new : List Position) (place : ℕ) (b : Bool)
    → IsMeeting q old new place b
    → old ≡ []
    → b ≡ true
first-new q old new place true met none = refl
first-new q old new place false met none =
    absurd (some≢none (sym met.at ∙ ap (λ ps. slice_get ps place) (met.known refl ∙ none)))

-- no positions
pub empty-tree : (g : Game) (t : Score) (s : Table)
    → s.positions.items ≡ []
    → s.moves.items ≡ []
    → s.parents.items ≡ []
    → s.answers.items ≡ []
    → ((b : Bool) → nodes_of s.claims b ≡ [])
    → IsTreeOf g t s
empty-tree g t s ep em eu ea en = record {
  shape = rw (ep, em, eu) (record {
    move_count = refl;
    parent_count = refl;
    fits = λ i p a. absurd (some≢none (sym a));
    different = λ i k p a b. absurd (some≢none (sym a));
    undecided = λ i p ms a b some. absurd (some≢none (sym a));
    points = λ i p ms a b some. absurd (some≢none (sym a));
    leads = λ i p ms a b m c. absurd (some≢none (sym a));
    kept = λ i ms a m c. absurd (some≢none (sym a));
    parent_range = λ i ps a k c. absurd (some≢none (sym a));
  });
  agree = rw (ep, em, ea) (record {
    count = refl;
    range = λ i c. absurd (omega (arith, c.1));
    sound = λ i p ms a b some x is. absurd (some≢none (sym a));
    known = λ i p ms a b some x is. absurd (some≢none (sym a));
  });
  shown = rw (ep, ea) (record {
    hold = λ b k n at. absurd (some≢none (sym (ap (λ ns. slice_get ns k) (sym (en b)) ∙ at)));
    shown = λ i b n at. absurd (some≢none (sym at));
    placed = λ b n node at. absurd (some≢none (sym (ap (λ ns. slice_get ns n) (sym (en b)) ∙ at)));
    kinds = λ b n node at. absurd (some≢none (sym (ap (λ ns. slice_get ns n) (sym (en b)) ∙ at)));
    count = omega (arith, ap length (en true), ap length (en false));
  });
  leafs = rw (ep, ea) (λ i p b at d. absurd (some≢none (sym at)));
}
