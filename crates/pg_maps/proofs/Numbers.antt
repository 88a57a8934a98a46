-- The eight maps by their numbers, and how they are put together.
use Rattle.std.proofs.Common.{◌≡◌, ℕ, zero, suc, ◌<◌, Bool, true, false, refl, sym, arith}
use Rattle.pg_maps.specs.declared.grid_map.GridMap.{GridMap}
use Rattle.pg_maps.specs.GridMaps.{numbered, number_of, identity, followed_by, reverse_of}
use Rattle.pg_game.specs.Trees.{differ}

pub number-numbered : (n : ℕ) → n < 8 → number_of (numbered n) ≡ n
number-numbered zero lt = refl
number-numbered (suc zero) lt = refl
number-numbered (suc (suc zero)) lt = refl
number-numbered (suc (suc (suc zero))) lt = refl
number-numbered (suc (suc (suc (suc zero)))) lt = refl
number-numbered (suc (suc (suc (suc (suc zero))))) lt = refl
number-numbered (suc (suc (suc (suc (suc (suc zero)))))) lt = refl
number-numbered (suc (suc (suc (suc (suc (suc (suc zero))))))) lt = refl
number-numbered (suc (suc (suc (suc (suc (suc (suc (suc n)))))))) lt = absurd (omega (arith, lt))

pub numbered-number : (m : GridMap) → numbered (number_of m) ≡ m
numbered-number m = by m.exchange m.rows m.columns
  where
    by : (e r c : Bool)
        → numbered (number_of (record { exchange = e; rows = r; columns = c })) ≡ record {
          exchange = e;
          rows = r;
          columns = c;
        }
    by true true true = refl
    by true true false = refl
    by true false true = refl
    by true false false = refl
    by false true true = refl
    by false true false = refl
    by false false true = refl
    by false false false = refl

pub number-few : (m : GridMap) → number_of m < 8
number-few m = by m.exchange m.rows m.columns
  where
    by : (e r c : Bool) → number_of (record { exchange = e; rows = r; columns = c }) < 8
    by true true true = omega arith
    by true true false = omega arith
    by true false true = omega arith
    by true false false = omega arith
    by false true true = omega arith
    by false true false = omega arith
    by false false true = omega arith
    by false false false = omega arith

-- ---- one after the other

differ-associative : (a b c : Bool) → differ (differ a b) c ≡ differ a (differ b c)
differ-associative true true true = refl
differ-associative true true false = refl
differ-associative true false c = refl
differ-associative false b c = refl

pub identity-followed : (m : GridMap) → followed_by identity m ≡ m
identity-followed m = by m.exchange m.rows m.columns
  where
    by : (e r c : Bool)
        → followed_by identity (record { exchange = e; rows = r; columns = c }) ≡ record {
          exchange = e;
          rows = r;
          columns = c;
        }
    by true true true = refl
    by true true false = refl
    by true false true = refl
    by true false false = refl
    by false true true = refl
    by false true false = refl
    by false false true = refl
    by false false false = refl

pub followed-identity : (m : GridMap) → followed_by m identity ≡ m
followed-identity m = by m.exchange m.rows m.columns
  where
    by : (e r c : Bool)
        → followed_by (record { exchange = e; rows = r; columns = c }) identity ≡ record {
          exchange = e;
          rows = r;
          columns = c;
        }
    by true r c = refl
    by false r c = refl

pub followed-associative : (a b c : GridMap)
    → followed_by (followed_by a b) c ≡ followed_by a (followed_by b c)
followed-associative a b c = by b.exchange c.exchange
  where
    by : (be ce : Bool)
        → followed_by (followed_by a (record b { exchange = be })) (record c { exchange = ce })
        ≡ followed_by a (followed_by (record b { exchange = be }) (record c { exchange = ce }))
    by true true = λ i. record {
      exchange = differ-associative a.exchange true true i;
      rows = sym (differ-associative c.rows b.columns a.rows) i;
      columns = sym (differ-associative c.columns b.rows a.columns) i;
    }
    by true false = λ i. record {
      exchange = differ-associative a.exchange true false i;
      rows = sym (differ-associative c.rows b.rows a.columns) i;
      columns = sym (differ-associative c.columns b.columns a.rows) i;
    }
    by false true = λ i. record {
      exchange = differ-associative a.exchange false true i;
      rows = sym (differ-associative c.rows b.columns a.columns) i;
      columns = sym (differ-associative c.columns b.rows a.rows) i;
    }
    by false false = λ i. record {
      exchange = differ-associative a.exchange false false i;
      rows = sym (differ-associative c.rows b.rows a.rows) i;
      columns = sym (differ-associative c.columns b.columns a.columns) i;
    }

-- each map is undone by its reverse, and undoes it
pub followed-reverse : (m : GridMap) → followed_by m (reverse_of m) ≡ identity
followed-reverse m = by m.exchange m.rows m.columns
  where
    by : (e r c : Bool)
        → followed_by (record {
          exchange = e;
          rows = r;
          columns = c;
        }) (reverse_of (record { exchange = e; rows = r; columns = c })) ≡ identity
    by true true true = refl
    by true true false = refl
    by true false true = refl
    by true false false = refl
    by false true true = refl
    by false true false = refl
    by false false true = refl
    by false false false = refl

pub reverse-followed : (m : GridMap) → followed_by (reverse_of m) m ≡ identity
reverse-followed m = by m.exchange m.rows m.columns
  where
    by : (e r c : Bool)
        → followed_by (reverse_of (record { exchange = e; rows = r; columns = c })) (record {
          exchange = e;
          rows = r;
          columns = c;
        }) ≡ identity
    by true true true = refl
    by true true false = refl
    by true false true = refl
    by true false false = refl
    by false true true = refl
    by false true false = refl
    by false false true = refl
    by false false false = refl
