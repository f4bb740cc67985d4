-- Fronts of lists, list by list: every store is a front of given lengths and a rest; and a store of any lengths.
use Rattle.std.specs.Prelude.{ℕ, ◌+◌, [], ◌≡◌, take, drop, replicate}
use Rattle.std.proofs.Common.{le_of_eq, arith, append-nil, sym, ap, ◌∙◌, length-append, take-append-drop, length-take-le}
use Rattle.std.specs.Float.{nan}
use Rattle.std.proofs.lemmas.List.{length-replicate}
use Rattle.store.specs.declared.Lengths.{Lengths}
use Rattle.store.specs.Store.{Store}
use Rattle.store.specs.Lent.{store_of, lengths_of, NoShorter, join_stores}

-- ---- lengths, list by list

abbrev pub no_lengths : Lengths
no_lengths = record { floats = 0; numbers = 0; hashes = 0; text = 0 }

abbrev pub add_lengths : Lengths → Lengths → Lengths
add_lengths a b =
    record {
      floats = a.floats + b.floats;
      numbers = a.numbers + b.numbers;
      hashes = a.hashes + b.hashes;
      text = a.text + b.text;
    }

-- where a sum fits both fit
pub both-fit : (a b n : Lengths) → NoShorter (add_lengths a b) n → NoShorter a n × NoShorter b n
both-fit a b n f = (
  record { floats = omega (arith, f.floats); numbers = omega (arith, f.numbers); hashes = omega (arith, f.hashes); text = omega (arith, f.text) },
  record { floats = omega (arith, f.floats); numbers = omega (arith, f.numbers); hashes = omega (arith, f.hashes); text = omega (arith, f.text) },
)

-- lists of any lengths
pub zeros : (n : Lengths) → (store : Store) × (lengths_of store ≡ n)
zeros n = (
  store_of (replicate n.floats nan) (replicate n.numbers 0) (replicate n.hashes 0) (replicate n.text 0),
  λ i. record {
    floats = length-replicate n.floats nan i;
    numbers = length-replicate {A = ℕ} n.numbers 0 i;
    hashes = length-replicate {A = ℕ} n.hashes 0 i;
    text = length-replicate {A = ℕ} n.text 0 i;
  },
)

pub same-fit : (a b : Lengths) → a ≡ b → NoShorter a b
same-fit a b e =
    record {
      floats = le_of_eq (ap (λ (n : Lengths). n.floats) e);
      numbers = le_of_eq (ap (λ (n : Lengths). n.numbers) e);
      hashes = le_of_eq (ap (λ (n : Lengths). n.hashes) e);
      text = le_of_eq (ap (λ (n : Lengths). n.text) e);
    }

-- ---- a front and the rest

pub front_of : Lengths → Store → Store
front_of fronts store = store_of (take fronts.floats store.floats) (take fronts.numbers store.numbers) (take fronts.hashes store.hashes) (take fronts.text store.text)

pub rest_of : Lengths → Store → Store
rest_of fronts store = store_of (drop fronts.floats store.floats) (drop fronts.numbers store.numbers) (drop fronts.hashes store.hashes) (drop fronts.text store.text)

pub front_rest : (fronts : Lengths) (store : Store) → store ≡ join_stores (front_of fronts store) (rest_of fronts store)
unfolding front_of rest_of
front_rest fronts store =
    λ i. record {
      floats = sym (take-append-drop fronts.floats store.floats) i;
      numbers = sym (take-append-drop fronts.numbers store.numbers) i;
      hashes = sym (take-append-drop fronts.hashes store.hashes) i;
      text = sym (take-append-drop fronts.text store.text) i;
    }

pub front-lent : (fronts : Lengths) (store : Store) → NoShorter fronts (lengths_of store) → lengths_of (front_of fronts store) ≡ fronts
unfolding front_of
front-lent fronts store f =
    λ i. record {
      floats = length-take-le fronts.floats store.floats f.floats i;
      numbers = length-take-le fronts.numbers store.numbers f.numbers i;
      hashes = length-take-le fronts.hashes store.hashes f.hashes i;
      text = length-take-le fronts.text store.text f.text i;
    }

-- whole lists: nothing stands behind them
abbrev pub nothing : Store
nothing = store_of [] [] [] []

pub join_nothing : (store : Store) → store ≡ join_stores store nothing
join_nothing store =
    λ i. record {
      floats = sym (append-nil store.floats) i;
      numbers = sym (append-nil store.numbers) i;
      hashes = sym (append-nil store.hashes) i;
      text = sym (append-nil store.text) i;
    }

-- the lengths of joined lists
pub join_lengths : (front front' rest : Store) → lengths_of front ≡ lengths_of front' → lengths_of (join_stores front rest) ≡ lengths_of (join_stores front' rest)
join_lengths front front' rest l = sums front ∙ ap (λ (n : Lengths). add_lengths n (lengths_of rest)) l ∙ sym (sums front')
  where
    sums : (x : Store) → lengths_of (join_stores x rest) ≡ add_lengths (lengths_of x) (lengths_of rest)
    sums x =
        λ i. record {
          floats = length-append x.floats rest.floats i;
          numbers = length-append x.numbers rest.numbers i;
          hashes = length-append x.hashes rest.hashes i;
          text = length-append x.text rest.text i;
        }
