-- 02, K6: the laws of pooling and of inserting, in one record. "Shown for all filters": they hold of lists of words of any length; a filter of an index has
-- four.
use mathlib.Core.List.{List, Permᴰ}
use Rattle.std.specs.Prelude.{◌≡◌, ℕ}
use Rattle.bloom.specs.Filter.{insert_hash, union, insert_all}
use Rattle.bloom.proofs.FilterLaws.{union_assoc, union_comm, union_self}
use Rattle.bloom.proofs.PoolLaws.{insert_pool, insert_all_perm}

pub record Pooling : Type 0 where
  -- "pooling is associative and commutative"
  pub associative : (f g h : List ℕ) → union (union f g) h ≡ union f (union g h)
  pub commutative : (f g : List ℕ) → union f g ≡ union g f
  -- "a filter pooled with itself is itself"
  pub idempotent : (f : List ℕ) → union f f ≡ f
  -- "inserting a hash distributes over pooling"
  pub distributes : (f g : List ℕ) (hash : ℕ) → insert_hash (union f g) hash ≡ union (insert_hash f hash) (insert_hash g hash)
  -- "inserting in any order gives one filter"
  pub any_order : (f xs ys : List ℕ) → Permᴰ xs ys → insert_all f xs ≡ insert_all f ys

pub pooling : Pooling
pooling =
    record {
      associative = union_assoc;
      commutative = union_comm;
      idempotent = union_self;
      distributes = insert_pool;
      any_order = λ f xs ys p. insert_all_perm p f;
    }
