-- Waiting nodes and hits are kept as one number each. `<` on these is the order that document 01 names: of waiting nodes 'by distance in total order,
-- then number'; of hits by distance in total order, then document id, then vector number. Assumes nothing.
use Rattle.std.specs.Prelude.{ℕ, ◌+◌, ◌*◌, ◌^◌, ◌≤◌, ◌<◌, ◌≡◌, ◌⊎◌, ◌↔◌, false, T, Float}
use Rattle.std.proofs.Common.{arith, ap, ◌∙◌, inl, inr}
use Rattle.std.specs.Float.{binary32}
use Rattle.std.specs.Float.Ieee.{fits}
use Rattle.std.proofs.lemmas.Bool.{lt-leb}
use Rattle.lists.specs.Tests.{either}
use Rattle.record_queue.specs.SortedLaws.{le_or_lt}
use Rattle.total_order.specs.TotalOrder.{total_order, key_of}
use Rattle.total_order.specs.OrderLaws.{total_order-key, total_order_lt, key_of_injective}
use Rattle.walk.specs.Answer.{hit_of}

-- a distance comes before another in total order, or is the same, and then something decides
abbrev pub Before : Float → Float → Type 0 → Type 0
Before d d' then = (total_order d' d ≡ false) ⊎ ((d ≡ d') × then)

module _ (d d' : Float) (a : T (fits binary32 d)) (b : T (fits binary32 d')) where
  -- a smaller key is an earlier distance
  earlier : key_of d < key_of d' → total_order d' d ≡ false
  earlier h = total_order-key d' d b a ∙ lt-leb (key_of d') (key_of d) h

  -- waiting nodes: the key before the number
  pub waiting-order : (i i' : ℕ) → i < 2 ^ 64 → i' < 2 ^ 64 → (key_of d * 2 ^ 64 + i < key_of d' * 2 ^ 64 + i') ↔ Before d d' (i < i')
  waiting-order i i' low low' = (λ h. either (le_or_lt (key_of d') (key_of d)) (λ le. same h le) (λ less. inl (earlier less)), back)
    where
      same : key_of d * 2 ^ 64 + i < key_of d' * 2 ^ 64 + i' → key_of d' ≤ key_of d → Before d d' (i < i')
      same h le = inr (key_of_injective d d' a b (omega arith), omega arith)

      back : Before d d' (i < i') → key_of d * 2 ^ 64 + i < key_of d' * 2 ^ 64 + i'
      back (inl f) = let h : key_of d < key_of d' = total_order_lt d' d b a f in omega arith
      back (inr (e, h)) = let k : key_of d ≡ key_of d' = ap key_of e in omega arith

  -- hits: the key before the document id before the vector number
  pub hit-order : (document document' vector vector' : ℕ) → document < 2 ^ 32 → document' < 2 ^ 32 → vector < 2 ^ 32 → vector' < 2 ^ 32
      → (hit_of d document vector < hit_of d' document' vector') ↔ Before d d' ((document < document') ⊎ ((document ≡ document') × (vector < vector')))
  hit-order document document' vector vector' m m' v v' =
      (λ h. either (le_or_lt (key_of d') (key_of d)) (λ le. same h le) (λ less. inl (earlier less)), back)
    where
      same : hit_of d document vector < hit_of d' document' vector' → key_of d' ≤ key_of d
          → Before d d' ((document < document') ⊎ ((document ≡ document') × (vector < vector')))
      same h le =
          inr (
            key_of_injective d d' a b (omega arith),
            either (le_or_lt document' document) (λ l. inr (omega arith, omega arith)) (λ less. inl less),
          )

      back : Before d d' ((document < document') ⊎ ((document ≡ document') × (vector < vector'))) → hit_of d document vector < hit_of d' document' vector'
      back (inl f) = let h : key_of d < key_of d' = total_order_lt d' d b a f in omega arith
      back (inr (e, inl h)) = let k : key_of d ≡ key_of d' = ap key_of e in omega arith
      back (inr (e, inr (s, h))) = let k : key_of d ≡ key_of d' = ap key_of e in omega arith
