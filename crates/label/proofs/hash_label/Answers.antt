use Rattle.std.proofs.Common.{◌≡◌, ℕ, ◌+◌, ◌<◌, ◌≤◌, List, length, get_or, drop, sym, ap, ◌∙◌, add-one, drop_of_length-le, drop-cons}
use Rattle.label.specs.Fnv.{fnv_from, fnv_step}
use Rattle.label.proofs.hash_label.Goals as goal

-- one byte on
advance : (bytes : List ℕ) (hash i : ℕ) → i < length bytes → fnv_from (fnv_step hash (get_or bytes i 0)) (drop (i + 1) bytes) ≡ fnv_from hash (drop i bytes)
unfolding fnv_from
advance bytes hash i h = rw (add-one, drop-cons bytes i 0)

-- none left
finish : (bytes : List ℕ) (hash i : ℕ) → length bytes ≤ i → fnv_from hash (drop i bytes) ≡ hash
unfolding fnv_from
finish bytes hash i h = rw drop_of_length-le

pub loop-byte-preserved : goal.loop-byte-preserved
loop-byte-preserved c =
    let bytes = c.args.bytes.now in
    let loop = c.loop-byte in
    let i = loop.byte-index in
    ap (λ (h : ℕ). fnv_from h (drop (i + 1) bytes)) c.hash_byte-hash.ensures ∙ advance bytes loop.hash i c.loop-byte-test.true ∙ loop.invariant

pub returns : goal.returns
returns c = sym (finish c.args.bytes.now c.loop-byte.hash c.loop-byte.byte-index c.loop-byte-test.false) ∙ c.loop-byte.invariant
