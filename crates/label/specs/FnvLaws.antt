-- Laws of the label hash, and a form of it that computes on numerals.
use Rattle.std.specs.Prelude.{◌≡◌, ℕ, ◌+◌, ◌*◌, ◌/◌, ◌%◌, ◌^◌, ◌<◌, Bool, true, false, ◌&&◌, T, List, [], ◌∷◌, ◌++◌, bit_xor, nat_lt, refl}
use Rattle.std.proofs.Common.{sym, ap, ap₂, ◌∙◌, mod-lt, zero-add, ltb→lt, lit<, pow_pos}
use Rattle.std.proofs.lemmas.Nat.{xor_block}
use Rattle.std.specs.Int.Bits.{xor_zero_r}
use Rattle.std.proofs.Math.Pow.{are_bytes, split}
use Rattle.label.specs.Fnv.{offset_basis, prime, fnv_step, fnv_from, fnv}

-- ---- names in two parts

pub fnv_from-append : (start : ℕ) (a b : List ℕ) → fnv_from start (a ++ b) ≡ fnv_from (fnv_from start a) b
unfolding fnv_from
fnv_from-append start [] b = refl
fnv_from-append start (x ∷ a) b = fnv_from-append (fnv_step start x) a b

-- ---- bounds

-- A hash has 64 bits.
pub fnv_step-bound : (hash byte : ℕ) → fnv_step hash byte < 2 ^ 64
unfolding fnv_step
fnv_step-bound hash byte = mod-lt (bit_xor hash byte * prime) (pow_pos 64)

pub fnv_from-bound : (start : ℕ) (bytes : List ℕ) → start < 2 ^ 64 → fnv_from start bytes < 2 ^ 64
unfolding fnv_from
fnv_from-bound start [] h = h
fnv_from-bound start (x ∷ bytes) h = fnv_from-bound (fnv_step start x) bytes (fnv_step-bound start x)

pub fnv-bound : (bytes : List ℕ) → fnv bytes < 2 ^ 64
unfolding fnv
fnv-bound bytes = fnv_from-bound offset_basis bytes (lit< tt)

-- ---- the form that computes: a byte changes the low byte alone

unfoldable pub xor_byte : ℕ → ℕ → ℕ
xor_byte hash byte = hash / 2 ^ 8 * 2 ^ 8 + bit_xor (hash % 2 ^ 8) byte

unfoldable pub fnv_bytes : ℕ → List ℕ → ℕ
unfolding xor_byte
fnv_bytes hash [] = hash
fnv_bytes hash (byte ∷ bytes) = fnv_bytes (xor_byte hash byte * prime % 2 ^ 64) bytes

-- It is the rule, for any bytes.
pub xor_byte-is : (hash byte : ℕ) → byte < 2 ^ 8 → xor_byte hash byte ≡ bit_xor hash byte
unfolding xor_byte
xor_byte-is hash byte h =
    sym
    (ap₂ bit_xor (sym (split hash 8)) (sym (zero-add byte))
    ∙ xor_block 8 (hash / 2 ^ 8) 0 (hash % 2 ^ 8) byte (mod-lt hash (pow_pos 8)) h
    ∙ ap (λ (x : ℕ). x * 2 ^ 8 + bit_xor (hash % 2 ^ 8) byte) (xor_zero_r (hash / 2 ^ 8)))

both : (a b : Bool) → T (a && b) → T a × T b
both true b h = (tt, h)
both false b h = absurd h

pub fnv_bytes-is : (start : ℕ) (bytes : List ℕ) → T (are_bytes bytes) → fnv_bytes start bytes ≡ fnv_from start bytes
unfolding fnv_bytes fnv_from fnv_step
fnv_bytes-is start [] h = refl
fnv_bytes-is start (x ∷ bytes) h =
    let (small, rest) = both (nat_lt x 256) (are_bytes bytes) h in
    ap (λ (y : ℕ). fnv_bytes (y * prime % 2 ^ 64) bytes) (xor_byte-is start x (ltb→lt x 256 small))
    ∙ fnv_bytes-is (bit_xor start x * prime % 2 ^ 64) bytes rest

pub fnv_computes : (bytes : List ℕ) → T (are_bytes bytes) → fnv bytes ≡ fnv_bytes offset_basis bytes
unfolding fnv
fnv_computes bytes h = sym (fnv_bytes-is offset_basis bytes h)
