-- The label hash: FNV-1a, 64 bits, by the rule of the FNV paper. 01, "Label hash".
use Rattle.std.specs.Prelude.{ℕ, ◌*◌, ◌%◌, ◌^◌, List, [], ◌∷◌, bit_xor}

-- The paper's two constants for 64 bits.
abbrev pub offset_basis : ℕ
offset_basis = 0xcbf29ce484222325

abbrev pub prime : ℕ
prime = 0x100000001b3

-- One byte: exclusive-or first, then the product, modulo 2 ^ 64.
unfoldable pub fnv_step : ℕ → ℕ → ℕ
fnv_step hash byte = (bit_xor hash byte * prime) % 2 ^ 64

-- Byte after byte. 02, K7: 'The label hash now starts from a value that the caller gives and answers the value after the last byte.'
unfoldable pub fnv_from : ℕ → List ℕ → ℕ
fnv_from hash [] = hash
fnv_from hash (byte ∷ bytes) = fnv_from (fnv_step hash byte) bytes

-- The hash of a whole name starts from the offset basis.
unfoldable pub fnv : List ℕ → ℕ
fnv bytes = fnv_from offset_basis bytes
