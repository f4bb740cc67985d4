-- A value beside document 01's trial echoes (those are crates/trial_table/specs/Table.antt), computed from the definition.
use Rattle.std.specs.Prelude.{◌≡◌, refl, true, ltb}
use Rattle.std.specs.Float.{binary32}
use Rattle.std.specs.Float.Ieee.{of_bits, to_bits}
use Rattle.total_order.specs.TotalOrder.{key_of}

-- the key of -0.0 is below that of +0.0
zeros : ltb (key_of (of_bits binary32 0x80000000)) (key_of (of_bits binary32 0)) ≡ true
unfolding key_of of_bits to_bits
zeros = refl
