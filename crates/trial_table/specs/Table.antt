-- Document 01, 'Trial echoes': 'Bold cases are proved together, one theorem for the table, over the definitions'. Each field quotes its line.
use Rattle.std.specs.Prelude.{ℕ, true, false, List, [], ◌∷◌, ◌++◌, map, ◌≡◌, refl, Float}
use Rattle.std.proofs.Common.{subst}
use Rattle.std.specs.Float.{binary32}
use Rattle.std.specs.Float.Ieee.{of_bits, to_bits, fits}
use Rattle.square_root.specs.Root.{Root}
use Rattle.square_root.specs.RootForms.{root_of, root_of-root}
use Rattle.vector.specs.Vector.{dot, divided_by, Normalized}
use Rattle.vector.specs.Normalized.{normalized, normalized-holds}
use Rattle.distance.specs.Distance.{distance}
use Rattle.total_order.specs.TotalOrder.{total_order}
use Rattle.label.specs.Fnv.{fnv, fnv_from, fnv_step}
use Rattle.bloom.specs.Filter.{first_bit, second_bit}
use Rattle.tree.specs.Tree.{tree_of, size, sizes}
use Rattle.echo_file.specs.Format.{settings, vector, filtered, encode}
use Rattle.text.specs.Digits.{decimal_of, hex_of, last_digits, digit_places, tens, digit_char}
use Rattle.text.specs.Lines.{codes, hit_line_at, hit_line, number_end, closing_word, refused_word}
use Rattle.load.specs.File.{file_text}

-- floats by their bits
abbrev floats : List ℕ → List Float
floats bits = map (of_bits binary32) bits

-- 'D 2, B 2, leaf size 1, ef 5, beam 4; 7: (1, 0) `a`; 8: (0, 2) `b`; 9: (3, 4) `a`; search k 4, `a`, (1, 0)', as an echo file, with an `ef_search`
unfoldable pub example : ℕ → List ℕ
unfolding encode
example ef =
    encode (settings 2 2 1 ef 4) ++ encode (vector 7 ((97 ∷ []) ∷ []) (0x3F800000 ∷ 0 ∷ [])) ++ encode (vector 8 ((98 ∷ []) ∷ []) (0 ∷ 0x40000000 ∷ []))
    ++ encode (vector 9 ((97 ∷ []) ∷ []) (0x40400000 ∷ 0x40800000 ∷ []))
    ++ encode (filtered 4 (97 ∷ []) (0x3F800000 ∷ 0 ∷ []))

-- what is stored of its three vectors
abbrev stored : List (List Float)
stored = floats (0x3F800000 ∷ 0 ∷ []) ∷ floats (0 ∷ 0x3F800000 ∷ []) ∷ floats (0x3F19999A ∷ 0x3F4CCCCD ∷ []) ∷ []

pub record Table : Type 0 where
  -- 'Empty label: cbf29ce484222325, filter bits 37 and 196. Hash 2^32: 0 and 185. Hash 257: 1 and 0.'
  pub empty_label : (fnv [] ≡ 0xcbf29ce484222325) × (first_bit 0xcbf29ce484222325 ≡ 37) × (second_bit 0xcbf29ce484222325 ≡ 196)
  pub hash_2^32 : (first_bit 0x100000000 ≡ 0) × (second_bit 0x100000000 ≡ 185)
  pub hash_257 : (first_bit 257 ≡ 1) × (second_bit 257 ≡ 0)
  -- 'Root of 25 is 5; of 2 has bits 3FB504F3.'
  pub root_of_25 : Root (of_bits binary32 0x41C80000) (of_bits binary32 0x40A00000)
  pub root_of_2 : Root (of_bits binary32 0x40000000) (of_bits binary32 0x3FB504F3)
  -- 'Norm bits 2EDBE6FF: undivided. 2EDBE700: divided.'
  pub undivided : divided_by (of_bits binary32 0x2EDBE6FF) (floats (0x2EDBE6FF ∷ [])) ≡ floats (0x2EDBE6FF ∷ [])
  pub divided : divided_by (of_bits binary32 0x2EDBE700) (floats (0x2EDBE700 ∷ [])) ≡ floats (0x3F800000 ∷ [])
  -- '(3, 4) is stored as 3F19999A 3F4CCCCD; from (1, 0) its distance is 3ECCCCCC.'
  pub three_four :
      let v = floats (0x40400000 ∷ 0x40800000 ∷ []) in
      Normalized (dot v v) v (floats (0x3F19999A ∷ 0x3F4CCCCD ∷ []))
  pub away : to_bits binary32 (distance (floats (0x3F800000 ∷ 0 ∷ [])) (floats (0x3F19999A ∷ 0x3F4CCCCD ∷ []))) ≡ 0x3ECCCCCC
  -- '-0.0 comes before +0.0.'
  pub zeros : (total_order (of_bits binary32 0x80000000) (of_bits binary32 0) ≡ true) × (total_order (of_bits binary32 0) (of_bits binary32 0x80000000) ≡ false)
  -- 'Five nodes.'
  pub five_nodes : size (tree_of (record { dimension = 2; branching = 2; leaf_size = 1 }) stored) ≡ 5
  -- 'Printed:'
  pub whole : file_text (example 5) ≡ codes "7 00000000\n9 3ecccccc\nwhole 5\n"
  -- 'ef 0: `cut 0` alone. ef 2: 7, `cut 2`. ef 4: 7 and 9, `cut 4`.'
  pub ef_0 : file_text (example 0) ≡ codes "cut 0\n"
  pub ef_2 : file_text (example 2) ≡ codes "7 00000000\ncut 2\n"
  pub ef_4 : file_text (example 4) ≡ codes "7 00000000\n9 3ecccccc\ncut 4\n"

root_25 : Root (of_bits binary32 0x41C80000) (root_of (of_bits binary32 0x41C80000))
unfolding of_bits fits
root_25 = root_of-root (of_bits binary32 0x41C80000) tt

root_2 : Root (of_bits binary32 0x40000000) (root_of (of_bits binary32 0x40000000))
unfolding of_bits fits
root_2 = root_of-root (of_bits binary32 0x40000000) tt

root-bits : (root_of (of_bits binary32 0x41C80000) ≡ of_bits binary32 0x40A00000) × (root_of (of_bits binary32 0x40000000) ≡ of_bits binary32 0x3FB504F3)
unfolding root_of of_bits
root-bits = (refl, refl)

three_four-bits : normalized (floats (0x40400000 ∷ 0x40800000 ∷ [])) ≡ floats (0x3F19999A ∷ 0x3F4CCCCD ∷ [])
unfolding normalized of_bits
three_four-bits = refl

pub table : Table
unfolding fnv fnv_from fnv_step divided_by distance total_order of_bits to_bits tree_of size sizes file_text example hit_line_at hit_line number_end closing_word refused_word codes decimal_of hex_of last_digits digit_places tens digit_char
table =
    record {
      empty_label = (refl, refl, refl);
      hash_2^32 = (refl, refl);
      hash_257 = (refl, refl);
      root_of_25 = subst (Root (of_bits binary32 0x41C80000)) root-bits.0 root_25;
      root_of_2 = subst (Root (of_bits binary32 0x40000000)) root-bits.1 root_2;
      undivided = refl;
      divided = refl;
      three_four =
          let v = floats (0x40400000 ∷ 0x40800000 ∷ []) in
          subst (Normalized (dot v v) v) three_four-bits (normalized-holds v);
      away = refl;
      zeros = (refl, refl);
      five_nodes = refl;
      whole = refl;
      ef_0 = refl;
      ef_2 = refl;
      ef_4 = refl;
    }
