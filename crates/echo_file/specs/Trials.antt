-- 01's worked example as an echo file: its bytes, and what is decoded from them.
use Rattle.std.specs.Prelude.{ℕ, ◌≡◌, refl, List, [], ◌∷◌, ◌++◌}
use Rattle.echo_file.specs.declared.Known.{Known}
use Rattle.echo_file.specs.Format.{FileRecord, settings, vector, filtered, unfiltered, encode}
use Rattle.echo_file.specs.Decode.{none, found, decode}

-- what is known before settings, and after them
abbrev nothing : Known
nothing = record { dimension = 0 }

abbrev two : Known
two = record { dimension = 2 }

-- 'D 2, B 2, leaf size 1, ef 5, beam 4; 7: (1, 0) `a`; 8: (0, 2) `b`; 9: (3, 4) `a`; search k 4, `a`, (1, 0)'
abbrev given : FileRecord
given = settings 2 2 1 5 4

abbrev first : FileRecord
first = vector 7 ((0x61 ∷ []) ∷ []) (0x3F800000 ∷ 0 ∷ [])

abbrev second : FileRecord
second = vector 8 ((0x62 ∷ []) ∷ []) (0 ∷ 0x40000000 ∷ [])

abbrev third : FileRecord
third = vector 9 ((0x61 ∷ []) ∷ []) (0x40400000 ∷ 0x40800000 ∷ [])

abbrev asked : FileRecord
asked = filtered 4 (0x61 ∷ []) (0x3F800000 ∷ 0 ∷ [])

-- the bytes of a settings record, a vector and a search, as 01 names them
settings-bytes : encode given ≡ 0x5A ∷ 0x01 ∷ 2 ∷ 0 ∷ 0 ∷ 0 ∷ 2 ∷ 0 ∷ 0 ∷ 0 ∷ 1 ∷ 0 ∷ 0 ∷ 0 ∷ 5 ∷ 0 ∷ 0 ∷ 0 ∷ 4 ∷ 0 ∷ 0 ∷ 0 ∷ []
unfolding encode
settings-bytes = refl

vector-bytes : encode third
    ≡ 0x5A ∷ 0x02 ∷ 9 ∷ 0 ∷ 0 ∷ 0 ∷ 1 ∷ 1 ∷ 0x61 ∷ 0 ∷ 0 ∷ 0x40 ∷ 0x40 ∷ 0 ∷ 0 ∷ 0x80 ∷ 0x40 ∷ []
unfolding encode
vector-bytes = refl

filtered-bytes : encode asked ≡ 0x5A ∷ 0x04 ∷ 4 ∷ 0 ∷ 1 ∷ 0x61 ∷ 0 ∷ 0 ∷ 0x80 ∷ 0x3F ∷ 0 ∷ 0 ∷ 0 ∷ 0 ∷ []
unfolding encode
filtered-bytes = refl

unfiltered-bytes : encode (unfiltered 0x0102 (0x41C80000 ∷ [])) ≡ 0x5A ∷ 0x05 ∷ 2 ∷ 1 ∷ 0 ∷ 0 ∷ 0xC8 ∷ 0x41 ∷ []
unfolding encode
unfiltered-bytes = refl

-- The file is decoded record by record; each record is followed by the rest of the file. Before settings, D counts as 0.
abbrev after_third : List ℕ
unfolding encode
after_third = encode asked

abbrev after_second : List ℕ
unfolding encode
after_second = encode third ++ after_third

abbrev after_first : List ℕ
unfolding encode
after_first = encode second ++ after_second

abbrev after_settings : List ℕ
unfolding encode
after_settings = encode first ++ after_first

decoded_settings : decode nothing (encode given ++ after_settings) ≡ found given after_settings
unfolding encode decode after_settings after_first after_second after_third
decoded_settings = refl

decoded_first : decode two after_settings ≡ found first after_first
unfolding encode decode after_settings after_first after_second after_third
decoded_first = refl

decoded_second : decode two after_first ≡ found second after_second
unfolding encode decode after_first after_second after_third
decoded_second = refl

decoded_third : decode two after_second ≡ found third after_third
unfolding encode decode after_second after_third
decoded_third = refl

decoded_search : decode two after_third ≡ found asked []
unfolding encode decode after_third
decoded_search = refl

-- two labels, one of them empty; no label; a label of length 0 in a search
decoded_labels : decode two (0x5A ∷ 0x02 ∷ 7 ∷ 0 ∷ 0 ∷ 1 ∷ 2 ∷ 0 ∷ 2 ∷ 0x61 ∷ 0x62 ∷ 1 ∷ 0 ∷ 0 ∷ 0 ∷ 0 ∷ 0 ∷ 0 ∷ 2 ∷ 0x5A ∷ [])
    ≡ found (vector 0x01000007 ([] ∷ (0x61 ∷ 0x62 ∷ []) ∷ []) (1 ∷ 0x02000000 ∷ [])) (0x5A ∷ [])
unfolding decode
decoded_labels = refl

decoded_none : decode nothing (0x5A ∷ 0x02 ∷ 7 ∷ 0 ∷ 0 ∷ 0 ∷ 0 ∷ []) ≡ found (vector 7 [] []) []
unfolding decode
decoded_none = refl

decoded_empty : decode nothing (0x5A ∷ 0x04 ∷ 7 ∷ 0 ∷ 0 ∷ 9 ∷ []) ≡ found (filtered 7 [] []) (9 ∷ [])
unfolding decode
decoded_empty = refl

-- no record: no byte, one byte, another mark, a last byte that is missing
refused_end : decode two [] ≡ none
unfolding decode
refused_end = refl

refused_byte : decode two (0x5A ∷ []) ≡ none
unfolding decode
refused_byte = refl

refused_mark : decode nothing (0x5A ∷ 0x03 ∷ 7 ∷ 0 ∷ 0 ∷ 0 ∷ 0 ∷ []) ≡ none
unfolding decode
refused_mark = refl

refused_first : decode nothing (0x5B ∷ 0x05 ∷ 7 ∷ 0 ∷ []) ≡ none
unfolding decode
refused_first = refl

refused_cut : decode two (0x5A ∷ 0x05 ∷ 4 ∷ 0 ∷ 0 ∷ 0 ∷ 0x80 ∷ 0x3F ∷ 0 ∷ 0 ∷ 0 ∷ []) ≡ none
unfolding decode
refused_cut = refl
