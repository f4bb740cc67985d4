-- The decoder is the format's: it finds a record and a rest exactly if the bytes begin with that record and go on with that rest.
-- Each record is a row of parts, each of a length that the parts before it give; so bytes are cut into its parts in one way only.
use Rattle.lists.specs.Parts.{length-pieces}
use Rattle.std.specs.Prelude.{ℕ, ◌*◌, ◌^◌, ◌≤◌, ◌<◌, ◌≡◌, refl, ◌↔◌, Bool, true, false, cond, List, [], ◌∷◌, ◌++◌, map, length, get_or, take, drop, eqb, leb}
use Rattle.std.proofs.Common.{sym, ap, ap₂, ◌∙◌, subst, append_assoc, append-nil, arith, length-append, take-append-drop, take_at, drop_at, length-take-le, leb-true, le-leb, eqb-true}
use Rattle.std.proofs.lemmas.List.{length-map}
use Rattle.lists.specs.Counting.{get_d_Memᴰ}
use Rattle.echo_file.specs.declared.Known.{Known}
use Rattle.echo_file.specs.Format.{FileRecord, settings, vector, filtered, unfiltered, mark, number_bytes, fours, label_bytes, encode, Each, Bytes, Floats, Fits, Begins}
use Rattle.echo_file.specs.Decode.{Decoded, none, found, and_then, split, bytes_value, counted, numbers, settings_of, decode_settings, decode_vector, decode_filtered, decode_unfiltered, decode_after, decode}
use Rattle.lists.specs.Lists.{pieces, total}
use Rattle.echo_file.specs.FieldLaws.{each_cons, each_nil, bytes_take, bytes_drop, length-number, value-number, number-bytes, value-below, length-fours, length-numbers, numbers-fours, fours-numbers, numbers-width, length-label_bytes, pieces-label_bytes, label_bytes-pieces, lengths-pieces, each_label}

-- ---- one part

-- the part and the rest
pub split-append : (n : ℕ) (front rest : List ℕ) → length front ≡ n → split n (front ++ rest) ≡ found front rest
unfolding split
split-append n front rest e =
    let h : n ≤ length (front ++ rest) = rw length-append (omega arith) in
    rw (le-leb n (length (front ++ rest)) h, take_at front rest n e, drop_at front rest n e)

step : {B : Type 0} (n : ℕ) (front rest : List ℕ) (next : List ℕ → List ℕ → Decoded B) → length front ≡ n
    → and_then (split n (front ++ rest)) next ≡ next front rest
unfolding and_then
step n front rest next e = rw (split-append n front rest e)

-- a count and the bytes that it counts
step-counted : {B : Type 0} (n : ℕ) (front rest : List ℕ) (next : List ℕ → List ℕ → Decoded B) → length front ≡ n → n < 256
    → and_then (counted (number_bytes 1 n ++ (front ++ rest))) next ≡ next front rest
unfolding counted and_then
step-counted n front rest next e h =
    ap (λ (d : Decoded (List ℕ)). and_then d next)
    (step 1 (number_bytes 1 n) (front ++ rest) (λ count r. split (bytes_value count) r) (length-number 1 n)
    ∙ ap (λ (k : ℕ). split k (front ++ rest)) (value-number 1 n h)
    ∙ split-append n front rest e)

-- ---- the parts of each record

settings-parts : (d b l e w : ℕ) (rest : List ℕ)
    → encode (settings d b l e w) ++ rest ≡ mark 0x01 ++ (fours (d ∷ b ∷ l ∷ e ∷ w ∷ []) ++ rest)
unfolding encode
settings-parts d b l e w rest = append_assoc (mark 0x01) (fours (d ∷ b ∷ l ∷ e ∷ w ∷ [])) rest

vector-parts : (document : ℕ) (labels : List (List ℕ)) (patterns rest : List ℕ)
    → encode (vector document labels patterns) ++ rest
    ≡ mark 0x02 ++ (number_bytes 4 document ++ (number_bytes 1 (length labels) ++ (map length labels ++ (label_bytes labels ++ (fours patterns ++ rest)))))
unfolding encode
vector-parts document labels patterns rest = simp append_assoc

filtered-parts : (k : ℕ) (label patterns rest : List ℕ)
    → encode (filtered k label patterns) ++ rest ≡ mark 0x04 ++ (number_bytes 2 k ++ (number_bytes 1 (length label) ++ (label ++ (fours patterns ++ rest))))
unfolding encode
filtered-parts k label patterns rest = simp append_assoc

unfiltered-parts : (k : ℕ) (patterns rest : List ℕ)
    → encode (unfiltered k patterns) ++ rest ≡ mark 0x05 ++ (number_bytes 2 k ++ (fours patterns ++ rest))
unfolding encode
unfiltered-parts k patterns rest = simp append_assoc

-- ---- what is written is found

four-numbers : (known : Known) (patterns : List ℕ) → Floats known patterns → length (fours patterns) ≡ 4 * known.dimension
four-numbers known patterns h = length-fours patterns ∙ ap (λ (n : ℕ). 4 * n) h.count

floats_back : (known : Known) (patterns : List ℕ) → Floats known patterns → numbers known.dimension (fours patterns) ≡ patterns
floats_back known patterns h =
    ap₂ numbers (sym h.count) (sym (append-nil (fours patterns))) ∙ numbers-fours patterns [] h.width

after-mark : (known : Known) (second : ℕ) (rest : List ℕ) → decode known (mark second ++ rest) ≡ decode_after known (bytes_value (mark second)) rest
unfolding decode mark
after-mark known second rest = step 2 (mark second) rest (λ m r. decode_after known (bytes_value m) r) refl

complete-settings : (known : Known) (d b l e w : ℕ) (rest : List ℕ) → Fits known (settings d b l e w)
    → decode_settings (fours (d ∷ b ∷ l ∷ e ∷ w ∷ []) ++ rest) ≡ found (settings d b l e w) rest
unfolding decode_settings settings_of
complete-settings known d b l e w rest h =
    let P : ℕ → Type 0 = λ n. n < 2 ^ 32 in
    let all : Each P (d ∷ b ∷ l ∷ e ∷ w ∷ []) =
    each_cons P d _ h.0 (each_cons P b _ h.1 (each_cons P l _ h.2 (each_cons P e _ h.3 (each_cons P w _ h.4 (each_nil P))))) in
    let five = d ∷ b ∷ l ∷ e ∷ w ∷ [] in
    let back : numbers 5 (fours five) ≡ five = ap (numbers 5) (sym (append-nil (fours five))) ∙ numbers-fours five [] all in
    step 20 (fours five) rest _ (length-fours five) ∙ ap (λ (ns : List ℕ). found (settings_of ns) rest) back

same-vector : {d d' : ℕ} {l l' : List (List ℕ)} {p p' : List ℕ} (rest : List ℕ) → d ≡ d' → l ≡ l' → p ≡ p'
    → found (vector d l p) rest ≡ found (vector d' l' p') rest
same-vector rest a b c = cc

same-filtered : {k k' : ℕ} (l : List ℕ) {p p' : List ℕ} (rest : List ℕ) → k ≡ k' → p ≡ p'
    → found (filtered k l p) rest ≡ found (filtered k' l p') rest
same-filtered l rest a b = cc

same-unfiltered : {k k' : ℕ} {p p' : List ℕ} (rest : List ℕ) → k ≡ k' → p ≡ p'
    → found (unfiltered k p) rest ≡ found (unfiltered k' p') rest
same-unfiltered rest a b = cc

complete-vector : (known : Known) (document : ℕ) (labels : List (List ℕ)) (patterns rest : List ℕ) → Fits known (vector document labels patterns)
    → decode_vector known (number_bytes 4 document ++ (number_bytes 1 (length labels) ++ (map length labels ++ (label_bytes labels ++ (fours patterns ++ rest)))))
    ≡ found (vector document labels patterns) rest
unfolding decode_vector
complete-vector known document labels patterns rest h =
    step 4 (number_bytes 4 document) _ _ (length-number 4 document)
    ∙ step-counted (length labels) (map length labels) _ _ (length-map labels length) h.1
    ∙ step _ (label_bytes labels) _ _ (length-label_bytes labels)
    ∙ step _ (fours patterns) rest _ (four-numbers known patterns h.3)
    ∙ same-vector rest (value-number 4 document h.0) (pieces-label_bytes labels) (floats_back known patterns h.3)

complete-filtered : (known : Known) (k : ℕ) (label patterns rest : List ℕ) → Fits known (filtered k label patterns)
    → decode_filtered known (number_bytes 2 k ++ (number_bytes 1 (length label) ++ (label ++ (fours patterns ++ rest)))) ≡ found (filtered k label patterns) rest
unfolding decode_filtered
complete-filtered known k label patterns rest h =
    step 2 (number_bytes 2 k) _ _ (length-number 2 k)
    ∙ step-counted (length label) label _ _ refl h.1.short
    ∙ step _ (fours patterns) rest _ (four-numbers known patterns h.2)
    ∙ same-filtered label rest (value-number 2 k h.0) (floats_back known patterns h.2)

complete-unfiltered : (known : Known) (k : ℕ) (patterns rest : List ℕ) → Fits known (unfiltered k patterns)
    → decode_unfiltered known (number_bytes 2 k ++ (fours patterns ++ rest)) ≡ found (unfiltered k patterns) rest
unfolding decode_unfiltered
complete-unfiltered known k patterns rest h =
    step 2 (number_bytes 2 k) _ _ (length-number 2 k)
    ∙ step _ (fours patterns) rest _ (four-numbers known patterns h.1)
    ∙ same-unfiltered rest (value-number 2 k h.0) (floats_back known patterns h.1)

-- A record that fits is found at the front of its bytes, with what comes after them.
pub complete : (known : Known) (r : FileRecord) (rest : List ℕ) → Fits known r → decode known (encode r ++ rest) ≡ found r rest
unfolding decode_after mark bytes_value
complete known (settings d b l e w) rest h =
    ap (decode known) (settings-parts d b l e w rest) ∙ after-mark known 0x01 _ ∙ complete-settings known d b l e w rest h
complete known (vector document labels patterns) rest h =
    ap (decode known) (vector-parts document labels patterns rest) ∙ after-mark known 0x02 _ ∙ complete-vector known document labels patterns rest h
complete known (filtered k label patterns) rest h =
    ap (decode known) (filtered-parts k label patterns rest) ∙ after-mark known 0x04 _ ∙ complete-filtered known k label patterns rest h
complete known (unfiltered k patterns) rest h =
    ap (decode known) (unfiltered-parts k patterns rest) ∙ after-mark known 0x05 _ ∙ complete-unfiltered known k patterns rest h

-- ---- what is found was written

-- what is decoded is none, or a record that the bytes begin with
data Sound (known : Known) (bytes : List ℕ) : Decoded FileRecord → Type 0 where
  nothing : Sound known bytes none
  something : {r : FileRecord} {rest : List ℕ} → Begins known bytes r rest → Sound known bytes (found r rest)

-- one part: whatever is made of the part and the rest is sound, so long as the part and the rest are the bytes
sound-part : (known : Known) (all : List ℕ) (n : ℕ) (bytes : List ℕ) (next : List ℕ → List ℕ → Decoded FileRecord) → Bytes bytes
    → ((front rest : List ℕ) → length front ≡ n → bytes ≡ front ++ rest → Bytes front → Bytes rest → Sound known all (next front rest))
    → Sound known all (and_then (split n bytes) next)
unfolding and_then split
sound-part known all n bytes next h go = pick (leb n (length bytes)) refl
  where
    pick : (b : Bool) → leb n (length bytes) ≡ b → Sound known all (and_then (cond b (found (take n bytes) (drop n bytes)) none) next)
    pick false e = nothing
    pick true e =
        go (take n bytes) (drop n bytes) (length-take-le n bytes (leb-true n (length bytes) e)) (sym (take-append-drop n bytes))
        (bytes_take n bytes h) (bytes_drop n bytes h)

and_then_assoc : {A B C : Type 0} (d : Decoded A) (f : A → List ℕ → Decoded B) (g : B → List ℕ → Decoded C)
    → and_then (and_then d f) g ≡ and_then d (λ a rest. and_then (f a rest) g)
unfolding and_then
and_then_assoc none f g = refl
and_then_assoc (found a rest) f g = refl

-- a count and the bytes that it counts
sound-counted : (known : Known) (all bytes : List ℕ) (next : List ℕ → List ℕ → Decoded FileRecord) → Bytes bytes
    → ((front rest : List ℕ) → length front < 256 → bytes ≡ number_bytes 1 (length front) ++ (front ++ rest) → Bytes front → Bytes rest
    → Sound known all (next front rest))
    → Sound known all (and_then (counted bytes) next)
unfolding counted
sound-counted known all bytes next h go =
    subst (Sound known all) (sym (and_then_assoc (split 1 bytes) (λ count rest. split (bytes_value count) rest) next))
    (sound-part known all 1 bytes _ h (λ count r1 e1 q1 b1 h1.
    sound-part known all (bytes_value count) r1 next h1 (λ front rest e2 q2 b2 h2.
    let short : bytes_value count < 256 = value-below 1 count b1 e1 in
    let count_is : number_bytes 1 (length front) ≡ count = ap (number_bytes 1) e2 ∙ number-bytes 1 count b1 e1 in
    go front rest (omega arith) (rw (count_is, q1, q2)) b2 h2)))

floats-found : (known : Known) (bytes : List ℕ) → Bytes bytes → length bytes ≡ 4 * known.dimension → Floats known (numbers known.dimension bytes)
floats-found known bytes h e = record { count = length-numbers known.dimension bytes; width = numbers-width known.dimension bytes h e }

settings-found : (known : Known) (bytes five rest : List ℕ) → length five ≡ 20 → bytes ≡ five ++ rest → Bytes five
    → Begins known (mark 0x01 ++ bytes) (settings_of (numbers 5 five)) rest
unfolding settings_of numbers
settings-found known bytes five rest e q h =
    let at : (k : ℕ) → k < 5 → get_or (numbers 5 five) k 0 < 2 ^ 32 =
    λ k l. numbers-width 5 five h e (get_or (numbers 5 five) k 0) (get_d_Memᴰ (numbers 5 five) k 0 (rw length-numbers l)) in
    let back : fours (numbers 5 five) ≡ five = fours-numbers 5 five h e in
    record {
      fits = (at 0 (omega arith), at 1 (omega arith), at 2 (omega arith), at 3 (omega arith), at 4 (omega arith));
      split =
          ap (λ (l : List ℕ). mark 0x01 ++ l) (q ∙ ap (λ (l : List ℕ). l ++ rest) (sym back))
          ∙ sym (settings-parts (get_or (numbers 5 five) 0 0) (get_or (numbers 5 five) 1 0) (get_or (numbers 5 five) 2 0) (get_or (numbers 5 five) 3 0)
          (get_or (numbers 5 five) 4 0) rest);
    }

sound-settings : (known : Known) (bytes : List ℕ) → Bytes bytes → Sound known (mark 0x01 ++ bytes) (decode_settings bytes)
unfolding decode_settings
sound-settings known bytes h =
    sound-part known (mark 0x01 ++ bytes) 20 bytes _ h (λ five rest e q hf hr. something (settings-found known bytes five rest e q hf))

sound-vector : (known : Known) (bytes : List ℕ) → Bytes bytes → Sound known (mark 0x02 ++ bytes) (decode_vector known bytes)
unfolding decode_vector
sound-vector known bytes h =
    let all = mark 0x02 ++ bytes in
    sound-part known all 4 bytes _ h (λ document r1 e1 q1 b1 h1.
    sound-counted known all r1 _ h1 (λ lengths r2 short q2 b2 h2.
    sound-part known all (total lengths) r2 _ h2 (λ labels r3 e3 q3 b3 h3.
    sound-part known all (4 * known.dimension) r3 _ h3 (λ floats rest e4 q4 b4 h4.
    let c : length (pieces lengths labels) ≡ length lengths = length-pieces lengths labels in
    something (record {
      fits = (value-below 4 document b1 e1, omega arith, each_label lengths labels b2 b3 e3, floats-found known floats b4 e4);
      split =
          rw (
            vector-parts (bytes_value document) (pieces lengths labels) (numbers known.dimension floats) rest,
            number-bytes 4 document b1 e1,
            c,
            lengths-pieces lengths labels e3,
            label_bytes-pieces lengths labels e3,
            fours-numbers known.dimension floats b4 e4,
            q1,
            q2,
            q3,
            q4,
          );
    })))))

sound-filtered : (known : Known) (bytes : List ℕ) → Bytes bytes → Sound known (mark 0x04 ++ bytes) (decode_filtered known bytes)
unfolding decode_filtered
sound-filtered known bytes h =
    let all = mark 0x04 ++ bytes in
    sound-part known all 2 bytes _ h (λ k r1 e1 q1 b1 h1.
    sound-counted known all r1 _ h1 (λ label r2 short q2 b2 h2.
    sound-part known all (4 * known.dimension) r2 _ h2 (λ floats rest e3 q3 b3 h3.
    something (record {
      fits = (value-below 2 k b1 e1, record { short = short; bytes = b2 }, floats-found known floats b3 e3);
      split =
          rw (
            filtered-parts (bytes_value k) label (numbers known.dimension floats) rest,
            number-bytes 2 k b1 e1,
            fours-numbers known.dimension floats b3 e3,
            q1,
            q2,
            q3,
          );
    }))))

sound-unfiltered : (known : Known) (bytes : List ℕ) → Bytes bytes → Sound known (mark 0x05 ++ bytes) (decode_unfiltered known bytes)
unfolding decode_unfiltered
sound-unfiltered known bytes h =
    let all = mark 0x05 ++ bytes in
    sound-part known all 2 bytes _ h (λ k r1 e1 q1 b1 h1.
    sound-part known all (4 * known.dimension) r1 _ h1 (λ floats rest e2 q2 b2 h2.
    something (record {
      fits = (value-below 2 k b1 e1, floats-found known floats b2 e2);
      split =
          rw (
            unfiltered-parts (bytes_value k) (numbers known.dimension floats) rest,
            number-bytes 2 k b1 e1,
            fours-numbers known.dimension floats b2 e2,
            q1,
            q2,
          );
    })))

-- the kinds, by the number of the mark
sound-after : (known : Known) (front rest : List ℕ) → Bytes front → length front ≡ 2 → Bytes rest
    → Sound known (front ++ rest) (decode_after known (bytes_value front) rest)
unfolding decode_after mark number_bytes
sound-after known front rest h e hr =
    go (eqb (bytes_value front) 0x015A) (eqb (bytes_value front) 0x025A) (eqb (bytes_value front) 0x045A) (eqb (bytes_value front) 0x055A) refl refl refl refl
  where
    at : (second n : ℕ) {d : Decoded FileRecord} → number_bytes 2 n ≡ mark second → eqb (bytes_value front) n ≡ true → Sound known (mark second ++ rest) d
        → Sound known (front ++ rest) d
    at second n {d} m v =
        subst (λ (l : List ℕ). Sound known (l ++ rest) d) (sym m ∙ ap (number_bytes 2) (sym (eqb-true (bytes_value front) n v)) ∙ number-bytes 2 front h e)

    go : (a b c d : Bool) → eqb (bytes_value front) 0x015A ≡ a → eqb (bytes_value front) 0x025A ≡ b → eqb (bytes_value front) 0x045A ≡ c → eqb (bytes_value front) 0x055A ≡ d
        → Sound known (front ++ rest)
        (cond a decode_settings (cond b (decode_vector known) (cond c (decode_filtered known) (cond d (decode_unfiltered known) (λ bytes. none)))) rest)
    go true b c d v _ _ _ = at 0x01 0x015A refl v (sound-settings known rest hr)
    go false true c d _ v _ _ = at 0x02 0x025A refl v (sound-vector known rest hr)
    go false false true d _ _ v _ = at 0x04 0x045A refl v (sound-filtered known rest hr)
    go false false false true _ _ _ v = at 0x05 0x055A refl v (sound-unfiltered known rest hr)
    go false false false false _ _ _ _ = nothing

sound-decode : (known : Known) (bytes : List ℕ) → Bytes bytes → Sound known bytes (decode known bytes)
unfolding decode
sound-decode known bytes h =
    sound-part known bytes 2 bytes _ h (λ front rest e q hf hr.
    subst (λ (l : List ℕ). Sound known l (decode_after known (bytes_value front) rest)) (sym q) (sound-after known front rest hf e hr))

-- What is found begins the bytes.
pub sound : (known : Known) (bytes : List ℕ) (r : FileRecord) (rest : List ℕ) → Bytes bytes → decode known bytes ≡ found r rest → Begins known bytes r rest
sound known bytes r rest h e = take_out (subst (Sound known bytes) e (sound-decode known bytes h))
  where
    take_out : Sound known bytes (found r rest) → Begins known bytes r rest
    take_out (something b) = b

-- What begins the bytes is found.
pub finds : (known : Known) (bytes : List ℕ) (r : FileRecord) (rest : List ℕ) → Begins known bytes r rest → decode known bytes ≡ found r rest
finds known bytes r rest b = ap (decode known) b.split ∙ complete known r rest b.fits

-- `decode` finds a record and a rest exactly if the bytes begin with that record and go on with that rest.
pub found_exactly : (known : Known) (bytes : List ℕ) (r : FileRecord) (rest : List ℕ) → Bytes bytes
    → (decode known bytes ≡ found r rest) ↔ Begins known bytes r rest
found_exactly known bytes r rest h = (sound known bytes r rest h, finds known bytes r rest)

-- It finds nothing exactly if the bytes begin with no record.
pub none_exactly : (known : Known) (bytes : List ℕ) → Bytes bytes
    → (decode known bytes ≡ none) ↔ ((r : FileRecord) (rest : List ℕ) → Begins known bytes r rest → ⊥)
none_exactly known bytes h =
    (λ e r rest b. none_found (sym e ∙ finds known bytes r rest b), λ never. only (decode known bytes) refl never)
  where
    none_found : {r : FileRecord} {rest : List ℕ} → none ≡ found r rest → ⊥
    none_found e = let z : ◌≡◌ {A = ℕ} 0 1 = cc in omega arith

    only : (d : Decoded FileRecord) → decode known bytes ≡ d → ((r : FileRecord) (rest : List ℕ) → Begins known bytes r rest → ⊥) → d ≡ none
    only none e never = refl
    only (found r rest) e never = absurd (never r rest (sound known bytes r rest h e))

-- Bytes begin with one record at most, and the rest is then one too.
pub unique : (known : Known) (bytes : List ℕ) (r r' : FileRecord) (rest rest' : List ℕ) → Begins known bytes r rest → Begins known bytes r' rest'
    → (r ≡ r') × (rest ≡ rest')
unique known bytes r r' rest rest' b b' =
    let e : found r rest ≡ found r' rest' = sym (finds known bytes r rest b) ∙ finds known bytes r' rest' b' in (cc, cc)

-- A record has bytes, so that the rest is shorter.
encode-some : (r : FileRecord) → 0 < length (encode r)
unfolding encode mark
encode-some (settings d b l e w) = omega arith
encode-some (vector document labels patterns) = omega arith
encode-some (filtered k label patterns) = omega arith
encode-some (unfiltered k patterns) = omega arith

pub rest_shorter : {known : Known} {bytes : List ℕ} {r : FileRecord} {rest : List ℕ} → Begins known bytes r rest → length rest < length bytes
rest_shorter {r = r} {rest} b =
    let size = ap length b.split ∙ length-append (encode r) rest in
    omega (arith, size, encode-some r)
