-- Texts that don't begin with a byte order mark.
use Rattle.std.proofs.Common.{◌≡◌, ◌≢◌, ℕ, ◌+◌, ◌/◌, ◌%◌, ◌<◌, ◌≤◌, ◌&&◌, ◌==◌, Bool, true, false, ltb, List, [], ◌∷◌, ◌++◌, refl, sym, ap, subst, append_assoc, arith}
use Rattle.std.specs.Prelude.{encode_utf8, encode_utf8_all, if◌then◌else◌}
use Rattle.std.proofs.lemmas.Bool.{eqb-true, ltb-false, ltb-true, ne_eqb}
use Rattle.std.proofs.lemmas.Bool.Decides.{nat_tests}
use lib.Utf8.{encode, next}
use Rattle.csv.specs.Reading.{is_bom, strip_bom}
use Rattle.csv.specs.Writing.{default_writer, field_text, fields_text, is_blank, needs_quotes, quoted, row_text}
use Rattle.row_files.specs.Laws.{BeginsPlainly}

by_first : (b : ℕ) (rest : List ℕ) → b ≢ 239 → strip_bom (b ∷ rest) ≡ b ∷ rest
unfolding strip_bom
by_first b [] h = refl
by_first b (c ∷ []) h = refl
by_first b (c ∷ d ∷ rest) h = ap (λ (t : Bool). if t && (c == 187) && (d == 191) then rest else b ∷ c ∷ d ∷ rest) (ne_eqb b 239 h)

by_three : (a b c : ℕ) (rest : List ℕ) → is_bom a b c ≡ false → strip_bom (a ∷ b ∷ c ∷ rest) ≡ a ∷ b ∷ c ∷ rest
unfolding strip_bom
by_three a b c rest h = ap (λ (t : Bool). if t then rest else a ∷ b ∷ c ∷ rest) h

not_all : (x y z : Bool) → ((x ≡ true) → (y ≡ true) → (z ≡ true) → ⊥) → (x && y && z) ≡ false
not_all true true true h = absurd (h refl refl refl)
not_all true true false h = refl
not_all true false z h = refl
not_all false y z h = refl

-- the three bytes of a character are no mark, but for one
three_plain : (s : ℕ) → s ≢ 0xFEFF → 2048 ≤ s → s < 65536 → is_bom (224 + s / 4096) (128 + s / 64 % 64) (128 + s % 64) ≡ false
three_plain s n l h = not_all ((224 + s / 4096) == 239) ((128 + s / 64 % 64) == 187) ((128 + s % 64) == 191) (λ x y z. n (
    let a = eqb-true (224 + s / 4096) 239 x in
    let b = eqb-true (128 + s / 64 % 64) 187 y in
    let c = eqb-true (128 + s % 64) 191 z in
    omega (arith, a, b, c)))

-- ---- the bytes of a character, by its size

one : (s : ℕ) → s < 128 → encode s ≡ s ∷ []
unfolding encode
one s h = let e : ltb s 128 ≡ true = grind (arith, nat_tests) in rw e refl

two : (s : ℕ) → 128 ≤ s → s < 2048 → encode s ≡ (192 + s / 64) ∷ next s ∷ []
unfolding encode
two s l h = let e : ltb s 128 ≡ false = grind (arith, nat_tests) in let f : ltb s 2048 ≡ true = grind (arith, nat_tests) in rw (e, f) refl

three : (s : ℕ) → 2048 ≤ s → s < 65536 → encode s ≡ (224 + s / 4096) ∷ next (s / 64) ∷ next s ∷ []
unfolding encode
three s l h =
    let e : ltb s 128 ≡ false = grind (arith, nat_tests) in
    let f : ltb s 2048 ≡ false = grind (arith, nat_tests) in
    let g : ltb s 65536 ≡ true = grind (arith, nat_tests) in rw (e, f, g) refl

four : (s : ℕ) → 65536 ≤ s → encode s ≡ (240 + s / 262144) ∷ next (s / 4096) ∷ next (s / 64) ∷ next s ∷ []
unfolding encode
four s l =
    let e : ltb s 128 ≡ false = grind (arith, nat_tests) in
    let f : ltb s 2048 ≡ false = grind (arith, nat_tests) in
    let g : ltb s 65536 ≡ false = grind (arith, nat_tests) in rw (e, f, g) refl

-- no mark stands at the start of what begins so
abbrev pub IsFront : List ℕ → Type 0
IsFront f = (t : List ℕ) → strip_bom (f ++ t) ≡ f ++ t

longer : (f g : List ℕ) → IsFront f → IsFront (f ++ g)
longer f g h t = subst (λ x. strip_bom x ≡ x) (sym (append_assoc f g t)) (h (g ++ t))

so : (f g : List ℕ) → f ≡ g → IsFront g → IsFront f
so f g e h = subst IsFront (sym e) h

char_plain : (s : ℕ) → s ≢ 0xFEFF → IsFront (encode_utf8 s)
char_plain s n = by (ltb s 128) (ltb s 2048) (ltb s 65536) refl refl refl
  where
    by : (a b d : Bool) → ltb s 128 ≡ a → ltb s 2048 ≡ b → ltb s 65536 ≡ d → IsFront (encode_utf8 s)
    by true b d h i j = let l = ltb-true s 128 h in so (encode_utf8 s) _ (one s l) (λ t. by_first s t (omega (arith, l)))
    by false true d h i j = let l = ltb-false s 128 h in let m = ltb-true s 2048 i in so (encode_utf8 s) _ (two s l m) (λ t. by_first (192 + s / 64) _ (omega (arith, m)))
    by false false true h i j = let l = ltb-false s 2048 i in let m = ltb-true s 65536 j in so (encode_utf8 s) _ (three s l m) (λ t. by_three _ _ _ t (three_plain s n l m))
    by false false false h i j = let l = ltb-false s 65536 j in so (encode_utf8 s) _ (four s l) (λ t. by_first (240 + s / 262144) _ (omega (arith, l)))

-- the field of a text that begins with another character
field_plain : (s : ℕ) (ss : List ℕ) → s ≢ 0xFEFF → IsFront (field_text default_writer (encode_utf8_all (s ∷ ss)))
field_plain s ss n = by (needs_quotes default_writer (encode_utf8_all (s ∷ ss)))
  where
    by : (b : Bool) → IsFront (if b then quoted default_writer (encode_utf8_all (s ∷ ss)) else encode_utf8_all (s ∷ ss))
    by true = λ t. by_first 34 _ (omega arith)
    by false = longer (encode_utf8 s) (encode_utf8_all ss) (char_plain s n)

-- a record whose first field begins with another character
pub record_plain : (name : List ℕ) (fields : List (List ℕ)) → BeginsPlainly name → IsFront (row_text default_writer (encode_utf8_all name ∷ fields))
unfolding fields_text is_blank
record_plain [] [] h = λ t. by_first 34 _ (omega arith)
record_plain [] (f ∷ fs) h = λ t. by_first 44 _ (omega arith)
record_plain (s ∷ ss) fields h =
    longer (field_text default_writer (encode_utf8_all (s ∷ ss)) ++ fields_text default_writer fields) _
    (longer (field_text default_writer (encode_utf8_all (s ∷ ss))) (fields_text default_writer fields) (field_plain s ss h))
