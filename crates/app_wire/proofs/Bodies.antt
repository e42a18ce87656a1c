-- What the fields of a head say of its body.
use Rattle.std.proofs.Common.{◌≡◌, ℕ, zero, suc, ◌+◌, ◌<◌, ◌||◌, Bool, true, false, cond, List, [], ◌∷◌, Option, Some, None, length, get_or, map, drop, position, codes, refl, ap, sym, ◌∙◌, arith}
use Rattle.std.specs.List.{filter, list_any, position_from}
use Rattle.std.proofs.lemmas.Bool.{cond-true, cond-false, or_parts}
use Rattle.std.proofs.lemmas.Iterator.Adapters.{position_from-zero}
use Rattle.std.proofs.lemmas.List.Quantifiers.{position-Some}
use Rattle.httparse.specs.declared.spans.HeaderSpan.{HeaderSpan}
use Rattle.httparse.specs.Spans.{header_bytes, span_bytes}
use Rattle.app_wire.specs.Bodies.{Field, body_length, is_name, length_by, length_in, values_named}
use Rattle.app_wire.specs.declared.body.BodyLength.{BodyLength}
use Rattle.app_wire.specs.declared.body.BodyLength.TheVariants.{NotOffered, Bad, Bytes}

-- a test of each image
list_any-map : {X Y : Type 0} (p : Y → Bool) (f : X → Y) (xs : List X) → list_any p (map f xs) ≡ list_any (λ x. p (f x)) xs
list_any-map p f [] = refl
list_any-map p f (x ∷ xs) = ap (λ b. p (f x) || b) (list_any-map p f xs)

-- what is kept of images by their names
one_value : {X : Type 0} (b : Bool) (g : X → Field) (x : X) (fields : List Field) (xs : List X)
    → map (λ field. field.1) fields ≡ map (λ y. (g y).1) xs → map (λ field. field.1) (cond b (g x ∷ fields) fields) ≡ map (λ y. (g y).1) (cond b (x ∷ xs) xs)
one_value true g x fields xs e = ap (λ vs. (g x).1 ∷ vs) e
one_value false g x fields xs e = e

values_of : {X : Type 0} (p : List ℕ → Bool) (g : X → Field) (xs : List X)
    → map (λ field. field.1) (filter (λ field. p field.0) (map g xs)) ≡ map (λ y. (g y).1) (filter (λ y. p (g y).0) xs)
values_of p g [] = refl
values_of p g (x ∷ xs) = one_value (p (g x).0) g x (filter (λ field. p field.0) (map g xs)) (filter (λ y. p (g y).0) xs) (values_of p g xs)

-- nothing is kept where no place passes
none_step : {X : Type 0} (b : Bool) (i : ℕ) (x : X) (rest : Option ℕ) (xs : List X) → (rest ≡ None → xs ≡ []) → cond b (Some i) rest ≡ None → cond b (x ∷ xs) xs ≡ []
none_step true i x rest xs h e = cc
none_step false i x rest xs h e = h e

none_from : {X : Type 0} (p : X → Bool) (i : ℕ) (xs : List X) → position_from p i xs ≡ None → filter p xs ≡ []
none_from p i [] e = refl
none_from p i (x ∷ xs) e = none_step (p x) i x (position_from p (i + 1) xs) (filter p xs) (none_from p (i + 1) xs) e

-- the first that is kept, and those behind it
kept_at : {X : Type 0} (p : X → Bool) (xs : List X) (i : ℕ) (d : X) → i < length xs → p (get_or xs i d) ≡ true → ((k : ℕ) → k < i → p (get_or xs k d) ≡ false)
    → filter p xs ≡ get_or xs i d ∷ filter p (drop (suc i) xs)
kept_at p [] i d below here before = absurd (omega arith)
kept_at p (x ∷ xs) zero d below here before = cond-true (p x) (x ∷ filter p xs) (filter p xs) here
kept_at p (x ∷ xs) (suc i) d below here before =
    cond-false (p x) (x ∷ filter p xs) (filter p xs) (before 0 (omega arith)) ∙ kept_at p xs i d (omega arith) here (λ k less. before (suc k) (omega arith))

first_kept : {X : Type 0} (p : X → Bool) (xs : List X) (i : ℕ) (d : X) → position p xs ≡ Some i → filter p xs ≡ get_or xs i d ∷ filter p (drop (i + 1) xs)
first_kept p xs i d e =
    let at = position-Some p xs i d e in
    let next : suc i ≡ i + 1 = omega arith in
    kept_at p xs i d at.0 at.1 at.2 ∙ ap (λ n. get_or xs i d ∷ filter p (drop n xs)) next

-- whether any is kept
any_none : {X : Type 0} (p : X → Bool) (xs : List X) → list_any p xs ≡ false → filter p xs ≡ []
any_none p [] e = refl
any_none p (x ∷ xs) e =
    let two = or_parts (p x) (list_any p xs) e in
    cond-false (p x) (x ∷ filter p xs) (filter p xs) two.0 ∙ any_none p xs two.1

some_step : {X : Type 0} (b any : Bool) (x : X) (xs : List X) → (any ≡ true → (y : X) × (ys : List X) × (xs ≡ y ∷ ys)) → (b || any) ≡ true
    → (y : X) × (ys : List X) × (cond b (x ∷ xs) xs ≡ y ∷ ys)
some_step true any x xs h e = (x, xs, refl)
some_step false any x xs h e = h e

any_some : {X : Type 0} (p : X → Bool) (xs : List X) → list_any p xs ≡ true → (y : X) × (ys : List X) × (filter p xs ≡ y ∷ ys)
any_some p [] e = absurd (cc)
any_some p (x ∷ xs) e = some_step (p x) (list_any p xs) x (filter p xs) (any_some p xs) e

-- the length, by the first value's place and what stands behind it
no_length : {X : Type 0} (p : X → Bool) (v : X → List ℕ) (xs : List X) → position p xs ≡ None → length_by (map v (filter p xs)) ≡ Bytes 0
no_length p v xs e = ap (λ ys. length_by (map v ys)) (none_from p 0 xs (sym (position_from-zero p xs) ∙ e))

two_lengths : {X : Type 0} (p : X → Bool) (v : X → List ℕ) (xs : List X) (i : ℕ) (d : X) → position p xs ≡ Some i → list_any p (drop (i + 1) xs) ≡ true
    → length_by (map v (filter p xs)) ≡ Bad
two_lengths p v xs i d e any =
    let more = any_some p (drop (i + 1) xs) any in
    ap (λ ys. length_by (map v ys)) (first_kept p xs i d e ∙ ap (λ ys. get_or xs i d ∷ ys) more.2)

one_length : {X : Type 0} (p : X → Bool) (v : X → List ℕ) (xs : List X) (i : ℕ) (d : X) → position p xs ≡ Some i → list_any p (drop (i + 1) xs) ≡ false
    → length_by (map v (filter p xs)) ≡ length_in (v (get_or xs i d))
one_length p v xs i d e any =
    ap (λ ys. length_by (map v ys)) (first_kept p xs i d e ∙ ap (λ ys. get_or xs i d ∷ ys) (any_none p (drop (i + 1) xs) any))

-- of the spans of the fields
abbrev pub is_coding : List ℕ → HeaderSpan → Bool
is_coding front h = is_name (codes "transfer-encoding") (span_bytes front h.name)

abbrev pub is_measure : List ℕ → HeaderSpan → Bool
is_measure front h = is_name (codes "content-length") (span_bytes front h.name)

abbrev pub value_at : List ℕ → HeaderSpan → List ℕ
value_at front h = span_bytes front h.value

coding_in : (front : List ℕ) (hs : List HeaderSpan) → list_any (λ field. is_name (codes "transfer-encoding") field.0) (map (header_bytes front) hs) ≡ list_any (is_coding front) hs
coding_in front hs = list_any-map (λ field. is_name (codes "transfer-encoding") field.0) (header_bytes front) hs

pub coded : (front : List ℕ) (hs : List HeaderSpan) → list_any (is_coding front) hs ≡ true → NotOffered ≡ body_length (map (header_bytes front) hs)
coded front hs e =
    sym (cond-true (list_any (λ field. is_name (codes "transfer-encoding") field.0) (map (header_bytes front) hs)) NotOffered
    (length_by (values_named (codes "content-length") (map (header_bytes front) hs))) (coding_in front hs ∙ e))

plain : (front : List ℕ) (hs : List HeaderSpan) (body : BodyLength) → list_any (is_coding front) hs ≡ false → length_by (map (value_at front) (filter (is_measure front) hs)) ≡ body
    → body ≡ body_length (map (header_bytes front) hs)
plain front hs body e is =
    sym (cond-false (list_any (λ field. is_name (codes "transfer-encoding") field.0) (map (header_bytes front) hs)) NotOffered
    (length_by (values_named (codes "content-length") (map (header_bytes front) hs))) (coding_in front hs ∙ e)
    ∙ ap length_by (values_of (is_name (codes "content-length")) (header_bytes front) hs) ∙ is)

pub plain_none : (front : List ℕ) (hs : List HeaderSpan) → list_any (is_coding front) hs ≡ false → position (is_measure front) hs ≡ None → Bytes 0 ≡ body_length (map (header_bytes front) hs)
plain_none front hs e none = plain front hs (Bytes 0) e (no_length (is_measure front) (value_at front) hs none)

pub plain_two : (front : List ℕ) (hs : List HeaderSpan) (i : ℕ) → list_any (is_coding front) hs ≡ false → position (is_measure front) hs ≡ Some i → list_any (is_measure front) (drop (i + 1) hs) ≡ true
    → Bad ≡ body_length (map (header_bytes front) hs)
plain_two front hs i e at any =
    let d : HeaderSpan = record { name = record { start = 0; end = 0 }; value = record { start = 0; end = 0 } } in
    plain front hs Bad e (two_lengths (is_measure front) (value_at front) hs i d at any)

pub plain_one : (front : List ℕ) (hs : List HeaderSpan) (i : ℕ) (d : HeaderSpan) → list_any (is_coding front) hs ≡ false → position (is_measure front) hs ≡ Some i
    → list_any (is_measure front) (drop (i + 1) hs) ≡ false → length_in (value_at front (get_or hs i d)) ≡ body_length (map (header_bytes front) hs)
plain_one front hs i d e at any = plain front hs (length_in (value_at front (get_or hs i d))) e (one_length (is_measure front) (value_at front) hs i d at any)
