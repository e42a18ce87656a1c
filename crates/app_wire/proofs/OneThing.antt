-- The bytes begin with one thing only.
use Rattle.std.proofs.Common.{◌≡◌, ℕ, ◌+◌, ◌<◌, ◌≤◌, ◌⊎◌, inl, inr, Bool, true, false, List, [], length, take, nat_le, refl, ap, sym, ◌∙◌, subst, arith, cond}
use Rattle.std.specs.List.{slice_range}
use Rattle.std.proofs.lemmas.Bool.{cond-true, cond-false, le-leb, lt-leb}
use Rattle.httparse.specs.Grammar.{RequestHead}
use Rattle.httparse.proofs.GrammarLemmas.{request_unique}
use Rattle.app_wire.proofs.Blanks.{front_some}
use Rattle.app_wire.specs.Head.{IsHead, length_of_body}
use Rattle.app_wire.specs.Framing.{Announces, Asked, HasNoBlank, IsHeadEnd, IsRequestBegun, IsInHead, IsTooLong, IsWholeRequest, FramingResult, nothing, need, refused, whole, Refuses, Framing, LookFinds, request_of}
use Rattle.app_wire.specs.declared.body.BodyLength.{BodyLength}
use Rattle.app_wire.specs.declared.body.BodyLength.TheVariants.{NotOffered, Bad, TooLong, Bytes}
use Rattle.app_wire.specs.declared.framer.Look.{Look}
use Rattle.app_wire.specs.declared.framer.Look.TheVariants.{Need, Refused, Whole}

-- a front, and a stretch with no blank line that holds it
front_in : (bytes : List ℕ) (n m : ℕ) → IsHeadEnd bytes n → HasNoBlank bytes m → n ≤ m → ⊥
front_in bytes n m f none le = none n le f.blank

front_first : (bytes : List ℕ) (m n : ℕ) → IsHeadEnd bytes m → IsHeadEnd bytes n → (m < n → ⊥)
front_first bytes m n f g lt = g.first m lt f.blank

front_same : (bytes : List ℕ) (m n : ℕ) → IsHeadEnd bytes m → IsHeadEnd bytes n → m ≡ n
front_same bytes m n f g =
    let a : m < n → ⊥ = front_first bytes m n f g in
    let b : n < m → ⊥ = front_first bytes n m g f in
    omega (arith, a, b)

head_same : (front : List ℕ) (h k : RequestHead) → IsHead front h → IsHead front k → h ≡ k
head_same front h k a b = (request_unique front h k [] [] a.reads b.reads).0

-- what a head makes of the bytes, by what its fields say of its body
abbrev framed : List ℕ → Bool → ℕ → RequestHead → BodyLength → FramingResult
framed bytes ended n h Bad = refused 3
framed bytes ended n h TooLong = refused 4
framed bytes ended n h NotOffered = refused 5
framed bytes ended n h (Bytes size) =
    cond (nat_le (n + size) (length bytes)) (whole (request_of h (slice_range bytes n (n + size))) (n + size)) (cond ended (refused 6) need)

-- what a front makes of them
Judged : List ℕ → Bool → ℕ → FramingResult → Type 0
Judged bytes ended n frame =
    (((h : RequestHead) → IsHead (take n bytes) h → ⊥) × (frame ≡ refused 1))
    ⊎ ((h : RequestHead) × IsHead (take n bytes) h × (frame ≡ framed bytes ended n h (length_of_body h)))

judged_same : (bytes : List ℕ) (ended : Bool) (n : ℕ) (a b : FramingResult) → Judged bytes ended n a → Judged bytes ended n b → a ≡ b
unfolding Judged
judged_same bytes ended n a b (inl x) (inl y) = x.1 ∙ sym y.1
judged_same bytes ended n a b (inl x) (inr y) = absurd (x.0 y.0 y.1)
judged_same bytes ended n a b (inr x) (inl y) = absurd (y.0 x.0 x.1)
judged_same bytes ended n a b (inr x) (inr y) = x.2 ∙ ap (λ h. framed bytes ended n h (length_of_body h)) (head_same (take n bytes) x.0 y.0 x.1 y.1) ∙ sym y.2

Sorted : List ℕ → Bool → FramingResult → Type 0
Sorted bytes ended frame =
    ((n : ℕ) × IsHeadEnd bytes n × Judged bytes ended n frame)
    ⊎ (IsInHead bytes × (frame ≡ cond ended (refused 6) need))
    ⊎ (IsTooLong bytes × (frame ≡ refused 2))
    ⊎ ((bytes ≡ []) × (frame ≡ nothing))

sorted_same : (bytes : List ℕ) (ended : Bool) (a b : FramingResult) → Sorted bytes ended a → Sorted bytes ended b → a ≡ b
unfolding Sorted
sorted_same bytes ended a b (inl x) (inl y) =
    judged_same bytes ended y.0 a b (subst (λ n. Judged bytes ended n a) (front_same bytes x.0 y.0 x.1 y.1) x.2) y.2
sorted_same bytes ended a b (inl x) (inr (inl y)) = absurd (front_in bytes x.0 (length bytes) x.1 y.0.none x.1.within)
sorted_same bytes ended a b (inl x) (inr (inr (inl y))) = absurd (front_in bytes x.0 8192 x.1 y.0.none x.1.near)
sorted_same bytes ended a b (inl x) (inr (inr (inr y))) = absurd (front_some bytes x.0 x.1 y.0)
sorted_same bytes ended a b (inr (inl x)) (inl y) = absurd (front_in bytes y.0 (length bytes) y.1 x.0.none y.1.within)
sorted_same bytes ended a b (inr (inl x)) (inr (inl y)) = x.1 ∙ sym y.1
sorted_same bytes ended a b (inr (inl x)) (inr (inr (inl y))) = absurd (omega (arith, x.0.short, y.0.long))
sorted_same bytes ended a b (inr (inl x)) (inr (inr (inr y))) = absurd (omega (arith, x.0.some, ap length y.0))
sorted_same bytes ended a b (inr (inr (inl x))) (inl y) = absurd (front_in bytes y.0 8192 y.1 x.0.none y.1.near)
sorted_same bytes ended a b (inr (inr (inl x))) (inr (inl y)) = absurd (omega (arith, y.0.short, x.0.long))
sorted_same bytes ended a b (inr (inr (inl x))) (inr (inr (inl y))) = x.1 ∙ sym y.1
sorted_same bytes ended a b (inr (inr (inl x))) (inr (inr (inr y))) = absurd (omega (arith, x.0.long, ap length y.0))
sorted_same bytes ended a b (inr (inr (inr x))) (inl y) = absurd (front_some bytes y.0 y.1 x.0)
sorted_same bytes ended a b (inr (inr (inr x))) (inr (inl y)) = absurd (omega (arith, y.0.some, ap length x.0))
sorted_same bytes ended a b (inr (inr (inr x))) (inr (inr (inl y))) = absurd (omega (arith, y.0.long, ap length x.0))
sorted_same bytes ended a b (inr (inr (inr x))) (inr (inr (inr y))) = x.1 ∙ sym y.1

-- where a head says this of its body
announced : (bytes : List ℕ) (ended : Bool) (body : BodyLength) (a : Announces bytes body) (frame : FramingResult) → frame ≡ framed bytes ended a.start a.head body → Sorted bytes ended frame
unfolding Sorted Judged
announced bytes ended body a frame e = inl (a.start, a.front, inr (a.head, a.is, e ∙ ap (framed bytes ended a.start a.head) (sym a.body_is)))

begun : (bytes : List ℕ) (ended : Bool) (frame : FramingResult) → IsRequestBegun bytes → frame ≡ cond ended (refused 6) need → Sorted bytes ended frame
unfolding Sorted
begun bytes ended frame (inl h) e = inr (inl (h, e))
begun bytes ended frame (inr h) e =
    announced bytes ended (Bytes h.size) h.head frame
    (e ∙ sym (cond-false (nat_le (h.head.start + h.size) (length bytes)) (whole (request_of h.head.head (slice_range bytes h.head.start (h.head.start + h.size))) (h.head.start + h.size))
    (cond ended (refused 6) need) (lt-leb (h.head.start + h.size) (length bytes) h.short)))

whole_sorted : (bytes : List ℕ) (ended : Bool) (request : Asked) (len : ℕ) → IsWholeRequest bytes request len → Sorted bytes ended (whole request len)
whole_sorted bytes ended request len w =
    let within : w.head.start + w.size ≤ length bytes = omega (arith, w.len_is, w.within) in
    announced bytes ended (Bytes w.size) w.head (whole request len)
    (ap (λ r. whole r len) w.same ∙ ap (λ n. whole (request_of w.head.head (slice_range bytes w.head.start n)) n) w.len_is
    ∙ sym (cond-true (nat_le (w.head.start + w.size) (length bytes)) (whole (request_of w.head.head (slice_range bytes w.head.start (w.head.start + w.size))) (w.head.start + w.size))
    (cond ended (refused 6) need) (le-leb (w.head.start + w.size) (length bytes) within)))

refused_sorted : (bytes : List ℕ) (ended : Bool) (code : ℕ) → Refuses bytes ended code → Sorted bytes ended (refused code)
unfolding Sorted Judged
refused_sorted bytes ended code (inl x) = inl (x.1.len, x.1.front, inl (x.1.bad, ap refused x.0))
refused_sorted bytes ended code (inr (inl x)) = inr (inr (inl (x.1, ap refused x.0)))
refused_sorted bytes ended code (inr (inr (inl x))) = announced bytes ended Bad x.1 (refused code) (ap refused x.0)
refused_sorted bytes ended code (inr (inr (inr (inl x)))) = announced bytes ended TooLong x.1 (refused code) (ap refused x.0)
refused_sorted bytes ended code (inr (inr (inr (inr (inl x))))) = announced bytes ended NotOffered x.1 (refused code) (ap refused x.0)
refused_sorted bytes ended code (inr (inr (inr (inr (inr x))))) = begun bytes ended (refused code) x.2 (ap refused x.0 ∙ ap (λ b. cond b (refused 6) need) (sym x.1))

sorted_of : (bytes : List ℕ) (ended : Bool) (frame : FramingResult) → Framing bytes ended frame → Sorted bytes ended frame
unfolding Sorted
sorted_of bytes ended nothing x = inr (inr (inr (x, refl)))
sorted_of bytes ended need x = begun bytes ended need x.1 (ap (λ b. cond b (refused 6) need) (sym x.0))
sorted_of bytes ended (refused code) x = refused_sorted bytes ended code x
sorted_of bytes ended (whole request len) x = whole_sorted bytes ended request len x

pub one_thing : (bytes : List ℕ) (ended : Bool) (a b : FramingResult) → Framing bytes ended a → Framing bytes ended b → a ≡ b
one_thing bytes ended a b x y = sorted_same bytes ended a b (sorted_of bytes ended a x) (sorted_of bytes ended b y)

-- where a request is begun, a look finds that more is needed
pub begun_needs : (bytes : List ℕ) (found : Look) → LookFinds bytes found → IsRequestBegun bytes → found ≡ Need
begun_needs bytes Need f begun = refl
begun_needs bytes (Refused code) f begun = let same : refused code ≡ need = one_thing bytes false (refused code) need f (refl, begun) in cc
begun_needs bytes (Whole method path body len) f begun =
    let request : Asked = record { method = method; path = path.now; body = body.now } in
    let same : whole request len ≡ need = one_thing bytes false (whole request len) need f (refl, begun) in cc

-- the one refusal that only the end of the input makes
pub cut_begun : (bytes : List ℕ) → Framing bytes true (refused 6) → IsRequestBegun bytes
cut_begun bytes (inl h) = cc
cut_begun bytes (inr (inl h)) = cc
cut_begun bytes (inr (inr (inl h))) = cc
cut_begun bytes (inr (inr (inr (inl h)))) = cc
cut_begun bytes (inr (inr (inr (inr (inl h))))) = cc
cut_begun bytes (inr (inr (inr (inr (inr h))))) = h.2
