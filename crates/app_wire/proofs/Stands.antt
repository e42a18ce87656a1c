-- What was found stands, however the bytes go on.
use Rattle.std.proofs.Common.{◌≡◌, ℕ, ◌-◌, ◌≤◌, inl, inr, Bool, true, false, List, ◌++◌, length, take, drop, ap, sym, ◌∙◌, subst, arith}
use Rattle.std.specs.List.{slice_range}
use Rattle.std.proofs.lemmas.List.{drop-append-le, length-append, length-drop, take-append-le}
use Rattle.app_wire.specs.Head.{IsHead}
use Rattle.app_wire.specs.Framing.{Announces, Asked, IsWholeRequest, FramingResult, refused, whole, nothing, need, Refuses, Framing, IsFinalFrame, request_of}
use Rattle.app_wire.specs.declared.body.BodyLength.{BodyLength}
use Rattle.app_wire.proofs.Blanks.{none_more, take_front, front_less, front_more}

-- a stretch of the bytes
range_more : (bytes more : List ℕ) (i j : ℕ) → i ≤ j → j ≤ length bytes → slice_range (bytes ++ more) i j ≡ slice_range bytes i j
range_more bytes more i j order within =
    let start : i ≤ length bytes = omega arith in
    let rest : j - i ≤ length (drop i bytes) = omega (arith, length-drop i bytes) in
    ap (take (j - i)) (drop-append-le i bytes more start) ∙ take-append-le (j - i) (drop i bytes) more rest

abbrev pub announces_more : {bytes : List ℕ} (more : List ℕ) {body : BodyLength} → Announces bytes body → Announces (bytes ++ more) body
announces_more more a = record {
  start = a.start;
  front = front_more more a.front;
  head = a.head;
  is = rw (take_front more a.front) a.is;
  body_is = a.body_is;
}

abbrev announces_less : (bytes more : List ℕ) {body : BodyLength} (a : Announces (bytes ++ more) body) → a.start ≤ length bytes → Announces bytes body
announces_less bytes more a le = record {
  start = a.start;
  front = front_less bytes more a.start le a.front;
  head = a.head;
  is = subst (λ front. IsHead front a.head) (take-append-le a.start bytes more le) a.is;
  body_is = a.body_is;
}

pub whole_more : {bytes : List ℕ} (more : List ℕ) {r : Asked} {n : ℕ} → IsWholeRequest bytes r n → IsWholeRequest (bytes ++ more) r n
whole_more {bytes} more {r} {n} w = record {
  size = w.size;
  head = announces_more more w.head;
  len_is = w.len_is;
  within = omega (arith, w.within, length-append bytes more);
  same = w.same ∙ ap (request_of w.head.head) (sym (range_more bytes more w.head.start n (omega (arith, w.len_is)) w.within));
}

-- a request that ends within the first bytes is one of them
pub whole_less : (bytes more : List ℕ) {r : Asked} {n : ℕ} → IsWholeRequest (bytes ++ more) r n → n ≤ length bytes → IsWholeRequest bytes r n
whole_less bytes more {r} {n} w le = record {
  size = w.size;
  head = announces_less bytes more w.head (omega (arith, w.len_is, le));
  len_is = w.len_is;
  within = le;
  same = w.same ∙ ap (request_of w.head.head) (range_more bytes more w.head.start n (omega (arith, w.len_is)) le);
}

pub refusal_more : (bytes more : List ℕ) (ended : Bool) (code : ℕ) → Refuses bytes false code → Refuses (bytes ++ more) ended code
refusal_more bytes more ended code (inl h) = inl (h.0, record { len = h.1.len; front = front_more more h.1.front; bad = rw (take_front more h.1.front) h.1.bad })
refusal_more bytes more ended code (inr (inl h)) = inr (inl (h.0, record { long = omega (arith, h.1.long, length-append bytes more); none = none_more bytes more 8192 h.1.long h.1.none }))
refusal_more bytes more ended code (inr (inr (inl h))) = inr (inr (inl (h.0, announces_more more h.1)))
refusal_more bytes more ended code (inr (inr (inr (inl h)))) = inr (inr (inr (inl (h.0, announces_more more h.1))))
refusal_more bytes more ended code (inr (inr (inr (inr (inl h))))) = inr (inr (inr (inr (inl (h.0, announces_more more h.1)))))
refusal_more bytes more ended code (inr (inr (inr (inr (inr h))))) = let no : false ≡ true = h.1 in absurd (cc)

pub stands : (bytes more : List ℕ) (ended : Bool) (frame : FramingResult) → IsFinalFrame frame → Framing bytes false frame → Framing (bytes ++ more) ended frame
stands bytes more ended nothing f h = absurd f
stands bytes more ended need f h = absurd f
stands bytes more ended (refused code) f h = refusal_more bytes more ended code h
stands bytes more ended (whole request len) f h = whole_more more h
