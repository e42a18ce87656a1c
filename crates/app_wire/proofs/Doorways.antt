-- What several calls of doors do together.
use Rattle.std.proofs.Common.{◌≡◌, ℕ, ◌+◌, ◌-◌, ◌<◌, List, [], ◌∷◌, ◌++◌, length, take, drop, refl, ap, sym, ◌∙◌, append_assoc, arith}
use Rattle.std.proofs.lemmas.List.{append-nil, take-append-drop, take_all, length-drop}
use Rattle.std.proofs.Math.Seq.{take-add}
use Rattle.fx_base.specs.Telling.{Stays}
use Rattle.app_wire.specs.Doorway.{Doorway, DoorsTake, Talk, Writes, WritesPart, with_last, with_taken, with_written}

-- one change of the last talk after another
pub last_join : (f g h : Talk → Talk) → ((t : Talk) → g (f t) ≡ h t) → (ts : List Talk) → with_last g (with_last f ts) ≡ with_last h ts
last_join f g h e [] = refl
last_join f g h e (t ∷ []) = ap (λ z. z ∷ []) (e t)
last_join f g h e (t ∷ u ∷ []) = ap (λ z. t ∷ z ∷ []) (e u)
last_join f g h e (t ∷ u ∷ v ∷ ts) = ap (λ z. t ∷ z) (last_join f g h e (u ∷ v ∷ ts))

-- a change that is none
pub last_same : (f : Talk → Talk) → ((t : Talk) → f t ≡ t) → (ts : List Talk) → with_last f ts ≡ ts
last_same f e [] = refl
last_same f e (t ∷ []) = ap (λ z. z ∷ []) (e t)
last_same f e (t ∷ u ∷ ts) = ap (λ z. t ∷ z) (last_same f e (u ∷ ts))

-- a talk at the end is the one that is changed
pub last_at_end : (f : Talk → Talk) (ts : List Talk) (t : Talk) → with_last f (ts ++ t ∷ []) ≡ ts ++ f t ∷ []
last_at_end f [] t = refl
last_at_end f (s ∷ []) t = refl
last_at_end f (s ∷ u ∷ ts) t = ap (λ z. s ∷ z) (last_at_end f (u ∷ ts) t)

taken_none : (t : Talk) → with_taken [] t ≡ t
taken_none t = ap (λ (s : List ℕ). record t { taken = s }) (append-nil t.taken)

written_none : (t : Talk) → with_written [] t ≡ t
written_none t = ap (λ (s : List ℕ). record t { written = s }) (append-nil t.written)

taken_join : (x y : List ℕ) (t : Talk) → with_taken y (with_taken x t) ≡ with_taken (x ++ y) t
taken_join x y t = ap (λ (s : List ℕ). record t { taken = s }) (append_assoc t.taken x y)

written_join : (x y : List ℕ) (t : Talk) → with_written y (with_written x t) ≡ with_written (x ++ y) t
written_join x y t = ap (λ (s : List ℕ). record t { written = s }) (append_assoc t.written x y)

-- no bytes
pub writes_none : (a : Doorway) → Writes [] a a
writes_none a = ap (λ (ts : List Talk). record a { begun = ts }) (sym (last_same (with_written []) written_none a.begun))

pub writes_join : (x y : List ℕ) (a b c : Doorway) → Writes x a b → Writes y b c → Writes (x ++ y) a c
writes_join x y a b c h k =
    k ∙ ap (λ (d : Doorway). record d { begun = with_last (with_written y) d.begun }) h
    ∙ ap (λ (ts : List Talk). record a { begun = ts }) (last_join (with_written x) (with_written y) (with_written (x ++ y)) (written_join x y) a.begun)

pub takes_none : (a : Doorway) → DoorsTake [] a a
takes_none a = record {
  front = refl;
  rest = ap (λ (ts : List Talk). record a { begun = ts }) (sym (last_same (with_taken []) taken_none a.begun));
}

pub takes_join : (x y : List ℕ) (a b c : Doorway) → DoorsTake x a b → DoorsTake y b c → DoorsTake (x ++ y) a c
takes_join x y a b c h k = record {
  front = h.front ∙ ap (λ s. x ++ s) k.front ∙ sym (append_assoc x y c.unread);
  rest = k.rest ∙ ap (λ (d : Doorway). record d { unread = c.unread; begun = with_last (with_taken y) d.begun }) h.rest
      ∙ ap (λ (ts : List Talk). record a { unread = c.unread; begun = ts }) (last_join (with_taken x) (with_taken y) (with_taken (x ++ y)) (taken_join x y) a.begun);
}

pub part_sent : (bytes : List ℕ) (n : ℕ) → n < length bytes → (a b c : Doorway) → Writes (take n bytes) a b → Stays b c → WritesPart bytes a c
part_sent bytes n below a b c h k = record {
  part = take n bytes;
  cut = record { rest = drop n bytes; is = sym (take-append-drop n bytes); short = simp length-drop (omega arith) };
  sent = k ∙ h;
}

pub write_more : (bytes : List ℕ) (i n : ℕ) (a b c : Doorway) → Writes (take i bytes) a b → Writes (take n (take (length bytes - i) (drop i bytes))) b c → Writes (take (i + n) bytes) a c
write_more bytes i n a b c h k =
    let whole : take (length bytes - i) (drop i bytes) ≡ drop i bytes = take_all (length bytes - i) (drop i bytes) (simp length-drop (omega arith)) in
    rw (take-add i n bytes) (writes_join (take i bytes) (take n (drop i bytes)) a b c h (rw whole at k))
