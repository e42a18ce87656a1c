use Rattle.std.proofs.Common.{◌≡◌, ℕ, ◌<◌, ◌+◌, length, slice_index, true, false, Bool, ◌⊎◌, inl, inr, refl, nat_lt, List, arith, subst, sym}
use Rattle.std.proofs.lemmas.Bool.Decides.{nat_tests}
use Rattle.std.specs.Char.{is_digit}
use Rattle.app_wire.proofs.parts.has_whole_escapes.Goals as goal
use Rattle.app_wire.proofs.parts.has_whole_escapes.Goals.{else-byte-eq37-via-then-byte-eq37+else-not-is_escape_at, else-byte-eq37-via-else-byte-eq37}

-- an escape goes on behind the place
abbrev Behind : List ℕ → ℕ → Type 0
Behind bytes i = (i + 2 < length bytes) × (is_digit (slice_index bytes (i + 1)) 16 ≡ true) × (is_digit (slice_index bytes (i + 2)) 16 ≡ true)

below : (i n : ℕ) → i < n + 1 → (i < n) ⊎ (n ≡ i)
below i n h = by (nat_lt i n) refl
  where
    by : (v : Bool) → nat_lt i n ≡ v → (i < n) ⊎ (n ≡ i)
    by true q = let less : i < n = grind (arith, nat_tests) in inl less
    by false q = let same : n ≡ i = grind (arith, nat_tests) in inr same

one_more : (bytes : List ℕ) (n : ℕ) → ((i : ℕ) → i < n → slice_index bytes i ≡ 37 → Behind bytes i) → (slice_index bytes n ≡ 37 → Behind bytes n)
    → (i : ℕ) → i < n + 1 → slice_index bytes i ≡ 37 → Behind bytes i
one_more bytes n before here i h e = by (below i n h)
  where
    by : (i < n) ⊎ (n ≡ i) → Behind bytes i
    by (inl less) = before i less e
    by (inr same) = subst (Behind bytes) same (here (subst (λ k. slice_index bytes k ≡ 37) (sym same) e))

pub loop-at-preserved : goal.loop-at-preserved
loop-at-preserved c = one_more c.args.bytes.now c.loop-at.at c.loop-at.invariant
    (elim c.else-byte-eq37.branch [ else-byte-eq37-via-then-byte-eq37+else-not-is_escape_at w ↦ λ e. w.is_escape_at.ensures.0 w.if-not-is_escape_at.false | else-byte-eq37-via-else-byte-eq37 w ↦ λ e. absurd (w.if-byte-eq37.false e) ])
