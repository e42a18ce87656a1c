-- Empty texts, and parts of texts.
use Rattle.std.proofs.Common.{◌≡◌, ℕ, zero, suc, ◌≤◌, Bool, true, false, List, [], ◌∷◌, length, take, nat_eq, refl, ap, ◌↔◌, arith}
use Rattle.std.specs.Prelude.{◌||◌, IsTrue, encode_utf8_all}
use Rattle.std.proofs.lemmas.Bool.Decides.{nat_tests}
use Rattle.std.proofs.lemmas.Slice.Eq.{bytes_eq-Decides}
use Rattle.std.proofs.lemmas.Str.{length-le-encodes}
use Rattle.std.proofs.lemmas.Bool.{or_right}
use Rattle.fx_types.specs.Values.{text}
use Rattle.fx_primitives.specs.Folding.{HasPart}
use Rattle.fx_primitives.specs.Search.{StandsAt}
use Rattle.row_queries.specs.RowTests.{is_prefix, has_part, is_empty_value}
use Rattle.fx_core.proofs.Spelled.{same_truth}

-- a text is empty where its bytes are
pub empty_by_bytes : (cs bs : List ℕ) → bs ≡ encode_utf8_all cs → nat_eq (length bs) 0 ≡ is_empty_value (text cs)
empty_by_bytes [] bs e = rw e refl
empty_by_bytes (c ∷ cs) bs e = let h : suc (length cs) ≤ length bs = rw e (length-le-encodes (c ∷ cs)) in grind (arith, nat_tests)

pub begins_there : (cs part : List ℕ) → is_prefix cs part ≡ true → StandsAt part cs 0
begins_there cs part h = record { within = omega arith; same = (bytes_eq-Decides (take (length part) cs) part).0 h }

pub there_begins : (cs part : List ℕ) → StandsAt part cs 0 → is_prefix cs part ≡ true
there_begins cs part s = (bytes_eq-Decides (take (length part) cs) part).1 s.same

pub part_there : (cs part : List ℕ) → has_part cs part ≡ true → HasPart cs part
part_there [] part h = (0, begins_there [] part h)
part_there (c ∷ cs) part h = by (is_prefix (c ∷ cs) part) refl (part_there cs part) h
  where
    by : (b : Bool) → is_prefix (c ∷ cs) part ≡ b → (has_part cs part ≡ true → HasPart cs part) → (b || has_part cs part) ≡ true → HasPart (c ∷ cs) part
    by true e f h = (0, begins_there (c ∷ cs) part e)
    by false e f h = let w = f h in (suc w.0, record { within = let k = w.1.within in omega (arith, k); same = w.1.same })

pub there_part : (cs part : List ℕ) (place : ℕ) → StandsAt part cs place → has_part cs part ≡ true
there_part [] part zero s = there_begins [] part s
there_part [] part (suc k) s = absurd (let h = s.within in omega (arith, h))
there_part (c ∷ cs) part zero s = ap (λ b. b || has_part cs part) (there_begins (c ∷ cs) part s)
there_part (c ∷ cs) part (suc k) s =
    or_right (is_prefix (c ∷ cs) part) (has_part cs part) (there_part cs part k (record { within = let h = s.within in omega (arith, h); same = s.same }))

pub has_part_by : (cs part : List ℕ) (b : Bool) → IsTrue b ↔ HasPart cs part → b ≡ has_part cs part
has_part_by cs part b h = same_truth b (has_part cs part) (λ e. let w = h.0 e in there_part cs part w.0 w.1) (λ e. h.1 (part_there cs part e))
