-- Names with their final types are one, but for the place of their table of functions.
use Rattle.std.proofs.Common.{inl, inr, ◌≡◌, ℕ, zero, suc, ◌+◌, ◌-◌, ◌≤◌, List, map, refl, ap, sym, subst, ◌∙◌, arith}
use Rattle.std.proofs.lemmas.Bool.{cases_lt}
use Rattle.std.specs.Borrow.{Bor}
use Rattle.app_cells.specs.declared.cell.Cell.{Cell as Formula}
use Rattle.app_cells.specs.declared.frame.Frame.{Frame}
use Rattle.app_names.specs.AppNames.{AreNamesOf, collections_among, variables_among}
use Rattle.app_loader.proofs.Functions.{things_alike}
use Rattle.app_loader.proofs.JudgedAlike.{round_alike}
use Rattle.app_loader.proofs.Below.{final_same}
use Rattle.fx_core.specs.declared.signatures.Signature.{Signature}
use Rattle.fx_typing.specs.Rounds.{AfterRounds, Cell, AreFinalTypes, SameNames, StillChanges, next_types, types_in}
use Rattle.fx_core.specs.declared.names.Names.{Names}
use Rattle.fx_sig.specs.Entries.{entry}
use Rattle.fx_infer.proofs.Only.{after_one, final_settles}

same_after : (cs : List Cell) (n : Names) (k : ℕ) (m : Names) → AfterRounds cs n k m → SameNames n m
same_after cs n zero m a = a.0
same_after cs n (suc k) m a = a.0

-- types that a round keeps are kept by all further ones
kept : (cs : List Cell) (n m : Names) (k d : ℕ) → AfterRounds cs n k m → next_types cs m ≡ types_in m → (j : ℕ) → j ≡ k + d → AfterRounds cs n j m
kept cs n m k zero a e j q = subst (λ i. AfterRounds cs n i m) (omega (arith, q)) a
kept cs n m k (suc d) a e zero q = absurd (omega (arith, q))
kept cs n m k (suc d) a e (suc j) q =
    let before = kept cs n m k d a e j (omega (arith, q)) in
    (same_after cs n j m before, m, before, sym e)

final_behind : (cs : List Cell) (n a b : Names) (x : AreFinalTypes cs n a) (y : AreFinalTypes cs n b) → x.0 ≤ y.0 → a ≡ b
final_behind cs n a b x y l = after_one cs n y.0 a b (kept cs n a x.0 (y.0 - x.0) x.2 x.3 y.0 (omega (arith, l))) y.2

final_one : (cs : List Cell) (n a b : Names) → AreFinalTypes cs n a → AreFinalTypes cs n b → a ≡ b
final_one cs n a b x y = elim (cases_lt y.0 x.0) [
  | inl less ↦ sym (final_behind cs n b a y x (omega (arith, less)))
  | inr more ↦ final_behind cs n a b x y (omega (arith, more))
]

-- ---- where the table of functions stands
abbrev pub functions_at : Names → Bor (List Signature) → Names
functions_at m s = record m { signatures = s }

-- both tables have the same entries
abbrev pub AreAlike : Bor (List Signature) → Bor (List Signature) → Type 0
AreAlike s t = map entry s.now ≡ map entry t.now

same_alike : (n : Names) (s : Bor (List Signature)) (m : Names) → SameNames (functions_at n s) m → SameNames n (functions_at m n.signatures)
same_alike n s m a = record {
  signatures = refl;
  schema = a.schema;
  screens = a.screens;
  functions = a.functions;
  properties = a.properties;
  controls = a.controls;
  formulas = a.formulas;
  variables = a.variables;
  collections = a.collections;
}

after_alike : (cs : List Cell) (n : Names) (s : Bor (List Signature)) (k : ℕ) (m : Names) → AreAlike s n.signatures → AfterRounds cs (functions_at n s) k m → AfterRounds cs n k (functions_at m n.signatures)
after_alike cs n s zero m e a = (same_alike n s m a.0, a.1)
after_alike cs n s (suc k) m e a =
    let before = a.1 in
    let same = same_after cs (functions_at n s) k before a.2 in
    let functions : AreAlike before.signatures n.signatures = ap (λ (r : Bor (List Signature)). map entry r.now) (sym same.signatures) ∙ e in
    (same_alike n s m a.0, functions_at before n.signatures, after_alike cs n s k before e a.2, a.3 ∙ round_alike before before.signatures n.signatures functions cs)

final_alike : (cs : List Cell) (n : Names) (s : Bor (List Signature)) (m : Names) → AreAlike s n.signatures → AreFinalTypes cs (functions_at n s) m → AreFinalTypes cs n (functions_at m n.signatures)
final_alike cs n s m e x =
    let same = same_after cs (functions_at n s) x.0 m x.2 in
    let functions : AreAlike m.signatures n.signatures = ap (λ (r : Bor (List Signature)). map entry r.now) (sym same.signatures) ∙ e in
    (x.0, x.1, after_alike cs n s x.0 m e x.2, sym (round_alike m m.signatures n.signatures functions cs) ∙ x.3)

-- ---- the names of cells
names_alike : (f : Frame) (cells : List Formula) (n k : Names) → AreNamesOf f cells n → AreNamesOf f cells k → k ≡ functions_at n k.signatures
names_alike f cells n k a b =
    let things = things_alike k.signatures.now n.signatures.now (b.signatures ∙ sym a.signatures) f cells in
    λ i. record {
      signatures = k.signatures;
      schema = (b.schema ∙ sym a.schema) i;
      screens = (b.screens ∙ sym a.screens) i;
      functions = (b.functions ∙ sym a.functions) i;
      controls = (b.controls ∙ sym a.controls) i;
      properties = (b.properties ∙ sym a.properties) i;
      formulas = (b.formulas ∙ sym a.formulas) i;
      variables = (b.variables ∙ ap variables_among things ∙ sym a.variables) i;
      collections = (b.collections ∙ ap collections_among things ∙ sym a.collections) i;
    }

-- final names of the same cells
pub final_names : (f : Frame) (cs : List Cell) (cells : List Formula) (n k a b : Names) → AreNamesOf f cells n → AreNamesOf f cells k → AreFinalTypes cs n a → AreFinalTypes cs k b
    → (b ≡ functions_at a b.signatures) × AreAlike b.signatures a.signatures
final_names f cs cells n k a b x y s t =
    let alike : AreAlike k.signatures n.signatures = y.signatures ∙ sym x.signatures in
    let moved : AreFinalTypes cs (functions_at n k.signatures) b = subst (λ (z : Names). AreFinalTypes cs z b) (names_alike f cells n k x y) t in
    let one : functions_at b n.signatures ≡ a = final_one cs n (functions_at b n.signatures) a (final_alike cs n k.signatures b alike moved) s in
    let first = final_same cs n a s in
    let second = final_same cs k b t in (
      ap (λ (z : Names). functions_at z b.signatures) one,
      ap (λ (r : Bor (List Signature)). map entry r.now) (sym second.signatures) ∙ alike ∙ ap (λ (r : Bor (List Signature)). map entry r.now) first.signatures,
    )

-- names that settle don't change in each round
pub settles_alike : (f : Frame) (cs : List Cell) (cells : List Formula) (n k a : Names) → AreNamesOf f cells n → AreNamesOf f cells k → AreFinalTypes cs n a → StillChanges cs k → ⊥
settles_alike f cs cells n k a x y s t =
    let alike : AreAlike n.signatures k.signatures = x.signatures ∙ sym y.signatures in
    let moved : AreFinalTypes cs (functions_at k n.signatures) a = subst (λ (z : Names). AreFinalTypes cs z a) (names_alike f cells k n y x) s in
    final_settles cs k (functions_at a k.signatures) (final_alike cs k n.signatures a alike moved) t
