-- The values of clean cells are fresh.
use Rattle.std.proofs.Common.{◌≡◌, ◌∙◌, ℕ, [], Bool, true, false, Some, refl, subst, sym}
use Rattle.std.specs.List.{slice_get}
use Rattle.recalc.proofs.Kept.{no_value}
use Rattle.recalc.specs.Asking.{ToldRows}
use Rattle.recalc.specs.app_cells.Reach.{named}
use Rattle.recalc.specs.app_cells.declared.app.App.{App}
use Rattle.recalc.specs.app_cells.declared.app.CellInfo.{CellInfo}
use Rattle.recalc.specs.app_semantics.Fresh.{IsCellValue}
use Rattle.recalc.specs.app_semantics.Needed.{IsFreshAt, Needs, further, is_alone, itself, stands_alone}
use Rattle.recalc.specs.app_semantics.Present.{Present, present}
use Rattle.session_state.specs.Sessions.{SessionState}
use Rattle.recalc.proofs.Places.{alone_of, aside_of}
use Rattle.recalc.specs.Kept.{IsClean, IsInOrder, IsRight, IsUnmoved, CacheState, cached_value}

-- what a clean cell needs is clean, but for formulas that have no value by themselves
needed_clean : (a : App) (c : CacheState) → IsInOrder a c → (k d : ℕ) → Needs a k d → IsClean a c k → is_alone a.cells d ≡ true → IsClean a c d
needed_clean a c o k d (itself j) clean own = clean
needed_clean a c o k d (further j x y i need there alone leans) clean own =
    let below : IsClean a c x = needed_clean a c o j x need clean (alone_of a.cells x i there alone) in
    (o.leans x y below.0 below.1 below.2 (i, there, leans, own)).0

-- nothing that a clean cell names moved since it was checked
pub clean_unmoved : (a : App) (c : CacheState) → IsInOrder a c → (k : ℕ) (i : CellInfo) → slice_get a.cells k ≡ Some i → (clean : IsClean a c k) → IsUnmoved a c i (clean.0).checked
clean_unmoved a c o k i there clean = record {
  sources = λ s plain among. clean.2 s plain (named k i s there among);
  cells = λ d leans own. (o.leans k d clean.0 clean.1 clean.2 (i, there, leans, own)).1;
}

pub clean_is_fresh : (p : Present) (c : CacheState) (k : ℕ) → IsRight p [] c → IsClean p.app c k → IsFreshAt p (cached_value c) k
clean_is_fresh p c k r clean = λ d i need there. by d i need there (stands_alone i) refl
  where
    by : (d : ℕ) (i : CellInfo) → Needs p.app k d → slice_get p.app.cells d ≡ Some i → (b : Bool) → stands_alone i ≡ b → IsCellValue p (cached_value c) i (cached_value c d)
    by d i need there true alone =
        let below : IsClean p.app c d = needed_clean p.app c r.order k d need clean (alone_of p.app.cells d i there alone) in
        r.valid d below.0 i below.1 there (λ x l n. absurd l) (clean_unmoved p.app c r.order d i there below)
    by d i need there false aside = no_value p (cached_value c) i (cached_value c d) aside (r.order.bare d (aside_of p.app.cells d i there aside))

pub clean_fresh : (a : App) (s : SessionState) (tables : ToldRows) (m : ℕ) (c : CacheState) (k : ℕ) → IsRight (present a s tables m) [] c → IsClean a c k → IsFreshAt (present a s tables m) (cached_value c) k
clean_fresh a s tables m = clean_is_fresh (present a s tables m)

-- a formula that has no value by itself needs none
needs_itself : (a : App) (d e : ℕ) → is_alone a.cells d ≡ false → Needs a d e → d ≡ e
needs_itself a d e aside (itself j) = refl
needs_itself a d e aside (further j x y i need there alone leans) =
    let same : d ≡ x = needs_itself a d x aside need in
    let out : is_alone a.cells x ≡ false = subst (λ z. is_alone a.cells z ≡ false) same aside in
    let clash : false ≡ true = sym out ∙ alone_of a.cells x i there alone in
    absurd cc

-- and is blank, as it should be
pub aside_fresh : (a : App) (s : SessionState) (tables : ToldRows) (m : ℕ) (c : CacheState) (d : ℕ) → IsInOrder a c → is_alone a.cells d ≡ false → IsFreshAt (present a s tables m) (cached_value c) d
aside_fresh a s tables m c d order aside = λ e i need there. by e i there (subst (λ z. is_alone a.cells z ≡ false) (needs_itself a d e aside need) aside) (stands_alone i) refl
  where
    by : (e : ℕ) (i : CellInfo) → slice_get a.cells e ≡ Some i → is_alone a.cells e ≡ false → (b : Bool) → stands_alone i ≡ b → IsCellValue (present a s tables m) (cached_value c) i (cached_value c e)
    by e i there out true alone = let clash : false ≡ true = sym out ∙ alone_of a.cells e i there alone in absurd cc
    by e i there out false own = no_value (present a s tables m) (cached_value c) i (cached_value c e) own (order.bare e out)
