-- What is brought up to date is fresh where it is looked at.
use Rattle.std.proofs.Common.{◌≡◌, ℕ, List, Bool, true, false, Option, Some, None, refl, sym, subst, ap, ◌∙◌}
use Rattle.std.specs.List.{Contains, slice_get}
use Rattle.std.specs.Prelude.{option_map, unwrap_or}
use Rattle.std.proofs.lemmas.Bool.{both_ways}
use Rattle.recalc.proofs.Kept.{no_value}
use Rattle.recalc.specs.app_cells.declared.app.App.{App}
use Rattle.recalc.specs.app_cells.declared.app.CellInfo.{CellInfo}
use Rattle.recalc.specs.app_semantics.Fresh.{IsCellValue}
use Rattle.recalc.specs.app_semantics.Needed.{IsFreshAt, Needs, further, is_alone, itself, stands_alone}
use Rattle.recalc.specs.app_semantics.Present.{Present}
use Rattle.fx_types.specs.Values.{Data, blank}
use Rattle.recalc.specs.Kept.{IsClean, IsInOrder, CacheState, stamp_of, cached_value}
use Rattle.recalc.specs.Steps.{KeepsClean}
use Rattle.recalc.specs.declared.stamps.Stamp.{Stamp}
use Rattle.session_views.specs.Bounds.{AreMade}
use Rattle.session_views.specs.Looking.{AreFreshFor, AreLookedAt, is_control_among, is_on_screen}
use Rattle.session_views.specs.declared.roots.Part.TheVariants as part

alone_of : (cells : List CellInfo) (k : ℕ) (i : CellInfo) → slice_get cells k ≡ Some i → is_alone cells k ≡ stands_alone i
alone_of cells k i there = ap (λ (o : Option CellInfo). unwrap_or (option_map stands_alone o) false) there

one_stamp : (e f : Stamp) (o : Option Stamp) → o ≡ Some e → o ≡ Some f → f ≡ e
one_stamp e f o x y = cc

-- a formula that has no value by itself needs itself alone
only_itself : (a : App) (k d : ℕ) → is_alone a.cells k ≡ false → Needs a k d → d ≡ k
only_itself a k d e (itself j) = refl
only_itself a k d e (further j x y i need there alone leans) =
    let same : x ≡ j = only_itself a j x e need in
    absurd (both_ways (is_alone a.cells j) e (subst (λ n. is_alone a.cells n ≡ true) same (alone_of a.cells x i there ∙ alone)))

-- and is fresh where it is blank
pub fresh_aside : (p : Present) (values : ℕ → Data) (k : ℕ) → is_alone p.app.cells k ≡ false → values k ≡ blank → IsFreshAt p values k
fresh_aside p values k e bare = λ d i need there.
    let same : d ≡ k = only_itself p.app k d e need in
    no_value p values i (values d) (sym (alone_of p.app.cells d i there) ∙ subst (λ n. is_alone p.app.cells n ≡ false) (sym same) e) (ap values same ∙ bare)

-- the cells that are looked at are fresh, where those are that have a value by themselves
pub fresh_for : (p : Present) (c : CacheState) (of : ℕ → Bool) (roots : List ℕ) → IsInOrder p.app c → AreLookedAt p.app of roots → ((k : ℕ) → Contains roots k → IsFreshAt p (cached_value c) k) → AreFreshFor p (cached_value c) of
fresh_for p c of roots order looked fresh = λ k at. by k (is_alone p.app.cells k) refl (λ own. fresh k ((looked k).1 (at, own)))
  where
    by : (k : ℕ) (b : Bool) → is_alone p.app.cells k ≡ b → (is_alone p.app.cells k ≡ true → IsFreshAt p (cached_value c) k) → IsFreshAt p (cached_value c) k
    by k true e h = h e
    by k false e h = fresh_aside p (cached_value c) k e (order.bare k e)

-- what a clean cell needs is clean, but for formulas that have no value by themselves
pub needed_clean : (a : App) (c : CacheState) → IsInOrder a c → (k d : ℕ) → (is_alone a.cells k ≡ true → IsClean a c k) → Needs a k d → is_alone a.cells d ≡ true → IsClean a c d
needed_clean a c o k d clean (itself j) own = clean own
needed_clean a c o k d clean (further j x y i need there alone leans) own =
    let below : IsClean a c x = needed_clean a c o j x clean need (alone_of a.cells x i there ∙ alone) in
    (o.leans x y below.0 below.1 below.2 (i, there, leans, own)).0

-- each cell that is needed is clean
pub made_for : (a : App) (c : CacheState) (of : ℕ → Bool) (roots : List ℕ) → IsInOrder a c → AreLookedAt a of roots → ((k : ℕ) → Contains roots k → IsClean a c k) → AreMade a of c
made_for a c of roots order looked clean = λ r k at need own. needed_clean a c order r k (λ alone. clean r ((looked r).1 (at, alone))) need own

-- ---- calls
-- where nothing is done, nothing is lost
pub leaves_none : (a : App) (c : CacheState) → KeepsClean a c c
leaves_none a c = record {
  still = λ k h. h;
  later = record { still = λ k h. h; moved = λ k e f x y same. ap (λ (s : Stamp). s.moved) (one_stamp e f (stamp_of c k) x y) };
  emptied = refl;
  versions = refl;
  day = refl;
}

-- the cells that are looked at on a screen
pub looked_on : (a : App) (s t : ℕ) (roots : List ℕ) → s ≡ t → AreLookedAt a (is_control_among a.names (part.Screen s)) roots → AreLookedAt a (is_on_screen a.names t) roots
looked_on a s t roots e h = subst (λ n. AreLookedAt a (is_on_screen a.names n) roots) e h

-- and as they are lent
pub lent : (a : App) (of : ℕ → Bool) (roots slice : List ℕ) → slice ≡ roots → AreLookedAt a of roots → AreLookedAt a of slice
lent a of roots slice e h = subst (AreLookedAt a of) (sym e) h
