-- Where values are fresh at a cell, they fit, and that of the cell is the one.
use Rattle.std.proofs.Common.{◌≡◌, ℕ, ◌<◌, List, length, Bool, true, false, Option, Some, None, refl, sym, subst, ◌∙◌}
use Rattle.std.proofs.lemmas.Option.{slice_get_within}
use Rattle.std.specs.List.{Contains, slice_get}
use Rattle.app_cells.specs.Leaning.{edges_of}
use Rattle.app_cells.specs.declared.app.App.{App}
use Rattle.app_cells.specs.declared.app.CellInfo.{CellInfo}
use Rattle.app_semantics.proofs.Freshness.{by_itself_fits, got, one_by_itself}
use Rattle.app_semantics.proofs.Ordered.{by_order, leaning_edge}
use Rattle.app_semantics.specs.Fresh.{IsByItself, IsCellValue, IsValueOf}
use Rattle.app_semantics.specs.Holding.{HoldRows, HoldsFitting}
use Rattle.app_semantics.specs.Laws.{OneFreshAt}
use Rattle.app_semantics.specs.Needed.{IsFreshAt, Needs, further, itself, stands_alone, stands_by}
use Rattle.app_semantics.specs.Present.{Present}
use Rattle.app_semantics.specs.Sound.{IsSoundApp}
use Rattle.fx_types.specs.TypeView.{shape}
use Rattle.fx_types.specs.Values.{Data, blank}
use Rattle.fx_semantics.specs.Unique.{OneValue}
use Rattle.fx_value.specs.Fits.{fits_in}

-- a formula that has no value by itself counts as blank
pub set_aside : (p : Present) (values : ℕ → Data) (c : CellInfo) (v : Data) → stands_alone c ≡ false → IsCellValue p values c v → v ≡ blank
set_aside p values c v e h = by c.cell.acts c.cell.item e h
  where
    by : (b : Bool) (o : Option ℕ) → stands_by b o ≡ false → IsByItself b o (IsValueOf p values None c v) v → v ≡ blank
    by false None q x = absurd cc
    by false (Some g) q x = x
    by true o q x = x

-- values fit where they are fresh
pub fits_at : (p : Present) (values : ℕ → Data) (k : ℕ) → IsSoundApp p.app → HoldsFitting p.app.names p.session → HoldRows p.app.names.schema p.tables → IsFreshAt p values k →
    (i : ℕ) (c : CellInfo) → slice_get p.app.cells i ≡ Some c → Needs p.app k i → fits_in (values i) (shape c.ty) ≡ true
fits_at p values k s n r fresh i c there need =
    by_order (length p.app.cells) (edges_of p.app.names p.app.cells) p.app.order s.order
    (λ j. (e : CellInfo) → slice_get p.app.cells j ≡ Some e → Needs p.app k j → fits_in (values j) (shape e.ty) ≡ true)
    (λ j lt before e at needed. by j e at needed (λ d edge f found. before d edge f found) (stands_alone e) refl)
    i (slice_get_within p.app.cells i c there) c there need
  where
    by : (j : ℕ) (e : CellInfo) → slice_get p.app.cells j ≡ Some e → Needs p.app k j → ((d : ℕ) → Contains (edges_of p.app.names p.app.cells) (j, d) → (f : CellInfo) → slice_get p.app.cells d ≡ Some f → Needs p.app k d → fits_in (values d) (shape f.ty) ≡ true) →
        (b : Bool) → stands_alone e ≡ b → fits_in (values j) (shape e.ty) ≡ true
    by j e at needed before true alone =
        by_itself_fits p values e (values j) s n r (s.cells j e at)
        (λ x among d f behind found. before d (leaning_edge p.app.names p.app.cells j e d at (x, among, behind)) f found (further k j d e needed at alone (x, among, behind))) (fresh j e needed at)
    by j e at needed before false aside = subst (λ d. fits_in d (shape e.ty) ≡ true) (sym (set_aside p values e (values j) aside (fresh j e needed at))) refl

pub one_fresh_at : OneValue → OneFreshAt
one_fresh_at one p values others k c s n known there fresh also =
    by_order (length p.app.cells) (edges_of p.app.names p.app.cells) p.app.order s.order (λ j. Needs p.app k j → values j ≡ others j)
    (λ j lt before needed. let e = got p.app.cells j lt in by j e.0 e.1 needed before (stands_alone e.0) refl)
    k (slice_get_within p.app.cells k c there) (itself k)
  where
    by : (j : ℕ) (e : CellInfo) → slice_get p.app.cells j ≡ Some e → Needs p.app k j → ((d : ℕ) → Contains (edges_of p.app.names p.app.cells) (j, d) → Needs p.app k d → values d ≡ others d) →
        (b : Bool) → stands_alone e ≡ b → values j ≡ others j
    by j e at needed before true alone =
        one_by_itself one p values others e (values j) (others j) s n known.fit (s.cells j e at)
        (λ x among d f behind found. fits_at p values k s n known.fit fresh d f found (further k j d e needed at alone (x, among, behind)))
        (λ x among d f behind found. fits_at p others k s n known.fit also d f found (further k j d e needed at alone (x, among, behind)))
        (known.told j e at)
        (λ x d among behind. before d (leaning_edge p.app.names p.app.cells j e d at (x, among, behind)) (further k j d e needed at alone (x, among, behind))) (fresh j e needed at) (also j e needed at)
    by j e at needed before false aside = set_aside p values e (values j) aside (fresh j e needed at) ∙ sym (set_aside p others e (others j) aside (also j e needed at))
