-- A session that was just opened holds what fits the names of its app.
use Rattle.std.proofs.Common.{◌≡◌, ℕ, true, List, [], ◌∷◌, Some, arith}
use Rattle.fx_types.specs.Types.{Shape}
use Rattle.fx_core.specs.SourceTypes.{sources}
use Rattle.fx_core.specs.declared.names.Names.{Names}
use Rattle.fx_core.specs.declared.sources.Source.{Source}
use Rattle.fx_core.specs.declared.sources.Source.TheVariants as source
use Rattle.fx_value.specs.Fits.{fits_in}
use Rattle.session_state.specs.Changes.{FitsNames, HoldsTables, IsOwn}
use Rattle.session_state.specs.Sessions.{Holds, stored_value, opened}
use Rattle.session_state.proofs.Fitting.{fits_opened}
use Rattle.office.specs.app_semantics.Holding.{HoldsFitting}

-- the same names with one screen: it is no source
abbrev with_screen : Names → Names
with_screen n = record n { screens = [] ∷ [] }

with_tables : (n : Names) → HoldsTables n → HoldsTables (with_screen n)
with_tables n tables = λ k t e. tables k t e

fits : (n : Names) → HoldsTables n → FitsNames (with_screen n) (opened (with_screen n))
fits n tables = fits_opened (with_screen n) (omega (arith)) (with_tables n tables)

held_all : (n : Names) → HoldsTables n → (x : Source) (t : Shape) → IsOwn x → sources n x ≡ Some t → Holds (opened n) x
held_all n tables (source.Global k) t own e = (fits n tables).sources_held (source.Global k) t own e
held_all n tables (source.Context k) t own e = (fits n tables).sources_held (source.Context k) t own e
held_all n tables (source.Gathered k) t own e = (fits n tables).sources_held (source.Gathered k) t own e
held_all n tables (source.Input k) t own e = (fits n tables).sources_held (source.Input k) t own e
held_all n tables (source.Cell k) t own e = own
held_all n tables (source.Chosen k) t own e = own
held_all n tables (source.Table k) t own e = own
held_all n tables source.Today t own e = own

fit_all : (n : Names) → HoldsTables n → (x : Source) (t : Shape) → IsOwn x → sources n x ≡ Some t → fits_in (stored_value (opened n) x) t ≡ true
fit_all n tables (source.Global k) t own e = (fits n tables).values_fit (source.Global k) t own e
fit_all n tables (source.Context k) t own e = (fits n tables).values_fit (source.Context k) t own e
fit_all n tables (source.Gathered k) t own e = (fits n tables).values_fit (source.Gathered k) t own e
fit_all n tables (source.Input k) t own e = (fits n tables).values_fit (source.Input k) t own e
fit_all n tables (source.Cell k) t own e = absurd own
fit_all n tables (source.Chosen k) t own e = absurd own
fit_all n tables (source.Table k) t own e = absurd own
fit_all n tables source.Today t own e = absurd own

pub opened_holds : (n : Names) → HoldsTables n → HoldsFitting n (opened n)
opened_holds n tables = record { sources_held = held_all n tables; values_fit = fit_all n tables }
