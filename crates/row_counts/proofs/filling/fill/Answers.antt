use Rattle.std.proofs.Common.{◌≡◌, ◌+◌, ◌∙◌, ℕ, List, Option, Some, ap, arith, length, refl, subst, sym}
use Rattle.std.specs.Prelude.{IsSome, slice_get}
use Rattle.std.proofs.lemmas.Option.{slice_get_read}
use Rattle.fx_base.specs.Silence.{SilenceCause}
use Rattle.fx_core.specs.declared.schema.Schema.{Schema}
use Rattle.fx_core.specs.declared.schema.TableShape.{TableShape}
use Rattle.row_keeper.specs.Shaped.{Shaped}
use Rattle.row_keeper.specs.Tables.{shapes_of}
use Rattle.row_books.specs.declared.book.Book.{Book}
use Rattle.row_counts.specs.Filling.{AreFilled, IsFilled}
use Rattle.row_counts.proofs.FillLemmas.{all_counted, all_still, filled_more, filled_none, filled_stays}
use Rattle.row_counts.proofs.Looks.{looks_none, looks_then}
use Rattle.row_counts.proofs.filling.fill.Goals as goal

pub loop-place-init : goal.loop-place-init
loop-place-init g c =
    let keeper = c.args.keeper.now in
    let shapes = c.args.schema.now.tables in
    record {
      looked = looks_none g.K.Keeper keeper;
      filled = subst (λ (books : List Book). AreFilled shapes (g.K.Keeper.told keeper) 0 books) (sym c.new-books.ensures.items) (filled_none shapes (g.K.Keeper.told keeper));
    }

pub fill_table-requires : goal.fill_table-requires
fill_table-requires g c =
    let items = c.as_slice-shape-items.result.now in
    let place = c.loop-place.place in
    let shape = c.shape-item.result in
    let there : slice_get items place ≡ Some shape = slice_get_read items (length items) place shape refl c.loop-place-test.true c.shape-item.is in
    let named = subst (λ (shapes : List TableShape). slice_get shapes place ≡ Some shape) c.as_slice-shape-items.ensures there in
    let shaped = ap (λ (s : Shaped). s.now) c.loop-place.invariant.looked.shaped ∙ c.requires.shaped in
    subst (λ (o : Option Schema). IsSome (slice_get (shapes_of o) place)) (sym shaped) (subst (λ (o : Option TableShape). IsSome o) (sym named) refl)

pub returns-in_err-fill_table-clause-looked : goal.returns-in_err-fill_table-clause-looked
returns-in_err-fill_table-clause-looked g c = looks_then g.K.Keeper c.args.keeper.now c.loop-place.keeper c.fill_table.new.keeper c.loop-place.invariant.looked c.fill_table.ensures.looked

pub returns-in_err-push-clause-looked : goal.returns-in_err-push-clause-looked
returns-in_err-push-clause-looked g c = looks_then g.K.Keeper c.args.keeper.now c.loop-place.keeper c.fill_table.new.keeper c.loop-place.invariant.looked c.fill_table.ensures.looked

pub loop-place-preserved : goal.loop-place-preserved
loop-place-preserved g c =
    let k = g.K.Keeper in
    let items = c.as_slice-shape-items.result.now in
    let shapes = c.args.schema.now.tables in
    let place = c.loop-place.place in
    let shape = c.shape-item.result in
    let old = c.loop-place.keeper in
    let new = c.fill_table.new.keeper in
    let book = c.in_ok-fill_table.field-0 in
    let there : slice_get items place ≡ Some shape = slice_get_read items (length items) place shape refl c.loop-place-test.true c.shape-item.is in
    let named = subst (λ (shapes : List TableShape). slice_get shapes place ≡ Some shape) c.as_slice-shape-items.ensures there in
    let filled = subst (λ (n : ℕ). IsFilled n (k.told new) place book) c.len.ensures c.in_ok-fill_table.ensures.filled in
    let before = filled_stays (SilenceCause (k.marks old) (k.marks new)) shapes place c.loop-place.books.items (k.told old) (k.told new) c.fill_table.ensures.looked.told c.loop-place.invariant.filled in
    record {
      looked = looks_then k c.args.keeper.now old new c.loop-place.invariant.looked c.fill_table.ensures.looked;
      filled = subst (λ (books : List Book). AreFilled shapes (k.told new) (place + 1) books) (sym c.in_ok-push.ensures.items) (filled_more shapes (k.told new) place shape book c.loop-place.books.items named before filled);
    }

pub returns-clause-counted : goal.returns-clause-counted
returns-clause-counted g c =
    let shapes = c.args.schema.now.tables in
    let told = g.K.Keeper.told c.loop-place.keeper in
    let many = ap length c.as_slice-shape-items.ensures in
    let all : c.loop-place.place ≡ length shapes = omega (arith, many, c.loop-place-test.false, c.loop-place.auto.place-end) in
    all_counted c.args.schema.now told c.loop-place.books.items (subst (λ (n : ℕ). AreFilled shapes told n c.loop-place.books.items) all c.loop-place.invariant.filled)

pub returns-clause-still : goal.returns-clause-still
returns-clause-still g c =
    let shapes = c.args.schema.now.tables in
    let told = g.K.Keeper.told c.loop-place.keeper in
    let many = ap length c.as_slice-shape-items.ensures in
    let all : c.loop-place.place ≡ length shapes = omega (arith, many, c.loop-place-test.false, c.loop-place.auto.place-end) in
    all_still shapes told c.loop-place.books.items (subst (λ (n : ℕ). AreFilled shapes told n c.loop-place.books.items) all c.loop-place.invariant.filled)
