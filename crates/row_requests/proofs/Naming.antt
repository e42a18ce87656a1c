-- Tables that changes don't name stay as they are.
use Rattle.std.proofs.Common.{◌≡◌, ◌≢◌, ℕ, ◌+◌, ◌<◌, Bool, true, false, List, [], ◌∷◌, ◌++◌, get_or, length, set, take, Option, Some, None, refl, ap, sym, ◌∙◌, subst, inl, inr, Result, Ok, Err}
use Rattle.std.specs.Prelude.{option_map, slice_get, unwrap_or}
use Rattle.std.specs.List.{cons_option, list_any}
use Rattle.std.specs.Option.{option_to_list}
use Rattle.std.specs.Result.{is_ok}
use Rattle.std.proofs.lemmas.List.{get_or-set_other, take_more}
use Rattle.std.proofs.lemmas.List.Elements.{filter_map-append}
use Rattle.std.proofs.lemmas.Option.{unwrap_or-slice_get}
use Rattle.fx_base.specs.Silence.{MayFallSilent}
use Rattle.fx_base.proofs.Silences.{goes_weaker}
use Rattle.fx_core.specs.Reads.{IsAmong}
use Rattle.fx_core.specs.declared.schema.TableShape.{TableShape}
use Rattle.fx_core.specs.declared.sources.Source.{Source}
use Rattle.fx_core.specs.declared.sources.Source.TheVariants.{Table}
use Rattle.row_keeper.specs.RowRules.{rule_of}
use Rattle.row_keeper.specs.Tables.{TableState, Tables, columns_at, has_id, no_rows, state_at, with_cells, with_row, with_state, without_row}
use Rattle.row_queries.specs.declared.rows.Row.{Row}
use Rattle.view_text.specs.declared.refused.Refusal.{Refusal}
use Rattle.row_requests.specs.Changes.{then_others, before, blanks, cells_with, change_in_table, change_one, change_row, first_refusal, kept_refusal, perform, table_index, remove_row, row_with_id, table_changed, unless_refused}
use Rattle.row_requests.specs.DeskRows.{DeskTransaction, ChangesOutcome}
use Rattle.row_requests.specs.Written.{SameTablesExcept, changed_table, tables_named}
use Rattle.row_requests.specs.declared.bodies.Change.{Change}
use Rattle.row_requests.specs.declared.bodies.Change.TheVariants.{Add, Remove, Replace}

-- ---- one change

-- another table than the one that was set
set_aside : (t : Tables) (j : ℕ) (s : TableState) (k : ℕ) → k ≢ j → state_at (with_state t j s).states k ≡ state_at t.states k
set_aside t j s k far = unwrap_or-slice_get (set t.states j s) k no_rows ∙ get_or-set_other t.states j k s no_rows far ∙ sym (unwrap_or-slice_get t.states k no_rows)

set_is : (n : ℕ) (t : Tables) (j : ℕ) (s : TableState) (x : ℕ × Tables) (r : Result (ℕ × Tables) Refusal) → r ≡ Ok (n, with_state t j s) → r ≡ Ok x → (k : ℕ) → k ≢ j → state_at x.1.states k ≡ state_at t.states k
set_is n t j s x r p e k far =
    let is : (n, with_state t j s) ≡ x = cc in
    subst (λ (y : ℕ × Tables). state_at y.1.states k ≡ state_at t.states k) is (set_aside t j s k far)

unless_ok : (o : Option Refusal) (r : Result (ℕ × Tables) Refusal) (x : ℕ × Tables) → unless_refused o r ≡ Ok x → r ≡ Ok x
unless_ok None r x e = e
unless_ok (Some refusal) r x e = absurd cc

both_ok : (o p : Option Refusal) (r : Result (ℕ × Tables) Refusal) (x : ℕ × Tables) → unless_refused o (unless_refused p r) ≡ Ok x → r ≡ Ok x
both_ok o p r x e = unless_ok p r x (unless_ok o (unless_refused p r) x e)

changed_but : (shapes : List TableShape) (at : ℕ) (c : Change) (t : Tables) (o : Option ℕ) (x : ℕ × Tables) → change_in_table shapes at c t o ≡ Ok x → (k : ℕ) → (o ≡ Some k → ⊥) → state_at x.1.states k ≡ state_at t.states k
changed_but shapes at c t None x e k far = absurd cc
changed_but shapes at (Add name gs) t (Some j) x e k far =
    let columns = columns_at shapes j in
    let cells = cells_with gs columns (blanks columns) in
    set_is ((state_at t.states j).last + 1) t j (with_row cells (state_at t.states j)) x (Ok ((state_at t.states j).last + 1, with_state t j (with_row cells (state_at t.states j)))) refl
    (both_ok (first_refusal at columns gs) (option_map (kept_refusal at columns) (rule_of columns t.states j None cells)) (Ok ((state_at t.states j).last + 1, with_state t j (with_row cells (state_at t.states j)))) x e)
    k (λ same. far (ap Some (sym same)))
changed_but shapes at (Replace name id gs) t (Some j) x e k far = by (row_with_id id (state_at t.states j).rows) e
  where
    by : (r : Option Row) → change_row at (columns_at shapes j) j id gs t r ≡ Ok x → state_at x.1.states k ≡ state_at t.states k
    by None e = absurd cc
    by (Some r) e =
        let columns = columns_at shapes j in
        let cells = cells_with gs columns r.cells in
        set_is id t j (with_cells id cells (state_at t.states j)) x (Ok (id, with_state t j (with_cells id cells (state_at t.states j)))) refl
        (both_ok (first_refusal at columns gs) (option_map (kept_refusal at columns) (rule_of columns t.states j (Some id) cells)) (Ok (id, with_state t j (with_cells id cells (state_at t.states j)))) x e)
        k (λ same. far (ap Some (sym same)))
changed_but shapes at (Remove name id) t (Some j) x e k far = by (list_any (has_id id) (state_at t.states j).rows) e
  where
    by : (b : Bool) → remove_row j id t b ≡ Ok x → state_at x.1.states k ≡ state_at t.states k
    by false e = absurd cc
    by true e = set_is id t j (without_row id (state_at t.states j)) x (Ok (id, with_state t j (without_row id (state_at t.states j)))) refl e k (λ same. far (ap Some (sym same)))

-- ---- changes, one after another

first_named : (o : Option ℕ) (xs : List Source) (k : ℕ) → o ≡ Some k → IsAmong (Table k) (cons_option (option_map Table o) xs)
first_named None xs k e = absurd cc
first_named (Some j) xs k e = let same : j ≡ k = cc in inl (ap Table same)

later_named : (o : Option Source) (xs : List Source) (s : Source) → IsAmong s xs → IsAmong s (cons_option o xs)
later_named None xs s h = h
later_named (Some x) xs s h = inr h

perform_but : (shapes : List TableShape) (at : ℕ) (cs : List Change) (t : Tables) (y : List ℕ × Tables) → perform shapes at cs t ≡ Ok y → SameTablesExcept (tables_named shapes cs) t y.1
perform_but shapes at [] t y e k far =
    let is : ([], t) ≡ y = cc in
    ap (λ (z : List ℕ × Tables). state_at z.1.states k) (sym is)
perform_but shapes at (c ∷ cs) t y e k far = by (λ u z done. perform_but shapes (at + 1) cs u z done) (change_one shapes at c t) refl e
  where
    rest : ((u : Tables) (z : List ℕ × Tables) → perform shapes (at + 1) cs u ≡ Ok z → SameTablesExcept (tables_named shapes cs) u z.1)
        → (x : ℕ × Tables) → change_one shapes at c t ≡ Ok x → (r : Result (List ℕ × Tables) Refusal) → perform shapes (at + 1) cs x.1 ≡ r → before x.0 r ≡ Ok y → state_at y.1.states k ≡ state_at t.states k
    rest more x one (Err r) done e = absurd cc
    rest more x one (Ok z) done e =
        let is : (x.0 ∷ z.0, z.1) ≡ y = cc in
        ap (λ (w : List ℕ × Tables). state_at w.1.states k) (sym is)
        ∙ more x.1 z done k (λ among. far (later_named (changed_table shapes c) (tables_named shapes cs) (Table k) among))
        ∙ changed_but shapes at c t (table_index (table_changed c) shapes) x one k (λ named. far (first_named (table_index (table_changed c) shapes) (tables_named shapes cs) k named))

    by : ((u : Tables) (z : List ℕ × Tables) → perform shapes (at + 1) cs u ≡ Ok z → SameTablesExcept (tables_named shapes cs) u z.1)
        → (r : Result (ℕ × Tables) Refusal) → change_one shapes at c t ≡ r → then_others r (perform shapes (at + 1) cs) ≡ Ok y → state_at y.1.states k ≡ state_at t.states k
    by more (Err r) one e = absurd cc
    by more (Ok x) one e = rest more x one (perform shapes (at + 1) cs x.1) refl e

-- ---- whole transactions

accepted_but : (shapes : List TableShape) (cs : List Change) (o : ChangesOutcome) → is_ok o ≡ true → (a b : Tables) → DeskTransaction shapes cs o a b → SameTablesExcept (tables_named shapes cs) a b
accepted_but shapes cs (Ok ids) e a b h = perform_but shapes 0 cs a (ids, b) h
accepted_but shapes cs (Err r) e a b h = absurd cc

-- what is accepted writes the tables that it names
pub writes_named : (lost : Type 0) (shapes : List TableShape) (cs : List Change) (o : ChangesOutcome) (wrote : List Source) (x y : Option Tables) → is_ok o ≡ true → wrote ≡ tables_named shapes cs
    → MayFallSilent lost (DeskTransaction shapes cs o) x y → MayFallSilent lost (SameTablesExcept wrote) x y
writes_named lost shapes cs o wrote x y ok is h =
    subst (λ ws. MayFallSilent lost (SameTablesExcept ws) x y) (sym is) (goes_weaker lost (DeskTransaction shapes cs o) (SameTablesExcept (tables_named shapes cs)) (accepted_but shapes cs o ok) x y h)

-- ---- the tables of changes, one after another

alone : (o : Option Source) → cons_option o [] ≡ option_to_list o
alone None = refl
alone (Some x) = refl

-- the next change
pub named_more : (shapes : List TableShape) (changes : List Change) (i : ℕ) (c : Change) (items next : List Source) (o : Option Source) → i < length changes → c ≡ get_or changes i c → items ≡ tables_named shapes (take i changes)
    → o ≡ changed_table shapes c → next ≡ items ++ option_to_list o → next ≡ tables_named shapes (take (i + 1) changes)
named_more shapes changes i c items next o below is so_far one more =
    more ∙ ap (λ (l : List Source). l ++ option_to_list o) so_far
    ∙ ap (λ (l : List Source). tables_named shapes (take i changes) ++ l) (sym (alone o) ∙ ap (λ (p : Option Source). cons_option p []) (one ∙ ap (changed_table shapes) is))
    ∙ sym (filter_map-append (changed_table shapes) (take i changes) (get_or changes i c ∷ []))
    ∙ sym (ap (tables_named shapes) (take_more changes i c below))
