-- What becomes of one change.
use Rattle.std.proofs.Common.{◌≡◌, ℕ, ◌+◌, Bool, true, false, cond, ◌||◌, List, [], ◌∷◌, Option, Some, None, refl, ap, sym, ◌∙◌, subst, Ok}
use Rattle.std.specs.Prelude.{IfSome, option_map}
use Rattle.std.specs.List.{list_any}
use Rattle.fx_base.specs.Silence.{MayFallSilent, IsLater, SilenceCause, Marks}
use Rattle.fx_base.proofs.Silences.{goes_two, goes_weaker}
use Rattle.fx_types.specs.Values.{Data}
use Rattle.fx_core.specs.declared.schema.Column.{Column}
use Rattle.fx_core.specs.declared.schema.TableShape.{TableShape}
use Rattle.row_queries.specs.TableRows.{AreInIdOrder}
use Rattle.row_queries.specs.declared.rows.Row.{Row}
use Rattle.row_keeper.specs.Changes.{Inserts, Replaces}
use Rattle.row_keeper.specs.RowRules.{rule_of}
use Rattle.row_keeper.specs.Tables.{Tables, has_id, state_at, with_cells, with_row, with_state}
use Rattle.row_keeper.specs.declared.rows.Put.{Put}
use Rattle.row_keeper.specs.declared.rows.Put.TheVariants as put
use Rattle.view_text.specs.declared.refused.Refusal.{Refusal}
use Rattle.row_requests.specs.Changes.{add_row, blanks, cells_with, change_in_table, change_row, first_refusal, kept_refusal, table_index, row_with_id, table_changed, unless_refused}
use Rattle.row_requests.specs.Queries.{FindsRow}
use Rattle.numbered_requests.specs.Replies.{plain}
use Rattle.row_requests.specs.Steps.{ChangesOne, ChangeComesTo, came}
use Rattle.row_requests.specs.declared.bodies.Change.{Change}
use Rattle.row_requests.specs.declared.changes.Changed.{Changed}
use Rattle.row_requests.specs.declared.changes.Changed.TheVariants.{Id, Refused}

-- ---- what is told

-- no call
pub nowhere : {A : Type 0} (lost : Type 0) (P : A → A → Type 0) → ((a : A) → P a a) → (x : Option A) → MayFallSilent lost P x x
nowhere lost P same None = refl
nowhere lost P same (Some a) = same a

-- with what holds of the tables before
pub goes_with : {A : Type 0} (lost : Type 0) (S : A → Type 0) (P : A → A → Type 0) (x y : Option A) → IfSome x S → MayFallSilent lost P x y → MayFallSilent lost (λ a b. S a × P a b) x y
goes_with lost S P None y s h = h
goes_with lost S P (Some a) None s h = h
goes_with lost S P (Some a) (Some b) s h = (s, h)

-- ---- the answers of a keeper

pub inserted : (at : ℕ) (columns : List Column) (k : ℕ) (gs : List (List ℕ × Option Data)) (cells : List Data) (p : Put) → first_refusal at columns gs ≡ None → cells ≡ cells_with gs columns (blanks columns)
    → (a b : Tables) → Inserts columns k cells p a b → ChangeComesTo (add_row at columns k gs a) (came at columns p) a b
inserted at columns k gs cells (put.Id id) j e a b h =
    ap (λ o. unless_refused o (unless_refused (option_map (kept_refusal at columns) (rule_of columns a.states k None (cells_with gs columns (blanks columns)))) (Ok ((state_at a.states k).last + 1, with_state a k (with_row (cells_with gs columns (blanks columns)) (state_at a.states k)))))) j
    ∙ ap (λ cs. unless_refused (option_map (kept_refusal at columns) (rule_of columns a.states k None cs)) (Ok ((state_at a.states k).last + 1, with_state a k (with_row cs (state_at a.states k))))) (sym e)
    ∙ ap (λ o. unless_refused (option_map (kept_refusal at columns) o) (Ok ((state_at a.states k).last + 1, with_state a k (with_row cells (state_at a.states k))))) h.0
    ∙ ap (λ (n : ℕ). Ok (n, with_state a k (with_row cells (state_at a.states k)))) (sym h.1)
    ∙ ap (λ (t : Tables). Ok (id, t)) (sym h.2)
inserted at columns k gs cells put.NoRow j e a b h = absurd h
inserted at columns k gs cells (put.Refused r) j e a b h = (
  ap (λ o. unless_refused o (unless_refused (option_map (kept_refusal at columns) (rule_of columns a.states k None (cells_with gs columns (blanks columns)))) (Ok ((state_at a.states k).last + 1, with_state a k (with_row (cells_with gs columns (blanks columns)) (state_at a.states k)))))) j
      ∙ ap (λ cs. unless_refused (option_map (kept_refusal at columns) (rule_of columns a.states k None cs)) (Ok ((state_at a.states k).last + 1, with_state a k (with_row cs (state_at a.states k))))) (sym e)
      ∙ ap (λ o. unless_refused (option_map (kept_refusal at columns) o) (Ok ((state_at a.states k).last + 1, with_state a k (with_row cells (state_at a.states k))))) h.0,
  h.1,
)

any_found : (id : ℕ) (rows : List Row) (r : Row) → row_with_id id rows ≡ Some r → list_any (has_id id) rows ≡ true
any_found id [] r e = absurd cc
any_found id (x ∷ rows) r e = by (has_id id x) e (λ f. any_found id rows r f)
  where
    by : (b : Bool) → cond b (Some x) (row_with_id id rows) ≡ Some r → (row_with_id id rows ≡ Some r → list_any (has_id id) rows ≡ true) → (b || list_any (has_id id) rows) ≡ true
    by true f rest = refl
    by false f rest = rest f

-- a row that was found
abbrev pub Found : ℕ → ℕ → Option Row → Tables → Tables → Type 0
Found k id o a b = AreInIdOrder (state_at a.states k).rows × FindsRow k id o a b

pub unfound : (at : ℕ) (columns : List Column) (k id : ℕ) (gs : List (List ℕ × Option Data)) (a b : Tables) → Found k id None a b
    → ChangeComesTo (change_row at columns k id gs a (row_with_id id (state_at a.states k).rows)) (Refused (plain 22)) a b
unfound at columns k id gs a b h = (ap (change_row at columns k id gs a) (sym (h.1.0 h.0)), h.1.1)

pub unjudged : (at : ℕ) (columns : List Column) (k id : ℕ) (gs : List (List ℕ × Option Data)) (r : Row) (refusal : Refusal) → first_refusal at columns gs ≡ Some refusal → (a b : Tables) → Found k id (Some r) a b
    → ChangeComesTo (change_row at columns k id gs a (row_with_id id (state_at a.states k).rows)) (Refused refusal) a b
unjudged at columns k id gs r refusal j a b h = (
  ap (change_row at columns k id gs a) (sym (h.1.0 h.0))
      ∙ ap (λ o. unless_refused o (unless_refused (option_map (kept_refusal at columns) (rule_of columns a.states k (Some id) (cells_with gs columns r.cells))) (Ok (id, with_state a k (with_cells id (cells_with gs columns r.cells) (state_at a.states k)))))) j,
  h.1.1,
)

pub replaced : (at : ℕ) (columns : List Column) (k id : ℕ) (gs : List (List ℕ × Option Data)) (r : Row) (cells : List Data) (p : Put) → first_refusal at columns gs ≡ None → cells ≡ cells_with gs columns r.cells
    → (a b c : Tables) → Found k id (Some r) a b → Replaces columns k id cells p b c
    → ChangeComesTo (change_row at columns k id gs a (row_with_id id (state_at a.states k).rows)) (came at columns p) a c
replaced at columns k id gs r cells p j e a b c h q = by p (subst (λ (t : Tables). Replaces columns k id cells p t c) h.1.1 q)
  where
    begun : change_row at columns k id gs a (row_with_id id (state_at a.states k).rows)
        ≡ unless_refused (option_map (kept_refusal at columns) (rule_of columns a.states k (Some id) cells)) (Ok (id, with_state a k (with_cells id cells (state_at a.states k))))
    begun =
        ap (change_row at columns k id gs a) (sym (h.1.0 h.0))
        ∙ ap (λ o. unless_refused o (unless_refused (option_map (kept_refusal at columns) (rule_of columns a.states k (Some id) (cells_with gs columns r.cells))) (Ok (id, with_state a k (with_cells id (cells_with gs columns r.cells) (state_at a.states k)))))) j
        ∙ ap (λ cs. unless_refused (option_map (kept_refusal at columns) (rule_of columns a.states k (Some id) cs)) (Ok (id, with_state a k (with_cells id cs (state_at a.states k))))) (sym e)

    by : (p : Put) → Replaces columns k id cells p a c → ChangeComesTo (change_row at columns k id gs a (row_with_id id (state_at a.states k).rows)) (came at columns p) a c
    by (put.Id n) q =
        begun
        ∙ ap (λ o. unless_refused (option_map (kept_refusal at columns) o) (Ok (id, with_state a k (with_cells id cells (state_at a.states k))))) q.2
        ∙ ap (λ (m : ℕ). Ok (m, with_state a k (with_cells id cells (state_at a.states k)))) (sym q.0)
        ∙ ap (λ (t : Tables). Ok (n, t)) (sym q.3)
    by put.NoRow q = absurd (let z : true ≡ false = sym (any_found id (state_at a.states k).rows r (sym (h.1.0 h.0))) ∙ q.0 in cc)
    by (put.Refused rule) q = (
      begun ∙ ap (λ o. unless_refused (option_map (kept_refusal at columns) o) (Ok (id, with_state a k (with_cells id cells (state_at a.states k))))) q.1,
      q.2,
    )

-- two calls together
pub replacing : (at : ℕ) (columns : List Column) (k id : ℕ) (gs : List (List ℕ × Option Data)) (r : Row) (cells : List Data) (p : Put) → first_refusal at columns gs ≡ None → cells ≡ cells_with gs columns r.cells
    → (l m n : Marks) → IsLater l m → IsLater m n → (x y z : Option Tables) → MayFallSilent (SilenceCause l m) (Found k id (Some r)) x y → MayFallSilent (SilenceCause m n) (Replaces columns k id cells p) y z
    → MayFallSilent (SilenceCause l n) (λ a b. ChangeComesTo (change_row at columns k id gs a (row_with_id id (state_at a.states k).rows)) (came at columns p) a b) x z
replacing at columns k id gs r cells p j e l m n later later' x y z =
    goes_two (Found k id (Some r)) (Replaces columns k id cells p) (λ a b. ChangeComesTo (change_row at columns k id gs a (row_with_id id (state_at a.states k).rows)) (came at columns p) a b)
    (replaced at columns k id gs r cells p j e) l m n later later' x y z

-- ---- the same of what is told

pub unfound_goes : (columns : List Column) (at k id : ℕ) (gs : List (List ℕ × Option Data)) (lost : Type 0) (x y : Option Tables) (o : Option Row) (r : Changed) → o ≡ None → r ≡ Refused (plain 22)
    → IfSome x (λ (t : Tables). AreInIdOrder (state_at t.states k).rows) → MayFallSilent lost (FindsRow k id o) x y
    → MayFallSilent lost (λ a b. ChangeComesTo (change_row at columns k id gs a (row_with_id id (state_at a.states k).rows)) r a b) x y
unfound_goes columns at k id gs lost x y o r e f ordered h =
    subst (λ (q : Changed). MayFallSilent lost (λ a b. ChangeComesTo (change_row at columns k id gs a (row_with_id id (state_at a.states k).rows)) q a b) x y) (sym f)
    (goes_weaker lost (Found k id None) (λ a b. ChangeComesTo (change_row at columns k id gs a (row_with_id id (state_at a.states k).rows)) (Refused (plain 22)) a b) (unfound at columns k id gs) x y
    (goes_with lost (λ (t : Tables). AreInIdOrder (state_at t.states k).rows) (FindsRow k id None) x y ordered (subst (λ q. MayFallSilent lost (FindsRow k id q) x y) e h)))

found_goes : (k id : ℕ) (lost : Type 0) (x y : Option Tables) (o : Option Row) (row : Row) → o ≡ Some row
    → IfSome x (λ (t : Tables). AreInIdOrder (state_at t.states k).rows) → MayFallSilent lost (FindsRow k id o) x y → MayFallSilent lost (Found k id (Some row)) x y
found_goes k id lost x y o row e ordered h =
    goes_with lost (λ (t : Tables). AreInIdOrder (state_at t.states k).rows) (FindsRow k id (Some row)) x y ordered (subst (λ q. MayFallSilent lost (FindsRow k id q) x y) e h)

pub unjudged_goes : (columns : List Column) (at k id : ℕ) (gs : List (List ℕ × Option Data)) (lost : Type 0) (x y : Option Tables) (o : Option Row) (row : Row) (refusal : Refusal) → o ≡ Some row → first_refusal at columns gs ≡ Some refusal
    → IfSome x (λ (t : Tables). AreInIdOrder (state_at t.states k).rows) → MayFallSilent lost (FindsRow k id o) x y
    → MayFallSilent lost (λ a b. ChangeComesTo (change_row at columns k id gs a (row_with_id id (state_at a.states k).rows)) (Refused refusal) a b) x y
unjudged_goes columns at k id gs lost x y o row refusal e j ordered h =
    goes_weaker lost (Found k id (Some row)) (λ a b. ChangeComesTo (change_row at columns k id gs a (row_with_id id (state_at a.states k).rows)) (Refused refusal) a b) (unjudged at columns k id gs row refusal j) x y
    (found_goes k id lost x y o row e ordered h)

pub replaced_goes : (columns : List Column) (at k id : ℕ) (gs : List (List ℕ × Option Data)) (l m n : Marks) (x y z : Option Tables) (o : Option Row) (row : Row) (cells : List Data) (p : Put) (r : Changed)
    → o ≡ Some row → first_refusal at columns gs ≡ None → cells ≡ cells_with gs columns row.cells → r ≡ came at columns p → IsLater l m → IsLater m n
    → IfSome x (λ (t : Tables). AreInIdOrder (state_at t.states k).rows) → MayFallSilent (SilenceCause l m) (FindsRow k id o) x y → MayFallSilent (SilenceCause m n) (Replaces columns k id cells p) y z
    → MayFallSilent (SilenceCause l n) (λ a b. ChangeComesTo (change_row at columns k id gs a (row_with_id id (state_at a.states k).rows)) r a b) x z
replaced_goes columns at k id gs l m n x y z o row cells p r e j is f later later' ordered h q =
    subst (λ (c : Changed). MayFallSilent (SilenceCause l n) (λ a b. ChangeComesTo (change_row at columns k id gs a (row_with_id id (state_at a.states k).rows)) c a b) x z) (sym f)
    (replacing at columns k id gs row cells p j is l m n later later' x y z (found_goes k id (SilenceCause l m) x y o row e ordered h) q)

pub inserted_goes : (columns : List Column) (at k : ℕ) (gs : List (List ℕ × Option Data)) (lost : Type 0) (x y : Option Tables) (cells : List Data) (p : Put) (r : Changed)
    → first_refusal at columns gs ≡ None → cells ≡ cells_with gs columns (blanks columns) → r ≡ came at columns p → MayFallSilent lost (Inserts columns k cells p) x y
    → MayFallSilent lost (λ a b. ChangeComesTo (add_row at columns k gs a) r a b) x y
inserted_goes columns at k gs lost x y cells p r j is f h =
    subst (λ (c : Changed). MayFallSilent lost (λ a b. ChangeComesTo (add_row at columns k gs a) c a b) x y) (sym f)
    (goes_weaker lost (Inserts columns k cells p) (λ a b. ChangeComesTo (add_row at columns k gs a) (came at columns p) a b) (inserted at columns k gs cells p j is) x y h)

-- in the table of a name
pub placed_goes : (shapes : List TableShape) (at : ℕ) (c : Change) (o : Option ℕ) (r : Changed) (lost : Type 0) (x y : Option Tables) → o ≡ table_index (table_changed c) shapes
    → MayFallSilent lost (λ a b. ChangeComesTo (change_in_table shapes at c a o) r a b) x y → MayFallSilent lost (ChangesOne shapes at c r) x y
placed_goes shapes at c o r lost x y e h = subst (λ q. MayFallSilent lost (λ a b. ChangeComesTo (change_in_table shapes at c a q) r a b) x y) e h

pub unplaced_goes : (shapes : List TableShape) (at : ℕ) (c : Change) (o : Option ℕ) (r : Changed) (lost : Type 0) (x : Option Tables) → o ≡ table_index (table_changed c) shapes → o ≡ None → r ≡ Refused (plain 21)
    → MayFallSilent lost (ChangesOne shapes at c r) x x
unplaced_goes shapes at c o r lost x e n f =
    placed_goes shapes at c None r lost x x (sym n ∙ e)
    (subst (λ (q : Changed). MayFallSilent lost (λ a b. ChangeComesTo (change_in_table shapes at c a None) q a b) x x) (sym f) (nowhere lost (λ a b. ChangeComesTo (change_in_table shapes at c a None) (Refused (plain 21)) a b) (λ a. (refl, refl)) x))
