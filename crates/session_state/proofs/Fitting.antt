-- What a session holds keeps fitting an app's names.
use Rattle.std.proofs.Common.{◌≡◌, ℕ, ◌<◌, List, length, get_or, set, Option, Some, None, true, refl, sym, ◌∙◌, ap, subst, inl, inr, arith, length-set, get_or-set_same, get_or-set_other}
use Rattle.std.specs.Prelude.{option_and_then, option_map, unwrap_or, slice_get}
use Rattle.std.specs.Prelude.{Result, Ok, Err, IfOk, OnErr, Bool, false, if◌then◌else◌}
use Rattle.std.proofs.lemmas.Bool.{cases_eq, cases_lt}
use Rattle.std.proofs.lemmas.Option.{slice_get_past}
use Rattle.std.proofs.lemmas.List.{length-replicate, get_or-replicate}
use Rattle.fx_core.specs.declared.names.Collection.{Collection}
use Rattle.fx_core.specs.declared.names.ControlName.{ControlName}
use Rattle.fx_core.specs.Controls.{input_type}
use Rattle.fx_number.specs.declared.memory.Memory.{Memory}
use Rattle.fx_types.specs.Values.{Data, blank, tab, no_rows}
use Rattle.fx_types.specs.Types.{Shape}
use Rattle.fx_types.specs.TypeView.{shape}
use Rattle.fx_types.specs.ValueView.{view}
use Rattle.fx_value.specs.Fits.{fits_in}
use Rattle.fx_core.specs.declared.sources.Source.{Source}
use Rattle.fx_core.specs.declared.sources.Source.TheVariants as source
use Rattle.fx_core.specs.declared.names.Names.{Names}
use Rattle.fx_core.specs.declared.names.Variable.{Variable}
use Rattle.fx_core.specs.SourceTypes.{sources, if_global, if_context}
use Rattle.session_state.specs.declared.change.Change.{Change}
use Rattle.session_state.specs.declared.change.Change.TheVariants.{Global, Context, Gather, Empty, Input, Choose, Screen, Notice}
use Rattle.session_state.specs.Sessions.{SessionState, stored_value, Holds, opened}
use Rattle.session_state.specs.Changes.{made, IsOwn, FitsNames, FitsSource, FitsChange, HoldsTables}

-- a value that fits where its source has a type
abbrev FitsAt : Names → Source → Data → Type 0
FitsAt n x d = (t : Shape) → sources n x ≡ Some t → fits_in d t ≡ true

fits_at : (n : Names) (x : Source) (d : Data) → FitsSource n x d → FitsAt n x d
fits_at n x d h t e =
    let is : h.0 ≡ t = let both : Some h.0 ≡ Some t = sym h.1 ∙ e in cc in
    let P : Shape → Type 0 = λ u. fits_in d u ≡ true in
    subst P is h.2

-- no variable is both global and of a screen
one_kind : (o : Option ℕ) (a b t u : Shape) → if_global o a ≡ Some t → if_context o b ≡ Some u → ⊥
one_kind None a b t u e f = cc
one_kind (Some s) a b t u e f = cc

one_variable : (o : Option Variable) (t u : Shape) → option_and_then (λ (v : Variable). if_global v.screen (shape v.ty)) o ≡ Some t → option_and_then (λ (v : Variable). if_context v.screen (shape v.ty)) o ≡ Some u → ⊥
one_variable None t u e f = cc
one_variable (Some v) t u e f = one_kind v.screen (shape v.ty) (shape v.ty) t u e f

-- a list where one value is changed for one that fits
put_fits : (xs : List Data) (k j : ℕ) (d : Data) (t : Shape) → k < length xs → (j ≡ k → fits_in d t ≡ true) → fits_in (get_or xs j blank) t ≡ true → fits_in (get_or (set xs k d) j blank) t ≡ true
put_fits xs k j d t lt new old = elim (cases_eq j k) [
  | inl e ↦ ap (λ (m : ℕ). fits_in (get_or (set xs k d) m blank) t) e ∙ ap (λ (x : Data). fits_in x t) (get_or-set_same xs k d blank lt) ∙ new e
  | inr ne ↦ ap (λ (x : Data). fits_in x t) (get_or-set_other xs k j d blank ne) ∙ old
]

moved : (n : Names) (k j : ℕ) (X : ℕ → Source) (d : Data) (t : Shape) → FitsAt n (X k) d → sources n (X j) ≡ Some t → j ≡ k → fits_in d t ≡ true
moved n k j X d t h e same = h t (ap (λ (m : ℕ). sources n (X m)) (sym same) ∙ e)

-- variables
holds_variable : (n : Names) (s : SessionState) (k : ℕ) (d : Data) → FitsNames n s → (x : Source) (t : Shape) → IsOwn x → sources n x ≡ Some t → Holds (record s { variables = set s.variables k d }) x
holds_variable n s k d f (source.Global j) t own e = let lt : j < length s.variables = f.sources_held (source.Global j) t tt e in omega (arith, length-set s.variables k d)
holds_variable n s k d f (source.Context j) t own e = let lt : j < length s.variables = f.sources_held (source.Context j) t tt e in omega (arith, length-set s.variables k d)
holds_variable n s k d f (source.Gathered j) t own e = f.sources_held (source.Gathered j) t tt e
holds_variable n s k d f (source.Input j) t own e = f.sources_held (source.Input j) t tt e
holds_variable n s k d f (source.Cell j) t own e = own
holds_variable n s k d f (source.Chosen j) t own e = own
holds_variable n s k d f (source.Table j) t own e = own
holds_variable n s k d f source.Today t own e = own

fits_variable : (n : Names) (s : SessionState) (k : ℕ) (d : Data) → k < length s.variables → FitsNames n s → FitsAt n (source.Global k) d → FitsAt n (source.Context k) d → (x : Source) (t : Shape) → IsOwn x → sources n x ≡ Some t → fits_in (stored_value (record s { variables = set s.variables k d }) x) t ≡ true
fits_variable n s k d lt f g h (source.Global j) t own e = put_fits s.variables k j d t lt (moved n k j (λ m. source.Global m) d t g e) (f.values_fit (source.Global j) t tt e)
fits_variable n s k d lt f g h (source.Context j) t own e = put_fits s.variables k j d t lt (moved n k j (λ m. source.Context m) d t h e) (f.values_fit (source.Context j) t tt e)
fits_variable n s k d lt f g h (source.Gathered j) t own e = f.values_fit (source.Gathered j) t tt e
fits_variable n s k d lt f g h (source.Input j) t own e = f.values_fit (source.Input j) t tt e
fits_variable n s k d lt f g h (source.Cell j) t own e = absurd own
fits_variable n s k d lt f g h (source.Chosen j) t own e = absurd own
fits_variable n s k d lt f g h (source.Table j) t own e = absurd own
fits_variable n s k d lt f g h source.Today t own e = absurd own

put_variable : (n : Names) (s : SessionState) (k : ℕ) (d : Data) → k < length s.variables → FitsNames n s → FitsAt n (source.Global k) d → FitsAt n (source.Context k) d → FitsNames n (record s { variables = set s.variables k d })
put_variable n s k d lt f g h = record {
  screen = f.screen;
  controls = f.controls;
  sources_held = holds_variable n s k d f;
  values_fit = fits_variable n s k d lt f g h;
  spare = f.spare;
}

-- collections
holds_collection : (n : Names) (s : SessionState) (k : ℕ) (d : Data) → FitsNames n s → (x : Source) (t : Shape) → IsOwn x → sources n x ≡ Some t → Holds (record s { collections = set s.collections k d }) x
holds_collection n s k d f (source.Global j) t own e = f.sources_held (source.Global j) t tt e
holds_collection n s k d f (source.Context j) t own e = f.sources_held (source.Context j) t tt e
holds_collection n s k d f (source.Gathered j) t own e = let lt : j < length s.collections = f.sources_held (source.Gathered j) t tt e in omega (arith, length-set s.collections k d)
holds_collection n s k d f (source.Input j) t own e = f.sources_held (source.Input j) t tt e
holds_collection n s k d f (source.Cell j) t own e = own
holds_collection n s k d f (source.Chosen j) t own e = own
holds_collection n s k d f (source.Table j) t own e = own
holds_collection n s k d f source.Today t own e = own

fits_collection : (n : Names) (s : SessionState) (k : ℕ) (d : Data) → k < length s.collections → FitsNames n s → FitsAt n (source.Gathered k) d → (x : Source) (t : Shape) → IsOwn x → sources n x ≡ Some t → fits_in (stored_value (record s { collections = set s.collections k d }) x) t ≡ true
fits_collection n s k d lt f g (source.Global j) t own e = f.values_fit (source.Global j) t tt e
fits_collection n s k d lt f g (source.Context j) t own e = f.values_fit (source.Context j) t tt e
fits_collection n s k d lt f g (source.Gathered j) t own e = put_fits s.collections k j d t lt (moved n k j (λ m. source.Gathered m) d t g e) (f.values_fit (source.Gathered j) t tt e)
fits_collection n s k d lt f g (source.Input j) t own e = f.values_fit (source.Input j) t tt e
fits_collection n s k d lt f g (source.Cell j) t own e = absurd own
fits_collection n s k d lt f g (source.Chosen j) t own e = absurd own
fits_collection n s k d lt f g (source.Table j) t own e = absurd own
fits_collection n s k d lt f g source.Today t own e = absurd own

put_collection : (n : Names) (s : SessionState) (k : ℕ) (d : Data) → FitsNames n s → FitsSource n (source.Gathered k) d → FitsNames n (record s { collections = set s.collections k d })
put_collection n s k d f g = record {
  screen = f.screen;
  controls = f.controls;
  sources_held = holds_collection n s k d f;
  values_fit = fits_collection n s k d (f.sources_held (source.Gathered k) g.0 tt g.1) f (fits_at n (source.Gathered k) d g);
  spare = f.spare;
}

-- inputs
put_input_fits : (xs : List (Option Data)) (k j : ℕ) (d : Option Data) (t : Shape) → k < length xs → (j ≡ k → fits_in (unwrap_or d blank) t ≡ true) → fits_in (unwrap_or (get_or xs j None) blank) t ≡ true → fits_in (unwrap_or (get_or (set xs k d) j None) blank) t ≡ true
put_input_fits xs k j d t lt new old = elim (cases_eq j k) [
  | inl e ↦ ap (λ (m : ℕ). fits_in (unwrap_or (get_or (set xs k d) m None) blank) t) e ∙ ap (λ (x : Option Data). fits_in (unwrap_or x blank) t) (get_or-set_same xs k d None lt) ∙ new e
  | inr ne ↦ ap (λ (x : Option Data). fits_in (unwrap_or x blank) t) (get_or-set_other xs k j d None ne) ∙ old
]

holds_input : (n : Names) (s : SessionState) (k : ℕ) (d : Option Data) → FitsNames n s → (x : Source) (t : Shape) → IsOwn x → sources n x ≡ Some t → Holds (record s { inputs = set s.inputs k d }) x
holds_input n s k d f (source.Global j) t own e = f.sources_held (source.Global j) t tt e
holds_input n s k d f (source.Context j) t own e = f.sources_held (source.Context j) t tt e
holds_input n s k d f (source.Gathered j) t own e = f.sources_held (source.Gathered j) t tt e
holds_input n s k d f (source.Input j) t own e = let lt : j < length s.inputs = f.sources_held (source.Input j) t tt e in omega (arith, length-set s.inputs k d)
holds_input n s k d f (source.Cell j) t own e = own
holds_input n s k d f (source.Chosen j) t own e = own
holds_input n s k d f (source.Table j) t own e = own
holds_input n s k d f source.Today t own e = own

fits_input : (n : Names) (s : SessionState) (k : ℕ) (d : Option Data) → k < length s.inputs → FitsNames n s → FitsAt n (source.Input k) (unwrap_or d blank) → (x : Source) (t : Shape) → IsOwn x → sources n x ≡ Some t → fits_in (stored_value (record s { inputs = set s.inputs k d }) x) t ≡ true
fits_input n s k d lt f g (source.Global j) t own e = f.values_fit (source.Global j) t tt e
fits_input n s k d lt f g (source.Context j) t own e = f.values_fit (source.Context j) t tt e
fits_input n s k d lt f g (source.Gathered j) t own e = f.values_fit (source.Gathered j) t tt e
fits_input n s k d lt f g (source.Input j) t own e = put_input_fits s.inputs k j d t lt (moved n k j (λ m. source.Input m) (unwrap_or d blank) t g e) (f.values_fit (source.Input j) t tt e)
fits_input n s k d lt f g (source.Cell j) t own e = absurd own
fits_input n s k d lt f g (source.Chosen j) t own e = absurd own
fits_input n s k d lt f g (source.Table j) t own e = absurd own
fits_input n s k d lt f g source.Today t own e = absurd own

put_input : (n : Names) (s : SessionState) (k : ℕ) (d : Option Data) → FitsNames n s → FitsSource n (source.Input k) (unwrap_or d blank) → FitsNames n (record s { inputs = set s.inputs k d })
put_input n s k d f g = record {
  screen = f.screen;
  controls = f.controls;
  sources_held = holds_input n s k d f;
  values_fit = fits_input n s k d (f.sources_held (source.Input k) g.0 tt g.1) f (fits_at n (source.Input k) (unwrap_or d blank) g);
  spare = f.spare;
}

-- what is no value changes nothing of them
holds_same : (s s' : SessionState) → s'.variables ≡ s.variables → s'.collections ≡ s.collections → s'.inputs ≡ s.inputs → (x : Source) → Holds s x → Holds s' x
holds_same s s' vs cs is (source.Global j) h = let P : List Data → Type 0 = λ xs. j < length xs in subst P (sym vs) h
holds_same s s' vs cs is (source.Context j) h = let P : List Data → Type 0 = λ xs. j < length xs in subst P (sym vs) h
holds_same s s' vs cs is (source.Gathered j) h = let P : List Data → Type 0 = λ xs. j < length xs in subst P (sym cs) h
holds_same s s' vs cs is (source.Input j) h = let P : List (Option Data) → Type 0 = λ xs. j < length xs in subst P (sym is) h
holds_same s s' vs cs is (source.Cell j) h = h
holds_same s s' vs cs is (source.Chosen j) h = h
holds_same s s' vs cs is (source.Table j) h = h
holds_same s s' vs cs is source.Today h = h

held_same : (s s' : SessionState) → s'.variables ≡ s.variables → s'.collections ≡ s.collections → s'.inputs ≡ s.inputs → (x : Source) → stored_value s' x ≡ stored_value s x
held_same s s' vs cs is (source.Global j) = ap (λ (xs : List Data). get_or xs j blank) vs
held_same s s' vs cs is (source.Context j) = ap (λ (xs : List Data). get_or xs j blank) vs
held_same s s' vs cs is (source.Gathered j) = ap (λ (xs : List Data). get_or xs j blank) cs
held_same s s' vs cs is (source.Input j) = ap (λ (xs : List (Option Data)). unwrap_or (get_or xs j None) blank) is
held_same s s' vs cs is (source.Cell j) = refl
held_same s s' vs cs is (source.Chosen j) = refl
held_same s s' vs cs is (source.Table j) = refl
held_same s s' vs cs is source.Today = refl

kept_values : (n : Names) (s s' : SessionState) → FitsNames n s → s'.screen < length n.screens → length s'.chosen ≡ length s.chosen → s'.variables ≡ s.variables → s'.collections ≡ s.collections → s'.inputs ≡ s.inputs → s'.room ≡ s.room → FitsNames n s'
kept_values n s s' f screen chosen vs cs is room = record {
  screen = screen;
  controls = chosen ∙ f.controls;
  sources_held = λ x t own e. holds_same s s' vs cs is x (f.sources_held x t own e);
  values_fit = λ x t own e. ap (λ (d : Data). fits_in d t) (held_same s s' vs cs is x) ∙ f.values_fit x t own e;
  spare = room ∙ f.spare;
}

-- a change that fits leaves a session that fits
pub fits_made : (n : Names) (c : Change) (s : SessionState) → FitsNames n s → FitsChange n c → FitsNames n (made c s)
fits_made n (Global k v) s f g =
    put_variable n s k (view v) (f.sources_held (source.Global k) g.0 tt g.1) f (fits_at n (source.Global k) (view v) g)
    (λ t e. absurd (one_variable (slice_get n.variables k) g.0 t g.1 e))
fits_made n (Context k v) s f g =
    put_variable n s k (view v) (f.sources_held (source.Context k) g.0 tt g.1) f
    (λ t e. absurd (one_variable (slice_get n.variables k) t g.0 e g.1)) (fits_at n (source.Context k) (view v) g)
fits_made n (Gather k v) s f g = put_collection n s k (view v) f g
fits_made n (Empty k) s f g = put_collection n s k (tab no_rows) f g
fits_made n (Input k None) s f g = put_input n s k None f g
fits_made n (Input k (Some v)) s f g = put_input n s k (Some (view v)) f g
fits_made n (Choose k position id) s f g =
    kept_values n s _ f f.screen (length-set s.chosen k (Some (position, id))) refl refl refl refl
fits_made n (Screen k) s f g = kept_values n s _ f g refl refl refl refl refl
fits_made n (Notice w) s f g = kept_values n s _ f f.screen refl refl refl refl refl

-- what a session holds of its own
own : (x : Source) (s : SessionState) → Holds s x → IsOwn x
own (source.Global j) s h = tt
own (source.Context j) s h = tt
own (source.Gathered j) s h = tt
own (source.Input j) s h = tt
own (source.Cell j) s h = h
own (source.Chosen j) s h = h
own (source.Table j) s h = h
own source.Today s h = h

pub held_fits : (n : Names) (s : SessionState) (x : Source) (t : Shape) → Holds s x → FitsNames n s → sources n x ≡ Some t → fits_in (stored_value s x) t ≡ true
held_fits n s x t h f e = f.values_fit x t (own x s h) e

-- a session as it is opened
pub typed_within : {A : Type 0} (xs : List A) (k : ℕ) (t : Shape) (T : A → Option Shape) → option_and_then T (slice_get xs k) ≡ Some t → k < length xs
typed_within xs k t T e = elim (cases_lt k (length xs)) [
  | inl lt ↦ lt
  | inr past ↦ let none : slice_get xs k ≡ None = slice_get_past xs k past in let is : option_and_then T (slice_get xs k) ≡ None = ap (option_and_then T) none in cc
]

pub mapped_within : {A : Type 0} (xs : List A) (k : ℕ) (t : Shape) (T : A → Shape) → option_map T (slice_get xs k) ≡ Some t → k < length xs
mapped_within xs k t T e = elim (cases_lt k (length xs)) [
  | inl lt ↦ lt
  | inr past ↦ let none : slice_get xs k ≡ None = slice_get_past xs k past in let is : option_map T (slice_get xs k) ≡ None = ap (option_map T) none in cc
]

-- after a change that was made, refused, or given up
pub fits_after : (n : Names) (c : Change) (old new : SessionState) (r : Result Bool Memory) → IfOk r (λ done. new ≡ (if done then made c old else old)) → OnErr r (new ≡ old) → FitsNames n old → FitsChange n c → FitsNames n new
fits_after n c old new (Ok true) e x f g = let P : SessionState → Type 0 = λ s. FitsNames n s in subst P (sym e) (fits_made n c old f g)
fits_after n c old new (Ok false) e x f g = let P : SessionState → Type 0 = λ s. FitsNames n s in subst P (sym e) f
fits_after n c old new (Err m) e x f g = let P : SessionState → Type 0 = λ s. FitsNames n s in subst P (sym x) f

-- what an opened session holds
opened_holds : (n : Names) (x : Source) (t : Shape) → IsOwn x → sources n x ≡ Some t → Holds (opened n) x
opened_holds n (source.Global j) t own e = let lt = typed_within n.variables j t (λ (v : Variable). if_global v.screen (shape v.ty)) e in omega (arith, length-replicate (length n.variables) blank)
opened_holds n (source.Context j) t own e = let lt = typed_within n.variables j t (λ (v : Variable). if_context v.screen (shape v.ty)) e in omega (arith, length-replicate (length n.variables) blank)
opened_holds n (source.Gathered j) t own e = let lt = mapped_within n.collections j t (λ (c : Collection). shape c.ty) e in omega (arith, length-replicate (length n.collections) (tab no_rows))
opened_holds n (source.Input j) t own e = let lt = typed_within n.controls j t (λ (c : ControlName). input_type c.kind) e in let no : Option Data = None in omega (arith, length-replicate (length n.controls) no)
opened_holds n (source.Cell j) t own e = own
opened_holds n (source.Chosen j) t own e = own
opened_holds n (source.Table j) t own e = own
opened_holds n source.Today t own e = own

opened_fits : (n : Names) → HoldsTables n → (x : Source) (t : Shape) → IsOwn x → sources n x ≡ Some t → fits_in (stored_value (opened n) x) t ≡ true
opened_fits n h (source.Global j) t own e = let lt = typed_within n.variables j t (λ (v : Variable). if_global v.screen (shape v.ty)) e in ap (λ (d : Data). fits_in d t) (get_or-replicate (length n.variables) j blank blank lt)
opened_fits n h (source.Context j) t own e = let lt = typed_within n.variables j t (λ (v : Variable). if_context v.screen (shape v.ty)) e in ap (λ (d : Data). fits_in d t) (get_or-replicate (length n.variables) j blank blank lt)
opened_fits n h (source.Gathered j) t own e = let lt = mapped_within n.collections j t (λ (c : Collection). shape c.ty) e in ap (λ (d : Data). fits_in d t) (get_or-replicate (length n.collections) j (tab no_rows) blank lt) ∙ h j t e
opened_fits n h (source.Input j) t own e = let lt = typed_within n.controls j t (λ (c : ControlName). input_type c.kind) e in ap (λ (d : Option Data). fits_in (unwrap_or d blank) t) (get_or-replicate (length n.controls) j None None lt)
opened_fits n h (source.Cell j) t own e = absurd own
opened_fits n h (source.Chosen j) t own e = absurd own
opened_fits n h (source.Table j) t own e = absurd own
opened_fits n h source.Today t own e = absurd own

pub fits_opened : (n : Names) → 0 < length n.screens → HoldsTables n → FitsNames n (opened n)
fits_opened n some h = record {
  screen = some;
  controls = let no : Option (ℕ × Option ℕ) = None in length-replicate (length n.controls) no;
  sources_held = opened_holds n;
  values_fit = opened_fits n h;
  spare = refl;
}
