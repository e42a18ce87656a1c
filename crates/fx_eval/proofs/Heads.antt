-- How many rows a node visits, by its head and its parts as they are found.
use Rattle.std.proofs.Common.{◌≡◌, ◌∙◌, ◌≢◌, ◌≤◌, ℕ, suc, ◌+◌, List, [], ◌∷◌, length, false, Option, Some, ap, refl, sym, subst, arith}
use Rattle.fx_types.specs.declared.faults.Fault.{Fault}
use Rattle.fx_types.specs.declared.faults.Kind.{Kind}
use Rattle.fx_types.specs.Values.{Data, blank, fault, number, text, boolean, date, rec, tab}
use Rattle.fx_env.specs.Queries.{ReadsTold}
use Rattle.fx_env.specs.Scopes.{Fixed, ScopeValues, around}
use Rattle.fx_env.specs.Telling.{Heard, EnvState, tables_told, values_told}
use Rattle.fx_eval.proofs.Standings.{all_parts}
use Rattle.fx_eval.proofs.Visiting.{at_most_as, from_before, over_whole, searched_worth, told_before, told_heard}
use Rattle.fx_eval.specs.EvalSteps.{HasVisited, Moment, Went}
use Rattle.fx_eval.specs.Parts.{caught_in, terms_of}
use Rattle.fx_eval.specs.Visits.{AllVisit, AskedTables, AtMost, HeadVisits, InFound, OverVisits, VisitPart, PartsVisit, RowsVisit, UnlessError, Visiting, Visits, VisitsByHead, WithinVisits, asked_tables, visit_part, parts}
use Rattle.fx_semantics.specs.Around.{Around, Meaning, catching}
use Rattle.fx_semantics.specs.Around.{inside as inside_of}
use Rattle.fx_semantics.specs.Fresh.{IsValue, meaning, meanings}
use Rattle.fx_semantics.specs.Rows.{IsOfFound, IsTableCall, rows_in}
use Rattle.fx_scalar.specs.LazyForms.{IsNoError}
use Rattle.fx_tables.specs.Unions.{is_fault}
use Rattle.fx_core.specs.declared.functions.Fun.{Fun}
use Rattle.fx_core.specs.declared.functions.Fun.TheVariants as fun
use Rattle.fx_core.specs.declared.sources.Source.{Source}
use Rattle.fx_core.specs.declared.sources.Source.TheVariants as source
use Rattle.fx_core.specs.Term.{Term, Terms, of, nil, cons, Top, all, term_field_names, field_terms}
use Rattle.fx_core.specs.Term as top
use Rattle.fx_value.specs.Columns.{Row as Fields}
use Rattle.row_queries.specs.declared.rows.Row.{Row}
use Rattle.row_queries.specs.TableRows.{rows_at}

-- a node of this head
pub headed : {B : Type 0} (m n : Moment B) (h : Top) (ts : Terms) (t : Term) → of h ts ≡ t → HasVisited (λ w. HeadVisits w h (parts w ts)) m n → HasVisited (λ w. VisitsByHead w t) m n
headed m n h ts t e v = subst (λ (z : Term). HasVisited (λ w. VisitsByHead w z) m n) e v

-- a source
read_rows : (s : Source) (rows : List (List Row)) (w : AskedTables) (a : Around) (x y : ℕ) → w.rows ≡ rows → ReadsTold s (Some rows) x y → AtMost (HeadVisits w (top.read s) [] a) x y
read_rows (source.Table k) rows w a x y e r = (length (rows_at w.rows k), refl, subst (λ (z : List (List Row)). y ≤ x + length (rows_at z k)) (sym e) r)
read_rows (source.Cell k) rows w a x y e r = (0, refl, omega (arith, r))
read_rows (source.Global k) rows w a x y e r = (0, refl, omega (arith, r))
read_rows (source.Context k) rows w a x y e r = (0, refl, omega (arith, r))
read_rows (source.Gathered k) rows w a x y e r = (0, refl, omega (arith, r))
read_rows (source.Input k) rows w a x y e r = (0, refl, omega (arith, r))
read_rows (source.Chosen k) rows w a x y e r = (0, refl, omega (arith, r))
read_rows source.Today rows w a x y e r = (0, refl, omega (arith, r))

pub read_visited : {B : Type 0} (f : Fixed) (s : ScopeValues) (x : Option (EnvState B)) (before now : ℕ) (k : Source) (t : Term) → of (top.read k) nil ≡ t → ReadsTold k (tables_told x) before now →
    (w : EnvState B) → x ≡ Some w → AtMost (VisitsByHead (asked_tables f w) t (around f.types (Some w.values) s)) before now
read_visited {B} f s x before now k t e r w told =
    let here = around f.types (Some w.values) s in
    subst (λ (z : Term). AtMost (VisitsByHead (asked_tables f w) z here) before now) e
    (read_rows k w.tables (asked_tables f w) here before now refl (subst (λ (y : Option (EnvState B)). ReadsTold k (tables_told y) before now) told r))

-- the scope of a formula where an error was caught
pub caught_visited : {B : Type 0} (f : Fixed) (s u : ScopeValues) (x : Option (EnvState B)) (before now : ℕ) (k : Kind) (cs : List ℕ) (t : Term) → u ≡ caught_in s k cs →
    ((w : EnvState B) → x ≡ Some w → AtMost (Visits (asked_tables f w) t (around f.types (Some w.values) u)) before now) →
    (w : EnvState B) → x ≡ Some w → AtMost (Visits (asked_tables f w) t (catching (around f.types (Some w.values) s) k cs)) before now
caught_visited f s u x before now k cs t same h w e =
    subst (λ (z : ScopeValues). AtMost (Visits (asked_tables f w) t (around f.types (Some w.values) z)) before now) same (h w e)

-- all parts, as they are found
pub parts_visited : {B : Type 0} (m n : Moment B) (V : AskedTables → List VisitPart → Visiting) (ts xs : List Term) → xs ≡ ts → HasVisited (λ w. V w (parts w (all xs))) m n → HasVisited (λ w. V w (parts w (all ts))) m n
parts_visited m n V ts xs e h = subst (λ (zs : List Term). HasVisited (λ w. V w (parts w (all zs))) m n) e h

-- the formulas of a record's fields
pub fields_visited : {B : Type 0} (m n : Moment B) → Went m n → (fs gs : List (List ℕ × Term)) (t : Term) → of (top.rec (term_field_names fs)) (field_terms fs) ≡ t → gs ≡ fs → HasVisited (λ w. AllVisit (parts w (all (terms_of gs)))) m n →
    HasVisited (λ w. VisitsByHead w t) m n
fields_visited m n went fs gs t e g h = headed m n (top.rec (term_field_names fs)) (field_terms fs) t e
    (subst (λ (ts : Terms). HasVisited (λ w. AllVisit (parts w ts)) m n) (sym (all_parts fs))
    (subst (λ (xs : List (List ℕ × Term)). HasVisited (λ w. AllVisit (parts w (all (terms_of xs)))) m n) g h))

-- a function of values, all of which are evaluated
call_all : (w : AskedTables) (f : Fun) (Ps : List VisitPart) (a : Around) (n : ℕ) → f ≢ fun.Coalesce → AllVisit Ps a n → HeadVisits w (top.call f) Ps a n
call_all w fun.Coalesce Ps a n other h = absurd (other refl)
call_all w f Ps a n other h = h

pub called_visited : {B : Type 0} (m n : Moment B) → Went m n → (f : Fun) (ts xs : List Term) (t : Term) → f ≢ fun.Coalesce → of (top.call f) (all ts) ≡ t → xs ≡ ts → HasVisited (λ w. AllVisit (parts w (all xs))) m n →
    HasVisited (λ w. VisitsByHead w t) m n
called_visited m n went f ts xs t other e g h = headed m n (top.call f) (all ts) t e
    (λ w z.
    let tables = asked_tables m.fixed w in
    let a = around m.fixed.types (Some w.values) m.scope in
    at_most_as (AllVisit (parts tables (all ts)) a) (HeadVisits tables (top.call f) (parts tables (all ts)) a) m.visited n.visited (λ k. call_all tables f (parts tables (all ts)) a k other)
    (parts_visited m n (λ x Ps. AllVisit Ps) ts xs g h w z))

-- `With`
pub within_visited : {B : Type 0} (m n : Moment B) → Went m n → (u v x y t : Term) → of top.within (cons u (cons v nil)) ≡ t → x ≡ u → y ≡ v → HasVisited (λ w. WithinVisits (visit_part w x ∷ visit_part w y ∷ [])) m n →
    HasVisited (λ w. VisitsByHead w t) m n
within_visited m n went u v x y t e f g h = headed m n top.within (cons u (cons v nil)) t e
    (subst (λ (z : Term). HasVisited (λ w. WithinVisits (visit_part w z ∷ visit_part w v ∷ [])) m n) f (subst (λ (z : Term). HasVisited (λ w. WithinVisits (visit_part w x ∷ visit_part w z ∷ [])) m n) g h))

-- ---- a part that is evaluated, and what follows unless its value is an error

-- what follows isn't evaluated where an error stands
after_error : (d : Data) (P : ℕ → Type 0) (f : Fault) → d ≡ fault f.kind f.message → UnlessError d P 0
after_error d P f e = subst (λ (z : Data). UnlessError z P 0) (sym e) refl

-- and is where none does
without_error : (d : Data) (P : ℕ → Type 0) (n : ℕ) → is_fault d ≡ false → P n → UnlessError d P n
without_error (fault k cs) P n e h = absurd cc
without_error blank P n e h = h
without_error (number z) P n e h = h
without_error (text cs) P n e h = h
without_error (boolean b) P n e h = h
without_error (date z) P n e h = h
without_error (rec fs) P n e h = h
without_error (tab rs) P n e h = h

-- a value that is no error
pub no_error_is : (d : Data) → IsNoError d → is_fault d ≡ false
no_error_is (fault k cs) h = absurd h
no_error_is blank h = refl
no_error_is (number z) h = refl
no_error_is (text cs) h = refl
no_error_is (boolean b) h = refl
no_error_is (date z) h = refl
no_error_is (rec fs) h = refl
no_error_is (tab rs) h = refl

-- so many parts
parts_count : (w : AskedTables) (ts : List Term) → length (parts w (all ts)) ≡ length ts
parts_count w [] = refl
parts_count w (t ∷ ts) = ap suc (parts_count w ts)

-- a value of the first part is heard in the end, as at the beginning
module _ {B : Type 0} (m n : Moment B) (before : Went m n) (t : Term) (d : Data) (first : HasVisited (λ w. Visits w t) m n) (worth : Heard (values_told n.told) (λ told. IsValue (around m.fixed.types told m.scope) t d)) where
  value_at : (w : EnvState B) → n.told ≡ Some w → meaning t (around m.fixed.types (Some w.values) m.scope) d
  value_at w e = worth (Some w.values) (told_heard n.told w e)

  -- an error ends `With`, and a call over a table
  pub within_error : (f : Fault) (y : Term) → d ≡ fault f.kind f.message → HasVisited (λ w. WithinVisits (visit_part w t ∷ visit_part w y ∷ [])) m n
  within_error f y e w z =
      let v = first w z in
      let a = around m.fixed.types (Some w.values) m.scope in
      (v.0, (d, value_at w z, (v.0, 0, v.1, after_error d (Visits (asked_tables m.fixed w) y (inside_of a d)) f e, omega arith)), v.2)

  pub rows_error : (g : Fun) (f : Fault) (ts : List Term) → d ≡ fault f.kind f.message → HasVisited (λ w. RowsVisit g (visit_part w t ∷ parts w (all ts))) m n
  rows_error g f ts e w z =
      let v = first w z in
      let a = around m.fixed.types (Some w.values) m.scope in
      let Ps = parts (asked_tables m.fixed w) (all ts) in
      (v.0, (d, value_at w z, (v.0, 0, v.1, after_error d (PartsVisit g (suc (length Ps)) 1 (rows_in d) Ps a) f e, omega arith)), v.2)

  -- the formula of `With` in the scope of the record
  pub within_goes : (o : Moment B) (y : Term) (r : Data) → Went n o → r ≡ d → is_fault d ≡ false → HasVisited (λ w a. Visits w y (inside_of a r)) n o →
      HasVisited (λ w. WithinVisits (visit_part w t ∷ visit_part w y ∷ [])) m o
  within_goes o y r h same sound next w z =
      let there = told_before n o h w z in
      let v = first w there in
      let u = from_before (λ x b. Visits x y (inside_of b r)) m n o before next w z in
      let a = around m.fixed.types (Some w.values) m.scope in
      let k = v.2 in
      let l = u.2 in
      let own : Visits (asked_tables m.fixed w) y (inside_of a d) u.0 = subst (λ (x : Data). Visits (asked_tables m.fixed w) y (inside_of a x) u.0) same u.1 in
      (v.0 + u.0, (d, value_at w there, (v.0, u.0, v.1, without_error d (Visits (asked_tables m.fixed w) y (inside_of a d)) u.0 sound own, refl)), omega (arith, k, l))

  -- the other parts of a call
  pub rows_go : (o : Moment B) (g : Fun) (ts : List Term) (rows rs : List Fields) → Went n o → rows ≡ rows_in d → rs ≡ rows → is_fault d ≡ false →
      HasVisited (λ w. PartsVisit g (length ts + 1) 1 rs (parts w (all ts))) n o → HasVisited (λ w. RowsVisit g (visit_part w t ∷ parts w (all ts))) m o
  rows_go o g ts rows rs next_went is same sound next w z =
      let there = told_before n o next_went w z in
      let v = first w there in
      let u = from_before (λ x. PartsVisit g (length ts + 1) 1 rs (parts x (all ts))) m n o before next w z in
      let a = around m.fixed.types (Some w.values) m.scope in
      let Ps = parts (asked_tables m.fixed w) (all ts) in
      let count : length ts + 1 ≡ suc (length Ps) = let e = parts_count (asked_tables m.fixed w) ts in omega (arith, e) in
      let own : PartsVisit g (suc (length Ps)) 1 (rows_in d) Ps a u.0 =
      subst (λ (xs : List Fields). PartsVisit g (suc (length Ps)) 1 xs Ps a u.0) (same ∙ is) (subst (λ (c : ℕ). PartsVisit g c 1 rs Ps a u.0) count u.1) in
      let k = v.2 in
      let l = u.2 in
      (v.0 + u.0, (d, value_at w there, (v.0, u.0, v.1, without_error d (PartsVisit g (suc (length Ps)) 1 (rows_in d) Ps a) u.0 sound own, refl)), omega (arith, k, l))

-- ---- `LookUp` with a formula

pub search_visited : {B : Type 0} (m n o : Moment B) (t c f : Term) (d : Data) → Went m n → Went n o → HasVisited (λ w. RowsVisit fun.LookUp (visit_part w t ∷ visit_part w c ∷ [])) m n →
    Heard (values_told n.told) (λ told. IsTableCall fun.LookUp (meaning t ∷ meaning c ∷ []) (around m.fixed.types told m.scope) d) → HasVisited (λ w. InFound d (Visits w f)) n o →
    HasVisited (λ w. OverVisits fun.LookUp (visit_part w t ∷ visit_part w c ∷ visit_part w f ∷ [])) m o
search_visited m n o t c f d g h rows worth formula w z =
    let there = told_before n o h w z in
    let v = rows w there in
    let u = from_before (λ x. InFound d (Visits x f)) m n o g formula w z in
    let k = v.2 in
    let l = u.2 in
    (v.0 + u.0, (v.0, u.0, v.1, (d, worth (Some w.values) (told_heard n.told w there), u.1), refl), omega (arith, k, l))

-- what it finds, as its parts are found
pub searched_over : (f : Fun) (P : Meaning) (c x : Term) (cs ps : List Term) (a : Around) (d v : Data) → f ≡ fun.LookUp → ps ≡ c ∷ x ∷ [] → cs ≡ c ∷ [] → IsTableCall f (P ∷ meanings (all cs)) a d →
    IsOfFound d (meaning x) a v → IsTableCall f (P ∷ meanings (all ps)) a v
searched_over f P c x cs ps a d v e p q h k =
    let found : IsTableCall fun.LookUp (P ∷ meaning c ∷ []) a d =
    subst (λ (zs : List Term). IsTableCall fun.LookUp (P ∷ meanings (all zs)) a d) q (subst (λ (g : Fun). IsTableCall g (P ∷ meanings (all cs)) a d) e h) in
    subst (λ (g : Fun). IsTableCall g (P ∷ meanings (all ps)) a v) (sym e)
    (subst (λ (zs : List Term). IsTableCall fun.LookUp (P ∷ meanings (all zs)) a v) (sym p) (searched_worth P (meaning c) (meaning x) a d v found k))

pub searched_visited : {B : Type 0} (m n o : Moment B) (f : Fun) (t c x : Term) (cs ps : List Term) (d : Data) → f ≡ fun.LookUp → ps ≡ c ∷ x ∷ [] → cs ≡ c ∷ [] → Went m n → Went n o →
    HasVisited (λ w. RowsVisit f (visit_part w t ∷ parts w (all cs))) m n → Heard (values_told n.told) (λ told. IsTableCall f (meaning t ∷ meanings (all cs)) (around m.fixed.types told m.scope) d) →
    HasVisited (λ w. InFound d (Visits w x)) n o → HasVisited (λ w. OverVisits f (visit_part w t ∷ parts w (all ps))) m o
searched_visited {B} m n o f t c x cs ps d e p q g h rows worth formula =
    let Rows : Fun → List Term → Type 0 = λ g zs. HasVisited (λ w. RowsVisit g (visit_part w t ∷ parts w (all zs))) m n in
    let Worth : Fun → List Term → Type 0 = λ g zs. Heard (values_told n.told) (λ told. IsTableCall g (meaning t ∷ meanings (all zs)) (around m.fixed.types told m.scope) d) in
    let Over : Fun → List Term → Type 0 = λ g zs. HasVisited (λ w. OverVisits g (visit_part w t ∷ parts w (all zs))) m o in
    let visited : Over fun.LookUp (c ∷ x ∷ []) =
    search_visited m n o t c x d g h (subst (λ (zs : List Term). Rows fun.LookUp zs) q (subst (λ (k : Fun). Rows k cs) e rows))
    (subst (λ (zs : List Term). Worth fun.LookUp zs) q (subst (λ (k : Fun). Worth k cs) e worth)) formula in
    subst (λ (k : Fun). Over k ps) (sym e) (subst (λ (zs : List Term). Over fun.LookUp zs) (sym p) visited)

-- any other call
pub whole_visited : {B : Type 0} (m n : Moment B) → Went m n → (f : Fun) (t : Term) (ts : List Term) → (f ≡ fun.LookUp → length ts ≡ 2 → ⊥) → HasVisited (λ w. RowsVisit f (visit_part w t ∷ parts w (all ts))) m n →
    HasVisited (λ w. OverVisits f (visit_part w t ∷ parts w (all ts))) m n
whole_visited m n went f t ts whole h w z =
    let tables = asked_tables m.fixed w in
    let a = around m.fixed.types (Some w.values) m.scope in
    let Ps = visit_part tables t ∷ parts tables (all ts) in
    at_most_as (RowsVisit f Ps a) (OverVisits f Ps a) m.visited n.visited (λ k. over_whole tables f t ts a k whole) (h w z)
