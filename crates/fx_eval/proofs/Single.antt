-- A tree visits one number of rows at most, where the values of its sources are told.
use Rattle.std.proofs.Common.{◌≡◌, ◌∙◌, ℕ, suc, ◌+◌, List, [], ◌∷◌, ◌++◌, length, Bool, true, false, Option, Some, None, ap, refl, sym, subst, arith}
use Rattle.fx_types.specs.declared.faults.Fault.{Fault}
use Rattle.fx_types.specs.Types.{Shape}
use Rattle.fx_types.specs.Values.{Data, blank, number, text, boolean, date, rec, tab, fault}
use Rattle.fx_env.specs.Scopes.{ScopeValues, around}
use Rattle.fx_eval.proofs.Counted.{one_count}
use Rattle.fx_eval.specs.Courses.{Going, Turning, answers, chooses, catches, goes, passes, coalesces, turned_by}
use Rattle.fx_eval.specs.Laws.{AreHeld}
use Rattle.fx_eval.specs.Visits.{AllVisit, AskedTables, Both, ConditionsVisit, ConstantsVisit, EachVisits, FormVisits, FoundVisits, HeadVisits, InFound, InRanges, OnceOr, OverVisits, VisitPart, PartVisits, PartsVisit, RangesVisit, RowsVisit, SearchVisits, TreeVisits, TurnVisits, UnlessError, Visiting, Visits, VisitsBy, WithinVisits, form_begun, visit_part, parts, search_of}
use Rattle.fx_plan.specs.Consumers.{over_query}
use Rattle.fx_plan.specs.QueryExpressions.{is_constant, sketch_of}
use Rattle.fx_plan.specs.declared.plans.Sketch.{Sketch}
use Rattle.fx_semantics.specs.Around.{Around, AreValues, record_of}
use Rattle.fx_semantics.specs.Around.{inside as inside_of}
use Rattle.fx_semantics.specs.Fresh.{IsValue, meanings}
use Rattle.fx_semantics.specs.Rows.{rows_in}
use Rattle.fx_semantics.specs.Unique.{OneValue}
use Rattle.fx_core.specs.declared.functions.Fun.{Fun}
use Rattle.fx_core.specs.declared.functions.Fun.TheVariants as fun
use Rattle.fx_core.specs.declared.sources.Source.{Source}
use Rattle.fx_core.specs.declared.sources.Source.TheVariants as source
use Rattle.fx_core.specs.Term.{Term, Terms, of, nil, cons, Top, all}
use Rattle.fx_core.specs.Term as top
use Rattle.fx_typing.specs.WellTyped.{PartScope, inside, plain, bound, catching, standing_at}
use Rattle.fx_value.specs.Columns.{Row as Fields}

nothing : (m n : ℕ) → m ≡ 0 → n ≡ 0 → m ≡ n
nothing m n h k = h ∙ sym k

both_single : (P Q : ℕ → Type 0) → ((m n : ℕ) → P m → P n → m ≡ n) → ((m n : ℕ) → Q m → Q n → m ≡ n) → (m n : ℕ) → Both P Q m → Both P Q n → m ≡ n
both_single P Q p q m n h k =
    let a = p h.0 k.0 h.2 k.2 in
    let b = q h.1 k.1 h.3 k.3 in
    let c : m ≡ h.0 + h.1 = h.4 in
    let d : n ≡ k.0 + k.1 = k.4 in
    omega (arith, a, b, c, d)

unless_single : (d : Data) (P : ℕ → Type 0) → ((m n : ℕ) → P m → P n → m ≡ n) → (m n : ℕ) → UnlessError d P m → UnlessError d P n → m ≡ n
unless_single (fault k cs) P p m n h j = nothing m n h j
unless_single blank P p m n h j = p m n h j
unless_single (number z) P p m n h j = p m n h j
unless_single (text cs) P p m n h j = p m n h j
unless_single (boolean b) P p m n h j = p m n h j
unless_single (date z) P p m n h j = p m n h j
unless_single (rec fs) P p m n h j = p m n h j
unless_single (tab rs) P p m n h j = p m n h j

-- each tree has one value at most over what sources give
abbrev pub HasOneValue : (Source → Data → Type 0) → Type 0
HasOneValue gives =
    (rows : List Data) (item : Option Data) (caught : Option Fault) (t : Term) (v u : Data) → IsValue (record { gives = gives; rows = rows; item = item; caught = caught }) t v →
    IsValue (record { gives = gives; rows = rows; item = item; caught = caught }) t u → v ≡ u

module _ (w : AskedTables) (held : AreHeld w) (gives : Source → Data → Type 0) (law : HasOneValue gives) where
  abbrev at : List Data → Option Data → Option Fault → Around
  at rows item caught = record { gives = gives; rows = rows; item = item; caught = caught }

  abbrev Single : Visiting → Type 0
  Single V = (rows : List Data) (item : Option Data) (caught : Option Fault) (m n : ℕ) → V (at rows item caught) m → V (at rows item caught) n → m ≡ n

  record PartSingle (P : VisitPart) : Type 0 where
    pub worth : (rows : List Data) (item : Option Data) (caught : Option Fault) (v u : Data) → P.worth (at rows item caught) v → P.worth (at rows item caught) u → v ≡ u
    pub visits : Single P.visits
    pub in_query : Single P.in_query
    pub in_condition : Single P.in_condition

  abbrev AllSingle : List VisitPart → Type 0
  AllSingle [] = Unit {0}
  AllSingle (P ∷ Ps) = PartSingle P × AllSingle Ps

  all_single : (Ps : List VisitPart) → AllSingle Ps → Single (AllVisit Ps)
  all_single [] s rows item caught m n h k = nothing m n h k
  all_single (P ∷ Ps) s rows item caught m n h k =
      both_single (P.visits (at rows item caught)) (AllVisit Ps (at rows item caught)) (s.0.visits rows item caught) (all_single Ps s.1 rows item caught) m n h k

  conditions_single : (Ps : List VisitPart) → AllSingle Ps → Single (ConditionsVisit Ps)
  conditions_single [] s rows item caught m n h k = nothing m n h k
  conditions_single (P ∷ Ps) s rows item caught m n h k =
      both_single (P.in_condition (at rows item caught)) (ConditionsVisit Ps (at rows item caught)) (s.0.in_condition rows item caught) (conditions_single Ps s.1 rows item caught) m n h k

  constants_single : (Ps : List VisitPart) → AllSingle Ps → Single (ConstantsVisit Ps)
  constants_single [] s rows item caught m n h k = nothing m n h k
  constants_single (P ∷ Ps) s rows item caught m n h k =
      both_single (P.in_query (at rows item caught)) (ConditionsVisit Ps (at rows item caught)) (s.0.in_query rows item caught) (conditions_single Ps s.1 rows item caught) m n h k

  each_single : (V : Visiting) → Single V → (rs : List Fields) → Single (EachVisits V rs)
  each_single V s [] rows item caught m n h k = nothing m n h k
  each_single V s (r ∷ rs) rows item caught m n h k =
      both_single (V (inside_of (at rows item caught) (record_of r))) (EachVisits V rs (at rows item caught)) (s (rows ++ record_of r ∷ []) item caught) (each_single V s rs rows item caught) m n h k

  turn_single : (x : Turning) (Ps : List VisitPart) → AllSingle Ps → Single (TurnVisits x Ps)
  turn_single (answers d) Ps s rows item caught m n h k = nothing m n h k
  turn_single chooses (P ∷ Ps) s rows item caught m n h k = s.0.visits rows item caught m n h k
  turn_single (catches i cs) (P ∷ Ps) s rows item caught m n h k = s.0.visits rows item (Some (record { kind = i; message = cs })) m n h k
  turn_single (passes g) (P ∷ Ps) s rows item caught m n h k = turn_single (goes g) Ps s.1 rows item caught m n h k
  turn_single (goes g) (P ∷ Ps) s rows item caught m n h k =
      let a = at rows item caught in
      let same = s.0.worth rows item caught h.0 k.0 h.1 k.1 in
      both_single (P.visits a) (TurnVisits (turned_by g h.0) Ps a) (s.0.visits rows item caught) (turn_single (turned_by g h.0) Ps s.1 rows item caught) m n h.2
      (subst (λ (d : Data). Both (P.visits a) (TurnVisits (turned_by g d) Ps a) n) (sym same) k.2)
  turn_single chooses [] s rows item caught m n h k = nothing m n h k
  turn_single (catches i cs) [] s rows item caught m n h k = nothing m n h k
  turn_single (passes g) [] s rows item caught m n h k = nothing m n h k
  turn_single (goes g) [] s rows item caught m n h k = nothing m n h k

  form_single : (g : Going) (Ps : List VisitPart) → AllSingle Ps → Single (FormVisits g Ps)
  form_single g Ps s rows item caught m n h k = turn_single (goes g) Ps s rows item caught m n h k

  within_single : (Ps : List VisitPart) → AllSingle Ps → Single (WithinVisits Ps)
  within_single [] s rows item caught m n h k = nothing m n h k
  within_single (P ∷ []) s rows item caught m n h k = nothing m n h k
  within_single (P ∷ F ∷ []) s rows item caught m n h k =
      let a = at rows item caught in
      let same = s.0.worth rows item caught h.0 k.0 h.1 k.1 in
      both_single (P.visits a) (UnlessError h.0 (F.visits (inside_of a h.0))) (s.0.visits rows item caught)
      (unless_single h.0 (F.visits (inside_of a h.0)) (s.1.0.visits (rows ++ h.0 ∷ []) item caught)) m n h.2
      (subst (λ (d : Data). Both (P.visits a) (UnlessError d (F.visits (inside_of a d))) n) (sym same) k.2)
  within_single (P ∷ F ∷ Q ∷ Ps) s rows item caught m n h k = nothing m n h k

  part_single_at : (x : PartScope) (rs : List Fields) (P : VisitPart) → PartSingle P → Single (PartVisits x rs P)
  part_single_at inside rs P s rows item caught m n h k = each_single P.visits s.visits rs rows item caught m n h k
  part_single_at plain rs P s rows item caught m n h k = s.visits rows item caught m n h k
  part_single_at bound rs P s rows item caught m n h k = s.visits rows item caught m n h k
  part_single_at catching rs P s rows item caught m n h k = s.visits rows item caught m n h k

  parts_single_from : (f : Fun) (c i : ℕ) (rs : List Fields) (Ps : List VisitPart) → AllSingle Ps → Single (PartsVisit f c i rs Ps)
  parts_single_from f c i rs [] s rows item caught m n h k = nothing m n h k
  parts_single_from f c i rs (P ∷ Ps) s rows item caught m n h k =
      both_single (PartVisits (standing_at (top.over f) c i) rs P (at rows item caught)) (PartsVisit f c (suc i) rs Ps (at rows item caught)) (part_single_at (standing_at (top.over f) c i) rs P s.0 rows item caught)
      (parts_single_from f c (suc i) rs Ps s.1 rows item caught) m n h k

  rows_single : (f : Fun) (Ps : List VisitPart) → AllSingle Ps → Single (RowsVisit f Ps)
  rows_single f [] s rows item caught m n h k = nothing m n h k
  rows_single f (P ∷ Ps) s rows item caught m n h k =
      let a = at rows item caught in
      let c = suc (length Ps) in
      let same = s.0.worth rows item caught h.0 k.0 h.1 k.1 in
      both_single (P.visits a) (UnlessError h.0 (PartsVisit f c 1 (rows_in h.0) Ps a)) (s.0.visits rows item caught)
      (unless_single h.0 (PartsVisit f c 1 (rows_in h.0) Ps a) (parts_single_from f c 1 (rows_in h.0) Ps s.1 rows item caught)) m n h.2
      (subst (λ (d : Data). Both (P.visits a) (UnlessError d (PartsVisit f c 1 (rows_in d) Ps a)) n) (sym same) k.2)

  in_found_single : (d : Data) (V : Visiting) → Single V → Single (InFound d V)
  in_found_single (rec fs) V s rows item caught m n h k = s (rows ++ rec fs ∷ []) item caught m n h k
  in_found_single (fault i cs) V s rows item caught m n h k = nothing m n h k
  in_found_single blank V s rows item caught m n h k = nothing m n h k
  in_found_single (number z) V s rows item caught m n h k = nothing m n h k
  in_found_single (text cs) V s rows item caught m n h k = nothing m n h k
  in_found_single (boolean b) V s rows item caught m n h k = nothing m n h k
  in_found_single (date z) V s rows item caught m n h k = nothing m n h k
  in_found_single (tab rs) V s rows item caught m n h k = nothing m n h k

  found_single : (q c f : Term) → PartSingle (visit_part w f) → Single (FoundVisits (visit_part w q) (visit_part w c) (visit_part w f))
  found_single q c f s rows item caught m n h k =
      let same = law rows item caught (over_query fun.LookUp q (cons c nil)) h.0 k.0 h.1 k.1 in
      in_found_single h.0 (Visits w f) s.visits rows item caught m n h.2 (subst (λ (d : Data). InFound d (Visits w f) (at rows item caught) n) (sym same) k.2)

  over_single : (f : Fun) (ts : Terms) → AllSingle (parts w ts) → Single (OverVisits f (parts w ts))
  over_single fun.LookUp (cons q (cons c (cons f nil))) s rows item caught m n h k =
      let a = at rows item caught in
      both_single (RowsVisit fun.LookUp (visit_part w q ∷ visit_part w c ∷ []) a) (FoundVisits (visit_part w q) (visit_part w c) (visit_part w f) a) (rows_single fun.LookUp (visit_part w q ∷ visit_part w c ∷ []) (s.0, (s.1.0, tt)) rows item caught)
      (found_single q c f s.1.1.0 rows item caught) m n h k
  over_single fun.LookUp nil s rows item caught m n h k = rows_single fun.LookUp [] s rows item caught m n h k
  over_single fun.LookUp (cons q nil) s rows item caught m n h k = rows_single fun.LookUp (parts w (cons q nil)) s rows item caught m n h k
  over_single fun.LookUp (cons q (cons c nil)) s rows item caught m n h k = rows_single fun.LookUp (parts w (cons q (cons c nil))) s rows item caught m n h k
  over_single fun.LookUp (cons q (cons c (cons f (cons x xs)))) s rows item caught m n h k = rows_single fun.LookUp (parts w (cons q (cons c (cons f (cons x xs))))) s rows item caught m n h k
  over_single f ts s rows item caught m n h k = rows_single f (parts w ts) s rows item caught m n h k

  head_single : (x : Top) (ts : Terms) → AllSingle (parts w ts) → Single (HeadVisits w x (parts w ts))
  head_single (top.read (source.Table j)) ts s rows item caught m n h k = h ∙ sym k
  head_single (top.form f) ts s rows item caught m n h k = form_single (form_begun f) (parts w ts) s rows item caught m n h k
  head_single (top.call fun.Coalesce) ts s rows item caught m n h k = form_single coalesces (parts w ts) s rows item caught m n h k
  head_single (top.over f) ts s rows item caught m n h k = over_single f ts s rows item caught m n h k
  head_single top.within ts s rows item caught m n h k = within_single (parts w ts) s rows item caught m n h k
  head_single x ts s rows item caught m n h k = all_single (parts w ts) s rows item caught m n h k

  values_single : (ts : List Term) (ds es : List Data) (rows : List Data) (item : Option Data) (caught : Option Fault) → AreValues (meanings (all ts)) (at rows item caught) ds → AreValues (meanings (all ts)) (at rows item caught) es → ds ≡ es
  values_single [] [] [] rows item caught h k = refl
  values_single (t ∷ ts) (d ∷ ds) (e ∷ es) rows item caught h k = ap (λ x. x ∷ ds) (law rows item caught t d e h.0 k.0) ∙ ap (λ xs. e ∷ xs) (values_single ts ds es rows item caught h.1 k.1)
  values_single [] (d ∷ ds) es rows item caught h k = absurd h
  values_single [] [] (e ∷ es) rows item caught h k = absurd k
  values_single (t ∷ ts) [] es rows item caught h k = absurd h
  values_single (t ∷ ts) (d ∷ ds) [] rows item caught h k = absurd k

  ranges_single : (s : Sketch) → Single (RangesVisit w s)
  ranges_single s rows item caught m n h k =
      let same = values_single s.constants h.0 k.0 (rows ++ blank ∷ []) item caught h.1 k.1 in
      one_count w s h.0 m n held h.2 (subst (λ (ds : List Data). InRanges w s ds n) (sym same) k.2)

  search_single : (s : Sketch) (ts : Terms) → AllSingle (parts w ts) → Single (SearchVisits w s (parts w ts))
  search_single s nil p rows item caught m n h k = nothing m n h k
  search_single s (cons q nil) p rows item caught m n h k = nothing m n h k
  search_single s (cons q (cons c nil)) p rows item caught m n h k =
      let a = at rows item caught in
      both_single (ConstantsVisit (visit_part w q ∷ visit_part w c ∷ []) a) (RangesVisit w s a) (constants_single (parts w (cons q (cons c nil))) p rows item caught) (ranges_single s rows item caught) m n h k
  search_single s (cons q (cons c (cons f nil))) p rows item caught m n h k =
      let a = at rows item caught in
      both_single (Both (ConstantsVisit (visit_part w q ∷ visit_part w c ∷ []) a) (RangesVisit w s a)) (FoundVisits (visit_part w q) (visit_part w c) (visit_part w f) a)
      (both_single (ConstantsVisit (visit_part w q ∷ visit_part w c ∷ []) a) (RangesVisit w s a) (constants_single (parts w (cons q (cons c nil))) (p.0, (p.1.0, tt)) rows item caught) (ranges_single s rows item caught))
      (found_single q c f p.1.1.0 rows item caught) m n h k
  search_single s (cons q (cons c (cons f (cons x xs)))) p rows item caught m n h k = nothing m n h k

  by_single : (o x : Option Sketch) (g : Top) (ts : Terms) → AllSingle (parts w ts) → Single (VisitsBy w o x g (parts w ts))
  by_single (Some s) x g ts p rows item caught m n h k =
      let a = at rows item caught in
      both_single (ConstantsVisit (parts w ts) a) (RangesVisit w s a) (constants_single (parts w ts) p rows item caught) (ranges_single s rows item caught) m n h k
  by_single None (Some s) g ts p rows item caught m n h k = search_single s ts p rows item caught m n h k
  by_single None None g ts p rows item caught m n h k = head_single g ts p rows item caught m n h k

  tree_single : (g : Top) (ts : Terms) → AllSingle (parts w ts) → Single (TreeVisits w g ts (parts w ts))
  tree_single g ts p rows item caught m n h k = by_single (sketch_of w.shapes (length rows) (of g ts)) (search_of w.shapes (length rows) (of g ts)) g ts p rows item caught m n h k

  once_single : (b : Bool) (g : Top) (ts : Terms) → AllSingle (parts w ts) → (rows : List Data) (item : Option Data) (caught : Option Fault) (m n : ℕ) →
      OnceOr b (TreeVisits w g ts (parts w ts) (inside_of (at rows item caught) blank)) (ConditionsVisit (parts w ts) (at rows item caught)) m →
      OnceOr b (TreeVisits w g ts (parts w ts) (inside_of (at rows item caught) blank)) (ConditionsVisit (parts w ts) (at rows item caught)) n → m ≡ n
  once_single true g ts p rows item caught m n h k = tree_single g ts p (rows ++ blank ∷ []) item caught m n h k
  once_single false g ts p rows item caught m n h k = conditions_single (parts w ts) p rows item caught m n h k

  mutual
    part_single : (t : Term) → PartSingle (visit_part w t)
    part_single (of g ts) =
        let p = parts_single ts in
        record {
          worth = λ rows item caught v u h k. law rows item caught (of g ts) v u h k;
          visits = λ rows item caught m n h k. tree_single g ts p rows item caught m n h k;
          in_query = λ rows item caught m n h k. constants_single (parts w ts) p rows item caught m n h k;
          in_condition = λ rows item caught m n h k. once_single (is_constant (length rows) (of g ts)) g ts p rows item caught m n h k;
        }

    parts_single : (ts : Terms) → AllSingle (parts w ts)
    parts_single nil = tt
    parts_single (cons t ts) = (part_single t, parts_single ts)

-- what a tree visits where it stands
pub visits_single : (w : AskedTables) (a : Around) (t : Term) (m n : ℕ) → AreHeld w → HasOneValue a.gives → Visits w t a m → Visits w t a n → m ≡ n
visits_single w a t m n held law h k = (part_single w held a.gives law t).visits a.rows a.item a.caught m n h k

pub one_visits : OneValue → (w : AskedTables) (types : Source → Option Shape) (values : Source → Data) (s : ScopeValues) (t : Term) (m n : ℕ) → AreHeld w → Visits w t (around types (Some values) s) m →
    Visits w t (around types (Some values) s) n → m ≡ n
one_visits law w types values s t m n held h k = visits_single w (around types (Some values) s) t m n held (λ rows item caught u v z. law types values rows item caught u v z) h k
