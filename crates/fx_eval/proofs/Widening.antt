-- What is visited over sources is visited over sources that may give more.
use Rattle.std.proofs.Common.{ℕ, suc, List, [], ◌∷◌, length, Bool, true, false, Option, Some, None}
use Rattle.fx_types.specs.Values.{Data, blank, number, text, boolean, date, rec, tab, fault}
use Rattle.fx_eval.specs.Courses.{Going, Turning, answers, chooses, catches, goes, passes, coalesces, turned_by}
use Rattle.fx_eval.specs.Visits.{AllVisit, AskedTables, ConditionsVisit, ConstantsVisit, EachVisits, FormVisits, FoundVisits, HeadVisits, InFound, OnceOr, OverVisits, VisitPart, PartVisits, PartsVisit, RangesVisit, RowsVisit, SearchVisits, TreeVisits, TurnVisits, UnlessError, Visiting, Visits, VisitsBy, WithinVisits, form_begun, visit_part, parts, search_of}
use Rattle.fx_plan.specs.Consumers.{over_query}
use Rattle.fx_plan.specs.QueryExpressions.{is_constant, sketch_of}
use Rattle.fx_plan.specs.declared.plans.Sketch.{Sketch}
use Rattle.fx_semantics.proofs.Wider.{GivesMore, giving, stays}
use Rattle.fx_semantics.specs.Around.{Around, AreValues, record_of}
use Rattle.fx_semantics.specs.Around.{catching as around_caught, inside as inside_of}
use Rattle.fx_semantics.specs.Fresh.{meanings}
use Rattle.fx_semantics.specs.Rows.{rows_in}
use Rattle.fx_core.specs.declared.functions.Fun.{Fun}
use Rattle.fx_core.specs.declared.functions.Fun.TheVariants as fun
use Rattle.fx_core.specs.declared.sources.Source.{Source}
use Rattle.fx_core.specs.declared.sources.Source.TheVariants as source
use Rattle.fx_core.specs.Term.{Term, Terms, of, nil, cons, Top, all}
use Rattle.fx_core.specs.Term as top
use Rattle.fx_typing.specs.WellTyped.{PartScope, inside, plain, bound, catching, standing_at}
use Rattle.fx_value.specs.Columns.{Row as Fields}

module _ (w : AskedTables) (g : Source → Data → Type 0) where
  abbrev Stays : Visiting → Type 1
  Stays V = (a : Around) (n : ℕ) → GivesMore g a → V a n → V (giving g a) n

  record PartStays (P : VisitPart) : Type 1 where
    pub worth : (a : Around) (v : Data) → GivesMore g a → P.worth a v → P.worth (giving g a) v
    pub visits : Stays P.visits
    pub in_query : Stays P.in_query
    pub in_condition : Stays P.in_condition

  abbrev AllStay : List VisitPart → Type 1
  AllStay [] = Unit {1}
  AllStay (P ∷ Ps) = PartStays P × AllStay Ps

  all_stay : (Ps : List VisitPart) → AllStay Ps → Stays (AllVisit Ps)
  all_stay [] s a n m h = h
  all_stay (P ∷ Ps) s a n m h = (h.0, h.1, s.0.visits a h.0 m h.2, all_stay Ps s.1 a h.1 m h.3, h.4)

  conditions_stay : (Ps : List VisitPart) → AllStay Ps → Stays (ConditionsVisit Ps)
  conditions_stay [] s a n m h = h
  conditions_stay (P ∷ Ps) s a n m h = (h.0, h.1, s.0.in_condition a h.0 m h.2, conditions_stay Ps s.1 a h.1 m h.3, h.4)

  constants_stay : (Ps : List VisitPart) → AllStay Ps → Stays (ConstantsVisit Ps)
  constants_stay [] s a n m h = h
  constants_stay (P ∷ Ps) s a n m h = (h.0, h.1, s.0.in_query a h.0 m h.2, conditions_stay Ps s.1 a h.1 m h.3, h.4)

  each_stays : (V : Visiting) → Stays V → (rows : List Fields) → Stays (EachVisits V rows)
  each_stays V s [] a n m h = h
  each_stays V s (r ∷ rows) a n m h = (h.0, h.1, s (inside_of a (record_of r)) h.0 m h.2, each_stays V s rows a h.1 m h.3, h.4)

  unless_stays : (d : Data) (P Q : ℕ → Type 0) (n : ℕ) → (P n → Q n) → UnlessError d P n → UnlessError d Q n
  unless_stays (fault k cs) P Q n f h = h
  unless_stays blank P Q n f h = f h
  unless_stays (number z) P Q n f h = f h
  unless_stays (text cs) P Q n f h = f h
  unless_stays (boolean b) P Q n f h = f h
  unless_stays (date z) P Q n f h = f h
  unless_stays (rec fs) P Q n f h = f h
  unless_stays (tab rs) P Q n f h = f h

  turn_stays : (x : Turning) (Ps : List VisitPart) → AllStay Ps → Stays (TurnVisits x Ps)
  turn_stays (answers d) Ps s a n m h = h
  turn_stays chooses (P ∷ Ps) s a n m h = s.0.visits a n m h
  turn_stays (catches k cs) (P ∷ Ps) s a n m h = s.0.visits (around_caught a k cs) n m h
  turn_stays (passes x) (P ∷ Ps) s a n m h = turn_stays (goes x) Ps s.1 a n m h
  turn_stays (goes x) (P ∷ Ps) s a n m h =
      (h.0, s.0.worth a h.0 m h.1, (h.2.0, h.2.1, s.0.visits a h.2.0 m h.2.2, turn_stays (turned_by x h.0) Ps s.1 a h.2.1 m h.2.3, h.2.4))
  turn_stays chooses [] s a n m h = h
  turn_stays (catches k cs) [] s a n m h = h
  turn_stays (passes x) [] s a n m h = h
  turn_stays (goes x) [] s a n m h = h

  form_stays : (x : Going) (Ps : List VisitPart) → AllStay Ps → Stays (FormVisits x Ps)
  form_stays x Ps s a n m h = turn_stays (goes x) Ps s a n m h

  within_stays : (Ps : List VisitPart) → AllStay Ps → Stays (WithinVisits Ps)
  within_stays [] s a n m h = h
  within_stays (P ∷ []) s a n m h = h
  within_stays (P ∷ F ∷ []) s a n m h =
      let next = unless_stays h.0 (F.visits (inside_of a h.0)) (F.visits (inside_of (giving g a) h.0)) h.2.1 (s.1.0.visits (inside_of a h.0) h.2.1 m) h.2.3 in
      (h.0, s.0.worth a h.0 m h.1, (h.2.0, h.2.1, s.0.visits a h.2.0 m h.2.2, next, h.2.4))
  within_stays (P ∷ F ∷ Q ∷ Ps) s a n m h = h

  part_stays_at : (x : PartScope) (rows : List Fields) (P : VisitPart) → PartStays P → Stays (PartVisits x rows P)
  part_stays_at inside rows P s a n m h = each_stays P.visits s.visits rows a n m h
  part_stays_at plain rows P s a n m h = s.visits a n m h
  part_stays_at bound rows P s a n m h = s.visits a n m h
  part_stays_at catching rows P s a n m h = s.visits a n m h

  parts_stay_from : (f : Fun) (c i : ℕ) (rows : List Fields) (Ps : List VisitPart) → AllStay Ps → Stays (PartsVisit f c i rows Ps)
  parts_stay_from f c i rows [] s a n m h = h
  parts_stay_from f c i rows (P ∷ Ps) s a n m h =
      (h.0, h.1, part_stays_at (standing_at (top.over f) c i) rows P s.0 a h.0 m h.2, parts_stay_from f c (suc i) rows Ps s.1 a h.1 m h.3, h.4)

  rows_stay : (f : Fun) (Ps : List VisitPart) → AllStay Ps → Stays (RowsVisit f Ps)
  rows_stay f [] s a n m h = h
  rows_stay f (P ∷ Ps) s a n m h =
      let next = unless_stays h.0 (PartsVisit f (suc (length Ps)) 1 (rows_in h.0) Ps a) (PartsVisit f (suc (length Ps)) 1 (rows_in h.0) Ps (giving g a)) h.2.1
      (parts_stay_from f (suc (length Ps)) 1 (rows_in h.0) Ps s.1 a h.2.1 m) h.2.3 in
      (h.0, s.0.worth a h.0 m h.1, (h.2.0, h.2.1, s.0.visits a h.2.0 m h.2.2, next, h.2.4))

  in_found_stays : (d : Data) (V : Visiting) → Stays V → Stays (InFound d V)
  in_found_stays (rec fs) V s a n m h = s (inside_of a (rec fs)) n m h
  in_found_stays (fault k cs) V s a n m h = h
  in_found_stays blank V s a n m h = h
  in_found_stays (number z) V s a n m h = h
  in_found_stays (text cs) V s a n m h = h
  in_found_stays (boolean b) V s a n m h = h
  in_found_stays (date z) V s a n m h = h
  in_found_stays (tab rs) V s a n m h = h

  found_stays : (q c f : Term) → PartStays (visit_part w f) → Stays (FoundVisits (visit_part w q) (visit_part w c) (visit_part w f))
  found_stays q c f s a n m h = (h.0, stays g (over_query fun.LookUp q (cons c nil)) a h.0 m h.1, in_found_stays h.0 (Visits w f) s.visits a n m h.2)

  over_stays : (f : Fun) (ts : Terms) → AllStay (parts w ts) → Stays (OverVisits f (parts w ts))
  over_stays fun.LookUp (cons q (cons c (cons f nil))) s a n m h =
      (h.0, h.1, rows_stay fun.LookUp (visit_part w q ∷ visit_part w c ∷ []) (s.0, (s.1.0, tt)) a h.0 m h.2, found_stays q c f s.1.1.0 a h.1 m h.3, h.4)
  over_stays fun.LookUp nil s a n m h = rows_stay fun.LookUp [] s a n m h
  over_stays fun.LookUp (cons q nil) s a n m h = rows_stay fun.LookUp (parts w (cons q nil)) s a n m h
  over_stays fun.LookUp (cons q (cons c nil)) s a n m h = rows_stay fun.LookUp (parts w (cons q (cons c nil))) s a n m h
  over_stays fun.LookUp (cons q (cons c (cons f (cons x xs)))) s a n m h = rows_stay fun.LookUp (parts w (cons q (cons c (cons f (cons x xs))))) s a n m h
  over_stays f ts s a n m h = rows_stay f (parts w ts) s a n m h

  head_stays : (x : Top) (ts : Terms) → AllStay (parts w ts) → Stays (HeadVisits w x (parts w ts))
  head_stays (top.read (source.Table k)) ts s a n m h = h
  head_stays (top.form f) ts s a n m h = form_stays (form_begun f) (parts w ts) s a n m h
  head_stays (top.call fun.Coalesce) ts s a n m h = form_stays coalesces (parts w ts) s a n m h
  head_stays (top.over f) ts s a n m h = over_stays f ts s a n m h
  head_stays top.within ts s a n m h = within_stays (parts w ts) s a n m h
  head_stays x ts s a n m h = all_stay (parts w ts) s a n m h

  values_stay : (ts : List Term) (ds : List Data) (a : Around) → GivesMore g a → AreValues (meanings (all ts)) a ds → AreValues (meanings (all ts)) (giving g a) ds
  values_stay [] [] a m h = h
  values_stay (t ∷ ts) (d ∷ ds) a m h = (stays g t a d m h.0, values_stay ts ds a m h.1)
  values_stay [] (d ∷ ds) a m h = absurd h
  values_stay (t ∷ ts) [] a m h = absurd h

  ranges_stay : (s : Sketch) → Stays (RangesVisit w s)
  ranges_stay s a n m h = (h.0, values_stay s.constants h.0 (inside_of a blank) m h.1, h.2)

  search_stays : (s : Sketch) (ts : Terms) → AllStay (parts w ts) → Stays (SearchVisits w s (parts w ts))
  search_stays s nil k a n m h = h
  search_stays s (cons q nil) k a n m h = h
  search_stays s (cons q (cons c nil)) k a n m h = (h.0, h.1, constants_stay (parts w (cons q (cons c nil))) k a h.0 m h.2, ranges_stay s a h.1 m h.3, h.4)
  search_stays s (cons q (cons c (cons f nil))) k a n m h = (
    h.0,
    h.1,
    (h.2.0, h.2.1, constants_stay (parts w (cons q (cons c nil))) (k.0, (k.1.0, tt)) a h.2.0 m h.2.2, ranges_stay s a h.2.1 m h.2.3, h.2.4),
    found_stays q c f k.1.1.0 a h.1 m h.3,
    h.4,
  )
  search_stays s (cons q (cons c (cons f (cons x xs)))) k a n m h = h

  by_stays : (o x : Option Sketch) (h : Top) (ts : Terms) → AllStay (parts w ts) → Stays (VisitsBy w o x h (parts w ts))
  by_stays (Some s) x h ts k a n m v = (v.0, v.1, constants_stay (parts w ts) k a v.0 m v.2, ranges_stay s a v.1 m v.3, v.4)
  by_stays None (Some s) h ts k a n m v = search_stays s ts k a n m v
  by_stays None None h ts k a n m v = head_stays h ts k a n m v

  tree_stays : (h : Top) (ts : Terms) → AllStay (parts w ts) → Stays (TreeVisits w h ts (parts w ts))
  tree_stays h ts k a n m v = by_stays (sketch_of w.shapes (length a.rows) (of h ts)) (search_of w.shapes (length a.rows) (of h ts)) h ts k a n m v

  once_stays : (b : Bool) (h : Top) (ts : Terms) → AllStay (parts w ts) → (a : Around) (n : ℕ) → GivesMore g a → OnceOr b (TreeVisits w h ts (parts w ts) (inside_of a blank)) (ConditionsVisit (parts w ts) a) n →
      OnceOr b (TreeVisits w h ts (parts w ts) (inside_of (giving g a) blank)) (ConditionsVisit (parts w ts) (giving g a)) n
  once_stays true h ts k a n m v = tree_stays h ts k (inside_of a blank) n m v
  once_stays false h ts k a n m v = conditions_stay (parts w ts) k a n m v

  mutual
    part_stays : (t : Term) → PartStays (visit_part w t)
    part_stays (of h ts) =
        let k = parts_stay ts in
        record {
          worth = λ a v m p. stays g (of h ts) a v m p;
          visits = λ a n m v. tree_stays h ts k a n m v;
          in_query = λ a n m v. constants_stay (parts w ts) k a n m v;
          in_condition = λ a n m v. once_stays (is_constant (length a.rows) (of h ts)) h ts k a n m v;
        }

    parts_stay : (ts : Terms) → AllStay (parts w ts)
    parts_stay nil = tt
    parts_stay (cons t ts) = (part_stays t, parts_stay ts)

-- what a tree visits, where all sources give no less
pub visits_stay : (w : AskedTables) (g : Source → Data → Type 0) (t : Term) (a : Around) (n : ℕ) → GivesMore g a → Visits w t a n → Visits w t (giving g a) n
visits_stay w g t a n m v = (part_stays w g t).visits a n m v
