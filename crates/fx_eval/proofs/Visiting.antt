-- Rows that are visited, one part after another.
use Rattle.std.proofs.Common.{◌≡◌, ◌∙◌, ◌≤◌, ℕ, suc, ◌+◌, ◌<◌, List, [], ◌∷◌, ◌++◌, length, take, get_or, Bool, Option, Some, None, ap, refl, sym, subst, arith}
use Rattle.std.specs.Prelude.{Result, Ok, Err, IfOk, if◌then◌else◌}
use Rattle.std.proofs.lemmas.List.{length-take-le, take_more}
use Rattle.fx_base.specs.Silence.{MayFallSilent, SilenceCause}
use Rattle.fx_base.specs.Telling.{Stays}
use Rattle.fx_types.specs.Values.{Data, fault, rec, blank, number, text, boolean, date, tab}
use Rattle.fx_env.specs.Scopes.{Fixed, ScopeValues, around}
use Rattle.fx_env.specs.Telling.{IsHeard, EnvState, values_told}
use Rattle.fx_eval.specs.Courses.{Going, Turning, answers, chooses, catches, goes, passes, turned_by}
use Rattle.fx_eval.specs.EvalSteps.{HasVisited, Moment, Went}
use Rattle.fx_eval.proofs.Passing.{meant_before, went_on}
use Rattle.fx_eval.specs.Parts.{terms_of}
use Rattle.fx_eval.specs.Visits.{AllVisit, AskedTables, AtMost, EachVisits, FormVisits, IsUnasked, OverVisits, PartVisits, PartsVisit, RowsVisit, TurnVisits, Visiting, Visits, VisitsBy, VisitsByHead, asked_tables, visit_part, parts, search_of}
use Rattle.fx_plan.specs.declared.plans.Sketch.{Sketch}
use Rattle.fx_semantics.specs.Around.{Around, Meaning, record_of}
use Rattle.fx_semantics.specs.Around.{inside as inside_of}
use Rattle.fx_semantics.specs.Rows.{IsMade, IsTableCall, IsOfFound, rows_in}
use Rattle.fx_semantics.specs.Fresh.{IsValue, meaning}
use Rattle.fx_scalar.specs.LazyForms.{ErrorOr}
use Rattle.fx_core.specs.declared.functions.Fun.{Fun}
use Rattle.fx_core.specs.declared.functions.Fun.TheVariants as fun
use Rattle.fx_core.specs.declared.sources.Source.{Source}
use Rattle.fx_core.specs.Term.{Term, of, all}
use Rattle.fx_core.specs.Term as top
use Rattle.fx_typing.specs.WellTyped.{PartScope, inside, plain, standing_at}
use Rattle.fx_value.specs.Columns.{Row as Fields}

-- ---- from one moment to the next

-- what is told later was told before
pub told_before : {B : Type 0} (a b : Moment B) → Went a b → (w : EnvState B) → b.told ≡ Some w → a.told ≡ Some w
told_before {B} a b g w e = by a.told b.told g.told e
  where
    by : (x y : Option (EnvState B)) → MayFallSilent (SilenceCause a.marks b.marks) Stays x y → y ≡ Some w → x ≡ Some w
    by None y k h = absurd cc
    by (Some x) None k h = absurd cc
    by (Some x) (Some y) k h = ap Some (sym k) ∙ h

-- values are heard that are told
pub told_heard : {B : Type 0} (x : Option (EnvState B)) (w : EnvState B) → x ≡ Some w → IsHeard (values_told x) (Some w.values)
told_heard x w e = ap values_told e

-- what is visited from a later moment on, by what stands at an earlier one
pub from_before : {B : Type 0} (V : AskedTables → Visiting) (m n o : Moment B) → Went m n → HasVisited V n o → (w : EnvState B) → o.told ≡ Some w →
    AtMost (V (asked_tables m.fixed w) (around m.fixed.types (Some w.values) m.scope)) n.visited o.visited
from_before V m n o g h w e =
    subst (λ (s : ScopeValues). AtMost (V (asked_tables m.fixed w) (around m.fixed.types (Some w.values) s)) n.visited o.visited) g.scope
    (subst (λ (f : Fixed). AtMost (V (asked_tables f w) (around f.types (Some w.values) n.scope)) n.visited o.visited) g.fixed (h w e))

-- the same number, of another thing
pub at_most_as : (P Q : ℕ → Type 0) (x y : ℕ) → ((n : ℕ) → P n → Q n) → AtMost P x y → AtMost Q x y
at_most_as P Q x y f p = (p.0, f p.0 p.1, p.2)

-- two things that hold of a value
pub ok_both : {T E : Type 0} (r : Result T E) (P Q R : T → Type 0) → ((v : T) → P v → Q v → R v) → IfOk r P → IfOk r Q → IfOk r R
ok_both (Ok v) P Q R f p q = f v p q
ok_both (Err e) P Q R f p q = tt

-- what holds of any value
pub ok_always : {T E : Type 0} (r : Result T E) (P : Type 0) → P → IfOk r (λ v. P)
ok_always (Ok v) P p = p
ok_always (Err e) P p = tt

-- a moment as it is
pub stood : {B : Type 0} (m : Moment B) → Went m m
stood {B} m = record { fixed = refl; scope = refl; told = same m.told; later = record { faults = omega arith; doubt = omega arith }; ticks = refl; visited = omega arith }
  where
    same : (x : Option (EnvState B)) → MayFallSilent (SilenceCause m.marks m.marks) Stays x x
    same None = refl
    same (Some w) = refl

-- ---- parts, fields and rows, one after another

pub all_more : (w : AskedTables) (ts : List Term) (t : Term) (a : Around) (n m : ℕ) → AllVisit (parts w (all ts)) a n → Visits w t a m → AllVisit (parts w (all (ts ++ t ∷ []))) a (n + m)
all_more w [] t a n m h k = let none : n ≡ 0 = h in (m, 0, k, refl, omega (arith, none))
all_more w (u ∷ ts) t a n m h k =
    let e : n ≡ h.0 + h.1 = h.4 in
    (h.0, h.1 + m, h.2, all_more w ts t a h.1 m h.3 k, omega (arith, e))

pub all_step : {B : Type 0} (m n o : Moment B) (ts : List Term) (i : ℕ) (t : Term) → i < length ts → t ≡ get_or ts i t → Went m n → Went n o → HasVisited (λ w. AllVisit (parts w (all (take i ts)))) m n →
    HasVisited (λ w. Visits w t) n o → HasVisited (λ w. AllVisit (parts w (all (take (i + 1) ts)))) m o
all_step m n o ts i t l e g h p q w z =
    let a = around m.fixed.types (Some w.values) m.scope in
    let tables = asked_tables m.fixed w in
    let more : take (i + 1) ts ≡ take i ts ++ t ∷ [] = take_more ts i t l ∙ ap (λ x. take i ts ++ x ∷ []) (sym e) in
    let first = p w (told_before n o h w z) in
    let next = from_before (λ x. Visits x t) m n o g q w z in
    let k = first.2 in
    let j = next.2 in (
      first.0 + next.0,
      subst (λ (xs : List Term). AllVisit (parts tables (all xs)) a (first.0 + next.0)) (sym more) (all_more tables (take i ts) t a first.0 next.0 first.1 next.1),
      omega (arith, k, j),
    )

terms_more : (fs : List (List ℕ × Term)) (f : List ℕ × Term) → terms_of (fs ++ f ∷ []) ≡ terms_of fs ++ f.1 ∷ []
terms_more [] f = refl
terms_more (g ∷ fs) f = ap (λ xs. g.1 ∷ xs) (terms_more fs f)

pub fields_step : {B : Type 0} (m n o : Moment B) (fs : List (List ℕ × Term)) (i : ℕ) (f : List ℕ × Term) → i < length fs → f ≡ get_or fs i f → Went m n → Went n o →
    HasVisited (λ w. AllVisit (parts w (all (terms_of (take i fs))))) m n → HasVisited (λ w. Visits w f.1) n o → HasVisited (λ w. AllVisit (parts w (all (terms_of (take (i + 1) fs))))) m o
fields_step m n o fs i f l e g h p q w z =
    let a = around m.fixed.types (Some w.values) m.scope in
    let tables = asked_tables m.fixed w in
    let more : take (i + 1) fs ≡ take i fs ++ f ∷ [] = take_more fs i f l ∙ ap (λ x. take i fs ++ x ∷ []) (sym e) in
    let first = p w (told_before n o h w z) in
    let next = from_before (λ x. Visits x f.1) m n o g q w z in
    let k = first.2 in
    let j = next.2 in (
      first.0 + next.0,
      subst (λ (xs : List Term). AllVisit (parts tables (all xs)) a (first.0 + next.0)) (sym (ap terms_of more ∙ terms_more (take i fs) f))
          (all_more tables (terms_of (take i fs)) f.1 a first.0 next.0 first.1 next.1),
      omega (arith, k, j),
    )

each_more : (V : Visiting) (rs : List Fields) (r : Fields) (a : Around) (n m : ℕ) → EachVisits V rs a n → V (inside_of a (record_of r)) m → EachVisits V (rs ++ r ∷ []) a (n + m)
each_more V [] r a n m h k = let none : n ≡ 0 = h in (m, 0, k, refl, omega (arith, none))
each_more V (s ∷ rs) r a n m h k =
    let e : n ≡ h.0 + h.1 = h.4 in
    (h.0, h.1 + m, h.2, each_more V rs r a h.1 m h.3 k, omega (arith, e))

pub each_step : {B : Type 0} (m n o : Moment B) (t : Term) (rows : List Fields) (i : ℕ) (r s : Fields) → i < length rows → r ≡ get_or rows i r → s ≡ r → Went m n → Went n o →
    HasVisited (λ w. EachVisits (Visits w t) (take i rows)) m n → HasVisited (λ w a. Visits w t (inside_of a (record_of s))) n o → HasVisited (λ w. EachVisits (Visits w t) (take (i + 1) rows)) m o
each_step m n o t rows i r s l e same g h p q w z =
    let a = around m.fixed.types (Some w.values) m.scope in
    let tables = asked_tables m.fixed w in
    let more : take (i + 1) rows ≡ take i rows ++ r ∷ [] = take_more rows i r l ∙ ap (λ x. take i rows ++ x ∷ []) (sym e) in
    let first = p w (told_before n o h w z) in
    let next = from_before (λ x b. Visits x t (inside_of b (record_of s))) m n o g q w z in
    let k = first.2 in
    let j = next.2 in (
      first.0 + next.0,
      subst (λ (xs : List Fields). EachVisits (Visits tables t) xs a (first.0 + next.0)) (sym more)
          (each_more (Visits tables t) (take i rows) r a first.0 next.0 first.1 (subst (λ (x : Fields). Visits tables t (inside_of a (record_of x)) next.0) same next.1)),
      omega (arith, k, j),
    )

parts_more : (w : AskedTables) (f : Fun) (c i j : ℕ) (rows : List Fields) (ts : List Term) (t : Term) (a : Around) (n m : ℕ) → j ≡ i + length ts →
    PartsVisit f c i rows (parts w (all ts)) a n → PartVisits (standing_at (top.over f) c j) rows (visit_part w t) a m → PartsVisit f c i rows (parts w (all (ts ++ t ∷ []))) a (n + m)
parts_more w f c i j rows [] t a n m e h k =
    let same : j ≡ i = omega (arith, e) in
    let none : n ≡ 0 = h in
    (m, 0, subst (λ (x : ℕ). PartVisits (standing_at (top.over f) c x) rows (visit_part w t) a m) same k, refl, omega (arith, none))
parts_more w f c i j rows (u ∷ ts) t a n m e h k =
    let q : n ≡ h.0 + h.1 = h.4 in
    (h.0, h.1 + m, h.2, parts_more w f c (suc i) j rows ts t a h.1 m (omega (arith, e)) h.3 k, omega (arith, q))

pub parts_step : {B : Type 0} (m n o : Moment B) (f : Fun) (c : ℕ) (rows : List Fields) (ts : List Term) (i j : ℕ) (t : Term) (b : Bool) → i < length ts → t ≡ get_or ts i t → j ≡ 1 + i →
    standing_at (top.over f) c j ≡ (if b then inside else plain) → Went m n → Went n o → HasVisited (λ w. PartsVisit f c 1 rows (parts w (all (take i ts)))) m n →
    HasVisited (λ w. PartVisits (if b then inside else plain) rows (visit_part w t)) n o → HasVisited (λ w. PartsVisit f c 1 rows (parts w (all (take (i + 1) ts)))) m o
parts_step m n o f c rows ts i j t b l e at stands g h p q w z =
    let a = around m.fixed.types (Some w.values) m.scope in
    let tables = asked_tables m.fixed w in
    let more : take (i + 1) ts ≡ take i ts ++ t ∷ [] = take_more ts i t l ∙ ap (λ x. take i ts ++ x ∷ []) (sym e) in
    let long : length (take i ts) ≡ i = length-take-le i ts (omega (arith, l)) in
    let first = p w (told_before n o h w z) in
    let next = from_before (λ x. PartVisits (if b then inside else plain) rows (visit_part x t)) m n o g q w z in
    let k = first.2 in
    let d = next.2 in (
      first.0 + next.0,
      subst (λ (xs : List Term). PartsVisit f c 1 rows (parts tables (all xs)) a (first.0 + next.0)) (sym more)
          (parts_more tables f c 1 j rows (take i ts) t a first.0 next.0 (omega (arith, at, long)) first.1
          (subst (λ (x : PartScope). PartVisits x rows (visit_part tables t) a next.0) (sym stands) next.1)),
      omega (arith, k, d),
    )

-- ---- trees

-- by its head, where it is neither a query expression nor a search
pub by_head : (w : AskedTables) (t : Term) (a : Around) (n : ℕ) → IsUnasked w.shapes (length a.rows) t → VisitsByHead w t a n → Visits w t a n
by_head w (of h ts) a n u v =
    subst (λ (o : Option Sketch). VisitsBy w o (search_of w.shapes (length a.rows) (of h ts)) h (parts w ts) a n) (sym u.0)
    (subst (λ (o : Option Sketch). VisitsBy w None o h (parts w ts) a n) (sym u.1) v)

-- ---- forms

-- nothing is evaluated where no part is left
pub none_behind : (x : Turning) (a : Around) → TurnVisits x [] a 0
none_behind (answers d) a = refl
none_behind chooses a = refl
none_behind (catches k cs) a = refl
none_behind (goes g) a = refl
none_behind (passes g) a = refl

-- so far so many rows were visited, and what is left comes with them to the whole
abbrev pub HasPassed : {B : Type 0} → Going → List Term → Going → List Term → Moment B → Moment B → Type 0
HasPassed {B} g rest whole all_parts m n =
    (w : EnvState B) → n.told ≡ Some w → (k : ℕ) × (n.visited ≤ m.visited + k)
    × ((l : ℕ) → FormVisits g (parts (asked_tables m.fixed w) (all rest)) (around m.fixed.types (Some w.values) m.scope) l →
    FormVisits whole (parts (asked_tables m.fixed w) (all all_parts)) (around m.fixed.types (Some w.values) m.scope) (k + l))

-- as it begins
pub none_passed : {B : Type 0} (m : Moment B) (g : Going) (ts : List Term) → HasPassed g ts g ts m m
none_passed m g ts w e = (
  0,
  omega arith,
  λ l h. let same : l ≡ 0 + l = omega arith in subst (FormVisits g (parts (asked_tables m.fixed w) (all ts)) (around m.fixed.types (Some w.values) m.scope)) same h,
)

-- a value that a part has at a later moment, at an earlier one
worth_before : {B : Type 0} (m n o : Moment B) (t : Term) (d : Data) → Went m n → ((told : Option (Source → Data)) → IsHeard (values_told o.told) told → IsValue (around n.fixed.types told n.scope) t d) →
    (w : EnvState B) → o.told ≡ Some w → meaning t (around m.fixed.types (Some w.values) m.scope) d
worth_before m n o t d g h w e = meant_before (Some w.values) (meaning t) (λ s. s) m n g d (h (Some w.values) (told_heard o.told w e))

-- a part was evaluated, whose value makes this of the form, and then what that is visits no more than this
pub part_passed : {B : Type 0} (m n o p : Moment B) (g whole : Going) (all_parts rest : List Term) (t : Term) (others : List Term) (d : Data) (x : Turning) (U : AskedTables → Visiting) → Went m n → Went n o → Went o p →
    HasPassed g rest whole all_parts m n → rest ≡ t ∷ others → HasVisited (λ w. Visits w t) n o →
    ((told : Option (Source → Data)) → IsHeard (values_told o.told) told → IsValue (around n.fixed.types told n.scope) t d) → x ≡ turned_by g d →
    HasVisited U o p → ((w : AskedTables) (a : Around) (l : ℕ) → U w a l → TurnVisits x (parts w (all others)) a l) →
    HasVisited (λ w. FormVisits whole (parts w (all all_parts))) m p
part_passed m n o p g whole all_parts rest t others d x U g1 g2 g3 passed is here worth turns after by w e =
    let tables = asked_tables m.fixed w in
    let a = around m.fixed.types (Some w.values) m.scope in
    let there : o.told ≡ Some w = told_before o p g3 w e in
    let before = passed w (told_before n o g2 w there) in
    let one = from_before (λ z. Visits z t) m n o g1 here w there in
    let two = from_before U m o p (went_on m n o g1 g2) after w e in
    let turn : TurnVisits (turned_by g d) (parts tables (all others)) a two.0 = subst (λ (z : Turning). TurnVisits z (parts tables (all others)) a two.0) turns (by tables a two.0 two.1) in
    let form : FormVisits g (parts tables (all (t ∷ others))) a (one.0 + two.0) = (d, worth_before m n o t d g1 worth w there, (one.0, two.0, one.1, turn, refl)) in
    let k = before.1 in
    let i = one.2 in
    let j = two.2 in (
      before.0 + (one.0 + two.0),
      before.2 (one.0 + two.0) (subst (λ (zs : List Term). FormVisits g (parts tables (all zs)) a (one.0 + two.0)) (sym is) form),
      omega (arith, k, i, j),
    )

-- the form goes on
pub part_goes : {B : Type 0} (m n o : Moment B) (g next whole : Going) (all_parts rest : List Term) (t : Term) (others left : List Term) (d : Data) (x : Turning) → Went m n → Went n o →
    HasPassed g rest whole all_parts m n → rest ≡ t ∷ others → HasVisited (λ w. Visits w t) n o →
    ((told : Option (Source → Data)) → IsHeard (values_told o.told) told → IsValue (around n.fixed.types told n.scope) t d) → x ≡ turned_by g d →
    ((w : AskedTables) (a : Around) (l : ℕ) → FormVisits next (parts w (all left)) a l → TurnVisits x (parts w (all others)) a l) → HasPassed next left whole all_parts m o
part_goes m n o g next whole all_parts rest t others left d x g1 g2 passed is here worth turns by w e =
    let tables = asked_tables m.fixed w in
    let a = around m.fixed.types (Some w.values) m.scope in
    let before = passed w (told_before n o g2 w e) in
    let one = from_before (λ z. Visits z t) m n o g1 here w e in
    let k = before.1 in
    let i = one.2 in (
      before.0 + one.0,
      omega (arith, k, i),
      λ l h.
          let turn : TurnVisits (turned_by g d) (parts tables (all others)) a l = subst (λ (z : Turning). TurnVisits z (parts tables (all others)) a l) turns (by tables a l h) in
          let form : FormVisits g (parts tables (all (t ∷ others))) a (one.0 + l) = (d, worth_before m n o t d g1 worth w e, (one.0, l, one.1, turn, refl)) in
          let sum : before.0 + (one.0 + l) ≡ before.0 + one.0 + l = omega arith in
          subst (FormVisits whole (parts tables (all all_parts)) a) sum
          (before.2 (one.0 + l) (subst (λ (zs : List Term). FormVisits g (parts tables (all zs)) a (one.0 + l)) (sym is) form)),
    )

-- a part that stands alone at the end
pub end_passed : {B : Type 0} (m n o : Moment B) (g whole : Going) (all_parts rest : List Term) (t : Term) (others : List Term) (d : Data) → Went m n → Went n o → HasPassed g rest whole all_parts m n →
    rest ≡ t ∷ others → others ≡ [] → HasVisited (λ w. Visits w t) n o → ((told : Option (Source → Data)) → IsHeard (values_told o.told) told → IsValue (around n.fixed.types told n.scope) t d) →
    HasVisited (λ w. FormVisits whole (parts w (all all_parts))) m o
end_passed m n o g whole all_parts rest t others d g1 g2 passed is last here worth w e =
    let tables = asked_tables m.fixed w in
    let a = around m.fixed.types (Some w.values) m.scope in
    let before = passed w (told_before n o g2 w e) in
    let one = from_before (λ z. Visits z t) m n o g1 here w e in
    let same : rest ≡ t ∷ [] = is ∙ ap (λ zs. t ∷ zs) last in
    let form : FormVisits g (parts tables (all (t ∷ []))) a one.0 = (d, worth_before m n o t d g1 worth w e, (one.0, 0, one.1, none_behind (turned_by g d) a, omega arith)) in
    let k = before.1 in
    let i = one.2 in (
      before.0 + one.0,
      before.2 one.0 (subst (λ (zs : List Term). FormVisits g (parts tables (all zs)) a one.0) (sym same) form),
      omega (arith, k, i),
    )

-- no part is left
pub all_passed : {B : Type 0} (m n : Moment B) → Went m n → (g whole : Going) (all_parts rest : List Term) → length rest ≡ 0 → HasPassed g rest whole all_parts m n → HasVisited (λ w. FormVisits whole (parts w (all all_parts))) m n
all_passed m n went g whole all_parts [] none passed w e =
    let before = passed w e in
    let k = before.1 in
    (before.0 + 0, before.2 0 refl, omega (arith, k))
all_passed m n went g whole all_parts (t ∷ ts) none passed w e = absurd (omega arith)

-- ---- calls over tables

-- `LookUp` with a formula is what it finds, and then the formula in the scope of that
pub searched_worth : (P C F : Meaning) (a : Around) (d v : Data) → IsTableCall fun.LookUp (P ∷ C ∷ []) a d → IsOfFound d F a v → IsTableCall fun.LookUp (P ∷ C ∷ F ∷ []) a v
searched_worth P C F a d v h k = (h.0, h.1, by h.0 h.2)
  where
    made : (rows : List Fields) → IsMade fun.LookUp rows (C ∷ []) a d → IsMade fun.LookUp rows (C ∷ F ∷ []) a v
    made rows m = (m.0, m.1, subst (λ (z : Data). IsOfFound z F a v) m.2 k)

    by : (x : Data) → ErrorOr x (IsMade fun.LookUp (rows_in x) (C ∷ []) a d) d → ErrorOr x (IsMade fun.LookUp (rows_in x) (C ∷ F ∷ []) a v) v
    by (fault i cs) e = let same : IsOfFound (fault i cs) F a v = subst (λ (z : Data). IsOfFound z F a v) e k in same
    by blank m = made [] m
    by (number z) m = made [] m
    by (text cs) m = made [] m
    by (boolean b) m = made [] m
    by (date z) m = made [] m
    by (rec fs) m = made [] m
    by (tab rs) m = made (rows_in (tab rs)) m

-- any other call evaluates all its parts
pub over_whole : (w : AskedTables) (f : Fun) (t : Term) (ts : List Term) (a : Around) (n : ℕ) → (f ≡ fun.LookUp → length ts ≡ 2 → ⊥) → RowsVisit f (visit_part w t ∷ parts w (all ts)) a n → OverVisits f (visit_part w t ∷ parts w (all ts)) a n
over_whole w fun.LookUp t [] a n whole h = h
over_whole w fun.LookUp t (x ∷ []) a n whole h = h
over_whole w fun.LookUp t (x ∷ y ∷ []) a n whole h = absurd (whole refl refl)
over_whole w fun.LookUp t (x ∷ y ∷ z ∷ zs) a n whole h = h
over_whole w f t ts a n whole h = h
