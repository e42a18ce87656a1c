-- The parts of a call over a table are ready, each where it stands.
use Rattle.std.proofs.Common.{◌≡◌, ℕ, zero, suc, ◌+◌, ◌<◌, List, [], ◌∷◌, ◌++◌, map, take, length, get_or, Option, Bool, true, false, refl, ap, sym, subst, ◌∙◌, arith}
use Rattle.std.specs.Prelude.{if◌then◌else◌}
use Rattle.std.proofs.lemmas.List.{length-append, length-take-le, map-append, take_more}
use Rattle.fx_types.specs.Types.{Shape, records, tables, ColumnList}
use Rattle.fx_types.specs.declared.values.Value.{Value}
use Rattle.fx_types.specs.Values.{Data}
use Rattle.fx_types.specs.ValueView.{view}
use Rattle.fx_eval.specs.EvalSteps.{Moment, Went}
use Rattle.fx_eval.specs.Parts.{ArePartsReady, AreInside, IsPartReady, inner}
use Rattle.fx_env.specs.Scopes.{ScopeValues, Suits, IsTypedHere, CanEvaluate, around}
use Rattle.fx_eval.proofs.CallHeads.{table_first}
use Rattle.fx_eval.proofs.Passing.{as_before, held_before}
use Rattle.fx_eval.proofs.Ready.{AreCalm, Lawfully, calm_parts, calm_rest, part_ready, suits_inside}
use Rattle.fx_semantics.proofs.Tables.{RowsFit, rows_in_fit}
use Rattle.fx_semantics.specs.Around.{Around, AreEach, Meaning, record_of}
use Rattle.fx_semantics.specs.Around.{inside as inside_of}
use Rattle.fx_semantics.specs.Fresh.{IsValue, meaning, meanings}
use Rattle.fx_semantics.specs.Rows.{IsTableCall, rows_in}
use Rattle.fx_semantics.specs.Sound.{AreLawfulTypings}
use Rattle.fx_core.specs.declared.functions.Fun.{Fun}
use Rattle.fx_core.specs.declared.rows.Takes.{Takes}
use Rattle.fx_core.specs.declared.sources.Source.{Source}
use Rattle.fx_core.specs.Rows.{row_of}
use Rattle.fx_eval.proofs.Grown.{each_more, given_more}
use Rattle.fx_eval.proofs.Made.{over_made}
use Rattle.fx_eval.proofs.Whole.{can_over}
use Rattle.fx_eval.specs.declared.answers.Answers.{Answers}
use Rattle.fx_eval.specs.Given.{AreGiven, ArgumentValues, PartGives, argument_values}
use Rattle.fx_eval.specs.TableCalls.{CanMake, IsMadeOf}
use Rattle.fx_tables.specs.Unions.{is_fault}
use Rattle.fx_value.specs.Columns.{Row}
use Rattle.fx_core.specs.Term.{Term, Terms, of, cons, all, over}
use Rattle.fx_value.specs.Fits.{fits_in}
use Rattle.fx_typing.specs.WellTyped.{Context, AreTyped, AllStand, Stands, PartScope, plain, inside, bound, catching, context_for, first_type, parts_count, standing_at, standing_of}

abbrev Types : Type 0
Types = Source → Option Shape

-- in the scope of each row
inside_all : (types : Types) (s : ScopeValues) (c : Context) (cs : ColumnList) (t : Term) (ts : Terms) (u : Shape) → Suits types s c →
    Lawfully (record c { rows = c.rows ++ records cs ∷ [] }) t u → AreCalm (cons t ts) → (rows : List Row) → RowsFit cs rows → AreInside types s t rows
inside_all types s c cs t ts u f h q [] k = tt
inside_all types s c cs t ts u f h q (r ∷ rows) k = (
  (u, part_ready types (inner s (record_of r)) (record c { rows = c.rows ++ records cs ∷ [] }) t ts u (suits_inside types s c (record_of r) (records cs) f k.0) h q),
  inside_all types s c cs t ts u f h q rows k.1,
)

-- a part where it stands, behind the table
asked : (types : Types) (s : ScopeValues) (c : Context) (cs : ColumnList) (more : List Shape) (t : Term) (ts : Terms) (u : Shape) (x : PartScope) → Suits types s c →
    Lawfully (context_for x c (tables cs ∷ more)) t u → AreCalm (cons t ts) → (rows : List Row) → RowsFit cs rows → IsPartReady x types s rows t
asked types s c cs more t ts u inside f h q rows k = inside_all types s c cs t ts u f h q rows k
asked types s c cs more t ts u plain f h q rows k = (u, part_ready types s c t ts u f h q)
asked types s c cs more t ts u bound f h q rows k = tt
asked types s c cs more t ts u catching f h q rows k = tt

all_asked : (types : Types) (s : ScopeValues) (c : Context) (f : Fun) (n : ℕ) (cs : ColumnList) (rows : List Row) → Suits types s c → RowsFit cs rows →
    (ts : List Term) (more us : List Shape) (i : ℕ) → i ≡ suc (length more) →
    (w : AreTyped c (over f) n (tables cs ∷ more) (all ts) us) → AreLawfulTypings c (over f) n (tables cs ∷ more) (all ts) us w → AreCalm (all ts) →
    ArePartsReady f n i types s rows ts
all_asked types s c f n cs rows g k [] more us i e w l q = tt
all_asked types s c f n cs rows g k (t ∷ ts) more us i e w l q =
    let long : length (more ++ w.0 ∷ []) ≡ length more + 1 = length-append more (w.0 ∷ []) in (
      subst (λ (z : ℕ). IsPartReady (standing_at (over f) n z) types s rows t) (sym e)
          (asked types s c cs more t (all ts) w.0 (standing_at (over f) n (suc (length more))) g (w.3, l.0) q rows k),
      all_asked types s c f n cs rows g k ts (more ++ w.0 ∷ []) w.1 (suc i) (omega arith) w.4 l.1 (calm_rest t (all ts) q),
    )

-- so many parts
pub count_all : (ts : List Term) → parts_count (all ts) ≡ length ts
count_all [] = refl
count_all (t ∷ ts) = ap suc (count_all ts)

-- the table, where the whole stands
pub table_ready : (types : Types) (s : ScopeValues) (f : Fun) (t : Term) (ts : List Term) (u : Shape) → (r : IsTypedHere types s (of (over f) (cons t (all ts))) u) →
    IsTypedHere types s t r.typed.1.0
table_ready types s f t ts u r =
    let n = parts_count (cons t (all ts)) in
    let there : Lawfully (context_for (standing_at (over f) n 0) r.context []) t r.typed.1.0 = (r.typed.1.3, r.lawful.1.0) in
    part_ready types s r.context t (all ts) r.typed.1.0 r.suits
    (subst (λ (k : Takes). Lawfully (context_for (standing_of k) r.context []) t r.typed.1.0) (table_first f r.typed.2.0 n) there)
    (calm_parts types s (over f) (cons t (all ts)) u r)

pub table_can : (types : Types) (s : ScopeValues) (f : Fun) (t : Term) (ts : List Term) → CanEvaluate types s (of (over f) (cons t (all ts))) → CanEvaluate types s t
table_can types s f t ts r = (r.1.typed.1.0, table_ready types s f t ts r.0 r.1)

-- its columns
table_columns : (types : Types) (s : ScopeValues) (f : Fun) (t : Term) (ts : List Term) (u : Shape) → (r : IsTypedHere types s (of (over f) (cons t (all ts))) u) →
    (cs : ColumnList) × (r.typed.1.0 ≡ tables cs)
table_columns types s f t ts u r =
    let us = r.typed.0 in
    let part = r.typed.1 in
    let rule = r.typed.2.1 in
    let at : AllStand (row_of f) (length us) 0 (first_type us) rule.1 (part.0 ∷ part.1) = subst (AllStand (row_of f) (length us) 0 (first_type us) rule.1) part.2 rule.2 in
    subst (λ (k : Takes). Stands k (first_type us) rule.1 part.0) (table_first f r.typed.2.0 (length us)) at.0

-- the other parts, for the rows of the table's value
pub parts_asked : (types : Types) (s : ScopeValues) (f : Fun) (t : Term) (ts : List Term) → CanEvaluate types s (of (over f) (cons t (all ts))) → (d : Data) →
    ((w : Shape) → IsTypedHere types s t w → fits_in d w ≡ true) → ArePartsReady f (suc (length ts)) 1 types s (rows_in d) ts
parts_asked types s f t ts r d fits =
    let part = r.1.typed.1 in
    let table = table_columns types s f t ts r.0 r.1 in
    let fit = fits part.0 (table_ready types s f t ts r.0 r.1) in
    let n = parts_count (cons t (all ts)) in
    let c = r.1.context in
    subst (λ (m : ℕ). ArePartsReady f (suc m) 1 types s (rows_in d) ts) (count_all ts)
    (asked_of types s c f n table.0 part.0 table.1 (rows_in d) r.1.suits (rows_in_fit d table.0 (subst (λ (z : Shape). fits_in d z ≡ true) table.1 fit)) ts part.1
    part.4 r.1.lawful.1.1 (calm_rest t (all ts) (calm_parts types s (over f) (cons t (all ts)) r.0 r.1)))
  where
    asked_of : (types : Types) (s : ScopeValues) (c : Context) (f : Fun) (n : ℕ) (cs : ColumnList) (u : Shape) → u ≡ tables cs → (rows : List Row) → Suits types s c → RowsFit cs rows →
        (ts : List Term) (us : List Shape) (w : AreTyped c (over f) n (u ∷ []) (all ts) us) → AreLawfulTypings c (over f) n (u ∷ []) (all ts) us w → AreCalm (all ts) →
        ArePartsReady f n 1 types s rows ts
    asked_of types s c f n cs u e rows g k ts us w l q =
        let both : (w : AreTyped c (over f) n (tables cs ∷ []) (all ts) us) × AreLawfulTypings c (over f) n (tables cs ∷ []) (all ts) us w =
        subst (λ (z : Shape). (w : AreTyped c (over f) n (z ∷ []) (all ts) us) × AreLawfulTypings c (over f) n (z ∷ []) (all ts) us w) e (w, l) in
        all_asked types s c f n cs rows g k ts [] us 1 refl both.0 both.1 q

-- what a function can make of what the parts come to
pub make_can : (types : Types) (told : Option (Source → Data)) (s : ScopeValues) (f : Fun) (t : Term) (ts : List Term) → CanEvaluate types s (of (over f) (cons t (all ts))) →
    (m : ℕ) (d : Data) (rows : List Row) (gs : List ArgumentValues) → IsValue (around types told s) t d → rows ≡ rows_in d → AreGiven (over f) m 1 (meanings (all ts)) (around types told s) rows gs →
    CanMake f rows gs
make_can types told s f t ts r m d rows gs p e q =
    let c = r.1.context in
    subst (λ (z : List Row). CanMake f z gs) (sym e)
    (can_over c told s.rows s.item s.caught r.1.suits.rows r.1.suits.item f t (all ts) r.0 r.1.typed r.1.lawful m d gs
    (subst (λ (z : Types). IsValue (around z told s) t d) (sym r.1.suits.sources) p)
    (subst (λ (z : Types). AreGiven (over f) m 1 (meanings (all ts)) (around z told s) (rows_in d) gs) (sym r.1.suits.sources)
    (subst (λ (z : List Row). AreGiven (over f) m 1 (meanings (all ts)) (around types told s) z gs) e q)))

-- one of the parts
pub asked_at : (f : Fun) (n i : ℕ) (types : Types) (s : ScopeValues) (rows : List Row) (ts : List Term) (k : ℕ) (t : Term) (j : ℕ) → ArePartsReady f n i types s rows ts → k < length ts → t ≡ get_or ts k t →
    j ≡ i + k → IsPartReady (standing_at (over f) n j) types s rows t
asked_at f n i types s rows [] k t j h l e q = absurd (omega arith)
asked_at f n i types s rows (u ∷ ts) zero t j h l e q =
    let here : j ≡ i = omega arith in
    subst (λ (z : ℕ). IsPartReady (standing_at (over f) n z) types s rows t) (sym here) (subst (IsPartReady (standing_at (over f) n i) types s rows) (sym e) h.0)
asked_at f n i types s rows (u ∷ ts) (suc k) t j h l e q = asked_at f n (suc i) types s rows ts k t j h.1 (omega arith) e (omega arith)

-- one of the rows
pub inside_at : (types : Types) (s : ScopeValues) (t : Term) (rows : List Row) (k : ℕ) (r : Row) → AreInside types s t rows → k < length rows → r ≡ get_or rows k r →
    CanEvaluate types (inner s (record_of r)) t
inside_at types s t [] k r h l e = absurd (omega arith)
inside_at types s t (x ∷ rows) zero r h l e = subst (λ (z : Row). CanEvaluate types (inner s (record_of z)) t) (sym e) h.0
inside_at types s t (x ∷ rows) (suc k) r h l e = inside_at types s t rows k r h.1 (omega arith) e

-- one row more
pub each_step : (P : Meaning) (a : Around) (rows : List Row) (i : ℕ) (r : Row) (xs ys : List Value) (v : Value) → i < length rows → r ≡ get_or rows i r →
    AreEach P a (take i rows) (map view xs) → ys ≡ xs ++ v ∷ [] → P (inside_of a (record_of r)) (view v) → AreEach P a (take (i + 1) rows) (map view ys)
each_step P a rows i r xs ys v l e h f k =
    let more : take (i + 1) rows ≡ take i rows ++ r ∷ [] = take_more rows i r l ∙ ap (λ z. take i rows ++ z ∷ []) (sym e) in
    let all_of : map view ys ≡ map view xs ++ view v ∷ [] = ap (map view) f ∙ map-append view xs (v ∷ []) in
    subst (λ zs. AreEach P a zs (map view ys)) (sym more)
    (subst (λ ds. AreEach P a (take i rows ++ r ∷ []) ds) (sym all_of) (each_more P a (take i rows) r (map view xs) (view v) h k))

-- one part more
pub given_step : (f : Fun) (n : ℕ) (ts : List Term) (a : Around) (rows : List Row) (i j : ℕ) (t : Term) (xs ys : List Answers) (x : Answers) (b : Bool) → i < length ts → t ≡ get_or ts i t →
    AreGiven (over f) n 1 (meanings (all (take i ts))) a rows (map argument_values xs) → ys ≡ xs ++ x ∷ [] → j ≡ 1 + i → standing_at (over f) n j ≡ (if b then inside else plain) →
    PartGives (if b then inside else plain) (meaning t) a rows (argument_values x) → AreGiven (over f) n 1 (meanings (all (take (i + 1) ts))) a rows (map argument_values ys)
given_step f n ts a rows i j t xs ys x b l e h g q p k =
    let more : take (i + 1) ts ≡ take i ts ++ t ∷ [] = take_more ts i t l ∙ ap (λ z. take i ts ++ z ∷ []) (sym e) in
    let all_of : map argument_values ys ≡ map argument_values xs ++ argument_values x ∷ [] = ap (map argument_values) g ∙ map-append argument_values xs (x ∷ []) in
    let long : length (take i ts) ≡ i = length-take-le i ts (omega arith) in
    subst (λ zs. AreGiven (over f) n 1 (meanings (all zs)) a rows (map argument_values ys)) (sym more)
    (subst (λ gs. AreGiven (over f) n 1 (meanings (all (take i ts ++ t ∷ []))) a rows gs) (sym all_of)
    (given_more (over f) n 1 j (take i ts) t a rows (map argument_values xs) (argument_values x) (omega arith) h (subst (λ (z : PartScope). PartGives z (meaning t) a rows (argument_values x)) (sym p) k)))

-- ---- a call over a table on its way: after the table, and after the other parts

pub asked_there : {B : Type 0} (m n : Moment B) (f : Fun) (t : Term) (ts : List Term) (d : Data) (rows rs : List Row) → Went m n → CanEvaluate m.fixed.types m.scope (of (over f) (cons t (all ts))) →
    ((w : Shape) → IsTypedHere m.fixed.types m.scope t w → fits_in d w ≡ true) → rows ≡ rows_in d → rs ≡ rows → ArePartsReady f (length ts + 1) 1 n.fixed.types n.scope rs ts
asked_there m n f t ts d rows rs w r fits e g =
    let count : suc (length ts) ≡ length ts + 1 = omega arith in
    as_before (λ types s. ArePartsReady f (length ts + 1) 1 types s rs ts) m n w
    (subst (λ (k : ℕ). ArePartsReady f k 1 m.fixed.types m.scope rs ts) count
    (subst (λ (z : List Row). ArePartsReady f (suc (length ts)) 1 m.fixed.types m.scope z ts) (sym (g ∙ e)) (parts_asked m.fixed.types m.scope f t ts r d fits)))

given_there : {B : Type 0} (told : Option (Source → Data)) (m n : Moment B) (f : Fun) (ts : List Term) (k : ℕ) (rows rs : List Row) (gs : List ArgumentValues) → Went m n → rs ≡ rows →
    AreGiven (over f) k 1 (meanings (all ts)) (around n.fixed.types told n.scope) rs gs → AreGiven (over f) k 1 (meanings (all ts)) (around m.fixed.types told m.scope) rows gs
given_there told m n f ts k rows rs gs w g q =
    held_before told (λ a. AreGiven (over f) k 1 (meanings (all ts)) a rows gs) m n w
    (subst (λ (z : List Row). AreGiven (over f) k 1 (meanings (all ts)) (around n.fixed.types told n.scope) z gs) g q)

pub make_there : {B : Type 0} (told : Option (Source → Data)) (m n : Moment B) (f : Fun) (t : Term) (ts : List Term) (k : ℕ) (d : Data) (rows rs : List Row) (gs : List ArgumentValues) → Went m n →
    CanEvaluate m.fixed.types m.scope (of (over f) (cons t (all ts))) → IsValue (around m.fixed.types told m.scope) t d → rows ≡ rows_in d → rs ≡ rows →
    AreGiven (over f) k 1 (meanings (all ts)) (around n.fixed.types told n.scope) rs gs → CanMake f rows gs
make_there told m n f t ts k d rows rs gs w r p e g q =
    make_can m.fixed.types told m.scope f t ts r k d rows gs p e (given_there told m n f ts k rows rs gs w g q)

pub over_there : {B : Type 0} (told : Option (Source → Data)) (m n : Moment B) (f : Fun) (t : Term) (ts : List Term) (k : ℕ) (d : Data) (rows rs : List Row) (gs : List ArgumentValues) (v : Data) → Went m n →
    CanEvaluate m.fixed.types m.scope (of (over f) (cons t (all ts))) → IsValue (around m.fixed.types told m.scope) t d → rows ≡ rows_in d → is_fault d ≡ false → rs ≡ rows →
    AreGiven (over f) k 1 (meanings (all ts)) (around n.fixed.types told n.scope) rs gs → IsMadeOf f rows gs v →
    IsTableCall f (meaning t ∷ meanings (all ts)) (around m.fixed.types told m.scope) v
over_there told m n f t ts k d rows rs gs v w r p e z g q h =
    over_made f (over f) k 1 (meaning t) (meanings (all ts)) (around m.fixed.types told m.scope) d rows gs v p z e (given_there told m n f ts k rows rs gs w g q)
    (make_there told m n f t ts k d rows rs gs w r p e g q) h

-- a part on its way
pub part_asked : {B : Type 0} (m n : Moment B) (f : Fun) (count : ℕ) (rows : List Row) (ts : List Term) (k : ℕ) (t : Term) (j : ℕ) (b : Bool) → Went m n →
    ArePartsReady f count 1 m.fixed.types m.scope rows ts → k < length ts → t ≡ get_or ts k t → j ≡ 1 + k → standing_at (over f) count j ≡ (if b then inside else plain) →
    IsPartReady (if b then inside else plain) n.fixed.types n.scope rows t
part_asked m n f count rows ts k t j b w h l e q p =
    as_before (λ types s. IsPartReady (if b then inside else plain) types s rows t) m n w
    (subst (λ (z : PartScope). IsPartReady z m.fixed.types m.scope rows t) p (asked_at f count 1 m.fixed.types m.scope rows ts k t j h l e q))
