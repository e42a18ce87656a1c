-- A well typed call over a table takes what its parts give.
use Rattle.std.proofs.Common.{◌≡◌, ℕ, List, [], ◌∷◌, length, true, Option, Ok, sym, subst}
use Rattle.fx_types.specs.declared.faults.Fault.{Fault}
use Rattle.fx_types.specs.Types.{Shape, tables, ColumnList}
use Rattle.fx_types.specs.Values.{Data}
use Rattle.fx_semantics.proofs.Columns.{rises_of}
use Rattle.fx_semantics.proofs.Parts.{Giving, stands, Suits, Holds, AllHold}
use Rattle.fx_semantics.proofs.Tables.{rows_in_fit}
use Rattle.fx_semantics.proofs.Whole.{sound_all, parts_lawful, given_by_type}
use Rattle.fx_semantics.specs.Fresh.{meaning, meanings}
use Rattle.fx_semantics.specs.Rows.{rows_in}
use Rattle.fx_semantics.specs.Sound.{AreFit, AreLawfulTypes, IsItemFit, IsLawfulType, IsLawfulTyping}
use Rattle.fx_semantics.specs.Sources.{Gives}
use Rattle.fx_core.specs.Rows.{row_of, takes_at, takes_count}
use Rattle.fx_core.specs.declared.functions.Fun.{Fun}
use Rattle.fx_core.specs.declared.functions.Fun.TheVariants as fun
use Rattle.fx_core.specs.declared.sources.Source.{Source}
use Rattle.fx_eval.specs.Given.{ArgumentValues, AreGiven}
use Rattle.fx_eval.specs.TableCalls.{CanMake}
use Rattle.fx_eval.proofs.Places.{table_plain}
use Rattle.fx_eval.proofs.ReadyCalls.{can_make}
use Rattle.fx_core.specs.Term.{Term, Terms, of, cons, over}
use Rattle.fx_typing.specs.WellTyped.{AllStand, Context, IsRuled, IsTyped, PartScope, Stands, answered_type, context_for, head_of, typed_pairs, parts_count}
use Rattle.fx_value.proofs.Unions.{Rises}

-- a call over a table has a table first
first_table : (f : Fun) → head_of f ≡ over f → (m : ℕ) (common u : Shape) → Stands (takes_at (row_of f) m 0) u common u → (cs : ColumnList) × (u ≡ tables cs)
first_table fun.Filter e m common u h = h
first_table fun.LookUp e m common u h = h
first_table (fun.Sort o) e m common u h = h
first_table fun.First e m common u h = h
first_table fun.Last e m common u h = h
first_table fun.FirstN e m common u h = h
first_table fun.LastN e m common u h = h
first_table fun.CountRows e m common u h = h
first_table fun.CountIf e m common u h = h
first_table fun.IsEmpty e m common u h = h
first_table fun.SumRows e m common u h = h
first_table fun.MinRows e m common u h = h
first_table fun.MaxRows e m common u h = h
first_table fun.AverageRows e m common u h = h
first_table fun.AddColumns e m common u h = h
first_table fun.DropColumns e m common u h = h
first_table fun.ShowColumns e m common u h = h
first_table fun.RenameColumns e m common u h = h
first_table fun.GroupBy e m common u h = h
first_table fun.Ungroup e m common u h = h
first_table fun.Distinct e m common u h = h
first_table fun.ForAll e m common u h = h
first_table fun.Concat e m common u h = h
first_table f e m common u h = absurd cc

-- a call whose table has this type takes what its parts give
abbrev Takes : Giving → Context → List Data → Option Data → Option Fault → Fun → Shape → Type 0
Takes g c rows item caught f u =
    (n m : ℕ) (t0 : Term) (ts : Terms) (us : List Shape) (common t : Shape) (d : Data) (gs : List ArgumentValues) →
    AllHold g c (over f) n [] (meaning t0 ∷ meanings ts) (u ∷ us) → takes_count (row_of f) (length (u ∷ us)) ≡ true → AllStand (row_of f) (length (u ∷ us)) 1 u common us →
    answered_type (row_of f).answer common (typed_pairs (cons t0 ts) (u ∷ us)) ≡ Ok t → head_of f ≡ over f → meaning t0 (stands g rows item caught) d →
    AreGiven (over f) m 1 (meanings ts) (stands g rows item caught) (rows_in d) gs → CanMake f (rows_in d) gs

over_table : (g : Giving) (c : Context) (rows : List Data) (item : Option Data) (caught : Option Fault) → Suits g c rows item →
    (cs : ColumnList) → Rises cs → (f : Fun) → Takes g c rows item caught f (tables cs)
over_table g c rows item caught s cs rising f n m t0 ts us common t d gs k l w e h p q =
    let H : PartScope → Type 0 = λ st. Holds g (context_for st c []) (meaning t0) (tables cs) in
    let first : Holds g c (meaning t0) (tables cs) = subst H (table_plain f n h) k.0 in
    can_make g c rows item caught s cs rising (rows_in d) (rows_in_fit d cs (first rows item caught d s p)) f n m t0 ts us common t gs k.1 l w e h q

over_there : (g : Giving) (c : Context) (rows : List Data) (item : Option Data) (caught : Option Fault) → Suits g c rows item →
    (f : Fun) (n m : ℕ) (t0 : Term) (ts : Terms) (us : List Shape) (t : Shape) (d : Data) (gs : List ArgumentValues) → AreLawfulTypes us →
    AllHold g c (over f) n [] (meaning t0 ∷ meanings ts) us → IsRuled c (over f) (cons t0 ts) us t → meaning t0 (stands g rows item caught) d →
    AreGiven (over f) m 1 (meanings ts) (stands g rows item caught) (rows_in d) gs → CanMake f (rows_in d) gs
over_there g c rows item caught s f n m t0 ts [] t d gs l k r p q = absurd k
over_there g c rows item caught s f n m t0 ts (u ∷ us) t d gs l k r p q =
    let x = first_table f r.0 (length (u ∷ us)) r.1.1 u r.1.2.0 in
    let P : Shape → Type 0 = λ z. Takes g c rows item caught f z in
    let rising : Rises x.0 = rises_of x.0 (subst IsLawfulType x.1 l.0) in
    let law = subst P (sym x.1) (over_table g c rows item caught s x.0 rising f) in
    law n m t0 ts us r.1.1 t d gs k r.1.0 r.1.2.1 r.1.3 r.0 p q

-- what sources give by their types suits them
pub suits_there : (c : Context) (told : Option (Source → Data)) (rows : List Data) (item : Option Data) → AreFit rows c.rows → IsItemFit item c.item → Suits (Gives c.sources told) c rows item
suits_there c told rows item f i = record { of_sources = λ x u y e h. given_by_type (c.sources x) u y e h.0; of_scopes = f; of_item = i }

-- a call that is well typed takes what its parts give, where what stands around fits
pub can_over : (c : Context) (told : Option (Source → Data)) (rows : List Data) (item : Option Data) (caught : Option Fault) → AreFit rows c.rows → IsItemFit item c.item →
    (f : Fun) (t0 : Term) (ts : Terms) (u : Shape) (w : IsTyped c (of (over f) (cons t0 ts)) u) → IsLawfulTyping c (of (over f) (cons t0 ts)) u w →
    (m : ℕ) (d : Data) (gs : List ArgumentValues) → meaning t0 (stands (Gives c.sources told) rows item caught) d →
    AreGiven (over f) m 1 (meanings ts) (stands (Gives c.sources told) rows item caught) (rows_in d) gs → CanMake f (rows_in d) gs
can_over c told rows item caught fit i f t0 ts u w l m d gs p q =
    let n = parts_count (cons t0 ts) in
    over_there (Gives c.sources told) c rows item caught (suits_there c told rows item fit i) f n m t0 ts w.0 u d gs
    (parts_lawful c (over f) n [] (cons t0 ts) w.0 w.1 l.1)
    (sound_all (Gives c.sources told) c (over f) n [] (cons t0 ts) w.0 w.1 l.1) w.2 p q
