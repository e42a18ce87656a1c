-- What a call over a table is worth, and what a well typed one takes.
use Rattle.std.specs.Prelude.{◌≡◌, ℕ, false, List, Option, Some, slice_get}
use Rattle.std.specs.List.{All}
use Rattle.fx_types.specs.declared.faults.Fault.{Fault}
use Rattle.fx_types.specs.declared.faults.Kind.{Kind}
use Rattle.fx_types.specs.Types.{Shape}
use Rattle.fx_types.specs.Values.{Data, fault}
use Rattle.fx_semantics.specs.Around.{Around}
use Rattle.fx_semantics.specs.Fresh.{IsValue, meanings}
use Rattle.fx_semantics.specs.Rows.{rows_in}
use Rattle.fx_semantics.specs.Sound.{AreFit, IsItemFit, IsLawfulTyping}
use Rattle.fx_semantics.specs.Sources.{Gives}
use Rattle.fx_core.specs.declared.functions.Fun.{Fun}
use Rattle.fx_core.specs.declared.sources.Source.{Source}
use Rattle.fx_env.specs.Scopes.{ScopeValues, around}
use Rattle.fx_eval.specs.Given.{ArgumentValues, AreGiven}
use Rattle.fx_eval.specs.TableCalls.{CanMake, IsMadeOf}
use Rattle.fx_eval.specs.Visits.{AskedTables, Visits}
use Rattle.fx_tables.specs.Unions.{is_fault}
use Rattle.fx_core.specs.declared.schema.TableShape.{TableShape}
use Rattle.fx_core.specs.Term.{Term, Terms, of, cons, over}
use Rattle.fx_typing.specs.WellTyped.{Context, IsTyped}
use Rattle.row_queries.specs.TableRows.{IsHeldRow, rows_at}

-- where a formula stands, over sources of these types, of which these values are told
abbrev pub standing_in : (Source → Option Shape) → Option (Source → Data) → List Data → Option Data
    → Option Fault → Around
standing_in types told rows item caught = record {
  gives = Gives types told;
  rows = rows;
  item = item;
  caught = caught;
}

-- what a function makes of the rows of a table, and of what its other parts give, is what the call
-- is worth
abbrev pub MadeIsWorth : Type 0
MadeIsWorth =
    (types : Source → Option Shape) (told : Option (Source → Data)) (rows : List Data)
    (item : Option Data) (caught : Option Fault)
    (f : Fun) (t : Term) (ts : Terms) (n : ℕ) (d : Data) (gs : List ArgumentValues) (v : Data) →
    IsValue (standing_in types told rows item caught) t d → is_fault d ≡ false →
    AreGiven (over f) n 1 (meanings ts) (standing_in types told rows item caught) (rows_in d) gs →
    CanMake f (rows_in d) gs → IsMadeOf f (rows_in d) gs v →
    IsValue (standing_in types told rows item caught) (of (over f) (cons t ts)) v

-- an error in the place of the table is what the call is worth
abbrev pub ErrorIsWorth : Type 0
ErrorIsWorth =
    (types : Source → Option Shape) (told : Option (Source → Data)) (rows : List Data)
    (item : Option Data) (caught : Option Fault)
    (f : Fun) (t : Term) (ts : Terms) (k : Kind) (cs : List ℕ) →
    IsValue (standing_in types told rows item caught) t (fault k cs) →
    IsValue (standing_in types told rows item caught) (of (over f) (cons t ts)) (fault k cs)

-- a well typed call over a table can be made of what its parts give, where what stands around fits
abbrev pub TypedCanMake : Type 0
TypedCanMake =
    (c : Context) (told : Option (Source → Data)) (rows : List Data) (item : Option Data)
    (caught : Option Fault)
    (f : Fun) (t : Term) (ts : Terms) (u : Shape) (w : IsTyped c (of (over f) (cons t ts)) u)
    (n : ℕ) (d : Data) (gs : List ArgumentValues) →
    AreFit rows c.rows → IsItemFit item c.item → IsLawfulTyping c (of (over f) (cons t ts)) u w →
    IsValue (standing_in c.sources told rows item caught) t d →
    AreGiven (over f) n 1 (meanings ts) (standing_in c.sources told rows item caught) (rows_in d) gs
    → CanMake f (rows_in d) gs

-- the rows of each table that is asked are rows of its shape
abbrev pub AreHeld : AskedTables → Type 0
AreHeld w = (n : ℕ) (t : TableShape) → slice_get w.shapes n ≡ Some t
    → All (IsHeldRow t) (rows_at w.rows n)

-- a tree visits one number of rows at most, where the values of its sources are told
abbrev pub OneVisits : Type 0
OneVisits =
    (w : AskedTables) (types : Source → Option Shape) (values : Source → Data) (s : ScopeValues)
    (t : Term) (m n : ℕ) → AreHeld w →
    Visits w t (around types (Some values) s) m → Visits w t (around types (Some values) s) n
    → m ≡ n
