-- What a behaviour formula does, by recursion on the tree: what a node does is made of what its
-- parts do.
use Rattle.std.specs.Prelude.{◌≡◌, List, [], ◌∷◌, Bool, true, false}
use Rattle.fx_types.specs.Types.{Shape, tables}
use Rattle.fx_types.specs.Values.{Data, blank, fault}
use Rattle.fx_eval.specs.Parts.{caught_in, inner}
use Rattle.fx_env.specs.Scopes.{ScopeValues}
use Rattle.fx_scalar.specs.declared.lazy_forms.Decision.{Decision}
use Rattle.fx_scalar.specs.declared.lazy_forms.Decision.TheVariants.{Met, Unmet, Error}
use Rattle.fx_scalar.specs.LazyForms.{CaughtOr, decision_of, equality, none_left}
use Rattle.fx_semantics.specs.Around.{Meaning, record_of}
use Rattle.fx_semantics.specs.Fresh.{field_of}
use Rattle.fx_semantics.specs.Rows.{rows_in}
use Rattle.fx_value.specs.Columns.{Row}
use Rattle.fx_tables.specs.RowCalls.{for_all_of}
use Rattle.fx_tables.specs.Unions.{union_of}
use Rattle.fx_core.specs.declared.deeds.Deed.{Deed}
use Rattle.fx_core.specs.declared.deeds.Deed.TheVariants as deed
use Rattle.fx_core.specs.declared.deeds.Target.{Target}
use Rattle.fx_core.specs.declared.functions.Form.TheVariants as form
use Rattle.fx_core.specs.Term.{Term, Terms, of, nil, cons, Top}
use Rattle.fx_core.specs.Term as top
use Rattle.fx_typing.specs.Acts.{acts}
use Rattle.fx_core.specs.ColumnLists.{row_columns}
use Rattle.fx_value.specs.Coercion.{IsCoerced}
use Rattle.fx_plan.specs.Limited.{IsTakenValue}
use Rattle.fx_semantics.specs.Places.{is_for_all}
use Rattle.fx_deeds.specs.Deeds.{AnswersOnly, OrError}
use Rattle.fx_deeds.specs.Done.{IsDeed, IsUpdate}
use Rattle.fx_deeds.specs.State.{Ground, WorldState, acting_context}

-- what a formula does where it stands: what it finds, its value, and what it leaves
abbrev pub Doing : Type 0 → Type 1
Doing A = ScopeValues → WorldState A → Data → WorldState A → Type 0

-- ---- parts that don't act

-- a formula's value, with no more rows of a query expression than it may take
abbrev pub taken : {A : Type 0} → Ground A → Term → Meaning
taken g t a v = IsTakenValue g.frame.schema.tables g.frame.limit a t v

-- it has its value over what is there, and leaves all
abbrev pub Purely : {A : Type 0} → Ground A → Meaning → Doing A
Purely g M h s x t = M (acting_context g h s) x × (t ≡ s)

-- ---- parts in order

-- all parts from left to right, each over what the part before left
abbrev pub ArePerformed : {A : Type 0} → List (Doing A) → ScopeValues → WorldState A → List Data
    → WorldState A → Type 0
ArePerformed [] h s [] t = t ≡ s
ArePerformed {A} (P ∷ Ps) h s (x ∷ xs) t = (m : WorldState A) × P h s x m × ArePerformed Ps h m xs t
ArePerformed Ps h s xs t = ⊥

-- a chain: its value is the last part's, and an error doesn't stop it
abbrev pub IsChain : {A : Type 0} → List (Doing A) → Doing A
IsChain [] h s x t = ⊥
IsChain (P ∷ []) h s x t = P h s x t
IsChain {A} (P ∷ Q ∷ Ps) h s x t = (y : Data) × (m : WorldState A) × P h s y m
    × IsChain (Q ∷ Ps) h m x t

-- ---- branches

-- where a condition is met P holds, where it is not met Q, and an error of it is the answer
abbrev pub Decides : {A : Type 0} → Decision → Type 0 → Type 0 → WorldState A → Data → WorldState A
    → Type 0
Decides Met P Q s x t = P
Decides Unmet P Q s x t = Q
Decides (Error f) P Q s x t = AnswersOnly (fault f.kind f.message) s x t

-- conditions and branches in turn: the branch of the first condition that is met, else the last
-- part, else blank
abbrev pub IsBranched : {A : Type 0} → (Data → Decision) → List (Doing A) → Doing A
IsBranched D [] h s x t = AnswersOnly blank s x t
IsBranched D (P ∷ []) h s x t = P h s x t
IsBranched {A} D (C ∷ P ∷ Ps) h s x t = (w : Data) × (m : WorldState A) × C h s w m
    × Decides (D w) (P h m x t) (IsBranched D Ps h m x t) m x t

-- what a match of `Switch` decides
abbrev pub switch_decision : Data → Data → Decision
switch_decision w x = decision_of (equality w x)

-- `Switch`: an error of the value is the answer, and else its match decides
abbrev pub PerformsSwitch : {A : Type 0} → List (Doing A) → Doing A
PerformsSwitch [] h s x t = ⊥
PerformsSwitch {A} (P ∷ Ps) h s x t = (w : Data) × (m : WorldState A) × P h s w m
    × OrError w (IsBranched (switch_decision w) Ps h m x t) m x t

-- `IfError`: the fallback of the first error among the values, each before its fallback, over what
-- that value left; without error the value that stands alone at the end, or the last one, d where
-- there is none
abbrev pub PerformsIfError : {A : Type 0} → Data → List (Doing A) → Doing A
PerformsIfError d [] h s x t = AnswersOnly d s x t
PerformsIfError d (P ∷ []) h s x t = P h s x t
PerformsIfError {A} d (P ∷ F ∷ Ps) h s x t =
    (w : Data) × (m : WorldState A) × P h s w m
    × CaughtOr w (λ k cs. F (caught_in h k cs) m x t) (PerformsIfError w Ps h m x t)

-- ---- scopes

-- `With`: a formula in the scope of a record; an error in the record's place is the answer
abbrev pub PerformsWith : {A : Type 0} → List (Doing A) → Doing A
PerformsWith {A} (P ∷ F ∷ []) h s x t = (w : Data) × (m : WorldState A) × P h s w m
    × OrError w (F (inner h w) m x t) m x t
PerformsWith Ps h s x t = ⊥

-- a formula for each of these rows in order, each over what the row before left: an error doesn't
-- stop later rows
abbrev pub PerformsEach : {A : Type 0} → Doing A → ScopeValues → List Row → WorldState A → List Data
    → WorldState A → Type 0
PerformsEach P h [] s [] t = t ≡ s
PerformsEach {A} P h (r ∷ rs) s (x ∷ xs) t = (m : WorldState A) × P (inner h (record_of r)) s x m
    × PerformsEach P h rs m xs t
PerformsEach P h rs s xs t = ⊥

-- `ForAll`: its rows are taken first, and the first error of its formula is the value
abbrev pub IsForAll : {A : Type 0} → List (Doing A) → Doing A
IsForAll {A} (P ∷ F ∷ []) h s x t =
    (w : Data) × (m : WorldState A) × P h s w m
    × OrError w ((xs : List Data) × PerformsEach F h (rows_in w) m xs t × (x ≡ for_all_of xs)) m x t
IsForAll Ps h s x t = ⊥

abbrev pub IsOverAll : {A : Type 0} → Bool → List (Doing A) → Doing A
IsOverAll true Ps = IsForAll Ps
IsOverAll false Ps = λ h s x t. ⊥

-- ---- values

-- R holds of the value of the one part and the answer
abbrev pub OfOnePart : {A : Type 0} → (Data → Data → Type 0) → List (Doing A) → Doing A
OfOnePart R (P ∷ []) h s x t = (d : Data) × P h s d t × R d x
OfOnePart R Ps h s x t = ⊥

-- the values of all parts as the rows of a table
abbrev pub IsListed : {A : Type 0} → Shape → List (Doing A) → Doing A
IsListed r Ps h s x t = (ds : List Data) × ArePerformed Ps h s ds t
    × (x ≡ union_of (tables (row_columns r)) ds)

-- ---- deeds

-- `UpdateIf`: its filter, then the change of each of these rows, and then it acts
abbrev pub IsUpdateIf : {A : Type 0} → Ground A → Target → List (Doing A) → Doing A
IsUpdateIf {A} g p (P ∷ F ∷ []) h s x t =
    (w : Data) × (m : WorldState A) × P h s w m
    × OrError w ((es : List Data) × (o : WorldState A) × PerformsEach F h (rows_in w) m es o
    × IsUpdate g.frame p (rows_in w) es o x t) m x t
IsUpdateIf g p Ps h s x t = ⊥

-- all parts have their values before anything is done with them
abbrev pub IsAct : {A : Type 0} → Ground A → Deed → List (Doing A) → Doing A
IsAct g (deed.UpdateIf p) Ps h s x t = IsUpdateIf g p Ps h s x t
IsAct {A} g d Ps h s x t = (ds : List Data) × (m : WorldState A) × ArePerformed Ps h s ds m
    × IsDeed g.frame d ds m x t

-- ---- trees

-- what a node does in which something acts, by its head and what its parts do
abbrev pub PerformsNode : {A : Type 0} → Ground A → Top → List (Doing A) → Doing A
PerformsNode g top.chain Ps = IsChain Ps
PerformsNode g (top.act d) Ps = IsAct g d Ps
PerformsNode g (top.form form.If) Ps = IsBranched decision_of Ps
PerformsNode g (top.form form.Switch) Ps = PerformsSwitch Ps
PerformsNode g (top.form form.IfError) Ps = PerformsIfError (none_left form.IfError) Ps
PerformsNode g top.within Ps = PerformsWith Ps
PerformsNode g (top.over f) Ps = IsOverAll (is_for_all f) Ps
PerformsNode g (top.dot n) Ps = OfOnePart (λ d x. x ≡ field_of n d) Ps
PerformsNode g (top.coerce to) Ps = OfOnePart (λ d x. IsCoerced d to x) Ps
PerformsNode g (top.list r) Ps = IsListed r Ps
PerformsNode g k Ps = λ h s x t. ⊥

-- the same of any node: one in which nothing acts has the value of its tree
abbrev pub NodeComesTo : {A : Type 0} → Ground A → Bool → Top → Meaning → List (Doing A) → Doing A
NodeComesTo g true k M Ps = PerformsNode g k Ps
NodeComesTo g false k M Ps = Purely g M

abbrev mutual
  -- what a tree does
  pub performing : {A : Type 0} → Ground A → Term → Doing A
  performing g (of k ts) = NodeComesTo g (acts (of k ts)) k (taken g (of k ts)) (performings g ts)

  pub performings : {A : Type 0} → Ground A → Terms → List (Doing A)
  performings g nil = []
  performings g (cons t ts) = performing g t ∷ performings g ts

-- PERFORMING a tree where it stands has this value, and takes the state s to t
abbrev pub Performs : {A : Type 0} → Ground A → Term → ScopeValues → Data → WorldState A
    → WorldState A → Type 0
Performs g t h x s u = performing g t h s x u
