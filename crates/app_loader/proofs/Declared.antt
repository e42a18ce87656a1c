-- What is shown of all variables, and of the collections in which calls gather rows, holds of all that formulas declare.
use Rattle.std.proofs.Common.{◌≡◌, ℕ, suc, ◌++◌, List, [], ◌∷◌, Bool, true, false, All, Option, Some, None, refl, slice_get, if◌then◌else◌}
use Rattle.std.proofs.lemmas.List.Elements.{All-nil, All-cons, All-head, All-tail, All-append, All-filter}
use Rattle.std.specs.List.{list_any}
use Rattle.fx_core.specs.declared.functions.Acting.TheVariants as acts
use Rattle.fx_core.specs.declared.signatures.SigShape.{SigShape}
use Rattle.fx_core.specs.declared.signatures.SigShape.TheVariants as sig
use Rattle.fx_core.specs.declared.signatures.Signature.{Signature}
use Rattle.fx_core.specs.Tree.{node, Forest, none, more}
use Rattle.fx_core.specs.Tree as tree
use Rattle.app_cells.specs.declared.cell.Cell.{Cell}
use Rattle.app_names.specs.declared.declarations.Declared.{Declared}
use Rattle.app_names.specs.declared.declarations.Thing.{Thing}
use Rattle.app_names.specs.declared.declarations.Thing.TheVariants as thing
use Rattle.app_names.specs.Declarations.{declaration, declared_by, declared_by_record, declared_in, declared_of, declared_on, first_name, is_declared, is_thing, new_behind, things_behind, variables_in}

-- a call that gathers rows in a collection
abbrev pub gathers : Option SigShape → Bool
gathers (Some (sig.Act acts.Collect)) = true
gathers (Some (sig.Act acts.ClearCollect)) = true
gathers k = false

abbrev variable : Option ℕ → List ℕ → ℕ → Declared
variable s x at = record { thing = thing.Variable s; name = x; at = at }

abbrev pub collection : List ℕ → ℕ → Declared
collection x at = record { thing = thing.Collection; name = x; at = at }

module _ (P : Declared → Type 0) where
  abbrev HoldsOfVariables : Type 0
  HoldsOfVariables = (s : Option ℕ) (x : List ℕ) (at : ℕ) → P (variable s x at)

  variables_hold : HoldsOfVariables → (s : ℕ) (xs : List (List ℕ)) (ps : List ℕ) → All P (variables_in s xs ps)
  variables_hold v s [] ps = All-nil P
  variables_hold v s (x ∷ xs) [] = All-nil P
  variables_hold v s (x ∷ xs) (at ∷ ps) = All-cons P (variable (Some s) x at) (variables_in s xs ps) (v (Some s) x at) (variables_hold v s xs ps)

  record_holds : HoldsOfVariables → (s : ℕ) (ts : Forest) → All P (declared_by_record s ts)
  record_holds v s (more (node at (tree.rec xs ps) ts) ks) = variables_hold v s xs ps
  record_holds v s none = All-nil P
  record_holds v s (more (node at h ts) ks) = All-nil P

  named_holds : (k : Thing) (o : Option (List ℕ × ℕ)) → ((x : List ℕ) (at : ℕ) → o ≡ Some (x, at) → P (record { thing = k; name = x; at = at })) → All P (declaration (Some k) o)
  named_holds k (Some w) go = All-cons P (record { thing = k; name = w.0; at = w.1 }) [] (go w.0 w.1 refl) (All-nil P)
  named_holds k None go = All-nil P

  none_holds : (o : Option (List ℕ × ℕ)) → All P (declaration None o)
  none_holds (Some w) = All-nil P
  none_holds None = All-nil P

  abbrev HoldsOfGathered : Option SigShape → Forest → Type 0
  HoldsOfGathered k ts = (x : List ℕ) (at : ℕ) → gathers k ≡ true → first_name ts ≡ Some (x, at) → P (collection x at)

  shape_holds : HoldsOfVariables → (k : Option SigShape) (ts : Forest) → HoldsOfGathered k ts → All P (declaration (declared_by k) (first_name ts))
  shape_holds v (Some (sig.Act acts.Set)) ts go = named_holds (thing.Variable None) (first_name ts) (λ x at e. v None x at)
  shape_holds v (Some (sig.Act acts.Collect)) ts go = named_holds thing.Collection (first_name ts) (λ x at e. go x at refl e)
  shape_holds v (Some (sig.Act acts.ClearCollect)) ts go = named_holds thing.Collection (first_name ts) (λ x at e. go x at refl e)
  shape_holds v None ts go = none_holds (first_name ts)
  shape_holds v (Some k) ts go = none_holds (first_name ts)

  pub call_holds : HoldsOfVariables → (screen : Option ℕ) (k : Option SigShape) (ts : Forest) → HoldsOfGathered k ts → All P (declared_on screen k ts)
  call_holds v None k ts go = shape_holds v k ts go
  call_holds v (Some s) (Some (sig.Act acts.UpdateContext)) ts go = record_holds v s ts
  call_holds v (Some s) None ts go = shape_holds v None ts go
  call_holds v (Some s) (Some k) ts go = shape_holds v (Some k) ts go

  -- ---- of the things of an app
  new_hold : (before ds : List Declared) → All P ds → All P (new_behind before ds)
  new_hold before [] h = All-nil P
  new_hold before (d ∷ ds) h = by (list_any (is_thing d) before) (new_hold before ds (All-tail P d ds h)) (new_hold (before ++ d ∷ []) ds (All-tail P d ds h))
    where
      by : (b : Bool) → All P (new_behind before ds) → All P (new_behind (before ++ d ∷ []) ds) → All P (if b then new_behind before ds else d ∷ new_behind (before ++ d ∷ []) ds)
      by true k l = k
      by false k l = All-cons P d (new_behind (before ++ d ∷ []) ds) (All-head P d ds h) l

  pub things_hold : (functions : List Signature) (given : List ℕ → Bool) (before : List Declared) (cs : List Cell) → ((k : ℕ) (c : Cell) → slice_get cs k ≡ Some c → All P (declared_in functions c.screen c.expr)) →
      All P before → All P (things_behind functions given before cs)
  things_hold functions given before [] go h = h
  things_hold functions given before (c ∷ cs) go h =
      let here = All-filter (is_declared given) P (declared_in functions c.screen c.expr) (go 0 c refl) in
      things_hold functions given (before ++ new_behind before (declared_of functions given c)) cs (λ k d e. go (suc k) d e)
      (All-append P before (new_behind before (declared_of functions given c)) h (new_hold before (declared_of functions given c) here))
