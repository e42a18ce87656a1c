-- The screens of what formulas declare are screens of the app.
use Rattle.std.proofs.Common.{◌≡◌, ℕ, ◌<◌, Bool, true, false, List, [], ◌∷◌, ◌++◌, Option, Some, None, IfSome, inl, inr, option_map, length, get_or, slice_get, refl, sym, subst, cond, All, flat_map, if◌then◌else◌}
use Rattle.std.proofs.lemmas.List.Elements.{All-nil, All-cons, All-head, All-tail, All-append, All-filter}
use Rattle.std.proofs.lemmas.Option.{slice_get_cases}
use Rattle.std.specs.List.{list_any}
use Rattle.fx_core.specs.declared.functions.Acting.TheVariants as acts
use Rattle.fx_core.specs.declared.signatures.SigShape.{SigShape}
use Rattle.fx_core.specs.declared.signatures.SigShape.TheVariants as sig
use Rattle.fx_core.specs.declared.signatures.Signature.{Signature}
use Rattle.fx_core.specs.declared.names.ControlName.{ControlName}
use Rattle.fx_core.specs.Tree.{Tree, node, Forest, none, more, Head}
use Rattle.fx_core.specs.Tree as tree
use Rattle.app_cells.specs.declared.cell.Cell.{Cell}
use Rattle.app_cells.specs.declared.cell.Spot.{Spot}
use Rattle.app_cells.specs.declared.cell.Spot.TheVariants as spot
use Rattle.app_cells.specs.declared.frame.Frame.{Frame}
use Rattle.app_cells.specs.Spots.{IsControl, IsFrame, IsPlaced, IsSpot, screen_of}
use Rattle.app_names.specs.declared.declarations.Declared.{Declared}
use Rattle.app_names.specs.declared.declarations.Thing.{Thing}
use Rattle.app_names.specs.declared.declarations.Thing.TheVariants as thing
use Rattle.app_names.specs.Declarations.{shape_called, declaration, declared_among, declared_at, declared_by, declared_by_record, declared_in, declared_of, declared_on, first_name, given_names, is_name_among, is_declared, is_thing, new_behind, things_behind, things_of, variables_in}

-- what holds of all things of a list holds of the one at a place
pub at_place : {A : Type 0} (P : A → Type 0) (xs : List A) (k : ℕ) → All P xs → IfSome (slice_get xs k) P
at_place P xs k h = elim ((slice_get_cases xs k).1) [
  | inl w ↦ subst (λ o. IfSome o P) (sym w.2) (subst P w.3 (h k w.0 w.1))
  | inr w ↦ subst (λ o. IfSome o P) (sym w.1) tt
]

-- the screen of this number is one, if there is a number
abbrev pub IsScreen : Frame → Option ℕ → Type 0
IsScreen f (Some s) = s < length f.screens
IsScreen f None = Unit {0}

screen_in : (f : Frame) (c : Option ControlName) → IfSome c (IsControl f) → IsScreen f (option_map (λ (d : ControlName). d.screen) c)
screen_in f (Some c) h = h.0
screen_in f None h = tt

screen_at : (f : Frame) (s : Spot) → IsFrame f → IsSpot f s → IsScreen f (screen_of f s)
screen_at f (spot.Formula x) h k = tt
screen_at f spot.OnStart h k = tt
screen_at f (spot.OnVisible s) h k = k
screen_at f (spot.Property j p) h k = screen_in f (slice_get f.controls j) (at_place (IsControl f) f.controls j h.controls)

pub screen_fits : (f : Frame) (c : Cell) → IsFrame f → IsPlaced f c → IsScreen f c.screen
screen_fits f c h k = subst (IsScreen f) (sym k.screen) (screen_at f c.spot h k.spot)

-- a thing's screen is one
abbrev pub IsThing : Frame → Thing → Type 0
IsThing f (thing.Variable s) = IsScreen f s
IsThing f thing.Collection = Unit {0}

abbrev pub Fits : Frame → Declared → Type 0
Fits f d = IsThing f d.thing

variables_fit : (f : Frame) (s : ℕ) (xs : List (List ℕ)) (ps : List ℕ) → s < length f.screens → All (Fits f) (variables_in s xs ps)
variables_fit f s [] ps h = All-nil (Fits f)
variables_fit f s (x ∷ xs) [] h = All-nil (Fits f)
variables_fit f s (x ∷ xs) (at ∷ ps) h = All-cons (Fits f) (record { thing = thing.Variable (Some s); name = x; at = at }) (variables_in s xs ps) h (variables_fit f s xs ps h)

record_fits : (f : Frame) (s : ℕ) (ts : Forest) → s < length f.screens → All (Fits f) (declared_by_record s ts)
record_fits f s none h = All-nil (Fits f)
record_fits f s (more (node at (tree.num z) ts) ks) h = All-nil (Fits f)
record_fits f s (more (node at (tree.text x) ts) ks) h = All-nil (Fits f)
record_fits f s (more (node at (tree.truth b) ts) ks) h = All-nil (Fits f)
record_fits f s (more (node at (tree.name x) ts) ks) h = All-nil (Fits f)
record_fits f s (more (node at (tree.global x) ts) ks) h = All-nil (Fits f)
record_fits f s (more (node at (tree.dot x) ts) ks) h = All-nil (Fits f)
record_fits f s (more (node at (tree.call x) ts) ks) h = All-nil (Fits f)
record_fits f s (more (node at tree.neg ts) ks) h = All-nil (Fits f)
record_fits f s (more (node at tree.opposite ts) ks) h = All-nil (Fits f)
record_fits f s (more (node at tree.percent ts) ks) h = All-nil (Fits f)
record_fits f s (more (node at (tree.pair o) ts) ks) h = All-nil (Fits f)
record_fits f s (more (node at tree.joined ts) ks) h = All-nil (Fits f)
record_fits f s (more (node at tree.all ts) ks) h = All-nil (Fits f)
record_fits f s (more (node at tree.any ts) ks) h = All-nil (Fits f)
record_fits f s (more (node at tree.chain ts) ks) h = All-nil (Fits f)
record_fits f s (more (node at (tree.alias x) ts) ks) h = All-nil (Fits f)
record_fits f s (more (node at (tree.rec xs ps) ts) ks) h = variables_fit f s xs ps h
record_fits f s (more (node at tree.list ts) ks) h = All-nil (Fits f)
record_fits f s (more (node at tree.woven ts) ks) h = All-nil (Fits f)

declaration_fits : (f : Frame) (k : Option Thing) (named : Option (List ℕ × ℕ)) → IfSome k (IsThing f) → All (Fits f) (declaration k named)
declaration_fits f (Some k) (Some x) h = All-cons (Fits f) (record { thing = k; name = x.0; at = x.1 }) [] h (All-nil (Fits f))
declaration_fits f (Some k) None h = All-nil (Fits f)
declaration_fits f None (Some x) h = All-nil (Fits f)
declaration_fits f None None h = All-nil (Fits f)

by_shape : (f : Frame) (s : Option SigShape) → IfSome (declared_by s) (IsThing f)
by_shape f None = tt
by_shape f (Some (sig.One g)) = tt
by_shape f (Some (sig.Either g j)) = tt
by_shape f (Some (sig.Literal g)) = tt
by_shape f (Some (sig.Form g)) = tt
by_shape f (Some sig.With) = tt
by_shape f (Some sig.Table) = tt
by_shape f (Some sig.Today) = tt
by_shape f (Some sig.Defaults) = tt
by_shape f (Some (sig.Act acts.Set)) = tt
by_shape f (Some (sig.Act acts.UpdateContext)) = tt
by_shape f (Some (sig.Act acts.Collect)) = tt
by_shape f (Some (sig.Act acts.Clear)) = tt
by_shape f (Some (sig.Act acts.ClearCollect)) = tt
by_shape f (Some (sig.Act acts.Patch)) = tt
by_shape f (Some (sig.Act acts.Remove)) = tt
by_shape f (Some (sig.Act acts.RemoveIf)) = tt
by_shape f (Some (sig.Act acts.UpdateIf)) = tt
by_shape f (Some (sig.Act acts.Navigate)) = tt
by_shape f (Some (sig.Act acts.Notify)) = tt
by_shape f (Some (sig.Act acts.Reset)) = tt

on_screen : (f : Frame) (r : Option ℕ) (s : Option SigShape) (ts : Forest) → IsScreen f r → All (Fits f) (declared_on r s ts)
on_screen f None s ts h = declaration_fits f (declared_by s) (first_name ts) (by_shape f s)
on_screen f (Some r) None ts h = declaration_fits f (declared_by None) (first_name ts) (by_shape f None)
on_screen f (Some r) (Some (sig.One g)) ts h = declaration_fits f (declared_by (Some (sig.One g))) (first_name ts) (by_shape f (Some (sig.One g)))
on_screen f (Some r) (Some (sig.Either g j)) ts h = declaration_fits f (declared_by (Some (sig.Either g j))) (first_name ts) (by_shape f (Some (sig.Either g j)))
on_screen f (Some r) (Some (sig.Literal g)) ts h = declaration_fits f (declared_by (Some (sig.Literal g))) (first_name ts) (by_shape f (Some (sig.Literal g)))
on_screen f (Some r) (Some (sig.Form g)) ts h = declaration_fits f (declared_by (Some (sig.Form g))) (first_name ts) (by_shape f (Some (sig.Form g)))
on_screen f (Some r) (Some sig.With) ts h = declaration_fits f (declared_by (Some sig.With)) (first_name ts) (by_shape f (Some sig.With))
on_screen f (Some r) (Some sig.Table) ts h = declaration_fits f (declared_by (Some sig.Table)) (first_name ts) (by_shape f (Some sig.Table))
on_screen f (Some r) (Some sig.Today) ts h = declaration_fits f (declared_by (Some sig.Today)) (first_name ts) (by_shape f (Some sig.Today))
on_screen f (Some r) (Some sig.Defaults) ts h = declaration_fits f (declared_by (Some sig.Defaults)) (first_name ts) (by_shape f (Some sig.Defaults))
on_screen f (Some r) (Some (sig.Act acts.Set)) ts h = declaration_fits f (declared_by (Some (sig.Act acts.Set))) (first_name ts) (by_shape f (Some (sig.Act acts.Set)))
on_screen f (Some r) (Some (sig.Act acts.UpdateContext)) ts h = record_fits f r ts h
on_screen f (Some r) (Some (sig.Act acts.Collect)) ts h = declaration_fits f (declared_by (Some (sig.Act acts.Collect))) (first_name ts) (by_shape f (Some (sig.Act acts.Collect)))
on_screen f (Some r) (Some (sig.Act acts.Clear)) ts h = declaration_fits f (declared_by (Some (sig.Act acts.Clear))) (first_name ts) (by_shape f (Some (sig.Act acts.Clear)))
on_screen f (Some r) (Some (sig.Act acts.ClearCollect)) ts h = declaration_fits f (declared_by (Some (sig.Act acts.ClearCollect))) (first_name ts) (by_shape f (Some (sig.Act acts.ClearCollect)))
on_screen f (Some r) (Some (sig.Act acts.Patch)) ts h = declaration_fits f (declared_by (Some (sig.Act acts.Patch))) (first_name ts) (by_shape f (Some (sig.Act acts.Patch)))
on_screen f (Some r) (Some (sig.Act acts.Remove)) ts h = declaration_fits f (declared_by (Some (sig.Act acts.Remove))) (first_name ts) (by_shape f (Some (sig.Act acts.Remove)))
on_screen f (Some r) (Some (sig.Act acts.RemoveIf)) ts h = declaration_fits f (declared_by (Some (sig.Act acts.RemoveIf))) (first_name ts) (by_shape f (Some (sig.Act acts.RemoveIf)))
on_screen f (Some r) (Some (sig.Act acts.UpdateIf)) ts h = declaration_fits f (declared_by (Some (sig.Act acts.UpdateIf))) (first_name ts) (by_shape f (Some (sig.Act acts.UpdateIf)))
on_screen f (Some r) (Some (sig.Act acts.Navigate)) ts h = declaration_fits f (declared_by (Some (sig.Act acts.Navigate))) (first_name ts) (by_shape f (Some (sig.Act acts.Navigate)))
on_screen f (Some r) (Some (sig.Act acts.Notify)) ts h = declaration_fits f (declared_by (Some (sig.Act acts.Notify))) (first_name ts) (by_shape f (Some (sig.Act acts.Notify)))
on_screen f (Some r) (Some (sig.Act acts.Reset)) ts h = declaration_fits f (declared_by (Some (sig.Act acts.Reset))) (first_name ts) (by_shape f (Some (sig.Act acts.Reset)))

at_fits : (f : Frame) (fs : List Signature) (r : Option ℕ) (h : Head) (ts : Forest) → IsScreen f r → All (Fits f) (declared_at fs r h ts)
at_fits f fs r (tree.num z) ts k = All-nil (Fits f)
at_fits f fs r (tree.text x) ts k = All-nil (Fits f)
at_fits f fs r (tree.truth b) ts k = All-nil (Fits f)
at_fits f fs r (tree.name x) ts k = All-nil (Fits f)
at_fits f fs r (tree.global x) ts k = All-nil (Fits f)
at_fits f fs r (tree.dot x) ts k = All-nil (Fits f)
at_fits f fs r (tree.call x) ts k = on_screen f r (shape_called fs x) ts k
at_fits f fs r tree.neg ts k = All-nil (Fits f)
at_fits f fs r tree.opposite ts k = All-nil (Fits f)
at_fits f fs r tree.percent ts k = All-nil (Fits f)
at_fits f fs r (tree.pair o) ts k = All-nil (Fits f)
at_fits f fs r tree.joined ts k = All-nil (Fits f)
at_fits f fs r tree.all ts k = All-nil (Fits f)
at_fits f fs r tree.any ts k = All-nil (Fits f)
at_fits f fs r tree.chain ts k = All-nil (Fits f)
at_fits f fs r (tree.alias x) ts k = All-nil (Fits f)
at_fits f fs r (tree.rec xs ps) ts k = All-nil (Fits f)
at_fits f fs r tree.list ts k = All-nil (Fits f)
at_fits f fs r tree.woven ts k = All-nil (Fits f)

mutual
  tree_fits : (f : Frame) (fs : List Signature) (r : Option ℕ) (t : Tree) → IsScreen f r → All (Fits f) (declared_in fs r t)
  tree_fits f fs r (node at h ts) k = All-append (Fits f) (declared_at fs r h ts) (declared_among fs r ts) (at_fits f fs r h ts k) (forest_fits f fs r ts k)

  forest_fits : (f : Frame) (fs : List Signature) (r : Option ℕ) (ts : Forest) → IsScreen f r → All (Fits f) (declared_among fs r ts)
  forest_fits f fs r none k = All-nil (Fits f)
  forest_fits f fs r (more t ts) k = All-append (Fits f) (declared_in fs r t) (declared_among fs r ts) (tree_fits f fs r t k) (forest_fits f fs r ts k)

new_fits : (f : Frame) (before ds : List Declared) → All (Fits f) ds → All (Fits f) (new_behind before ds)
new_fits f before [] h = All-nil (Fits f)
new_fits f before (d ∷ ds) h =
    by (list_any (is_thing d) before) (new_fits f before ds (All-tail (Fits f) d ds h)) (new_fits f (before ++ d ∷ []) ds (All-tail (Fits f) d ds h))
  where
    by : (b : Bool) → All (Fits f) (new_behind before ds) → All (Fits f) (new_behind (before ++ d ∷ []) ds)
        → All (Fits f) (if b then new_behind before ds else d ∷ new_behind (before ++ d ∷ []) ds)
    by true k l = k
    by false k l = All-cons (Fits f) d (new_behind (before ++ d ∷ []) ds) (All-head (Fits f) d ds h) l

things_fit : (f : Frame) (fs : List Signature) (given : List ℕ → Bool) (before : List Declared) (cs : List Cell) → IsFrame f → All (IsPlaced f) cs → All (Fits f) before
    → All (Fits f) (things_behind fs given before cs)
things_fit f fs given before [] h k l = l
things_fit f fs given before (c ∷ cs) h k l =
    let here = All-filter (is_declared given) (Fits f) (declared_in fs c.screen c.expr) (tree_fits f fs c.screen c.expr (screen_fits f c h (All-head (IsPlaced f) c cs k))) in
    things_fit f fs given (before ++ new_behind before (declared_of fs given c)) cs h (All-tail (IsPlaced f) c cs k)
    (All-append (Fits f) before (new_behind before (declared_of fs given c)) l (new_fits f before (declared_of fs given c) here))

-- each thing that the formulas of an app declare is one of a screen of the app, or a global one
pub all_fit : (f : Frame) (fs : List Signature) (cs : List Cell) → IsFrame f → All (IsPlaced f) cs → All (Fits f) (things_of fs f cs)
all_fit f fs cs h k = things_fit f fs (is_name_among (given_names f cs)) [] cs h k (All-nil (Fits f))
