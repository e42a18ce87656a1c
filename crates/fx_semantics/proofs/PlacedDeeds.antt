-- Acting calls make trees that act in their place.
use Rattle.std.proofs.Common.{◌≡◌, ℕ, List, [], ◌∷◌, Bool, true, false, not, ◌&&◌, nat_eq, codes, Option, Some, None, is_some, Result, Ok, Err, refl, if◌then◌else◌}
use Rattle.fx_types.specs.TypeView.{shape}
use Rattle.fx_types.specs.Types.{Shape, blanks, numbers, texts, records, tables, ColumnList, no_columns, column}
use Rattle.fx_semantics.specs.Places.{IsPlaced, ArePlaced, are_of_screen, sets_of_screen}
use Rattle.fx_semantics.proofs.PlacedParts.{TreePlaced, AllPlaced, EachPlaced, quiet_placed, tree_still, terms_placed, node_placed, one_placed, by_way_placed, put_placed, values_placed}
use Rattle.fx_core.specs.declared.deeds.Deed.{Deed}
use Rattle.fx_core.specs.declared.deeds.Deed.TheVariants as deed
use Rattle.fx_core.specs.declared.deeds.Target.{Target}
use Rattle.fx_core.specs.declared.deeds.Target.TheVariants as rows
use Rattle.fx_core.specs.declared.functions.Acting.{Acting}
use Rattle.fx_core.specs.declared.functions.Acting.TheVariants as acts
use Rattle.fx_core.specs.declared.functions.Fun.TheVariants as fun
use Rattle.fx_core.specs.declared.sources.Source.{Source}
use Rattle.fx_core.specs.declared.sources.Source.TheVariants as source
use Rattle.fx_core.specs.Controls.{input_type}
use Rattle.fx_core.specs.declared.names.Collection.{Collection}
use Rattle.fx_core.specs.declared.names.ControlName.{ControlName}
use Rattle.fx_core.specs.declared.names.Names.{Names}
use Rattle.fx_core.specs.declared.names.Variable.{Variable}
use Rattle.fx_types.specs.Values.{rec, no_fields}
use Rattle.fx_core.specs.Term.{Term, of, nil, cons, all, read}
use Rattle.fx_core.specs.Term as term
use Rattle.fx_typing.proofs.QuietParts.{EachQuiet, Made, if_quiet, made_quiet, pieces_quiet, then_quiet, unless_quiet}
use Rattle.fx_typing.specs.Breaks.{could_act, gives_variables, large_given}
use Rattle.fx_typing.specs.Calls.{acted_by, acted_on_screen, acted_or_lowest}
use Rattle.fx_core.specs.ColumnLists.{and_then, field_in}
use Rattle.fx_typing.specs.Deeds.{as_rows, nothing_as, done_by, joins_to, given_variable, by_first_name, if_known, by_rows, by_columns, set_to, set_of, give_one, give_all, given_sources, given_terms, update_of, rows_collected, rows_given, collect_to, collect_of, clear_by, clear_of, by_id, row_typed, rows_named_by, leaves_id, change_of, changes_of, patch_to, patch_of, remove_of, filter_of, remove_if, update_to, update_if, navigate_of, notify_of, reset_by, reset_of, acted, nothing_done, until_settled}
use Rattle.fx_typing.specs.Local.{value, coerced, by_way, firsts}
use Rattle.fx_typing.specs.Meaning.{Place}
use Rattle.fx_typing.specs.Parts.{JudgedPart, piece, meant, target, assigned, Setting, pieces, values, lowest, all_or_lowest}
use Rattle.fx_typing.specs.Parts as part
use Rattle.fx_typing.specs.Targets.{global_variable, screen_variable, collection_named, screen_named, control_named, rows_named}
use Rattle.fx_typing.specs.Ways.{way}
use Rattle.fx_typing.specs.WellTyped.{target_source}

-- ---- steps
lowest_made : {A B C : Type 0} (P : A → Type 0) (Q : B → Type 0) (R : C → Type 0) (f : A → B → C) (p : Result A ℕ) (q : Result B ℕ) → Made P p → Made Q q →
    ((a : A) (b : B) → P a → Q b → R (f a b)) → Made R (lowest f p q)
lowest_made P Q R f (Ok a) (Ok b) h k go = go a b h k
lowest_made P Q R f (Ok a) (Err e) h k go = tt
lowest_made P Q R f (Err e) (Ok b) h k go = tt
lowest_made P Q R f (Err e) (Err n) h k go = tt

all_made : (f : Term × Shape → Result (Term × Shape) ℕ) → ((x : Term × Shape) → TreePlaced x → Made TreePlaced (f x)) → (xs : List (Term × Shape)) → AllPlaced xs →
    Made AllPlaced (all_or_lowest f xs)
all_made f go [] h = tt
all_made f go (x ∷ xs) h =
    lowest_made TreePlaced AllPlaced AllPlaced (λ y ys. y ∷ ys) (f x) (all_or_lowest f xs) (go x h.0) (all_made f go xs h.1) (λ y ys k m. (k, m))

pub name_made : (qs : List JudgedPart) (go : List ℕ → List JudgedPart → Result (Term × Shape) ℕ) → ((x : List ℕ) (rs : List JudgedPart) → EachPlaced rs → Made TreePlaced (go x rs)) →
    EachPlaced qs → Made TreePlaced (by_first_name qs go)
name_made [] go h k = tt
name_made (target None x ∷ qs) go h k = h x qs k.1
name_made (target (Some a) x ∷ qs) go h k = tt
name_made (piece q ∷ qs) go h k = tt
name_made (meant m ∷ qs) go h k = tt
name_made (assigned ns xs ∷ qs) go h k = tt

known_made : {A : Type 0} (o : Option A) (go : A → Result (Term × Shape) ℕ) → ((a : A) → Made TreePlaced (go a)) → Made TreePlaced (if_known o go)
known_made (Some a) go h = h a
known_made None go h = tt

-- what is answered where rows are none
deed_placed : TreePlaced nothing_done
deed_placed = node_placed (term.act (deed.UpdateContext [])) nil refl tt

nothing_placed : (t : Shape) → TreePlaced (nothing_as t)
nothing_placed (records ds) =
    let row = of (term.const (rec no_fields)) nil in
    node_placed term.chain (cons nothing_done.0 (cons row nil)) refl (deed_placed, (quiet_placed row refl, tt))
nothing_placed t = deed_placed

nothing_made : (r : Result (Term × Shape) ℕ) → Made TreePlaced (and_then r (λ y. Ok (as_rows true y)))
nothing_made (Ok y) = nothing_placed y.1
nothing_made (Err e) = tt

pub columns_made : (o : Option (Target × Shape)) (go : ColumnList → Result (Term × Shape) ℕ) → ((cs : ColumnList) → Made TreePlaced (go cs)) → Made TreePlaced (by_columns o go)
columns_made (Some r) go h = by_shape r.0 r.1
  where
    by_shape : (t : Target) (u : Shape) → Made TreePlaced (by_columns (Some (t, u)) go)
    by_shape t (tables cs) = h cs
    by_shape t blanks = h no_columns
    by_shape t u = tt
columns_made None go h = tt

pub rows_made : (o : Option (Target × Shape)) (go : Target × ColumnList → Result (Term × Shape) ℕ) → ((r : Target × ColumnList) → Made TreePlaced (go r)) →
    Made TreePlaced (by_rows o go)
rows_made (Some r) go h = by_shape r.0 r.1
  where
    by_shape : (t : Target) (u : Shape) → Made TreePlaced (by_rows (Some (t, u)) go)
    by_shape t (tables cs) = h (t, cs)
    by_shape t blanks = nothing_made (go (t, no_columns))
    by_shape t u = tt
rows_made None go h = tt

-- ---- values that are given
given_placed : (t : Shape) (x : Term × Shape) → TreePlaced x → Made TreePlaced (given_variable t x)
given_placed t x h = if_quiet TreePlaced (joins_to t x.1) _ _ (by_way_placed (way x.1 t) x.0 t h) tt

set_placed : (v : ℕ × Variable) (xs : List (Term × Shape)) → AllPlaced xs → Made TreePlaced (set_to v xs)
set_placed v [] h = tt
set_placed v (x ∷ []) h =
    then_quiet TreePlaced TreePlaced (given_variable (shape v.1.ty) x) _ (given_placed (shape v.1.ty) x h.0) (λ y k. one_placed (term.act (deed.Set v.0)) y.0 refl k)
set_placed v (x ∷ y ∷ xs) h = tt

set_of_placed : (n : Names) (x : List ℕ) (qs : List JudgedPart) → EachPlaced qs → Made TreePlaced (set_of n x qs)
set_of_placed n x qs h =
    then_quiet AllPlaced TreePlaced (values qs) _ (values_placed qs h) (λ xs k. known_made (global_variable n x) (λ v. set_to v xs) (λ v. set_placed v xs k))

-- values with variables of a screen
abbrev IsGiven : Source × Term → Type 0
IsGiven (source.Context k, t) = IsPlaced t
IsGiven g = ⊥

abbrev AreGiven : List (Source × Term) → Type 0
AreGiven gs = (are_of_screen (given_sources gs) ≡ true) × ArePlaced (all (given_terms gs))

more_given : (g : Source × Term) (gs : List (Source × Term)) → IsGiven g → AreGiven gs → AreGiven (g ∷ gs)
more_given (source.Context k, t) gs h m = (m.0, (h, m.1))
more_given g gs h m = absurd h

one_given : (o : Option (ℕ × Variable)) (x : Term × Shape) → TreePlaced x → Made IsGiven (give_one o x)
one_given (Some v) x h = then_quiet TreePlaced IsGiven (given_variable (shape v.1.ty) x) _ (given_placed (shape v.1.ty) x h) (λ y k. k)
one_given None x h = tt

all_given : (n : Names) (s : Option ℕ) (ms : List (List ℕ)) (xs : List (Term × Shape)) → AllPlaced xs → Made AreGiven (give_all n s ms xs)
all_given n s [] xs h = (refl, tt)
all_given n s (m ∷ ms) [] h = (refl, tt)
all_given n s (m ∷ ms) (x ∷ xs) h =
    lowest_made IsGiven AreGiven AreGiven (λ g gs. g ∷ gs) (give_one (screen_variable n s m) x) (give_all n s ms xs) (one_given (screen_variable n s m) x h.0) (all_given n s ms xs h.1)
    more_given

update_placed : (n : Names) (s : Option ℕ) (qs : List JudgedPart) → EachPlaced qs → Made TreePlaced (update_of n s qs)
update_placed n (Some s) (assigned ms xs ∷ []) h =
    then_quiet AreGiven TreePlaced (give_all n (Some s) ms xs) _ (all_given n (Some s) ms xs h.0)
    (λ gs k. node_placed (term.act (deed.UpdateContext (given_sources gs))) (all (given_terms gs)) k.0 k.1)
update_placed n s qs h = tt

-- ---- collected values
as_rows_placed : (c : Term) (t : Shape) → IsPlaced c → TreePlaced (rows_collected (c, t))
as_rows_placed c (tables cs) h = h
as_rows_placed c t h = one_placed (term.list t) c refl h

collected_placed : (t : Shape) (xs : List (Term × Shape)) → AllPlaced xs → Made AllPlaced (rows_given t xs)
collected_placed t [] h = tt
collected_placed t (x ∷ xs) h =
    then_quiet TreePlaced AllPlaced (given_variable t (rows_collected x)) _ (given_placed t (rows_collected x) (as_rows_placed x.0 x.1 h.0))
    (λ y k. put_placed y (rows_given t xs) k (collected_placed t xs h.1))

collect_placed : (d : ℕ → Deed) → ((k : ℕ) → sets_of_screen (d k) ≡ true) → (c : ℕ × Collection) (xs : List (Term × Shape)) → AllPlaced xs → Made TreePlaced (collect_to d c xs)
collect_placed d e c [] h = tt
collect_placed d e c (x ∷ xs) h =
    then_quiet AllPlaced TreePlaced (rows_given (shape c.1.ty) (x ∷ xs)) _ (collected_placed (shape c.1.ty) (x ∷ xs) h)
    (λ ys k. node_placed (term.act (d c.0)) (all (firsts ys)) (e c.0) (terms_placed ys k))

collect_of_placed : (d : ℕ → Deed) → ((k : ℕ) → sets_of_screen (d k) ≡ true) → (n : Names) (x : List ℕ) (qs : List JudgedPart) → EachPlaced qs → Made TreePlaced (collect_of d n x qs)
collect_of_placed d e n x qs h =
    then_quiet AllPlaced TreePlaced (values qs) _ (values_placed qs h)
    (λ xs k. known_made (collection_named n x) (λ (c : ℕ × Collection). collect_to d c xs) (λ c. collect_placed d e c xs k))

clear_placed : (n : Names) (x : List ℕ) (qs : List JudgedPart) → Made TreePlaced (clear_of n x qs)
clear_placed n x qs = known_made (collection_named n x) (λ (c : ℕ × Collection). clear_by c.0 (shape c.1.ty)) (λ c. by_shape c.0 (shape c.1.ty))
  where
    by_shape : (k : ℕ) (t : Shape) → Made TreePlaced (clear_by k t)
    by_shape k (tables cs) = node_placed (term.act (deed.Clear k)) nil refl tt
    by_shape k blanks = nothing_placed blanks
    by_shape k t = tt

-- ---- rows and changes
row_placed : (t : Target) (cs : ColumnList) (c : Term) (u : Shape) → IsPlaced c → Made TreePlaced (row_typed t cs (c, u))
row_placed (rows.Table k) cs c (records ds) h = by_field (field_in (codes "ID") ds)
  where
    by_field : (o : Option Shape) → Made TreePlaced (by_id c ds o)
    by_field (Some numbers) = h
    by_field (Some blanks) = h
    by_field (Some t) = tt
    by_field None = tt
row_placed (rows.Table k) cs c blanks h = one_placed (term.coerce (records (column (codes "ID") numbers no_columns))) c refl h
row_placed (rows.Gathered k) cs c (records ds) h =
    if_quiet TreePlaced (joins_to (records cs) (records ds)) _ _ (by_way_placed (way (records ds) (records cs)) c (records cs) h) tt
row_placed (rows.Gathered k) cs c blanks h = one_placed (term.coerce (records cs)) c refl h
row_placed t cs c u h = tt

change_placed : (t : Target) (cs : ColumnList) (c : Term) (u : Shape) → IsPlaced c → Made TreePlaced (change_of t cs (c, u))
change_placed t cs c (records ds) h =
    if_quiet TreePlaced (joins_to (records cs) (records ds) && leaves_id t ds) _ _ (one_placed (term.list (records ds)) c refl h) tt
change_placed t cs c blanks h = one_placed (term.list (records no_columns)) (coerced c (records no_columns)) refl (one_placed (term.coerce (records no_columns)) c refl h)
change_placed t cs c u h = tt

patch_placed : (r : Target × ColumnList) (xs : List (Term × Shape)) → AllPlaced xs → Made TreePlaced (patch_to r xs)
patch_placed r [] h = tt
patch_placed r (base ∷ changes) h =
    lowest_made TreePlaced AllPlaced TreePlaced (λ b ys. (of (term.act (deed.Patch r.0)) (cons b.0 (all (firsts ys))), records r.1)) (row_typed r.0 r.1 base) (changes_of r.0 r.1 changes)
    (row_placed r.0 r.1 base.0 base.1 h.0) (all_made (change_of r.0 r.1) (λ x k. change_placed r.0 r.1 x.0 x.1 k) changes h.1)
    (λ b ys k m. node_placed (term.act (deed.Patch r.0)) (cons b.0 (all (firsts ys))) refl (k, terms_placed ys m))

patch_of_placed : (n : Names) (x : List ℕ) (qs : List JudgedPart) → EachPlaced qs → Made TreePlaced (patch_of n x qs)
patch_of_placed n x qs h =
    then_quiet AllPlaced TreePlaced (values qs) _ (values_placed qs h) (λ xs k. rows_made (rows_named n x) (λ r. patch_to r xs) (λ r. patch_placed r xs k))

remove_placed : (n : Names) (x : List ℕ) (qs : List JudgedPart) → EachPlaced qs → Made TreePlaced (remove_of n x qs)
remove_placed n x qs h =
    then_quiet AllPlaced TreePlaced (values qs) _ (values_placed qs h)
    (λ xs k. rows_made (rows_named n x) (λ r. and_then (rows_named_by r.0 r.1 xs) (λ ys. Ok (done_by (deed.Remove r.0) (firsts ys))))
    (λ r. then_quiet AllPlaced TreePlaced (rows_named_by r.0 r.1 xs) _ (all_made (row_typed r.0 r.1) (λ y m. row_placed r.0 r.1 y.0 y.1 m) xs k)
    (λ ys m. node_placed (term.act (deed.Remove r.0)) (all (firsts ys)) refl (terms_placed ys m))))

-- ---- rows that are filtered
filter_placed : (r : Target × ColumnList) (a : Option (List ℕ)) (qs : List JudgedPart) → EachQuiet qs → Made TreePlaced (filter_of r a qs)
filter_placed r a qs q = tree_still (filter_of r a qs) (made_quiet fun.Filter (value a (of (read (target_source r.0)) nil) (tables r.1) ∷ pieces qs) (refl, pieces_quiet qs q))

remove_if_placed : (n : Names) (qs : List JudgedPart) → EachQuiet qs → Made TreePlaced (remove_if n qs)
remove_if_placed n [] q = tt
remove_if_placed n (target a x ∷ qs) q =
    rows_made (rows_named n x) (λ r. and_then (filter_of r a qs) (λ f. Ok (done_by (deed.RemoveIf r.0) (f.0 ∷ []))))
    (λ r. then_quiet TreePlaced TreePlaced (filter_of r a qs) _ (filter_placed r a qs q.1) (λ f k. one_placed (term.act (deed.RemoveIf r.0)) f.0 refl k))
remove_if_placed n (piece k ∷ qs) q = tt
remove_if_placed n (meant m ∷ qs) q = tt
remove_if_placed n (assigned ns xs ∷ qs) q = tt

update_to_placed : (r : Target × ColumnList) (a : Option (List ℕ)) (p : JudgedPart) (xs : List (Term × Shape)) → EachQuiet (p ∷ []) → AllPlaced xs → Made TreePlaced (update_to r a p xs)
update_to_placed r a p [] q h = tt
update_to_placed r a p (x ∷ []) q h =
    then_quiet TreePlaced TreePlaced (filter_of r a (p ∷ [])) _ (filter_placed r a (p ∷ []) q)
    (λ f k. then_quiet TreePlaced TreePlaced (change_of r.0 r.1 x) _ (change_placed r.0 r.1 x.0 x.1 h.0)
    (λ y m. node_placed (term.act (deed.UpdateIf r.0)) (cons f.0 (cons y.0 nil)) refl (k, (m, tt))))
update_to_placed r a p (x ∷ y ∷ xs) q h = tt

update_if_placed : (n : Names) (qs : List JudgedPart) → EachPlaced qs → EachQuiet qs → Made TreePlaced (update_if n qs)
update_if_placed n (target a x ∷ p ∷ qs) h q =
    then_quiet AllPlaced TreePlaced (values qs) _ (values_placed qs h.1.1)
    (λ xs k. rows_made (rows_named n x) (λ r. update_to r a p xs) (λ r. update_to_placed r a p xs (q.1.0, tt) k))
update_if_placed n qs h q = tt

-- ---- screens, notices, inputs
navigate_placed : (n : Names) (x : List ℕ) (qs : List JudgedPart) → Made TreePlaced (navigate_of n x qs)
navigate_placed n x qs =
    known_made (screen_named n x) (λ (s : ℕ × List ℕ). Ok (done_by (deed.Navigate s.0) [])) (λ s. node_placed (term.act (deed.Navigate s.0)) nil refl tt)

notify_placed : (xs : List (Term × Shape)) → AllPlaced xs → Made TreePlaced (notify_of xs)
notify_placed [] h = tt
notify_placed (x ∷ []) h =
    then_quiet TreePlaced TreePlaced (by_way (way x.1 texts) x.0 texts) _ (by_way_placed (way x.1 texts) x.0 texts h.0) (λ y k. one_placed (term.act deed.Notify) y.0 refl k)
notify_placed (x ∷ y ∷ xs) h = tt

reset_placed : (n : Names) (x : List ℕ) (qs : List JudgedPart) → Made TreePlaced (reset_of n x qs)
reset_placed n x qs = known_made (control_named n x) (λ (c : ℕ × ControlName). reset_by c.0 (input_type c.1.kind)) (λ c. by_input c.0 (input_type c.1.kind))
  where
    by_input : (k : ℕ) (o : Option Shape) → Made TreePlaced (reset_by k o)
    by_input k (Some t) = node_placed (term.act (deed.Reset k)) nil refl tt
    by_input k None = node_placed (term.act (deed.UpdateContext [])) nil refl tt

-- ---- all of them
-- the parts of these calls don't act
abbrev pub is_filtered : Acting → Bool
is_filtered acts.RemoveIf = true
is_filtered acts.UpdateIf = true
is_filtered a = false

acted_placed : (n : Names) (s : Option ℕ) (a : Acting) (qs : List JudgedPart) → EachPlaced qs → (is_filtered a ≡ true → EachQuiet qs) → Made TreePlaced (acted n s a qs)
acted_placed n s acts.Set qs h q = name_made qs (set_of n) (λ x rs k. set_of_placed n x rs k) h
acted_placed n s acts.UpdateContext qs h q = update_placed n s qs h
acted_placed n s acts.Collect qs h q = name_made qs (collect_of deed.Collect n) (λ x rs k. collect_of_placed deed.Collect (λ i. refl) n x rs k) h
acted_placed n s acts.Clear qs h q = name_made qs (clear_of n) (λ x rs k. clear_placed n x rs) h
acted_placed n s acts.ClearCollect qs h q = name_made qs (collect_of deed.ClearCollect n) (λ x rs k. collect_of_placed deed.ClearCollect (λ i. refl) n x rs k) h
acted_placed n s acts.Patch qs h q = name_made qs (patch_of n) (λ x rs k. patch_of_placed n x rs k) h
acted_placed n s acts.Remove qs h q = name_made qs (remove_of n) (λ x rs k. remove_placed n x rs k) h
acted_placed n s acts.RemoveIf qs h q = remove_if_placed n qs (q refl)
acted_placed n s acts.UpdateIf qs h q = update_if_placed n qs h (q refl)
acted_placed n s acts.Navigate qs h q = name_made qs (navigate_of n) (λ x rs k. navigate_placed n x rs) h
acted_placed n s acts.Notify qs h q = then_quiet AllPlaced TreePlaced (values qs) _ (values_placed qs h) (λ xs k. notify_placed xs k)
acted_placed n s acts.Reset qs h q = name_made qs (reset_of n) (λ x rs k. reset_placed n x rs) h

settled_placed : (b : Bool) (r : Result (Term × Shape) ℕ) → Made TreePlaced r → Made TreePlaced (until_settled b r)
settled_placed b (Ok x) h = h
settled_placed b (Err e) h = if_quiet TreePlaced (not b && nat_eq e 11) (Ok nothing_done) (Err e) (node_placed (term.act (deed.UpdateContext [])) nil refl tt) tt

-- an acting call, whatever its place
pub act_placed : (p : Place) (s : Setting) (a : Acting) (qs : List JudgedPart) → EachPlaced qs → (is_filtered a ≡ true → EachQuiet qs) → Made TreePlaced (acted_or_lowest p s a qs)
act_placed p s a qs h q =
    let done = settled_placed p.settled (acted p.names p.screen a qs) (acted_placed p.names p.screen a qs h q) in
    let named = unless_quiet TreePlaced (not (gives_variables p.names p.screen a qs)) 15 (until_settled p.settled (acted p.names p.screen a qs)) done in
    let small = unless_quiet TreePlaced (is_some (large_given p.names p.screen a qs) && p.settled) 13 (acted_on_screen p a qs) named in
    let could = unless_quiet TreePlaced (not (could_act a qs)) 6 (acted_by p a qs) small in
    unless_quiet TreePlaced (not (part.may_act s.grant)) 9 _ could
