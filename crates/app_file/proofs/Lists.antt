-- Lists of parts.
use Rattle.std.proofs.Common.{◌≡◌, ℕ, suc, zero, ◌+◌, ◌<◌, ◌≤◌, List, [], ◌∷◌, ◌++◌, Some, None, get_or, length, map, take, refl, ap, sym, ◌∙◌, subst, arith, below_more}
use Rattle.std.proofs.lemmas.List.{append-nil, append_assoc, take-map, take_more, take_all, length-map, get_or-map}
use Rattle.std.specs.Prelude.{slice_get, option_map, unwrap_or}
use Rattle.serde_json.specs.Data.{Data}
use Rattle.serde_json.specs.Find.{as_array}
use Rattle.serde_json.specs.View.{items_of}
use Rattle.fx_base.specs.declared.or_memory.OrMemory.{OrMemory}
use Rattle.fx_base.specs.declared.or_memory.OrMemory.TheVariants.{Refused, Memory}
use Rattle.app_file.specs.declared.steps.Step.{Step}
use Rattle.app_file.specs.declared.steps.Step.TheVariants.{Element}
use Rattle.app_file.specs.Contents.{all_elements, all_behind}
use Rattle.app_file.specs.Forms.{Form, in_turn, elements, elements_of, BreaksForm, IsFine, no_list, bad_element}
use Rattle.app_file.specs.Readings.{AreWellFormed, IsBadAmong, IsUnderStep, TellsPath}
use Rattle.app_file.specs.Readings as reading
use Rattle.app_file.proofs.Fine.{tells_weaker}

pub list_of_items : (ds : List Data) → elements_of (items_of ds) ≡ ds
list_of_items [] = refl
list_of_items (d ∷ ds) = ap (λ xs. d ∷ xs) (list_of_items ds)

-- the elements of what is seen as a list
pub elements_are : (d : Data) (ds : List Data) → Some (items_of ds) ≡ as_array d → elements d ≡ Some ds
elements_are d ds e = ap (option_map elements_of) (sym e) ∙ ap Some (list_of_items ds)

pub all_push : {A : Type 0} (h : List Data → Data → A) (before ds : List Data) (d : Data) → all_behind h before (ds ++ d ∷ []) ≡ all_behind h before ds ++ h (before ++ ds) d ∷ []
all_push h before [] d = ap (λ xs. h xs d ∷ []) (sym (append-nil before))
all_push h before (x ∷ xs) d =
    ap (λ ys. h before x ∷ ys) (all_push h (before ++ x ∷ []) xs d ∙ ap (λ ys. all_behind h (before ++ x ∷ []) xs ++ h ys d ∷ []) (append_assoc before (x ∷ []) xs))

-- the first of these elements are fine
abbrev pub AreFineBelow : ℕ → (List Data → Form) → List Data → Type 0
AreFineBelow n f ds = (k : ℕ) → k < n → (x : Data) → slice_get ds k ≡ Some x → IsFine (f (take k ds)) x

get_at : (ds : List Data) (k : ℕ) (x : Data) → slice_get ds k ≡ Some x → (k < length ds) × (get_or ds k x ≡ x)
get_at [] k x e = absurd (cc)
get_at (d ∷ ds) zero x e = (omega arith, (let f : Some d ≡ Some x = e in cc))
get_at (d ∷ ds) (suc k) x e = let h = get_at ds k x e in (omega (arith, h.0), h.1)

at_get : (ds : List Data) (k : ℕ) (d : Data) → k < length ds → slice_get ds k ≡ Some (get_or ds k d)
at_get [] k d l = absurd (omega arith)
at_get (x ∷ xs) zero d l = refl
at_get (x ∷ xs) (suc k) d l = at_get xs k d (omega arith)

pub all_fine : (f : List Data → Form) (ds : List Data) (n : ℕ) → length ds ≤ n → AreFineBelow n f ds → AreWellFormed f ds
all_fine f ds n l h k x e = h k (let b = (get_at ds k x e).0 in omega arith) x e

-- one more element is fine
pub one_more_fine : (f : List Data → Form) (ds : List Data) (n : ℕ) (x : Data) → n < length ds → x ≡ get_or ds n x → AreFineBelow n f ds → IsFine (f (take n ds)) x → AreFineBelow (n + 1) f ds
one_more_fine f ds n x l is h fine =
    below_more _ _ h (λ y e. let one : Some y ≡ Some x = sym e ∙ at_get ds n x l ∙ ap Some (sym is) in let same : y ≡ x = cc in subst (IsFine (f (take n ds))) (sym same) fine)

-- what the first elements hold, and one more
pub one_more_held : {A : Type 0} (h : List Data → Data → A) (ds : List Data) (n : ℕ) (x : Data) (all : List A) (a : A) → n < length ds → x ≡ get_or ds n x → all ≡ all_behind h [] (take n ds) → a ≡ h (take n ds) x
    → all ++ a ∷ [] ≡ all_behind h [] (take (n + 1) ds)
one_more_held h ds n x all a l is e is_a =
    ap (λ xs. xs ++ a ∷ []) e ∙ ap (λ b. all_behind h [] (take n ds) ++ b ∷ []) is_a ∙ sym (all_push h [] (take n ds) x)
    ∙ ap (λ b. all_behind h [] (take n ds ++ b ∷ [])) is ∙ ap (all_behind h []) (sym (take_more ds n x l))

pub all_held : {A : Type 0} (h : List Data → Data → A) (ds : List Data) (n : ℕ) (all : List A) → length ds ≤ n → all ≡ all_behind h [] (take n ds) → all ≡ all_behind h [] ds
all_held h ds n all l e = e ∙ ap (all_behind h []) (take_all n ds l)

-- what is told of an element that is bad
pub bad_among : (f : List Data → Form) (ds : List Data) (k : ℕ) (x : Data) → k < length ds → x ≡ get_or ds k x → (e r : OrMemory (List Step)) → TellsPath (BreaksForm (f (take k ds)) x) e
    → IsUnderStep (Element k) e r → TellsPath (IsBadAmong f ds) r
bad_among f ds k x l is e Memory h b = tt
bad_among f ds k x l is (Refused path) (Refused down) h b = subst (IsBadAmong f ds) (sym b) (reading.at f ds k x path (at_get ds k x l ∙ ap Some (sym is)) h)
bad_among f ds k x l is Memory (Refused down) h b = absurd b

pub fine_list : (f : List Data → Form) (d : Data) (ds : List Data) → elements d ≡ Some ds → AreWellFormed f ds → IsFine (in_turn f) d
fine_list f d ds e h path (no_list _ _ none) = let g : None ≡ Some ds = ap (option_map elements_of) (sym none) ∙ e in cc
fine_list f d ds e h path (bad_element _ _ x xs k down is at bad) =
    let one : Some xs ≡ Some ds = sym is ∙ e in
    let same : xs ≡ ds = cc in
    h k x (subst (λ ys. slice_get ys k ≡ Some x) same at) down (subst (λ ys. BreaksForm (f (take k ys)) x down) same bad)

pub bad_list : (f : List Data → Form) (d : Data) (ds : List Data) → elements d ≡ Some ds → (path : List Step) → IsBadAmong f ds path → BreaksForm (in_turn f) d path
bad_list f d ds e path (reading.at _ _ k x down at bad) = bad_element f d x ds k down e at bad

pub told_list : (f : List Data → Form) (d : Data) (ds : List Data) → elements d ≡ Some ds → (e : OrMemory (List Step)) → TellsPath (IsBadAmong f ds) e → TellsPath (BreaksForm (in_turn f) d) e
told_list f d ds is = tells_weaker (IsBadAmong f ds) (BreaksForm (in_turn f) d) (bad_list f d ds is)

pub told_no_list : (f : List Data → Form) (d : Data) → None ≡ as_array d → (e : OrMemory (List Step)) → e ≡ Refused [] → TellsPath (BreaksForm (in_turn f) d) e
told_no_list f d none e is = subst (TellsPath (BreaksForm (in_turn f) d)) (sym is) (no_list f d (sym none))

pub all_are : {A : Type 0} (h : List Data → Data → A) (d : Data) (ds : List Data) → elements d ≡ Some ds → all_behind h [] ds ≡ all_elements h d
all_are h d ds e = sym (ap (λ o. all_behind h [] (unwrap_or o [])) e)

-- the elements that stand before a place, and the one there
pub before_at : {A : Type 0} (view : A → Data) (xs : List A) (n : ℕ) → map view (take n xs) ≡ take n (map view xs)
before_at view xs n = sym (take-map view n xs)

pub here_at : {A : Type 0} (view : A → Data) (xs : List A) (n : ℕ) (x : A) → n < length xs → x ≡ get_or xs n x → view x ≡ get_or (map view xs) n (view x)
here_at view xs n x l is = ap view is ∙ sym (get_or-map view xs n x (view x) l)

pub as_many : {A : Type 0} (view : A → Data) (xs : List A) (n : ℕ) → n < length xs → n < length (map view xs)
as_many view xs n l = let e = length-map xs view in omega arith
