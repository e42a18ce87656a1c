-- New names of columns that a call is admitted with are free.
use Rattle.std.proofs.Common.{◌≡◌, ℕ, suc, ◌%◌, ◌++◌, List, [], ◌∷◌, Bool, true, false, ◌||◌, nat_eq, length, map, is_some, bytes_eq, Option, Some, None, Result, Ok, refl, ap, sym, subst, ◌∙◌, if◌then◌else◌}
use Rattle.std.specs.Ordering.{nat_cmp, match_ordering, is_eq}
use Rattle.std.specs.Cmp.Lexicographic.{slice_cmp}
use Rattle.std.specs.declared.cmp.Ordering.{Ordering}
use Rattle.std.specs.declared.cmp.Ordering.TheVariants.{Less, Equal, Greater}
use Rattle.std.proofs.lemmas.Map.Text.{is_eq-slice_cmp}
use Rattle.std.proofs.lemmas.Slice.Eq.{bytes_eq-Decides}
use Rattle.fx_types.specs.Types.{Shape, blanks, tables, ColumnList, no_columns, column}
use Rattle.fx_core.specs.declared.functions.Fun.{Fun}
use Rattle.fx_core.specs.declared.functions.Fun.TheVariants as fun
use Rattle.fx_core.specs.declared.rows.Answer.TheVariants as answer
use Rattle.fx_core.specs.declared.rows.Row.{Row}
use Rattle.fx_core.specs.declared.rows.Takes.{Takes}
use Rattle.fx_core.specs.declared.rows.Takes.TheVariants as takes
use Rattle.fx_core.specs.Rows.{row_of, takes_at, takes_count}
use Rattle.fx_core.specs.SourceTypes.{put_column, item_columns}
use Rattle.fx_core.specs.Term.{Term}
use Rattle.fx_typing.specs.Columns.{label_of, by_label, added, columns_renamed, last_label, first_shared, shared_by}
use Rattle.fx_core.specs.ColumnLists.{field_in, columns_without, is_one_of, if_there, if_free, and_then, with_new, with_renamed}
use Rattle.fx_typing.specs.Local.{Piece, value, label, stand}
use Rattle.fx_typing.specs.Breaks.{names_of_columns, names_in, part_name, columns_in, name_taken_or, taken_added, taken_renamed, taken_name, taken_grouped, shared_as, taken_by, taken_at}
use Rattle.fx_typing.specs.Parts.{JudgedPart, piece, meant, target, assigned, piece_of, pieces}
use Rattle.fx_typing.specs.Functions
use Rattle.fx_typing.specs.Functions.{StandsAs, StandFrom, none_stand, one_stands, first_and_others, AnswerType, Calls, by_row}
use Rattle.fx_typing.proofs.RelatedFunctions.{stands_goes, adds_go, renames_go, groups_go, free_ok}
use Rattle.fx_typing.proofs.RelatedSteps.{ok_is}
use Rattle.fx_typing.proofs.Operators.{then_ok}
use Rattle.fx_typing.proofs.RelatedActing.{never_first}

-- parts that are values or names of columns
abbrev pub IsPiece : JudgedPart → Type 0
IsPiece (piece k) = Unit {0}
IsPiece q = ⊥

abbrev pub ArePieces : List JudgedPart → Type 0
ArePieces [] = Unit {0}
ArePieces (q ∷ qs) = IsPiece q × ArePieces qs

-- columns have all of some names
abbrev HasAll : List (List ℕ) → ColumnList → Type 0
HasAll [] cs = Unit {0}
HasAll (n ∷ ns) cs = (is_some (field_in n cs) ≡ true) × HasAll ns cs

same_name : (x y : List ℕ) → bytes_eq x y ≡ true → x ≡ y
same_name x y e = (bytes_eq-Decides x y).0 e

own_name : (x : List ℕ) → bytes_eq x x ≡ true
own_name x = (bytes_eq-Decides x x).1 refl

has_one : (x : List ℕ) (ns : List (List ℕ)) (cs : ColumnList) → HasAll ns cs → is_one_of x ns ≡ true → is_some (field_in x cs) ≡ true
has_one x [] cs h e = absurd cc
has_one x (n ∷ ns) cs h e = by_name (bytes_eq n x) refl (λ f. has_one x ns cs h.1 f) e
  where
    by_name : (b : Bool) → bytes_eq n x ≡ b → (is_one_of x ns ≡ true → is_some (field_in x cs) ≡ true) → (b || is_one_of x ns) ≡ true → is_some (field_in x cs) ≡ true
    by_name true i k f = subst (λ z. is_some (field_in z cs) ≡ true) (same_name n x i) h.0
    by_name false i k f = k f

free_one : (x : List ℕ) (ns : List (List ℕ)) (cs : ColumnList) → HasAll ns cs → field_in x cs ≡ None → is_one_of x ns ≡ false
free_one x ns cs h e = by_test (is_one_of x ns) refl
  where
    by_test : (b : Bool) → is_one_of x ns ≡ b → is_one_of x ns ≡ false
    by_test false i = i
    by_test true i = let k : true ≡ false = sym (has_one x ns cs h i) ∙ ap is_some e in absurd cc

-- ---- columns that are put and taken away
some_if : (b : Bool) (t : Shape) (o : Option Shape) → b ≡ true → is_some (if b then Some t else o) ≡ true
some_if true t o e = refl
some_if false t o e = absurd cc

some_or : (b : Bool) (t : Shape) (o : Option Shape) → is_some o ≡ true → is_some (if b then Some t else o) ≡ true
some_or true t o e = refl
some_or false t o e = e

put_has : (m : List ℕ) (u : Shape) (cs : ColumnList) → is_some (field_in m (put_column m u cs)) ≡ true
put_has m u no_columns = some_if (bytes_eq m m) u None (own_name m)
put_has m u (column n t cs) = by_order (put_has m u cs) (slice_cmp nat_cmp m n) refl
  where
    equal : slice_cmp nat_cmp m n ≡ Equal → bytes_eq n m ≡ true
    equal o =
        let k : bytes_eq m n ≡ true = sym (is_eq-slice_cmp m n) ∙ ap is_eq o in
        subst (λ z. bytes_eq z m ≡ true) (same_name m n k) (own_name m)

    by_order : is_some (field_in m (put_column m u cs)) ≡ true → (o : Ordering) → slice_cmp nat_cmp m n ≡ o →
        is_some (field_in m (match_ordering o (column m u (column n t cs)) (column n u cs) (column n t (put_column m u cs)))) ≡ true
    by_order k Less i = some_if (bytes_eq m m) u _ (own_name m)
    by_order k Equal i = some_if (bytes_eq n m) u _ (equal i)
    by_order k Greater i = some_or (bytes_eq n m) t _ k

put_keeps : (x m : List ℕ) (u : Shape) (cs : ColumnList) → is_some (field_in x cs) ≡ true → is_some (field_in x (put_column m u cs)) ≡ true
put_keeps x m u no_columns e = absurd cc
put_keeps x m u (column n t cs) e = by_order (λ f. put_keeps x m u cs f) (slice_cmp nat_cmp m n)
  where
    by_name : (b : Bool) (v w : Shape) (o r : Option Shape) → is_some (if b then Some v else o) ≡ true → (is_some o ≡ true → is_some r ≡ true) →
        is_some (if b then Some w else r) ≡ true
    by_name true v w o r f k = refl
    by_name false v w o r f k = k f

    by_order : (is_some (field_in x cs) ≡ true → is_some (field_in x (put_column m u cs)) ≡ true) → (o : Ordering) → is_some (field_in x (match_ordering o (column m u (column n t cs)) (column n u cs) (column n t (put_column m u cs)))) ≡ true
    by_order k Less = some_or (bytes_eq m x) u _ e
    by_order k Equal = by_name (bytes_eq n x) t u (field_in x cs) (field_in x cs) e (λ f. f)
    by_order k Greater = by_name (bytes_eq n x) t t (field_in x cs) (field_in x (put_column m u cs)) e k

without_keeps : (k x : List ℕ) (cs : ColumnList) → bytes_eq k x ≡ false → is_some (field_in k cs) ≡ true → is_some (field_in k (columns_without x cs)) ≡ true
without_keeps k x no_columns i e = absurd cc
without_keeps k x (column y t cs) i e = by_names (λ f. without_keeps k x cs i f) (bytes_eq y x) refl (bytes_eq y k) refl e
  where
    differs : bytes_eq y x ≡ true → bytes_eq y k ≡ true → ⊥
    differs a b =
        let l : bytes_eq k x ≡ true = subst (λ z. bytes_eq z x ≡ true) (same_name y k b) a in
        let m : true ≡ false = sym l ∙ i in absurd cc

    by_names : (is_some (field_in k cs) ≡ true → is_some (field_in k (columns_without x cs)) ≡ true) → (a : Bool) → bytes_eq y x ≡ a → (b : Bool) → bytes_eq y k ≡ b → is_some (if b then Some t else field_in k cs) ≡ true →
        is_some (field_in k (if a then cs else column y t (columns_without x cs))) ≡ true
    by_names g true p true q f = absurd (differs p q)
    by_names g true p false q f = f
    by_names g false p true q f = some_if (bytes_eq y k) t _ q
    by_names g false p false q f = some_or (bytes_eq y k) t _ (g f)

all_put : (m : List ℕ) (u : Shape) (ns : List (List ℕ)) (cs : ColumnList) → HasAll ns cs → HasAll ns (put_column m u cs)
all_put m u [] cs h = tt
all_put m u (n ∷ ns) cs h = (put_keeps n m u cs h.0, all_put m u ns cs h.1)

all_one : (n : List ℕ) (ns : List (List ℕ)) (cs : ColumnList) → HasAll ns cs → is_some (field_in n cs) ≡ true → HasAll (ns ++ n ∷ []) cs
all_one n [] cs h e = (e, tt)
all_one n (k ∷ ns) cs h e = (h.0, all_one n ns cs h.1 e)

all_renamed : (x y : List ℕ) (u : Shape) (ns : List (List ℕ)) (cs : ColumnList) → HasAll ns cs →
    HasAll (map (λ n. if bytes_eq n x then y else n) ns) (put_column y u (columns_without x cs))
all_renamed x y u [] cs h = tt
all_renamed x y u (n ∷ ns) cs h = (by_test (bytes_eq n x) refl, all_renamed x y u ns cs h.1)
  where
    by_test : (b : Bool) → bytes_eq n x ≡ b → is_some (field_in (if b then y else n) (put_column y u (columns_without x cs))) ≡ true
    by_test true i = put_has y u (columns_without x cs)
    by_test false i = put_keeps n y u (columns_without x cs) (without_keeps n x cs i h.0)

-- columns have their names
names_had : (n : List ℕ) (t : Shape) (ns : List (List ℕ)) (cs : ColumnList) → HasAll ns cs → HasAll ns (column n t cs)
names_had n t [] cs h = tt
names_had n t (k ∷ ns) cs h = (some_or (bytes_eq n k) t (field_in k cs) h.0, names_had n t ns cs h.1)

names_all : (cs : ColumnList) → HasAll (names_of_columns cs) cs
names_all no_columns = tt
names_all (column n t cs) = (some_if (bytes_eq n n) t (field_in n cs) (own_name n), names_had n t (names_of_columns cs) cs (names_all cs))

-- ---- steps of the functions of columns
label_ok : {A : Type 0} (o : Option (List ℕ)) (go : List ℕ → Result A ℕ) (a : A) → by_label o go ≡ Ok a → (x : List ℕ) × (o ≡ Some x) × (go x ≡ Ok a)
label_ok (Some x) go a e = (x, refl, e)
label_ok None go a e = absurd cc

labelled : (k : Takes) (first common : Shape) (l : List ℕ) (x : Term × Shape) → stand k first common (label l) ≡ Ok x → label_of x.0 ≡ Some l
labelled takes.Column first common l x e = ap (λ (z : Term × Shape). label_of z.0) (sym (ok_is _ x e))
labelled takes.NewColumn first common l x e = ap (λ (z : Term × Shape). label_of z.0) (sym (ok_is _ x e))
labelled k first common l x e = absurd cc

not_taken : (x : List ℕ) (ns : List (List ℕ)) (later : Option (List ℕ)) → is_one_of x ns ≡ false → later ≡ None → name_taken_or (Some x) ns later ≡ None
not_taken x ns later e f = ap (λ b. if b then Some x else later) e ∙ f

-- ---- new columns
added_free : (r : Row) (n i : ℕ) (first common : Shape) (qs : List JudgedPart) (ps : List Piece) (xs : List (Term × Shape)) (ns : List (List ℕ)) (cs ds : ColumnList) →
    pieces qs ≡ ps → ArePieces qs → StandFrom r n first common i ps xs → HasAll ns cs → added xs cs ≡ Ok ds → taken_added qs ns ≡ None
added_free r n i first common [] ps xs ns cs ds p a f h e = refl
added_free r n i first common (q ∷ []) ps xs ns cs ds p a f h e = refl
added_free r n i first common (q ∷ g ∷ qs) ps xs ns cs ds p a none_stand h e = absurd cc
added_free r n i first common (q ∷ g ∷ qs) ps xs ns cs ds p a (one_stands s none_stand) h e = absurd cc
added_free r n i first common (piece (label l) ∷ g ∷ qs) ps xs ns cs ds p a (one_stands {p = k} {x = x} s (one_stands {ps = more} {x = y} {xs = others} t f)) h e =
    let first_piece : label l ≡ k = cc in
    let rest : pieces qs ≡ more = cc in
    let b = label_ok (label_of x.0) (λ m. and_then (with_new m y.1 cs) (λ es. added others es)) ds e in
    let c = then_ok (with_new b.0 y.1 cs) (λ es. added others es) ds b.2 in
    let d = free_ok (field_in b.0 cs) (put_column b.0 y.1 cs) c.0 c.1 in
    let its_name : label_of x.0 ≡ Some l =
    labelled (takes_at r n i) first common l x (ap (stand (takes_at r n i) first common) first_piece ∙ stands_goes first common (takes_at r n i) k x s) in
    let same : b.0 ≡ l = let z : Some b.0 ≡ Some l = sym b.1 ∙ its_name in cc in
    let free : field_in l cs ≡ None = subst (λ z. field_in z cs ≡ None) same d.0 in
    let put : put_column l y.1 cs ≡ c.0 = subst (λ z. put_column z y.1 cs ≡ c.0) same d.1 in
    let after : HasAll (ns ++ l ∷ []) c.0 = subst (HasAll (ns ++ l ∷ [])) put (all_one l ns (put_column l y.1 cs) (all_put l y.1 ns cs h) (put_has l y.1 cs)) in
    not_taken l ns _ (free_one l ns cs h free) (added_free r n (suc (suc i)) first common qs more others (ns ++ l ∷ []) c.0 ds rest a.1.1 f after c.2)
added_free r n i first common (piece (value w m u) ∷ g ∷ qs) ps xs ns cs ds p a (one_stands {x = x} s (one_stands {ps = more} {x = y} {xs = others} t f)) h e =
    let rest : pieces qs ≡ more = cc in
    let b = label_ok (label_of x.0) (λ m. and_then (with_new m y.1 cs) (λ es. added others es)) ds e in
    let c = then_ok (with_new b.0 y.1 cs) (λ es. added others es) ds b.2 in
    let d = free_ok (field_in b.0 cs) (put_column b.0 y.1 cs) c.0 c.1 in
    added_free r n (suc (suc i)) first common qs more others ns c.0 ds rest a.1.1 f (subst (HasAll ns) d.1 (all_put b.0 y.1 ns cs h)) c.2
added_free r n i first common (meant m ∷ g ∷ qs) ps xs ns cs ds p a (one_stands s (one_stands t f)) h e = absurd a.0
added_free r n i first common (target w l ∷ g ∷ qs) ps xs ns cs ds p a (one_stands s (one_stands t f)) h e = absurd a.0
added_free r n i first common (assigned ms vs ∷ g ∷ qs) ps xs ns cs ds p a (one_stands s (one_stands t f)) h e = absurd a.0

-- ---- columns under new names
abbrev is_for_name : Takes → Bool
is_for_name takes.Column = true
is_for_name takes.NewColumn = true
is_for_name k = false

name_by_test : (a b c : Bool) → a ≡ false → is_for_name (if a then takes.Table else (if b then takes.Column else (if c then takes.NewColumn else takes.Column))) ≡ true
name_by_test false true c e = refl
name_by_test false false true e = refl
name_by_test false false false e = refl
name_by_test true b c e = absurd cc

abbrev Renaming : Row
Renaming = row_of fun.RenameColumns

name_at : (n i : ℕ) → is_for_name (takes_at Renaming n (suc i)) ≡ true
name_at n i = name_by_test (nat_eq (suc i) 0) (nat_eq (suc i) 1) (nat_eq (suc i % 2) 0) (never_first i)

no_value : (k : Takes) (first common : Shape) (a : Option (List ℕ)) (c : Term) (t : Shape) (x : Term × Shape) → is_for_name k ≡ true →
    stand k first common (value a c t) ≡ Ok x → ⊥
no_value takes.Column first common a c t x o e = absurd cc
no_value takes.NewColumn first common a c t x o e = absurd cc
no_value k first common a c t x o e = absurd cc

stood_at : (k : Takes) (first common : Shape) (p q : Piece) (x : Term × Shape) → p ≡ q → StandsAs first common k q x → stand k first common p ≡ Ok x
stood_at k first common p q x e s = ap (stand k first common) e ∙ stands_goes first common k q x s

renamed_free : (n i : ℕ) (first common : Shape) (qs : List JudgedPart) (ps : List Piece) (xs : List (Term × Shape)) (ns : List (List ℕ)) (cs ds : ColumnList) →
    pieces qs ≡ ps → ArePieces qs → StandFrom Renaming n first common (suc i) ps xs → HasAll ns cs → columns_renamed xs cs ≡ Ok ds → taken_renamed qs ns ≡ None
renamed_free n i first common [] ps xs ns cs ds p a f h e = refl
renamed_free n i first common (q ∷ []) ps xs ns cs ds p a f h e = refl
renamed_free n i first common (q ∷ g ∷ qs) ps xs ns cs ds p a none_stand h e = absurd cc
renamed_free n i first common (q ∷ g ∷ qs) ps xs ns cs ds p a (one_stands s none_stand) h e = absurd cc
renamed_free n i first common (piece (label l) ∷ piece (label m) ∷ qs) ps xs ns cs ds p a (one_stands {p = k} {x = x} s (one_stands {p = j} {ps = more} {x = y} {xs = others} t f)) h e =
    let first_piece : label l ≡ k = cc in
    let second_piece : label m ≡ j = cc in
    let rest : pieces qs ≡ more = cc in
    let b = label_ok (label_of x.0) (λ v. by_label (label_of y.0) (λ w. and_then (with_renamed v w cs) (λ es. columns_renamed others es))) ds e in
    let d = label_ok (label_of y.0) (λ w. and_then (with_renamed b.0 w cs) (λ es. columns_renamed others es)) ds b.2 in
    let c = then_ok (with_renamed b.0 d.0 cs) (λ es. columns_renamed others es) ds d.2 in
    let there = then_ok (if_there (field_in b.0 cs)) (λ u. if_free (field_in d.0 cs) (put_column d.0 u (columns_without b.0 cs))) c.0 c.1 in
    let free = free_ok (field_in d.0 cs) (put_column d.0 there.0 (columns_without b.0 cs)) c.0 there.2 in
    let old_label : label_of x.0 ≡ Some l = labelled (takes_at Renaming n (suc i)) first common l x (stood_at (takes_at Renaming n (suc i)) first common (label l) k x first_piece s) in
    let new_label : label_of y.0 ≡ Some m =
    labelled (takes_at Renaming n (suc (suc i))) first common m y (stood_at (takes_at Renaming n (suc (suc i))) first common (label m) j y second_piece t) in
    let old : b.0 ≡ l = let z : Some b.0 ≡ Some l = sym b.1 ∙ old_label in cc in
    let new : d.0 ≡ m = let z : Some d.0 ≡ Some m = sym d.1 ∙ new_label in cc in
    let is_free : field_in m cs ≡ None = subst (λ z. field_in z cs ≡ None) new free.0 in
    let put : put_column m there.0 (columns_without l cs) ≡ c.0 = (λ z. put_column (sym new z) there.0 (columns_without (sym old z) cs)) ∙ free.1 in
    let after : HasAll (map (λ v. if bytes_eq v l then m else v) ns) c.0 = subst (HasAll (map (λ v. if bytes_eq v l then m else v) ns)) put (all_renamed l m there.0 ns cs h) in
    not_taken m ns _ (free_one m ns cs h is_free)
    (renamed_free n (suc (suc i)) first common qs more others (map (λ v. if bytes_eq v l then m else v) ns) c.0 ds rest a.1.1 f after c.2)
renamed_free n i first common (piece (value w c u) ∷ g ∷ qs) ps xs ns cs ds p a (one_stands {p = k} {x = x} s (one_stands t f)) h e =
    let first_piece : value w c u ≡ k = cc in
    absurd (no_value (takes_at Renaming n (suc i)) first common w c u x (name_at n i) (stood_at (takes_at Renaming n (suc i)) first common (value w c u) k x first_piece s))
renamed_free n i first common (piece (label l) ∷ piece (value w c u) ∷ qs) ps xs ns cs ds p a (one_stands s (one_stands {p = j} {x = y} t f)) h e =
    let second_piece : value w c u ≡ j = cc in
    absurd (no_value (takes_at Renaming n (suc (suc i))) first common w c u y (name_at n (suc i)) (stood_at (takes_at Renaming n (suc (suc i))) first common (value w c u) j y second_piece t))
renamed_free n i first common (piece (label l) ∷ meant m ∷ qs) ps xs ns cs ds p a (one_stands s (one_stands t f)) h e = absurd a.1.0
renamed_free n i first common (piece (label l) ∷ target w m ∷ qs) ps xs ns cs ds p a (one_stands s (one_stands t f)) h e = absurd a.1.0
renamed_free n i first common (piece (label l) ∷ assigned ms vs ∷ qs) ps xs ns cs ds p a (one_stands s (one_stands t f)) h e = absurd a.1.0
renamed_free n i first common (meant m ∷ g ∷ qs) ps xs ns cs ds p a (one_stands s (one_stands t f)) h e = absurd a.0
renamed_free n i first common (target w m ∷ g ∷ qs) ps xs ns cs ds p a (one_stands s (one_stands t f)) h e = absurd a.0
renamed_free n i first common (assigned ms vs ∷ g ∷ qs) ps xs ns cs ds p a (one_stands s (one_stands t f)) h e = absurd a.0

-- ---- the new name behind keys, and the columns of groups
name_free : (k : Takes) (first common : Shape) (q : JudgedPart) (x : Term × Shape) (cs : ColumnList) (g : List ℕ) → stand k first common (piece_of q) ≡ Ok x →
    label_of x.0 ≡ Some g → field_in g cs ≡ None → taken_name (part_name q) cs ≡ None
name_free k first common (piece (label l)) x cs g e i f =
    let same : g ≡ l = let z : Some g ≡ Some l = sym i ∙ labelled k first common l x e in cc in
    ap (λ o. if is_some o then Some l else None) (subst (λ z. field_in z cs ≡ None) same f)
name_free k first common (piece (value a c t)) x cs g e i f = refl
name_free k first common (meant m) x cs g e i f = refl
name_free k first common (target w l) x cs g e i f = refl
name_free k first common (assigned ms vs) x cs g e i f = refl

grouped_free : (r : Row) (n i : ℕ) (first common : Shape) (qs : List JudgedPart) (ps : List Piece) (xs : List (Term × Shape)) (cs : ColumnList) (g : List ℕ) →
    pieces qs ≡ ps → StandFrom r n first common i ps xs → last_label xs ≡ Some g → field_in g cs ≡ None → taken_grouped qs cs ≡ None
grouped_free r n i first common [] ps xs cs g p f l h = refl
grouped_free r n i first common (q ∷ []) ps xs cs g p none_stand l h = absurd cc
grouped_free r n i first common (q ∷ []) ps xs cs g p (one_stands {p = k} {x = x} s none_stand) l h =
    let first_piece : piece_of q ≡ k = cc in
    name_free (takes_at r n i) first common q x cs g (stood_at (takes_at r n i) first common (piece_of q) k x first_piece s) l h
grouped_free r n i first common (q ∷ []) ps xs cs g p (one_stands s (one_stands t f)) l h = absurd cc
grouped_free r n i first common (q ∷ d ∷ qs) ps xs cs g p none_stand l h = absurd cc
grouped_free r n i first common (q ∷ d ∷ qs) ps xs cs g p (one_stands s none_stand) l h = absurd cc
grouped_free r n i first common (q ∷ d ∷ qs) ps xs cs g p (one_stands s (one_stands {p = k} {ps = more} {x = x} {xs = others} t f)) l h =
    let rest : pieces (d ∷ qs) ≡ k ∷ more = cc in
    grouped_free r n (suc i) first common (d ∷ qs) (k ∷ more) (x ∷ others) cs g rest (one_stands t f) l h

shared_free : (k : Takes) (first common : Shape) (q : JudgedPart) (x : Term × Shape) (cs ds : ColumnList) (g : List ℕ) → stand k first common (piece_of q) ≡ Ok x →
    label_of x.0 ≡ Some g → field_in g cs ≡ Some (tables ds) → first_shared ds (columns_without g cs) ≡ None → shared_as (part_name q) cs ≡ None
shared_free k first common (piece (label l)) x cs ds g e i j h =
    let same : g ≡ l = let z : Some g ≡ Some l = sym i ∙ labelled k first common l x e in cc in
    ap (λ o. shared_by l o cs) (subst (λ z. field_in z cs ≡ Some (tables ds)) same j) ∙ subst (λ z. first_shared ds (columns_without z cs) ≡ None) same h
shared_free k first common (piece (value a c t)) x cs ds g e i j h = refl
shared_free k first common (meant m) x cs ds g e i j h = refl
shared_free k first common (target w l) x cs ds g e i j h = refl
shared_free k first common (assigned ms vs) x cs ds g e i j h = refl

-- ---- of a call
first_columns : (common : Shape) (q : JudgedPart) (c : Term) (cs : ColumnList) → stand takes.Table blanks common (piece_of q) ≡ Ok (c, tables cs) → columns_in q ≡ cs
first_columns common (piece (value a m (tables ds))) c cs e = ap (λ (z : Term × Shape). item_columns z.1) (ok_is (m, tables ds) (c, tables cs) e)
first_columns common (piece (value a m blanks)) c cs e = ap (λ (z : Term × Shape). item_columns z.1) (ok_is _ (c, tables cs) e)
first_columns common q c cs e = absurd cc

first_names : (common : Shape) (q : JudgedPart) (c : Term) (cs : ColumnList) → stand takes.Table blanks common (piece_of q) ≡ Ok (c, tables cs) → HasAll (names_in q) cs
first_names common (piece (value a m (tables ds))) c cs e =
    let k : (m, tables ds) ≡ (c, tables cs) = ok_is (m, tables ds) (c, tables cs) e in
    subst (HasAll (names_of_columns ds)) (ap (λ (z : Term × Shape). item_columns z.1) k) (names_all ds)
first_names common q c cs e = tt

added_answer : (common : Shape) (x : Term × Shape) (xs : List (Term × Shape)) (t : Shape) → AnswerType common answer.Added (x ∷ xs) t →
    (c : Term) × (cs : ColumnList) × (ds : ColumnList) × (x ≡ (c, tables cs)) × (added xs cs ≡ Ok ds)
added_answer common x xs t (Functions.with_columns {c = c} {cs = cs} {ds = ds} e) = (c, cs, ds, refl, adds_go xs cs ds e)

renamed_answer : (common : Shape) (x : Term × Shape) (xs : List (Term × Shape)) (t : Shape) → AnswerType common answer.Renamed (x ∷ xs) t →
    (c : Term) × (cs : ColumnList) × (ds : ColumnList) × (x ≡ (c, tables cs)) × (columns_renamed xs cs ≡ Ok ds)
renamed_answer common x xs t (Functions.columns_anew {c = c} {cs = cs} {ds = ds} e) = (c, cs, ds, refl, renames_go xs cs ds e)

grouped_answer : (common : Shape) (x : Term × Shape) (xs : List (Term × Shape)) (t : Shape) → AnswerType common answer.Grouped (x ∷ xs) t →
    (c : Term) × (cs : ColumnList) × (g : List ℕ) × (x ≡ (c, tables cs)) × (last_label xs ≡ Some g) × (field_in g cs ≡ None)
grouped_answer common x xs t (Functions.in_groups {c = c} {cs = cs} {ns = ns} {g = g} e) = let r = groups_go cs xs ns g e in (c, cs, g, refl, r.0, r.1)

ungrouped_answer : (common : Shape) (x y : Term × Shape) (t : Shape) → AnswerType common answer.Ungrouped (x ∷ y ∷ []) t →
    (c : Term) × (cs : ColumnList) × (g : List ℕ) × (ds : ColumnList) × (x ≡ (c, tables cs)) × (label_of y.0 ≡ Some g) × (field_in g cs ≡ Some (tables ds))
    × (first_shared ds (columns_without g cs) ≡ None)
ungrouped_answer common x y t (Functions.out_of_groups {c = c} {cs = cs} {ds = ds} {g = g} i j k) = (c, cs, g, ds, refl, i, j, k)

either_none : (b : Bool) (o : Option (List ℕ)) → o ≡ None → (if b then o else None) ≡ None
either_none true o e = e
either_none false o e = refl

pub none_taken : (f : Fun) (qs : List JudgedPart) (y : Term × Shape) → ArePieces qs → Calls f (pieces qs) y → taken_at f qs ≡ None
none_taken fun.AddColumns (q ∷ qs) y a (by_row {common = u} {t = t} count join (first_and_others {x = x} {xs = xs} s f) answers) =
    let b = added_answer u x xs t answers in
    let table : stand takes.Table blanks u (piece_of q) ≡ Ok (b.0, tables b.1) = stands_goes blanks u takes.Table (piece_of q) x s ∙ ap Ok b.3 in
    either_none (takes_count (row_of fun.AddColumns) (length (q ∷ qs))) (taken_added qs (names_in q))
    (added_free (row_of fun.AddColumns) (suc (length (pieces qs))) 1 x.1 u qs (pieces qs) xs (names_in q) b.1 b.2 refl a.1 f (first_names u q b.0 b.1 table) b.4)
none_taken fun.RenameColumns (q ∷ qs) y a (by_row {common = u} {t = t} count join (first_and_others {x = x} {xs = xs} s f) answers) =
    let b = renamed_answer u x xs t answers in
    let table : stand takes.Table blanks u (piece_of q) ≡ Ok (b.0, tables b.1) = stands_goes blanks u takes.Table (piece_of q) x s ∙ ap Ok b.3 in
    either_none (takes_count (row_of fun.RenameColumns) (length (q ∷ qs))) (taken_renamed qs (names_in q))
    (renamed_free (suc (length (pieces qs))) 0 x.1 u qs (pieces qs) xs (names_in q) b.1 b.2 refl a.1 f (first_names u q b.0 b.1 table) b.4)
none_taken fun.GroupBy (q ∷ qs) y a (by_row {common = u} {t = t} count join (first_and_others {x = x} {xs = xs} s f) answers) =
    let b = grouped_answer u x xs t answers in
    let table : stand takes.Table blanks u (piece_of q) ≡ Ok (b.0, tables b.1) = stands_goes blanks u takes.Table (piece_of q) x s ∙ ap Ok b.3 in
    either_none (takes_count (row_of fun.GroupBy) (length (q ∷ qs))) (taken_grouped qs (columns_in q))
    (ap (taken_grouped qs) (first_columns u q b.0 b.1 table)
    ∙ grouped_free (row_of fun.GroupBy) (suc (length (pieces qs))) 1 x.1 u qs (pieces qs) xs b.1 b.2 refl f b.4 b.5)
none_taken fun.Ungroup (q ∷ []) y a c = either_none (takes_count (row_of fun.Ungroup) 1) None refl
none_taken fun.Ungroup (q ∷ d ∷ []) y a (by_row {common = u} {t = t} count join (first_and_others {x = x} s (one_stands {x = z} w none_stand)) answers) =
    let b = ungrouped_answer u x z t answers in
    let table : stand takes.Table blanks u (piece_of q) ≡ Ok (b.0, tables b.1) = stands_goes blanks u takes.Table (piece_of q) x s ∙ ap Ok b.4 in
    either_none (takes_count (row_of fun.Ungroup) 2) (shared_as (part_name d) (columns_in q))
    (ap (shared_as (part_name d)) (first_columns u q b.0 b.1 table)
    ∙ shared_free takes.Column x.1 u d z b.1 b.3 b.2 (stands_goes x.1 u takes.Column (piece_of d) z w) b.5 b.6 b.7)
none_taken fun.Ungroup (q ∷ d ∷ e ∷ qs) y a c = either_none (takes_count (row_of fun.Ungroup) (length (q ∷ d ∷ e ∷ qs))) None refl
none_taken f qs y a c = either_none (takes_count (row_of f) (length qs)) (taken_by (row_of f).answer qs) refl
