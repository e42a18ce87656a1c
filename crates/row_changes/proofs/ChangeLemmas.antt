-- Changes of rows, one after another, and the lines that they leave.
use Rattle.std.proofs.Common.{◌≡◌, ◌≢◌, ◌∙◌, ℕ, suc, ◌<◌, ◌==◌, Bool, true, false, cond, not, List, [], ◌∷◌, ◌++◌, flat_map, filter, Option, None, Some, IfSome, IsPermutation, Less, ap, append-nil, append_assoc, arith, refl, subst, sym}
use Rattle.std.specs.BTreeMap.{is_at}
use Rattle.std.specs.List.{AllByRecursion}
use Rattle.std.specs.List.Sorted.{IsStrictlySortedBy}
use Rattle.std.specs.Map.{keys_of, lookup}
use Rattle.std.specs.Option.{option_map}
use Rattle.std.specs.Ordering.{nat_cmp}
use Rattle.std.specs.Prelude.{⊤}
use Rattle.std.proofs.lemmas.Bool.{eqb-true}
use Rattle.std.proofs.lemmas.Bool.Decides.{nat_tests}
use Rattle.std.proofs.lemmas.List.Sorted.{IsPermutation-append_comm, IsPermutation-append_left, IsPermutation-cons, IsPermutation-middle, IsPermutation-refl, IsPermutation-sym, IsPermutation-trans}
use Rattle.std.proofs.lemmas.Map.Keys.{sorted_head, sorted_tail}
use Rattle.sqlite_trees.specs.Tree.{IsAscending}
use Rattle.sqlite_keyed.proofs.ListLemmas.{IsPermutation-filter, all_weaker, ascending-filter}
use Rattle.sql_meanings.specs.Lines.{LinesOf, has_number, with_body, without_line}
use Rattle.row_changes.specs.Moves.{with_now}
use Rattle.row_changes.specs.Overlay.{AreOf, LineChange, bodies_of, body_at, bytes_in, is_unchanged, line_now, line_under, lines_from, lines_of_changes, made_lines, made_of_kept, overlay}
use Rattle.row_changes.specs.declared.table.Change.{Change}
use Rattle.row_changes.specs.declared.table.TableChanges.{TableChanges}
use Rattle.row_changes.proofs.MoveLemmas.{change_in}
use Rattle.row_changes.proofs.OverlayLemmas.{apart, by_steps, flat_map-flat_map, flat_map_alike, kept_now, same_number, step, with_now_none}

abbrev pub Rising : LinesOf → Type 0
Rising xs = IsAscending (λ (a b : ℕ × List ℕ). a.0 < b.0) xs

itself : (n : ℕ) → (n == n) ≡ true
itself n = grind (arith, nat_tests)

-- ---- the line of a number among rising lines

-- the only line of the number has the body that is found
pub only : (id : ℕ) (old : List ℕ) (xs : LinesOf) → Rising xs → body_at id xs ≡ Some old → AllByRecursion (λ (x : ℕ × List ℕ). (x.0 == id) ≡ true → x.1 ≡ old) xs
only id old [] up there = tt
only id old (x ∷ xs) up there = by (x.0 == id) refl there (λ f. only id old xs up.1 f)
  where
    by : (b : Bool) → (x.0 == id) ≡ b → cond b (Some x.1) (body_at id xs) ≡ Some old
        → (body_at id xs ≡ Some old → AllByRecursion (λ (y : ℕ × List ℕ). (y.0 == id) ≡ true → y.1 ≡ old) xs) → AllByRecursion (λ (y : ℕ × List ℕ). (y.0 == id) ≡ true → y.1 ≡ old) (x ∷ xs)
    by true e f rest = (
      (λ g. let s : x.1 ≡ old = cc in s),
      all_weaker (λ (y : ℕ × List ℕ). x.0 < y.0) (λ (y : ℕ × List ℕ). (y.0 == id) ≡ true → y.1 ≡ old)
          (λ y below g. absurd (let p : x.0 ≡ id = eqb-true x.0 id e in let q : y.0 ≡ id = eqb-true y.0 id g in omega (arith, below, p, q))) xs up.0,
    )
    by false e f rest = ((λ g. absurd (let h : true ≡ false = sym g ∙ e in cc)), rest f)

others : (id : ℕ) (x : ℕ × List ℕ) (xs : LinesOf) → (x.0 == id) ≡ true → AllByRecursion (λ (y : ℕ × List ℕ). x.0 < y.0) xs → AllByRecursion (λ (y : ℕ × List ℕ). y.0 ≢ id) xs
others id x xs e up = all_weaker (λ (y : ℕ × List ℕ). x.0 < y.0) (λ (y : ℕ × List ℕ). y.0 ≢ id) (λ y below. let p : x.0 ≡ id = eqb-true x.0 id e in omega (arith, below, p)) xs up

-- a line that gets another body comes before all others, in another order
pub set_apart : (id : ℕ) (old body : List ℕ) (xs : LinesOf) → Rising xs → body_at id xs ≡ Some old → IsPermutation ((id, body) ∷ without_line id xs) (with_body id body xs)
set_apart id old body [] up there = absurd cc
set_apart id old body (x ∷ xs) up there = by (x.0 == id) refl there (λ f. set_apart id old body xs up.1 f)
  where
    by : (b : Bool) → (x.0 == id) ≡ b → cond b (Some x.1) (body_at id xs) ≡ Some old
        → (body_at id xs ≡ Some old → IsPermutation ((id, body) ∷ without_line id xs) (with_body id body xs))
        → IsPermutation ((id, body) ∷ cond (not b) (x ∷ without_line id xs) (without_line id xs)) (cond b (x.0, body) x ∷ with_body id body xs)
    by true e f more =
        let rest = others id x xs e up.0 in
        subst (λ n. IsPermutation ((n, body) ∷ without_line id xs) ((x.0, body) ∷ with_body id body xs)) (eqb-true x.0 id e)
        (subst (λ l. IsPermutation ((x.0, body) ∷ l) ((x.0, body) ∷ with_body id body xs)) (sym (with_now_none id None xs rest))
        (subst (λ l. IsPermutation ((x.0, body) ∷ xs) ((x.0, body) ∷ l)) (sym (with_now_none id (Some body) xs rest)) (IsPermutation-refl ((x.0, body) ∷ xs))))
    by false e f more =
        IsPermutation-trans _ _ _ (IsPermutation-sym _ _ (IsPermutation-middle (x ∷ []) (id, body) (without_line id xs)))
        (IsPermutation-cons x _ _ (more f))

pub numberless : (id : ℕ) (xs : LinesOf) → AllByRecursion (λ (x : ℕ × List ℕ). x.0 ≢ id) (without_line id xs)
numberless id [] = tt
numberless id (x ∷ xs) = by (x.0 == id) refl (numberless id xs)
  where
    by : (b : Bool) → (x.0 == id) ≡ b → AllByRecursion (λ (y : ℕ × List ℕ). y.0 ≢ id) (without_line id xs)
        → AllByRecursion (λ (y : ℕ × List ℕ). y.0 ≢ id) (cond (not b) (x ∷ without_line id xs) (without_line id xs))
    by true e more = more
    by false e more = ((let n : x.0 ≢ id = grind (arith, nat_tests) in n), more)

-- ---- one line changes: the others have their bodies, and all rise

pub at_others : (q id : ℕ) (now : Option (List ℕ)) (xs : LinesOf) → q ≢ id → body_at q (with_now id now xs) ≡ body_at q xs
at_others q id None [] n = refl
at_others q id None (x ∷ xs) n = by (x.0 == id) refl (at_others q id None xs n)
  where
    by : (b : Bool) → (x.0 == id) ≡ b → body_at q (without_line id xs) ≡ body_at q xs → body_at q (cond (not b) (x ∷ without_line id xs) (without_line id xs)) ≡ cond (x.0 == q) (Some x.1) (body_at q xs)
    by true e more = more ∙ ap (λ b. cond b (Some x.1) (body_at q xs)) (sym (apart x.0 q (λ p. n (sym p ∙ eqb-true x.0 id e))))
    by false e more = ap (λ o. cond (x.0 == q) (Some x.1) o) more
at_others q id (Some body) [] n = refl
at_others q id (Some body) (x ∷ xs) n = by (x.0 == id) refl (at_others q id (Some body) xs n)
  where
    by : (b : Bool) → (x.0 == id) ≡ b → body_at q (with_body id body xs) ≡ body_at q xs → body_at q (cond b (x.0, body) x ∷ with_body id body xs) ≡ cond (x.0 == q) (Some x.1) (body_at q xs)
    by true e more =
        let other : (x.0 == q) ≡ false = apart x.0 q (λ p. n (sym p ∙ eqb-true x.0 id e)) in
        ap (λ b. cond b (Some body) (body_at q (with_body id body xs))) other ∙ more ∙ ap (λ b. cond b (Some x.1) (body_at q xs)) (sym other)
    by false e more = ap (λ o. cond (x.0 == q) (Some x.1) o) more

all_set : (P : ℕ → Type 0) (id : ℕ) (body : List ℕ) (xs : LinesOf) → AllByRecursion (λ (x : ℕ × List ℕ). P x.0) xs → AllByRecursion (λ (x : ℕ × List ℕ). P x.0) (with_body id body xs)
all_set P id body [] h = tt
all_set P id body (x ∷ xs) h = (elim (has_number id x) as (λ b. P (cond b (x.0, body) x).0) [ true ↦ h.0 | false ↦ h.0 ], all_set P id body xs h.1)

pub rising_now : (id : ℕ) (now : Option (List ℕ)) (xs : LinesOf) → Rising xs → Rising (with_now id now xs)
rising_now id None xs up = ascending-filter (λ (a b : ℕ × List ℕ). a.0 < b.0) (λ x. not (has_number id x)) xs up
rising_now id (Some body) [] up = tt
rising_now id (Some body) (x ∷ xs) up = (
  elim (has_number id x) as (λ b. AllByRecursion (λ (y : ℕ × List ℕ). (cond b (x.0, body) x).0 < y.0) (with_body id body xs))
      [ true ↦ all_set (λ n. x.0 < n) id body xs up.0 | false ↦ all_set (λ n. x.0 < n) id body xs up.0 ],
  rising_now id (Some body) xs up.1,
)

-- ---- the rows that were there

abbrev pub KeysApart : List (ℕ × Change) → Type 0
KeysApart [] = ⊤
KeysApart (e ∷ es) = AllByRecursion (λ (f : ℕ × Change). f.0 ≢ e.0) es × KeysApart es

abbrev pub Had : List (ℕ × Change) → LinesOf → Type 0
Had es xs = AllByRecursion (λ (e : ℕ × Change). body_at e.0 xs ≡ Some e.1.was.items) es

abbrev pub folded : List (ℕ × Change) → LinesOf → LinesOf
folded [] xs = xs
folded (e ∷ es) xs = folded es (with_now e.0 (bytes_in e.1.now) xs)

over_keys : (P : ℕ → Type 0) (es : List (ℕ × Change)) → AllByRecursion P (keys_of es) → AllByRecursion (λ (f : ℕ × Change). P f.0) es
over_keys P [] h = tt
over_keys P (e ∷ es) h = (h.0, over_keys P es h.1)

pub keys_apart : (es : List (ℕ × Change)) → IsStrictlySortedBy nat_cmp (keys_of es) → KeysApart es
keys_apart [] h = tt
keys_apart (e ∷ es) h = (
  all_weaker (λ (f : ℕ × Change). nat_cmp e.0 f.0 ≡ Less) (λ (f : ℕ × Change). f.0 ≢ e.0) (λ f l. grind (arith, nat_tests)) es (over_keys (λ n. nat_cmp e.0 n ≡ Less) es (sorted_head nat_cmp e.0 (keys_of es) h)),
  keys_apart es (sorted_tail nat_cmp e.0 (keys_of es) h),
)

-- the change of the first row, and of others
pub change_first : (e : ℕ × Change) (es : List (ℕ × Change)) (q : ℕ) → change_in (e ∷ es) q ≡ cond (q == e.0) (Some (bodies_of e.1)) (change_in es q)
change_first e es q = ap (λ b. option_map bodies_of (cond b (Some e.1) (lookup (is_at (nat_cmp q)) es))) (same_number q e.0) ∙ out (q == e.0)
  where
    out : (b : Bool) → option_map bodies_of (cond b (Some e.1) (lookup (is_at (nat_cmp q)) es)) ≡ cond b (Some (bodies_of e.1)) (change_in es q)
    out true = refl
    out false = refl

pub change_none : (id : ℕ) (es : List (ℕ × Change)) → AllByRecursion (λ (f : ℕ × Change). f.0 ≢ id) es → change_in es id ≡ None
change_none id [] h = refl
change_none id (f ∷ es) h = change_first f es id ∙ ap (λ b. cond b (Some (bodies_of f.1)) (change_in es id)) (apart id f.0 (λ p. h.0 (sym p))) ∙ change_none id es h.1

pub had_all : (es : List (ℕ × Change)) (xs : LinesOf) → KeysApart es → ((id : ℕ) → IfSome (change_in es id) (λ c. body_at id xs ≡ Some c.0)) → Had es xs
had_all [] xs a h = tt
had_all (e ∷ es) xs a h = (
  subst (λ (o : Option LineChange). IfSome o (λ (c : LineChange). body_at e.0 xs ≡ Some c.0)) (change_first e es e.0 ∙ ap (λ b. cond b (Some (bodies_of e.1)) (change_in es e.0)) (itself e.0)) (h e.0),
  had_all es xs a.1 rest,
)
  where
    rest : (id : ℕ) → IfSome (change_in es id) (λ c. body_at id xs ≡ Some c.0)
    rest id = by (id == e.0) refl
      where
        by : (b : Bool) → (id == e.0) ≡ b → IfSome (change_in es id) (λ c. body_at id xs ≡ Some c.0)
        by true f = subst (λ n. IfSome (change_in es n) (λ c. body_at n xs ≡ Some c.0)) (sym (eqb-true id e.0 f)) (subst (λ (o : Option LineChange). IfSome o (λ (c : LineChange). body_at e.0 xs ≡ Some c.0)) (sym (change_none e.0 es a.0)) tt)
        by false f = subst (λ (o : Option LineChange). IfSome o (λ (c : LineChange). body_at id xs ≡ Some c.0)) (change_first e es id ∙ ap (λ b. cond b (Some (bodies_of e.1)) (change_in es id)) f) (h id)

pub had_rest : (e : ℕ × Change) (es : List (ℕ × Change)) (xs : LinesOf) → AllByRecursion (λ (f : ℕ × Change). f.0 ≢ e.0) es → Had es xs → Had es (with_now e.0 (bytes_in e.1.now) xs)
had_rest e [] xs a h = tt
had_rest e (f ∷ es) xs a h = (at_others f.0 e.0 (bytes_in e.1.now) xs a.0 ∙ h.0, had_rest e es xs a.1 h.1)

-- a change behind which no other one is of its row
kept_of_now : (id : ℕ) (now : Option (List ℕ)) (made next : ℕ → Option (Option (List ℕ))) → made id ≡ None → ((q : ℕ) → next q ≡ cond (q == id) (Some now) (made q)) → (xs : LinesOf)
    → kept_now made (with_now id now xs) ≡ kept_now next xs
kept_of_now id now made next none goes xs =
    ap (λ l. kept_now made l) (by_steps id now xs) ∙ flat_map-flat_map (step id now) (λ x. line_now (made x.0) x) xs ∙ flat_map_alike (λ x. flat_map (λ y. line_now (made y.0) y) (step id now x)) (λ x. line_now (next x.0) x) xs one
  where
    under : (n : ℕ) (o : Option (List ℕ)) → made n ≡ None → flat_map (λ (y : ℕ × List ℕ). line_now (made y.0) y) (line_under n o) ≡ line_under n o
    under n None e = refl
    under n (Some b) e = ap (λ m. line_now m (n, b) ++ []) e

    one : (x : ℕ × List ℕ) → flat_map (λ (y : ℕ × List ℕ). line_now (made y.0) y) (step id now x) ≡ line_now (next x.0) x
    one x = by (x.0 == id) refl
      where
        by : (b : Bool) → (x.0 == id) ≡ b → flat_map (λ (y : ℕ × List ℕ). line_now (made y.0) y) (step id now x) ≡ line_now (next x.0) x
        by true e =
            ap (λ b. flat_map (λ (y : ℕ × List ℕ). line_now (made y.0) y) (cond b (line_under x.0 now) (x ∷ []))) e ∙ under x.0 now (ap made (eqb-true x.0 id e) ∙ none)
            ∙ ap (λ m. line_now m x) (sym (goes x.0 ∙ ap (λ b. cond b (Some now) (made x.0)) e))
        by false e =
            ap (λ b. flat_map (λ (y : ℕ × List ℕ). line_now (made y.0) y) (cond b (line_under x.0 now) (x ∷ []))) e ∙ append-nil (line_now (made x.0) x)
            ∙ ap (λ m. line_now m x) (sym (goes x.0 ∙ ap (λ b. cond b (Some now) (made x.0)) e))

abbrev pub made_in : List (ℕ × Change) → ℕ → Option (Option (List ℕ))
made_in es q = option_map (λ c. c.1) (change_in es q)

made_first : (e : ℕ × Change) (es : List (ℕ × Change)) (q : ℕ) → made_in (e ∷ es) q ≡ cond (q == e.0) (Some (bytes_in e.1.now)) (made_in es q)
made_first e es q = ap (λ (o : Option LineChange). option_map (λ (c : LineChange). c.1) o) (change_first e es q) ∙ out (q == e.0)
  where
    out : (b : Bool) → option_map (λ c. c.1) (cond b (Some (bodies_of e.1)) (change_in es q)) ≡ cond b (Some (bytes_in e.1.now)) (made_in es q)
    out true = refl
    out false = refl

kept_none : (xs : LinesOf) → kept_now (λ q. None) xs ≡ xs
kept_none [] = refl
kept_none (x ∷ xs) = ap (λ l. x ∷ l) (kept_none xs)

pub folded_is : (es : List (ℕ × Change)) (xs : LinesOf) → KeysApart es → folded es xs ≡ kept_now (made_in es) xs
folded_is [] xs a = sym (kept_none xs)
folded_is (e ∷ es) xs a =
    folded_is es (with_now e.0 (bytes_in e.1.now) xs) a.1
    ∙ kept_of_now e.0 (bytes_in e.1.now) (made_in es) (made_in (e ∷ es)) (ap (λ (o : Option LineChange). option_map (λ (c : LineChange). c.1) o) (change_none e.0 es a.0)) (made_first e es) xs

-- ---- the lines that are there: those that have not changed, and those that were made

abbrev unchanged_in : List (ℕ × Change) → LinesOf → LinesOf
unchanged_in es xs = filter (λ x. is_unchanged (change_in es x.0)) xs

unchanged_first : (e : ℕ × Change) (es : List (ℕ × Change)) → AllByRecursion (λ (f : ℕ × Change). f.0 ≢ e.0) es → (xs : LinesOf) → unchanged_in es (without_line e.0 xs) ≡ unchanged_in (e ∷ es) xs
unchanged_first e es a [] = refl
unchanged_first e es a (x ∷ xs) = by (x.0 == e.0) refl (unchanged_first e es a xs)
  where
    by : (b : Bool) → (x.0 == e.0) ≡ b → unchanged_in es (without_line e.0 xs) ≡ unchanged_in (e ∷ es) xs
        → unchanged_in es (cond (not b) (x ∷ without_line e.0 xs) (without_line e.0 xs)) ≡ cond (is_unchanged (change_in (e ∷ es) x.0)) (x ∷ unchanged_in (e ∷ es) xs) (unchanged_in (e ∷ es) xs)
    by true f more = more ∙ ap (λ (o : Option LineChange). cond (is_unchanged o) (x ∷ unchanged_in (e ∷ es) xs) (unchanged_in (e ∷ es) xs)) (sym (change_first e es x.0 ∙ ap (λ b. cond b (Some (bodies_of e.1)) (change_in es x.0)) f))
    by false f more =
        ap (λ l. cond (is_unchanged (change_in es x.0)) (x ∷ l) l) more
        ∙ ap (λ (o : Option LineChange). cond (is_unchanged o) (x ∷ unchanged_in (e ∷ es) xs) (unchanged_in (e ∷ es) xs)) (sym (change_first e es x.0 ∙ ap (λ b. cond b (Some (bodies_of e.1)) (change_in es x.0)) f))

-- the unchanged ones of lines of which one was changed
unchanged_now : (e : ℕ × Change) (es : List (ℕ × Change)) (now : Option (List ℕ)) (xs : LinesOf) → AllByRecursion (λ (f : ℕ × Change). f.0 ≢ e.0) es → Rising xs → (old : List ℕ) → body_at e.0 xs ≡ Some old
    → IsPermutation (line_under e.0 now ++ unchanged_in (e ∷ es) xs) (unchanged_in es (with_now e.0 now xs))
unchanged_now e es None xs a up old there = subst (λ l. IsPermutation l (unchanged_in es (without_line e.0 xs))) (unchanged_first e es a xs) (IsPermutation-refl (unchanged_in es (without_line e.0 xs)))
unchanged_now e es (Some body) xs a up old there =
    subst (λ l. IsPermutation l (unchanged_in es (with_body e.0 body xs)))
    (ap (λ (o : Option LineChange). cond (is_unchanged o) ((e.0, body) ∷ unchanged_in es (without_line e.0 xs)) (unchanged_in es (without_line e.0 xs))) (change_none e.0 es a)
    ∙ ap (λ l. (e.0, body) ∷ l) (unchanged_first e es a xs))
    (IsPermutation-filter (λ x. is_unchanged (change_in es x.0)) ((e.0, body) ∷ without_line e.0 xs) (with_body e.0 body xs) (set_apart e.0 old body xs up there))

all_unchanged : (xs : LinesOf) → unchanged_in [] xs ≡ xs
all_unchanged [] = refl
all_unchanged (x ∷ xs) = ap (λ l. x ∷ l) (all_unchanged xs)

pub folded_parts : (es : List (ℕ × Change)) (xs : LinesOf) → KeysApart es → Had es xs → Rising xs → IsPermutation (unchanged_in es xs ++ lines_of_changes es) (folded es xs)
folded_parts [] xs a h up = subst (λ l. IsPermutation l xs) (sym (append-nil (unchanged_in [] xs) ∙ all_unchanged xs)) (IsPermutation-refl xs)
folded_parts (e ∷ es) xs a h up =
    let now = bytes_in e.1.now in
    let one = line_under e.0 now in
    let left = unchanged_in (e ∷ es) xs in
    let rest = lines_of_changes es in
    -- left ++ (one ++ rest), and one ++ left are the unchanged ones behind the change
    let turned : IsPermutation (left ++ (one ++ rest)) ((one ++ left) ++ rest) =
    subst (λ l. IsPermutation l ((one ++ left) ++ rest)) (append_assoc left one rest) (IsPermutation-append_left rest (left ++ one) (one ++ left) (IsPermutation-append_comm left one)) in
    let behind : IsPermutation ((one ++ left) ++ rest) (unchanged_in es (with_now e.0 now xs) ++ rest) =
    IsPermutation-append_left rest (one ++ left) (unchanged_in es (with_now e.0 now xs)) (unchanged_now e es now xs a.0 up e.1.was.items h.0) in
    IsPermutation-trans (left ++ (one ++ rest)) ((one ++ left) ++ rest) (folded es (with_now e.0 now xs)) turned
    (IsPermutation-trans ((one ++ left) ++ rest) (unchanged_in es (with_now e.0 now xs) ++ rest) (folded es (with_now e.0 now xs)) behind
    (folded_parts es (with_now e.0 now xs) a.1 (had_rest e es xs a.0 h.1) (rising_now e.0 now xs up)))

-- the lines of a table now are those that are kept and haven't changed, and those that were made, in another order
pub overlay_parts : (t : TableChanges) (kept : LinesOf) → IsStrictlySortedBy nat_cmp (keys_of t.changed.entries) → AreOf kept t → IsPermutation (unchanged_in t.changed.entries kept ++ made_lines t) (overlay t kept)
overlay_parts t kept sorted h =
    let es = t.changed.entries in
    let a = keys_apart es sorted in
    let added = lines_from (suc t.first) t.added.items in
    subst (λ l. IsPermutation l (overlay t kept)) (append_assoc (unchanged_in es kept) (lines_of_changes es) added)
    (IsPermutation-append_left added (unchanged_in es kept ++ lines_of_changes es) (kept_now (made_of_kept t) kept)
    (subst (IsPermutation (unchanged_in es kept ++ lines_of_changes es)) (folded_is es kept a) (folded_parts es kept a (had_all es kept a h.had) h.rising)))
