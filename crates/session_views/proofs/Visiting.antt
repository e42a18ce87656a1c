-- Rows that are visited while lists grow by what each thing gives.
use Rattle.std.proofs.Common.{◌≡◌, ℕ, suc, ◌+◌, ◌-◌, ◌<◌, ◌≤◌, max, List, [], ◌++◌, length, get_or, drop, take, Bool, true, false, Option, Some, None, Result, Ok, Err, refl, sym, subst, ap, ◌∙◌, arith}
use Rattle.std.proofs.Math.ListN.{drop_of_length-le}
use Rattle.std.proofs.lemmas.List.{append_assoc, append-nil}
use Rattle.std.specs.Prelude.{IfOk}
use Rattle.recalc.proofs.Asked.{heard_told}
use Rattle.recalc.specs.Asking.{IsHeardOf}
use Rattle.recalc.specs.app_cells.declared.app.App.{App}
use Rattle.recalc.specs.app_semantics.Present.{items_of}
use Rattle.fx_types.specs.Values.{Data}
use Rattle.fx_types.specs.declared.faults.Fault.{Fault}
use Rattle.recalc.specs.fx_eval.Visits.{AtMost, Both}
use Rattle.recalc.specs.fx_semantics.Rows.{rows_in}
use Rattle.fx_value.specs.Columns.{Row as Fields}
use Rattle.row_keeper.specs.Tables.{Tables, rows_of_tables}
use Rattle.row_queries.specs.declared.rows.Row.{Row}
use Rattle.session_state.specs.Sessions.{SessionState}
use Rattle.view_text.specs.declared.views.Items.{Items}
use Rattle.session_views.proofs.Giving.{put_more, split}
use Rattle.session_views.specs.Views.{fault_in, put_if_some}
use Rattle.session_views.specs.Visits.{AreVisited, ItemsUnlessVisit, ItemsVisit, OrNone, RowItemsVisit}

-- where these rows are told, they are heard of
pub heard_at : (told : Option Tables) (t : Tables) → told ≡ Some t → IsHeardOf told (Some (rows_of_tables t.states))
heard_at told t is = subst (λ o. IsHeardOf o (Some (rows_of_tables t.states))) (sym is) (heard_told (Some t))

-- what holds of what a call gives, by two of its clauses
pub ok_both : {X E : Type 0} (r : Result X E) (P Q R : X → Type 0) → ((x : X) → P x → Q x → R x) → IfOk r P → IfOk r Q → IfOk r R
ok_both (Ok x) P Q R both p q = both x p q
ok_both (Err e) P Q R both p q = tt

-- ---- bounds

-- nothing was visited
pub none_more : (P : ℕ → Type 0) (n : ℕ) → P 0 → AtMost P n n
none_more P n p = (0, p, omega arith)

-- one after the other
pub both_most : (P Q : ℕ → Type 0) (start mid now : ℕ) → AtMost P start mid → AtMost Q mid now → AtMost (Both P Q) start now
both_most P Q start mid now p q = let low = p.2 in let high = q.2 in (p.0 + q.0, (p.0, q.0, p.1, q.1, refl), omega (arith, low, high))

-- by another word for it
pub most_as : (P Q : ℕ → Type 0) (start now : ℕ) → ((n : ℕ) → P n → Q n) → AtMost P start now → AtMost Q start now
most_as P Q start now word h = (h.0, word h.0 h.1, h.2)

pub or_none : (b : Bool) (P : ℕ → Type 0) (n : ℕ) → b ≡ true → P n → OrNone b P n
or_none b P n e p = subst (λ (x : Bool). OrNone x P n) (sym e) p

pub or_else : (b : Bool) (P : ℕ → Type 0) → b ≡ false → OrNone b P 0
or_else b P e = subst (λ (x : Bool). OrNone x P 0) (sym e) refl

-- ---- lists

-- what making what the things up to a place gave visits, and whatever making the others does, is what making all does
abbrev pub VisitedUpTo : {C A : Type 0} → (ℕ → C → Option A → ℕ → Type 0) → ℕ → List C → ℕ → List A → ℕ → Type 0
VisitedUpTo {C} {A} P k cs i given n = (rest : List A) (m : ℕ) → AreVisited P (k + i) (drop i cs) rest m → AreVisited P k cs (given ++ rest) (n + m)

none : {C A : Type 0} (P : ℕ → C → Option A → ℕ → Type 0) (k : ℕ) (cs : List C) → VisitedUpTo P k cs 0 [] 0
none P k cs rest m h =
    let same : k + 0 ≡ k = omega arith in
    let sum : m ≡ 0 + m = omega arith in
    subst (λ n. AreVisited P k cs rest n) sum (subst (λ n. AreVisited P n cs rest m) same h)

-- before the first
pub none_visited : {C A : Type 0} (P : ℕ → C → Option A → ℕ → Type 0) (k i : ℕ) (cs : List C) (given : List A) (start : ℕ) → i ≡ 0 → given ≡ [] → AtMost (VisitedUpTo P k cs i given) start start
none_visited {C} {A} P k i cs given start first e =
    (0, subst (λ (n : ℕ). VisitedUpTo P k cs n given 0) (sym first) (subst (λ (xs : List A). VisitedUpTo P k cs 0 xs 0) (sym e) (none P k cs)), omega arith)

one : {C A : Type 0} (P : ℕ → C → Option A → ℕ → Type 0) (k : ℕ) (cs : List C) (i : ℕ) (c : C) (o : Option A) (given : List A) (n m : ℕ) → i < length cs → c ≡ get_or cs i c → P (k + i) c o m →
    VisitedUpTo P k cs i given n → VisitedUpTo P k cs (i + 1) (given ++ put_if_some o []) (n + m)
one {C} {A} P k cs i c o given n m l e p before rest x h =
    let next : suc (k + i) ≡ k + (i + 1) = omega arith in
    let others : AreVisited P (suc (k + i)) (drop (i + 1) cs) rest x = subst (λ j. AreVisited P j (drop (i + 1) cs) rest x) (sym next) h in
    let here : AreVisited P (k + i) (drop i cs) (put_if_some o rest) (m + x) = subst (λ ds. AreVisited P (k + i) ds (put_if_some o rest) (m + x)) (sym (split cs i c l e)) (o, rest, refl, (m, x, p, others, refl)) in
    let sum : n + (m + x) ≡ n + m + x = omega arith in
    subst (λ y. AreVisited P k cs ((given ++ put_if_some o []) ++ rest) y) sum
    (subst (λ xs. AreVisited P k cs xs (n + (m + x))) (ap (λ xs. given ++ xs) (put_more o rest) ∙ sym (append_assoc given (put_if_some o []) rest)) (before (put_if_some o rest) (m + x) here))

-- one more
pub one_visited : {C A : Type 0} (P : ℕ → C → Option A → ℕ → Type 0) (k at i : ℕ) (list cs : List C) (c : C) (o : Option A) (given more : List A) (start mid now : ℕ) →
    at ≡ k + i → list ≡ cs → i < length list → c ≡ get_or list i c → AtMost (P at c o) mid now → more ≡ given ++ put_if_some o [] → AtMost (VisitedUpTo P k cs i given) start mid → AtMost (VisitedUpTo P k cs (i + 1) more) start now
one_visited {C} {A} P k at i list cs c o given more start mid now place same l e p grown before =
    let low = before.2 in
    let high = p.2 in (
      before.0 + p.0,
      subst (λ (xs : List A). VisitedUpTo P k cs (i + 1) xs (before.0 + p.0)) (sym grown)
          (one P k cs i c o given before.0 p.0 (subst (λ (ds : List C). i < length ds) same l) (subst (λ (ds : List C). c ≡ get_or ds i c) same e) (subst (λ (n : ℕ). P n c o p.0) place p.1) before.1),
      omega (arith, low, high),
    )

-- after the last
pub all_visited : {C A : Type 0} (P : ℕ → C → Option A → ℕ → Type 0) (k i : ℕ) (list cs : List C) (given : List A) (start now : ℕ) → list ≡ cs → length list ≤ i → AtMost (VisitedUpTo P k cs i given) start now → AtMost (AreVisited P k cs given) start now
all_visited {C} {A} P k i list cs given start now same l h =
    let ended : AreVisited P (k + i) (drop i cs) [] 0 = subst (λ (ds : List C). AreVisited P (k + i) ds [] 0) (sym (drop_of_length-le cs (subst (λ (ds : List C). length ds ≤ i) same l))) (refl, refl) in
    let sum : h.0 + 0 ≡ h.0 = omega arith in
    (h.0, subst (λ n. AreVisited P k cs given n) sum (subst (λ (xs : List A). AreVisited P k cs xs (h.0 + 0)) (append-nil given) (h.1 [] 0 ended)), h.2)

-- ---- items

-- a page of rows from a position on
pub paged_visits : {A B : Type 0} (P : ℕ → A → Option B → ℕ → Type 0) (from first at : ℕ) (shown rows : List A) (list : List B) (start now : ℕ) → first ≡ max from 1 → at ≡ first → shown ≡ take 100 (drop (first - 1) rows) →
    AtMost (AreVisited P at shown list) start now → AtMost (AreVisited P (max from 1) (take 100 (drop (max from 1 - 1) rows)) list) start now
paged_visits {A} P from first at shown rows list start now begins place same h =
    subst (λ (n : ℕ). AtMost (AreVisited P n (take 100 (drop (n - 1) rows)) list) start now) begins
    (subst (λ (xs : List A). AtMost (AreVisited P first xs list) start now) same (subst (λ (n : ℕ). AtMost (AreVisited P n shown list) start now) place h))

module _ (a : App) (s : SessionState) (rows : List (List Row)) (m : ℕ) (values : ℕ → Data) (g from : ℕ) (d : Data) (o : Option Fault) (i : Items) (start now : ℕ) (same : d ≡ items_of a.names values g) (is : o ≡ fault_in d) where
  -- where an error stands in their place
  pub fault_visits : (f : Fault) → o ≡ Some f → AtMost (ItemsVisit a s rows m values g from i) start start
  fault_visits f some =
      subst (λ (x : Data). AtMost (ItemsUnlessVisit a s rows m values g from (fault_in x) (rows_in x) i) start start) same
      (subst (λ (q : Option Fault). AtMost (ItemsUnlessVisit a s rows m values g from q (rows_in d) i) start start) (sym some ∙ is) (0, refl, omega arith))

  -- and those of its rows
  pub rows_visits : (fs : List Fields) → o ≡ None → fs ≡ rows_in d → AtMost (RowItemsVisit a s rows m values g from fs i) start now → AtMost (ItemsVisit a s rows m values g from i) start now
  rows_visits fs none all h =
      subst (λ (x : Data). AtMost (ItemsUnlessVisit a s rows m values g from (fault_in x) (rows_in x) i) start now) same
      (subst (λ (q : Option Fault). AtMost (ItemsUnlessVisit a s rows m values g from q (rows_in d) i) start now) (sym none ∙ is)
      (subst (λ (xs : List Fields). AtMost (RowItemsVisit a s rows m values g from xs i) start now) all h))
