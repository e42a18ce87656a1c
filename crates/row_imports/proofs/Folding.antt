-- Lines, one after another.
use Rattle.std.proofs.Common.{◌≡◌, ℕ, ◌+◌, ◌<◌, ◌≤◌, Bool, true, false, List, [], ◌∷◌, length, drop, get_or, Option, Some, None, refl, ap, ap₂, sym, ◌∙◌, subst, add-one, drop-cons, arith}
use Rattle.std.specs.Prelude.{Result, Ok, Err}
use Rattle.fx_base.specs.Silence.{MayFallSilent, IsLater, SilenceCause, Marks}
use Rattle.fx_base.proofs.Silences.{goes_two, goes_weaker}
use Rattle.fx_types.specs.Values.{Data}
use Rattle.fx_core.specs.declared.schema.Column.{Column}
use Rattle.row_keeper.specs.Changes.{NamesItsColumn}
use Rattle.row_keeper.specs.Tables.{Tables}
use Rattle.row_keeper.specs.declared.rows.RowRefusal.{RowRefusal}
use Rattle.row_imports.proofs.Repeats.{same_ok}
use Rattle.row_imports.specs.Imports.{act_line, counting, import, none_yet, one_more, then_lines}
use Rattle.row_imports.specs.Lines.{ImportsLines, IsActed, IsImported, LineComesTo, counted}
use Rattle.row_imports.specs.declared.imports.BrokenLine.{BrokenLine}
use Rattle.row_imports.specs.declared.imports.Counts.{Counts}
use Rattle.row_imports.specs.declared.lines.Acted.{Acted}
use Rattle.row_imports.specs.declared.lines.Acted.TheVariants.{Added, Changed, Broken}
use Rattle.row_imports.specs.declared.lines.Heading.{Heading}

-- counts before others
abbrev pub all_counted : Counts → Result (Counts × Tables) BrokenLine → Result (Counts × Tables) BrokenLine
all_counted c (Ok x) = Ok (record { added = c.added + x.0.added; changed = c.changed + x.0.changed }, x.1)
all_counted c (Err e) = Err e

-- all lines, from the one of this number on
abbrev from : List Column → Heading → ℕ → List (List Data) → Tables → Result (Counts × Tables) BrokenLine
from columns h at lines t = import columns h.table h.key h.columns at lines t

-- so far, with these counts
abbrev pub Leads : List Column → Heading → List (List Data) → ℕ → Counts → Tables → Tables → Type 0
Leads columns h lines at c a b = import columns h.table h.key h.columns 1 lines a ≡ all_counted c (import columns h.table h.key h.columns (at + 1) (drop at lines) b)

nothing_before : (r : Result (Counts × Tables) BrokenLine) → r ≡ all_counted none_yet r
nothing_before (Ok x) = let p : x.0.added ≡ 0 + x.0.added = omega arith in let q : x.0.changed ≡ 0 + x.0.changed = omega arith in ap₂ (λ m n. Ok (record { added = m; changed = n }, x.1)) p q
nothing_before (Err e) = refl

pub begins : (columns : List Column) (h : Heading) (lines : List (List Data)) (a : Tables) → Leads columns h lines 0 none_yet a a
begins columns h lines a = nothing_before (from columns h 1 lines a)

joins : (c : Counts) (b : Bool) (r : Result (Counts × Tables) BrokenLine) → all_counted c (counting b r) ≡ all_counted (one_more b c) r
joins c true (Ok x) = let p : c.added + (x.0.added + 1) ≡ c.added + 1 + x.0.added = omega arith in ap (λ n. Ok (record { added = n; changed = c.changed + x.0.changed }, x.1)) p
joins c false (Ok x) = let p : c.changed + (x.0.changed + 1) ≡ c.changed + 1 + x.0.changed = omega arith in ap (λ n. Ok (record { added = c.added + x.0.added; changed = n }, x.1)) p
joins c b (Err e) = refl

rest_of : (lines : List (List Data)) (at : ℕ) (l : List Data) → at < length lines → drop at lines ≡ get_or lines at l ∷ drop (at + 1) lines
rest_of lines at l below = drop-cons lines at l below ∙ ap (λ k. get_or lines at l ∷ drop k lines) (sym (add-one at))

-- one line more
one_on : (columns : List Column) (h : Heading) (lines : List (List Data)) (at : ℕ) (l : List Data) (c : Counts) (x : Bool) (a b z : Tables) → at < length lines
    → Leads columns h lines at c a b → act_line columns h.table h.key h.columns (get_or lines at l) b ≡ Ok (x, z) → Leads columns h lines (at + 1) (one_more x c) a z
one_on columns h lines at l c x a b z below so_far one =
    so_far ∙ ap (λ ls. all_counted c (from columns h (at + 1) ls b)) (rest_of lines at l below)
    ∙ ap (λ r. all_counted c (then_lines (at + 1) (from columns h (at + 1 + 1) (drop (at + 1) lines)) r)) one
    ∙ joins c x (from columns h (at + 1 + 1) (drop (at + 1) lines) z)

-- the rule that breaks
err_value : {A E : Type 0} → E → Result A E → E
err_value d (Ok a) = d
err_value d (Err e) = e

same_err : {A E : Type 0} (r : Result A E) (a b : E) → r ≡ Err a → r ≡ Err b → a ≡ b
unfolding err_value
same_err r a b e f = ap (err_value a) (sym e ∙ f)

goes_on : (columns : List Column) (h : Heading) (lines : List (List Data)) (at : ℕ) (l : List Data) (c more : Counts) (d : Acted) (a b z : Tables) → at < length lines → counted c d ≡ Ok more
    → Leads columns h lines at c a b → LineComesTo (act_line columns h.table h.key h.columns (get_or lines at l) b) d b z → Leads columns h lines (at + 1) more a z
goes_on columns h lines at l c more Added a b z below e so_far one =
    subst (λ m. Leads columns h lines (at + 1) m a z) (same_ok (counted c Added) (one_more true c) more refl e) (one_on columns h lines at l c true a b z below so_far one)
goes_on columns h lines at l c more Changed a b z below e so_far one =
    subst (λ m. Leads columns h lines (at + 1) m a z) (same_ok (counted c Changed) (one_more false c) more refl e) (one_on columns h lines at l c false a b z below so_far one)
goes_on columns h lines at l c more (Broken r) a b z below e so_far one = absurd cc

breaks : (columns : List Column) (h : Heading) (lines : List (List Data)) (at : ℕ) (l : List Data) (c : Counts) (r : RowRefusal) (d : Acted) (a b z : Tables) → at < length lines → counted c d ≡ Err r
    → Leads columns h lines at c a b → LineComesTo (act_line columns h.table h.key h.columns (get_or lines at l) b) d b z → ImportsLines columns h lines (Err (record { at = at + 1; refusal = r })) a z
breaks columns h lines at l c r Added a b z below e so_far one = absurd cc
breaks columns h lines at l c r Changed a b z below e so_far one = absurd cc
breaks columns h lines at l c r (Broken q) a b z below e so_far one =
    so_far ∙ ap (λ ls. all_counted c (from columns h (at + 1) ls b)) (rest_of lines at l below)
    ∙ ap (λ o. all_counted c (then_lines (at + 1) (from columns h (at + 1 + 1) (drop (at + 1) lines)) o)) one.0
    ∙ ap (λ (x : RowRefusal). Err (record { at = at + 1; refusal = x })) (same_err (counted c (Broken q)) q r refl e)

drop_all : (lines : List (List Data)) (at : ℕ) → at ≡ length lines → drop at lines ≡ []
drop_all [] at e = rw e refl
drop_all (l ∷ ls) at e = rw e (drop_all ls (length ls) refl)

pub ends : (columns : List Column) (h : Heading) (lines : List (List Data)) (at : ℕ) (c : Counts) (a b : Tables) → at ≡ length lines → Leads columns h lines at c a b → ImportsLines columns h lines (Ok c) a b
ends columns h lines at c a b all so_far =
    let p : c.added + 0 ≡ c.added = omega arith in
    let q : c.changed + 0 ≡ c.changed = omega arith in
    so_far ∙ ap (λ ls. all_counted c (from columns h (at + 1) ls b)) (drop_all lines at all) ∙ ap₂ (λ m n. Ok (record { added = m; changed = n }, b)) p q

-- ---- what is told

pub begins_told : (columns : List Column) (h : Heading) (lines : List (List Data)) (lost : Type 0) (x : Option Tables) → MayFallSilent lost (Leads columns h lines 0 none_yet) x x
begins_told columns h lines lost None = refl
begins_told columns h lines lost (Some a) = begins columns h lines a

pub step_on : (columns : List Column) (h : Heading) (lines : List (List Data)) (i : ℕ) (l : List Data) (c more : Counts) (d : Acted) (j k m : Marks) (x y z : Option Tables)
    → l ≡ get_or lines i l → i < length lines → counted c d ≡ Ok more → IsLater j k → IsLater k m
    → MayFallSilent (SilenceCause j k) (Leads columns h lines i c) x y → MayFallSilent (SilenceCause k m) (λ b z. LineComesTo (act_line columns h.table h.key h.columns l b) d b z) y z
    → MayFallSilent (SilenceCause j m) (Leads columns h lines (i + 1) more) x z
step_on columns h lines i l c more d j k m x y z is below e later later' f g =
    goes_two (Leads columns h lines i c) (λ b z. LineComesTo (act_line columns h.table h.key h.columns l b) d b z) (Leads columns h lines (i + 1) more)
    (λ a b z so one. goes_on columns h lines i l c more d a b z below e so (subst (λ v. LineComesTo (act_line columns h.table h.key h.columns v b) d b z) is one))
    j k m later later' x y z f g

pub step_off : (columns : List Column) (h : Heading) (lines : List (List Data)) (i at : ℕ) (l : List Data) (c : Counts) (r : RowRefusal) (d : Acted) (j k m : Marks) (x y z : Option Tables)
    → l ≡ get_or lines i l → i < length lines → at ≡ i + 1 → counted c d ≡ Err r → IsLater j k → IsLater k m
    → MayFallSilent (SilenceCause j k) (Leads columns h lines i c) x y → MayFallSilent (SilenceCause k m) (λ b z. LineComesTo (act_line columns h.table h.key h.columns l b) d b z) y z
    → MayFallSilent (SilenceCause j m) (ImportsLines columns h lines (Err (record { at = at; refusal = r }))) x z
step_off columns h lines i at l c r d j k m x y z is below next e later later' f g =
    goes_two (Leads columns h lines i c) (λ b z. LineComesTo (act_line columns h.table h.key h.columns l b) d b z) (ImportsLines columns h lines (Err (record { at = at; refusal = r })))
    (λ a b z so one. subst (λ n. ImportsLines columns h lines (Err (record { at = n; refusal = r })) a z) (sym next)
    (breaks columns h lines i l c r d a b z below e so (subst (λ v. LineComesTo (act_line columns h.table h.key h.columns v b) d b z) is one)))
    j k m later later' x y z f g

pub step_out : (columns : List Column) (h : Heading) (lines : List (List Data)) (i : ℕ) (c : Counts) (lost : Type 0) (x y : Option Tables) → i ≡ length lines
    → MayFallSilent lost (Leads columns h lines i c) x y → MayFallSilent lost (ImportsLines columns h lines (Ok c)) x y
step_out columns h lines i c lost x y all = goes_weaker lost (Leads columns h lines i c) (ImportsLines columns h lines (Ok c)) (λ a b so. ends columns h lines i c a b all so) x y

-- ---- also where no tables are told

pub more_counted : (c more : Counts) (d : Acted) (i : ℕ) → counted c d ≡ Ok more → c.added + c.changed ≡ i → more.added + more.changed ≡ i + 1
more_counted c more Added i e f =
    let p = same_ok (counted c Added) (one_more true c) more refl e in
    let q : c.added + 1 + c.changed ≡ i + 1 = omega (arith, f) in
    ap (λ (m : Counts). m.added + m.changed) (sym p) ∙ q
more_counted c more Changed i e f =
    let p = same_ok (counted c Changed) (one_more false c) more refl e in
    let q : c.added + (c.changed + 1) ≡ i + 1 = omega (arith, f) in
    ap (λ (m : Counts). m.added + m.changed) (sym p) ∙ q
more_counted c more (Broken r) i e f = absurd cc

pub broken_may : (columns : List Column) (c : Counts) (r : RowRefusal) (d : Acted) (at n : ℕ) → counted c d ≡ Err r → IsActed columns d → 1 ≤ at → at ≤ n → IsImported columns n (Err (record { at = at; refusal = r }))
broken_may columns c r Added at n e h low high = absurd cc
broken_may columns c r Changed at n e h low high = absurd cc
broken_may columns c r (Broken q) at n e h low high = (low, high, subst (λ (x : RowRefusal). NamesItsColumn columns x.rule x.column) (same_err (counted c (Broken q)) q r refl e) h)
