-- What may become of posted changes, whatever the tables are.
use Rattle.std.proofs.Common.{◌≡◌, ℕ, suc, ◌+◌, ◌<◌, ◌≤◌, List, [], ◌∷◌, ◌++◌, length, drop, get_or, refl, ap, sym, append_assoc, subst, inl, inr, Option, Some, None, Result, Ok, Err, arith, rules}
use Rattle.std.proofs.lemmas.List.{append-nil}
use Rattle.std.specs.Prelude.{option_map}
use Rattle.fx_types.specs.Values.{Data}
use Rattle.fx_core.specs.declared.schema.Column.{Column}
use Rattle.fx_core.specs.declared.schema.TableShape.{TableShape}
use Rattle.row_keeper.specs.Changes.{IsInserted, IsReplaced}
use Rattle.row_keeper.specs.Tables.{columns_at}
use Rattle.row_keeper.specs.declared.rows.Put.{Put}
use Rattle.row_keeper.specs.declared.rows.Put.TheVariants as put
use Rattle.view_text.specs.declared.refused.Refusal.{Refusal}
use Rattle.numbered_requests.specs.Replies.{plain}
use Rattle.row_requests.proofs.Performing.{drop_all, rest_of}
use Rattle.row_requests.specs.AnyKeeper.{BreaksRule, IsOfChanges, IsRefusedAt, MayAdd, MayChange, MayChangeIn, MayEnd, MayPut, MayReplace}
use Rattle.row_requests.specs.Changes.{change_refusal, column_named, first_refusal, kept_rule, column_name_at, or_refusal, table_index, rule_of_given, table_changed}
use Rattle.row_requests.specs.DeskRows.{ChangesOutcome}
use Rattle.row_requests.specs.Steps.{HasItsDetail, HaveDetail, came, said_of}
use Rattle.row_requests.specs.declared.bodies.Change.{Change}
use Rattle.row_requests.specs.declared.bodies.Change.TheVariants.{Add, Remove, Replace}
use Rattle.row_requests.specs.declared.changes.Changed.{Changed}
use Rattle.row_requests.specs.declared.changes.Changed.TheVariants.{Id, Refused}
use Rattle.row_requests.specs.declared.rule.Rule.{Rule}

-- ---- one change

-- what is given breaks a rule
breaks_so : (at : ℕ) (columns : List Column) (P : ℕ → Type 0) (o : Option Refusal) (r : Refusal) → o ≡ Some r → MayPut at columns P o (Err r)
breaks_so at columns P None r e = absurd cc
breaks_so at columns P (Some b) r e = let is : b ≡ r = cc in subst (λ (x : Refusal). MayPut at columns P (Some b) (Err x)) is refl

pub unjudged_add : (at : ℕ) (columns : List Column) (gs : List (List ℕ × Option Data)) (r : Refusal) → first_refusal at columns gs ≡ Some r → MayAdd at columns gs (Err r)
unjudged_add at columns gs r e = breaks_so at columns (λ id. 1 ≤ id) (first_refusal at columns gs) r e

pub unjudged_replace : (at : ℕ) (columns : List Column) (asked : ℕ) (gs : List (List ℕ × Option Data)) (r : Refusal) → first_refusal at columns gs ≡ Some r → MayReplace at columns asked gs (Err r)
unjudged_replace at columns asked gs r e = inr (breaks_so at columns (λ id. id ≡ asked) (first_refusal at columns gs) r e)

-- a keeper answers
pub added_may : (at : ℕ) (columns : List Column) (gs : List (List ℕ × Option Data)) (p : Put) (c : Changed) → first_refusal at columns gs ≡ None → IsInserted columns p → c ≡ came at columns p
    → MayAdd at columns gs (said_of c)
added_may at columns gs p c passed sound is =
    subst (λ (d : Changed). MayAdd at columns gs (said_of d)) (sym is)
    (subst (λ (o : Option Refusal). MayPut at columns (λ id. 1 ≤ id) o (said_of (came at columns p))) (sym passed) (by p sound))
  where
    by : (p : Put) → IsInserted columns p → MayPut at columns (λ id. 1 ≤ id) None (said_of (came at columns p))
    by (put.Id id) s = s
    by put.NoRow s = absurd s
    by (put.Refused r) s = (r, s, refl)

pub replaced_may : (at : ℕ) (columns : List Column) (asked : ℕ) (gs : List (List ℕ × Option Data)) (p : Put) (c : Changed) → first_refusal at columns gs ≡ None → IsReplaced columns asked p → c ≡ came at columns p
    → MayReplace at columns asked gs (said_of c)
replaced_may at columns asked gs p c passed sound is =
    subst (λ (d : Changed). MayReplace at columns asked gs (said_of d)) (sym is) (by p sound)
  where
    put_so : (p : Put) → MayPut at columns (λ id. id ≡ asked) None (said_of (came at columns p)) → MayReplace at columns asked gs (said_of (came at columns p))
    put_so p h = inr (subst (λ (o : Option Refusal). MayPut at columns (λ id. id ≡ asked) o (said_of (came at columns p))) (sym passed) h)

    by : (p : Put) → IsReplaced columns asked p → MayReplace at columns asked gs (said_of (came at columns p))
    by (put.Id id) s = put_so (put.Id id) s
    by put.NoRow s = inl refl
    by (put.Refused r) s = put_so (put.Refused r) (r, s, refl)

-- in the table of a name
pub placed_may : (shapes : List TableShape) (at : ℕ) (c : Change) (o : Option ℕ) (said : Result ℕ Refusal) → o ≡ table_index (table_changed c) shapes → MayChangeIn shapes at c o said → MayChange shapes at c said
placed_may shapes at c o said e h = subst (λ (q : Option ℕ). MayChangeIn shapes at c q said) e h

-- ---- changes, one after another

-- numbers before others
abbrev pub with_before : List ℕ → ChangesOutcome → ChangesOutcome
with_before ids (Ok js) = Ok (ids ++ js)
with_before ids (Err r) = Err r

-- so far, with these numbers
abbrev pub MayLead : List TableShape → List Change → ℕ → List ℕ → Type 0
MayLead shapes changes at ids = (o : ChangesOutcome) → MayEnd shapes at (drop at changes) o → MayEnd shapes 0 changes (with_before ids o)

pub may_begin : (shapes : List TableShape) (changes : List Change) → MayLead shapes changes 0 []
may_begin shapes changes (Ok js) h = h
may_begin shapes changes (Err r) h = h

here : (shapes : List TableShape) (changes : List Change) (at i : ℕ) (d : Change) (changed : Changed) (said : Result ℕ Refusal) → at ≡ i → d ≡ get_or changes i d → said_of changed ≡ said
    → MayChange shapes at d (said_of changed) → MayChange shapes i (get_or changes i d) said
here shapes changes at i d changed said place is came h =
    subst (λ (e : Change). MayChange shapes i e said) is (subst (λ (k : ℕ). MayChange shapes k d said) place (subst (λ (o : Result ℕ Refusal). MayChange shapes at d o) came h))

pub may_step : (shapes : List TableShape) (changes : List Change) (at i : ℕ) (ids ids' : List ℕ) (d : Change) (id : ℕ) (changed : Changed)
    → at ≡ i → d ≡ get_or changes i d → i < length changes → said_of changed ≡ Ok id → ids' ≡ ids ++ id ∷ []
    → MayLead shapes changes i ids → MayChange shapes at d (said_of changed) → MayLead shapes changes (i + 1) ids'
may_step shapes changes at i ids ids' d id changed place is below came more so_far h o rest =
    subst (λ (is : List ℕ). MayEnd shapes 0 changes (with_before is o)) (sym more) (by o rest)
  where
    one : MayChange shapes i (get_or changes i d) (Ok id)
    one = here shapes changes at i d changed (Ok id) place is came h

    by : (o : ChangesOutcome) → MayEnd shapes (i + 1) (drop (i + 1) changes) o → MayEnd shapes 0 changes (with_before (ids ++ id ∷ []) o)
    by (Ok js) rest =
        subst (λ (is : List ℕ). MayEnd shapes 0 changes (Ok is)) (sym (append_assoc ids (id ∷ []) js))
        (so_far (Ok (id ∷ js)) (subst (λ (cs : List Change). MayEnd shapes i cs (Ok (id ∷ js))) (sym (rest_of changes i d below)) (one, rest)))
    by (Err r) rest = so_far (Err r) (subst (λ (cs : List Change). MayEnd shapes i cs (Err r)) (sym (rest_of changes i d below)) (inr (id, one, rest)))

pub may_break : (shapes : List TableShape) (changes : List Change) (at i : ℕ) (ids : List ℕ) (d : Change) (r : Refusal) (changed : Changed)
    → at ≡ i → d ≡ get_or changes i d → i < length changes → said_of changed ≡ Err r → MayLead shapes changes i ids → MayChange shapes at d (said_of changed) → MayEnd shapes 0 changes (Err r)
may_break shapes changes at i ids d r changed place is below came so_far h =
    so_far (Err r) (subst (λ (cs : List Change). MayEnd shapes i cs (Err r)) (sym (rest_of changes i d below)) (inl (here shapes changes at i d changed (Err r) place is came h)))

pub may_end : (shapes : List TableShape) (changes : List Change) (at : ℕ) (ids : List ℕ) → at ≡ length changes → MayLead shapes changes at ids → MayEnd shapes 0 changes (Ok ids)
may_end shapes changes at ids all so_far =
    subst (λ (is : List ℕ). MayEnd shapes 0 changes (Ok is)) (append-nil ids)
    (so_far (Ok []) (subst (λ (cs : List Change). MayEnd shapes at cs (Ok [])) (sym (drop_all changes at all)) refl))

-- ---- what is refused

judged_at : (at : ℕ) (columns : List Column) (gs : List (List ℕ × Option Data)) (r : Refusal) → first_refusal at columns gs ≡ Some r → BreaksRule at r
judged_at at columns [] r e = absurd cc
judged_at at columns (g ∷ gs) r e = by (rule_of_given (column_named g.0 columns) g.1) (judged_at at columns gs r) e
  where
    by : (o : Option Rule) → (first_refusal at columns gs ≡ Some r → BreaksRule at r) → or_refusal (option_map (change_refusal at g.0) o) (first_refusal at columns gs) ≡ Some r → BreaksRule at r
    by None rest e = rest e
    by (Some rule) rest e = let is : r ≡ change_refusal at g.0 rule = cc in (g.0, rule, is)

put_at : (at : ℕ) (columns : List Column) (P : ℕ → Type 0) (o : Option Refusal) (r : Refusal) → ((b : Refusal) → o ≡ Some b → BreaksRule at b) → MayPut at columns P o (Err r) → BreaksRule at r
put_at at columns P (Some b) r breaks h = let is : b ≡ r = cc in subst (BreaksRule at) is (breaks b refl)
put_at at columns P None r breaks h = (column_name_at columns h.0.column, kept_rule h.0.rule, h.2)

plain_is : (code : ℕ) (r : Refusal) (said : Result ℕ Refusal) → said ≡ Err r → said ≡ Err (plain code) → r ≡ plain code
plain_is code r said e f = cc

change_at : (shapes : List TableShape) (at : ℕ) (c : Change) (o : Option ℕ) (r : Refusal) → MayChangeIn shapes at c o (Err r) → IsRefusedAt at r
change_at shapes at c None r h = inl (plain_is 21 r (Err r) refl h)
change_at shapes at (Add name gs) (Some k) r h = inr (inr (put_at at (columns_at shapes k) (λ id. 1 ≤ id) (first_refusal at (columns_at shapes k) gs) r (judged_at at (columns_at shapes k) gs) h))
change_at shapes at (Replace name asked gs) (Some k) r (inl h) = inr (inl (plain_is 22 r (Err r) refl h))
change_at shapes at (Replace name asked gs) (Some k) r (inr h) = inr (inr (put_at at (columns_at shapes k) (λ id. id ≡ asked) (first_refusal at (columns_at shapes k) gs) r (judged_at at (columns_at shapes k) gs) h))
change_at shapes at (Remove name asked) (Some k) r (inl h) = inr (inl (plain_is 22 r (Err r) refl h))
change_at shapes at (Remove name asked) (Some k) r (inr h) = absurd cc

-- a refusal is one of the change at a place, counted from the first of these
refused_from : (shapes : List TableShape) (at : ℕ) (changes : List Change) (r : Refusal) → MayEnd shapes at changes (Err r) → (k : ℕ) × (k < at + length changes) × IsRefusedAt k r
refused_from shapes at [] r h = absurd h
refused_from shapes at (c ∷ cs) r (inl h) = (at, omega arith, change_at shapes at c (table_index (table_changed c) shapes) r h)
refused_from shapes at (c ∷ cs) r (inr h) = let rest = refused_from shapes (at + 1) cs r h.2 in (rest.0, omega (arith, rest.1), rest.2)

one_for_each : (shapes : List TableShape) (at : ℕ) (changes : List Change) (ids : List ℕ) → MayEnd shapes at changes (Ok ids) → length ids ≡ length changes
one_for_each shapes at [] ids h = ap length h
one_for_each shapes at (c ∷ cs) [] h = absurd h
one_for_each shapes at (c ∷ cs) (id ∷ ids) h = ap suc (one_for_each shapes (at + 1) cs ids h.1)

pub tells_of_each : (shapes : List TableShape) (changes : List Change) (o : ChangesOutcome) → MayEnd shapes 0 changes o → IsOfChanges (length changes) o
tells_of_each shapes changes (Ok ids) h = one_for_each shapes 0 changes ids h
tells_of_each shapes changes (Err r) h = let is = refused_from shapes 0 changes r h in (is.0, omega (arith, is.1), is.2)

-- and has its detail
detail_at : (at : ℕ) (r : Refusal) → IsRefusedAt at r → HasItsDetail r
detail_at at r (inl e) = subst HasItsDetail (sym e) (search rules)
detail_at at r (inr (inl e)) = subst HasItsDetail (sym e) (search rules)
detail_at at r (inr (inr h)) = subst HasItsDetail (sym h.2) (inl refl)

pub ends_detail : (shapes : List TableShape) (changes : List Change) (o : ChangesOutcome) → MayEnd shapes 0 changes o → HaveDetail o
ends_detail shapes changes (Ok ids) h = tt
ends_detail shapes changes (Err r) h = let is = refused_from shapes 0 changes r h in detail_at is.0 r is.2
