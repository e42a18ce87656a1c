-- Changes of rows, one after another.
use Rattle.std.proofs.Common.{◌≡◌, ℕ, ◌+◌, ◌<◌, List, [], ◌∷◌, ◌++◌, length, drop, get_or, refl, ap, sym, ◌∙◌, append_assoc, add-one, drop-cons, subst, Option, Result, Ok, Err}
use Rattle.std.proofs.lemmas.List.{append-nil}
use Rattle.fx_base.specs.Silence.{MayFallSilent, IsLater, SilenceCause, Marks}
use Rattle.fx_base.proofs.Silences.{goes_two}
use Rattle.fx_core.specs.declared.schema.TableShape.{TableShape}
use Rattle.row_keeper.specs.Tables.{Tables}
use Rattle.view_text.specs.declared.refused.Refusal.{Refusal}
use Rattle.row_requests.specs.Changes.{then_others, before, perform}
use Rattle.row_requests.specs.Steps.{ChangesOne, AppliesChanges}
use Rattle.row_requests.specs.declared.bodies.Change.{Change}
use Rattle.row_requests.specs.declared.changes.Changed.{Changed}
use Rattle.row_requests.specs.declared.changes.Changed.TheVariants.{Id, Refused}

-- rows' numbers before others
abbrev pub all_before : List ℕ → Result (List ℕ × Tables) Refusal → Result (List ℕ × Tables) Refusal
all_before ids (Ok x) = Ok (ids ++ x.0, x.1)
all_before ids (Err r) = Err r

-- so far, with these numbers
abbrev pub Leads : List TableShape → List Change → ℕ → List ℕ → Tables → Tables → Type 0
Leads shapes changes at ids a b = perform shapes 0 changes a ≡ all_before ids (perform shapes at (drop at changes) b)

joins : (ids : List ℕ) (id : ℕ) (p : Result (List ℕ × Tables) Refusal) → all_before ids (before id p) ≡ all_before (ids ++ id ∷ []) p
joins ids id (Ok x) = ap (λ (is : List ℕ). Ok (is, x.1)) (sym (append_assoc ids (id ∷ []) x.0))
joins ids id (Err r) = refl

pub rest_of : (changes : List Change) (at : ℕ) (d : Change) → at < length changes → drop at changes ≡ get_or changes at d ∷ drop (at + 1) changes
rest_of changes at d below = drop-cons changes at d below ∙ ap (λ k. get_or changes at d ∷ drop k changes) (sym (add-one at))

pub goes_on : (shapes : List TableShape) (changes : List Change) (at : ℕ) (ids : List ℕ) (d : Change) (id : ℕ) (a b c : Tables) → at < length changes
    → Leads shapes changes at ids a b → ChangesOne shapes at (get_or changes at d) (Id id) b c → Leads shapes changes (at + 1) (ids ++ id ∷ []) a c
goes_on shapes changes at ids d id a b c below so_far one =
    so_far ∙ ap (λ cs. all_before ids (perform shapes at cs b)) (rest_of changes at d below)
    ∙ ap (λ r. all_before ids (then_others r (perform shapes (at + 1) (drop (at + 1) changes)))) one
    ∙ joins ids id (perform shapes (at + 1) (drop (at + 1) changes) c)

pub breaks : (shapes : List TableShape) (changes : List Change) (at : ℕ) (ids : List ℕ) (d : Change) (r : Refusal) (a b c : Tables) → at < length changes
    → Leads shapes changes at ids a b → ChangesOne shapes at (get_or changes at d) (Refused r) b c → perform shapes 0 changes a ≡ Err r
breaks shapes changes at ids d r a b c below so_far one =
    so_far ∙ ap (λ cs. all_before ids (perform shapes at cs b)) (rest_of changes at d below)
    ∙ ap (λ o. all_before ids (then_others o (perform shapes (at + 1) (drop (at + 1) changes)))) one.0

pub drop_all : (changes : List Change) (at : ℕ) → at ≡ length changes → drop at changes ≡ []
drop_all [] at e = rw e refl
drop_all (c ∷ cs) at e = rw e (drop_all cs (length cs) refl)

pub ends : (shapes : List TableShape) (changes : List Change) (at : ℕ) (ids : List ℕ) (a b : Tables) → at ≡ length changes → Leads shapes changes at ids a b → perform shapes 0 changes a ≡ Ok (ids, b)
ends shapes changes at ids a b all so_far =
    so_far ∙ ap (λ cs. all_before ids (perform shapes at cs b)) (drop_all changes at all) ∙ ap (λ (is : List ℕ). Ok (is, b)) (append-nil ids)

-- ---- what is told

pub step_on : (shapes : List TableShape) (changes : List Change) (at i : ℕ) (ids ids' : List ℕ) (d : Change) (id : ℕ) (changed : Changed) (l m n : Marks) (x y z : Option Tables)
    → at ≡ i → d ≡ get_or changes i d → i < length changes → changed ≡ Id id → ids' ≡ ids ++ id ∷ [] → IsLater l m → IsLater m n
    → MayFallSilent (SilenceCause l m) (Leads shapes changes i ids) x y → MayFallSilent (SilenceCause m n) (ChangesOne shapes at d changed) y z → MayFallSilent (SilenceCause l n) (Leads shapes changes (i + 1) ids') x z
step_on shapes changes at i ids ids' d id changed l m n x y z place is below came more later later' g h =
    goes_two (Leads shapes changes i ids) (ChangesOne shapes at d changed) (Leads shapes changes (i + 1) ids')
    (λ a b c so one. subst (λ is. Leads shapes changes (i + 1) is a c) (sym more)
    (goes_on shapes changes i ids d id a b c below so
    (subst (λ e. ChangesOne shapes i e (Id id) b c) is (subst (λ k. ChangesOne shapes k d (Id id) b c) place (subst (λ e. ChangesOne shapes at d e b c) came one)))))
    l m n later later' x y z g h

pub step_off : (shapes : List TableShape) (changes : List Change) (at i : ℕ) (ids : List ℕ) (d : Change) (r : Refusal) (changed : Changed) (l m n : Marks) (x y z : Option Tables)
    → at ≡ i → d ≡ get_or changes i d → i < length changes → changed ≡ Refused r → IsLater l m → IsLater m n
    → MayFallSilent (SilenceCause l m) (Leads shapes changes i ids) x y → MayFallSilent (SilenceCause m n) (ChangesOne shapes at d changed) y z → MayFallSilent (SilenceCause l n) (AppliesChanges shapes changes (Err r)) x z
step_off shapes changes at i ids d r changed l m n x y z place is below came later later' g h =
    goes_two (Leads shapes changes i ids) (ChangesOne shapes at d changed) (AppliesChanges shapes changes (Err r))
    (λ a b c so one. breaks shapes changes i ids d r a b c below so
    (subst (λ e. ChangesOne shapes i e (Refused r) b c) is (subst (λ k. ChangesOne shapes k d (Refused r) b c) place (subst (λ e. ChangesOne shapes at d e b c) came one))))
    l m n later later' x y z g h
