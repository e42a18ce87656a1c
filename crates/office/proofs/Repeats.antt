-- Edits that come again, beside other desks, and with what outcomes.
use Rattle.std.proofs.Common.{◌≡◌, ◌≢◌, ◌⊎◌, inl, inr, ℕ, Bool, false, if◌then◌else◌, unwrap_or, List, Option, Some, Result, Ok, Err, refl, ap, sym, ◌∙◌, subst}
use Rattle.app_cells.specs.declared.app.App.{App}
use Rattle.serde_json.specs.Data.{Data}
use Rattle.app_loader.specs.Edits.{IsOneEdit, IsOneEdited, IsOneEditRefusal, JudgedEdit}
use Rattle.app_loader.specs.Verdicts.{IsSameApp}
use Rattle.fx_core.specs.declared.broken.Broken.{Broken}
use Rattle.numbered_requests.specs.Bodies.{edit_in}
use Rattle.numbered_requests.specs.Checks.{IsLastAsked, checks, desk_of, is_directory_full, kept_of}
use Rattle.numbered_requests.specs.Directory.{find}
use Rattle.numbered_requests.specs.declared.directory.Named.{Named}
use Rattle.numbered_requests.specs.declared.edit.Edit.{Edit}
use Rattle.numbered_requests.proofs.Again.{comes_again}
use Rattle.numbered_requests.proofs.Directories.{find_other, found_among}
use Rattle.session_state.specs.Once.{LastRequest, nobody}
use Rattle.fx_core.specs.declared.names.Names.{Names}
use Rattle.office.specs.DeskEdits.{EditEnds, MakesEdit, Parts, EditsChecked, accepted_edit_reply, all_carried, edit_checks, edited}
use Rattle.office.specs.DeskEditLaws.{EditActsOnce, RefusesAlike, CarriesSessions, IsOneEditOutcome, EditLeavesOthers}

has_room : (name : List ℕ) (k : LastRequest) (desks : List (Named LastRequest)) → find name desks ≡ Some k → is_directory_full name desks ≡ false
has_room name k desks e = rw (found_among LastRequest name k desks e) refl

-- a desk of which a request was accepted is a caller
known : (name : List ℕ) (k : LastRequest) (desks : List (Named LastRequest)) → find name desks ≡ Some k → desk_of name desks ≡ Ok k
known name k desks e =
    ap (λ (b : Bool). if b then Err 12 else Ok (kept_of name desks)) (has_room name k desks e) ∙ ap (λ (o : Option LastRequest). Ok (unwrap_or o nobody)) e

-- its last request, when it comes again, gets the kept reply by the checks
pub desk_again : (T : Type 0) (asked : Data → Option T) (number : T → ℕ) (desks : List (Named LastRequest)) (name : List ℕ) (k : LastRequest) → find name desks ≡ Some k → IsLastAsked T asked number k
    → checks asked number (desk_of name desks) k.body ≡ Err k.reply
desk_again T asked number desks name k found last =
    ap (λ (c : Result LastRequest ℕ). checks asked number c k.body) (known name k desks found) ∙ comes_again T asked number k last

checks_again : (desks : List (Named LastRequest)) (name : List ℕ) (k : LastRequest) → find name desks ≡ Some k → IsLastAsked Edit edit_in (λ (e : Edit). e.seq) k → edit_checks desks name k.body ≡ Err k.reply
checks_again desks name k found last = desk_again Edit edit_in (λ (e : Edit). e.seq) desks name k found last

pub acts_once : EditActsOnce
acts_once name said k p p' found last h =
    subst (λ r. EditsChecked name k.body r p said p') (checks_again p.desks name k found last) h

ends_leave : (name other body : List ℕ) (seq : ℕ) (v : Result App (List Broken)) (p p' : Parts) (said : List ℕ) → name ≢ other
    → EditEnds name body seq v p said p' → find other p'.desks ≡ find other p.desks
ends_leave name other body seq (Ok b) p p' said differ h =
    ap (λ (x : Parts). find other x.desks) h.1 ∙ find_other LastRequest name other (record { last = seq; body = body; reply = accepted_edit_reply seq }) p.desks differ
ends_leave name other body seq (Err bs) p p' said differ h = ap (λ (x : Parts). find other x.desks) h.1

posts_leave : (name other body said : List ℕ) (r : Result Edit (List ℕ)) (p p' : Parts) → name ≢ other
    → EditsChecked name body r p said p' → find other p'.desks ≡ find other p.desks
posts_leave name other body said (Err words) p p' differ h = ap (λ (x : Parts). find other x.desks) h.1
posts_leave name other body said (Ok e) p p' differ h = ends_leave name other body e.seq h.verdict p p' said differ h.ends

pub leaves_others : EditLeavesOthers
leaves_others name other body said p p' differ h = posts_leave name other body said (edit_checks p.desks name body) p p' differ h

-- ---- the sessions

abbrev Carries : Parts → Parts → Type 0
Carries p p' = ((p'.app ≡ p.app) × (p'.sessions ≡ p.sessions)) ⊎ (p'.sessions ≡ all_carried p.app.names p'.app.names p.sessions)

ends_carry : (name body : List ℕ) (seq : ℕ) (v : Result App (List Broken)) (p p' : Parts) (said : List ℕ) → EditEnds name body seq v p said p' → Carries p p'
ends_carry name body seq (Ok b) p p' said h =
    inr (ap (λ (x : Parts). x.sessions) h.1 ∙ ap (λ (x : App). all_carried p.app.names x.names p.sessions) (sym (ap (λ (x : Parts). x.app) h.1)))
ends_carry name body seq (Err bs) p p' said h = inl (ap (λ (x : Parts). x.app) h.1, ap (λ (x : Parts). x.sessions) h.1)

posts_carry : (name body said : List ℕ) (r : Result Edit (List ℕ)) (p p' : Parts) → EditsChecked name body r p said p' → Carries p p'
posts_carry name body said (Err words) p p' h = inl (ap (λ (x : Parts). x.app) h.1, ap (λ (x : Parts). x.sessions) h.1)
posts_carry name body said (Ok e) p p' h = ends_carry name body e.seq h.verdict p p' said h.ends

pub carries_sessions : CarriesSessions
carries_sessions name body said p p' h = posts_carry name body said (edit_checks p.desks name body) p p' h

-- ---- outcomes
abbrev IsOne : Parts → List ℕ → Parts → List ℕ → Parts → Type 0
IsOne p said q said' q' = ((said ≡ said') × (q' ≡ record q { app = q'.app }) × IsSameApp q.app q'.app) ⊎ RefusesAlike p said q said' q'

itself : (a : App) → IsSameApp a a
itself a = record { cells = refl; names = refl; functions = refl; limit = refl }

pub same_app : (a b c d : App) → a ≡ c → b ≡ d → IsSameApp a b → IsSameApp c d
same_app a b c d e k h = subst (λ (x : App). IsSameApp x d) e (subst (λ (x : App). IsSameApp a x) k h)

-- sessions go over to two apps alike that mean the same
same_parts : (name body : List ℕ) (seq : ℕ) (x y : App) (p q q' : Parts) → IsSameApp x y → q ≡ edited name body seq x p → q' ≡ edited name body seq y p → q' ≡ record q { app = q'.app }
same_parts name body seq x y p q q' same e k =
    let desks : q'.desks ≡ q.desks = ap (λ (r : Parts). r.desks) k ∙ sym (ap (λ (r : Parts). r.desks) e) in
    let names : all_carried p.app.names y.names p.sessions ≡ all_carried p.app.names x.names p.sessions = ap (λ (n : Names). all_carried p.app.names n p.sessions) same.names in
    let sessions : q'.sessions ≡ q.sessions = ap (λ (r : Parts). r.sessions) k ∙ names ∙ sym (ap (λ (r : Parts). r.sessions) e) in
    λ i. record { app = q'.app; sessions = sessions i; desks = desks i }

alone : (p q q' : Parts) → q ≡ p → q' ≡ p → q' ≡ record q { app = q'.app }
alone p q q' e k = k ∙ sym e ∙ ap (λ (a : App). record q { app = a }) (ap (λ (r : Parts). r.app) (e ∙ sym k))

edits_one : IsOneEdit → IsOneEdited → IsOneEditRefusal → (name body said said' : List ℕ) (e : Edit) (p q q' : Parts)
    → MakesEdit name body e p said q → MakesEdit name body e p said' q' → IsOne p said q said' q'
edits_one law one alike name body said said' e p q q' h k = by h.verdict k.verdict h.judged k.judged h.ends k.ends
  where
    by : (v w : Result App (List Broken)) → JudgedEdit p.app e.cell e.text v → JudgedEdit p.app e.cell e.text w
        → EditEnds name body e.seq v p said q → EditEnds name body e.seq w p said' q' → IsOne p said q said' q'
    by (Ok x) (Ok y) i j f g =
        let same = one p.app x y e.cell e.text i j in
        inl (f.0 ∙ sym g.0, same_parts name body e.seq x y p q q' same f.1 g.1, same_app x y q.app q'.app (sym (ap (λ (r : Parts). r.app) f.1)) (sym (ap (λ (r : Parts). r.app) g.1)) same)
    by (Ok x) (Err ys) i j f g = absurd (law p.app x e.cell e.text ys i j)
    by (Err xs) (Ok y) i j f g = absurd (law p.app y e.cell e.text xs j i)
    by (Err xs) (Err ys) i j f g = inr (record { breaks = xs; breaks' = ys; same = alike p.app e.cell e.text xs ys i j; first = f; second = g })

posts_one : IsOneEdit → IsOneEdited → IsOneEditRefusal → (name body said said' : List ℕ) (r : Result Edit (List ℕ)) (p q q' : Parts)
    → EditsChecked name body r p said q → EditsChecked name body r p said' q' → IsOne p said q said' q'
posts_one law one alike name body said said' (Err words) p q q' h k =
    inl (h.0 ∙ sym k.0, alone p q q' h.1 k.1, same_app p.app p.app q.app q'.app (sym (ap (λ (r : Parts). r.app) h.1)) (sym (ap (λ (r : Parts). r.app) k.1)) (itself p.app))
posts_one law one alike name body said said' (Ok e) p q q' h k = edits_one law one alike name body said said' e p q q' h k

pub one_outcome : IsOneEdit → IsOneEdited → IsOneEditRefusal → IsOneEditOutcome
one_outcome law one alike name body said said' p q q' h k = posts_one law one alike name body said said' (edit_checks p.desks name body) p q q' h k
