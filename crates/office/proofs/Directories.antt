-- Things by their names: which are found, and which are left.
use Rattle.std.proofs.Common.{◌≡◌, ◌≢◌, ℕ, zero, suc, Bool, true, false, List, [], ◌∷◌, ◌++◌, Option, Some, None, refl, ap, sym, ◌∙◌, subst, arith}
use Rattle.std.specs.Prelude.{map, option_map, slice_set}
use Rattle.std.proofs.lemmas.Grind.{common_steps}
use Rattle.numbered_requests.specs.Checked.{KeepsReply, SessionsKeepReplies}
use Rattle.numbered_requests.specs.Directory.{find, is_named, put_named, put_at}
use Rattle.numbered_requests.specs.declared.directory.Named.{Named}
use Rattle.numbered_requests.proofs.Directories.{find_here, find_past, same_bytes}
use Rattle.std.specs.List.{AllByRecursion, position}
use Rattle.fx_core.specs.declared.names.Names.{Names}
use Rattle.session_requests.specs.Scenes.{quiet, unasked}
use Rattle.session_state.specs.CarriedOver.{carried_over}
use Rattle.session_state.specs.Carrying.{carried}
use Rattle.session_state.specs.Changes.{FitsNames}
use Rattle.session_state.specs.Sessions.{SessionState}
use Rattle.office.specs.DeskEdits.{all_carried}
use Rattle.office.specs.Replacing.{all_over}
use Rattle.session_views.specs.Shows.{LiveSessionsFit}
use Rattle.office.specs.Sessions.{sessions_without}

pub without_here : (T : Type 0) (name : List ℕ) (n : Named T) (ns : List (Named T)) → is_named name n ≡ true → sessions_without name (n ∷ ns) ≡ sessions_without name ns
without_here T name n ns e = grind (arith, common_steps, e)

pub without_past : (T : Type 0) (name : List ℕ) (n : Named T) (ns : List (Named T)) → is_named name n ≡ false → sessions_without name (n ∷ ns) ≡ n ∷ sessions_without name ns
without_past T name n ns e = grind (arith, common_steps, e)

-- the others are found as before
pub find_without : (T : Type 0) (name other : List ℕ) (list : List (Named T)) → name ≢ other → find other (sessions_without name list) ≡ find other list
find_without T name other [] differ = refl
find_without T name other (n ∷ ns) differ = by (is_named name n) refl (is_named other n) refl (find_without T name other ns differ)
  where
    by : (b : Bool) → is_named name n ≡ b → (d : Bool) → is_named other n ≡ d → find other (sessions_without name ns) ≡ find other ns → find other (sessions_without name (n ∷ ns)) ≡ find other (n ∷ ns)
    by true e true f rest = absurd (differ (sym (same_bytes n.name name e) ∙ same_bytes n.name other f))
    by true e false f rest = ap (λ (l : List (Named T)). find other l) (without_here T name n ns e) ∙ rest ∙ sym (find_past T other n ns f)
    by false e true f rest = ap (λ (l : List (Named T)). find other l) (without_past T name n ns e) ∙ find_here T other n (sessions_without name ns) f ∙ sym (find_here T other n ns f)
    by false e false f rest = ap (λ (l : List (Named T)). find other l) (without_past T name n ns e) ∙ find_past T other n (sessions_without name ns) f ∙ rest ∙ sym (find_past T other n ns f)

-- ---- that are carried

-- each became another, and is found by its name as before
find_changed : (f : SessionState → SessionState) (name : List ℕ) (list : List (Named SessionState)) → find name (map (λ (n : Named SessionState). record n { it = f n.it }) list) ≡ option_map f (find name list)
find_changed f name [] = refl
find_changed f name (n ∷ ns) = by (is_named name n) refl (find_changed f name ns)
  where
    after : Named SessionState
    after = record n { it = f n.it }

    others : List (Named SessionState)
    others = map (λ (x : Named SessionState). record x { it = f x.it }) ns

    by : (b : Bool) → is_named name n ≡ b → find name others ≡ option_map f (find name ns) → find name (after ∷ others) ≡ option_map f (find name (n ∷ ns))
    by true e rest = find_here SessionState name after others e ∙ sym (ap (option_map f) (find_here SessionState name n ns e))
    by false e rest = find_past SessionState name after others e ∙ rest ∙ sym (ap (option_map f) (find_past SessionState name n ns e))

pub find_carried : (old new : Names) (name : List ℕ) (list : List (Named SessionState)) → find name (all_carried old new list) ≡ option_map (carried old new) (find name list)
find_carried old new name list = find_changed (carried old new) name list

pub find_over : (old new : Names) (name : List ℕ) (list : List (Named SessionState)) → find name (all_over old new list) ≡ option_map (carried_over old new) (find name list)
find_over old new name list = find_changed (carried_over old new) name list

-- ---- all of them

-- what holds of all things holds of the one that is found
pub holds_of_found : (T : Type 0) (P : Named T → Type 0) (name : List ℕ) (list : List (Named T)) (it : T) → AllByRecursion P list → find name list ≡ Some it
    → (n : Named T) × P n × (n.it ≡ it)
holds_of_found T P name [] it all found = cc
holds_of_found T P name (n ∷ ns) it all found = by (is_named name n) refl (λ past. holds_of_found T P name ns it all.1 past)
  where
    by : (b : Bool) → is_named name n ≡ b → (find name ns ≡ Some it → (x : Named T) × P x × (x.it ≡ it)) → (x : Named T) × P x × (x.it ≡ it)
    by true e rest = (n, all.0, let same : Some n.it ≡ Some it = sym (find_here T name n ns e) ∙ found in cc)
    by false e rest = rest (sym (find_past T name n ns e) ∙ found)

pub found_fits : (names : Names) (sessions : List (Named SessionState)) (name : List ℕ) (s : SessionState) → LiveSessionsFit names sessions → find name sessions ≡ Some s → FitsNames names s
found_fits names sessions name s fit found =
    let h = holds_of_found SessionState (λ (n : Named SessionState). FitsNames names n.it) name sessions s fit found in
    subst (λ (x : SessionState). FitsNames names x) h.2 h.1

-- what holds of all holds of those that are left
pub without_all : (T : Type 0) (P : Named T → Type 0) (name : List ℕ) (list : List (Named T)) → AllByRecursion P list → AllByRecursion P (sessions_without name list)
without_all T P name [] all = all
without_all T P name (n ∷ ns) all = by (is_named name n) refl (without_all T P name ns all.1)
  where
    by : (b : Bool) → is_named name n ≡ b → AllByRecursion P (sessions_without name ns) → AllByRecursion P (sessions_without name (n ∷ ns))
    by true e rest = subst (λ (l : List (Named T)). AllByRecursion P l) (sym (without_here T name n ns e)) rest
    by false e rest = subst (λ (l : List (Named T)). AllByRecursion P l) (sym (without_past T name n ns e)) (all.0, rest)

-- what holds of all and of a thing holds of all with this thing
all_more : (T : Type 0) (P : Named T → Type 0) (xs : List (Named T)) (x : Named T) → AllByRecursion P xs → P x → AllByRecursion P (xs ++ x ∷ [])
all_more T P [] x h p = (p, tt)
all_more T P (y ∷ ys) x h p = (h.0, all_more T P ys x h.1 p)

all_set : (T : Type 0) (P : Named T → Type 0) (xs : List (Named T)) (k : ℕ) (x : Named T) → AllByRecursion P xs → P x → AllByRecursion P (slice_set xs k x)
all_set T P [] k x h p = h
all_set T P (y ∷ ys) zero x h p = (p, h.1)
all_set T P (y ∷ ys) (suc k) x h p = (h.0, all_set T P ys k x h.1 p)

all_at : (T : Type 0) (P : Named T → Type 0) (o : Option ℕ) (x : Named T) (xs : List (Named T)) → AllByRecursion P xs → P x → AllByRecursion P (put_at o x xs)
all_at T P None x xs h p = all_more T P xs x h p
all_at T P (Some k) x xs h p = all_set T P xs k x h p

pub put_all : (T : Type 0) (P : Named T → Type 0) (name : List ℕ) (it : T) (list : List (Named T)) → AllByRecursion P list → P (record { name = name; it = it }) → AllByRecursion P (put_named name it list)
put_all T P name it list all is = all_at T P (position (is_named name) list) (record { name = name; it = it }) list all is

-- a session that was just opened keeps no reply yet
pub begun_keep : (name : List ℕ) (s end : SessionState) (xs ys zs : List (Named SessionState)) → s ≡ unasked (quiet end) → SessionsKeepReplies xs → ys ≡ xs → zs ≡ put_named name s ys → SessionsKeepReplies zs
begun_keep name s end xs ys zs left keep same h =
    let none : s.kept.last ≡ 0 = ap (λ (x : SessionState). x.kept.last) left in
    subst (λ (l : List (Named SessionState)). SessionsKeepReplies l) (sym h)
    (put_all SessionState (λ (n : Named SessionState). KeepsReply n.it.kept) name s ys (subst (λ (l : List (Named SessionState)). SessionsKeepReplies l) (sym same) keep)
    (λ one. absurd (omega (arith, one, none))))
