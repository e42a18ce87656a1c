-- From what the framer found of the bytes that came to what the whole rest of the conversation begins with.
use Rattle.std.proofs.Common.{◌≡◌, ℕ, ◌<◌, ◌≤◌, ◌⊎◌, inl, inr, false, true, List, [], ◌∷◌, ◌++◌, Some, None, Result, Ok, Err, IfOk, OnErr, length, refl, ap, sym, ◌∙◌, subst, append_assoc, arith}
use Rattle.std.proofs.lemmas.List.{append-nil, append_cancel_left, length-append}
use Rattle.fx_number.specs.declared.memory.Memory.{Memory}
use Rattle.app_wire.specs.Doorway.{Doorway, DoorsRead, DoorsTake}
use Rattle.app_wire.specs.Framing.{Refuses, Feeds, Framing, IsStillOpen, refused}
use Rattle.app_wire.specs.NextRequest.{Begins, frame_found, FindsNext, HasCode, Keeps, ReadsLittle}
use Rattle.app_wire.specs.declared.framer.Fed.{Fed}
use Rattle.app_wire.specs.declared.framer.Fed.TheVariants as fed
use Rattle.app_wire.specs.declared.next.Found.{Found}
use Rattle.app_wire.specs.declared.next.Found.TheVariants as next
use Rattle.app_wire.proofs.Doorways.{takes_join, takes_none}
use Rattle.app_wire.proofs.Stands.{whole_more, refusal_more}

-- what was found, where it is another way of saying it
begins_as : (found at : Found) (rest came held' : List ℕ) → Some at ≡ Some found → Begins at rest came held' → Begins found rest came held'
begins_as found at rest came held' e h = let same : at ≡ found = cc in subst (λ x. Begins x rest came held') same h

-- what came and what is unread make up the rest of the conversation
pub rest_of : (held read : List ℕ) (a b : Doorway) → DoorsTake read a b → (held ++ read) ++ b.unread ≡ held ++ a.unread
rest_of held read a b t = append_assoc held read b.unread ∙ ap (λ s. held ++ s) (sym t.front)

-- of the bytes that came the framer found this
begins : (answer : Result Fed Memory) (found : Found) (came unread held' : List ℕ) → IfOk answer (λ answer. Feeds came answer held') → frame_found answer ≡ Some found
    → OnErr answer (0 < length came) → Begins found (came ++ unread) came held'
begins (Ok fed.Need) found came unread held' h e some = cc
begins (Ok (fed.Whole request)) found came unread held' h e some =
    begins_as found (next.Whole request) (came ++ unread) came held' e (h.0, whole_more unread h.1, h.1.within, h.2)
begins (Ok (fed.Refused code)) found came unread held' h e some =
    begins_as found (next.Refused code) (came ++ unread) came held' e (refusal_more came unread true code h.0, h.1)
begins (Err error) found came unread held' h e some =
    begins_as found next.Memory (came ++ unread) came held' e (omega (arith, length-append came unread, some))

pub found_next : (answer : Result Fed Memory) (found : Found) (came held' : List ℕ) → IfOk answer (λ answer. Feeds came answer held') → frame_found answer ≡ Some found
    → OnErr answer (0 < length came) → (held : List ℕ) (a b : Doorway) → Keeps held came a b → ((read : List ℕ) → came ≡ held ++ read → ReadsLittle held read) → FindsNext found held held' a b
found_next answer found came held' h e some held a b k little = record {
  read = k.read;
  takes = k.takes;
  little = little k.read k.held_is;
  begins = subst (λ rest. Begins found rest (held ++ k.read) held') (rest_of held k.read a b k.takes)
      (subst (λ c. Begins found (c ++ b.unread) c held') k.held_is (begins answer found came b.unread held' h e some));
}

-- nothing was read yet
pub keeps_none : (held : List ℕ) (a : Doorway) → Keeps held held a a
keeps_none held a = record { read = []; held_is = sym (append-nil held); takes = takes_none a }

-- what is held now is what came
pub keeps_as : (first came held' : List ℕ) (a b : Doorway) → held' ≡ came → Keeps first came a b → Keeps first held' a b
keeps_as first came held' a b e k = record { read = k.read; held_is = e ∙ k.held_is; takes = k.takes }

pub none_little : (held read : List ℕ) → held ≡ held ++ read → ReadsLittle held read
none_little held [] e = inl refl
none_little held (x ∷ xs) e = absurd (omega (arith, ap length e, length-append held (x ∷ xs)))

-- after a read: what was read is held too
pub after_read : (first held bytes : List ℕ) (room : ℕ) (a b c : Doorway) → Keeps first held a b → DoorsRead bytes room b c → Keeps first (held ++ bytes) a c
after_read first held bytes room a b c k r = record {
  read = k.read ++ bytes;
  held_is = ap (λ s. s ++ bytes) k.held_is ∙ append_assoc first k.read bytes;
  takes = takes_join k.read bytes a b c k.takes r.takes;
}

-- what is held, where nothing is left to read
all_read : (held held' : List ℕ) (a b : Doorway) → Keeps held held' a b → b.unread ≡ [] → held' ≡ held ++ a.unread
all_read held held' a b k none = sym (append-nil held') ∙ ap (λ u. held' ++ u) (sym none) ∙ ap (λ h. h ++ b.unread) k.held_is ∙ rest_of held k.read a b k.takes

open_little : (held held' : List ℕ) (a b : Doorway) (k : Keeps held held' a b) → IsStillOpen held' → ReadsLittle held k.read
open_little held held' a b k is_open = inr (k.read, [], subst IsStillOpen k.held_is is_open, omega arith, sym (append-nil k.read))

-- no request was begun, where none is cut short
none_begun : (held : List ℕ) → IsStillOpen held → (Framing held true (refused 6) → ⊥) → held ≡ []
none_begun held (inl none) whole_so_far = none
none_begun held (inr need) whole_so_far = absurd (whole_so_far (inr (inr (inr (inr (inr (refl, refl, need.1)))))))

-- the end of the input came, and a request is cut short, or none was begun
pub found_cut : (held held' bytes : List ℕ) (room : ℕ) → bytes ≡ [] → IsStillOpen held' → Framing held' true (refused 6) → 0 < room → (a b c : Doorway) → Keeps held held' a b → DoorsRead bytes room b c → FindsNext (next.Refused 6) held held' a c
found_cut held held' bytes room none is_open cut some a b c k r =
    let more : Keeps held held' a c = keeps_as held (held' ++ bytes) held' a c (sym (ap (λ s. held' ++ s) none ∙ append-nil held')) (after_read held held' bytes room a b c k r) in
    let whole = all_read held held' a c more (r.end (ap length none) some) in
    record {
      read = more.read;
      takes = more.takes;
      little = open_little held held' a c more is_open;
      begins = (subst (λ bytes. Framing bytes true (refused 6)) whole cut, more.held_is);
    }

pub found_quiet : (held held' bytes : List ℕ) (room : ℕ) → bytes ≡ [] → IsStillOpen held' → (Framing held' true (refused 6) → ⊥) → 0 < room → (a b c : Doorway) → Keeps held held' a b → DoorsRead bytes room b c → FindsNext next.Quiet held held' a c
found_quiet held held' bytes room none is_open whole_so_far some a b c k r =
    let more : Keeps held held' a c = keeps_as held (held' ++ bytes) held' a c (sym (ap (λ s. held' ++ s) none ∙ append-nil held')) (after_read held held' bytes room a b c k r) in
    let quiet = none_begun held' is_open whole_so_far in
    let whole = all_read held held' a c more (r.end (ap length none) some) in
    record {
      read = more.read;
      takes = more.takes;
      little = open_little held held' a c more is_open;
      begins = (sym whole ∙ quiet, more.held_is);
    }

pub still_open : (answer : Result Fed Memory) (came held' : List ℕ) → IfOk answer (λ answer. Feeds came answer held') → frame_found answer ≡ None → IsStillOpen held' × (held' ≡ came)
still_open (Ok fed.Need) came held' h e = (subst IsStillOpen (sym h.1) h.0, h.1)
still_open (Ok (fed.Whole request)) came held' h e = cc
still_open (Ok (fed.Refused code)) came held' h e = cc
still_open (Err error) came held' h e = cc

-- and what was held before it was open
pub little_after : (first held bytes : List ℕ) (a b : Doorway) → Keeps first held a b → IsStillOpen held → length bytes ≤ 512 → (read : List ℕ) → held ++ bytes ≡ first ++ read → ReadsLittle first read
little_after first held bytes a b k open_before short read e =
    inr (k.read, bytes, subst IsStillOpen k.held_is open_before, short, append_cancel_left first read (k.read ++ bytes) (sym e ∙ ap (λ s. s ++ bytes) k.held_is ∙ append_assoc first k.read bytes))

numbered : (bytes : List ℕ) (code : ℕ) → Refuses bytes false code → (code ≡ 1) ⊎ (code ≡ 2) ⊎ (code ≡ 3) ⊎ (code ≡ 4) ⊎ (code ≡ 5) ⊎ (code ≡ 6)
numbered bytes code (inl h) = inl h.0
numbered bytes code (inr (inl h)) = inr (inl h.0)
numbered bytes code (inr (inr (inl h))) = inr (inr (inl h.0))
numbered bytes code (inr (inr (inr (inl h)))) = inr (inr (inr (inl h.0)))
numbered bytes code (inr (inr (inr (inr (inl h))))) = inr (inr (inr (inr (inl h.0))))
numbered bytes code (inr (inr (inr (inr (inr h))))) = inr (inr (inr (inr (inr h.0))))

code_as : (found at : Found) → Some at ≡ Some found → HasCode at → HasCode found
code_as found at e h = let same : at ≡ found = cc in subst HasCode same h

pub found_code : (answer : Result Fed Memory) (found : Found) (came held' : List ℕ) → IfOk answer (λ answer. Feeds came answer held') → frame_found answer ≡ Some found → HasCode found
found_code (Ok fed.Need) found came held' h e = cc
found_code (Ok (fed.Whole request)) found came held' h e = code_as found (next.Whole request) e tt
found_code (Ok (fed.Refused code)) found came held' h e = code_as found (next.Refused code) e (numbered came code h.0)
found_code (Err error) found came held' h e = code_as found next.Memory e tt
