-- How a conversation goes on by one reply, and how it ends.
use Rattle.std.proofs.Common.{◌≡◌, ◌≢◌, ℕ, IsTrue, suc, zero, ◌+◌, ◌<◌, ◌≤◌, ◌⊎◌, inl, inr, Bool, true, false, List, [], ◌∷◌, ◌++◌, Option, length, drop, refl, ap, sym, ◌∙◌, subst, append_assoc, arith}
use Rattle.std.proofs.lemmas.List.{append-nil, drop-append-le, length-append, map-append}
use Rattle.fx_base.specs.Silence.{IsLater, Marks}
use Rattle.fx_base.specs.Telling.{Tells}
use Rattle.app_wire.specs.Doorway.{Doorway, DoorsTake, Talk, Writes, WritesPart, with_last, with_taken, with_written}
use Rattle.app_wire.specs.Framing.{Framing, asked, whole}
use Rattle.app_wire.specs.Moments.{Tick, Ticks}
use Rattle.app_wire.specs.NextRequest.{FindsNext}
use Rattle.app_wire.specs.ReplyBytes.{is_fixed}
use Rattle.app_wire.specs.declared.framer.Request.{Request}
use Rattle.app_wire.specs.declared.next.Found.{Found}
use Rattle.app_wire.specs.declared.next.Found.TheVariants as next
use Rattle.app_wire.proofs.Doorways.{last_join, last_same}
use Rattle.office.specs.State.{OfficeState}
use Rattle.office.proofs.Taken.{little}
use Rattle.office.specs.Step.{AnswersRequest}
use Rattle.office.specs.Answers.{Converses, Exchange, Frames, GoesOn, IsAnswerCount, IsConversationOver, IsSpent, Plays, SaysLastWords, Talked, TakesLittle, moments_of, most_read, most_requests, said_in, with_bytes}
use Rattle.office.specs.declared.converse.ConvEnd.{ConvEnd}
use Rattle.office.specs.declared.converse.ConvEnd.TheVariants.{Ended, Faulted, Full}

-- two changes that are told, one after the other
pub two : {P Q R : Doorway → Doorway → Type 0} {x y z : Option Doorway} → ((a b c : Doorway) → P a b → Q b c → R a c) → Tells P x y → Tells Q y z → Tells R x z
two join first second a e =
    let one = first a e in
    let other = second one.0 one.1 in
    (other.0, other.1, join a one.0 other.0 one.2 other.2)

-- three of them
pub three : {P Q R T : Doorway → Doorway → Type 0} {w x y z : Option Doorway} → ((a b c d : Doorway) → P a b → Q b c → R c d → T a d) → Tells P w x → Tells Q x y → Tells R y z → Tells T w z
three join first second third a e =
    let one = first a e in
    let other = second one.0 one.1 in
    let last = third other.0 other.1 in
    (last.0, last.1, join a one.0 other.0 last.0 one.2 other.2 last.2)

-- So far these were exchanged, and this is held behind them.
pub record Goes (xs : List Exchange) (held : List ℕ) (a b : Doorway) : Type 0 where
  pub taken : List ℕ
  pub frames : Frames a.unread xs (held ++ b.unread)
  pub few : length held ≤ most_read
  pub talked : Talked taken (said_in xs) a b

-- one exchange more
pub plays_more : (old : OfficeState) (before : Marks) (xs : List Exchange) (mid : OfficeState) (between : Marks) → Plays old before xs mid between
    → (x : Exchange) → IsLater between x.marks → AnswersRequest mid between x.moment x.asked x.said x.marks x.state
    → Plays old before (xs ++ x ∷ []) x.state x.marks
plays_more old before [] mid between h x later answered = (
  subst (λ b. IsLater b x.marks) h.1 later,
  subst (λ b. AnswersRequest old b x.moment x.asked x.said x.marks x.state) h.1 (subst (λ m. AnswersRequest m between x.moment x.asked x.said x.marks x.state) h.0 answered),
  (refl, refl),
)
plays_more old before (y ∷ ys) mid between h x later answered = (h.0, h.1, plays_more y.state y.marks ys mid between h.2 x later answered)

frames_more : (bytes : List ℕ) (xs : List Exchange) (left : List ℕ) → Frames bytes xs left → (x : Exchange) (len : ℕ) → Framing left true (whole x.asked len) → Frames bytes (xs ++ x ∷ []) (drop len left)
frames_more bytes [] left h x len first = (len, subst (λ l. Framing l true (whole x.asked len)) h first, ap (drop len) h)
frames_more bytes (y ∷ ys) left h x len first = (h.0, h.1, frames_more (drop h.0 bytes) ys left h.2 x len first)

said_more : (xs : List Exchange) (x : Exchange) → said_in (xs ++ x ∷ []) ≡ said_in xs ++ x.said
said_more [] x = append-nil x.said
said_more (y ∷ ys) x = ap (λ s. y.said ++ s) (said_more ys x) ∙ sym (append_assoc y.said (said_in ys) x.said)

pub length_more : (xs : List Exchange) (x : Exchange) (n : ℕ) → length xs ≡ n → length (xs ++ x ∷ []) ≡ n + 1
length_more xs x n e = length-append xs (x ∷ []) ∙ omega (arith, e)

tick_more : (old : Option (List ℕ)) (moments : List ℕ) (mid new : Option (List ℕ)) (m : ℕ) → Ticks old moments mid → Tick m mid new → Ticks old (moments ++ m ∷ []) new
tick_more old [] mid new m h k = (new, subst (λ o. Tick m o new) h k, refl)
tick_more old (x ∷ xs) mid new m h k = (h.0, h.1, tick_more h.0 xs mid new m h.2 k)

pub ticks_more : (old : Option (List ℕ)) (xs : List Exchange) (mid new : Option (List ℕ)) (x : Exchange) → Ticks old (moments_of xs) mid → Tick x.moment mid new → Ticks old (moments_of (xs ++ x ∷ [])) new
ticks_more old xs mid new x h k =
    subst (λ ms. Ticks old ms new) (sym (map-append (λ (y : Exchange). y.moment) xs (x ∷ []))) (tick_more old (moments_of xs) mid new x.moment h k)

-- more was read
read_join : (taken written read : List ℕ) (t : Talk) → with_taken read (with_bytes taken written t) ≡ with_bytes (taken ++ read) written t
read_join taken written read t = ap (λ (s : List ℕ). record t { taken = s; written = t.written ++ written }) (append_assoc t.taken taken read)

talked_read : (taken written read : List ℕ) (a b c : Doorway) → Talked taken written a b → DoorsTake read b c → Talked (taken ++ read) written a c
talked_read taken written read a b c t r = record {
  front = t.front ∙ ap (λ u. taken ++ u) r.front ∙ sym (append_assoc taken read c.unread);
  is = r.rest ∙ ap (λ (d : Doorway). record d { unread = c.unread; begun = with_last (with_taken read) d.begun }) t.is
      ∙ ap (λ (ts : List Talk). record a { unread = c.unread; begun = ts }) (last_join (with_bytes taken written) (with_taken read) (with_bytes (taken ++ read) written) (read_join taken written read) a.begun);
}

-- what was written goes on
write_join : (taken written more : List ℕ) (t : Talk) → with_written more (with_bytes taken written t) ≡ with_bytes taken (written ++ more) t
write_join taken written more t = ap (λ (s : List ℕ). record t { taken = t.taken ++ taken; written = s }) (append_assoc t.written written more)

talked_more : (taken written more : List ℕ) (a b c : Doorway) → Talked taken written a b → Writes more b c → Talked taken (written ++ more) a c
talked_more taken written more a b c t w =
    let same : c.unread ≡ b.unread = ap (λ (x : Doorway). x.unread) w in
    record {
      front = t.front ∙ ap (λ u. taken ++ u) (sym same);
      is = w ∙ ap (λ (d : Doorway). record d { begun = with_last (with_written more) d.begun }) t.is
          ∙ ap (λ (ts : List Talk). record a { unread = b.unread; begun = ts }) (last_join (with_bytes taken written) (with_written more) (with_bytes taken (written ++ more)) (write_join taken written more) a.begun)
          ∙ ap (λ (u : List ℕ). record a { unread = u; begun = with_last (with_bytes taken (written ++ more)) a.begun }) (sym same);
    }

-- before anything came
bytes_none : (t : Talk) → with_bytes [] [] t ≡ t
bytes_none t = ap (λ (s : List ℕ). record t { taken = s; written = t.written ++ [] }) (append-nil t.taken) ∙ ap (λ (s : List ℕ). record t { written = s }) (append-nil t.written)

pub goes_first : (a : Doorway) → Goes [] [] a a
goes_first a = record {
  taken = [];
  frames = refl;
  few = omega arith;
  talked = record { front = refl; is = ap (λ (ts : List Talk). record a { begun = ts }) (sym (last_same (with_bytes [] []) bytes_none a.begun)) };
}

-- what is held and unread behind a request that was found
left_is : (held held' : List ℕ) (request : Request) (b c : Doorway) (f : FindsNext (next.Whole request) held held' b c) → drop f.begins.0 (held ++ b.unread) ≡ held' ++ c.unread
left_is held held' request b c f =
    ap (λ u. drop f.begins.0 (held ++ u)) f.takes.front ∙ ap (drop f.begins.0) (sym (append_assoc held f.read c.unread))
    ∙ drop-append-le f.begins.0 (held ++ f.read) c.unread f.begins.2 ∙ ap (λ h. h ++ c.unread) (sym f.begins.3)

few_held : (held held' : List ℕ) (request : Request) (b c : Doorway) → length held ≤ most_read → FindsNext (next.Whole request) held held' b c → length held' ≤ most_read
few_held held held' request b c few f =
    let whole = subst (λ u. Framing (held ++ u) true (whole (asked request) f.begins.0)) f.takes.front f.begins.1 in
    subst (λ h. length h ≤ most_read) (sym f.begins.3) (little held f.read c.unread (asked request) f.begins.0 few whole f.little)

-- a request was found: its exchange is that of a list with one more
frames_found : (xs : List Exchange) (x : Exchange) (held held' : List ℕ) (request : Request) → x.asked ≡ asked request → (a b c : Doorway)
    → Goes xs held a b → FindsNext (next.Whole request) held held' b c → Frames a.unread (xs ++ x ∷ []) (held' ++ c.unread)
frames_found xs x held held' request same a b c g f =
    subst (Frames a.unread (xs ++ x ∷ [])) (left_is held held' request b c f)
    (frames_more a.unread xs (held ++ b.unread) g.frames x f.begins.0 (subst (λ r. Framing (held ++ b.unread) true (whole r f.begins.0)) (sym same) f.begins.1))

pub goes_on : (xs : List Exchange) (x : Exchange) (held held' : List ℕ) (request : Request) → x.asked ≡ asked request → (a b c d : Doorway)
    → Goes xs held a b → FindsNext (next.Whole request) held held' b c → Writes x.said c d → Goes (xs ++ x ∷ []) held' a d
goes_on xs x held held' request same a b c d g f w =
    let unread : c.unread ≡ d.unread = sym (ap (λ (y : Doorway). y.unread) w) in
    record {
      taken = g.taken ++ f.read;
      frames = subst (λ u. Frames a.unread (xs ++ x ∷ []) (held' ++ u)) unread (frames_found xs x held held' request same a b c g f);
      few = few_held held held' request b c g.few f;
      talked = subst (λ out. Talked (g.taken ++ f.read) out a d) (sym (said_more xs x))
          (talked_more (g.taken ++ f.read) (said_in xs) x.said a c d (talked_read g.taken (said_in xs) f.read a b c g.talked f.takes) w);
    }

-- a reply that broke off
pub breaks_off : (one : Bool) (xs : List Exchange) (x : Exchange) (held held' : List ℕ) (request : Request) → x.asked ≡ asked request → (a b c d : Doorway)
    → Goes xs held a b → FindsNext (next.Whole request) held held' b c → WritesPart x.said c d → Converses one Faulted (xs ++ x ∷ []) a d
breaks_off one xs x held held' request same a b c d g f p =
    let unread : c.unread ≡ d.unread = sym (ap (λ (y : Doorway). y.unread) p.sent) in
    let talked = talked_more (g.taken ++ f.read) (said_in xs) p.part a c d (talked_read g.taken (said_in xs) f.read a b c g.talked f.takes) p.sent in
    record {
      taken = g.taken ++ f.read;
      written = said_in xs ++ p.part;
      talk = record {
        unread = d.unread;
        bytes_are = talked.front;
        left = held' ++ d.unread;
        frames = subst (λ u. Frames a.unread (xs ++ x ∷ []) (held' ++ u)) unread (frames_found xs x held held' request same a b c g f);
        ends = inr (inl (record { front = xs; last = x; xs_are = refl; part = p.part; cut = p.cut; written_is = refl; little = (held', refl, few_held held held' request b c g.few f) }));
      };
      talked = talked;
    }

-- doors that take one reply go on only before it
pub goes_on_before : (one : Bool) (xs : List Exchange) (n : ℕ) → length xs ≡ n → (0 < n → one ≡ false) → GoesOn one xs
goes_on_before true [] n e only = tt
goes_on_before true (x ∷ xs) n e only = let no : true ≡ false = only (omega (arith, e)) in cc
goes_on_before false xs n e only = tt

spent_over : (one : Bool) (xs : List Exchange) (left unread words : List ℕ) → GoesOn one xs → IsSpent left words → IsConversationOver one xs left unread words
spent_over true [] left unread words on spent = spent
spent_over true (x ∷ xs) left unread words on spent = absurd on
spent_over false xs left unread words on spent = spent

over_after_one : (xs : List Exchange) (x : Exchange) (left unread : List ℕ) → TakesLittle left unread → IsConversationOver true (xs ++ x ∷ []) left unread []
over_after_one [] x left unread few = (refl, few)
over_after_one (y ∷ ys) x left unread few = (refl, few)

-- after the one reply
pub ends_one : (one : Bool) (xs : List Exchange) (x : Exchange) (held held' : List ℕ) (request : Request) → one ≡ true → x.asked ≡ asked request → (a b c d : Doorway)
    → Goes xs held a b → FindsNext (next.Whole request) held held' b c → Writes x.said c d → Converses one Ended (xs ++ x ∷ []) a d
ends_one one xs x held held' request single same a b c d g f w =
    let on : Goes (xs ++ x ∷ []) held' a d = goes_on xs x held held' request same a b c d g f w in
    record {
      taken = on.taken;
      written = said_in (xs ++ x ∷ []);
      talk = record {
        unread = d.unread;
        bytes_are = on.talked.front;
        left = held' ++ d.unread;
        frames = on.frames;
        ends = (
          [],
          subst (λ o. IsConversationOver o (xs ++ x ∷ []) (held' ++ d.unread) d.unread []) (sym single) (over_after_one xs x (held' ++ d.unread) d.unread (held', refl, on.few)),
          sym (append-nil (said_in (xs ++ x ∷ []))),
        );
      };
      talked = on.talked;
    }

-- with last words, or a first part of them
pub ends_saying : (one : Bool) (end : ConvEnd) (xs : List Exchange) (found : Found) (held held' words : List ℕ) → GoesOn one xs → (a b c d : Doorway)
    → Goes xs held a b → FindsNext found held held' b c → IsSpent (held ++ b.unread) words → SaysLastWords end words c d → Converses one end xs a d
ends_saying one Ended xs found held held' words on a b c d g f spent w =
    let talked = talked_more (g.taken ++ f.read) (said_in xs) words a c d (talked_read g.taken (said_in xs) f.read a b c g.talked f.takes) w in
    record {
      taken = g.taken ++ f.read;
      written = said_in xs ++ words;
      talk = record {
        unread = d.unread;
        bytes_are = talked.front;
        left = held ++ b.unread;
        frames = g.frames;
        ends = (words, spent_over one xs (held ++ b.unread) d.unread words on spent, refl);
      };
      talked = talked;
    }
ends_saying one Faulted xs found held held' words on a b c d g f spent p =
    let talked = talked_more (g.taken ++ f.read) (said_in xs) p.part a c d (talked_read g.taken (said_in xs) f.read a b c g.talked f.takes) p.sent in
    record {
      taken = g.taken ++ f.read;
      written = said_in xs ++ p.part;
      talk = record {
        unread = d.unread;
        bytes_are = talked.front;
        left = held ++ b.unread;
        frames = g.frames;
        ends = inr (inr (record { on = on; words = words; spent = spent; part = p.part; cut = p.cut; written_is = refl }));
      };
      talked = talked;
    }
ends_saying one Full xs found held held' words on a b c d g f spent w = absurd w

-- at the end of the bytes
pub ends_quiet : (one : Bool) (xs : List Exchange) (held held' : List ℕ) → GoesOn one xs → (a b c : Doorway)
    → Goes xs held a b → FindsNext next.Quiet held held' b c → Converses one Ended xs a c
ends_quiet one xs held held' on a b c g f =
    let talked = talked_read g.taken (said_in xs) f.read a b c g.talked f.takes in
    record {
      taken = g.taken ++ f.read;
      written = said_in xs;
      talk = record {
        unread = c.unread;
        bytes_are = talked.front;
        left = held ++ b.unread;
        frames = g.frames;
        ends = ([], spent_over one xs (held ++ b.unread) c.unread [] on (inl (f.begins.0, refl)), sym (append-nil (said_in xs)));
      };
      talked = talked;
    }

-- in a read
pub breaks_reading : (one : Bool) (xs : List Exchange) (held held' : List ℕ) → GoesOn one xs → (a b c : Doorway)
    → Goes xs held a b → FindsNext next.Failed held held' b c → Converses one Faulted xs a c
breaks_reading one xs held held' on a b c g f =
    let talked = talked_read g.taken (said_in xs) f.read a b c g.talked f.takes in
    record {
      taken = g.taken ++ f.read;
      written = said_in xs;
      talk = record {
        unread = c.unread;
        bytes_are = talked.front;
        left = held ++ b.unread;
        frames = g.frames;
        ends = inl (record {
          on = on;
          held = held ++ f.read;
          left_is = ap (λ u. held ++ u) f.takes.front ∙ sym (append_assoc held f.read c.unread);
          begun = f.begins.0;
          written_is = refl;
        });
      };
      talked = talked;
    }

-- after the most requests
pub fills : (one : Bool) (xs : List Exchange) (held : List ℕ) (a b : Doorway) → Goes xs held a b → Converses one Full xs a b
fills one xs held a b g = record {
  taken = g.taken;
  written = said_in xs;
  talk = record { unread = b.unread; bytes_are = g.talked.front; left = held ++ b.unread; frames = g.frames; ends = (refl, (held, refl, g.few)) };
  talked = g.talked;
}

-- before any reply, where doors take one
none_before : (one : Bool) (n : ℕ) → (0 < n → one ≡ false) → one ≡ true → n ≡ 0
none_before one zero only single = refl
none_before one (suc k) only single = let no : false ≡ true = sym (only (omega arith)) ∙ single in absurd (cc)

-- how many were answered: before the most that may be
pub count_saying : (end : ConvEnd) (one : Bool) (n : ℕ) {m : ℕ} → m ≡ n → end ≢ Full → n < most_requests → (0 < n → one ≡ false) → IsAnswerCount end one m
count_saying Ended one n e other below only = (omega (arith, below, e), λ single. omega (arith, e, none_before one n only single))
count_saying Faulted one n e other below only = (omega (arith, below, e), λ single. omega (arith, e, none_before one n only single))
count_saying Full one n e other below only = absurd (other refl)

-- with a reply that broke off
pub count_answered : (m : ℕ) (one : Bool) (n : ℕ) → m ≡ n + 1 → n < most_requests → (0 < n → one ≡ false) → IsAnswerCount Faulted one m
count_answered m one n e below only = (omega (arith, below, e), λ single. omega (arith, e, none_before one n only single))

-- with the one reply
pub count_one : (m : ℕ) (one : Bool) (n : ℕ) → m ≡ n + 1 → one ≡ true → (0 < n → one ≡ false) → IsAnswerCount Ended one m
count_one m one n e single only = let none = none_before one n only single in (omega (arith, e, none), λ _. omega (arith, e, none))

-- the codes of framing are those of replies that take no memory
pub is_number : (code : ℕ) → (code ≡ 1) ⊎ (code ≡ 2) ⊎ (code ≡ 3) ⊎ (code ≡ 4) ⊎ (code ≡ 5) ⊎ (code ≡ 6) → IsTrue (is_fixed code)
is_number code (inl e) = subst (λ k. IsTrue (is_fixed k)) (sym e) refl
is_number code (inr (inl e)) = subst (λ k. IsTrue (is_fixed k)) (sym e) refl
is_number code (inr (inr (inl e))) = subst (λ k. IsTrue (is_fixed k)) (sym e) refl
is_number code (inr (inr (inr (inl e)))) = subst (λ k. IsTrue (is_fixed k)) (sym e) refl
is_number code (inr (inr (inr (inr (inl e))))) = subst (λ k. IsTrue (is_fixed k)) (sym e) refl
is_number code (inr (inr (inr (inr (inr e))))) = subst (λ k. IsTrue (is_fixed k)) (sym e) refl
