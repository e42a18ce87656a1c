-- What several calls that only look at a keeper leave of it.
use Rattle.std.proofs.Common.{◌≡◌, inl, inr, List, [], ◌∷◌, Option, Some, None, refl, subst, ◌∙◌, arith}
use Rattle.std.specs.Prelude.{Result, Ok, Err, IfOk, IfSome, OnErr}
use Rattle.fx_base.specs.Silence.{IsLater, MayFallSilent, Marks, SilenceCause}
use Rattle.fx_base.specs.Telling.{Stays}
use Rattle.fx_base.proofs.Silences.{goes_two, later_then, rose_before}
use Rattle.row_queries.specs.declared.queries.Query.{Query}
use Rattle.row_queries.specs.declared.rows.RowList.{RowList}
use Rattle.row_keeper.specs.Causes.{HasCause}
use Rattle.row_keeper.specs.Changes.{Scans}
use Rattle.row_keeper.specs.Crashes.{AreAmong, IsOneOf, LeavesNoMore}
use Rattle.row_keeper.specs.Passing.{Around, Passes}
use Rattle.row_keeper.specs.Tables.{Tables}
use Rattle.row_keeper.specs.declared.keeper.Keeper.{Ghosts}
use Rattle.row_keeper.specs.declared.keeper.KeeperEnd.{KeeperEnd}
use Rattle.row_counts.specs.Looking.{OnlyLooks, beside}

-- ---- what a crash may leave
one_among : (xs ys : List Tables) (t : Tables) → AreAmong xs ys → IsOneOf ys t → IsOneOf xs t
one_among xs [] t h k = absurd k
one_among xs (y ∷ ys) t h (inl e) = subst (IsOneOf xs) e h.0
one_among xs (y ∷ ys) t h (inr k) = one_among xs ys t h.1 k

among_then : (xs ys zs : List Tables) → AreAmong xs ys → AreAmong ys zs → AreAmong xs zs
among_then xs ys [] h k = tt
among_then xs ys (z ∷ zs) h k = (one_among xs ys z h k.0, among_then xs ys zs h k.1)

among_more : (x : Tables) (xs ys : List Tables) → AreAmong xs ys → AreAmong (x ∷ xs) ys
among_more x xs [] h = tt
among_more x xs (y ∷ ys) h = (inr h.0, among_more x xs ys h.1)

among_itself : (xs : List Tables) → AreAmong xs xs
among_itself [] = tt
among_itself (x ∷ xs) = (inl refl, among_more x xs xs (among_itself xs))

pub no_more : (lost : Type 0) (o : Option (List Tables)) → LeavesNoMore lost o o
no_more lost None = refl
no_more lost (Some xs) = among_itself xs

-- ---- what stays
pub stays : {A : Type 0} (lost : Type 0) (o : Option A) → MayFallSilent lost Stays o o
stays lost None = refl
stays lost (Some x) = refl

pub stays_two : {A : Type 0} (k l m : Marks) → IsLater k l → IsLater l m → (x y z : Option A) → MayFallSilent (SilenceCause k l) Stays x y → MayFallSilent (SilenceCause l m) Stays y z → MayFallSilent (SilenceCause k m) Stays x z
stays_two k l m before later x y z = goes_two Stays Stays Stays (λ a b c p q. q ∙ p) k l m before later x y z

-- a call that answers what is there, or nothing, leaves what is told
pub told_stays : {T : Type 0} (lost : Type 0) (r : Result T KeeperEnd) (P : T → Tables → Tables → Type 0) → ((x : T) (a b : Tables) → P x a b → b ≡ a) → (a b : Option Tables)
    → IfOk r (λ x. MayFallSilent lost (P x) a b) → OnErr r (MayFallSilent lost Stays a b) → MayFallSilent lost Stays a b
told_stays lost (Ok x) P same None b h e = h
told_stays lost (Ok x) P same (Some a) None h e = h
told_stays lost (Ok x) P same (Some a) (Some b) h e = same x a b h
told_stays lost (Err x) P same a b h e = e

-- what a call says of the tables that are told then
pub told_after : (lost : Type 0) (P : Tables → Tables → Type 0) (R : Tables → Type 0) (a b : Option Tables) → MayFallSilent lost P a b → ((x y : Tables) → P x y → R y) → IfSome b R
told_after lost P R None None g f = tt
told_after lost P R None (Some y) g f = absurd cc
told_after lost P R (Some x) None g f = tt
told_after lost P R (Some x) (Some y) g f = f x y g

passes_itself : (a : Around) → Passes a a
passes_itself a = record {
  began = stays _ a.began;
  attached = stays _ a.attached;
  crash = no_more _ a.leaves;
  mode = refl;
  visited = omega arith;
  loan = refl;
}

pub passes_then : (a b c : Around) → IsLater a.marks b.marks → IsLater b.marks c.marks → Passes a b → Passes b c → Passes a c
passes_then a b c before later h k = record {
  began = stays_two a.marks b.marks c.marks before later a.began b.began c.began h.began k.began;
  attached = stays_two a.marks b.marks c.marks before later a.attached b.attached c.attached h.attached k.attached;
  crash = goes_two AreAmong AreAmong AreAmong among_then a.marks b.marks c.marks before later a.leaves b.leaves c.leaves h.crash k.crash;
  mode = k.mode ∙ h.mode;
  visited = omega (arith, h.visited, k.visited);
  loan = k.loan ∙ h.loan;
}

module _ {K : Type 0} (g : Ghosts K) where
  pub looks_none : (k : K) → OnlyLooks g k k
  looks_none k = record {
    told = stays _ (g.told k);
    shaped = refl;
    passes = passes_itself (beside g k);
    later = record { faults = omega arith; doubt = omega arith };
  }

  pub looks_then : (a b c : K) → OnlyLooks g a b → OnlyLooks g b c → OnlyLooks g a c
  looks_then a b c h k = record {
    told = stays_two (g.marks a) (g.marks b) (g.marks c) h.later k.later (g.told a) (g.told b) (g.told c) h.told k.told;
    shaped = k.shaped ∙ h.shaped;
    passes = passes_then (beside g a) (beside g b) (beside g c) h.later k.later h.passes k.passes;
    later = later_then (g.marks a) (g.marks b) (g.marks c) h.later k.later;
  }

  pub cause_then : {T : Type 0} (a b c : K) (r : Result T KeeperEnd) → OnlyLooks g a b → HasCause (g.marks b) (g.marks c) r → HasCause (g.marks a) (g.marks c) r
  cause_then a b c r h k = record {
    later = later_then (g.marks a) (g.marks b) (g.marks c) h.later k.later;
    failed = λ f. rose_before (g.marks a).faults (g.marks b).faults (g.marks c).faults h.later.faults (k.failed f);
  }

  -- a call after one that only looked, as both do together
  pub told_then : (P : Tables → Tables → Type 0) (a b c : K) → OnlyLooks g a b → IsLater (g.marks b) (g.marks c) → MayFallSilent (SilenceCause (g.marks b) (g.marks c)) P (g.told b) (g.told c) → MayFallSilent (SilenceCause (g.marks a) (g.marks c)) P (g.told a) (g.told c)
  told_then P a b c h later k = goes_two Stays P P (λ x y z p q. subst (λ w. P w z) p q) (g.marks a) (g.marks b) (g.marks c) h.later later (g.told a) (g.told b) (g.told c) h.told k

  pub began_then : (a b c : K) → OnlyLooks g a b → IsLater (g.marks b) (g.marks c) → MayFallSilent (SilenceCause (g.marks b) (g.marks c)) Stays (g.began b) (g.began c) → MayFallSilent (SilenceCause (g.marks a) (g.marks c)) Stays (g.began a) (g.began c)
  began_then a b c h later k = stays_two (g.marks a) (g.marks b) (g.marks c) h.later later (g.began a) (g.began b) (g.began c) h.passes.began k

  pub attached_then : (a b c : K) → OnlyLooks g a b → IsLater (g.marks b) (g.marks c) → MayFallSilent (SilenceCause (g.marks b) (g.marks c)) Stays (g.attached b) (g.attached c) → MayFallSilent (SilenceCause (g.marks a) (g.marks c)) Stays (g.attached a) (g.attached c)
  attached_then a b c h later k = stays_two (g.marks a) (g.marks b) (g.marks c) h.later later (g.attached a) (g.attached b) (g.attached c) h.passes.attached k

  pub crash_then : (a b c : K) → OnlyLooks g a b → IsLater (g.marks b) (g.marks c) → LeavesNoMore (SilenceCause (g.marks b) (g.marks c)) (g.leaves b) (g.leaves c) → LeavesNoMore (SilenceCause (g.marks a) (g.marks c)) (g.leaves a) (g.leaves c)
  crash_then a b c h later k = goes_two AreAmong AreAmong AreAmong among_then (g.marks a) (g.marks b) (g.marks c) h.later later (g.leaves a) (g.leaves b) (g.leaves c) h.passes.crash k

  -- a scan only looks
  pub scanned : (a b : K) (q : Query) (r : Result RowList KeeperEnd) → IfOk r (λ answer. MayFallSilent (SilenceCause (g.marks a) (g.marks b)) (Scans q answer) (g.told a) (g.told b))
      → OnErr r (MayFallSilent (SilenceCause (g.marks a) (g.marks b)) Stays (g.told a) (g.told b)) → Passes (beside g a) (beside g b) → g.shaped b ≡ g.shaped a → IsLater (g.marks a) (g.marks b) → OnlyLooks g a b
  scanned a b q r rows err passes shaped later = record {
    told = told_stays (SilenceCause (g.marks a) (g.marks b)) r (λ answer. Scans q answer) (λ answer x y h. h.1) (g.told a) (g.told b) rows err;
    shaped = shaped;
    passes = passes;
    later = later;
  }
