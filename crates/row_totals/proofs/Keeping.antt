-- What holds of a keeper with kept totals goes on to hold over each of its calls.
use Rattle.std.proofs.Common.{◌≡◌, ℤ, Bool, true, false, List, Option, refl, sym, ap, subst, ◌∙◌}
use Rattle.std.specs.Prelude.{Result, Ok, Err, OnErr, OnOk}
use Rattle.fx_base.specs.Silence.{MayFallSilent}
use Rattle.fx_base.specs.Telling.{Stays}
use Rattle.fx_core.specs.declared.schema.Schema.{Schema}
use Rattle.row_keeper.specs.Shaped.{Shaped, gone_back, steady}
use Rattle.row_keeper.specs.Tables.{Tables}
use Rattle.row_keeper.specs.declared.keeper.KeeperEnd.{KeeperEnd}
use Rattle.row_counts.specs.Right.{AreCounted}
use Rattle.row_totals.specs.Kept.{IsTallied}
use Rattle.row_counts.proofs.Telling.{counted_stays}

abbrev Counted : Type 0
Counted = List (List (List ℤ))

-- ---- nothing changes but what is told, which may fall silent
pub tallied_same : {is was : Bool} {now then : Counted} {sh : Shaped} {begun : Bool} {told began : Option Tables} (lost : Type 0) (now' then' : Counted) (sh' : Shaped) (begun' : Bool) (told' began' : Option Tables)
    → IsTallied is was now then sh begun told began → now' ≡ now → then' ≡ then → sh' ≡ sh → begun' ≡ begun → MayFallSilent lost Stays told told' → MayFallSilent lost Stays began began'
    → IsTallied is was now' then' sh' begun' told' began'
tallied_same {is} {was} {now} {then} {sh} {begun} {told} {began} lost now' then' sh' begun' told' began' h n t s b g k = record {
  now_counted = λ e. counted_stays lost sh.now sh'.now now now' told told' g (ap (λ (x : Shaped). x.now) s) n (h.now_counted e);
  then_counted = λ e f. counted_stays lost sh.then sh'.then then then' began began' k (ap (λ (x : Shaped). x.then) s) t (h.then_counted e (sym b ∙ f));
  still = λ f. t ∙ h.still (sym b ∙ f) ∙ sym n;
  still_filled = λ f. h.still_filled (sym b ∙ f);
}

-- the same between two transactions
pub tallied_idle : {is was : Bool} {now then : Counted} {sh : Shaped} {begun : Bool} {told began : Option Tables} (lost : Type 0) (now' then' : Counted) (sh' : Shaped) (begun' : Bool) (told' began' : Option Tables)
    → IsTallied is was now then sh begun told began → begun ≡ false → begun' ≡ false → now' ≡ now → then' ≡ then → sh' ≡ sh → MayFallSilent lost Stays told told' → IsTallied is was now' then' sh' begun' told' began'
tallied_idle {is} {was} {now} {then} {sh} {begun} {told} {began} lost now' then' sh' begun' told' began' h idle idle' n t s g = record {
  now_counted = λ e. counted_stays lost sh.now sh'.now now now' told told' g (ap (λ (x : Shaped). x.now) s) n (h.now_counted e);
  then_counted = λ e f. absurd (let k = sym idle' ∙ f in cc);
  still = λ f. t ∙ h.still idle ∙ sym n;
  still_filled = λ f. h.still_filled idle;
}

-- ---- in a transaction
pub tallied_in : {is was : Bool} {now then : Counted} {sh : Shaped} {told began : Option Tables} (lost : Type 0) (now' then' : Counted) (sh' : Shaped) (begun begun' : Bool) (told' began' : Option Tables)
    → IsTallied is was now then sh begun told began → begun ≡ true → (AreCounted sh.now now told → AreCounted sh.now now' told') → then' ≡ then → sh' ≡ sh → begun' ≡ begun → MayFallSilent lost Stays began began'
    → IsTallied is was now' then' sh' begun' told' began'
tallied_in {is} {was} {now} {then} {sh} {told} {began} lost now' then' sh' begun begun' told' began' h begins step t s b k = record {
  now_counted = λ e. subst (λ (x : Option Schema). AreCounted x now' told') (ap (λ (x : Shaped). x.now) (sym s)) (step (h.now_counted e));
  then_counted = λ e f. counted_stays lost sh.then sh'.then then then' began began' k (ap (λ (x : Shaped). x.then) s) t (h.then_counted e begins);
  still = λ f. absurd (let e = sym begins ∙ sym b ∙ f in cc);
  still_filled = λ f. absurd (let e = sym begins ∙ sym b ∙ f in cc);
}

-- the tables have moved, and are counted anew; or that isn't known, and they aren't counted
pub tallied_moved : {is was : Bool} {now then : Counted} {sh : Shaped} {told began : Option Tables} (lost : Type 0) (is' : Bool) (now' then' : Counted) (sh' : Shaped) (begun begun' : Bool) (told' began' : Option Tables)
    → IsTallied is was now then sh begun told began → begun ≡ true → (is' ≡ true → AreCounted sh'.now now' told') → then' ≡ then → sh'.then ≡ sh.then → begun' ≡ begun → MayFallSilent lost Stays began began'
    → IsTallied is' was now' then' sh' begun' told' began'
tallied_moved {is} {was} {now} {then} {sh} {told} {began} lost is' now' then' sh' begun begun' told' began' h begins counted t s b k = record {
  now_counted = counted;
  then_counted = λ e f. counted_stays lost sh.then sh'.then then then' began began' k s t (h.then_counted e begins);
  still = λ f. absurd (let e = sym begins ∙ sym b ∙ f in cc);
  still_filled = λ f. absurd (let e = sym begins ∙ sym b ∙ f in cc);
}

-- ---- a transaction begins and ends
pub tallied_begun : {is was : Bool} {now then : Counted} {sh : Shaped} {begun : Bool} {told began : Option Tables} (lost : Type 0) (r : Result (Unit {0}) KeeperEnd) (sh' : Shaped) (begun' : Bool) (told' began' : Option Tables)
    → IsTallied is was now then sh begun told began → begun ≡ false → MayFallSilent lost Stays told told' → OnOk r ((begun' ≡ true) × (began' ≡ told')) → OnErr r (begun' ≡ false) → OnOk r (sh' ≡ steady sh) → OnErr r (sh' ≡ sh)
    → IsTallied is was now then sh' begun' told' began'
tallied_begun {is} {was} {now} {then} {sh} {begun} {told} {began} lost (Ok x) sh' begun' told' began' h idle g ok err s t = record {
  now_counted = λ e. counted_stays lost sh.now sh'.now now now told told' g (ap (λ (x : Shaped). x.now) s) refl (h.now_counted e);
  then_counted = λ e f. subst (λ o. AreCounted sh'.then then o) (sym ok.1) (counted_stays lost sh.now sh'.then now then told told' g (ap (λ (x : Shaped). x.then) s) (h.still idle) (h.now_counted (sym (h.still_filled idle) ∙ e)));
  still = λ f. h.still idle;
  still_filled = λ f. h.still_filled idle;
}
tallied_begun {is} {was} {now} {then} {sh} {begun} {told} {began} lost (Err x) sh' begun' told' began' h idle g ok err s t = record {
  now_counted = λ e. counted_stays lost sh.now sh'.now now now told told' g (ap (λ (x : Shaped). x.now) t) refl (h.now_counted e);
  then_counted = λ e f. absurd (let k = sym err ∙ f in cc);
  still = λ f. h.still idle;
  still_filled = λ f. h.still_filled idle;
}

pub tallied_settled : {is was : Bool} {now then : Counted} {sh : Shaped} {begun : Bool} {told began : Option Tables} (lost : Type 0) (now' then' : Counted) (sh' : Shaped) (begun' : Bool) (told' began' : Option Tables)
    → IsTallied is was now then sh begun told began → begun' ≡ false → MayFallSilent lost Stays told told' → now' ≡ now → then' ≡ now → sh' ≡ steady sh
    → IsTallied is is now' then' sh' begun' told' began'
tallied_settled {is} {was} {now} {then} {sh} {begun} {told} {began} lost now' then' sh' begun' told' began' h idle g n t s = record {
  now_counted = λ e. counted_stays lost sh.now sh'.now now now' told told' g (ap (λ (x : Shaped). x.now) s) n (h.now_counted e);
  then_counted = λ e f. absurd (let k = sym idle ∙ f in cc);
  still = λ f. t ∙ sym n;
  still_filled = λ f. refl;
}

pub tallied_back : {is was : Bool} {now then : Counted} {sh : Shaped} {begun : Bool} {told began : Option Tables} (lost : Type 0) (now' then' : Counted) (sh' : Shaped) (begun' : Bool) (told' began' : Option Tables)
    → IsTallied is was now then sh begun told began → begun ≡ true → begun' ≡ false → MayFallSilent lost Stays began told' → now' ≡ then → then' ≡ then → sh' ≡ gone_back sh
    → IsTallied was was now' then' sh' begun' told' began'
tallied_back {is} {was} {now} {then} {sh} {begun} {told} {began} lost now' then' sh' begun' told' began' h begins idle g n t s = record {
  now_counted = λ e. counted_stays lost sh.then sh'.now then now' began told' g (ap (λ (x : Shaped). x.now) s) n (h.then_counted e begins);
  then_counted = λ e f. absurd (let k = sym idle ∙ f in cc);
  still = λ f. t ∙ sym n;
  still_filled = λ f. refl;
}

-- ---- the rows aren't counted any more, or have been counted
pub tallied_forgotten : (now then : Counted) (sh : Shaped) (begun : Bool) (told began : Option Tables) → then ≡ now → IsTallied false false now then sh begun told began
tallied_forgotten now then sh begun told began s = record {
  now_counted = λ e. absurd cc;
  then_counted = λ e f. absurd cc;
  still = λ f. s;
  still_filled = λ f. refl;
}

pub tallied_filled : (now then : Counted) (sh : Shaped) (begun : Bool) (told began : Option Tables) → begun ≡ false → AreCounted sh.now now told → then ≡ now → IsTallied true true now then sh begun told began
tallied_filled now then sh begun told began idle h s = record {
  now_counted = λ e. h;
  then_counted = λ e f. absurd (let k = sym idle ∙ f in cc);
  still = λ f. s;
  still_filled = λ f. refl;
}
