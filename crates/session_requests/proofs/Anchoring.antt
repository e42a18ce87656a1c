-- What a performing stands on is known by its numbers.
use Rattle.std.proofs.Common.{◌≡◌, ℕ, ◌≤◌, Bool, List, [], length, Option, refl, sym, ap, ◌∙◌}
use Rattle.std.specs.Prelude.{take}
use Rattle.std.proofs.lemmas.List.{length-take-le}
use Rattle.std.specs.Coded.{coded_list, coded_ℕ}
use base.Stored.{Gv, gnil, gnum, gcons}
use Rattle.recalc.specs.app_cells.contracts.app.App.{the_row as app_row}
use Rattle.recalc.specs.app_cells.declared.app.App.{App}
use Rattle.fx_env.specs.Scopes.{Fixed}
use Rattle.fx_core.specs.contracts.sources.Source.{the_row as source_row}
use Rattle.fx_core.specs.declared.sources.Source.{Source}
use Rattle.session_state.specs.contracts.session.Session.{the_row as session_row}
use Rattle.session_state.specs.Sessions.{SessionState}
use Rattle.session_requests.specs.WorldIdentity.{WorldIdentity, anchor, coded_onto, identity_code}
use Rattle.session_requests.specs.Worlds.{fixed_in}

coded_one : (a b : Gv) (xs ys : List (Option ℕ)) → coded_onto a xs ≡ coded_onto b ys → (a ≡ b) × (xs ≡ ys)
unfolding coded_onto
coded_one gnil gnil xs ys e = (refl, cc)
coded_one gnil (gnum n) xs ys e = absurd cc
coded_one gnil (gcons c d) xs ys e = absurd cc
coded_one (gnum n) gnil xs ys e = absurd cc
coded_one (gnum n) (gnum m) xs ys e = let same : n ≡ m = cc in (ap gnum same, cc)
coded_one (gnum n) (gcons c d) xs ys e = absurd cc
coded_one (gcons a b) gnil xs ys e = absurd cc
coded_one (gcons a b) (gnum m) xs ys e = absurd cc
coded_one (gcons a b) (gcons c d) xs ys e =
    let rest : coded_onto a (coded_onto b xs) ≡ coded_onto c (coded_onto d ys) = cc in
    let first = coded_one a c (coded_onto b xs) (coded_onto d ys) rest in
    let second = coded_one b d xs ys first.1 in
    (ap (λ z. gcons z b) first.0 ∙ ap (λ z. gcons c z) second.0, second.1)

-- the same in all its parts
pub record AreOne (a b : WorldIdentity) : Type 0 where
  pub app : a.app ≡ b.app
  pub moment : a.moment ≡ b.moment
  pub before : a.before ≡ b.before
  pub earlier : a.earlier ≡ b.earlier

one_anchor : (a b : WorldIdentity) → identity_code a ≡ identity_code b → AreOne a b
unfolding identity_code
one_anchor a b e =
    let first = coded_one (app_row.coded.code a.app) (app_row.coded.code b.app) _ _ e in
    let second = coded_one (coded_ℕ.code a.moment) (coded_ℕ.code b.moment) _ _ first.1 in
    let third = coded_one (session_row.coded.code a.before) (session_row.coded.code b.before) _ _ second.1 in
    let fourth = coded_one ((coded_list source_row.coded).code a.earlier) ((coded_list source_row.coded).code b.earlier) [] [] third.1 in
    record {
      app = app_row.coded.inj a.app b.app first.0;
      moment = coded_ℕ.inj a.moment b.moment second.0;
      before = session_row.coded.inj a.before b.before third.0;
      earlier = (coded_list source_row.coded).inj a.earlier b.earlier fourth.0;
    }

-- ---- what is fixed, of a world as it is left and as it is made
-- It stands on the same, over what was lent
pub record AreLent (h g : WorldIdentity) (i c j p k d l q : ℕ) (x y : Option ℕ) : Type 0 where
  pub one : AreOne h g
  pub session : i ≡ k
  pub cache : c ≡ d
  pub keeper : j ≡ l
  pub wrote : p ≡ q
  pub loan : x ≡ y

pub lent_same : (h g : WorldIdentity) (i c j p k d l q : ℕ) (x y : Option ℕ) (m n : Bool) → fixed_in h i c j p x m ≡ fixed_in g k d l q y n → AreLent h g i c j p k d l q x y
lent_same h g i c j p k d l q x y m n e =
    let both = ap (λ (f : Fixed). f.loans) e in
    record { one = one_anchor h g cc; session = cc; cache = cc; keeper = cc; wrote = cc; loan = cc }

-- as many were written earlier
pub count_same : (n : ℕ) (xs ys : List Source) → n ≤ length xs → take n xs ≡ ys → n ≡ length ys
count_same n xs ys h e = sym (length-take-le n xs h) ∙ ap length e

-- what is fixed is the same where its parts are
pub fixed_as : (a : App) (m : ℕ) (before : SessionState) (xs ys : List Source) (i c j p : ℕ) (l k : Option ℕ) (o q : Bool) → xs ≡ ys → l ≡ k → o ≡ q → fixed_in (anchor a m before xs) i c j p l o ≡ fixed_in (anchor a m before ys) i c j p k q
fixed_as a m before xs ys i c j p l k o q e f g =
    ap (λ (zs : List Source). fixed_in (anchor a m before zs) i c j p l o) e ∙ ap (λ (z : Option ℕ). fixed_in (anchor a m before ys) i c j p z o) f ∙ ap (λ (z : Bool). fixed_in (anchor a m before ys) i c j p k z) g
