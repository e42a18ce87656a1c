-- What changes nothing that formulas read: notices, the last request, and where a session navigated.
use Rattle.std.proofs.Common.{◌≡◌, ℕ, Bool, false, List, [], Option, Some, None, refl, sym, subst, ap, ◌∙◌}
use Rattle.fx_core.specs.Reads.{IsAmong}
use Rattle.fx_core.specs.declared.names.Names.{Names}
use Rattle.fx_core.specs.declared.sources.Source.{Source}
use Rattle.recalc.specs.app_cells.declared.app.App.{App}
use Rattle.recalc.specs.app_semantics.Sound.{IsSoundApp}
use Rattle.recalc.specs.Kept.{CacheState}
use Rattle.numbered_requests.proofs.Directories.{find_put}
use Rattle.numbered_requests.specs.Directory.{find, put_named}
use Rattle.numbered_requests.specs.declared.directory.Named.{Named}
use Rattle.row_keeper.specs.Tables.{Tables, state_at}
use Rattle.session_state.specs.Once.{nobody}
use Rattle.session_state.specs.Once as once
use Rattle.session_state.specs.Sessions.{SessionState}
use Rattle.session_requests.specs.Acting.{session_answered}
use Rattle.session_requests.specs.Caching.{AreLater, SameSessionExcept, IsCached}
use Rattle.session_requests.specs.Scenes.{arrived, quiet, unasked}
use Rattle.session_requests.proofs.RequestFitting.{still_held, with_rest}
use Rattle.session_requests.proofs.Undone.{but_then, cached_as}

rest_but : (n : Names) (ws : List Source) (b : Bool) (k : once.LastRequest) (ns : List (List ℕ)) (s : SessionState) → SameSessionExcept n ws s (with_rest b k ns s)
rest_but n ws b k ns s = record { held = λ x t typed far. still_held b k ns s x; chosen = λ j far. refl }

pub arrived_but : (n : Names) (ws : List Source) (s r : SessionState) → r ≡ arrived s → SameSessionExcept n ws s r
arrived_but n ws s r e = subst (SameSessionExcept n ws s) (sym e) (rest_but n ws false s.kept s.notices s)

pub quiet_but : (n : Names) (ws : List Source) (s r : SessionState) → r ≡ quiet s → SameSessionExcept n ws s r
quiet_but n ws s r e = subst (SameSessionExcept n ws s) (sym e) (rest_but n ws s.navigated s.kept [] s)

pub begun_but : (n : Names) (ws : List Source) (s q r : SessionState) → q ≡ quiet s → r ≡ arrived q → SameSessionExcept n ws s r
begun_but n ws s q r e d = but_then n ws s q r (quiet_but n ws s q e) (arrived_but n ws q r d)

pub unasked_but : (n : Names) (ws : List Source) (s r : SessionState) → r ≡ unasked (quiet s) → SameSessionExcept n ws s r
unasked_but n ws s r e = subst (SameSessionExcept n ws s) (sym e) (rest_but n ws s.navigated nobody [] s)

pub answered_but : (n : Names) (ws : List Source) (seq : ℕ) (body said : List ℕ) (s : SessionState) → SameSessionExcept n ws s (session_answered seq body said s)
answered_but n ws seq body said s = rest_but n ws s.navigated (record { last = seq; body = body; reply = said }) s.notices s

-- what stands of a session stands of it once it is kept under its name
pub cached_kept : (a : App) (name : List ℕ) (seq : ℕ) (body said : List ℕ) (r : SessionState) (told : Option Tables) (m : ℕ) (c : CacheState) (sessions after : List (Named SessionState)) → IsSoundApp a → after ≡ put_named name (session_answered seq body said r) sessions →
    IsCached a r told m c → (s : SessionState) → find name after ≡ Some s → IsCached a s told m c
cached_kept a name seq body said r told m c sessions after sound e h s found =
    let both : Some (session_answered seq body said r) ≡ Some s = sym (find_put SessionState name (session_answered seq body said r) sessions) ∙ ap (find name) (sym e) ∙ found in
    let same : session_answered seq body said r ≡ s = cc in
    subst (λ (x : SessionState). IsCached a x told m c) same (cached_as a r (session_answered seq body said r) told m c sound (answered_but a.names [] seq body said r) h)

-- where sessions stay, what stands of the one stands of what is found
pub cached_found : (a : App) (name : List ℕ) (r : SessionState) (told : Option Tables) (m : ℕ) (c : CacheState) (sessions after : List (Named SessionState)) → after ≡ sessions → find name sessions ≡ Some r → IsCached a r told m c →
    (s : SessionState) → find name after ≡ Some s → IsCached a s told m c
cached_found a name r told m c sessions after e was h s found =
    let both : Some r ≡ Some s = sym was ∙ ap (find name) (sym e) ∙ found in
    let same : r ≡ s = cc in
    subst (λ (x : SessionState). IsCached a x told m c) same h

-- as a transaction begins, no table is another
pub later_first : (ws : List Source) (began told : Option Tables) → began ≡ told → AreLater ws began told
later_first ws began told e = λ t u p q k far.
    let both : Some u ≡ Some t = sym q ∙ sym e ∙ p in
    let same : u ≡ t = cc in
    ap (λ (z : Tables). state_at z.states k) same

-- where no screen was navigated to, nothing follows
pub arrived_same : (s : SessionState) → s.navigated ≡ false → arrived s ≡ s
arrived_same s e = λ i. record s { navigated = sym e i }

-- a session that is found in the place of one that was found is that one
pub before_is : (name : List ℕ) (sessions later lent : List (Named SessionState)) (s r : SessionState) → find name sessions ≡ Some s → lent ≡ later → later ≡ sessions → find name lent ≡ Some r → s ≡ r
before_is name sessions later lent s r was e d is =
    let both : Some s ≡ Some r = sym was ∙ ap (find name) (sym (e ∙ d)) ∙ is in
    cc
