-- The session of a name.
use Rattle.std.proofs.Common.{◌≡◌, ℕ, List, Some, refl, ap, ◌∙◌, get_or, length}
use Rattle.std.specs.Prelude.{option_map}
use Rattle.std.proofs.lemmas.Option.{slice_get_read}
use Rattle.session_state.specs.Sessions.{SessionState}
use Rattle.numbered_requests.specs.Directory.{find, it_at}
use Rattle.numbered_requests.specs.declared.directory.Named.{Named}
use Rattle.session_requests.specs.Acting.{IsAt}

-- the session of a name is what stands at its place
pub find_at : (place : ℕ) (name : List ℕ) (sessions : List (Named SessionState)) (x : Named SessionState) → IsAt place name sessions → x ≡ get_or sessions place x → find name sessions ≡ Some x.it
find_at place name sessions x at e =
    ap (λ o. it_at o sessions) at.first ∙ ap (option_map (λ (n : Named SessionState). n.it)) (slice_get_read sessions (length sessions) place x refl at.within e)
