-- What is left of a desk's edit.
use Rattle.std.proofs.Common.{◌≡◌, ℕ, List, ◌∙◌}
use Rattle.numbered_requests.specs.Directory.{put_named}
use Rattle.numbered_requests.specs.declared.directory.Named.{Named}
use Rattle.session_state.specs.Once.{LastRequest}
use Rattle.office.specs.DeskEdits.{accepted_edit_reply, desk_answered}

-- what is kept of an accepted edit
pub kept_so : (name body named copy kept : List ℕ) (seq : ℕ) (desks list desks' : List (Named LastRequest)) → named ≡ name → copy ≡ body → kept ≡ accepted_edit_reply seq → list ≡ desks
    → desks' ≡ put_named named (record { last = seq; body = copy; reply = kept }) list → desks' ≡ desk_answered name body seq desks
kept_so name body named copy kept seq desks list desks' name_is body_is kept_is list_is h =
    h ∙ (λ i. put_named (name_is i) (record { last = seq; body = body_is i; reply = kept_is i }) (list_is i))
