-- Requests that come again.
use Rattle.std.proofs.Common.{◌≡◌, ◌≢◌, ℕ, Bool, false, if◌then◌else◌, unwrap_or, List, [], ◌∷◌, Option, Some, Result, Ok, Err, refl, ap, ◌∙◌, subst}
use Rattle.fx_base.specs.Silence.{SilenceCause, Marks}
use Rattle.fx_core.specs.declared.schema.TableShape.{TableShape}
use Rattle.row_keeper.specs.Tables.{Tables}
use Rattle.session_state.specs.Once.{LastRequest, nobody}
use Rattle.numbered_requests.specs.Checks.{checks, desk_of, is_directory_full, kept_of}
use Rattle.row_requests.specs.Bodies.{posted_in}
use Rattle.row_requests.specs.DeskRows.{ChangesOutcome, PostsChecked, PostsRows, accepted_rows_reply, desk_checks, desks_after}
use Rattle.numbered_requests.specs.Directory.{find}
use Rattle.row_requests.specs.Laws.{ArePostsOfOthers, IsLastPost, Post}
use Rattle.row_requests.specs.declared.bodies.Posted.{Posted}
use Rattle.numbered_requests.specs.declared.directory.Named.{Named}
use Rattle.numbered_requests.proofs.Again.{comes_again}
use Rattle.numbered_requests.proofs.Directories.{find_other, found_among}

has_room : (name : List ℕ) (k : LastRequest) (desks : List (Named LastRequest)) → find name desks ≡ Some k → is_directory_full name desks ≡ false
has_room name k desks e = rw (found_among LastRequest name k desks e) refl

-- a desk of which a request was accepted is a caller
known : (name : List ℕ) (k : LastRequest) (desks : List (Named LastRequest)) → find name desks ≡ Some k → desk_of name desks ≡ Ok k
known name k desks e =
    ap (λ (b : Bool). if b then Err 12 else Ok (kept_of name desks)) (has_room name k desks e) ∙ ap (λ (o : Option LastRequest). Ok (unwrap_or o nobody)) e

pub checks_again : (desks : List (Named LastRequest)) (name : List ℕ) (k : LastRequest) → IsLastPost desks name k → desk_checks desks name k.body ≡ Err k.reply
checks_again desks name k last =
    ap (λ (c : Result LastRequest ℕ). checks posted_in (λ (p : Posted). p.seq) c k.body) (known name k desks last.found)
    ∙ comes_again Posted posted_in (λ (p : Posted). p.seq) k (record { value = last.value; is_json = last.is_json; it = last.posted; shape = last.shape; last = last.number })

kept_others : (name other : List ℕ) (body : List ℕ) (seq : ℕ) (o : ChangesOutcome) (desks : List (Named LastRequest)) → name ≢ other → find other (desks_after name body seq o desks) ≡ find other desks
kept_others name other body seq (Ok ids) desks differ = find_other LastRequest name other (record { last = seq; body = body; reply = accepted_rows_reply seq ids }) desks differ
kept_others name other body seq (Err r) desks differ = refl

pub posts_others : (lost : Type 0) (shapes : List TableShape) (name other body : List ℕ) (r : Result Posted (List ℕ)) (tables tables' : Option Tables) (desks desks' : List (Named LastRequest)) (said : List ℕ) → name ≢ other
    → PostsChecked lost shapes name body r tables desks said tables' desks' → find other desks' ≡ find other desks
posts_others lost shapes name other body (Err words) tables tables' desks desks' said differ h = ap (λ (d : List (Named LastRequest)). find other d) h.2
posts_others lost shapes name other body (Ok p) tables tables' desks desks' said differ h =
    ap (λ (d : List (Named LastRequest)). find other d) h.keeps ∙ kept_others name other body p.seq h.outcome desks differ

pub leaves_others : (shapes : List TableShape) (name other body said : List ℕ) (before now : Marks) (tables tables' : Option Tables) (desks desks' : List (Named LastRequest))
    → PostsRows (SilenceCause before now) shapes name body tables desks said tables' desks' → name ≢ other → find other desks' ≡ find other desks
leaves_others shapes name other body said before now tables tables' desks desks' h differ =
    posts_others (SilenceCause before now) shapes name other body (desk_checks desks name body) tables tables' desks desks' said differ h

run_leaves : (shapes : List TableShape) (name : List ℕ) (posts : List Post) (tables tables' : Option Tables) (desks desks' : List (Named LastRequest))
    → ArePostsOfOthers shapes name tables desks posts tables' desks' → find name desks' ≡ find name desks
run_leaves shapes name [] tables tables' desks desks' h = ap (λ (d : List (Named LastRequest)). find name d) h.1
run_leaves shapes name (p ∷ ps) tables tables' desks desks' h =
    run_leaves shapes name ps p.tables tables' p.desks desks' h.2
    ∙ leaves_others shapes p.name name p.body p.said p.before p.now tables p.tables desks p.desks h.1 h.0

pub acts_once : (shapes : List TableShape) (name : List ℕ) (k : LastRequest) (said : List ℕ) (before now : Marks) (posts : List Post)
    (tables tables' tables'' : Option Tables) (desks desks' desks'' : List (Named LastRequest))
    → IsLastPost desks name k → ArePostsOfOthers shapes name tables desks posts tables' desks'
    → PostsRows (SilenceCause before now) shapes name k.body tables' desks' said tables'' desks''
    → (said ≡ k.reply) × (tables'' ≡ tables') × (desks'' ≡ desks')
acts_once shapes name k said before now posts tables tables' tables'' desks desks' desks'' last others h =
    subst (λ r. PostsChecked (SilenceCause before now) shapes name k.body r tables' desks' said tables'' desks'') (checks_again desks' name k still) h
  where
    still : IsLastPost desks' name k
    still = record {
      found = run_leaves shapes name posts tables tables' desks desks' others ∙ last.found;
      value = last.value;
      is_json = last.is_json;
      posted = last.posted;
      shape = last.shape;
      number = last.number;
    }
