-- A formula that doesn't act.
use Rattle.std.proofs.Common.{◌≡◌, ℕ, suc, List, [], ◌∷◌, length, false, Option, None, Some, refl, ap, sym, subst, ◌∙◌}
use Rattle.std.specs.Prelude.{option_map, slice_get}
use Rattle.fx_base.proofs.Silences.{goes_two, goes_weaker}
use Rattle.fx_base.specs.Silence.{MayFallSilent, IsLater, SilenceCause, Marks}
use Rattle.fx_base.specs.Telling.{Stays}
use Rattle.fx_types.specs.Types.{Shape, tables}
use Rattle.fx_types.specs.Values.{Data}
use Rattle.fx_semantics.proofs.Wider.{stays_read}
use Rattle.fx_semantics.specs.Sources.{FitsIn, Gives}
use Rattle.fx_env.specs.Scopes.{CanEvaluate, Fixed, ScopeValues, IsTypedHere, around}
use Rattle.fx_env.specs.Telling.{EnvState, values_told}
use Rattle.fx_semantics.specs.Fresh.{IsValue}
use Rattle.fx_semantics.specs.Sound.{AreFit}
use Rattle.fx_core.specs.declared.names.Names.{Names}
use Rattle.fx_core.specs.declared.schema.Schema.{Schema}
use Rattle.fx_core.specs.declared.schema.TableShape.{TableShape}
use Rattle.fx_core.specs.declared.sources.Source.{Source}
use Rattle.fx_core.specs.declared.sources.Source.TheVariants as source
use Rattle.fx_core.specs.Reads.{IsAmong, sources_in}
use Rattle.fx_core.specs.SourceTypes.{columns_of, sources}
use Rattle.fx_core.specs.Term.{Term, of}
use Rattle.fx_typing.specs.Acts.{acts}
use Rattle.fx_plan.specs.Limited.{LimitedTypes, limited}
use Rattle.fx_deeds.proofs.Told.{state_holds}
use Rattle.fx_deeds.specs.Fitting.{WorldReadsTables, SourceTypes}
use Rattle.fx_behave.specs.Perform.{NodeComesTo, Performs, performings, taken}
use Rattle.fx_deeds.specs.State.{AreReady, Giving, Ground, WorldState, ground, acting_context}

performs_purely : {A : Type 0} (g : Ground A) (t : Term) (h : ScopeValues) (x : Data) (s u : WorldState A) → acts t ≡ false → taken g t (acting_context g h s) x → u ≡ s → Performs g t h x s u
performs_purely g (of k ts) h x s u e v q = subst (λ b. NodeComesTo g b k (taken g (of k ts)) (performings g ts) h s x u) (sym e) (v, q)

-- the formula that is evaluated in its place
abbrev pub taking : Fixed → ScopeValues → Term → Term
taking fixed h t = limited fixed.schema.tables fixed.limit (length h.rows) false t

-- what is told of these sources stays what they give, while nothing changes
still_ready : {A B : Type 0} (lost lost' : Type 0) (types : SourceTypes) (gives : Giving A) (reads : List Source) (x y : Option (WorldState A)) (a b : Option (EnvState B)) →
    MayFallSilent lost Stays x y → MayFallSilent lost' Stays a b → AreReady types gives reads x (values_told a) → AreReady types gives reads y (values_told b)
still_ready lost lost' types gives reads None y a b h k r = λ s values e q. let wrong : None ≡ Some s = sym h ∙ e in absurd cc
still_ready lost lost' types gives reads (Some s) None a b h k r = λ u values e q. absurd cc
still_ready lost lost' types gives reads (Some s) (Some t) None b h k r = λ u values e q. let wrong : None ≡ Some values = sym (ap values_told k) ∙ q in absurd cc
still_ready lost lost' types gives reads (Some s) (Some t) (Some d) None h k r = λ u values e q. absurd cc
still_ready lost lost' types gives reads (Some s) (Some t) (Some d) (Some e) h k r =
    subst (λ z. AreReady types gives reads z (values_told (Some e))) (sym (ap Some h)) (subst (λ z. AreReady types gives reads (Some s) (values_told z)) (sym (ap Some k)) r)

-- where no values are told, the state isn't told either
silent : {A B : Type 0} (told : Option (EnvState B)) (state : Option (WorldState A)) → (told ≡ None → state ≡ None) → values_told told ≡ None → state ≡ None
silent None state lost e = lost refl
silent (Some t) state lost e = absurd cc

-- what a source gives by what is told, it gives in the state
given_there : {A : Type 0} (types : SourceTypes) (gives : Giving A) (reads : List Source) (state : Option (WorldState A)) (told : Option (Source → Data)) (x : Source) (d : Data) →
    (told ≡ None → state ≡ None) → AreReady types gives reads state told → IsAmong x reads → Gives types told x d → (s : WorldState A) → state ≡ Some s → gives s x d
given_there types gives reads state None x d lost ready k h s e = let wrong : Some s ≡ None = sym e ∙ lost refl in absurd cc
given_there types gives reads state (Some values) x d lost ready k h s e = by (types x) refl h
  where
    by : (o : Option Shape) → types x ≡ o → FitsIn o d × (d ≡ values x) → gives s x d
    by None p j = absurd j.0
    by (Some t) p j = subst (λ z. gives s x z) (sym j.1) (ready s values e refl x t k p)

-- what it is worth by what is told of the sources that it reads, it is worth in the state, which stays
done_purely : {A : Type 0} (lost : Type 0) (gives : Giving A) (fixed : Fixed) (told : Option (Source → Data)) (old new : Option (WorldState A)) (t : Term) (h : ScopeValues) (x : Data) →
    (told ≡ None → new ≡ None) → AreReady fixed.types gives (sources_in (taking fixed h t)) new told → acts t ≡ false → MayFallSilent lost Stays old new →
    IsValue (around fixed.types told h) (taking fixed h t) x → MayFallSilent lost (Performs (ground gives fixed) t h x) old new
done_purely {A} lost gives fixed told old new t h x quiet_told ready quiet stay v =
    goes_weaker lost (λ s u. (u ≡ s) × IsValue (acting_context (ground gives fixed) h s) (taking fixed h t) x) (Performs (ground gives fixed) t h x)
    (λ s u k. performs_purely (ground gives fixed) t h x s u quiet k.1 k.0) old new
    (state_holds lost old new (λ s. IsValue (acting_context (ground gives fixed) h s) (taking fixed h t) x) stay
    (λ s e. stays_read (gives s) (taking fixed h t) (around fixed.types told h) x (λ y d k m. given_there fixed.types gives (sources_in (taking fixed h t)) new told y d quiet_told ready k m s e) v))

-- the same behind the call that makes the sources ready
pub taken_done : {A B : Type 0} (gives : Giving A) (fixed mid : Fixed) (k l m : Marks) (told heard : Option (EnvState B)) (x y z : Option (WorldState A)) (t taken : Term) (h : ScopeValues) (d : Data) →
    (heard ≡ None → z ≡ None) → acts t ≡ false → mid ≡ fixed → taken ≡ taking fixed h t → IsLater k l → IsLater l m → MayFallSilent (SilenceCause k l) Stays x y →
    AreReady fixed.types gives (sources_in taken) y (values_told told) → MayFallSilent (SilenceCause l m) Stays y z → MayFallSilent (SilenceCause l m) Stays told heard →
    IsValue (around mid.types (values_told heard) h) taken d → MayFallSilent (SilenceCause k m) (Performs (ground gives fixed) t h d) x z
taken_done {A} {B} gives fixed mid k l m told heard x y z t taken h d lost quiet e q before later first ready second stays value =
    done_purely (SilenceCause k m) gives fixed (values_told heard) x z t h d (silent heard z lost)
    (subst (λ w. AreReady fixed.types gives (sources_in w) z (values_told heard)) q (still_ready (SilenceCause l m) (SilenceCause l m) fixed.types gives (sources_in taken) y z told heard second stays ready))
    quiet (goes_two Stays Stays Stays (λ a b c p r. r ∙ p) k l m before later x y z first second)
    (subst (λ w. IsValue (around fixed.types (values_told heard) h) w d) q (subst (λ (f : Fixed). IsValue (around f.types (values_told heard) h) taken d) e value))

-- ---- it is ready to be evaluated

-- a world reads its tables at their types
pub reads_tables : (fixed : Fixed) (names : Names) → ((x : Source) → fixed.types x ≡ sources names x) → fixed.schema ≡ names.schema → WorldReadsTables fixed
reads_tables fixed names typed shaped n p e =
    typed (source.Table n) ∙ ap (option_map (λ (z : TableShape). tables (columns_of z))) (ap (λ (z : Schema). slice_get z.tables n) (sym shaped) ∙ e)

as_many : (ds : List Data) (ts : List Shape) → AreFit ds ts → length ts ≡ length ds
as_many [] [] h = refl
as_many (d ∷ ds) (t ∷ ts) h = ap suc (as_many ds ts h.1)
as_many [] (t ∷ ts) h = absurd h
as_many (d ∷ ds) [] h = absurd h

taking_ready : LimitedTypes → (fixed : Fixed) (h : ScopeValues) (t : Term) (u : Shape) → WorldReadsTables fixed → IsTypedHere fixed.types h t u → IsTypedHere fixed.types h (taking fixed h t) u
taking_ready law fixed h t u reads r =
    let there : (n : ℕ) (p : TableShape) → slice_get fixed.schema.tables n ≡ Some p → r.context.sources (source.Table n) ≡ Some (tables (columns_of p)) =
    λ n p e. subst (λ z. z (source.Table n) ≡ Some (tables (columns_of p))) (sym r.suits.sources) (reads n p e) in
    let k = law fixed.schema.tables fixed.limit r.context false t u there (r.typed, r.lawful) r.quiet in
    subst (λ n. IsTypedHere fixed.types h (limited fixed.schema.tables fixed.limit n false t) u) (as_many h.rows r.context.rows r.suits.rows)
    (record { context = r.context; suits = r.suits; typed = k.0.0; lawful = k.0.1; quiet = k.1 })

pub take_ready : LimitedTypes → (fixed mid : Fixed) (h : ScopeValues) (t taken : Term) (u : Shape) → mid ≡ fixed → taken ≡ taking fixed h t → WorldReadsTables fixed → IsTypedHere fixed.types h t u → IsTypedHere mid.types h taken u
take_ready law fixed mid h t taken u e q reads r =
    subst (λ (f : Fixed). IsTypedHere f.types h taken u) (sym e) (subst (λ w. IsTypedHere fixed.types h w u) (sym q) (taking_ready law fixed h t u reads r))

pub can_take : LimitedTypes → (fixed mid : Fixed) (h : ScopeValues) (t taken : Term) → mid ≡ fixed → taken ≡ taking fixed h t → WorldReadsTables fixed → CanEvaluate fixed.types h t → CanEvaluate mid.types h taken
can_take law fixed mid h t taken e q reads r = (r.0, take_ready law fixed mid h t taken r.0 e q reads r.1)
