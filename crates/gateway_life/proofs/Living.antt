-- What a whole life leaves, from what its parts say.
use Rattle.std.proofs.Common.{◌≡◌, ◌⊎◌, ℕ, ◌≤◌, true, false, List, [], ◌∷◌, ◌++◌, length}
use Rattle.std.proofs.Common.{refl}
use Rattle.std.proofs.Common.{sym, ◌∙◌, ap, subst, append_assoc, Some, None, inl, inr, Ok, Err}
use Rattle.std.proofs.Common.{arith}
use Rattle.std.proofs.Common.{zero, suc, ◌+◌, ◌-◌, length-append}
use Rattle.std.specs.Prelude.{map, is_some, IfSome, fold, Result, OnOk, OnErr, IfErr}
use Rattle.std.specs.Prelude.{IsErrAnd}
use Rattle.std.specs.declared.option.Option.{Option}
use Rattle.std.specs.Option.{ForSome}
use Rattle.outside.specs.Causes.{next_count}
use Rattle.outside.specs.Disk.{Only, HasOneImage}
use Rattle.order_meaning.specs.declared.names.Names.{Names}
use Rattle.pair_entries.specs.declared.entry.Entry.{Entry}
use Rattle.pair_journal.specs.Calls.{BornOrNot}
use Rattle.gate_log.specs.Log.{OnlyRead}
use Rattle.kept_entries.specs.Numbers.{first_numbers}
use Rattle.kept_entries.specs.Days.{last_day, past_of, day_at, days_of}
use Rattle.kept_entries.specs.Entries.{DaysGoOn}
use Rattle.pair_journal.specs.Journal.{JournalOf, Unborn, Born, Refused}
use Rattle.kept_entries.proofs.Dating.{past-last}
use Rattle.order_meaning.specs.declared.Side.TheVariants.{Client, Venue}
use Rattle.pair_journal.specs.Laws.{HasOneReading}
use Rattle.message_answers.specs.Answer.{Answers}
use Rattle.gateway_config.specs.declared.config.Config.{Config}
use Rattle.wires.specs.Told.{GrowsBy}
use Rattle.wires.specs.Wire.{WireCall, HangUpGrows, is_within, within_after}
use Rattle.life_laws.specs.Sends.{hang_up_if}
use Rattle.life_laws.specs.Happens.{World, nothing}
use Rattle.life_laws.specs.Turn.{Reads}
use Rattle.life_laws.specs.Days.{DayEnded, DayLeft, all_added, OverDays, LastDay, LeavesDays}
use Rattle.life_laws.specs.Days.{days_after, transcript_after}
use Rattle.gateway_life.specs.declared.end.LifeEnd.{LifeEnd}
use Rattle.gateway_life.specs.declared.end.LifeEnd.TheVariants as ends
use Rattle.gateway_life.specs.State.{LifeState}
use Rattle.gateway_life.specs.Ready.{LeavesOf, IfTold, world_of}
use Rattle.gateway_life.specs.Stepped.{Records, records, IsOfEvent, IsNotDone, EndsEvent}
use Rattle.gateway_life.specs.Life.{Done, begun, rested, went_on, moment_of, LivesToEnd, LifeFails}
use Rattle.gateway_life.specs.Life.{LastFails, hung_up, MayNotBegin, Follows, ToItsEnd, ToAFailure}
use Rattle.gateway_life.specs.Life.{NotBegun}
use Rattle.gateway_life.specs.Life.{IsJournal, counted_on, IsAnswered, IfRefused, IsForeign}
use Rattle.gateway_life.specs.Laws.{LivesLeave, MessagesAreTaken}
use Rattle.gateway_life.specs.Lived.{Adds, told, Premises, IsLeft, IsIdle}
use Rattle.gateway_life.specs.Rounds.{StoodFor, AreTold, DaysFrom, LifeDone, LifeBroken, BeginsWith}
use Rattle.gateway_life.specs.Rounds.{Begins, IsUnbegun, IsUntouched, LifeWhole, LifeStopped}
use Rattle.wire_sends.proofs.Sendings.{fold-append, grows_none}
use Rattle.gateway_life.proofs.Telling.{leaves_from}
use Rattle.gateway_life.proofs.Beginning.{read_foreign, refused_of}
use Rattle.gateway_life.proofs.Accounting.{days_on, accounted}

-- ---- what is told

cancel : {A : Type 0} (xs ys zs : List A) → xs ++ ys ≡ xs ++ zs → ys ≡ zs
cancel [] ys zs is = is
cancel (x ∷ xs) ys zs is = cancel xs ys zs (cc is)

-- what was added to a list that is told is this
pub told_added : {A : Type 0} (a b : Option (List A)) (more xs ys did : List A) → GrowsBy a b more
    → a ≡ Some xs → b ≡ Some ys → ys ≡ xs ++ did → did ≡ more
told_added None b more xs ys did grows is_a is_b is = absurd (cc is_a)
told_added (Some a) None more xs ys did grows is_a is_b is = absurd (cc is_b)
told_added (Some a) (Some b) more xs ys did grows is_a is_b is =
    let first : a ≡ xs = cc is_a in
    let last : b ≡ ys = cc is_b in
    cancel xs did more (sym is ∙ sym last ∙ grows ∙ ap (λ l. l ++ more) first)

-- the same, where the wire was hung up behind it
pub hung_added : (a m b : Option (List WireCall)) (more xs ys did : List WireCall)
    → GrowsBy a m more → HangUpGrows m b → ForSome a (λ calls. is_within calls ≡ false)
    → a ≡ Some xs → b ≡ Some ys → ys ≡ xs ++ did → did ≡ hung_up more
hung_added None m b more xs ys did grows hung down is_a is_b is = absurd (cc is_a)
hung_added (Some a) None b more xs ys did grows hung down is_a is_b is = absurd (cc (hung, is_b))
hung_added (Some a) (Some m) None more xs ys did grows hung down is_a is_b is = absurd (cc is_b)
hung_added (Some a) (Some m) (Some b) more xs ys did grows hung down is_a is_b is =
    let first : a ≡ xs = cc is_a in
    let last : b ≡ ys = cc is_b in
    let within : is_within m ≡ is_within more =
    ap is_within grows ∙ fold-append false a more
    ∙ ap (λ u. fold within_after u more) (down a refl) in
    cancel xs did (hung_up more) (sym is ∙ sym last ∙ hung
    ∙ ap (λ u. m ++ hang_up_if u) within ∙ ap (λ l. l ++ hang_up_if (is_within more)) grows
    ∙ append_assoc a more (hang_up_if (is_within more))
    ∙ ap (λ l. l ++ hung_up more) first)

-- a wire that tells its record in the end told it before
pub hung_told : (m b : Option (List WireCall)) (ys : List WireCall) → HangUpGrows m b
    → b ≡ Some ys → is_some m ≡ true
hung_told None b ys hung is = absurd (cc (hung, is))
hung_told (Some m) b ys hung is = refl

-- ---- parts one after another

pub counted_step : (left count : ℕ) → 1 ≤ left
    → counted_on left count ≡ counted_on (left - 1) (next_count count)
counted_step zero count some = absurd (omega (arith, some))
counted_step (suc left) count some =
    ap (λ n. counted_on n (next_count count)) (let one : left ≡ suc left - 1 = omega arith in one)

pub counted_more : (left count new all first : ℕ) → 1 ≤ left → new ≡ next_count count
    → counted_on left count ≡ counted_on all first
    → counted_on (left - 1) new ≡ counted_on all first
counted_more left count new all first some is same =
    ap (counted_on (left - 1)) is ∙ sym (counted_step left count some) ∙ same

pub counted_none : (left count : ℕ) → left ≡ 0 → counted_on left count ≡ count
counted_none zero count none = refl
counted_none (suc left) count none = absurd (omega (arith, none))

pub one_more : (given : List ℕ) (m left all : ℕ) → length given + left ≡ all → 1 ≤ left
    → length (given ++ m ∷ []) + (left - 1) ≡ all
one_more given m left all is some = omega (arith, length-append given (m ∷ []), is, some)

-- ---- what is found in an image

abbrev pub Found : LifeEnd → Config → List Entry → (rounds : ℕ) → Done → List ℕ → Type 0
Found end config before rounds did image = (days : List DayEnded) × (left : DayLeft)
    × (entries : List Entry) × IsJournal config.names entries image
    × (end ≡ ends.Done → JournalOf image (Born config.names entries))
    × (entries ≡ went_on before days left.entries)
    × Follows end config before rounds did days left

-- the entries of an image are within their bounds, and their numbers go on day by day
pub sound_of : (names : Names) (entries : List Entry) (image : List ℕ)
    → IsJournal names entries image → DaysGoOn first_numbers entries
sound_of names entries image (inl born) = born.2.sound
sound_of names entries image (inr none) = subst (DaysGoOn first_numbers) (sym none.1) tt

-- ---- how a life begins

module _ (one : (image : List ℕ) → HasOneReading image) where
  pub same_journal : (names : Names) (bytes : List ℕ) (xs ys : List Entry)
      → IsJournal names xs bytes → IsJournal names ys bytes → xs ≡ ys
  same_journal names bytes xs ys (inl a) (inl b) =
      cc (one bytes (Born names xs) (Born names ys) a b)
  same_journal names bytes xs ys (inl a) (inr b) =
      absurd (cc (one bytes (Born names xs) Unborn a b.0))
  same_journal names bytes xs ys (inr a) (inl b) =
      absurd (cc (one bytes Unborn (Born names ys) a.0 b))
  same_journal names bytes xs ys (inr a) (inr b) = a.1 ∙ sym b.1

  not_refused : (names : Names) (bytes : List ℕ) (xs : List Entry) (at : ℕ)
      → IsJournal names xs bytes → JournalOf bytes (Refused at) → ⊥
  not_refused names bytes xs at (inl a) r = absurd (cc (one bytes (Born names xs) (Refused at) a r))
  not_refused names bytes xs at (inr a) r = absurd (cc (one bytes Unborn (Refused at) a.0 r))

  same_names : (names kept : Names) (bytes : List ℕ) (xs ys : List Entry) → IsJournal names xs bytes
      → JournalOf bytes (Born kept ys) → kept ≡ names
  same_names names kept bytes xs ys (inl a) k = cc (one bytes (Born kept ys) (Born names xs) k a)
  same_names names kept bytes xs ys (inr a) k = absurd (cc (one bytes (Born kept ys) Unborn k a.0))

  -- an image of a disk on which no life began
  pub unbegun_image : (names : Names) (bytes image : List ℕ) (before : List Entry)
      → IsJournal names before bytes
      → (JournalOf bytes Unborn → JournalOf image Unborn ⊎ JournalOf image (Born names []))
      → ((kept : Names) (entries : List Entry)
      → JournalOf bytes (Born kept entries) → JournalOf image (Born kept entries))
      → IsJournal names before image
  unbegun_image names bytes image before (inl born) unborn kept = inl (kept names before born)
  unbegun_image names bytes image before (inr none) unborn kept = at (unborn none.0)
    where
      at : JournalOf image Unborn ⊎ JournalOf image (Born names []) → IsJournal names before image
      at (inl u) = inr (u, none.1)
      at (inr b) = inl (subst (λ l. JournalOf image (Born names l)) (sym none.1) b)

  -- ---- how it ends

  module _ (config : Config) (rounds : ℕ) (bytes image : List ℕ) (before : List Entry)
      (journal : IsJournal config.names before bytes) (did : Done)
      (rc0 rc1 rv0 rv1 : Option (List WireCall)) (km0 km1 : Option (List ℕ))
      (c0 c1 v0 v1 : List WireCall) (k0 k1 : List ℕ)
      (ec0 : rc0 ≡ Some c0) (ec1 : rc1 ≡ Some c1) (ev0 : rv0 ≡ Some v0) (ev1 : rv1 ≡ Some v1)
      (ek0 : km0 ≡ Some k0) (ek1 : km1 ≡ Some k1) (dc : c1 ≡ c0 ++ did.client)
      (dv : v1 ≡ v0 ++ did.venue) (dk : k1 ≡ k0 ++ did.moments) where
    -- no connection stands when a life begins, so its framers stand for whatever was read
    stood_none : (xs : List Entry) (old : LifeState) (reads : Reads)
        → BeginsWith config (Some bytes) xs old → StoodFor old reads
    stood_none xs old reads begins = record {
      client = λ up. absurd (cc (ap (λ (w : World). w.client_up) begins.world, up));
      venue = λ up. absurd (cc (ap (λ (w : World). w.venue_up) begins.world, up));
    }

    world_is : (xs : List Entry) (old : LifeState) → BeginsWith config (Some bytes) xs old
        → world_of old.engine ≡ begun config (last_day before)
    world_is xs old begins = begins.world
        ∙ ap (λ es. begun config (last_day es))
        (same_journal config.names bytes xs before begins.journal journal)

    entries_are : (xs : List Entry) (old : LifeState) → BeginsWith config (Some bytes) xs old
        → old.engine.journal.entries ≡ before
    entries_are xs old begins =
        begins.entries ∙ same_journal config.names bytes xs before begins.journal journal

    -- days from the beginning of the life
    days_begun : (Last : List Entry → Option ℕ → Reads → World → List ℕ → Type 0) (xs : List Entry)
        (old : LifeState) (reads : Reads) (moments : List ℕ) (days : List DayEnded)
        → BeginsWith config (Some bytes) xs old
        → DaysFrom (Last old.engine.journal.entries) config old reads moments days
        → OverDays Answers config.names config.window config.reset (Last before) (rested config)
        (day_at (past_of before)) reads (begun config (last_day before)) moments days
    days_begun Last xs old reads moments days begins over =
        subst (λ es. OverDays Answers config.names config.window config.reset (Last es)
        (rested config) (day_at (past_of es)) reads (begun config (last_day before)) moments days)
        (entries_are xs old begins)
        (subst (λ (w : World). OverDays Answers config.names config.window config.reset
        (Last old.engine.journal.entries) (rested config)
        (day_at (past_of old.engine.journal.entries)) reads w moments days)
        (world_is xs old begins) over)

    went_from : (xs entries : List Entry) (old : LifeState) (days : List DayEnded)
        (present : List Entry) → BeginsWith config (Some bytes) xs old
        → entries ≡ went_on old.engine.journal.entries days present
        → entries ≡ went_on before days present
    went_from xs entries old days present begins is =
        is ∙ ap (λ es. went_on es days present) (entries_are xs old begins)

    pub ends_done : (old : LifeState) (xs entries : List Entry) (given : List ℕ) (last : ℕ)
        → BeginsWith config (Some bytes) xs old → length given ≡ rounds
        → GrowsBy km0 km1 (given ++ last ∷ [])
        → (life : LifeDone config old given last (records rc0 rv0) (records rc1 rv1) entries)
        → (entries ≡ went_on before life.days life.left.entries)
        × LivesToEnd config before rounds did life.days life.left
    ends_done old xs entries given last begins each moments life =
        let told : AreTold (records rc1 rv1) =
        record { client = ap is_some ec1; venue = ap is_some ev1 } in
        let all = all_added life.days life.left.added in (
          went_from xs entries old life.days life.left.entries begins life.goes_on,
          record {
            given = given;
            last = last;
            moments =
                told_added km0 km1 (given ++ last ∷ []) k0 k1 did.moments moments ek0 ek1 dk;
            each = each;
            lives = λ reads. days_begun (λ es. LastDay Answers config.names config.window
                config.reset (moment_of last) life.left) xs old reads (map moment_of given)
                life.days begins (life.lives told reads (stood_none xs old reads begins));
            client =
                told_added rc0 rc1 all.client c0 c1 did.client life.grew.client ec0 ec1 dc;
            venue = told_added rv0 rv1 all.venue v0 v1 did.venue life.grew.venue ev0 ev1 dv;
          },
        )

    pub life_fails : (end : LifeEnd) (rcm rvm : Option (List WireCall)) (old : LifeState)
        (xs entries : List Entry) (given : List ℕ) (last : ℕ)
        → ForSome rc0 (λ calls. is_within calls ≡ false)
        → ForSome rv0 (λ calls. is_within calls ≡ false)
        → HangUpGrows rcm rc1 → HangUpGrows rvm rv1
        → BeginsWith config (Some bytes) xs old → length given ≤ rounds
        → GrowsBy km0 km1 (given ++ last ∷ [])
        → (life : LifeBroken end config old rounds given last (records rc0 rv0) (records rcm rvm)
        entries)
        → (entries ≡ went_on before life.days life.left.entries)
        × LifeFails end config before rounds did life.days life.left
    life_fails end rcm rvm old xs entries given last cd vd ch vh begins most moments life =
        let told : AreTold (records rcm rvm) =
        record { client = hung_told rcm rc1 c1 ch ec1; venue = hung_told rvm rv1 v1 vh ev1 } in
        let all = all_added life.days life.left.added in (
          went_from xs entries old life.days life.left.entries begins life.goes_on,
          record {
            given = given;
            last = last;
            moments =
                told_added km0 km1 (given ++ last ∷ []) k0 k1 did.moments moments ek0 ek1 dk;
            most = most;
            fails = λ reads. days_begun (λ es. LastFails end config (went_on es life.days [])
                (moment_of last) life.left (length given ≡ rounds)) xs old reads
                (map moment_of (given ++ last ∷ [])) life.days begins
                (life.fails told reads (stood_none xs old reads begins));
            client = hung_added rc0 rcm rc1 all.client c0 c1 did.client life.grew.client ch cd ec0
                ec1 dc;
            venue = hung_added rv0 rvm rv1 all.venue v0 v1 did.venue life.grew.venue vh vd ev0 ev1
                dv;
          },
        )

    unbegun_did : (rcm rvm : Option (List WireCall)) (kmm : Option (List ℕ))
        → ForSome rc0 (λ calls. is_within calls ≡ false)
        → ForSome rv0 (λ calls. is_within calls ≡ false)
        → HangUpGrows rcm rc1 → HangUpGrows rvm rv1 → rcm ≡ rc0 → rvm ≡ rv0 → km1 ≡ km0
        → (did.client ≡ []) × (did.venue ≡ []) × (did.moments ≡ [])
    unbegun_did rcm rvm kmm cd vd ch vh sc sv sk = (
      hung_added rc0 rcm rc1 [] c0 c1 did.client
          (subst (λ r. GrowsBy rc0 r []) (sym sc) (grows_none rc0)) ch cd ec0 ec1 dc,
      hung_added rv0 rvm rv1 [] v0 v1 did.venue
          (subst (λ r. GrowsBy rv0 r []) (sym sv) (grows_none rv0)) vh vd ev0 ev1 dv,
      told_added km0 km1 [] k0 k1 did.moments
          (subst (λ r. GrowsBy km0 r []) (sym sk) (grows_none km0)) ek0 ek1 dk,
    )

    -- it did not begin
    pub ends_unbegun : (end : LifeEnd) (rcm rvm : Option (List WireCall))
        (image0 image1 : List ℕ → Type 0)
        → ForSome rc0 (λ calls. is_within calls ≡ false)
        → ForSome rv0 (λ calls. is_within calls ≡ false)
        → HangUpGrows rcm rc1 → HangUpGrows rvm rv1
        → IsUnbegun end config.names (Some bytes) image0 image1 (records rc0 rv0)
        (records rcm rvm) km0 km1
        → Only bytes image0 → image1 image → Found end config before rounds did image
    ends_unbegun end rcm rvm image0 image1 cd vd ch vh un only here =
        at end un.begins
      where
        nothing_did : (did.client ≡ []) × (did.venue ≡ []) × (did.moments ≡ [])
        nothing_did = unbegun_did rcm rvm km1 cd vd ch vh (ap (λ (r : Records). r.client) un.wires)
            (ap (λ (r : Records). r.venue) un.wires) un.clock

        left : IsJournal config.names before image
        left = let found = un.images only image here in
            unbegun_image config.names bytes image before journal found.0 found.1

        not_begun : (e : LifeEnd) → MayNotBegin e → (e ≡ ends.Done → ⊥)
            → Found e config before rounds did image
        not_begun e may not_done = (
          [],
          record { entries = last_day before; added = nothing },
          before,
          left,
          (λ done. absurd (not_done done)),
          sym (past-last before (sound_of config.names before bytes journal)),
          NotBegun may (record {
            client = nothing_did.0;
            venue = nothing_did.1;
            moments = nothing_did.2;
          }) refl refl refl,
        )

        at : (e : LifeEnd) → Begins {T = LifeState} (λ life. life.engine.journal.entries)
            config.names bytes (Err e)
            → Found e config before rounds did image
        at (ends.JournalRefused place) begins =
            absurd (not_refused config.names bytes before place journal begins)
        at (ends.NamesDiffer kept given) begins =
            absurd (begins.1 (same_names config.names kept bytes before begins.2 journal begins.3))
        at ends.DiskFault begins = not_begun ends.DiskFault tt (λ done. absurd (cc done))
        at ends.NoMemory begins = not_begun ends.NoMemory tt (λ done. absurd (cc done))
        at e begins = absurd begins

-- ---- the answer of a life

pub image_of : (told : Option (List ℕ)) (left : List ℕ → Type 0) (P : List ℕ → Type 0)
    (image : List ℕ) → is_some told ≡ true → ForSome told P → HasOneImage told left → left image
    → P image
image_of None left P image is stands one here = absurd (cc is)
image_of (Some b) left P image is stands one here =
    subst P (sym (one image here)) (stands b refl)

-- what was done, where both wires and the clock tell it
pub record Did (client0 client1 venue0 venue1 : Option (List WireCall))
    (clock0 clock1 : Option (List ℕ)) (did : Done) : Type 0 where
  pub client : Adds client0 client1 did.client
  pub venue : Adds venue0 venue1 did.venue
  pub clock : Adds clock0 clock1 did.moments

-- what a whole life says of each image
abbrev pub EndsOf : LifeEnd → Config → ℕ → Option (List ℕ) → (i0 i1 : List ℕ → Type 0)
    → (rc0 rc1 rv0 rv1 : Option (List WireCall)) → (km0 km1 : Option (List ℕ)) → Type 0
EndsOf end config rounds told i0 i1 rc0 rc1 rv0 rv1 km0 km1 = IfSome told (λ bytes.
    Only bytes i0 → (before : List Entry) → IsJournal config.names before bytes → (did : Done) →
    Did rc0 rc1 rv0 rv1 km0 km1 did → (image : List ℕ) → i1 image →
    Found end config before rounds did image)

-- what is said of bytes that are told holds of them
of_told : (told : Option (List ℕ)) (bytes : List ℕ) (P : List ℕ → Type 0) → told ≡ Some bytes
    → IfSome told P → P bytes
of_told None bytes P is h = absurd (cc is)
of_told (Some own) bytes P is h = let same : own ≡ bytes = cc is in subst P same h

pub images_by : LivesLeave → MessagesAreTaken → (end : LifeEnd) (config : Config) (rounds : ℕ)
    (b0 b1 : Option (List ℕ)) (i0 i1 : List ℕ → Type 0)
    (rc0 rc1 rv0 rv1 : Option (List WireCall)) (km0 km1 : Option (List ℕ)) (p0 p1 q0 q1 : ℕ)
    → EndsOf end config rounds b0 i0 i1 rc0 rc1 rv0 rv1 km0 km1
    → (given : Premises config.names i0 (told b0 rc0 rv0 km0 p0 q0) (told b1 rc1 rv1 km1 p1 q1))
    → (image : List ℕ) → i1 image
    → (days : List DayEnded) × (left : DayLeft) × (entries : List Entry)
    × IsLeft end config given.before rounds given.did days left image entries
images_by leave take end config rounds b0 b1 i0 i1 rc0 rc1 rv0 rv1 km0 km1 p0 p1 q0 q1
    ends given image here =
    let did : Did rc0 rc1 rv0 rv1 km0 km1 given.did =
    record { client = given.client; venue = given.venue; clock = given.clock } in
    let found = of_told b0 given.bytes _ given.tells ends given.only given.before given.journal
    given.did did image here in
    let days = found.0 in
    let left = found.1 in
    let entries = found.2 in (
      days,
      left,
      entries,
      record {
        journal = found.3;
        born = found.4;
        goes_on = found.5;
        follows = found.6;
        accounts = λ client venue before.
            let leaves = leave end config given.before days left client venue rounds given.did
            before found.6 in
            let over = days_on config.names given.before days left.entries _ _
            (sound_of config.names given.before given.bytes given.journal) leaves in
            let is : days_of entries ≡ days_after (days_of given.before) days left.entries =
            ap days_of found.5 ∙ over in
            accounted take config.names entries _ _
            (sound_of config.names entries image found.3)
            (subst (λ ds. LeavesDays Answers config.names ds
            (transcript_after Client client days left) (transcript_after Venue venue days left))
            (sym is) leaves);
      },
    )

module _ (one : (image : List ℕ) → HasOneReading image) where
  pub live_done : (config : Config) (rounds : ℕ) (t0 t1 : Option (List ℕ))
      (i0 i1 : List ℕ → Type 0) (rc0 rc1 rv0 rv1 : Option (List WireCall))
      (km0 km1 : Option (List ℕ)) → is_some t1 ≡ is_some t0
      → (HasOneImage t0 i0 → HasOneImage t1 i1)
      → IfTold t0 (LifeWhole config rounds t0 t1 (records rc0 rv0) (records rc1 rv1) km0 km1)
      → EndsOf ends.Done config rounds t0 i0 i1 rc0 rc1 rv0 rv1 km0 km1
  live_done config rounds None t1 i0 i1 rc0 rc1 rv0 rv1 km0 km1 told same life = tt
  live_done config rounds (Some b) t1 i0 i1 rc0 rc1 rv0 rv1 km0 km1 told same whole =
      λ only before journal did d image here.
      let life = whole refl in
      let born = image_of t1 i1 (λ c. JournalOf c (Born config.names life.entries)) image told
      life.stands (same only) here in
      let ends = ends_done one config rounds b image before journal did rc0 rc1 rv0 rv1 km0
      km1 d.client.0 (d.client.0 ++ did.client) d.venue.0 (d.venue.0 ++ did.venue) d.clock.0
      (d.clock.0 ++ did.moments) d.client.1 d.client.2 d.venue.1 d.venue.2 d.clock.1
      d.clock.2 refl refl refl life.old life.before life.entries life.given life.last
      life.begins life.each life.moments life.done in (
        life.done.days,
        life.done.left,
        life.entries,
        inl born,
        (λ done. born),
        ends.0,
        ToItsEnd refl ends.1,
      )

  pub live_ended : (end : LifeEnd) (config : Config) (rounds : ℕ) (told : Option (List ℕ))
      (i0 i1 : List ℕ → Type 0) (rc0 rcm rc1 rv0 rvm rv1 : Option (List WireCall))
      (km0 km1 : Option (List ℕ)) → ForSome rc0 (λ calls. is_within calls ≡ false)
      → ForSome rv0 (λ calls. is_within calls ≡ false) → HangUpGrows rcm rc1 → HangUpGrows rvm rv1
      → IsUnbegun end config.names told i0 i1 (records rc0 rv0) (records rcm rvm) km0 km1
      ⊎ LifeStopped end config rounds told i0 i1 (records rc0 rv0) (records rcm rvm) km0 km1
      → EndsOf end config rounds told i0 i1 rc0 rc1 rv0 rv1 km0 km1
  live_ended end config rounds None i0 i1 rc0 rcm rc1 rv0 rvm rv1 km0 km1 cd vd ch vh how = tt
  live_ended end config rounds (Some b) i0 i1 rc0 rcm rc1 rv0 rvm rv1 km0 km1 cd vd ch vh (inl un) =
      λ only before journal did d image here.
      ends_unbegun one config rounds b image before journal did rc0 rc1 rv0 rv1 km0 km1 d.client.0
      (d.client.0 ++ did.client) d.venue.0 (d.venue.0 ++ did.venue) d.clock.0
      (d.clock.0 ++ did.moments) d.client.1 d.client.2 d.venue.1 d.venue.2 d.clock.1 d.clock.2
      refl refl refl end rcm rvm i0 i1 cd vd ch vh un only here
  live_ended end config rounds (Some b) i0 i1 rc0 rcm rc1 rv0 rvm rv1 km0 km1 cd vd ch vh
      (inr stopped) =
      λ only before journal did d image here.
      let found = stopped.left only image here in
      let c0 = d.client.0 in
      let v0 = d.venue.0 in
      let k0 = d.clock.0 in
      let fails = life_fails one config rounds b image before journal did rc0 rc1 rv0 rv1 km0 km1
      c0 (c0 ++ did.client) v0 (v0 ++ did.venue) k0 (k0 ++ did.moments) d.client.1 d.client.2
      d.venue.1 d.venue.2 d.clock.1 d.clock.2 refl refl refl end rcm rvm stopped.old
      stopped.entries found.0 stopped.given stopped.last cd vd ch vh stopped.begins
      stopped.most stopped.moments found.2 in (
        found.2.days,
        found.2.left,
        found.0,
        inl found.1,
        (λ done. found.1),
        fails.0,
        ToAFailure fails.1,
      )

-- a life that did not begin
pub lived_unbegun : {T : Type 0} (r : Result T LifeEnd) (error : LifeEnd) (names : Names)
    (told : Option (List ℕ)) (i0 i1 : List ℕ → Type 0) (r0 : Records) (k0 : Option (List ℕ))
    (Q : LifeEnd → Type 0) → IsErrAnd r (λ e. e ≡ error)
    → IfSome told (λ b. Begins {T = LifeState} (λ life. life.engine.journal.entries) names b
    (Err error)) → BornOrNot told i0 i1 names
    → IfErr r (λ end. IsUnbegun end names told i0 i1 r0 r0 k0 k0 ⊎ Q end)
lived_unbegun (Ok value) error names told i0 i1 r0 k0 Q is begins images = tt
lived_unbegun (Err end) error names told i0 i1 r0 k0 Q is begins images = inl (record {
  wires = refl;
  clock = refl;
  begins = subst (λ (e : LifeEnd). IfSome told (λ b.
      Begins {T = LifeState} (λ life. life.engine.journal.entries) names b (Err e))) (sym is)
      begins;
  images = images;
})

pub lived_whole : {T : Type 0} (r : Result T LifeEnd) (config config' : Config) (rounds : ℕ)
    (t0 t1 t2 : Option (List ℕ)) (old new : LifeState) (r0 r1 : Records)
    (k0 k1 : Option (List ℕ)) → config' ≡ config
    → world_of old.engine ≡ begun config (last_day old.engine.journal.entries)
    → IfSome t0 (λ b. Begins {T = LifeState} (λ life. life.engine.journal.entries) config.names b
    (Ok old)) → is_some t1 ≡ is_some t0
    → OnOk r (ForSome t2 (λ b. JournalOf b (Born config'.names new.engine.journal.entries)))
    → OnOk r ((given : List ℕ) × (last : ℕ) × (length given ≡ rounds)
    × GrowsBy k0 k1 (given ++ last ∷ [])
    × IfTold t1 (LifeDone config' old given last r0 r1 new.engine.journal.entries))
    → OnOk r (IfTold t0 (LifeWhole config rounds t0 t2 r0 r1 k0 k1))
lived_whole (Err end) config config' rounds t0 t1 t2 old new r0 r1 k0 k1 same world begins told
    stands done = tt
lived_whole (Ok value) config config' rounds t0 t1 t2 old new r0 r1 k0 k1 same world begins told
    stands done = λ t. record {
      before = old.engine.journal.entries;
      old = old;
      begins = record { entries = refl; world = world; journal = begins };
      entries = new.engine.journal.entries;
      stands = subst (λ (k : Config).
          ForSome t2 (λ b. JournalOf b (Born k.names new.engine.journal.entries))) same stands;
      given = done.0;
      last = done.1;
      each = done.2;
      moments = done.3;
      done = subst (λ (k : Config). LifeDone k old done.0 done.1 r0 r1 new.engine.journal.entries)
          same (done.4 (told ∙ t));
    }

pub lived_stopped : {T : Type 0} (r : Result T LifeEnd) (config config' : Config) (rounds : ℕ)
    (t0 t1 : Option (List ℕ)) (i0 i1 i2 : List ℕ → Type 0) (old : LifeState) (r0 r1 : Records)
    (k0 k1 : Option (List ℕ)) (Q : LifeEnd → Type 0) → config' ≡ config
    → world_of old.engine ≡ begun config (last_day old.engine.journal.entries)
    → IfSome t0 (λ b. Begins {T = LifeState} (λ life. life.engine.journal.entries) config.names b
    (Ok old)) → is_some t1 ≡ is_some t0 → (HasOneImage t0 i0 → HasOneImage t1 i1)
    → IfErr r (EndsEvent t1) → IfErr r (λ end. (given : List ℕ) × (last : ℕ)
    × (length given ≤ rounds) × GrowsBy k0 k1 (given ++ last ∷ [])
    × LeavesOf t1 i1 i2 config'.names (LifeBroken end config' old rounds given last r0 r1))
    → IfErr r (λ end. Q end ⊎ LifeStopped end config rounds t0 i0 i2 r0 r1 k0 k1)
lived_stopped (Ok value) config config' rounds t0 t1 i0 i1 i2 old r0 r1 k0 k1 Q same world begins
    told one of_event ends = tt
lived_stopped (Err end) config config' rounds t0 t1 i0 i1 i2 old r0 r1 k0 k1 Q same world begins
    told one of_event ends = inr (record {
      of_event = λ t. of_event.of_event (told ∙ t);
      entries = old.engine.journal.entries;
      old = old;
      begins = record { entries = refl; world = world; journal = begins };
      given = ends.0;
      last = ends.1;
      most = ends.2;
      moments = ends.3;
      left = leaves_from t0 t1 i0 i1 i2 config.names config'.names
          (LifeBroken end config' old rounds ends.0 ends.1 r0 r1)
          (LifeBroken end config old rounds ends.0 ends.1 r0 r1) told one
          (ap (λ (k : Config). k.names) same)
          (λ xs broken. subst (λ (k : Config). LifeBroken end k old rounds ends.0 ends.1 r0 r1 xs)
          same broken) ends.4;
    })

-- ---- what is answered of a disk

pub answered_done : (names : Names) (told : Option (List ℕ)) (entries : List Entry)
    → IfSome told (IsJournal names entries) → IfSome told (IsAnswered ends.Done names)
answered_done names None entries h = tt
answered_done names (Some bytes) entries h = (entries, h)

by_begin : (end : LifeEnd) (names : Names) (bytes : List ℕ)
    → Begins {T = LifeState} (λ life. life.engine.journal.entries) names bytes (Err end)
    → IsAnswered end names bytes
by_begin (ends.JournalRefused at) names bytes h = h
by_begin (ends.NamesDiffer kept given) names bytes h = h
by_begin ends.DiskFault names bytes h = tt
by_begin ends.NoMemory names bytes h = tt
by_begin end names bytes h = absurd h

by_event : (end : LifeEnd) (names : Names) (bytes : List ℕ) (entries : List Entry) → IsOfEvent end
    → IsJournal names entries bytes → IsAnswered end names bytes
by_event ends.Done names bytes entries of h = absurd of
by_event (ends.JournalRefused at) names bytes entries of h = absurd of
by_event (ends.NamesDiffer kept given) names bytes entries of h = absurd of
by_event ends.DiskFault names bytes entries of h = tt
by_event ends.NoMemory names bytes entries of h = tt
by_event end names bytes entries of h = (entries, h)

pub answered_ended : (end : LifeEnd) (config : Config) (rounds : ℕ) (told : Option (List ℕ))
    (i0 i1 : List ℕ → Type 0) (r0 r1 : Records) (k0 k1 : Option (List ℕ))
    → IsUnbegun end config.names told i0 i1 r0 r1 k0 k1
    ⊎ LifeStopped end config rounds told i0 i1 r0 r1 k0 k1
    → IfSome told (IsAnswered end config.names)
answered_ended end config rounds None i0 i1 r0 r1 k0 k1 how = tt
answered_ended end config rounds (Some bytes) i0 i1 r0 r1 k0 k1 (inl un) =
    by_begin end config.names bytes un.begins
answered_ended end config rounds (Some bytes) i0 i1 r0 r1 k0 k1 (inr stopped) =
    by_event end config.names bytes stopped.entries (stopped.of_event refl) stopped.begins.journal

-- ---- nothing is done over a disk that is refused

-- a hang up where no connection stands adds nothing
hung_none : (a m b : Option (List WireCall)) → ForSome a (λ calls. is_within calls ≡ false)
    → HangUpGrows m b → m ≡ a → GrowsBy a b []
hung_none None m b down hung same =
    subst (λ (r : Option (List WireCall)). HangUpGrows r b) same hung
hung_none (Some a) m b down hung same =
    subst (λ u. GrowsBy (Some a) b (hang_up_if u)) (down a refl)
    (subst (λ (r : Option (List WireCall)). HangUpGrows r b) same hung)

pub idle_untouched : (b0 b1 : Option (List ℕ)) (i0 i1 : List ℕ → Type 0)
    (rc0 rcm rc1 rv0 rvm rv1 : Option (List WireCall)) (km0 km1 : Option (List ℕ))
    (p0 p1 q0 q1 : ℕ) → ForSome rc0 (λ calls. is_within calls ≡ false)
    → ForSome rv0 (λ calls. is_within calls ≡ false) → HangUpGrows rcm rc1 → HangUpGrows rvm rv1
    → IsUntouched (OnlyRead b0 b1 i0 i1) (records rc0 rv0) (records rcm rvm) km0 km1
    → IsIdle i0 i1 (told b0 rc0 rv0 km0 p0 q0) (told b1 rc1 rv1 km1 p1 q1)
idle_untouched b0 b1 i0 i1 rc0 rcm rc1 rv0 rvm rv1 km0 km1 p0 p1 q0 q1 cd vd ch vh un = record {
  disk = un.disk;
  client = hung_none rc0 rcm rc1 cd ch (ap (λ (r : Records). r.client) un.wires);
  venue = hung_none rv0 rvm rv1 vd vh (ap (λ (r : Records). r.venue) un.wires);
  clock = un.clock;
}

-- a life that is not done is not done
pub not_done : (end : LifeEnd) (P : Type 0) → IsNotDone end → end ≡ ends.Done → P
not_done end P not is = let none : ⊥ = subst IsNotDone is not in absurd none

pub if_refused : (P Q : Type 0) (end : LifeEnd) → (P → Q) → IfRefused end P → IfRefused end Q
if_refused P Q (ends.JournalRefused place) f p = f p
if_refused P Q (ends.NamesDiffer kept given) f p = f p
if_refused P Q end f p = tt

pub refused_if : (P : Type 0) (end : LifeEnd) → P → IfRefused end P
refused_if P (ends.JournalRefused place) p = p
refused_if P (ends.NamesDiffer kept given) p = p
refused_if P end p = tt

-- no event is what a disk is refused by
pub refused_not : (P : Type 0) (end : LifeEnd) → IsOfEvent end → IfRefused end P
refused_not P (ends.JournalRefused place) of = absurd of
refused_not P (ends.NamesDiffer kept given) of = absurd of
refused_not P end of = tt

pub refused_events : {T : Type 0} (P : Type 0) (r : Result T LifeEnd) (t0 t1 : Option (List ℕ))
    → is_some t1 ≡ is_some t0 → IfErr r (EndsEvent t1)
    → IfErr r (λ end. IfTold t0 (IfRefused end P))
refused_events P (Ok value) t0 t1 told of = tt
refused_events P (Err end) t0 t1 told of = λ t. refused_not P end (of.of_event (told ∙ t))

pub if_foreign : (P Q : Type 0) (names : Names) (told : Option (List ℕ)) → (P → Q)
    → IfSome told (λ b. IsForeign names b → P) → IfSome told (λ b. IsForeign names b → Q)
if_foreign P Q names None f h = tt
if_foreign P Q names (Some b) f h = λ foreign. f (h foreign)

-- bytes with entries of these names are not foreign
pub not_foreign : (P : Type 0) (names : Names) (told : Option (List ℕ)) (entries : List Entry)
    → IfSome told (IsJournal names entries) → IfSome told (λ b. IsForeign names b → P)
not_foreign P names None entries h = tt
not_foreign P names (Some b) entries h = λ foreign. absurd (foreign entries h)

pub begun_not_foreign : {T : Type 0} (P : Type 0) (r : Result T LifeEnd) (names : Names)
    (told : Option (List ℕ)) (entries : List Entry) → IfSome told (IsJournal names entries)
    → OnErr r (IfSome told (λ b. IsForeign names b → P))
begun_not_foreign P (Ok value) names told entries h = tt
begun_not_foreign P (Err end) names told entries h = not_foreign P names told entries h

pub unbegun_foreign : {T : Type 0} (R : Type 0) (r : Result T LifeEnd) (names : Names)
    (told : Option (List ℕ)) (rs : Records) (moments : Option (List ℕ))
    → IfSome told (λ b. JournalOf b Unborn ⊎ R)
    → OnErr r (IfSome told (λ b. IsForeign names b → IsUntouched R rs rs moments moments))
unbegun_foreign R (Ok value) names told rs moments h = tt
unbegun_foreign R (Err end) names told rs moments h = if_foreign R
    (IsUntouched R rs rs moments moments) names told
    (λ read. record { disk = read; wires = refl; clock = refl }) (read_foreign R names told h)

pub unbegun_refused : {T : Type 0} (R : Type 0) (r : Result T LifeEnd) (end : LifeEnd)
    (rs : Records) (moments : Option (List ℕ)) → IsErrAnd r (λ e. e ≡ end) → IfRefused end R
    → IfErr r (λ e. IfRefused e (IsUntouched R rs rs moments moments))
unbegun_refused R r end rs moments is h = refused_of (IsUntouched R rs rs moments moments) r end is
    (if_refused R (IsUntouched R rs rs moments moments) end
    (λ read. record { disk = read; wires = refl; clock = refl }) h)
