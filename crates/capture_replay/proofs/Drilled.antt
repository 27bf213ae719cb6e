-- The day of a drill, from what is said of its life.
use Rattle.std.proofs.Common.{◌≡◌, ◌≢◌, ◌∙◌, ℕ, List, [], length, refl, sym, ap, subst, inl, inr}
use Rattle.std.proofs.Common.{Result, Ok, Err, All, arith, None, true}
use Rattle.std.specs.Prelude.{⊤, IsErrAnd}
use Rattle.std.specs.declared.option.Option.{Option}
use Rattle.std.specs.Io.KnownBytes.{Appends}
use Rattle.outside.specs.Bytes.{AppendsFront, PutAppends}
use Rattle.order_meaning.specs.declared.names.Names.{Names}
use Rattle.pair_entries.specs.declared.entry.Entry.{Entry}
use Rattle.wires.specs.Wire.{WireCall}
use Rattle.gateway_life.specs.declared.end.LifeEnd.{LifeEnd}
use Rattle.gateway_life.specs.declared.end.LifeEnd.TheVariants as ends
use Rattle.gateway_life.specs.Watched.{WereCommitted}
use Rattle.gateway_config.specs.declared.config.Config.{Config}
use Rattle.gateway_life.specs.Life.{IsJournal}
use Rattle.gateway_life.specs.Laws.{FirstLivesBegin}
use Rattle.drop_taps.specs.Shown.{TapState, HaveSeen}
use Rattle.capture_text.specs.declared.capture.Event.{Event}
use Rattle.capture_text.specs.Capture.{IsCapture}
use Rattle.capture_text.specs.Line.{IsBounded}
use Rattle.replay_lines.specs.declared.printing.PrintError.{PrintError}
use Rattle.replay_lines.specs.declared.printing.PrintError.TheVariants.{OutputFault, NoMemory}
use Rattle.drill_day.specs.Drill.{drill_names, drill_heart, drill_events, drill_capture, kinds_of}
use Rattle.replay_lines.specs.ReplayLines.{drill_lines}
use Rattle.capture_replay.specs.Replay.{Played, config_with, nothing, end_name, numbers_left}
use Rattle.capture_replay.specs.Replay.{WereAdded}
use Rattle.capture_replay.specs.Lived.{IsLived, LivesOn}
use Rattle.capture_replay.specs.Drills.{IsDrilled, Drills, lines_of_drill}
use Rattle.capture_replay.specs.Rounds.{moment_after}
use Rattle.capture_replay.specs.Stops.{may_end}
use Rattle.drop_taps.proofs.Showing.{seen_none}
use Rattle.capture_replay.proofs.EachLine.{all_bounded}
use Rattle.capture_replay.proofs.Shown.{are_shown}
use Rattle.capture_replay.proofs.Added.{both_added, none_added}

-- the disk is unborn
pub nothing_stands : (names : Names) → IsJournal names [] []
nothing_stands names = inr (inl (omega arith), refl)

-- it was not lived
pub undrilled : {T : Type 0} (state : T → TapState) (first count : ℕ) (taps : List T)
    (old : Option (List ℕ)) (told : Result ⊤ PrintError) → IsErrAnd told (λ e. e ≡ NoMemory)
    → Drills state first count taps taps told old old
undrilled state first count taps old (Ok value) is = absurd is
undrilled state first count taps old (Err error) is = subst
    (λ (e : PrintError). Drills state first count taps taps (Err e) old old) (sym is)
    ([], seen_none state taps, none_added drill_names [] [] (nothing_stands drill_names), refl)

-- its life was broken off, or what it left could not be read
pub unread : {T : Type 0} (state : T → TapState) (first count : ℕ) (seen now : List T)
    (config : Config) (names : Names) (heart : ℕ) (bytes : List ℕ) (old : Option (List ℕ))
    (told : Result ⊤ PrintError) (more : List Entry) → config ≡ config_with names heart None
    → names ≡ drill_names → bytes ≡ [] → HaveSeen state seen now more
    → ((before : List Entry) → IsJournal config.names before bytes
    → WereAdded config.names before more)
    → IsErrAnd told (λ e. e ≡ NoMemory) → Drills state first count seen now told old old
unread state first count seen now config names heart bytes old (Ok value) more is of_names none
    saw added failed = absurd failed
unread state first count seen now config names heart bytes old (Err error) more is of_names none
    saw added failed = subst
    (λ (e : PrintError). Drills state first count seen now (Err e) old old) (sym failed) (
      more,
      saw,
      subst (λ (n : Names). WereAdded n [] more) (ap (λ (k : Config). k.names) is ∙ of_names)
          (added [] (subst (λ (b : List ℕ). IsJournal config.names [] b) (sym none)
          (nothing_stands config.names))),
      refl,
    )

module _ {T : Type 0} (state : T → TapState) (first count : ℕ) (seen now : List T)
    (client venue : Option (List WireCall)) (end : LifeEnd) (image : List ℕ) (config : Config)
    (names : Names) (heart : ℕ) (lines : List Event) (bytes : List ℕ) (none : bytes ≡ [])
    (is : config ≡ config_with names heart None) (of_names : names ≡ drill_names)
    (of_heart : heart ≡ drill_heart) (of_lines : lines ≡ drill_events first count)
    (begin : FirstLivesBegin) (sound : IsCapture (drill_capture first count))
    (lives : LivesOn state config lines 0 bytes seen now client venue end image) where
  same : config ≡ config_with drill_names drill_heart None
  same = is ∙ ap (λ (n : Names). config_with n heart None) of_names
      ∙ ap (λ (h : ℕ). config_with drill_names h None) of_heart

  -- its day is lived as that of a capture
  pub day_lived : IsLived state (config_with drill_names drill_heart None)
      (drill_events first count) nothing seen now client venue end image
  day_lived =
      subst (λ (l : List Event). LivesOn state (config_with drill_names drill_heart None) l 0 []
      seen now client venue end image) of_lines
      (subst (λ (k : Config). LivesOn state k lines 0 [] seen now client venue end image) same
      (subst (λ (b : List ℕ). LivesOn state config lines 0 b seen now client venue end image) none
      lives))
      nothing refl (nothing_stands drill_names) (are_shown (drill_capture first count) sound)
      (begin drill_names)

  -- and leaves a journal
  pub day_left : (left : Names) × (entries : List Entry) × IsJournal left entries image
  day_left = (drill_names, _, day_lived.played.is_left.journal)

-- without a stop all that was committed was seen
all_committed : (end : LifeEnd) (known found : List Entry) → may_end None end ≡ true
    → WereCommitted end known found → found ≡ known
all_committed ends.Done known found whole were = were
all_committed ends.DiskFault known found whole were = absurd (cc whole)
all_committed (ends.JournalRefused at) known found whole were = were
all_committed (ends.NamesDiffer kept given) known found whole were = were
all_committed ends.JournalFull known found whole were = were
all_committed (ends.NumbersSpent side) known found whole were = were
all_committed ends.NoMemory known found whole were = were

-- its lines are within their bounds
pub day_bounded : (first count : ℕ) (lines : List Event) → lines ≡ drill_events first count
    → IsCapture (drill_capture first count) → All IsBounded lines
day_bounded first count lines is sound = subst (λ (l : List Event). All IsBounded l) (sym is)
    (all_bounded (drill_events first count)
    (sound.lives 0 (drill_events first count) (omega arith)))

module _ {T : Type 0} (state : T → TapState) (first count : ℕ) (seen now : List T)
    (client venue : Option (List WireCall)) (end : LifeEnd) (image : List ℕ)
    (lived : IsLived state (config_with drill_names drill_heart None) (drill_events first count)
    nothing seen now client venue end image) where
  abbrev life : Played
  life = record {
    did = lived.did;
    days = lived.days;
    left = lived.left;
    end = end;
    image = image;
    entries = lived.entries;
    moment = moment_after 0 (drill_events first count);
  }

  is : IsDrilled state first count seen now life
  is = record {
    played = lived.played;
    saw = subst (λ (es : List Entry). HaveSeen state seen now es)
        (sym (all_committed end lived.more lived.entries lived.played.whole lived.committed))
        lived.saw;
  }

  -- how many orders of each kind there are
  abbrev kinds_are : ℕ × ℕ × ℕ × ℕ
  kinds_are = let of = kinds_of first count in (of.filled, of.busted, of.corrected, of.rejected)

  stands : IsJournal drill_names lived.entries image
  stands = lived.played.is_left.journal

  pub drilled : (result : Result ⊤ PrintError) (old new : Option (List ℕ)) (entries : ℕ)
      (numbers kinds : ℕ × ℕ × ℕ × ℕ) (name : List ℕ) → kinds ≡ kinds_are → name ≡ end_name end
      → ((names : Names) (left : List Entry) → IsJournal names left image
      → (entries ≡ length left) × (numbers ≡ numbers_left left))
      → (result ≢ Err NoMemory → PutAppends old new result
      (drill_lines first count kinds name entries numbers))
      → (result ≡ Err NoMemory → new ≡ old) → Drills state first count seen now result old new
  drilled result old new entries numbers kinds name of of_end left put kept = by result refl
    where
      found : (entries ≡ length lived.entries)
          × (numbers ≡ numbers_left lived.entries)
      found = left drill_names lived.entries stands

      lines : drill_lines first count kinds name entries numbers
          ≡ lines_of_drill first count life
      lines = ap (λ (e : List ℕ). drill_lines first count kinds e entries numbers) of_end
          ∙ ap (λ (k : ℕ × ℕ × ℕ × ℕ). drill_lines first count k (end_name end) entries numbers)
          of
          ∙ ap (λ (n : ℕ). drill_lines first count kinds_are (end_name end) n numbers) found.0
          ∙ ap (λ (n : ℕ × ℕ × ℕ × ℕ). drill_lines first count kinds_are (end_name end)
          (length lived.entries) n) found.1

      by : (r : Result ⊤ PrintError) → result ≡ r → Drills state first count seen now r old new
      by (Ok value) is_ok = (
        life,
        is,
        subst (λ (l : List ℕ). Appends old new l) lines
            (subst (λ (r : Result ⊤ PrintError). PutAppends old new r
            (drill_lines first count kinds name entries numbers)) is_ok
            (put (λ no. absurd (cc (is_ok, no))))),
      )
      by (Err OutputFault) is_err = (
        life,
        is,
        subst (λ (l : List ℕ). AppendsFront old new l) lines
            (subst (λ (r : Result ⊤ PrintError). PutAppends old new r
            (drill_lines first count kinds name entries numbers)) is_err
            (put (λ no. absurd (cc (is_err, no))))),
      )
      by (Err NoMemory) is_err = (
        lived.entries,
        is.saw,
        both_added drill_names [] lived.entries lived.entries image stands refl,
        kept is_err,
      )
