-- Lives one after another, one more at a time.
use Rattle.std.proofs.Common.{◌≡◌, ◌∙◌, ℕ, ◌+◌, ◌<◌, List, [], ◌∷◌, ◌++◌, length}
use Rattle.std.proofs.Common.{get_or, refl, sym, ap, subst, append_assoc, append-nil, arith, inr}
use Rattle.std.proofs.Common.{inl}
use Rattle.std.proofs.Common.{Result, Ok, Err, Some, ◌≢◌}
use Rattle.std.specs.Prelude.{⊤, IsErr}
use Rattle.std.specs.declared.option.Option.{Option}
use Rattle.std.specs.Io.KnownBytes.{Appends}
use Rattle.std.proofs.KnownBytes.{Appends-nil, Appends-trans}
use Rattle.std.proofs.lemmas.List.{length_push, take_all}
use Rattle.outside.specs.Bytes.{AppendsFront, PutAppends}
use Rattle.outside.proofs.Fronts.{appended_front}
use Rattle.wires.specs.Wire.{WireCall}
use Rattle.wires.specs.MemWire.{calls_told}
use Rattle.pair_entries.specs.declared.entry.Entry.{Entry}
use Rattle.gateway_config.specs.declared.config.Config.{Config}
use Rattle.gateway_life.specs.declared.end.LifeEnd.{LifeEnd}
use Rattle.gateway_life.specs.Life.{IsJournal}
use Rattle.gateway_life.specs.Watched.{WereCommitted}
use Rattle.message_answers.specs.Answer.{Answers}
use Rattle.kept_entries.specs.Days.{days_of}
use Rattle.life_laws.specs.Days.{LeavesDays}
use Rattle.gateway_life.specs.Laws.{AreShown, FirstLivesBegin}
use Rattle.drop_taps.specs.Shown.{TapState, HaveSeen}
use Rattle.order_meaning.specs.declared.names.Names.{Names}
use Rattle.drop_taps.proofs.Showing.{seen_none}
use Rattle.capture_text.specs.declared.capture.Capture.{Capture}
use Rattle.capture_text.specs.declared.capture.Event.{Event}
use Rattle.replay_lines.specs.declared.printing.PrintError.{PrintError}
use Rattle.replay_lines.specs.declared.printing.PrintError.TheVariants.{OutputFault, NoMemory}
use Rattle.replay_lines.specs.Pieces.{pieces_of}
use Rattle.replay_lines.specs.ReplayLines.{life_lines, last_lines}
use Rattle.capture_replay.specs.Replay.{Left, Played, after, nothing, IsPlayed, ArePlayed}
use Rattle.capture_replay.specs.Replay.{config_of}
use Rattle.capture_replay.specs.Replay.{end_name, lives_lines, entries_left, numbers_left}
use Rattle.capture_replay.specs.Replay.{Replays, WereAdded}
use Rattle.capture_replay.specs.Lived.{IsLived, LivesOn, left_after, SoFar}
use Rattle.capture_replay.specs.Rounds.{moment_after}
use Rattle.capture_replay.proofs.Added.{none_added}

-- the life of one pass of the loop
pub there_in : (all lives : List (List Event)) (i : ℕ) (item lines : List Event) → all ≡ lives
    → lines ≡ item → item ≡ get_or all i item → lines ≡ get_or lives i lines
there_in all lives i item lines same is at =
    subst (λ (l : List (List Event)). lines ≡ get_or l i lines) same
    (is ∙ at ∙ ap (λ (d : List Event). get_or all i d) (sym is))

pub within_in : (all lives : List (List Event)) (i : ℕ) → all ≡ lives → i < length all
    → i < length lives
within_in all lives i same within = subst (λ (l : List (List Event)). i < length l) same within

-- the lines of a life
abbrev pub lines_of : ℕ → Played → List ℕ
lines_of number life = life_lines number (pieces_of life.did.client) (pieces_of life.did.venue)
    (end_name life.end)

-- they are those of what was done on the wires
pub same_text : (number : ℕ) (life : Played) (client venue : List WireCall) (end : List ℕ)
    → client ≡ life.did.client → venue ≡ life.did.venue → end ≡ end_name life.end
    → life_lines number (pieces_of client) (pieces_of venue) end ≡ lines_of number life
same_text number life client venue end of_client of_venue of_end =
    ap (λ (c : List WireCall). life_lines number (pieces_of c) (pieces_of venue) end) of_client
    ∙ ap (λ (v : List WireCall). life_lines number (pieces_of life.did.client) (pieces_of v) end)
    of_venue
    ∙ ap (λ (e : List ℕ). life_lines number (pieces_of life.did.client)
    (pieces_of life.did.venue) e) of_end

-- what a wire tells that it did
pub told_is : (told : Option (List WireCall)) (calls did : List WireCall) → calls ≡ calls_told told
    → told ≡ Some did → calls ≡ did
told_is told calls did is some = is ∙ ap calls_told some

lines_more : (number : ℕ) (played : List Played) (life : Played)
    → lives_lines number (played ++ life ∷ [])
    ≡ lives_lines number played ++ lines_of (number + length played) life
lines_more number [] life = append-nil (lines_of number life)
    ∙ ap (λ (n : ℕ). lines_of n life) (omega arith)
lines_more number (first ∷ played) life =
    ap (λ (l : List ℕ). lines_of number first ++ l) (lines_more (number + 1) played life
    ∙ ap (λ (n : ℕ). lives_lines (number + 1) played ++ lines_of n life) (omega arith))
    ∙ sym (append_assoc (lines_of number first) (lives_lines (number + 1) played)
    (lines_of (number + length (first ∷ played)) life))

left_more : (left : Left) (played : List Played) (life : Played)
    → left_after left (played ++ life ∷ []) ≡ after (left_after left played) life
left_more left [] life = refl
left_more left (first ∷ played) life = left_more (after left first) played life

pub entries_are : (left : Left) (played : List Played)
    → entries_left left.entries played ≡ (left_after left played).entries
entries_are left [] = refl
entries_are left (life ∷ played) = entries_are (after left life) played

played_more : {T : Type 0} (state : T → TapState) (config : Config) (left : Left)
    (seen between now : List T) (lives : List (List Event)) (played : List Played)
    (lines : List Event) (life : Played) (more : List Entry) → length played < length lives
    → lines ≡ get_or lives (length played) lines
    → ArePlayed state config left seen lives played between
    → IsPlayed config lines (left_after left played) life
    → WereCommitted life.end ((left_after left played).entries ++ more) life.entries
    → HaveSeen state between now more
    → ArePlayed state config left seen lives (played ++ life ∷ []) now
played_more state config left seen between now [] played lines life more within there are is
    goes_on saw =
    absurd (omega (arith, within))
played_more state config left seen between now (first ∷ lives) [] lines life more within there are
    is goes_on saw = (
      subst (λ (l : List Event). IsPlayed config l left life) there is,
      now,
      more,
      goes_on,
      subst (λ (s : List _). HaveSeen state s now more) are saw,
      refl,
    )
played_more state config left seen between now (first ∷ lives) (one ∷ played) lines life more
    within there (is_one, mid, some, goes_one, saw_one, are) is goes_on saw = (
      is_one,
      mid,
      some,
      goes_one,
      saw_one,
      played_more state config (after left one) mid between now lives played lines life more
          (omega (arith, within)) there are is goes_on saw,
    )

module _ {T : Type 0} (state : T → TapState) (capture : Capture)
    (count clock : ℕ) (seen between now : List T) (image : List ℕ) (old new : Option (List ℕ))
    (so_far : SoFar state capture count clock seen between image old new)
    (lines : List Event) (life : Played) (more : List Entry)
    (within : count < length capture.lives) (there : lines ≡ get_or capture.lives count lines)
    (is : IsPlayed (config_of capture) lines (left_after nothing so_far.played) life)
    (goes_on : WereCommitted life.end ((left_after nothing so_far.played).entries ++ more)
    life.entries)
    (saw : HaveSeen state between now more) where
  -- with this life
  abbrev pub longer : List Played
  longer = so_far.played ++ life ∷ []

  pub are_longer : ArePlayed state (config_of capture) nothing seen capture.lives longer now
  are_longer = played_more state (config_of capture) nothing seen between now capture.lives
      so_far.played lines life more
      (subst (λ (n : ℕ). n < length capture.lives) (sym so_far.all) within)
      (there ∙ ap (λ (n : ℕ). get_or capture.lives n lines) (sym so_far.all))
      so_far.are is goes_on saw

  text_longer : lives_lines 1 longer ≡ lives_lines 1 so_far.played ++ lines_of (count + 1) life
  text_longer = lines_more 1 so_far.played life
      ∙ ap (λ (n : ℕ). lives_lines 1 so_far.played ++ lines_of n life)
      (let e = so_far.all in omega (arith, e))

  journal_longer : IsJournal capture.names (left_after nothing longer).entries life.image
  journal_longer = subst (λ (l : Left). IsJournal capture.names l.entries life.image)
      (sym (left_more nothing so_far.played life)) is.is_left.journal

  -- it was printed
  pub next_so_far : (next : Option (List ℕ)) → Appends new next (lines_of (count + 1) life)
      → SoFar state capture (count + 1) life.moment seen now life.image old next
  next_so_far next put = record {
    played = longer;
    all = let e = length_push so_far.played life in let f = so_far.all in omega (arith, e, f);
    are = are_longer;
    journal = journal_longer;
    leaves = subst (λ (l : Left).
        LeavesDays Answers capture.names (days_of l.entries) l.client l.venue)
        (sym (left_more nothing so_far.played life)) is.leaves;
    moment = ap (λ (l : Left). l.moment) (left_more nothing so_far.played life);
    put = subst (λ (l : List ℕ). Appends old next l) (sym text_longer)
        (Appends-trans old new next (lives_lines 1 so_far.played) (lines_of (count + 1) life)
        so_far.put put);
  }

  -- a front of it was
  pub front_longer : (next : Option (List ℕ)) → AppendsFront new next (lines_of (count + 1) life)
      → AppendsFront old next (lives_lines 1 longer)
  front_longer next put = subst (λ (l : List ℕ). AppendsFront old next l) (sym text_longer)
      (appended_front old new next (lives_lines 1 so_far.played) (lines_of (count + 1) life)
      so_far.put put)

  -- what was put of it, where its lines were not put whole
  pub cut_off : (told : Result ⊤ PrintError) → IsErr told → (error : PrintError)
      (result : Result ⊤ PrintError) (next : Option (List ℕ)) → result ≡ Err error
      → PutAppends new next result (lines_of (count + 1) life)
      → Replays state capture seen now told old next
  cut_off (Ok value) failed error result next is put = absurd (cc failed)
  cut_off (Err other) failed error result next is put = (
    longer,
    now,
    [],
    are_longer,
    seen_none state now,
    none_added capture.names (entries_left [] longer) life.image
        (subst (λ (es : List Entry). IsJournal capture.names es life.image)
        (sym (entries_are nothing longer)) journal_longer),
    inl (front_longer next (subst (λ (r : Result ⊤ PrintError).
        PutAppends new next r (lines_of (count + 1) life)) is put)),
  )

module _ {T : Type 0} (state : T → TapState) (capture : Capture) where
  -- nothing was played yet
  pub none_yet : (seen : List T) (image : List ℕ) (old : Option (List ℕ)) → FirstLivesBegin
      → image ≡ [] → SoFar state capture 0 0 seen seen image old old
  none_yet seen image old first none = record {
    played = [];
    all = refl;
    are = refl;
    journal = subst (λ (i : List ℕ). IsJournal capture.names [] i) (sym none)
        (inr (inl (omega arith), refl));
    leaves = first capture.names;
    moment = refl;
    put = Appends-nil old;
  }

  module _ (count clock : ℕ) (seen between now : List T) (image : List ℕ)
      (old new : Option (List ℕ))
      (so_far : SoFar state capture count clock seen between image old new) where
    -- a life over what they have left
    pub lived_on : (config : Config) (lines : List Event) (later : List T)
        (client venue : Option (List WireCall)) (end : LifeEnd) (left : List ℕ)
        → config ≡ config_of capture → AreShown capture.names
        → LivesOn state config lines clock image between later client venue end left
        → IsLived state (config_of capture) lines (left_after nothing so_far.played) between later
        client venue end left
    lived_on config lines later client venue end left is shown lives =
        subst (λ (k : Config). LivesOn state k lines clock image between later client venue end
        left) is lives (left_after nothing so_far.played) so_far.moment so_far.journal shown
        so_far.leaves

    module _ (lines : List Event) (client venue : Option (List WireCall)) (end : LifeEnd)
        (left : List ℕ) (client_calls venue_calls : List WireCall) (name : List ℕ)
        (within : count < length capture.lives) (there : lines ≡ get_or capture.lives count lines)
        (lived : IsLived state (config_of capture) lines (left_after nothing so_far.played) between
        now client venue end left) (of_client : client_calls ≡ calls_told client)
        (of_venue : venue_calls ≡ calls_told venue) (of_end : name ≡ end_name end) where
      abbrev life : Played
      life = record {
        did = lived.did;
        days = lived.days;
        left = lived.left;
        end = end;
        image = left;
        entries = lived.entries;
        moment = moment_after (left_after nothing so_far.played).moment lines;
      }

      text : life_lines (count + 1) (pieces_of client_calls) (pieces_of venue_calls) name
          ≡ lines_of (count + 1) life
      text = same_text (count + 1) life client_calls venue_calls name
          (told_is client client_calls lived.did.client of_client lived.client_told)
          (told_is venue venue_calls lived.did.venue of_venue lived.venue_told) of_end

      -- it was lived and printed
      pub gone_on : (later : ℕ) → later ≡ moment_after clock lines → (next : Option (List ℕ))
          → Appends new next
          (life_lines (count + 1) (pieces_of client_calls) (pieces_of venue_calls) name)
          → SoFar state capture (count + 1) later seen now left old next
      gone_on later is next put =
          subst (λ (m : ℕ). SoFar state capture (count + 1) m seen now left old next)
          (ap (λ (m : ℕ). moment_after m lines) so_far.moment ∙ sym is)
          (next_so_far state capture count clock seen between now image old new
          so_far lines life lived.more within there lived.played lived.committed lived.saw next
          (subst (λ (l : List ℕ). Appends new next l) text put))

      -- it was lived, and a front of its lines was put
      pub broken_off : (told : Result ⊤ PrintError) → IsErr told → (error : PrintError)
          (result : Result ⊤ PrintError) (next : Option (List ℕ)) → result ≡ Err error
          → PutAppends new next result
          (life_lines (count + 1) (pieces_of client_calls) (pieces_of venue_calls) name)
          → Replays state capture seen now told old next
      broken_off told failed error result next is put =
          cut_off state capture count clock seen between now image old new so_far lines life
          lived.more within there lived.played lived.committed lived.saw told failed error result
          next is (subst (λ (l : List ℕ). PutAppends new next result l) text put)

    -- the entries that they have left
    abbrev known : List Entry
    known = entries_left [] so_far.played

    abbrev last_of : List ℕ
    last_of = last_lines (length known) (numbers_left known)

    put_so_far : AppendsFront old new (lives_lines 1 so_far.played)
    put_so_far = (
      length (lives_lines 1 so_far.played),
      subst (λ (l : List ℕ). Appends old new l)
          (sym (take_all (length (lives_lines 1 so_far.played)) (lives_lines 1 so_far.played)
          (omega arith))) so_far.put,
    )

    stands : IsJournal capture.names known image
    stands = subst (λ (es : List Entry). IsJournal capture.names es image)
        (sym (entries_are nothing so_far.played)) so_far.journal

    -- it ended here, and the taps saw some entries more
    stopped : (told : Result ⊤ PrintError) → IsErr told → (more : List Entry)
        → HaveSeen state between now more → WereAdded capture.names known more
        → Replays state capture seen now told old new
    stopped (Ok value) failed more saw added = absurd (cc failed)
    stopped (Err error) failed more saw added =
        (so_far.played, between, more, so_far.are, saw, added, inl put_so_far)

    -- so it did within a life
    pub given_up : (config : Config) → config ≡ config_of capture → (told : Result ⊤ PrintError)
        → IsErr told → (more : List Entry) → HaveSeen state between now more
        → ((before : List Entry) → IsJournal config.names before image
        → WereAdded config.names before more) → Replays state capture seen now told old new
    given_up config is told failed more saw added = stopped told failed more saw
        (subst (λ (k : Config). WereAdded k.names known more) is (added known
        (subst (λ (k : Config). IsJournal k.names known image) (sym is) stands)))

    -- and so it did behind them
    pub left_off : (told : Result ⊤ PrintError) → IsErr told → between ≡ now
        → Replays state capture seen now told old new
    left_off told failed same = stopped told failed []
        (subst (λ (s : List T). HaveSeen state between s []) same (seen_none state between))
        (none_added capture.names known image stands)

    -- the last lines were put, or a front of them
    pub ended : (result : Result ⊤ PrintError) (next : Option (List ℕ)) (entries : ℕ)
        (numbers : ℕ × ℕ × ℕ × ℕ) → count ≡ length capture.lives → between ≡ now
        → ((names : Names) (left : List Entry) → IsJournal names left image
        → (entries ≡ length left) × (numbers ≡ numbers_left left))
        → (result ≢ Err NoMemory → PutAppends new next result (last_lines entries numbers))
        → (result ≡ Err NoMemory → next ≡ new)
        → Replays state capture seen now result old next
    ended result next entries numbers all same left put kept = by result refl
      where
        found : (entries ≡ length known) × (numbers ≡ numbers_left known)
        found = left capture.names known stands

        lines : last_lines entries numbers ≡ last_of
        lines = ap (λ (n : ℕ). last_lines n numbers) found.0
            ∙ ap (λ (n : ℕ × ℕ × ℕ × ℕ). last_lines (length known) n) found.1

        are : ArePlayed state (config_of capture) nothing seen capture.lives so_far.played now
        are = subst (λ (s : List T). ArePlayed state (config_of capture) nothing seen
            capture.lives so_far.played s) same so_far.are

        none : HaveSeen state now now []
        none = seen_none state now

        added : WereAdded capture.names known []
        added = none_added capture.names known image stands

        by : (r : Result ⊤ PrintError) → result ≡ r → Replays state capture seen now r old next
        by (Ok value) is = (
          so_far.played,
          so_far.all ∙ all,
          are,
          Appends-trans old new next (lives_lines 1 so_far.played) last_of so_far.put
              (subst (λ (l : List ℕ). Appends new next l) lines
              (subst (λ (r : Result ⊤ PrintError). PutAppends new next r
              (last_lines entries numbers)) is (put (λ no. absurd (cc (is, no)))))),
        )
        by (Err OutputFault) is = (
          so_far.played,
          now,
          [],
          are,
          none,
          added,
          inr (
            so_far.all ∙ all,
            appended_front old new next (lives_lines 1 so_far.played) last_of so_far.put
                (subst (λ (l : List ℕ). AppendsFront new next l) lines
                (subst (λ (r : Result ⊤ PrintError). PutAppends new next r
                (last_lines entries numbers)) is (put (λ no. absurd (cc (is, no)))))),
          ),
        )
        by (Err NoMemory) is = (
          so_far.played,
          now,
          [],
          are,
          none,
          added,
          inl (subst (λ (n : Option (List ℕ)). AppendsFront old n (lives_lines 1 so_far.played))
              (sym (kept is)) put_so_far),
        )
