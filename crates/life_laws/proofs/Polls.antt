-- What a poll does to what was written and read on a side.
use Rattle.std.proofs.Common.{◌≡◌, ℕ, Bool, true, List, [], ◌∷◌, ◌++◌, refl, sym, ◌∙◌, ap, subst}
use Rattle.std.proofs.Common.{append_assoc, append-nil}
use Rattle.std.specs.List.{flat_map}
use Rattle.std.proofs.lemmas.Grind.{flat_map-append}
use Rattle.order_meaning.specs.declared.Side.{Side}
use Rattle.order_meaning.specs.declared.Side.TheVariants.{Client, Venue}
use Rattle.order_meaning.specs.declared.names.Names.{Names}
use Rattle.pair_entries.specs.declared.entry.Entry.{Entry}
use Rattle.wires.specs.Wire as wire
use Rattle.wires.specs.Wire.{Came, Connection, change_last, may_come, add_read}
use Rattle.session_frames.specs.Frames.{kind_of}
use Rattle.life_laws.specs.Justified.{transcript_from, first_numbers_of, EachOnce, ShowsAll}
use Rattle.life_laws.specs.Bodies.{bodies_of, bodies_read}
use Rattle.life_laws.specs.Forms.{Form, form_frame}
use Rattle.life_laws.specs.Standing.{LastIsWhole, Standing}
use Rattle.life_laws.specs.Turn.{up_after, LastRead, AreNew}

abbrev pub new_link : Connection
new_link = record { read = []; written = [] }

-- bytes come within a connection alone
pub bytes_up : (up : Bool) (bytes : List ℕ) → may_come up (wire.Bytes bytes) ≡ true → up ≡ true
bytes_up up [] may = absurd (cc may)
bytes_up up (byte ∷ bytes) may = may

no-bodies : (side : Side) → bodies_of (kind_of side) [] ≡ []
no-bodies Client = refl
no-bodies Venue = refl

bodies-open : (side : Side) (links : List Connection) → bodies_read side (links ++ new_link ∷ [])
    ≡ bodies_read side links
bodies-open side links =
    flat_map-append (λ (link : Connection). bodies_of (kind_of side) link.read) links
    (new_link ∷ []) ∙ ap (λ l. bodies_read side links ++ (l ++ [])) (no-bodies side)
    ∙ append-nil (bodies_read side links)

bodies-bytes : (side : Side) (bytes read : List ℕ) (more : List (List ℕ))
    → bodies_of (kind_of side) (read ++ bytes) ≡ bodies_of (kind_of side) read ++ more
    → (links : List Connection) → LastRead links read
    → bodies_read side (change_last (add_read bytes) links) ≡ bodies_read side links ++ more
bodies-bytes side bytes read more new [] last = absurd last
bodies-bytes side bytes read more new (link ∷ []) last =
    append-nil (bodies_of (kind_of side) (link.read ++ bytes))
    ∙ ap (λ l. bodies_of (kind_of side) (l ++ bytes)) last ∙ new
    ∙ ap (λ l. bodies_of (kind_of side) l ++ more) (sym last)
    ∙ ap (λ l. l ++ more) (sym (append-nil (bodies_of (kind_of side) link.read)))
bodies-bytes side bytes read more new (link ∷ next ∷ links) last =
    ap (λ l. bodies_of (kind_of side) link.read
    ++ l) (bodies-bytes side bytes read more new (next ∷ links) last)
    ∙ sym (append_assoc (bodies_of (kind_of side) link.read) (bodies_read side
    (next ∷ links)) more)

module _ (names : Names) (side : Side) (entries : List Entry) where
  abbrev T : Form → List ℕ
  T f = form_frame names side f

  shows-open : (links : List Connection) (forms : List (List Form))
      → ShowsAll names entries side links forms → ShowsAll names entries side (links
      ++ new_link ∷ []) (forms ++ [] ∷ [])
  shows-open [] [] shows = (tt, ([], refl), tt)
  shows-open (link ∷ links) (fs ∷ forms) shows = (shows.0, shows.1, shows-open links forms shows.2)
  shows-open links forms shows = absurd shows

  whole-open : (links : List Connection) (forms : List (List Form))
      → ShowsAll names entries side links forms → LastIsWhole T (links ++ new_link ∷ []) (forms
      ++ [] ∷ [])
  whole-open [] [] shows = refl
  whole-open (link ∷ []) (fs ∷ []) shows = refl
  whole-open (link ∷ []) (fs ∷ gs ∷ forms) shows = absurd shows.2
  whole-open (link ∷ next ∷ links) (fs ∷ []) shows = absurd shows.2
  whole-open (link ∷ next ∷ links) (fs ∷ gs ∷ forms) shows =
      whole-open (next ∷ links) (gs ∷ forms) shows.2
  whole-open links forms shows = absurd shows

  shows-bytes : (bytes : List ℕ) (links : List Connection) (forms : List (List Form))
      → ShowsAll names entries side links forms → ShowsAll names entries side (change_last
      (add_read bytes) links) forms
  shows-bytes bytes [] forms shows = shows
  shows-bytes bytes (link ∷ links) [] shows = absurd shows
  shows-bytes bytes (link ∷ []) (fs ∷ forms) shows = shows
  shows-bytes bytes (link ∷ next ∷ links) (fs ∷ forms) shows = (
    shows.0,
    shows.1,
    shows-bytes bytes (next ∷ links) forms shows.2,
  )

  whole-bytes : (bytes : List ℕ) (links : List Connection) (forms : List (List Form))
      → LastIsWhole T links forms → LastIsWhole T (change_last (add_read bytes) links) forms
  whole-bytes bytes [] forms whole = whole
  whole-bytes bytes (link ∷ links) [] whole = absurd whole
  whole-bytes bytes (link ∷ []) (fs ∷ forms) whole = whole
  whole-bytes bytes (link ∷ next ∷ []) (fs ∷ forms) whole = whole-bytes bytes
      (next ∷ []) forms whole
  whole-bytes bytes (link ∷ next ∷ other ∷ links) (fs ∷ forms) whole = whole-bytes bytes
      (next ∷ other ∷ links) forms whole

  once-open : (forms : List (List Form)) → flat_map first_numbers_of (forms ++ [] ∷ [])
      ≡ flat_map first_numbers_of forms
  once-open forms = flat_map-append first_numbers_of forms ([] ∷ [])
      ∙ append-nil (flat_map first_numbers_of forms)

  pub poll-keeps : (links : List Connection) (up : Bool) (came : Came) (read : List ℕ)
      (bodies : List (List ℕ)) → may_come up came ≡ true → (up ≡ true → LastRead links read)
      → AreNew side read came bodies
      → Standing names entries side links up [] → Standing names entries side
      (transcript_from links (wire.Poll came ∷ [])) (up_after up came) bodies
  poll-keeps links up wire.Nothing read bodies may last new s = subst
      (λ b. Standing names entries side links up b) (sym new) s
  poll-keeps links up wire.Opened read bodies may last new s = record {
    forms = s.forms ++ [] ∷ [];
    shows = shows-open links s.forms s.shows;
    once = subst EachOnce (sym (once-open s.forms)) s.once;
    whole = λ e. whole-open links s.forms s.shows;
    done = s.done;
    bodies = bodies-open side links ∙ s.bodies ∙ ap (λ l. s.done ++ l) (sym new);
    tooks = s.tooks;
  }
  poll-keeps links up (wire.Bytes bytes) read bodies may last new s = record {
    forms = s.forms;
    shows = shows-bytes bytes links s.forms s.shows;
    once = s.once;
    whole = λ e. whole-bytes bytes links s.forms (s.whole e);
    done = s.done;
    bodies = bodies-bytes side bytes read bodies new links (last (bytes_up up bytes may))
        ∙ ap (λ l. l ++ bodies) (s.bodies ∙ append-nil s.done);
    tooks = s.tooks;
  }
  poll-keeps links up came read bodies may last new s = record {
    forms = s.forms;
    shows = s.shows;
    once = s.once;
    whole = λ e. absurd (cc e);
    done = s.done;
    bodies = s.bodies ∙ ap (λ l. s.done ++ l) (sym new);
    tooks = s.tooks;
  }
