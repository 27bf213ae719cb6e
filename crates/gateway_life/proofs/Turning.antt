-- Events one after another, and what a poll found.
use Rattle.std.proofs.Common.{◌≡◌, true, false, List, ◌∷◌, ◌++◌, refl, sym, Ok, Err, [], ℕ, ◌∙◌, ap}
use Rattle.std.proofs.Common.{subst, append_assoc, append-nil}
use Rattle.std.specs.List.{filter_map}
use Rattle.std.specs.Prelude.{IsErrAnd, Result}
use Rattle.wires.specs.Wire as wire
use Rattle.wires.specs.Wire.{Came}
use Rattle.order_meaning.specs.declared.Side.{Side}
use Rattle.frame_grammar.specs.declared.frame.Garble.{Garble}
use Rattle.frame_grammar.specs.Cut.{Piece, Good, Bad, ComeFirst, Cut}
use Rattle.frame_grammar.specs.Held.{Held}
use Rattle.frame_grammar.specs.Framer.{StandsFor}
use Rattle.session_frames.specs.Frames.{kind_of}
use Rattle.pair_entries.specs.declared.entry.Entry.{Entry}
use Rattle.event_decisions.specs.Event.{Event, Frame}
use Rattle.message_answers.specs.Answer.{Answers}
use Rattle.life_laws.specs.Bodies.{bodies_of, body_of}
use Rattle.life_laws.specs.Happens.{World, Added, nothing, up_on}
use Rattle.life_laws.specs.Turn.{both, counts, HappensIf, AllHappen, read_after}
use Rattle.life_laws.specs.Turn.{AreNew}
use Rattle.gateway_config.specs.declared.config.Config.{Config}
use Rattle.wire_sends.proofs.Sendings.{grows_append, grows_none}
use Rattle.gateway_life.specs.declared.end.LifeEnd.{LifeEnd}
use Rattle.gateway_life.specs.Stepped.{Records, Grew, Stepped, AllStepped, Broken, Failed}
use Rattle.gateway_life.specs.Turned.{Arrived, StandsWhole, Answered, UnlessOpened, IfBytes, Took}
use Rattle.gateway_life.specs.Turned.{AnsweredAll}
use Rattle.gateway_life.proofs.Cutting.{bodies_cut, bodies_more, bodies_come, none_first}

pub grew_append : (a b c : Records) (x y : Added) → Grew a b x → Grew b c y
    → Grew a c (both x y)
grew_append a b c x y h k = record {
  client = grows_append a.client b.client c.client x.client y.client h.client k.client;
  venue = grows_append a.venue b.venue c.venue x.venue y.venue h.venue k.venue;
}

pub grew_none : (r : Records) → Grew r r nothing
grew_none r = record { client = grows_none r.client; venue = grows_none r.venue }

pub both_end : (b : Added) → both nothing b ≡ both b nothing
both_end b = λ i. record {
  client = sym (append-nil b.client) i;
  venue = sym (append-nil b.venue) i;
}

pub both_three : (p q r : Added) → both (both p q) r ≡ both p (both q r)
both_three p q r = λ i. record {
  client = append_assoc p.client q.client r.client i;
  venue = append_assoc p.venue q.venue r.venue i;
}

module _ (config : Config) where
  abbrev All : World → List Event → ℕ → Added → World → Type 0
  All = AllHappen Answers config.names config.window

  happen_append : (events more : List Event) (now : ℕ) (w m x : World) (a b : Added)
      → All w events now a m → All m more now b x → All w (events ++ more) now (both a b) x
  happen_append [] more now w m x a b all rest =
      subst (λ (y : Added). All w more now (both y b) x) (sym all.0)
      (subst (λ (y : World). All y more now b x) all.1 rest)
  happen_append (event ∷ events) more now w m x a b all rest = (
    all.0,
    all.1,
    both all.2 b,
    all.3,
    happen_append events more now all.1 m x all.2 b all.4 rest,
    ap (λ (y : Added). both y b) all.5 ∙ both_three all.0 all.2 b,
  )

  pub all_none : (w : World) (now : ℕ) (r : Records) → AllStepped config w [] now w r r
  all_none w now r = record { added = nothing; grew = grew_none r; happen = (refl, refl) }

  pub all_append : (w m x : World) (events more : List Event) (now : ℕ) (r0 r1 r2 : Records)
      → AllStepped config w events now m r0 r1 → AllStepped config m more now x r1 r2
      → AllStepped config w (events ++ more) now x r0 r2
  all_append w m x events more now r0 r1 r2 all rest = record {
    added = both all.added rest.added;
    grew = grew_append r0 r1 r2 all.added rest.added all.grew rest.grew;
    happen = happen_append events more now w m x all.added rest.added all.happen rest.happen;
  }

  -- a frame of a connection that has ended
  pub passed_over : (w : World) (side : Side) (body : List ℕ) (now : ℕ) (r : Records)
      → up_on side w ≡ false → AllStepped config w (Frame side body ∷ []) now w r r
  passed_over w side body now r down = record {
    added = nothing;
    grew = grew_none r;
    happen = (
      nothing,
      w,
      nothing,
      subst (λ b. HappensIf Answers config.names config.window b w (Frame side body) now nothing w)
          (sym down) (refl, refl),
      (refl, refl),
      refl,
    );
  }

  -- one event alone
  pub all_one : (w x : World) (event : Event) (now : ℕ) (r0 r1 : Records) → counts w event ≡ true
      → Stepped config w event now x r0 r1 → AllStepped config w (event ∷ []) now x r0 r1
  all_one w x event now r0 r1 is_so step = record {
    added = step.added;
    grew = step.grew;
    happen = (
      step.added,
      x,
      nothing,
      subst (λ b. HappensIf Answers config.names config.window b w event now step.added x)
          (sym is_so) step.happens,
      (refl, refl),
      both_end step.added,
    );
  }

  -- it ended the life
  pub failed_one : (end : LifeEnd) (past : List Entry) (w : World) (event : Event) (now : ℕ)
      (r0 r1 : Records) (entries : List Entry) → counts w event ≡ true
      → Broken end config past w event now r0 r1 entries
      → Failed end config past w (event ∷ []) now r0 r1 entries
  failed_one end past w event now r0 r1 entries is_so broken = record {
    first = [];
    last = event;
    rest = [];
    split = refl;
    mid = w;
    between = r0;
    all = all_none w now r0;
    counted = is_so;
    broken = broken;
  }

  -- others came before
  pub failed_behind : (end : LifeEnd) (past : List Entry) (w m : World) (events more : List Event)
      (now : ℕ) (r0 r1 r2 : Records) (entries : List Entry)
      → AllStepped config w events now m r0 r1 → Failed end config past m more now r1 r2 entries
      → Failed end config past w (events ++ more) now r0 r2 entries
  failed_behind end past w m events more now r0 r1 r2 entries all f = record {
    first = events ++ f.first;
    last = f.last;
    rest = f.rest;
    split = ap (λ l. events ++ l) f.split ∙ sym (append_assoc events f.first (f.last ∷ f.rest));
    mid = f.mid;
    between = f.between;
    all = all_append w m f.mid events f.first now r0 r1 f.between all f.all;
    counted = f.counted;
    broken = f.broken;
  }

  -- others were to come
  pub failed_before : (end : LifeEnd) (past : List Entry) (w : World) (events more : List Event)
      (now : ℕ) (r0 r1 : Records) (entries : List Entry)
      → Failed end config past w events now r0 r1 entries
      → Failed end config past w (events ++ more) now r0 r1 entries
  failed_before end past w events more now r0 r1 entries f = record {
    first = f.first;
    last = f.last;
    rest = f.rest ++ more;
    split = ap (λ l. l ++ more) f.split ∙ append_assoc f.first (f.last ∷ f.rest) more;
    mid = f.mid;
    between = f.between;
    all = f.all;
    counted = f.counted;
    broken = f.broken;
  }

-- ---- the frames of a side

pub answered_none : (held : Held) → Answered held held []
answered_none held stream answered stands = (
  [],
  subst (StandsFor held stream) (sym (append-nil answered)) stands,
  refl,
)

-- one piece more
module _ (old mid new : Held) (bodies : List (List ℕ)) (before : Answered old mid bodies) where
  piece_more : (piece : Piece) (body : List (List ℕ)) (stream : List ℕ) (answered : List Piece)
      (stands : StandsFor old stream answered)
      → StandsFor new stream (answered ++ (before stream answered stands).0 ++ piece ∷ [])
      → filter_map body_of (piece ∷ []) ≡ body
      → (more : List Piece) × StandsFor new stream (answered ++ more)
      × (filter_map body_of more ≡ bodies ++ body)
  piece_more piece body stream answered stands here is =
      let done = before stream answered stands in (
        done.0 ++ piece ∷ [],
        subst (StandsFor new stream) (append_assoc answered done.0 (piece ∷ [])) here,
        bodies_more done.0 (piece ∷ []) ∙ ap (λ l. l ++ filter_map body_of (piece ∷ [])) done.2
            ∙ ap (λ l. bodies ++ l) is,
      )

  pub answered_more : (body : List ℕ)
      → ((stream : List ℕ) (answered : List Piece) → StandsFor mid stream answered
      → (bytes : List ℕ) × StandsFor new stream (answered ++ Good body bytes ∷ []))
      → Answered old new (bodies ++ body ∷ [])
  answered_more body found stream answered stands =
      let done = before stream answered stands in
      let here = found stream (answered ++ done.0) done.1 in
      piece_more (Good body here.0) (body ∷ []) stream answered stands here.1 refl

  -- a garbled piece
  pub answered_same : ((stream : List ℕ) (answered : List Piece) → StandsFor mid stream answered
      → (cause : Garble) × (bytes : List ℕ)
      × StandsFor new stream (answered ++ Bad cause bytes ∷ []))
      → Answered old new bodies
  answered_same found stream answered stands =
      let done = before stream answered stands in
      let here = found stream (answered ++ done.0) done.1 in
      let more = piece_more (Bad here.0 here.1) [] stream answered stands here.2 refl in
      (more.0, more.1, more.2 ∙ append-nil bodies)

  -- no more came whole
  pub answered_all : ((stream : List ℕ) (answered : List Piece) → StandsFor mid stream answered
      → StandsFor new stream answered × ((rest : List ℕ) × Cut new.kind stream answered rest))
      → AnsweredAll old new bodies
  answered_all more stream answered stands =
      let done = before stream answered stands in
      let here = more stream (answered ++ done.0) done.1 in
      (done.0, here.1.0, here.0, here.1.1, done.2)

-- a frame ended the life
pub took_err : {V : Type 0} (r : Result V LifeEnd) (error : LifeEnd) (old new : Held)
    (bodies : List (List ℕ)) → IsErrAnd r (λ e. e ≡ error) → new.kind ≡ old.kind
    → Answered old new bodies → Took old new bodies r
took_err (Ok value) error old new bodies is kind done = absurd is
took_err (Err end) error old new bodies is kind done = record {
  all = tt;
  first = λ stream answered stands.
      let all = done stream answered stands in (
        all.0,
        all.1.dropped ++ new.unread,
        subst (λ k. ComeFirst k stream (answered ++ all.0) (all.1.dropped ++ new.unread)) kind
            all.1.come,
        all.2,
      );
}

-- ---- what a poll found

-- an event of the connection, which brought no bodies
pub arrived_alone : {V : Type 0} (side : Side) (old new : Held) (came came' : Came)
    (r : Result V LifeEnd) → came ≡ came'
    → ((read : List ℕ) → IfBytes came' (StandsWhole old read) → AreNew side read came' [])
    → ((read : List ℕ) → UnlessOpened came' (StandsWhole old read)
    → StandsWhole new (read_after read came'))
    → Arrived side old new came [] r
arrived_alone {V = V} side old new came came' r is none stands =
    subst (λ (c : Came). Arrived side old new c [] r) (sym is) (at r)
  where
    at : (q : Result V LifeEnd) → Arrived side old new came' [] q
    at (Ok value) = record { new = none; stands = stands; first = tt }
    at (Err end) = record { new = tt; stands = tt; first = λ read h. ([], none read h) }

-- a connection that opened
pub opened_whole : (new : Held) → StandsFor new [] [] → StandsWhole new []
opened_whole new fresh = record {
  pieces = [];
  rest = [];
  cut = (refl, none_first new.kind);
  stands = fresh;
}

-- bytes
module _ (side : Side) (old fed new : Held) (bytes : List ℕ) (bodies : List (List ℕ))
    (kind : old.kind ≡ kind_of side) (kind' : fed.kind ≡ kind_of side)
    (feed : (stream : List ℕ) (answered : List Piece) → StandsFor old stream answered
    → StandsFor fed (stream ++ bytes) answered) where
  read_before : (read : List ℕ) (whole : StandsWhole old read)
      → bodies_of (kind_of side) read ≡ filter_map body_of whole.pieces
  read_before read whole = bodies_cut (kind_of side) read whole.pieces whole.rest
      (subst (λ k. Cut k read whole.pieces whole.rest) kind whole.cut)

  joined : (read : List ℕ) (whole : StandsWhole old read) (more : List Piece)
      → filter_map body_of more ≡ bodies
      → filter_map body_of (whole.pieces ++ more) ≡ bodies_of (kind_of side) read ++ bodies
  joined read whole more is = bodies_more whole.pieces more
      ∙ ap (λ l. l ++ filter_map body_of more) (sym (read_before read whole))
      ∙ ap (λ l. bodies_of (kind_of side) read ++ l) is

  pub arrived_bytes : {V : Type 0} (r : Result V LifeEnd) → new.kind ≡ fed.kind
      → Took fed new bodies r → Arrived side old new (wire.Bytes bytes) bodies r
  arrived_bytes (Ok value) same took = record {
    new = λ read whole.
        let more = took.all (read ++ bytes) whole.pieces (feed read whole.pieces whole.stands) in
        bodies_cut (kind_of side) (read ++ bytes) (whole.pieces ++ more.0) more.1
        (subst (λ k. Cut k (read ++ bytes) (whole.pieces ++ more.0) more.1) (same ∙ kind')
        more.3)
        ∙ joined read whole more.0 more.4;
    stands = λ read whole.
        let more = took.all (read ++ bytes) whole.pieces (feed read whole.pieces whole.stands) in
        record { pieces = whole.pieces ++ more.0; rest = more.1; cut = more.3; stands = more.2 };
    first = tt;
  }
  arrived_bytes (Err end) same took = record {
    new = tt;
    stands = tt;
    first = λ read whole.
        let more = took.first (read ++ bytes) whole.pieces (feed read whole.pieces whole.stands) in
        let pieces = whole.pieces ++ more.0 in
        let come = subst (λ k. ComeFirst k (read ++ bytes) pieces more.1) kind' more.2 in
        let all = bodies_come (kind_of side) (read ++ bytes) more.1 pieces come in (
          all.0,
          all.1 ∙ ap (λ l. l ++ all.0) (joined read whole more.0 more.3)
              ∙ append_assoc (bodies_of (kind_of side) read) bodies all.0,
        );
  }

-- the same where this is what came
pub arrived_as : {V : Type 0} (side : Side) (old new : Held) (came came' : Came)
    (bodies : List (List ℕ)) (r : Result V LifeEnd) → came ≡ came'
    → Arrived side old new came' bodies r → Arrived side old new came bodies r
arrived_as side old new came came' bodies r same arrived =
    subst (λ (c : Came). Arrived side old new c bodies r) (sym same) arrived
