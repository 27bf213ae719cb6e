-- What a walk puts, over a disk that may tell its bytes.
use Rattle.std.proofs.Common.{◌≡◌, inl, inr, ℕ, ◌+◌, ◌<◌, ◌≤◌, List, [], ◌∷◌, ◌++◌, length, take}
use Rattle.std.proofs.Common.{refl, sym, ◌∙◌, ap, subst, arith, Some, IfSome, Result, Ok, Err}
use Rattle.std.proofs.Common.{IsErrAnd}
use Rattle.std.specs.Prelude.{⊤, OnErr}
use Rattle.std.specs.Option.{ForSome}
use Rattle.std.specs.declared.option.Option.{Option}
use Rattle.std.specs.Io.KnownBytes.{Appends}
use Rattle.std.proofs.KnownBytes.{Appends-nil, Appends-trans}
use Rattle.std.proofs.lemmas.List.{take_all}
use Rattle.outside.specs.Bytes.{AppendsFront, PutAppends}
use Rattle.outside.proofs.Fronts.{appended_front}
use Rattle.order_meaning.specs.declared.names.Names.{Names}
use Rattle.gate_log.specs.Records.{blocks, Stands}
use Rattle.gate_log.specs.Log.{IsAt, StandsOver}
use Rattle.gate_log.specs.State.{LogState}
use Rattle.gate_log.proofs.Told.{if_some, at_some}
use Rattle.pair_entries.specs.declared.entry.Entry.{Entry}
use Rattle.pair_entries.specs.Payload.{Next}
use Rattle.kept_entries.specs.Numbers.{first_numbers}
use Rattle.pair_journal.specs.Journal.{Reading, Born, Refused}
use Rattle.pair_journal.specs.Calls.{payloads_of}
use Rattle.pair_journal.proofs.Walking.{head_of}
use Rattle.journal_migrate.specs.declared.migrating.MigrateError.{MigrateError}
use Rattle.journal_migrate.specs.declared.migrating.MigrateError.TheVariants as errors
use Rattle.journal_migrate.specs.Format1.{JournalOf1, birth1_bytes}
use Rattle.journal_migrate.specs.Migrating.{image_of}
use Rattle.journal_migrate.specs.Walk.{IsBirth, IsNoBirth, IsNext, IsNoNext, ReadsRecord, IsReached}
use Rattle.journal_migrate.specs.Walk.{IsPut, IsBegun, Walks}
use Rattle.journal_migrate.proofs.OneReading.{one_reading}
use Rattle.journal_migrate.proofs.Reached.{first_reached, next_there, payloads, is_next}
use Rattle.journal_migrate.proofs.Reached.{stands_here}
use Rattle.journal_migrate.proofs.Reached.{next_reached, next_refused, begun, all_reached}

-- an error that a call handed on
pub handed : (result : Result ⊤ MigrateError) (error : MigrateError)
    (told old new : Option (List ℕ)) → IsErrAnd result (λ e. e ≡ error)
    → IfSome told (λ b. Walks {T = ⊤} b (Err error) old new)
    → IfSome told (λ b. Walks b result old new)
handed (Ok value) error told old new is walks = absurd is
handed (Err e) error told old new is walks =
    subst (λ (x : MigrateError). IfSome told (λ b. Walks {T = ⊤} b (Err x) old new)) (sym is) walks

abbrev error_of : Result ⊤ MigrateError → MigrateError
error_of (Ok value) = errors.NoMemory
error_of (Err e) = e

-- a put failed
pub put_failed : (result : Result ⊤ MigrateError) (error : MigrateError)
    (told old new : Option (List ℕ)) → IsErrAnd result (λ e. e ≡ error)
    → ◌≡◌ {A = Result ⊤ MigrateError} (Err error) (Err errors.OutputFault)
    → IfSome told (λ b. IsBegun b old new) → IfSome told (λ b. Walks b result old new)
put_failed result error told old new is only started =
    handed result errors.OutputFault told old new
    (subst (λ (x : MigrateError). IsErrAnd result (λ e. e ≡ x)) (ap error_of only) is) started

-- nothing was put
pub nothing_put : (bytes : List ℕ) (old : Option (List ℕ)) → IsBegun bytes old old
nothing_put bytes old names entries born = (0, Appends-nil old)

-- what was put is a front
whole_front : (old now : Option (List ℕ)) (bytes : List ℕ)
    → Appends old now bytes → AppendsFront old now bytes
whole_front old now bytes put = (length bytes, subst (Appends old now) (sym (all bytes)) put)
  where
    all : (l : List ℕ) → take (length l) l ≡ l
    all l = take_all (length l) l (omega arith)

module _ (told : Option (List ℕ)) (log : LogState) (stands : ForSome told (StandsOver log)) where
  -- ---- the birth record

  module _ (born : 1 ≤ log.count) where
    -- what is said of a first payload is said of the one that there is
    first_of : (P : List ℕ → Type 0) (b : List ℕ) → told ≡ Some b
        → IfSome told (λ x. (ps : List (List ℕ)) (p : List ℕ) → Stands x ps → IsAt ps 0 p → P p)
        → (p : List ℕ) × (after : List (List ℕ)) × Stands b (p ∷ after) × P p
    first_of P b e said =
        let over = stands b e in
        by over.0 over.1.stands (omega (arith, born, over.1.number))
        (at_some told (λ x. (ps : List (List ℕ)) (p : List ℕ) → Stands x ps → IsAt ps 0 p → P p)
        b e said)
      where
        by : (ps : List (List ℕ)) → Stands b ps → 1 ≤ length ps
            → ((qs : List (List ℕ)) (p : List ℕ) → Stands b qs → IsAt qs 0 p → P p)
            → (p : List ℕ) × (after : List (List ℕ)) × Stands b (p ∷ after) × P p
        by [] here some f = absurd (omega (arith, some))
        by (p ∷ after) here some f = (
          p,
          after,
          here,
          f (p ∷ after) p here
              (record { before = []; after = after; split = refl; place = refl }),
        )

    module _ (made : List ℕ) (place day : ℕ) (numbers : Next) (on : day ≡ 0)
        (reached : numbers ≡ first_numbers)
        (read : IfSome told (λ x. (ps : List (List ℕ)) (p : List ℕ) → Stands x ps → IsAt ps 0 p
        → IsBirth p made × (place ≡ 5 + length p))) where
      first_at : (b : List ℕ) → told ≡ Some b → (at : IsReached b 1 place day numbers)
          × (made ≡ blocks (payloads_of at.names at.entries))
      first_at b e =
          let one = first_of (λ p. IsBirth p made × (place ≡ 5 + length p)) b e read in
          first_reached b one.0 made one.1 place day numbers one.2 one.3.0 one.3.1 on reached

      pub first_put : (old now : Option (List ℕ)) → Appends old now made
          → IfSome told (λ b. IsPut b 1 place day numbers old now)
      first_put old now put = if_some told _ (λ b e.
          let at = first_at b e in (at.0, subst (Appends old now) at.1 put))

      pub first_begun : (old now : Option (List ℕ)) → AppendsFront old now made
          → IfSome told (λ b. IsBegun b old now)
      first_begun old now put = if_some told _ (λ b e.
          let at = first_at b e in
          begun b 1 place day numbers at.0 old now (subst (AppendsFront old now) at.1 put))

    pub first_unread : (e : MigrateError) (One : List ℕ → Type 0) (old : Option (List ℕ))
        → IfSome told (λ x. (ps : List (List ℕ)) (p : List ℕ) → Stands x ps → IsAt ps 0 p
        → ReadsRecord {T = ⊤} (One p) (IsNoBirth p) 0 (Err e))
        → IfSome told (λ b. Walks {T = ⊤} b (Err e) old old)
    first_unread (errors.Refused at) One old read = if_some told _ (λ b e.
        let one = first_of (λ p. (at ≡ 0) × IsNoBirth p) b e read in inr (
          one.0 ∷ one.1,
          one.2,
          record {
            number = 0;
            within = omega arith;
            place = one.3.0;
            sound = inl refl;
            none = λ spelt. one.3.1 spelt.0 spelt.2.named
                (head_of one.0 (birth1_bytes spelt.0) [] _ spelt.2.written).0;
          },
        ))
    first_unread errors.Full One old read =
        if_some told _ (λ b e. (first_of (λ p. ⊥) b e read).3)
    first_unread errors.OutputFault One old read =
        if_some told _ (λ b e. absurd (first_of (λ p. ⊥) b e read).3)
    first_unread errors.DiskFault One old read = if_some told _ (λ b e. nothing_put b old)
    first_unread errors.NoMemory One old read = if_some told _ (λ b e. nothing_put b old)

  -- ---- the records behind it

  module _ (index place day : ℕ) (numbers : Next) (old now : Option (List ℕ))
      (put : IfSome told (λ b. IsPut b index place day numbers old now)) where
    put_at : (b : List ℕ) → told ≡ Some b → IsPut b index place day numbers old now
    put_at b e = at_some told (λ x. IsPut x index place day numbers old now) b e put

    so_far : (b : List ℕ) → told ≡ Some b → IsBegun b old now
    so_far b e = begun b index place day numbers (put_at b e).0 old now
        (whole_front old now _ (put_at b e).1)

    module _ (more : index < log.count) (here : Option (List ℕ)) (same : here ≡ told) where
      -- what is said of a payload at this place is said of the one that stands there
      next_of : (P : List ℕ → Type 0) (b : List ℕ) (e : told ≡ Some b)
          → IfSome here (λ x. (ps : List (List ℕ)) (p : List ℕ) → Stands x ps → IsAt ps place p
          → P p) → (p : List ℕ) × (left : List (List ℕ))
          × ((put_at b e).0.after ≡ p ∷ left) × P p
      next_of P b e said =
          let at = (put_at b e).0 in
          let there = next_there b index place day numbers at log (stands b e) more in (
            there.0,
            there.1,
            there.2,
            at_some here (λ x. (ps : List (List ℕ)) (p : List ℕ) → Stands x ps
                → IsAt ps place p → P p) b (same ∙ e) said
                (payloads b index place day numbers at) there.0
                (stands_here b index place day numbers at)
                (is_next b index place day numbers at there.0 there.1 there.2),
          )

      module _ (made : List ℕ) (place_now day_now : ℕ) (numbers_now : Next)
          (read : IfSome here (λ x. (ps : List (List ℕ)) (p : List ℕ) → Stands x ps
          → IsAt ps place p → IsNext day numbers p day_now numbers_now made
          × (place_now ≡ place + 5 + length p))) where
        next_at : (b : List ℕ) (e : told ≡ Some b)
            → (at : IsReached b (index + 1) place_now day_now numbers_now)
            × (blocks (payloads_of at.names at.entries)
            ≡ blocks (payloads_of (put_at b e).0.names (put_at b e).0.entries) ++ made)
        next_at b e =
            let one = next_of (λ p. IsNext day numbers p day_now numbers_now made
            × (place_now ≡ place + 5 + length p)) b e read in
            next_reached b index place day numbers (put_at b e).0 one.0 one.1 one.2 made place_now
            day_now numbers_now one.3.0 one.3.1

        pub next_put : (new : Option (List ℕ)) → Appends now new made
            → IfSome told (λ b. IsPut b (index + 1) place_now day_now numbers_now old new)
        next_put new last = if_some told _ (λ b e.
            let at = next_at b e in (
              at.0,
              subst (Appends old new) (sym at.1)
                  (Appends-trans old now new _ made (put_at b e).1 last),
            ))

        pub next_begun : (new : Option (List ℕ)) → AppendsFront now new made
            → IfSome told (λ b. IsBegun b old new)
        next_begun new last = if_some told _ (λ b e.
            let at = next_at b e in
            begun b (index + 1) place_now day_now numbers_now at.0 old new
            (subst (AppendsFront old new) (sym at.1)
            (appended_front old now new _ made (put_at b e).1 last)))

      pub next_unread : (e : MigrateError) (One : List ℕ → Type 0)
          → IfSome here (λ x. (ps : List (List ℕ)) (p : List ℕ) → Stands x ps → IsAt ps place p
          → ReadsRecord {T = ⊤} (One p) (IsNoNext numbers p) place (Err e))
          → IfSome told (λ b. Walks {T = ⊤} b (Err e) old now)
      next_unread (errors.Refused at) One read = if_some told _ (λ b e.
          let one = next_of (λ p. (at ≡ place) × IsNoNext numbers p) b e read in
          subst (λ n. JournalOf1 b (Refused n)) (sym one.3.0)
          (next_refused b index place day numbers (put_at b e).0 one.0 one.1 one.2 one.3.1))
      next_unread errors.Full One read = if_some told _ (λ b e. (next_of (λ p. ⊥) b e read).3)
      next_unread errors.OutputFault One read =
          if_some told _ (λ b e. absurd (next_of (λ p. ⊥) b e read).3)
      next_unread errors.DiskFault One read = if_some told _ (λ b e. so_far b e)
      next_unread errors.NoMemory One read = if_some told _ (λ b e. so_far b e)

    -- ---- the closed gate behind them

    module _ (done : log.count ≤ index) where
      all_put : (value : ⊤) (new : Option (List ℕ)) → Appends now new (0 ∷ [])
          → IfSome told (λ b. Walks {T = ⊤} b (Ok value) old new)
      all_put value new last = if_some told _ (λ b e.
          let at = put_at b e in (
            at.0.names,
            at.0.entries,
            all_reached b index place day numbers at.0 log (stands b e) done,
            Appends-trans old now new _ (0 ∷ []) at.1 last,
          ))

      all_begun : (new : Option (List ℕ)) → AppendsFront now new (0 ∷ [])
          → IfSome told (λ b. IsBegun b old new)
      all_begun new last = if_some told _ (λ b e names entries born.
          let at = put_at b e in
          by b at.0.names at.0.entries names entries
          (one_reading b (Born at.0.names at.0.entries) (Born names entries)
          (all_reached b index place day numbers at.0 log (stands b e) done) born)
          (appended_front old now new _ (0 ∷ []) at.1 last))
        where
          by : (b : List ℕ) (n : Names) (es : List Entry) (names : Names) (entries : List Entry)
              → Born n es ≡ Born names entries → AppendsFront old new (image_of n es)
              → AppendsFront old new (image_of names entries)
          by b n es names entries same front =
              subst (AppendsFront old new) (ap image same) front
            where
              image : Reading → List ℕ
              image (Born n es) = image_of n es
              image other = []

      pub closed : (result : Result ⊤ MigrateError) (new : Option (List ℕ))
          → PutAppends now new result (0 ∷ [])
          → OnErr result (result ≡ Err errors.OutputFault)
          → IfSome told (λ b. Walks b result old new)
      closed (Ok value) new last only = all_put value new last
      closed (Err e) new last only =
          put_failed (Err e) e told old new refl only (all_begun new last)
