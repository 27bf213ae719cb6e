-- What a crash leaves in each of the two steps of a commit.
use Rattle.std.proofs.Common.{◌≡◌, inl, inr, ◌⊎◌, ℕ, ◌+◌, ◌<◌, ◌≤◌, max, List, [], ◌∷◌, ◌++◌}
use Rattle.std.proofs.Common.{length, get_or, take, drop, refl, sym, ◌∙◌, ap, subst, arith}
use Rattle.std.proofs.Common.{append_assoc, length-append, take-append-drop}
use Rattle.std.specs.Int.{w32, to_be_bytes}
use Rattle.std.proofs.lemmas.Bool.{cases_eq}
use Rattle.std.proofs.lemmas.List.{take_at, drop_at, drop_more}
use Rattle.outside.specs.declared.disk.TheConstants.{MAX_DISK}
use Rattle.outside.specs.Disk.{write, Torn}
use Rattle.gate_log.specs.Records.{record_of, blocks, Fits, AllFit, IsLog, IsUnborn, Stands}
use Rattle.gate_log.specs.Commit.{WithOrWithout}
use Rattle.gate_log.specs.Steps.{StagedAt}
use Rattle.gate_log.proofs.Blocks.{blocks-push, length-blocks-push, AllFit-push}

-- a record with one payload more is no unborn image
pub more_stands : (ps : List (List ℕ)) (p image : List ℕ)
    → IsLog image (ps ++ p ∷ []) → Stands image (ps ++ p ∷ [])
more_stands [] p image log = log
more_stands (q ∷ ps) p image log = log

unborn_short : (image : List ℕ) → IsUnborn image → length image ≤ 161
unborn_short image (inl short) = omega (arith, short)
unborn_short image (inr shut) = shut.0

-- an image that a record may lengthen to its end
pub still_stands : (ps : List (List ℕ)) (p b c : List ℕ) → Fits ps p → Stands b ps
    → IsLog c ps → length c ≤ max (length b) (length (blocks ps) + 6 + length p) → Stands c ps
still_stands [] p b c fits was log size =
    inr (omega (arith, size, fits, unborn_short b was), (log.gate, log.after, log.split, log.shut))
still_stands (q ∷ ps) p b c fits was log size = log

record_size : (payload : List ℕ) → length (record_of payload) ≡ length payload + 5
record_size payload = omega (
  arith,
  length-append (to_be_bytes w32 (length payload) ++ payload) (0 ∷ []),
  length-append (to_be_bytes w32 (length payload)) payload,
)

-- ---- the record

module _ (payloads : List (List ℕ)) (end : ℕ) (is_end : end ≡ length (blocks payloads)) where
  -- the image with a record behind the gate
  abbrev pub staged : List ℕ → ℕ → List ℕ → List ℕ
  staged payload gate after = blocks payloads ++ gate ∷ (record_of payload ++ after)

  behind : (gate : ℕ) (after : List ℕ)
      → take (end + 1) (blocks payloads ++ gate ∷ after) ≡ blocks payloads ++ gate ∷ []
  behind gate after =
      let grouped : blocks payloads ++ gate ∷ after ≡ (blocks payloads ++ gate ∷ []) ++ after =
      sym (append_assoc (blocks payloads) (gate ∷ []) after) in
      ap (take (end + 1)) grouped ∙ take_at (blocks payloads ++ gate ∷ [])
      after (end + 1) (omega (arith, length-append (blocks payloads) (gate ∷ []), is_end))

  pub long : (b : List ℕ) → IsLog b payloads → end + 1 ≤ length b
  long b log = omega
      (arith, ap length log.split, length-append (blocks payloads) (log.gate ∷ log.after), is_end)

  -- whatever stands behind a gate that is shut
  torn_log : (n : ℕ) (b c : List ℕ) → IsLog b payloads → Torn (end + 1) n b c → IsLog c payloads
  torn_log n b c log torn =
      let front : take (end + 1) c ≡ blocks payloads ++ log.gate ∷ [] =
      torn.before ∙ ap (take (end + 1)) log.split ∙ behind log.gate log.after in
      record {
        gate = log.gate;
        after = drop (end + 1) c;
        split = sym (take-append-drop (end + 1) c) ∙ ap (λ l. l ++ drop (end + 1) c) front
            ∙ append_assoc (blocks payloads) (log.gate ∷ []) (drop (end + 1) c);
        shut = log.shut;
        fit = log.fit;
        within = log.within;
      }

  module _ (payload : List ℕ) where
    pub written_behind : (b m : List ℕ) (log : IsLog b payloads)
        → m ≡ write (end + 1) (record_of payload) b
        → (after : List ℕ) × (m ≡ staged payload log.gate after)
    written_behind b m log holds =
        let after = drop (end + 1 + length (record_of payload)) b in
        let front : take (end + 1) b ≡ blocks payloads ++ log.gate ∷ [] =
        ap (take (end + 1)) log.split ∙ behind log.gate log.after in (
          after,
          holds ∙ ap (λ l. l ++ record_of payload ++ after) front
              ∙ append_assoc (blocks payloads ++ log.gate ∷ []) (record_of payload) after
              ∙ append_assoc (blocks payloads) (log.gate ∷ []) (record_of payload ++ after),
        )

    pub torn_behind : Fits payloads payload → (b c : List ℕ) → IsLog b payloads
        → Stands b payloads → Torn (end + 1) (length (record_of payload)) b c → Stands c payloads
    torn_behind fits b c log was torn =
        still_stands payloads payload b c fits was (torn_log (length (record_of payload))
        b c log torn) (omega (arith, torn.no_longer, record_size payload, is_end))

-- ---- the gate

-- the record behind an open gate
opened : (ps : List (List ℕ)) (payload after : List ℕ) → AllFit ps → Fits ps payload
    → length (blocks ps) + 5 + length payload < MAX_DISK
    → IsLog (blocks ps ++ 1 ∷ (record_of payload ++ after)) (ps ++ payload ∷ [])
opened ps payload after fit fits room =
    let grouped : blocks ps ++ 1 ∷ (record_of payload ++ after) ≡ blocks ps
    ++ 1 ∷ to_be_bytes w32 (length payload) ++ payload ++ (0 ∷ after) = simp append_assoc in
    record {
      gate = 0;
      after = after;
      split = grouped ∙ sym (blocks-push ps payload (0 ∷ after));
      shut = omega arith;
      fit = AllFit-push ps payload fit fits;
      within = omega (arith, length-blocks-push ps payload, room);
    }

module _ (end : ℕ) (payload : List ℕ) (room : end + 5 + length payload < MAX_DISK)
    (m : List ℕ) (at : StagedAt end payload m) where
  -- the image with this byte for its gate
  abbrev with_gate : ℕ → List ℕ
  with_gate gate = blocks at.payloads ++ gate ∷ (record_of payload ++ at.after)

  opened_log : IsLog (with_gate 1) (at.payloads ++ payload ∷ [])
  opened_log = opened at.payloads payload at.after at.fit at.fits (omega (arith, room, at.place))

  -- the record behind a gate that a crash left in any state
  reads_gate : (gate : ℕ) → IsLog (with_gate gate) at.payloads
      ⊎ IsLog (with_gate gate) (at.payloads ++ payload ∷ [])
  reads_gate gate = elim (cases_eq gate 1) [
    | inl is_open ↦ inr (subst
        (λ g. IsLog (with_gate g) (at.payloads ++ payload ∷ [])) (sym is_open) opened_log)
    | inr shut ↦ inl (record {
      gate = gate;
      after = record_of payload ++ at.after;
      split = refl;
      shut = shut;
      fit = at.fit;
      within = omega (arith, room, at.place);
    })
  ]

  size : end + 1 ≤ length m
  size = omega (
    arith,
    ap length at.split,
    length-append (blocks at.payloads) (at.gate ∷ (record_of payload ++ at.after)),
    at.place,
  )

  front : take end m ≡ blocks at.payloads
  front = ap (take end) at.split ∙ take_at
      (blocks at.payloads) (at.gate ∷ (record_of payload ++ at.after)) end (sym at.place)

  back : drop (end + 1) m ≡ record_of payload ++ at.after
  back =
      let grouped : with_gate at.gate
      ≡ (blocks at.payloads ++ at.gate ∷ []) ++ (record_of payload ++ at.after) =
      sym (append_assoc (blocks at.payloads) (at.gate ∷ []) (record_of payload ++ at.after)) in
      ap (drop (end + 1)) (at.split ∙ grouped)
      ∙ drop_at (blocks at.payloads ++ at.gate ∷ []) (record_of payload ++ at.after) (end + 1)
      (omega (arith, length-append (blocks at.payloads) (at.gate ∷ []), at.place))

  pub torn_gate : (c : List ℕ) → Torn end 1 m c → WithOrWithout at.payloads payload c
  torn_gate c torn =
      let gate = get_or c end 0 in
      let rest : drop end c ≡ gate ∷ (record_of payload ++ at.after) =
      drop_more c end 0 (omega (arith, torn.no_shorter, size))
      ∙ ap (λ (l : List ℕ). gate ∷ l) (torn.after ∙ back) in
      let whole : c ≡ with_gate gate = sym (take-append-drop end c)
      ∙ ap (λ l. l ++ drop end c) (torn.before ∙ front) ∙ ap (λ l. blocks at.payloads ++ l) rest in
      elim (reads_gate gate) [
        | inl old ↦ inl (still_stands at.payloads payload m c at.fits at.stands
            (subst (λ l. IsLog l at.payloads) (sym whole) old)
            (omega (arith, torn.no_longer, size)))
        | inr new ↦ inr (more_stands at.payloads payload c
            (subst (λ l. IsLog l (at.payloads ++ payload ∷ [])) (sym whole) new))
      ]

  pub written_gate : (c : List ℕ)
      → c ≡ write end (1 ∷ []) m → Stands c (at.payloads ++ payload ∷ [])
  written_gate c holds =
      let whole : c ≡ with_gate 1 = holds
      ∙ ap (λ l. l ++ (1 ∷ []) ++ drop (end + 1) m) front
      ∙ ap (λ l. blocks at.payloads ++ (1 ∷ []) ++ l) back
      ∙ append_assoc (blocks at.payloads) (1 ∷ []) (record_of payload ++ at.after) in
      more_stands at.payloads payload c
      (subst (λ l. IsLog l (at.payloads ++ payload ∷ [])) (sym whole) opened_log)
