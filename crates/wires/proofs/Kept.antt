-- A transcript has each byte that was read and written.
use Rattle.std.proofs.Common.{◌≡◌, ◌∙◌, ℕ, suc, ◌<◌, Bool, true, false, List, [], ◌∷◌, ◌++◌, length}
use Rattle.std.proofs.Common.{refl, sym, ap, arith, append_assoc}
use Rattle.std.proofs.lemmas.List.{append-nil, length_push}
use Rattle.std.specs.Prelude.{fold}
use Rattle.std.specs.List.{flat_map}
use Rattle.wires.specs.Wire.{WireCall, Poll, Send, HangUp, Nothing, Opened, Bytes, Closed, Broken}
use Rattle.wires.specs.Wire.{Connection, change_last, add_read, add_written, connections_after}
use Rattle.wires.specs.Wire.{transcript, within_after, is_within}
use Rattle.wires.specs.Laws.{has_place, AreInPlace, read_by, written_by}

placed_more : (within : Bool) (calls : List WireCall) (call : WireCall) → AreInPlace within calls
    → has_place (fold within_after within calls) call ≡ true
    → AreInPlace within (calls ++ call ∷ [])
placed_more within [] call placed next = (next, tt)
placed_more within (first ∷ calls) call placed next =
    (placed.0, placed_more (within_after within first) calls call placed.1 next)

pub stays_placed : (calls : List WireCall) (call : WireCall) → AreInPlace false calls
    → has_place (is_within calls) call ≡ true → AreInPlace false (calls ++ call ∷ [])
stays_placed calls call placed next = placed_more false calls call placed next

changed_length : (f : Connection → Connection) (all : List Connection)
    → length (change_last f all) ≡ length all
changed_length f [] = refl
changed_length f (one ∷ []) = refl
changed_length f (one ∷ next ∷ rest) = ap suc (changed_length f (next ∷ rest))

-- within a connection there is one, after each call too
some_after : (within : Bool) (all : List Connection) (call : WireCall)
    → (within ≡ true → 0 < length all) → within_after within call ≡ true
    → 0 < length (connections_after all call)
some_after within all (Poll Nothing) some inside = some inside
some_after within all (Poll Opened) some inside =
    let e = length_push all (record { read = []; written = [] }) in omega (arith, e)
some_after within all (Poll (Bytes bytes)) some inside =
    let e = changed_length (add_read bytes) all in
    let old = some inside in omega (arith, e, old)
some_after within all (Poll Closed) some inside = absurd (cc inside)
some_after within all (Poll Broken) some inside = absurd (cc inside)
some_after within all (Send piece wrote true) some inside =
    let e = changed_length (add_written wrote) all in
    let old = some inside in omega (arith, e, old)
some_after within all (Send piece wrote false) some inside = absurd (cc inside)
some_after within all HangUp some inside = absurd (cc inside)

-- bytes of the connections, in order
module _ (part : Connection → List ℕ) where
  part_pushed : (all : List Connection) (last : Connection)
      → flat_map part (all ++ last ∷ []) ≡ flat_map part all ++ part last
  part_pushed [] last = append-nil (part last)
  part_pushed (one ∷ all) last = ap (λ more. part one ++ more) (part_pushed all last)
      ∙ sym (append_assoc (part one) (flat_map part all) (part last))

  part_same : (f : Connection → Connection) → ((c : Connection) → part (f c) ≡ part c)
      → (all : List Connection) → flat_map part (change_last f all) ≡ flat_map part all
  part_same f same [] = refl
  part_same f same (one ∷ []) = ap (λ bytes. bytes ++ []) (same one)
  part_same f same (one ∷ next ∷ rest) =
      ap (λ more. part one ++ more) (part_same f same (next ∷ rest))

  part_longer : (f : Connection → Connection) (bytes : List ℕ)
      → ((c : Connection) → part (f c) ≡ part c ++ bytes) → (all : List Connection)
      → 0 < length all → flat_map part (change_last f all) ≡ flat_map part all ++ bytes
  part_longer f bytes longer [] some = absurd (omega (arith, some))
  part_longer f bytes longer (one ∷ []) some = append-nil (part (f one)) ∙ longer one
      ∙ ap (λ front. front ++ bytes) (sym (append-nil (part one)))
  part_longer f bytes longer (one ∷ next ∷ rest) some =
      ap (λ more. part one ++ more)
      (part_longer f bytes longer (next ∷ rest) (omega arith))
      ∙ sym (append_assoc (part one) (flat_map part (next ∷ rest)) bytes)

  -- where each call adds its bytes, a record adds all of them
  all_kept : (by : WireCall → List ℕ)
      → ((within : Bool) (all : List Connection) (call : WireCall)
      → (within ≡ true → 0 < length all) → has_place within call ≡ true
      → flat_map part (connections_after all call) ≡ flat_map part all ++ by call)
      → (within : Bool) (all : List Connection) (calls : List WireCall)
      → (within ≡ true → 0 < length all) → AreInPlace within calls
      → flat_map part (fold connections_after all calls) ≡ flat_map part all ++ flat_map by calls
  all_kept by adds within all [] some placed = sym (append-nil (flat_map part all))
  all_kept by adds within all (call ∷ calls) some placed =
      all_kept by adds (within_after within call) (connections_after all call) calls
      (some_after within all call some) placed.1
      ∙ ap (λ front. front ++ flat_map by calls) (adds within all call some placed.0)
      ∙ append_assoc (flat_map part all) (by call) (flat_map by calls)

reads : (within : Bool) (all : List Connection) (call : WireCall)
    → (within ≡ true → 0 < length all) → has_place within call ≡ true
    → flat_map (λ c. c.read) (connections_after all call)
    ≡ flat_map (λ c. c.read) all ++ read_by call
reads within all (Poll Nothing) some placed = sym (append-nil _)
reads within all (Poll Opened) some placed = part_pushed (λ c. c.read) all _
reads within all (Poll (Bytes [])) some placed = absurd (cc placed)
reads within all (Poll (Bytes (byte ∷ bytes))) some placed = part_longer (λ c. c.read)
    (add_read (byte ∷ bytes)) (byte ∷ bytes) (λ c. refl) all (some placed)
reads within all (Poll Closed) some placed = sym (append-nil _)
reads within all (Poll Broken) some placed = sym (append-nil _)
reads within all (Send piece wrote done) some placed =
    part_same (λ c. c.read) (add_written wrote) (λ c. refl) all ∙ sym (append-nil _)
reads within all HangUp some placed = sym (append-nil _)

writes : (within : Bool) (all : List Connection) (call : WireCall)
    → (within ≡ true → 0 < length all) → has_place within call ≡ true
    → flat_map (λ c. c.written) (connections_after all call)
    ≡ flat_map (λ c. c.written) all ++ written_by call
writes within all (Poll Nothing) some placed = sym (append-nil _)
writes within all (Poll Opened) some placed = part_pushed (λ c. c.written) all _
writes within all (Poll (Bytes bytes)) some placed =
    part_same (λ c. c.written) (add_read bytes) (λ c. refl) all ∙ sym (append-nil _)
writes within all (Poll Closed) some placed = sym (append-nil _)
writes within all (Poll Broken) some placed = sym (append-nil _)
writes within all (Send piece wrote done) some placed =
    part_longer (λ c. c.written) (add_written wrote) wrote (λ c. refl) all (some placed)
writes within all HangUp some placed = sym (append-nil _)

pub reads_kept : (calls : List WireCall) → AreInPlace false calls
    → flat_map (λ c. c.read) (transcript calls) ≡ flat_map read_by calls
reads_kept calls placed =
    all_kept (λ c. c.read) read_by reads false [] calls (λ h. absurd (cc h)) placed

pub writes_kept : (calls : List WireCall) → AreInPlace false calls
    → flat_map (λ c. c.written) (transcript calls) ≡ flat_map written_by calls
writes_kept calls placed =
    all_kept (λ c. c.written) written_by writes false [] calls (λ h. absurd (cc h)) placed
