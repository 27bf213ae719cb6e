-- The bytes of a journal that is walked once, from its front on.
use Rattle.std.proofs.Common.{◌≡◌, ℕ, ◌<◌, ◌≤◌, List, [], ◌∷◌, ◌++◌, length, drop, refl, sym}
use Rattle.std.proofs.Common.{◌∙◌, ap, subst, arith, append_assoc, length-append, IfSome}
use Rattle.std.specs.declared.option.Option.{Option}
use Rattle.std.specs.Int.{w32, to_be_bytes}
use Rattle.std.proofs.lemmas.List.{drop_at}
use Rattle.outside.specs.declared.disk.TheConstants.{MAX_DISK}
use Rattle.order_meaning.specs.declared.names.Names.{Names}
use Rattle.gate_log.specs.Records.{blocks, AllFit, IsShut}
use Rattle.gate_log.specs.Chunk.{BeginsWith}
use Rattle.gate_log.proofs.Blocks.{blocks-push, AllFit-push}
use Rattle.gate_log.proofs.Told.{if_some, at_some}
use Rattle.pair_entries.specs.declared.entry.Entry.{Entry}
use Rattle.pair_entries.specs.Payload.{entry_bytes}
use Rattle.pair_entries.specs.Birth.{birth_bytes, AreNames}
use Rattle.pair_entries.proofs.Names.{birth_size}
use Rattle.kept_entries.specs.Numbers.{first_numbers}
use Rattle.kept_entries.specs.Days.{day_after, day_number, payload_behind}
use Rattle.kept_entries.specs.Entries.{DaysGoOn}
use Rattle.pair_journal.specs.Journal.{JournalOf, Born}
use Rattle.pair_journal.specs.Calls.{payloads_of}
use Rattle.pair_journal.specs.Loading.{Tells, IsFront}
use Rattle.kept_entries.specs.Spots.{end_of}
use Rattle.pair_journal.proofs.Carrying.{payloads-push}
use Rattle.pair_journal.proofs.Carrying.{place_is}

grouped : (ps : List (List ℕ)) (p rest : List ℕ)
    → blocks ps ++ (1 ∷ to_be_bytes w32 (length p) ++ p ++ rest)
    ≡ blocks ps ++ 1 ∷ to_be_bytes w32 (length p) ++ p ++ rest
grouped ps p rest = simp append_assoc

-- one record more behind those that stand in front
step : (bytes : List ℕ) (ps : List (List ℕ)) (at next : ℕ) (p : List ℕ)
    → bytes ≡ blocks ps ++ drop at bytes → next ≡ length (blocks (ps ++ p ∷ []))
    → BeginsWith (drop at bytes) p → bytes ≡ blocks (ps ++ p ∷ []) ++ drop next bytes
step bytes ps at next p split place (small, rest, is) =
    let more = ps ++ p ∷ [] in
    let whole : bytes ≡ blocks more ++ rest =
    split ∙ ap (λ l. blocks ps ++ l) is ∙ grouped ps p rest ∙ sym (blocks-push ps p rest) in
    let left : drop next bytes ≡ rest =
    ap (drop next) whole ∙ drop_at (blocks more) rest next (sym place) in
    whole ∙ ap (λ l. blocks more ++ l) (sym left)

born_front : (bytes : List ℕ) (names : Names) → AreNames names
    → BeginsWith bytes (birth_bytes names) → IsFront bytes names []
born_front bytes names named begins = record {
  split = step bytes [] 0 (end_of []) (birth_bytes names) refl (sym (place_is names [] named))
      begins;
  fit = (birth_size names named, tt);
}

more_front : (bytes : List ℕ) (names : Names) (entries more : List Entry) (entry : Entry)
    (payload : List ℕ) → AreNames names → IsFront bytes names entries
    → payload ≡ payload_behind entries entry → more ≡ entries ++ entry ∷ []
    → BeginsWith (drop (end_of entries) bytes) payload → IsFront bytes names more
more_front bytes names entries more entry payload named front written pushed begins =
    let ps = payloads_of names entries in
    let all : ps ++ payload ∷ [] ≡ payloads_of names more =
    ap (λ (p : List ℕ). ps ++ p ∷ []) written ∙ payloads-push names entries entry
    ∙ ap (payloads_of names) (sym pushed) in
    let place : end_of more ≡ length (blocks (ps ++ payload ∷ [])) =
    sym (place_is names more named)
    ∙ ap (λ (l : List (List ℕ)). length (blocks l)) (sym all) in
    let day : ℕ = day_after (day_number entries) entry in
    let some : 1 ≤ length payload =
    omega (arith, ap length written, length-append (to_be_bytes w32 day) (entry_bytes entry)) in
    record {
      split = subst (λ (l : List (List ℕ)). bytes ≡ blocks l ++ drop (end_of more) bytes) all
          (step bytes ps (end_of entries) (end_of more) payload front.split place begins);
      fit = subst AllFit all (AllFit-push ps payload front.fit (some, begins.0));
    }

whole_front : (bytes : List ℕ) (names : Names) (entries : List Entry) → AreNames names
    → DaysGoOn first_numbers entries → end_of entries < MAX_DISK → IsFront bytes names entries
    → IsShut (drop (end_of entries) bytes) → JournalOf bytes (Born names entries)
whole_front bytes names entries named sound within front (gate, after, is, shut) = (
  payloads_of names entries,
  record {
    gate = gate;
    after = after;
    split = front.split ∙ ap (λ l. blocks (payloads_of names entries) ++ l) is;
    shut = shut;
    fit = front.fit;
    within = omega (arith, within, place_is names entries named);
  },
  record { written = refl; named = named; sound = sound },
)

-- ---- the same of a disk that may tell its bytes

module _ (told : Option (List ℕ)) (names : Names) (named : AreNames names) where
  pub born_there : (entries : List Entry) → entries ≡ []
      → IfSome told (λ b. BeginsWith b (birth_bytes names))
      → IfSome told (λ b. IsFront b names entries)
  born_there entries none born = if_some told _ (λ b e.
      subst (IsFront b names) (sym none) (born_front b names named
      (at_some told (λ x. BeginsWith x (birth_bytes names)) b e born)))

  module _ (entries : List Entry) (front : IfSome told (λ b. IsFront b names entries)) where
    pub more_there : (more : List Entry) (entry : Entry) (payload : List ℕ)
        → payload ≡ payload_behind entries entry → more ≡ entries ++ entry ∷ []
        → IfSome told (λ b. BeginsWith (drop (end_of entries) b) payload)
        → IfSome told (λ b. IsFront b names more)
    more_there more entry payload written pushed begins = if_some told _ (λ b e.
        more_front b names entries more entry payload named
        (at_some told (λ x. IsFront x names entries) b e front) written pushed
        (at_some told (λ x. BeginsWith (drop (end_of entries) x) payload) b e begins))

    pub whole_there : DaysGoOn first_numbers entries → end_of entries < MAX_DISK
        → IfSome told (λ b. IsShut (drop (end_of entries) b)) → Tells told names entries
    whole_there sound within shut = if_some told _ (λ b e.
        whole_front b names entries named sound within
        (at_some told (λ x. IsFront x names entries) b e front)
        (at_some told (λ x. IsShut (drop (end_of entries) x)) b e shut))
