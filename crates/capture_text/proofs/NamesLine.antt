-- The words of the second line.
use Rattle.std.proofs.Common.{◌≡◌, ◌==◌, ◌%◌, ℕ, ◌+◌, ◌<◌, ◌≤◌, ◌^◌, List, [], ◌∷◌}
use Rattle.std.proofs.Common.{get_or, drop, length, All, refl, sym, ◌∙◌, ap, subst, arith, false}
use Rattle.std.proofs.Common.{Some, None, decimal, codes}
use Rattle.std.specs.declared.option.Option.{Option}
use Rattle.std.specs.List.{join_with_byte}
use Rattle.std.proofs.lemmas.Bool.{ne_eqb}
use Rattle.std.proofs.lemmas.Fmt.{decimal_by_steps}
use Rattle.std.proofs.lemmas.List.Elements.{All-append, All-cons, All-from_get_or, All-get_or}
use Rattle.std.proofs.lemmas.List.Elements.{All-head, All-nil, All-tail}
use Rattle.std.proofs.lemmas.List.Splits.{join_with_byte-slice_split, slice_split_at}
use Rattle.std.proofs.lemmas.List.Splits.{slice_split_none, length-slice_split}
use Rattle.order_meaning.specs.declared.names.Names.{Names}
use Rattle.capture_text.specs.Capture.{names_line, times, IsName}
use Rattle.capture_text.specs.Header.{cuts, written_names, AreNames, AreTimes, TimesSay, IsShort}
use Rattle.capture_text.specs.Header.{NumberSays, NamesLine}

abbrev Words : Type 0
Words = List (List ℕ)

-- no blank
abbrev other : ℕ → Type 0
other byte = (byte == 32) ≡ false

abbrev IsWord : List ℕ → Type 0
IsWord word = All other word

is_other : (byte : ℕ) → 33 ≤ byte → other byte
is_other byte low = ne_eqb byte 32 (λ is. absurd (omega (arith, low, is)))

pub word_of_digits : (n : ℕ) → n < 2 ^ 64 → IsWord (decimal n)
word_of_digits n fits = decimal_by_steps (λ m ds. IsWord ds)
    (λ m small. All-cons other (48 + m) [] (is_other (48 + m) (omega arith)) (All-nil other))
    (λ m ds large rest. All-append other ds ((48 + m % 10) ∷ []) rest
    (All-cons other (48 + m % 10) [] (is_other (48 + m % 10) (omega arith)) (All-nil other)))
    n fits

word_of_name : (name : List ℕ) → IsName name → IsWord name
word_of_name name is = All-from_get_or other name 0 (λ i within. is_other (get_or name i 0)
    (All-get_or (λ byte. (33 ≤ byte) × (byte ≤ 126)) name i 0 within is.printable).0)

-- words that are joined are cut again
cut_joined : (word : List ℕ) (words : Words) → All IsWord (word ∷ words)
    → cuts 32 (join_with_byte 32 (word ∷ words)) ≡ word ∷ words
cut_joined word [] are =
    slice_split_none (λ b. b == 32) word (All-head IsWord word [] are)
cut_joined word (next ∷ words) are =
    slice_split_at (λ b. b == 32) word 32 (join_with_byte 32 (next ∷ words))
    (All-head IsWord word (next ∷ words) are) refl
    ∙ ap (λ (ws : Words). word ∷ ws)
    (cut_joined next words (All-tail IsWord word (next ∷ words) are))

abbrev words : Names → ℕ → Option ℕ → Words
words names heart reset = codes "names"
    ∷ names.client_our ∷ names.client_peer ∷ names.venue_our ∷ names.venue_peer
    ∷ times heart reset

first_word : IsWord (codes "names")
first_word =
    All-cons other 110 (codes "ames") refl
    (All-cons other 97 (codes "mes") refl
    (All-cons other 109 (codes "es") refl
    (All-cons other 101 (codes "s") refl
    (All-cons other 115 [] refl (All-nil other)))))

five_words : (a b c d e : List ℕ) (more : Words)
    → IsWord a → IsWord b → IsWord c → IsWord d → IsWord e → All IsWord more
    → All IsWord (a ∷ b ∷ c ∷ d ∷ e ∷ more)
five_words a b c d e more is_a is_b is_c is_d is_e are =
    All-cons IsWord a (b ∷ c ∷ d ∷ e ∷ more) is_a
    (All-cons IsWord b (c ∷ d ∷ e ∷ more) is_b
    (All-cons IsWord c (d ∷ e ∷ more) is_c
    (All-cons IsWord d (e ∷ more) is_d
    (All-cons IsWord e more is_e are))))

word_up_to : (n most : ℕ) → n ≤ most → most < 2 ^ 32 → IsWord (decimal n)
word_up_to n most small fits = word_of_digits n (omega (arith, small, fits))

time_words : (heart : ℕ) (reset : Option ℕ) → AreTimes heart reset → All IsWord (times heart reset)
time_words heart None (small, none) = All-cons IsWord (decimal heart) []
    (word_up_to heart 3600 small (omega arith)) (All-nil IsWord)
time_words heart (Some minute) (small, few) = All-cons IsWord (decimal heart) (decimal minute ∷ [])
    (word_up_to heart 3600 small (omega arith))
    (All-cons IsWord (decimal minute) [] (word_up_to minute 1439 few (omega arith))
    (All-nil IsWord))

cut_line : (names : Names) (heart : ℕ) (reset : Option ℕ) → AreNames names → AreTimes heart reset
    → cuts 32 (names_line names heart reset) ≡ words names heart reset
cut_line names heart reset are bounded = cut_joined (codes "names")
    (names.client_our ∷ names.client_peer ∷ names.venue_our ∷ names.venue_peer
    ∷ times heart reset)
    (five_words (codes "names") names.client_our names.client_peer names.venue_our
    names.venue_peer (times heart reset) first_word
    (word_of_name names.client_our are.client_our)
    (word_of_name names.client_peer are.client_peer)
    (word_of_name names.venue_our are.venue_our)
    (word_of_name names.venue_peer are.venue_peer)
    (time_words heart reset bounded))

-- no line of names has no fifth word behind the first
long_words : (a b c d e : List ℕ) (heart : ℕ) (reset : Option ℕ)
    → IsShort (a ∷ b ∷ c ∷ d ∷ e ∷ times heart reset) → a ≡ codes "names" → ⊥
long_words a b c d e heart None short is =
    short b c d e (decimal heart) [] (ap (λ (w : List ℕ). w ∷ b ∷ c ∷ d ∷ e ∷ decimal heart ∷ []) is)
long_words a b c d e heart (Some minute) short is =
    short b c d e (decimal heart) (decimal minute ∷ [])
    (ap (λ (w : List ℕ). w ∷ b ∷ c ∷ d ∷ e ∷ decimal heart ∷ decimal minute ∷ []) is)

pub no_words : (line : List ℕ) → IsShort (cuts 32 line) → NamesLine line None
no_words line short = λ names heart reset are bounded is.
    long_words (codes "names") names.client_our names.client_peer names.venue_our names.venue_peer
    heart reset (subst IsShort (ap (λ (l : List ℕ). cuts 32 l) is
    ∙ cut_line names heart reset are bounded) short) refl

-- the words of a line are those of the names and seconds of which it is the line
same_words : (line : List ℕ) (these : Words) (names : Names) (heart : ℕ) (reset : Option ℕ)
    → AreNames names → AreTimes heart reset → cuts 32 line ≡ these
    → line ≡ names_line names heart reset → these ≡ words names heart reset
same_words line these names heart reset are bounded cut is =
    sym cut ∙ ap (λ (l : List ℕ). cuts 32 l) is ∙ cut_line names heart reset are bounded

pub no_names : (line a b c d e : List ℕ)
    → cuts 32 line ≡ codes "names" ∷ a ∷ b ∷ c ∷ d ∷ cuts 32 e
    → (AreNames (written_names a b c d) → ⊥) → NamesLine line None
no_names line a b c d e cut none = λ names heart reset are bounded is.
    let same : codes "names" ∷ a ∷ b ∷ c ∷ d ∷ cuts 32 e ≡ words names heart reset
    = same_words line _ names heart reset are bounded cut is in
    none (record {
      client_our = subst IsName (sym (ap (λ (ws : Words). get_or ws 1 []) same)) are.client_our;
      client_peer = subst IsName (sym (ap (λ (ws : Words). get_or ws 2 []) same)) are.client_peer;
      venue_our = subst IsName (sym (ap (λ (ws : Words). get_or ws 3 []) same)) are.venue_our;
      venue_peer = subst IsName (sym (ap (λ (ws : Words). get_or ws 4 []) same)) are.venue_peer;
    })

pub no_times : (line a b c d e : List ℕ)
    → cuts 32 line ≡ codes "names" ∷ a ∷ b ∷ c ∷ d ∷ cuts 32 e
    → TimesSay e None → NamesLine line None
no_times line a b c d e cut none = λ names heart reset are bounded is.
    let same : codes "names" ∷ a ∷ b ∷ c ∷ d ∷ cuts 32 e ≡ words names heart reset
    = same_words line _ names heart reset are bounded cut is in
    none heart reset bounded (ap (λ (ws : Words). drop 5 ws) same)

pub is_line : (line a b c d e : List ℕ) (heart : ℕ) (reset : Option ℕ)
    → cuts 32 line ≡ codes "names" ∷ a ∷ b ∷ c ∷ d ∷ cuts 32 e
    → AreNames (written_names a b c d) → TimesSay e (Some (heart, reset))
    → NamesLine line (Some (written_names a b c d, heart, reset))
is_line line a b c d e heart reset cut are (bounded, is) = (
  are,
  bounded,
  sym (join_with_byte-slice_split 32 line)
      ∙ ap (λ (ws : Words). join_with_byte 32 ws) (cut
      ∙ ap (λ (ws : Words). codes "names" ∷ a ∷ b ∷ c ∷ d ∷ ws) is),
)

-- ---- the times

one_word : (heart : ℕ) (e : List ℕ) → cuts 32 e ≡ e ∷ [] → e ≡ decimal heart → heart ≤ 3600
    → TimesSay e (Some (heart, None))
one_word heart e cut is small = ((small, tt), cut ∙ ap (λ (w : List ℕ). w ∷ []) is)

pub is_heart : (e : List ℕ) (heart : ℕ) → cuts 32 e ≡ e ∷ [] → NumberSays 3600 e (Some heart)
    → TimesSay e (Some (heart, None))
is_heart e heart cut (small, is) = one_word heart e cut is small

pub are_times : (e digits rest : List ℕ) (heart minute : ℕ)
    → cuts 32 e ≡ digits ∷ cuts 32 rest → NumberSays 3600 digits (Some heart)
    → NumberSays 1439 rest (Some minute) → TimesSay e (Some (heart, Some minute))
are_times e digits rest heart minute cut (small, is) (few, more) = (
  (small, few),
  cut ∙ ap (λ (w : List ℕ). w ∷ cuts 32 rest) is
      ∙ ap (λ (ws : Words). decimal heart ∷ ws) (ap (λ (l : List ℕ). cuts 32 l) more
      ∙ slice_split_none (λ byte. byte == 32) (decimal minute)
      (word_up_to minute 1439 few (omega arith))),
)

-- the first word of the times, and what is joined of the rest
abbrev first_of : Words → List ℕ
first_of ws = get_or ws 0 []

first_time : (heart : ℕ) (reset : Option ℕ) → first_of (times heart reset) ≡ decimal heart
first_time heart None = refl
first_time heart (Some minute) = refl

pub no_heart : (e digits : List ℕ) (rest : Words) → cuts 32 e ≡ digits ∷ rest
    → NumberSays 3600 digits None → TimesSay e None
no_heart e digits rest cut none = λ heart reset bounded is.
    none heart bounded.0
    (ap first_of (sym cut ∙ is) ∙ first_time heart reset)

not_empty : (text : List ℕ) → cuts 32 text ≡ [] → ⊥
not_empty text is =
    absurd (omega (arith, sym (length-slice_split (λ b. b == 32) text) ∙ ap length is))

-- behind a blank stands a minute
behind_heart : (digits : List ℕ) (rest : List ℕ) (heart : ℕ) (reset : Option ℕ)
    → AreTimes heart reset → digits ∷ cuts 32 rest ≡ times heart reset
    → NumberSays 1439 rest None → ⊥
behind_heart digits rest heart (Some minute) bounded is none =
    none minute bounded.1 (sym (join_with_byte-slice_split 32 rest)
    ∙ ap (λ (ws : Words). join_with_byte 32 (drop 1 ws)) is)
behind_heart digits rest heart None bounded is none =
    not_empty rest (ap (λ (ws : Words). drop 1 ws) is)

pub no_minute : (e digits rest : List ℕ) → cuts 32 e ≡ digits ∷ cuts 32 rest
    → NumberSays 1439 rest None → TimesSay e None
no_minute e digits rest cut none = λ heart reset bounded is.
    behind_heart digits rest heart reset bounded (sym cut ∙ is) none

pub ruleset read_times = (is_heart, are_times, no_heart, no_minute)
