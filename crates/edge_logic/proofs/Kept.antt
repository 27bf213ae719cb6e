-- What went out and what waits, where a writer tells its bytes.
use Rattle.std.proofs.Common.{◌≡◌, ◌⊎◌, ℕ, zero, suc, ◌+◌, ◌-◌, ◌≤◌, List, [], ◌∷◌, ◌++◌, length}
use Rattle.std.proofs.Common.{Bool, ◌&&◌, take, drop, Option, Some, None, true, false, not, eqb, inl}
use Rattle.std.proofs.Common.{inr, refl, IsOk}
use Rattle.std.proofs.Common.{sym, ap, subst, ◌∙◌, arith, ◌<◌, cond, eq-eqb, ne_eqb, length-append}
use Rattle.std.proofs.Common.{IfErr, IfOk, append_assoc, append-nil, take-append-drop, length-drop}
use Rattle.std.proofs.Common.{Result, Ok, Err, OnOk}
use Rattle.std.specs.Io.{WritesAtMost}
use Rattle.std.specs.Io.KnownBytes.{WriteAppends}
use Rattle.std.specs.Io.KnownBytes.{Keeps, Appends, append_known}
use Rattle.std.proofs.lemmas.Bool.{eqb-true, eqb-false}
use Rattle.std.proofs.lemmas.List.{drop-drop, take_all}
use Rattle.std.proofs.KnownBytes.{Appends-nil, Appends-trans, Appends-kept, Keeps-refl, Keeps-trans}
use Rattle.std.proofs.KnownBytes.{append_known-kept, append_known-moved, append_known-grown}
use Rattle.std.proofs.KnownBytes.{append_known-passed}
use Rattle.edge_logic.specs.declared.fault.Fault.{Fault}
use Rattle.edge_logic.specs.declared.fault.Fault.TheVariants as fault
use Rattle.edge_logic.specs.Outbox.{StaysWhole, GrowsWhole, FrontWent, has_bytes, IsSendFault}

-- what `&bytes[from..]` is
pub rest_is : (bytes : List ℕ) (from : ℕ)
    → take (length bytes - from) (drop from bytes) ≡ drop from bytes
rest_is bytes from = take_all _ _ (omega (arith, length-drop from bytes))

drop_in : (count : ℕ) (xs ys : List ℕ) → count ≤ length xs
    → drop count (xs ++ ys) ≡ drop count xs ++ ys
drop_in zero xs ys h = refl
drop_in (suc count) [] ys h = absurd (omega (arith, h))
drop_in (suc count) (x ∷ xs) ys h = drop_in count xs ys (omega (arith, h))

drop_past : (count : ℕ) (xs ys : List ℕ) → length xs ≤ count
    → drop count (xs ++ ys) ≡ drop (count - length xs) ys
drop_past count [] ys h =
    let e : count ≡ count - 0 = omega arith in ap (λ n. drop n ys) e
drop_past zero (x ∷ xs) ys h = absurd (omega (arith, h))
drop_past (suc count) (x ∷ xs) ys h =
    let e : suc count - suc (length xs) ≡ count - length xs = omega arith in
    rw e (drop_past count xs ys (omega (arith, h)))

pub passed : (gone count : ℕ) (bytes behind : List ℕ) → count ≤ length bytes - gone
    → drop (gone + count) bytes ++ behind ≡ drop count (drop gone bytes ++ behind)
passed gone count bytes behind h =
    ap (λ l. l ++ behind) (sym (drop-drop count gone bytes))
    ∙ sym (drop_in count (drop gone bytes) behind (omega (arith, h, length-drop gone bytes)))

pub all_passed : (gone count : ℕ) (bytes behind : List ℕ) → length bytes - gone ≤ count
    → drop (count - (length bytes - gone)) behind ++ [] ≡ drop count (drop gone bytes ++ behind)
all_passed gone count bytes behind h =
    append-nil (drop (count - (length bytes - gone)) behind)
    ∙ sym (ap (λ n. drop (count - n) behind) (length-drop gone bytes))
    ∙ sym (drop_past count (drop gone bytes) behind (omega (arith, h, length-drop gone bytes)))

pub ruleset of_pass = (passed, all_passed, length-drop, length-append)

pub ruleset of_len = (length-drop, length-append)

pub has_len : (bytes : List ℕ) → has_bytes bytes ≡ not (eqb (length bytes) 0)
has_len [] = refl
has_len (byte ∷ bytes) = ap not (sym (ne_eqb (suc (length bytes)) 0 (λ none. omega (arith, none))))

pub front_fits : {E : Type 0} (result : Result ℕ E) (xs ys : List ℕ)
    → IfOk result (λ n. n ≤ length xs) → IfOk result (λ n. n ≤ length (xs ++ ys))
front_fits (Ok n) xs ys h = omega (arith, h, length-append xs ys)
front_fits (Err error) xs ys h = tt

take_in : (n : ℕ) (xs ys : List ℕ) → n ≤ length xs → take n xs ≡ take n (xs ++ ys)
take_in zero xs ys h = refl
take_in (suc n) [] ys h = absurd (omega (arith, h))
take_in (suc n) (x ∷ xs) ys h = ap (λ l. x ∷ l) (take_in n xs ys (omega (arith, h)))

pub front_appends : {E : Type 0} (a b : Option (List ℕ)) (result : Result ℕ E) (xs ys : List ℕ)
    → WritesAtMost result xs → WriteAppends a b result xs → WriteAppends a b result (xs ++ ys)
front_appends a b (Ok n) xs ys h went =
    subst (λ l. Appends a b l) (take_in n xs ys h) went
front_appends a b (Err error) xs ys h kept = kept

-- where nothing waits, nothing comes first
pub front_idle : {T E : Type 0} (result : Result T E) (xs ys : List ℕ)
    → (xs ≡ [] → IsOk result) → has_bytes (xs ++ ys) ≡ false → IsOk result
front_idle result [] ys idle none = idle refl
front_idle result (x ∷ xs) ys idle none = absurd cc

pub ruleset of_front = (front_fits, front_appends, front_idle, length-drop, length-append)

pub appended : (gone : ℕ) (bytes behind piece : List ℕ)
    → drop gone bytes ++ (behind ++ piece) ≡ (drop gone bytes ++ behind) ++ piece
appended gone bytes behind piece = sym (append_assoc (drop gone bytes) behind piece)

pub ruleset of_append = (appended, length-drop, length-append)

-- a writer that kept its bytes took none
pub kept_is_none : (a b : Option (List ℕ)) (bytes : List ℕ) → Keeps a b → Appends a b (take 0 bytes)
kept_is_none a b bytes kept = Appends-kept a a b [] (Appends-nil a) kept

pub whole_behind : (a b : Option (List ℕ)) (n : ℕ) (old new : List ℕ)
    → Appends a b (take n old) → new ≡ drop n old → StaysWhole a b old new
whole_behind a b n old new went left =
    append_known-moved a b (take n old) new old went
    (sym (take-append-drop n old) ∙ ap (λ l. take n old ++ l) (sym left))

pub whole_kept : (a b : Option (List ℕ)) (old : List ℕ) → Keeps a b → StaysWhole a b old old
whole_kept a b old kept = append_known-kept a b old kept

pub front_kept : (a b : Option (List ℕ)) (bytes : List ℕ) → Keeps a b → FrontWent a b bytes
front_kept a b bytes kept = (0, kept_is_none a b bytes kept)

take_again : (n : ℕ) (xs ys : List ℕ) → take (length (take n xs)) (xs ++ ys) ≡ take n xs
take_again zero xs ys = refl
take_again (suc n) [] ys = refl
take_again (suc n) (x ∷ xs) ys = ap (λ l. x ∷ l) (take_again n xs ys)

take_past : (n : ℕ) (xs ys : List ℕ)
    → take (length (xs ++ take n ys)) (xs ++ ys) ≡ xs ++ take n ys
take_past n [] ys =
    subst (λ l. take (length (take n ys)) l ≡ take n ys) (append-nil ys) (take_again n ys [])
take_past n (x ∷ xs) ys = ap (λ l. x ∷ l) (take_past n xs ys)

pub front_of_more : (a b : Option (List ℕ)) (xs ys : List ℕ)
    → FrontWent a b xs → FrontWent a b (xs ++ ys)
front_of_more a b xs ys front = (
  length (take front.0 xs),
  subst (λ l. Appends a b l) (sym (take_again front.0 xs ys)) front.1,
)

pub front_and_kept : (a b c : Option (List ℕ)) (bytes : List ℕ)
    → FrontWent a b bytes → Keeps b c → FrontWent a c bytes
front_and_kept a b c bytes front kept = (front.0, Appends-kept a b c _ front.1 kept)

-- where nothing waits any more, all of it went out
all_went : (a b : Option (List ℕ)) (old new : List ℕ)
    → new ≡ [] → StaysWhole a b old new → Appends a b old
all_went None b old new none whole = tt
all_went (Some x) None old new none whole = absurd whole
all_went (Some x) (Some y) old new none whole =
    sym (append-nil y) ∙ ap (λ l. y ++ l) (sym none) ∙ whole

has_none : (bytes : List ℕ) → has_bytes bytes ≡ false → bytes ≡ []
has_none [] h = refl
has_none (byte ∷ bytes) h = absurd cc

took_none : (a b : Option (List ℕ)) (bytes : List ℕ) → Appends a b (take 0 bytes) → Keeps a b
took_none None b bytes went = tt
took_none (Some x) None bytes went = absurd went
took_none (Some x) (Some y) bytes went = went ∙ append-nil x

pub front_next : (a b c : Option (List ℕ)) (old new piece : List ℕ) (n : ℕ)
    → FrontWent a b old → StaysWhole a b old new → Appends b c (take n piece)
    → (n ≡ 0) ⊎ (has_bytes new ≡ false) → FrontWent a c (old ++ piece)
front_next a b c old new piece n front whole went (inl none) =
    front_of_more a c old piece (front_and_kept a b c old front
    (took_none b c piece (subst (λ k. Appends b c (take k piece)) none went)))
front_next a b c old new piece n front whole went (inr none) = (
  length (old ++ take n piece),
  subst (λ l. Appends a c l) (sym (take_past n old piece))
      (Appends-trans a b c old (take n piece)
      (all_went a b old new (has_none new none) whole) went),
)

pub grows_next : (a b c : Option (List ℕ)) (old mid new piece : List ℕ) (n : ℕ)
    → StaysWhole a b old mid → Appends b c (take n piece)
    → (n ≡ 0) ⊎ (has_bytes mid ≡ false) → new ≡ mid ++ drop n piece
    → GrowsWhole a c old new piece
grows_next a b c old mid new piece n whole went (inl none) e =
    let kept = took_none b c piece (subst (λ k. Appends b c (take k piece)) none went) in
    append_known-grown (append_known a old) c mid new piece
    (Keeps-trans (append_known a old) (append_known b mid) (append_known c mid) whole
    (append_known-kept b c mid kept))
    (e ∙ ap (λ k. mid ++ drop k piece) none)
grows_next a b c old mid new piece n whole went (inr none) e =
    subst (λ l. Appends (append_known a old) (append_known c new) l) (take-append-drop n piece)
    (append_known-passed (append_known a old) b c mid new (take n piece) (drop n piece)
    whole (has_none mid none) went e)

pub front_none : (a : Option (List ℕ)) (bytes : List ℕ) → FrontWent a a bytes
front_none a bytes = (0, Appends-nil a)

pub front_failed : (a b c : Option (List ℕ)) (old piece : List ℕ)
    → FrontWent a b old → Keeps b c → FrontWent a c (old ++ piece)
front_failed a b c old piece front kept =
    front_of_more a c old piece (front_and_kept a b c old front kept)

pub grows_alone : (a : Option (List ℕ)) (old new piece : List ℕ)
    → new ≡ old ++ piece → GrowsWhole a a old new piece
grows_alone a old new piece e =
    append_known-grown (append_known a old) a old new piece (Keeps-refl (append_known a old)) e

pub grows_then_stays : (a b : Option (List ℕ)) (old mid new piece : List ℕ)
    → mid ≡ old ++ piece → StaysWhole a b mid new → GrowsWhole a b old new piece
grows_then_stays a b old mid new piece e whole =
    Appends-kept (append_known a old) (append_known a mid) (append_known b new) piece
    (grows_alone a old mid piece e) whole

pub front_at : (a b : Option (List ℕ)) (mid all : List ℕ)
    → mid ≡ all → FrontWent a b mid → FrontWent a b all
front_at a b mid all e front = subst (λ l. FrontWent a b l) e front

pub front_at_once : (a b : Option (List ℕ)) (n : ℕ) (bytes : List ℕ)
    → Appends a b (take n bytes) → FrontWent a b bytes
front_at_once a b n bytes went = (n, went)

pub nothing_of : (a : Option (List ℕ)) (bytes : List ℕ) → Appends a a (take 0 bytes)
nothing_of a bytes = Appends-nil a

pub sent_next : {T E : Type 0} (result : Result T E) (a b c : Option (List ℕ))
    (old mid new piece rest : List ℕ) (n : ℕ)
    → StaysWhole a b old mid → Appends b c (take n piece)
    → (n ≡ 0) ⊎ (has_bytes mid ≡ false) → OnOk result (new ≡ mid ++ rest) → rest ≡ drop n piece
    → OnOk result (GrowsWhole a c old new piece)
sent_next (Ok value) a b c old mid new piece rest n whole went behind kept is =
    grows_next a b c old mid new piece n whole went behind (kept ∙ ap (λ l. mid ++ l) is)
sent_next (Err error) a b c old mid new piece rest n whole went behind kept is = tt

-- How long a peer has taken nothing.

pub is_same : (xs ys : List ℕ) → length xs ≡ length ys → eqb (length xs) (length ys) ≡ true
is_same xs ys e = eq-eqb (length xs) (length ys) e

pub less_left : (count : ℕ) (old new : List ℕ) → new ≡ drop count old → length new ≤ length old
less_left count old new e = omega (arith, ap length e, length-drop count old)

pub took_some : (count : ℕ) (old new : List ℕ) → count ≤ length old → new ≡ drop count old
    → eqb (length new) (length old) ≡ eqb count 0
took_some zero old new fits e = eq-eqb (length new) (length old) (ap length e)
took_some (suc count) old new fits e =
    ne_eqb (length new) (length old)
    (λ same. omega (arith, same, fits, ap length e, length-drop (suc count) old))
    ∙ sym (ne_eqb (suc count) 0 (λ none. omega (arith, none)))

pub since_left : (count a now : ℕ) (old new : List ℕ) → count ≤ length old → new ≡ drop count old
    → cond (eqb count 0) a now ≡ cond (eqb (length new) (length old)) a now
since_left count a now old new fits e =
    ap (λ b. cond b a now) (sym (took_some count old new fits e))

grown_alike : (b : Bool) (x y n : ℕ) → eqb x y ≡ b → eqb (x + n) (y + n) ≡ b
grown_alike true x y n e = eq-eqb (x + n) (y + n) (ap (λ m. m + n) (eqb-true x y e))
grown_alike false x y n e =
    ne_eqb (x + n) (y + n) (λ same. eqb-false x y e (omega (arith, same)))

since_sent : (old mid new rest piece : List ℕ) (n a b c now : ℕ)
    → length mid ≤ length old → b ≡ cond (eqb (length mid) (length old)) a now
    → (n ≡ 0) ⊎ (has_bytes mid ≡ false) → (has_bytes mid ≡ true → c ≡ b)
    → (has_bytes mid ≡ false → c ≡ now) → new ≡ mid ++ rest → rest ≡ drop n piece
    → c ≡ cond (has_bytes old && eqb (length new) (length old + length piece)) a now
since_sent [] [] new rest piece n a b c now less since behind kept began is part = began refl
since_sent (o ∷ os) [] new rest piece n a b c now less since behind kept began is part =
    began refl ∙ sym (ap (λ t. cond t a now) (ne_eqb (length new) (length (o ∷ os) + length piece)
    (λ same. omega (arith, same, ap length is, ap length part, length-drop n piece))))
since_sent [] (m ∷ ms) new rest piece n a b c now less since behind kept began is part =
    absurd (omega (arith, less))
since_sent (o ∷ os) (m ∷ ms) new rest piece n a b c now less since (inr none) kept began is part =
    absurd cc
since_sent (o ∷ os) (m ∷ ms) new rest piece n a b c now less since (inl none) kept began is part =
    let grown : length new ≡ length (m ∷ ms) + length rest =
    ap length is ∙ length-append (m ∷ ms) rest in
    let whole : length new ≡ length (m ∷ ms) + length piece =
    omega (arith, grown, ap length part, length-drop n piece, none) in
    kept refl ∙ since ∙ sym (ap (λ t. cond t a now)
    (ap (λ k. eqb k (length (o ∷ os) + length piece)) whole
    ∙ grown_alike _ (length (m ∷ ms)) (length (o ∷ os)) (length piece) refl))

pub since_at_once : {T E : Type 0} (result : Result T E)
    (old mid new rest piece : List ℕ) (n a b c now : ℕ)
    → length mid ≤ length old → b ≡ cond (eqb (length mid) (length old)) a now
    → (n ≡ 0) ⊎ (has_bytes mid ≡ false) → (has_bytes mid ≡ true → c ≡ b)
    → OnOk result (has_bytes mid ≡ false → c ≡ now) → OnOk result (new ≡ mid ++ rest)
    → rest ≡ drop n piece
    → OnOk result (c ≡ cond (has_bytes old && eqb (length new) (length old + length piece)) a now)
since_at_once (Ok value) old mid new rest piece n a b c now less since behind kept began is part =
    since_sent old mid new rest piece n a b c now less since behind kept began is part
since_at_once (Err error) old mid new rest piece n a b c now less since behind kept began is part =
    tt

cond_same : (b : Bool) (n : ℕ) → cond b n n ≡ n
cond_same true n = refl
cond_same false n = refl

pub since_together : (old mid new piece : List ℕ) (a b c now : ℕ)
    → mid ≡ old ++ piece → (has_bytes old ≡ true → b ≡ a) → (has_bytes old ≡ false → b ≡ now)
    → c ≡ cond (eqb (length new) (length mid)) b now
    → c ≡ cond (has_bytes old && eqb (length new) (length old + length piece)) a now
since_together [] mid new piece a b c now is kept began since =
    since ∙ ap (λ t. cond (eqb (length new) (length mid)) t now) (began refl)
    ∙ cond_same (eqb (length new) (length mid)) now
since_together (o ∷ os) mid new piece a b c now is kept began since =
    since ∙ ap (λ t. cond (eqb (length new) (length mid)) t now) (kept refl)
    ∙ ap (λ k. cond (eqb (length new) k) a now) (ap length is ∙ length-append (o ∷ os) piece)

-- a piece was kept, and nothing was written
pub since_kept : (old new piece : List ℕ) (a b now : ℕ)
    → new ≡ old ++ piece → (has_bytes old ≡ true → b ≡ a) → (has_bytes old ≡ false → b ≡ now)
    → b ≡ cond (has_bytes old && eqb (length new) (length old + length piece)) a now
since_kept old new piece a b now is kept began =
    since_together old new new piece a b b now is kept began
    (sym (ap (λ t. cond t b now) (is_same new new refl)))

-- room is wanting only where what waited and the piece are too much
pub cause_at_once : {T : Type 0} (result : Result T Fault) (old mid rest piece : List ℕ) (n : ℕ)
    → length mid ≤ length old → rest ≡ drop n piece
    → IfErr result (IsSendFault (length mid + length rest))
    → IfErr result (IsSendFault (length old + length piece))
cause_at_once (Ok value) old mid rest piece n less part over = tt
cause_at_once (Err fault.NoRoom) old mid rest piece n less part over =
    omega (arith, less, over, ap length part, length-drop n piece)
cause_at_once (Err (fault.System error)) old mid rest piece n less part over = tt
cause_at_once (Err fault.NoMemory) old mid rest piece n less part over = tt
cause_at_once (Err other) old mid rest piece n less part over = absurd over

pub ruleset of_flush =
    (whole_behind, whole_kept, front_kept, front_at_once, less_left, since_left, is_same)

pub ruleset of_together =
    (front_none, front_at, grows_alone, grows_then_stays, since_together, since_kept)
