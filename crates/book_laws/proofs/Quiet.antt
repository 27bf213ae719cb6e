-- Messages of which no side learns anything: all but requests and reports.
use Rattle.std.proofs.Common.{◌≡◌, ℕ, ◌+◌, Bool, true, false, List, [], ◌∷◌, ◌++◌, codes, refl, sym}
use Rattle.std.proofs.Common.{ap, ◌∙◌, subst, if◌then◌else◌}
use Rattle.std.specs.Prelude.{◌&&◌, ◌||◌, not, nat_lt, fold}
use Rattle.std.specs.List.{list_any}
use Rattle.std.specs.Str.{bytes_eq}
use Rattle.std.proofs.lemmas.Slice.Eq.{bytes_eq-Decides}
use Rattle.order_meaning.specs.declared.Side.{Side}
use Rattle.order_meaning.specs.declared.Side.TheVariants.{Client, Venue}
use Rattle.session_core.specs.declared.act.Act.{Act}
use Rattle.session_core.specs.declared.act.Act.TheVariants.{Say}
use Rattle.session_core.specs.declared.act.Admin.{Admin}
use Rattle.session_core.specs.declared.act.Admin.TheVariants as admin
use Rattle.session_logon.specs.Content.{said}
use Rattle.pair_entries.specs.declared.entry.Out.{Out}
use Rattle.kept_entries.specs.Numbers.{is_side}
use Rattle.event_decisions.specs.Decide.{Heard, says_of}
use Rattle.life_laws.specs.Receiver.{message_of_out}
use Rattle.book_laws.specs.Heard.{is_among, is_reject, sort_of, refusal_sort}
use Rattle.book_laws.specs.Heard.{report_types, request_types, Request, Report, Plain}
use Rattle.book_laws.specs.Learned.{Learned, types_to, with_taken, read_in, is_for, goes_below}

-- a message that is neither a request nor a report
abbrev pub IsQuiet : List ℕ → Type 0
IsQuiet msg_type = (side : Side) → is_among (types_to side) msg_type ≡ false

neither : (msg_type : List ℕ) → is_among report_types msg_type ≡ false
    → is_among request_types msg_type ≡ false → IsQuiet msg_type
neither msg_type report request Client = report
neither msg_type report request Venue = request

-- ---- what a session says

abbrev pub AreQuiet : List Out → Type 0
AreQuiet [] = Unit {0}
AreQuiet (out ∷ outs) = IsQuiet out.msg_type × AreQuiet outs

admin_quiet : (side : Side) (a : Admin) (heart n number : ℕ) (msg_type echo : List ℕ)
    → IsQuiet (said side a heart n number msg_type echo).msg_type
admin_quiet side (admin.Logon reset) heart n number msg_type echo = neither (codes "A") refl refl
admin_quiet side (admin.Logout reason) heart n number msg_type echo = neither (codes "5") refl refl
admin_quiet side (admin.Heartbeat told) heart n number msg_type echo = neither (codes "0") refl refl
admin_quiet side admin.TestRequest heart n number msg_type echo = neither (codes "1") refl refl
admin_quiet side (admin.ResendRequest from) heart n number msg_type echo =
    neither (codes "2") refl refl
admin_quiet side (admin.Reject tag reason) heart n number msg_type echo =
    neither (codes "3") refl refl

pub says_quiet : (side : Side) (heart : ℕ) (h : Heard) (n : ℕ) (acts : List Act)
    → AreQuiet (says_of side heart h n acts)
says_quiet side heart h n [] = tt
says_quiet side heart h n (Say a ∷ acts) = (
  admin_quiet side a heart n h.number h.msg_type h.echo,
  says_quiet side heart h (n + 1) acts,
)
says_quiet side heart h n (act ∷ acts) = says_quiet side heart h n acts

-- ---- a refusal

pub reject_quiet : (msg_type : List ℕ) (is_read : Bool)
    → is_reject (sort_of msg_type is_read) ≡ true → IsQuiet msg_type
reject_quiet msg_type is_read rejects = by (bytes_eq msg_type (codes "3"))
    (bytes_eq msg_type (codes "j")) refl refl rejects
  where
    other : (q r : Bool)
        → is_reject (if q then Request else (if r then Report else Plain)) ≡ true → ⊥
    other true r rejects = absurd (cc rejects)
    other false true rejects = absurd (cc rejects)
    other false false rejects = absurd (cc rejects)

    by : (a b : Bool) → bytes_eq msg_type (codes "3") ≡ a → bytes_eq msg_type (codes "j") ≡ b
        → is_reject (if a || b then refusal_sort is_read
        else (if is_among request_types msg_type then Request
        else (if is_among report_types msg_type then Report else Plain))) ≡ true
        → IsQuiet msg_type
    by true b is_a is_b rejects =
        subst IsQuiet (sym ((bytes_eq-Decides msg_type (codes "3")).0 is_a))
        (neither (codes "3") refl refl)
    by false true is_a is_b rejects =
        subst IsQuiet (sym ((bytes_eq-Decides msg_type (codes "j")).0 is_b))
        (neither (codes "j") refl refl)
    by false false is_a is_b rejects = absurd
        (other (is_among request_types msg_type) (is_among report_types msg_type) rejects)

-- ---- outs

module _ (side : Side) (n : ℕ) where
  -- what a side has learned after an out, where it is one of these messages to it with a number
  -- below n
  abbrev pub after_one : Learned side → Out → Learned side
  after_one learned out =
      if nat_lt out.number n
      then (if not out.admin
      then (if is_for side (message_of_out out)
      then with_taken side learned (read_in side (message_of_out out)) else learned)
      else learned) else learned

  abbrev pub after_out : Learned side → Out → Learned side
  after_out learned out = if is_side side out.side then after_one learned out else learned

  pub quiet_one : (learned : Learned side) (out : Out) → IsQuiet out.msg_type
      → after_out learned out ≡ learned
  quiet_one learned out quiet = by (is_side side out.side) (nat_lt out.number n) (not out.admin)
      (is_for side (message_of_out out)) (quiet side)
    where
      by : (a b c d : Bool) → d ≡ false → (if a then (if b then (if c
          then (if d then with_taken side learned (read_in side (message_of_out out)) else learned)
          else learned) else learned) else learned) ≡ learned
      by true true true true none = absurd (cc none)
      by true true true false none = refl
      by true true false d none = refl
      by true false c d none = refl
      by false b c d none = refl

  pub quiet_outs : (learned : Learned side) (outs : List Out) → AreQuiet outs
      → fold after_out learned outs ≡ learned
  quiet_outs learned [] quiet = refl
  quiet_outs learned (out ∷ outs) quiet =
      ap (λ l. fold after_out l outs) (quiet_one learned out quiet.0)
      ∙ quiet_outs learned outs quiet.1

  pub quiet_goes : (out : Out) → IsQuiet out.msg_type → goes_below side n out ≡ false
  quiet_goes out quiet =
      by (is_side side out.side) (is_among (types_to side) out.msg_type) (quiet side)
    where
      by : (a b : Bool) → b ≡ false → (a && (b && nat_lt out.number n)) ≡ false
      by true true e = absurd (cc e)
      by true false e = refl
      by false b e = refl

  pub quiet_none : (outs more : List Out) → AreQuiet outs
      → list_any (goes_below side n) (outs ++ more) ≡ list_any (goes_below side n) more
  quiet_none [] more quiet = refl
  quiet_none (out ∷ outs) more quiet =
      ap (λ b. b || list_any (goes_below side n) (outs ++ more)) (quiet_goes out quiet.0)
      ∙ quiet_none outs more quiet.1
