-- Worked examples: frames and texts with what is read of them, and pauses. `|` stands for SOH.
use Rattle.std.proofs.Common.{◌≡◌, ℕ, ◌==◌, List, [], ◌∷◌, map, codes, if◌then◌else◌, refl}
use Rattle.std.specs.Prelude.{Some, None}
use Rattle.field_groups.specs.HeadValues.{number_in}
use Rattle.edge_waits.specs.Fields.{value_in}
use Rattle.edge_waits.specs.Said.{logout_text, too_low}
use Rattle.edge_waits.specs.PutOff.{pause_of}
use Rattle.edge_waits.specs.Why.{why_text, closing_text}
use Rattle.edge_waits.specs.declared.lobby.Stranger.TheVariants as stranger

-- the text with SOH in place of each `|`
abbrev piped : List ℕ → List ℕ
piped text = map (λ byte. if byte == 124 then 1 else byte) text

a_logout : logout_text (piped (codes "8=FIX.4.2|9=5|35=5|34=2|58=session ended|10=000|"))
    ≡ Some (codes "session ended")
unfolding logout_text value_in
a_logout = refl

an_answer : logout_text (piped (codes "8=FIX.4.2|9=5|35=5|34=2|10=000|")) ≡ Some []
unfolding logout_text value_in
an_answer = refl

-- a report that says such a text is none
a_report : logout_text (piped (codes "8=FIX.4.2|9=5|35=8|58=MsgSeqNum too low|10=000|")) ≡ None
unfolding logout_text value_in
a_report = refl

-- the text of the session
low : too_low (codes "MsgSeqNum too low, expecting 13 but received 5")
    ≡ Some (record { expected = 13; got = 5 })
unfolding too_low number_in
low = refl

missing : too_low (codes "MsgSeqNum missing") ≡ None
unfolding too_low number_in
missing = refl

pauses : map pause_of (1 ∷ 2 ∷ 3 ∷ 4 ∷ 5 ∷ 6 ∷ 7 ∷ [])
    ≡ 30_000 ∷ 60_000 ∷ 120_000 ∷ 240_000 ∷ 480_000 ∷ 600_000 ∷ 600_000 ∷ []
pauses = refl

not_now : why_text (piped (codes "8=FIXT.1.1|9=5|35=5|34=1|58=not now|10=000|")) None 0
    ≡ codes "it sent 35=5 34=1 58=not now"
unfolding value_in
not_now = refl

before_a_logon : closing_text stranger.NoLogon (piped (codes "8=FIX.4.2|35=D|34=7|"))
    ≡ codes "no Logon came first; it sent 8=FIX.4.2 35=D 34=7"
unfolding value_in
before_a_logon = refl
