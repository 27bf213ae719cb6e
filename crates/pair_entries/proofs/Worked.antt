-- Worked bytes of payloads, by computation alone.
use Rattle.std.proofs.Common.{◌≡◌, [], ◌∷◌, take, length, refl, true, false, Some, None}
use Rattle.std.specs.Prelude.{codes}
use Rattle.order_meaning.specs.declared.names.Names.{Names}
use Rattle.order_meaning.specs.declared.Side.TheVariants.{Client, Venue}
use Rattle.gate_log.specs.Records.{blocks}
use Rattle.pair_entries.specs.declared.entry.Entry.{Entry}
use Rattle.pair_entries.specs.Birth.{birth_bytes}
use Rattle.pair_entries.specs.Payload.{entry_bytes, payload_on}

-- the client's message 2 was taken, and goes to the venue as number 3
abbrev entry : Entry
entry = record {
  at = 258;
  reset = false;
  took = Some (record { side = Client; number = 2; raw = codes "35=D" });
  next = (3, 1, 1, 4);
  outs = (record {
    side = Venue;
    number =
        3;
    admin = false;
    resend = true;
    msg_type = codes "D";
    content = codes "11=A";
  }) ∷ [];
}

entry_is : entry_bytes entry ≡ 0 ∷ 0 ∷ 0 ∷ 0 ∷ 0 ∷ 0 ∷ 1 ∷ 2 ∷ 1 ∷ 0
    ∷ 0 ∷ 0 ∷ 2 ∷ 0 ∷ 0 ∷ 0 ∷ 4 ∷ 51 ∷ 53 ∷ 61 ∷ 68 ∷ 0 ∷ 0 ∷ 0 ∷ 3 ∷ 0 ∷ 0 ∷ 0 ∷ 1 ∷ 0 ∷ 0 ∷ 0 ∷ 1
    ∷ 0 ∷ 0 ∷ 0 ∷ 4 ∷ 1 ∷ 2 ∷ 0 ∷ 0 ∷ 0 ∷ 3 ∷ 2 ∷ 1 ∷ 68 ∷ 0 ∷ 0 ∷ 0 ∷ 4 ∷ 49 ∷ 49 ∷ 61 ∷ 65 ∷ []
entry_is = refl

abbrev names : Names
names = record {
  client_our =
      codes "GATE";
  client_peer = codes "CLNT";
  venue_our = codes "GATE";
  venue_peer = codes "VENU";
}

-- a birth record begins with an open gate, the length 155, the mark and the first name
birth_begins : take 21 (blocks (birth_bytes names ∷ [])) ≡ 1 ∷ 0 ∷ 0 ∷ 0 ∷ 155 ∷ 0x46 ∷ 0x49
    ∷ 0x58 ∷ 0x47 ∷ 0x41 ∷ 0x54 ∷ 0x45 ∷ 0x57 ∷ 0x41 ∷ 0x59 ∷ 0x32 ∷ 4 ∷ 71 ∷ 65 ∷ 84 ∷ 69 ∷ []
birth_begins = refl

birth_has_155 : length (birth_bytes names) ≡ 155
birth_has_155 = refl

-- a new day begins
abbrev new_day : Entry
new_day = record { at = 258; reset = true; took = None; next = (1, 1, 1, 1); outs = [] }

new_day_is : payload_on 2 new_day ≡ 0 ∷ 0 ∷ 0 ∷ 2 ∷ 0 ∷ 0 ∷ 0 ∷ 0 ∷ 0 ∷ 0 ∷ 1 ∷ 2 ∷ 3
    ∷ 0 ∷ 0 ∷ 0 ∷ 1 ∷ 0 ∷ 0 ∷ 0 ∷ 1 ∷ 0 ∷ 0 ∷ 0 ∷ 1 ∷ 0 ∷ 0 ∷ 0 ∷ 1 ∷ 0 ∷ []
new_day_is = refl
